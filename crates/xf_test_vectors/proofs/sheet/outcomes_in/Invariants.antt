use Rattle.std.proofs.Common.{◌≡◌, ◌++◌, ◌+◌, drop, map}
use Rattle.xf_test_vectors.specs.Sheet.{case_numbers}
use Rattle.xf_test_vectors.proofs.sheet.outcomes_in.Given as goal

abbrev pub invariant-loop-i : goal.invariant-loop-i
invariant-loop-i l =
    map (λ o. o.line) l.outcomes.items ++ case_numbers (l.i + 1) (map (λ line. line.now) (drop l.i l.lines))
    ≡ case_numbers 1 (map (λ line. line.now) l.lines)
