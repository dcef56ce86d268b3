use Rattle.std.proofs.Common.{◌≡◌, ◌++◌}
use Rattle.std.specs.Option.{option_map}
use Rattle.xf_journal.specs.Entry.{these_answers}
use Rattle.xf_journal.proofs.answers.these_answers.Given as goal

abbrev pub invariant-loop-left : goal.invariant-loop-left
invariant-loop-left l = option_map (λ more. l.answers.items ++ more) (these_answers l.left l.rest) ≡ these_answers l.count l.bytes

abbrev pub decreases-loop-left : goal.decreases-loop-left
decreases-loop-left l = l.left
