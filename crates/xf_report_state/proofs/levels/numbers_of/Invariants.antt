use Rattle.std.proofs.Common.{◌≡◌, ◌++◌, drop, map}
use Rattle.xf_report_state.proofs.levels.numbers_of.Given as goal

abbrev pub invariant-loop-level : goal.invariant-loop-level
invariant-loop-level l = l.numbers.items ++ map (λ x. x.number) (drop l.level-index l.levels) ≡ map (λ x. x.number) l.levels
