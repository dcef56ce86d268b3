use Rattle.std.proofs.Common.{◌≡◌, suc, ◌==◌, take}
use Rattle.std.specs.Prelude.{count_by}
use Rattle.xf_def_syntax.specs.declared.form.Instance.{Instance}
use Rattle.xf_tree_paths.proofs.pair.pair_among.Given as goal

abbrev pub invariant-loop-at : goal.invariant-loop-at
invariant-loop-at l = l.number ≡ suc (count_by (λ (i : Instance). i.model == l.model) (take l.at l.instances))
