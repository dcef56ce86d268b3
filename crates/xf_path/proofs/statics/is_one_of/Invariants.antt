use Rattle.std.proofs.Common.{◌≡◌, drop}
use Rattle.std.specs.List.{list_any}
use Rattle.xf_path.specs.StaticParts.{is_called}
use Rattle.xf_path.proofs.statics.is_one_of.Given as goal

abbrev pub invariant-loop-name : goal.invariant-loop-name
invariant-loop-name l = list_any (λ n. is_called l.code n.now) (drop l.name-index l.names) ≡ list_any (λ n. is_called l.code n.now) l.names
