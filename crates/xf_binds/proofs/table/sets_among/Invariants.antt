use Rattle.std.proofs.Common.{◌≡◌, drop}
use Rattle.std.specs.List.{list_any}
use Rattle.xf_binds.specs.Held.{is_set}
use Rattle.xf_binds.proofs.table.sets_among.Given as goal

abbrev pub invariant-loop-kept : goal.invariant-loop-kept
invariant-loop-kept l = list_any (λ k. is_set l.property k.entries) l.models ≡ list_any (λ k. is_set l.property k.entries) (drop l.kept-index l.models)
