use Rattle.std.proofs.Common.{◌≡◌, drop}
use Rattle.std.specs.List.{list_any}
use Rattle.xf_form.specs.Data.{extent_in}
use Rattle.xf_form.proofs.data.has_long.Given as goal

abbrev pub invariant-loop-instance : goal.invariant-loop-instance
invariant-loop-instance l = list_any (λ i. (extent_in l.form i).is_long) l.instances ≡ list_any (λ i. (extent_in l.form i).is_long) (drop l.instance-index l.instances)
