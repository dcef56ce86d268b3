use Rattle.std.proofs.Common.{◌≡◌, map, drop}
use Rattle.std.specs.List.{list_any}
use Rattle.xf_form.specs.Data.{extent_of}
use Rattle.xf_form.proofs.data.+long.Given as goal

abbrev pub invariant-has_long_child-loop-child : goal.invariant-has_long_child-loop-child
invariant-has_long_child-loop-child l = list_any (λ c. c.is_long) (map extent_of l.children) ≡ list_any (λ c. c.is_long) (map extent_of (drop l.child-index l.children))
