use Rattle.std.proofs.Common.{◌≡◌, ℕ, ◌&&◌, ◌||◌, true, length, Some, option_map}
use Rattle.std.specs.List.{list_all, list_any}
use Rattle.xf_def_forest.specs.Forest.{has_number}
use Rattle.xf_def_forest.specs.Visit.{visits}
use Rattle.xf_def_model.specs.declared.property.Property.TheVariants.{Relevant}
use Rattle.xf_def_model.specs.Properties.{own, own_readonly}
use Rattle.xf_binds.specs.Kept.{values_in}
use Rattle.xf_valid.specs.Nodes.{relevant_in, readonly_in}
use Rattle.xf_valid.proofs.Unset.{path}
use Rattle.xf_valid.proofs.above.climbed.Given as goal

abbrev pub invariant-loop-next : goal.invariant-loop-next
invariant-loop-next l = record {
  live : (m : ℕ) → option_map (λ i. i.number) l.next ≡ Some m → has_number m l.forest.forest.nodes ≡ true;
  relevant : (l.found.relevant && list_all (own (values_in l.table) Relevant true) (path (option_map (λ i. i.number) l.next) (visits l.forest.forest.nodes))) ≡ relevant_in l.table l.forest.forest.nodes l.fn.node.number;
  readonly : (l.found.readonly || list_any (own_readonly (values_in l.table)) (path (option_map (λ i. i.number) l.next) (visits l.forest.forest.nodes))) ≡ readonly_in l.table l.forest.forest.nodes l.fn.node.number;
}

abbrev pub decreases-loop-next : goal.decreases-loop-next
decreases-loop-next l = length (path (option_map (λ i. i.number) l.next) (visits l.forest.forest.nodes))
