use Rattle.std.proofs.Common.{◌≡◌, false, take}
use Rattle.std.specs.List.{list_any}
use Rattle.xf_def_forest.specs.Forest.{content_at, is_element}
use Rattle.xf_tree_paths.specs.Family.{meets}
use Rattle.xf_tree_paths.proofs.family.has_element.Given as goal

abbrev pub invariant-loop-at : goal.invariant-loop-at
invariant-loop-at l = list_any (λ n. meets is_element (content_at n l.forest.forest.nodes)) (take l.at l.nodes) ≡ false
