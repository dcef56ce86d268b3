use Rattle.std.proofs.Common.{◌≡◌, [], sym, ap, ◌∙◌}
use Rattle.std.specs.List.{list_any}
use Rattle.xf_name.specs.declared.axis.Axis.TheVariants.{Child}
use Rattle.xf_def_forest.specs.Axis.{axis_of}
use Rattle.xf_def_forest.specs.Forest.{content_at, is_element}
use Rattle.xf_def_forest.specs.Visit.{visits}
use Rattle.xf_def_forest.proofs.TextLaws.{in_forest}
use Rattle.xf_tree_paths.specs.Family.{meets}
use Rattle.xf_tree_paths.proofs.FamilyLemmas.{elements-are}
use Rattle.xf_tree_paths.proofs.family.family_of.Goals as goal

pub returns-in_default-clause-elements : goal.returns-in_default-clause-elements
returns-in_default-clause-elements c =
    let nodes = c.args.forest.now.forest.nodes in
    let none : axis_of Child c.args.node.number (visits nodes) ≡ [] = sym c.axis-walk.ensures ∙ c.in_default.ensures.steps.0 in
    sym (elements-are c.args.forest.now.forest c.args.node.number (in_forest c.are_trees.ensures) c.requires ∙ ap (list_any (λ k. meets is_element (content_at k nodes))) none)
