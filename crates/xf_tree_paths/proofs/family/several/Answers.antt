use Rattle.std.proofs.Common.{◌∙◌, sym, ap}
use Rattle.std.specs.List.{list_any}
use Rattle.xf_def_forest.specs.Forest.{content_at, is_element}
use Rattle.xf_tree_paths.specs.Family.{meets}
use Rattle.xf_tree_paths.proofs.FamilyLemmas.{elements-are}
use Rattle.xf_tree_paths.proofs.family.several.Goals as goal

pub returns-clause-elements : goal.returns-clause-elements
returns-clause-elements c =
    c.has_element.ensures
    ∙ ap (list_any (λ n. meets is_element (content_at n c.args.forest.now.forest.nodes))) c.requires.children
    ∙ sym (elements-are c.args.forest.now.forest c.args.node.number c.requires.trees c.requires.live)
