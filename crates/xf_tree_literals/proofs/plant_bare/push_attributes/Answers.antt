use Rattle.std.proofs.Common.{map, subst}
use Rattle.std.proofs.lemmas.Result.{on_ok_weaker}
use Rattle.xf_def_forest.specs.Plant.{in_order}
use Rattle.xf_def_forest.specs.Planted.{bare_attribute}
use Rattle.xf_tree_literals.specs.Contents.{AllSmall}
use Rattle.xf_tree_literals.proofs.BareContents.{bare-attributes}
use Rattle.xf_tree_literals.proofs.ContentsLemmas.{part-attributes}
use Rattle.xf_tree_literals.proofs.plant_bare.push_attributes.Goals as goal

pub returns-clause-part : goal.returns-clause-part
returns-clause-part c =
    let b = c.args.prefixes.now in
    let attributes = c.args.attributes.now in
    on_ok_weaker c.push_sorted.result
    (λ small. part-attributes c.args.depth (in_order (map (bare_attribute b) attributes)) (bare-attributes b attributes) (subst AllSmall c.in_ok-sorted.ensures small))
    c.push_sorted.ensures.small
