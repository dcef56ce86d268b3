use Rattle.std.proofs.Common.{subst}
use Rattle.std.proofs.lemmas.Result.{on_ok_weaker}
use Rattle.std.specs.List.{filter_map}
use Rattle.xf_def_forest.specs.Plant.{attribute_in, in_order}
use Rattle.xf_tree_literals.specs.Contents.{AllSmall}
use Rattle.xf_tree_literals.proofs.WrittenLemmas.{all-attributes}
use Rattle.xf_tree_literals.proofs.ContentsLemmas.{part-attributes}
use Rattle.xf_tree_literals.proofs.plant.push_attributes.Goals as goal

pub returns-clause-part : goal.returns-clause-part
returns-clause-part c =
    let b = c.args.prefixes.now in
    let ps = c.args.attributes.now in
    on_ok_weaker c.push_sorted.result (λ small. part-attributes c.args.depth (in_order (filter_map (attribute_in b) ps)) (all-attributes b ps) (subst AllSmall c.in_ok-sorted.ensures small)) c.push_sorted.ensures.small
