use Rattle.std.proofs.Common.{◌++◌, ap, ◌∙◌}
use Rattle.std.specs.List.{flat_map, list_all}
use Rattle.xf_name.specs.declared.axis.Axis.TheVariants.{DescendantOrSelf}
use Rattle.xf_def_forest.specs.Forest.{has_number}
use Rattle.xf_def_forest.proofs.LiveLaws.{axis-all_live}
use Rattle.xf_submit.specs.Selecting.{with_attributes}
use Rattle.xf_submit.proofs.nodes.listed_below.Goals as goal

pub loop-other-init : goal.loop-other-init
loop-other-init c =
    let nodes = c.args.forest.now.forest.nodes in
    record {
      so_far = ap (λ l. l ++ flat_map (with_attributes nodes) c.axis-walk.result) c.new-nodes.ensures ∙ ap (flat_map (with_attributes nodes)) c.axis-walk.ensures;
      live = ap (list_all (λ n. has_number n nodes)) c.axis-walk.ensures ∙ axis-all_live DescendantOrSelf c.args.node.number nodes;
    }
