use Rattle.std.proofs.Common.{◌++◌, ap, ◌∙◌}
use Rattle.std.specs.List.{flat_map, list_all}
use Rattle.xf_name.specs.declared.axis.Axis.TheVariants.{DescendantOrSelf}
use Rattle.xf_def_forest.specs.Forest.{has_number}
use Rattle.xf_def_forest.proofs.LiveLaws.{axis-all_live}
use Rattle.xf_report.specs.Lines.{with_attributes}
use Rattle.xf_report.proofs.nodes.nodes_under.Goals as goal

pub loop-node-init : goal.loop-node-init
loop-node-init c =
    let nodes = c.args.forest.now.forest.nodes in
    record {
      so_far = ap (λ l. l ++ flat_map (with_attributes nodes) c.axis-walk.result) c.new-nodes.ensures ∙ ap (flat_map (with_attributes nodes)) c.axis-walk.ensures;
      live = ap (list_all (λ n. has_number n nodes)) c.axis-walk.ensures ∙ axis-all_live DescendantOrSelf c.args.root.number nodes;
    }
