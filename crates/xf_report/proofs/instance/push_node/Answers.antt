use Rattle.xf_tree_contents.specs.Seen.{seen_content}
use Rattle.xf_report.proofs.LineLaws.{content-live}
use Rattle.xf_report.proofs.instance.push_node.Goals as goal

pub push_content-requires-clause-live : goal.push_content-requires-clause-live
push_content-requires-clause-live g c = content-live c.args.node.number (seen_content c.in-Some.content) c.args.forest.now.forest.nodes c.in-Some.ensures
