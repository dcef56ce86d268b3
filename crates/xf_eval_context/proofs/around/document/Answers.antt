use Rattle.std.proofs.Common.{sym}
use Rattle.xf_def_forest.proofs.LiveLaws.{root-live}
use Rattle.xf_eval_context.proofs.around.document.Goals as goal

pub first_child-requires : goal.first_child-requires
first_child-requires c = root-live c.args.instance c.in-Some.root.number c.args.forest.now.forest.nodes (sym c.in-Some.ensures)
