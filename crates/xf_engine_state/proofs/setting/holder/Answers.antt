use Rattle.std.proofs.Common.{sym}
use Rattle.xf_def_forest.specs.Order.{instance_of}
use Rattle.xf_def_forest.specs.Visit.{top_of, visits}
use Rattle.xf_engine_state.proofs.TextSetLaws.{holder-none}
use Rattle.xf_engine_state.proofs.setting.holder.Goals as goal

pub returns-in-None : goal.returns-in-None
returns-in-None c =
    let forest = c.args.forest.now.forest in
    sym (holder-none c.args.instances.now (instance_of (top_of c.args.node.number (visits forest.nodes)) forest.nodes) c.in-None.ensures)
