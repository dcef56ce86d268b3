use Rattle.std.proofs.Common.{Ok, map}
use Rattle.xf_eval_context.specs.Indexes.{seen_index}
use Rattle.xf_engine_state.proofs.ChoosingLaws.{reindexed, up-fails}
use Rattle.xf_engine_state.proofs.choosing.bring_over.Goals as goal

pub returns-in-Ok : goal.returns-in-Ok
returns-in-Ok c = λ s around.
    reindexed c.args.over.now s around c.args.added.now (map seen_index c.args.indexes.now) (Ok (map seen_index c.bring_up.new.indexes)) c.in-Ok.ensures

pub returns-in-Err : goal.returns-in-Err
returns-in-Err c = λ s around.
    up-fails c.args.over.now s around c.args.added.now (map seen_index c.args.indexes.now) (map seen_index c.bring_up.new.indexes) c.in-Err.fault c.stopped.result c.stopped.ensures c.in-Err.ensures
