use Rattle.std.proofs.Common.{map}
use Rattle.xf_eval_context.specs.Indexes.{seen_index}
use Rattle.xf_engine_state.proofs.ChoosingLaws.{set-done, set-fails}
use Rattle.xf_engine_state.proofs.choosing.choose_over.Goals as goal

pub returns-in-Ok : goal.returns-in-Ok
returns-in-Ok c = λ s around.
    set-done c.args.over.now s around c.args.repeat c.args.index (map seen_index c.args.indexes.now) (map seen_index c.set_index.new.indexes) c.in-Ok.ensures

pub returns-in-Err : goal.returns-in-Err
returns-in-Err c = λ s around.
    set-fails c.args.over.now s around c.args.repeat c.args.index (map seen_index c.args.indexes.now) (map seen_index c.set_index.new.indexes) c.in-Err.fault c.told.result c.told.ensures c.in-Err.ensures
