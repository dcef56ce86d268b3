use Rattle.std.proofs.lemmas.Result.{err_from_is_err_and}
use Rattle.xf_engine_world.proofs.ConstructionLaws.{begins-as, constructs, loaded-whole, planting-stops, beginning-stops}
use Rattle.xf_engine_world.proofs.construction.constructed.Goals as goal

pub planted-requires : goal.planted-requires
planted-requires c = loaded-whole c.args.loaded c.requires

pub begin-requires-clause-planted : goal.begin-requires-clause-planted
begin-requires-clause-planted c = begins-as c.args.loaded c.in_ok-work.work.now c.in_ok-work.ensures.now

pub returns-in_err-work : goal.returns-in_err-work
returns-in_err-work c =
    let p = err_from_is_err_and c.from_residual.result c.from_residual.ensures.1 in
    rw (p.1, p.2) (planting-stops c.args.loaded c.in_err-work.field-0.0 c.in_err-work.ensures)

pub returns-in-Ok : goal.returns-in-Ok
returns-in-Ok c = constructs c.args.loaded c.in_ok-work.work.now c.begin.new.work c.in_ok-work.ensures.now c.in-Ok.ensures

pub returns-in-Err : goal.returns-in-Err
returns-in-Err c = beginning-stops c.args.loaded c.in-Err.fault c.in_ok-work.work.now c.begin.new.work.now c.in_ok-work.ensures.now c.in-Err.ensures
