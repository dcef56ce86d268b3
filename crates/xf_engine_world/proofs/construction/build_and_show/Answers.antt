use Rattle.std.proofs.lemmas.Result.{err_from_is_err_and}
use Rattle.xf_engine_world.proofs.ConstructionLaws.{begins, build-stops, start-stops}
use Rattle.xf_engine_world.proofs.construction.build_and_show.Goals as goal

pub returns-in_err-build : goal.returns-in_err-build
returns-in_err-build c =
    let p = err_from_is_err_and c.from_residual.result c.from_residual.ensures.1 in
    rw (p.1, p.2) (build-stops c.in_err-build.field-0.0 c.args.work.now.now c.build.new.work.now c.build.new.work.now c.in_err-build.ensures)

pub returns-in_err-start_rows : goal.returns-in_err-start_rows
returns-in_err-start_rows c =
    let p = err_from_is_err_and c.from_residual-in_err-start_rows.result c.from_residual-in_err-start_rows.ensures.1 in
    rw (p.1, p.2)
    (start-stops c.in_err-start_rows.field-0.0 c.args.work.now.now c.build.new.work.now c.start_rows.new.self.now c.start_rows.new.self.now c.in_ok-build.ensures
    c.in_err-start_rows.ensures.done)

pub returns : goal.returns
returns c =
    begins c.show.result c.args.work.now.now c.build.new.work.now c.start_rows.new.self.now c.show.new.self.now c.in_ok-build.ensures c.in_ok-start_rows.ensures.done
    c.show.ensures.done
