use Rattle.std.proofs.lemmas.Result.{err_from_is_err_and}
use Rattle.xf_engine_world.proofs.ConstructionLaws.{first-kept, same-fault, shown-as}
use Rattle.xf_engine_world.proofs.construction.begin.Goals as goal

pub keep_first_data-requires : goal.keep_first_data-requires
keep_first_data-requires c = shown-as c.args.work.now.now c.build_and_show.new.work.now c.requires.planted c.in_ok-build_and_show.ensures

pub returns-in_err-build_and_show : goal.returns-in_err-build_and_show
returns-in_err-build_and_show c =
    let p = err_from_is_err_and c.from_residual.result c.from_residual.ensures.1 in
    rw (p.1, p.2) (same-fault c.in_err-build_and_show.field-0.0 c.build_and_show.new.work.now c.build_and_show.new.work.now _ c.in_err-build_and_show.ensures)

pub returns : goal.returns
returns c =
    first-kept c.keep_first_data.result c.build_and_show.new.work.now c.keep_first_data.new.self.now _ c.in_ok-build_and_show.ensures
    c.keep_first_data.ensures.now c.keep_first_data.ensures.fault
