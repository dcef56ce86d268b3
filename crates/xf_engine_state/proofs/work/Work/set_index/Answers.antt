use Rattle.std.proofs.Common.{Ok, sym, ap, ◌∙◌}
use Rattle.std.proofs.lemmas.Result.{err_from_is_err_and}
use Rattle.xf_engine_state.specs.Standing.{state_of}
use Rattle.xf_engine_state.proofs.ChoosingLaws.{flags-done, flags-fails}
use Rattle.xf_engine_state.proofs.work.Work.set_index.Goals as goal

pub returns-in_err-choose_row-clause-done : goal.returns-in_err-choose_row-clause-done
returns-in_err-choose_row-clause-done c =
    let p = err_from_is_err_and c.from_residual.result c.from_residual.ensures.1 in
    rw (p.1, p.2) (flags-fails c.args.model c.args.repeat c.args.index (state_of c.args.self.now.now) c.choose_row.new.self.now c.choose_row.new.self.now c.in_err-choose_row.field-0.0 c.in_err-choose_row.ensures.done)

pub returns-clause-done : goal.returns-clause-done
returns-clause-done c =
    flags-done c.args.model c.args.repeat c.args.index (state_of c.args.self.now.now) (state_of c.choose_row.new.self.now) c.in_ok-choose_row.ensures.done
    ∙ ap Ok (sym c.flag_refresh.ensures.now)
