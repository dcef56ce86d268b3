use Rattle.std.proofs.Common.{map}
use Rattle.std.proofs.lemmas.Result.{err_from_is_err_and}
use Rattle.xf_controls.specs.Seen.{seen_copy}
use Rattle.xf_engine_state.proofs.RefreshLaws.{show-stops, shows}
use Rattle.xf_engine_state.proofs.work.Work.show.Goals as goal

pub returns-in_err-list-clause-done : goal.returns-in_err-list-clause-done
returns-in_err-list-clause-done c =
    let p = err_from_is_err_and c.from_residual.result c.from_residual.ensures.1 in
    rw (p.1, p.2) (show-stops c.in_err-list.field-0.0 c.args.self.now.now c.args.self.now.now c.in_err-list.ensures)

pub returns-clause-done : goal.returns-clause-done
returns-clause-done c = shows c.args.self.now.now c.take_controls.new.self.now (map seen_copy c.in_ok-list.list) c.in_ok-list.ensures c.take_controls.ensures.now
