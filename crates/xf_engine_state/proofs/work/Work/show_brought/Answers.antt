use Rattle.std.proofs.Common.{Err, sym, ap, ◌∙◌, subst}
use Rattle.xf_def_machine.specs.Update as update
use Rattle.xf_def_form.specs.Formed.{profile}
use Rattle.xf_engine_state.specs.Does.{Does}
use Rattle.xf_engine_state.specs.Standing.{state_of}
use Rattle.xf_engine_state.proofs.RefreshLaws.{brought-shows, reindex-fails}
use Rattle.xf_engine_state.proofs.work.Work.show_brought.Goals as goal

pub returns-in-Ok-clause-done : goal.returns-in-Ok-clause-done
returns-in-Ok-clause-done c =
    brought-shows c.show_again.result c.args.self.now.now c.reindex.new.self.now c.show_again.new.self.now
    (ap (λ ns. update.reindex profile ns (state_of c.args.self.now.now)) (sym c.new-added.ensures) ∙ c.in-Ok.ensures.done) c.show_again.ensures.done

pub returns-clause-done : goal.returns-clause-done
returns-clause-done c =
    reindex-fails c.in-Err.fault c.args.self.now.now c.reindex.new.self.now c.reindex.new.self.now
    (subst (λ ns. Does {X = Unit {0}} (Err c.in-Err.fault) c.reindex.new.self.now (update.reindex profile ns (state_of c.args.self.now.now))) c.new-added.ensures c.in-Err.ensures.done)
