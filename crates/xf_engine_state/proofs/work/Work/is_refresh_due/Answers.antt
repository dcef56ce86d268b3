use Rattle.std.proofs.Common.{sym, ap, ◌∙◌}
use Rattle.std.specs.List.{list_any}
use Rattle.xf_def_machine.specs.State as machine
use Rattle.xf_def_machine.specs.Update as update
use Rattle.xf_engine_state.specs.declared.flags.Flags.{Flags}
use Rattle.xf_engine_state.specs.Does.{Twin}
use Rattle.xf_engine_state.specs.Standing.{state_of}
use Rattle.xf_engine_state.proofs.Models.{any-due}
use Rattle.xf_engine_state.proofs.work.Work.is_refresh_due.Goals as goal

pub returns : goal.returns
returns c =
    let w = c.self.inside in
    c.is_refresh_due.ensures ∙ ap (list_any (λ (f : Flags). f.refresh)) c.as_slice.ensures.value ∙ sym (any-due (λ (f : machine.Flags). f.refresh) w.table w.flags.items c.self.invariant.sound.many)
    ∙ ap (λ (t : Twin). update.is_refresh_due (state_of t.now)) c.self.view_is
