use Rattle.std.proofs.Common.{sym, ap, ◌∙◌}
use Rattle.std.specs.List.{list_any}
use Rattle.xf_def_machine.specs.Update as update
use Rattle.xf_def_machine.specs.Update.{has_flag}
use Rattle.xf_engine_state.specs.Does.{Twin}
use Rattle.xf_engine_state.specs.Flags.{flags_of}
use Rattle.xf_engine_state.specs.Standing.{state_of}
use Rattle.xf_engine_state.proofs.Models.{any-due}
use Rattle.xf_engine_state.proofs.work.Work.is_due.Goals as goal

pub returns : goal.returns
returns c =
    let w = c.self.inside in
    c.is_due.ensures ∙ ap (list_any (λ f. has_flag (flags_of f))) c.as_slice.ensures.value ∙ sym (any-due has_flag w.table w.flags.items c.self.invariant.sound.many)
    ∙ ap (λ (t : Twin). update.is_due (state_of t.now)) c.self.view_is
