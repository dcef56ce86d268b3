use Rattle.std.proofs.Common.{map, subst}
use Rattle.xf_controls.specs.Seen.{seen_copy}
use Rattle.xf_def_machine.specs.Update as update
use Rattle.xf_engine_state.specs.Calls.{Shows}
use Rattle.xf_def_form.specs.Formed.{profile}
use Rattle.xf_engine_state.specs.Does.{Finds, Twin}
use Rattle.xf_engine_state.specs.Parts.{chosen_of}
use Rattle.xf_engine_state.specs.Standing.{state_of}
use Rattle.xf_engine_state.proofs.work.Work.made_afresh.Goals as goal

pub returns : goal.returns
returns c =
    let w = c.self.inside in
    subst (λ (t : Twin). Finds (map seen_copy) c.shown_in_rows.result (update.shown profile (state_of t.now))) c.self.view_is
    (subst (λ f. Shows (chosen_of w.indexes.items w.cases.items) w.loaded f w.table c.shown_in_rows.result) c.forest.ensures
    (subst (λ is. Shows (chosen_of is w.cases.items) w.loaded c.forest.result.now.forest w.table c.shown_in_rows.result) c.as_slice.ensures.value
    (subst (λ cs. Shows (chosen_of c.as_slice.result.now cs) w.loaded c.forest.result.now.forest w.table c.shown_in_rows.result) c.as_slice-2.ensures.value c.shown_in_rows.ensures))
    w.flags.items w.shown.now w.tally c.self.invariant.sound.many)
