use Rattle.std.proofs.Common.{◌≡◌, length, sym, ap, ◌∙◌}
use Rattle.std.proofs.lemmas.List.{with_items_is}
use Rattle.std.specs.Prelude.{slice_set}
use Rattle.xf_def_machine.specs.Primitives.{set_case}
use Rattle.xf_engine_state.specs.Does.{Twin}
use Rattle.xf_engine_state.specs.Parts.{chosen_of, standing_of}
use Rattle.xf_engine_state.specs.Standing.{state_of}
use Rattle.xf_engine_state.proofs.work.Work.set_case.Goals as goal

pub invariant_of-self : goal.invariant_of-self
invariant_of-self c =
    let w = c.self.inside in
    let i = c.self.invariant in
    let fs = c.select.new.cases in
    let many : length fs ≡ w.cases.len = c.select.auto.cases ∙ c.as_mut_slice.ensures.len in
    record {
      sound = i.sound;
      now = i.now;
      before = i.before;
      alone = i.alone;
      indexes = i.indexes;
      cases = i.cases ∙ sym w.cases.ok.0 ∙ sym many ∙ sym (ap length (with_items_is w.cases fs many));
      plain = i.plain;
      held = i.held;
      bound = i.bound;
      first = i.first;
    }

pub returns-clause-done : goal.returns-clause-done
returns-clause-done c =
    let w = c.self.inside in
    let fs = c.select.new.cases in
    let many : length fs ≡ w.cases.len = c.select.auto.cases ∙ c.as_mut_slice.ensures.len in
    let changed : fs ≡ slice_set w.cases.items c.args.switch c.args.place = c.select.ensures ∙ ap (λ xs. slice_set xs c.args.switch c.args.place) c.as_mut_slice.ensures.value in
    ap (λ xs. state_of (standing_of (chosen_of w.indexes.items xs) w.loaded w.draft.now w.table w.flags.items w.shown.now w.tally)) (with_items_is w.cases fs many ∙ changed)
    ∙ ap (λ (t : Twin). set_case c.args.switch c.args.place (state_of t.now)) c.self.view_is
