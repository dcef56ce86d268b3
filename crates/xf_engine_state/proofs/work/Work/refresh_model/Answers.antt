use Rattle.std.proofs.Common.{◌≡◌, false, get_or, length, refl, sym, ap, ◌∙◌, subst}
use Rattle.std.proofs.lemmas.List.{with_items_is}
use Rattle.std.proofs.lemmas.Result.{err_from_is_err_and}
use Rattle.std.specs.Prelude.{slice_set}
use Rattle.std.specs.Vec.{with_items}
use Rattle.xf_def_machine.specs.Update.{refresh_cleared}
use Rattle.xf_engine_state.specs.Does.{Twin}
use Rattle.xf_engine_state.specs.Flags.{none_due, with_refresh}
use Rattle.xf_engine_state.specs.Parts.{chosen_of, standing_of}
use Rattle.xf_engine_state.specs.Standing.{state_of}
use Rattle.xf_engine_state.proofs.Models.{flags-length, refresh-cleared}
use Rattle.xf_engine_state.proofs.RefreshLaws.{cleared-done, others-fail}
use Rattle.xf_engine_state.proofs.SoundLaws.{sound-flags}
use Rattle.xf_engine_state.proofs.WholeLaws.{KeepsDue, set-keeps}
use Rattle.xf_engine_state.proofs.work.Work.refresh_model.Goals as goal

pub returns-in_err-told-clause-done : goal.returns-in_err-told-clause-done
returns-in_err-told-clause-done c =
    let p = err_from_is_err_and c.from_residual.result c.from_residual.ensures.1 in
    rw (p.1, p.2) (others-fail (refresh_cleared c.args.model) c.in_err-told.field-0.0 c.args.self.now.now c.show_brought.new.self.now c.show_brought.new.self.now c.in_err-told.ensures.done)

pub invariant_of-self : goal.invariant_of-self
invariant_of-self c =
    let w = c.self.inside in
    let i = c.self.invariant in
    let fs = c.set_refresh.new.flags in
    let cleared : fs ≡ slice_set w.flags.items c.args.model (with_refresh false (get_or w.flags.items c.args.model none_due)) = c.set_refresh.ensures ∙ ap (λ gs. slice_set gs c.args.model (with_refresh false (get_or gs c.args.model none_due))) c.as_mut_slice.ensures.value in
    let items = with_items_is w.flags fs (ap length cleared ∙ flags-length w.flags.items c.args.model (with_refresh false (get_or w.flags.items c.args.model none_due)) ∙ sym w.flags.ok.0) in
    record {
      sound = sound-flags w.loaded w.draft w.table w.flags.items w.old_flags.items w.built w.old_built i.sound (with_items w.flags fs).items (ap length (items ∙ cleared) ∙ flags-length w.flags.items c.args.model (with_refresh false (get_or w.flags.items c.args.model none_due)))
          (subst (KeepsDue w.flags.items) (sym (items ∙ cleared)) (set-keeps w.flags.items c.args.model (with_refresh false (get_or w.flags.items c.args.model none_due)) refl));
      now = i.now;
      before = i.before;
      alone = i.alone;
      indexes = i.indexes;
      cases = i.cases;
      plain = i.plain;
      held = i.held;
      bound = i.bound;
      first = i.first;
    }

pub returns-clause-done : goal.returns-clause-done
returns-clause-done c =
    let w = c.self.inside in
    let fs = c.set_refresh.new.flags in
    let cleared : fs ≡ slice_set w.flags.items c.args.model (with_refresh false (get_or w.flags.items c.args.model none_due)) = c.set_refresh.ensures ∙ ap (λ gs. slice_set gs c.args.model (with_refresh false (get_or gs c.args.model none_due))) c.as_mut_slice.ensures.value in
    let items = with_items_is w.flags fs (ap length cleared ∙ flags-length w.flags.items c.args.model (with_refresh false (get_or w.flags.items c.args.model none_due)) ∙ sym w.flags.ok.0) in
    let here = standing_of (chosen_of w.indexes.items w.cases.items) w.loaded w.draft.now w.table w.flags.items w.shown.now w.tally in
    cleared-done (refresh_cleared c.args.model) c.in_ok-told.told c.args.self.now.now c.show_brought.new.self.now (standing_of (chosen_of w.indexes.items w.cases.items) w.loaded w.draft.now w.table (with_items w.flags fs).items w.shown.now w.tally) c.in_ok-told.ensures.done
    (ap (λ gs. state_of (standing_of (chosen_of w.indexes.items w.cases.items) w.loaded w.draft.now w.table gs w.shown.now w.tally)) (items ∙ cleared)
    ∙ ap (λ ms. record (state_of here) { models = ms }) (sym (refresh-cleared w.table w.flags.items c.args.model))
    ∙ ap (λ (t : Twin). (refresh_cleared c.args.model) (state_of t.now)) c.self.view_is)
