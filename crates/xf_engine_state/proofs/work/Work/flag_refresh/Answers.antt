use Rattle.std.proofs.Common.{◌≡◌, true, get_or, length, refl, sym, ap, ◌∙◌, subst}
use Rattle.std.proofs.lemmas.List.{with_items_is}
use Rattle.std.specs.Prelude.{slice_set}
use Rattle.std.specs.Vec.{with_items}
use Rattle.xf_def_machine.specs.Primitives.{in_model, refresh_due}
use Rattle.xf_engine_state.specs.Does.{Twin}
use Rattle.xf_engine_state.specs.Flags.{none_due, with_refresh}
use Rattle.xf_engine_state.specs.Parts.{chosen_of, standing_of}
use Rattle.xf_engine_state.specs.Standing.{state_of}
use Rattle.xf_engine_state.proofs.Models.{flags-length, refresh-due}
use Rattle.xf_engine_state.proofs.SoundLaws.{sound-flags}
use Rattle.xf_engine_state.proofs.WholeLaws.{KeepsDue, set-keeps}
use Rattle.xf_engine_state.proofs.work.Work.flag_refresh.Goals as goal

pub invariant_of-self : goal.invariant_of-self
invariant_of-self c =
    let w = c.self.inside in
    let i = c.self.invariant in
    let fs = c.set_refresh.new.flags in
    let cleared : fs ≡ slice_set w.flags.items c.args.model (with_refresh true (get_or w.flags.items c.args.model none_due)) = c.set_refresh.ensures ∙ ap (λ gs. slice_set gs c.args.model (with_refresh true (get_or gs c.args.model none_due))) c.as_mut_slice.ensures.value in
    let items = with_items_is w.flags fs (ap length cleared ∙ flags-length w.flags.items c.args.model (with_refresh true (get_or w.flags.items c.args.model none_due)) ∙ sym w.flags.ok.0) in
    record {
      sound = sound-flags w.loaded w.draft w.table w.flags.items w.old_flags.items w.built w.old_built i.sound (with_items w.flags fs).items (ap length (items ∙ cleared) ∙ flags-length w.flags.items c.args.model (with_refresh true (get_or w.flags.items c.args.model none_due)))
          (subst (KeepsDue w.flags.items) (sym (items ∙ cleared)) (set-keeps w.flags.items c.args.model (with_refresh true (get_or w.flags.items c.args.model none_due)) refl));
      now = i.now;
      before = i.before;
      alone = i.alone;
      indexes = i.indexes;
      cases = i.cases;
      plain = i.plain;
      held = i.held;
      bound = i.bound;
      first = i.first;
    }

pub returns-clause-now : goal.returns-clause-now
returns-clause-now c =
    let w = c.self.inside in
    let fs = c.set_refresh.new.flags in
    let cleared : fs ≡ slice_set w.flags.items c.args.model (with_refresh true (get_or w.flags.items c.args.model none_due)) = c.set_refresh.ensures ∙ ap (λ gs. slice_set gs c.args.model (with_refresh true (get_or gs c.args.model none_due))) c.as_mut_slice.ensures.value in
    let items = with_items_is w.flags fs (ap length cleared ∙ flags-length w.flags.items c.args.model (with_refresh true (get_or w.flags.items c.args.model none_due)) ∙ sym w.flags.ok.0) in
    let here = standing_of (chosen_of w.indexes.items w.cases.items) w.loaded w.draft.now w.table w.flags.items w.shown.now w.tally in
    ap (λ gs. state_of (standing_of (chosen_of w.indexes.items w.cases.items) w.loaded w.draft.now w.table gs w.shown.now w.tally)) (items ∙ cleared)
    ∙ ap (λ ms. record (state_of here) { models = ms }) (sym (refresh-due w.table w.flags.items c.args.model))
    ∙ ap (λ (t : Twin). in_model refresh_due c.args.model (state_of t.now)) c.self.view_is
