use Rattle.std.proofs.Common.{◌≡◌, ◌<◌, length, get_or, Ok, refl, sym, ap, ◌∙◌, subst}
use Rattle.std.proofs.lemmas.List.{with_items_is}
use Rattle.std.specs.Prelude.{slice_set}
use Rattle.std.specs.Vec.{with_items}
use Rattle.std.proofs.lemmas.Bool.{OnTrue_at}
use Rattle.std.specs.Bool.{OnTrue}
use Rattle.xf_def_forest.specs.Forest.{Forest}
use Rattle.xf_funcs.specs.Called.{called}
use Rattle.xf_def_machine.specs.Behave as machine
use Rattle.xf_def_machine.specs.Surround.{bind_scope}
use Rattle.xf_binds.specs.Table.{all_rolled_back, kept_at, with_kept}
use Rattle.xf_valid.specs.Invalid.{revalidated}
use Rattle.xf_engine_state.specs.declared.flags.Flag.TheVariants.{Revalidate}
use Rattle.xf_def_form.specs.Formed.{profile}
use Rattle.xf_engine_state.specs.Does.{Twin}
use Rattle.xf_engine_state.specs.Fit.{IsRight}
use Rattle.xf_engine_state.specs.Flags.{none_due, without}
use Rattle.xf_engine_state.specs.Known.{Knows}
use Rattle.xf_engine_state.specs.Parts.{IsSound, chosen_of, standing_of}
use Rattle.xf_engine_state.specs.Standing.{state_of}
use Rattle.xf_engine_state.specs.Steady.{AreSteady}
use Rattle.xf_engine_state.proofs.MarkLaws.{revalidate-done}
use Rattle.xf_engine_state.proofs.KnownLaws.{keeps-set, knows-marks}
use Rattle.xf_engine_state.proofs.Models.{back-same, flags-length, models-length, set-length}
use Rattle.xf_engine_state.proofs.SoundLaws.{sound-flags, sound-kept, within-table}
use Rattle.xf_engine_state.proofs.SteadyLaws.{checked-steady}
use Rattle.xf_engine_state.proofs.WholeLaws.{KeepsDue, set-keeps}
use Rattle.xf_engine_state.proofs.work.Work.revalidate.Goals.{then-self, else-self}
use Rattle.xf_engine_state.proofs.work.Work.revalidate.Goals as goal

pub revalidate-requires : goal.revalidate-requires
revalidate-requires c =
    let w = c.self.inside in
    within-table w.table w.flags.items c.args.model c.self.invariant.sound.many (subst (λ (t : Twin). c.args.model < length t.now.models) (sym c.self.view_is) c.requires.model)

pub invariant_of-self : goal.invariant_of-self
invariant_of-self c =
    let w = c.self.inside in
    let i = c.self.invariant in
    let same = c.in_err-is_same.ensures.err in
    record {
      sound = subst (λ t. IsSound w.loaded w.draft t w.flags.items w.old_flags.items w.built w.old_built) (sym same) i.sound;
      now = subst (λ t. IsRight w.loaded w.draft.now t w.shown.now w.knowledge) (sym same) i.now;
      before = subst (λ t. IsRight w.loaded w.draft.kept (all_rolled_back t) w.shown.kept w.old_knowledge) (sym same) i.before;
      alone = i.alone;
      indexes = i.indexes;
      cases = i.cases;
      plain = i.plain;
      held = i.held;
      bound = i.bound;
      first = i.first;
    }

pub clear-requires : goal.clear-requires
clear-requires c =
    let w = c.self.inside in
    let h = within-table w.table w.flags.items c.args.model c.self.invariant.sound.many (subst (λ (t : Twin). c.args.model < length t.now.models) (sym c.self.view_is) c.requires.model) in
    subst (λ n. c.args.model < n) (c.self.invariant.sound.many ∙ ap length (sym c.as_mut_slice.ensures.value)) h

pub invariant_of-self-2 : goal.invariant_of-self-2
invariant_of-self-2 c =
    let w = c.self.inside in
    let h = within-table w.table w.flags.items c.args.model c.self.invariant.sound.many (subst (λ (t : Twin). c.args.model < length t.now.models) (sym c.self.view_is) c.requires.model) in
    let x = bind_scope profile (state_of (standing_of (chosen_of w.indexes.items w.cases.items) w.loaded w.draft.now w.table w.flags.items w.shown.now w.tally)) c.args.model in
    let k = revalidated w.loaded.form.tables.types x w.loaded.form.tables.instances w.draft.now.nodes (kept_at w.table c.args.model) in
    let table : c.revalidate.new.table ≡ with_kept w.table c.args.model k =
    c.in_ok-is_same.ensures.ok called x.given ∙ ap (λ (f : Forest). with_kept w.table c.args.model (revalidated w.loaded.form.tables.types x w.loaded.form.tables.instances f.nodes (kept_at w.table c.args.model))) c.forest-forest.ensures in
    let many = flags-length w.flags.items c.args.model (without Revalidate (get_or w.flags.items c.args.model none_due)) in
    let cleared : c.clear.new.flags ≡ slice_set w.flags.items c.args.model (without Revalidate (get_or w.flags.items c.args.model none_due)) =
    c.clear.ensures ∙ ap (λ fs. slice_set fs c.args.model (without Revalidate (get_or fs c.args.model none_due))) c.as_mut_slice.ensures.value in
    let items = with_items_is w.flags c.clear.new.flags (ap length cleared ∙ many ∙ sym w.flags.ok.0) in
    let s = sound-kept w.loaded w.draft w.table w.flags.items w.old_flags.items w.built w.old_built c.self.invariant.sound c.args.model k h (record { entries = refl; asks = refl }) refl in
    record {
      sound = subst (λ t. IsSound w.loaded w.draft t (with_items w.flags c.clear.new.flags).items w.old_flags.items w.built w.old_built) (sym table)
          (sound-flags w.loaded w.draft (with_kept w.table c.args.model k) w.flags.items w.old_flags.items w.built w.old_built s (with_items w.flags c.clear.new.flags).items (ap length (items ∙ cleared) ∙ many)
          (subst (KeepsDue w.flags.items) (sym (items ∙ cleared)) (set-keeps w.flags.items c.args.model (without Revalidate (get_or w.flags.items c.args.model none_due)) refl)));
      now = record {
        known = subst (λ t. Knows w.loaded w.draft.now t w.knowledge.known) (sym table)
            (knows-marks w.loaded w.draft.now w.table (with_kept w.table c.args.model k) w.knowledge.known (set-length w.table c.args.model k) (keeps-set w.table c.args.model k h (record { stood = refl; texts = refl; lists = refl })) c.self.invariant.now.known);
        steady = elim c.if-self.branch [
          | then-self t ↦ subst (λ b. OnTrue b (AreSteady w.loaded c.revalidate.new.table w.shown.now)) (sym t.self-is) (checked-steady w.loaded w.table w.shown.now (OnTrue_at t.if-self.true c.self.invariant.now.steady) c.in_ok-is_same.is_same c.args.model k.invalid c.revalidate.new.table h table c.in_ok-is_same.ensures.same)
          | else-self e ↦ subst (λ b. OnTrue b (AreSteady w.loaded c.revalidate.new.table w.shown.now)) (sym (e.self-is ∙ e.if-self.false)) tt
        ];
        planted = c.self.invariant.now.planted;
        alone = c.self.invariant.now.alone;
      };
      before = subst (λ t. IsRight w.loaded w.draft.kept (all_rolled_back t) w.shown.kept w.old_knowledge) (sym table)
          (subst (λ t. IsRight w.loaded w.draft.kept t w.shown.kept w.old_knowledge) (sym (back-same w.table c.args.model k h refl)) c.self.invariant.before);
      alone = c.self.invariant.alone;
      indexes = c.self.invariant.indexes;
      cases = c.self.invariant.cases;
      plain = c.self.invariant.plain;
      held = c.self.invariant.held;
      bound = c.self.invariant.bound;
      first = c.self.invariant.first;
    }

pub returns-clause-done : goal.returns-clause-done
returns-clause-done c =
    let w = c.self.inside in
    let h = within-table w.table w.flags.items c.args.model c.self.invariant.sound.many (subst (λ (t : Twin). c.args.model < length t.now.models) (sym c.self.view_is) c.requires.model) in
    let x = bind_scope profile (state_of (standing_of (chosen_of w.indexes.items w.cases.items) w.loaded w.draft.now w.table w.flags.items w.shown.now w.tally)) c.args.model in
    let table : c.revalidate.new.table ≡ with_kept w.table c.args.model (revalidated w.loaded.form.tables.types x w.loaded.form.tables.instances w.draft.now.nodes (kept_at w.table c.args.model)) =
    c.in_ok-is_same.ensures.ok called x.given ∙ ap (λ (f : Forest). with_kept w.table c.args.model (revalidated w.loaded.form.tables.types x w.loaded.form.tables.instances f.nodes (kept_at w.table c.args.model))) c.forest-forest.ensures in
    let many = flags-length w.flags.items c.args.model (without Revalidate (get_or w.flags.items c.args.model none_due)) in
    let cleared : c.clear.new.flags ≡ slice_set w.flags.items c.args.model (without Revalidate (get_or w.flags.items c.args.model none_due)) =
    c.clear.ensures ∙ ap (λ fs. slice_set fs c.args.model (without Revalidate (get_or fs c.args.model none_due))) c.as_mut_slice.ensures.value in
    let items = with_items_is w.flags c.clear.new.flags (ap length cleared ∙ many ∙ sym w.flags.ok.0) in
    ap (λ (t : Twin). Ok (machine.revalidate profile c.args.model (state_of t.now))) (sym c.self.view_is)
    ∙ ap Ok (revalidate-done (chosen_of w.indexes.items w.cases.items) w.loaded w.draft.now c.args.model w.table w.flags.items w.shown.now w.tally c.self.invariant.sound.many (subst (λ n. c.args.model < n) c.self.invariant.sound.many h) c.revalidate.new.table table)
    ∙ ap (λ fs. Ok (state_of (standing_of (chosen_of w.indexes.items w.cases.items) w.loaded w.draft.now c.revalidate.new.table fs w.shown.now w.tally))) (sym (items ∙ cleared))

pub returns-clause-kept : goal.returns-clause-kept
returns-clause-kept c =
    let w = c.self.inside in
    let h = within-table w.table w.flags.items c.args.model c.self.invariant.sound.many (subst (λ (t : Twin). c.args.model < length t.now.models) (sym c.self.view_is) c.requires.model) in
    let x = bind_scope profile (state_of (standing_of (chosen_of w.indexes.items w.cases.items) w.loaded w.draft.now w.table w.flags.items w.shown.now w.tally)) c.args.model in
    let k = revalidated w.loaded.form.tables.types x w.loaded.form.tables.instances c.forest-forest.result.now.forest.nodes (kept_at w.table c.args.model) in
    let table : all_rolled_back c.revalidate.new.table ≡ all_rolled_back w.table = ap all_rolled_back (c.in_ok-is_same.ensures.ok called x.given) ∙ back-same w.table c.args.model k h refl in
    ap (λ t. record { standing = standing_of (chosen_of w.old_indexes.items w.old_cases.items) w.loaded w.draft.kept t w.old_flags.items w.shown.kept w.old_tally; built = w.old_built }) table
    ∙ ap (λ (t : Twin). t.kept) c.self.view_is

pub returns-clause-models : goal.returns-clause-models
returns-clause-models c =
    let w = c.self.inside in
    let x = bind_scope profile (state_of (standing_of (chosen_of w.indexes.items w.cases.items) w.loaded w.draft.now w.table w.flags.items w.shown.now w.tally)) c.args.model in
    let k = revalidated w.loaded.form.tables.types x w.loaded.form.tables.instances c.forest-forest.result.now.forest.nodes (kept_at w.table c.args.model) in
    let many = flags-length w.flags.items c.args.model (without Revalidate (get_or w.flags.items c.args.model none_due)) in
    let cleared : c.clear.new.flags ≡ slice_set w.flags.items c.args.model (without Revalidate (get_or w.flags.items c.args.model none_due)) =
    c.clear.ensures ∙ ap (λ fs. slice_set fs c.args.model (without Revalidate (get_or fs c.args.model none_due))) c.as_mut_slice.ensures.value in
    let items = with_items_is w.flags c.clear.new.flags (ap length cleared ∙ many ∙ sym w.flags.ok.0) in
    let table : length c.revalidate.new.table ≡ length w.table = ap length (c.in_ok-is_same.ensures.ok called x.given) ∙ set-length w.table c.args.model k in
    models-length c.revalidate.new.table (with_items w.flags c.clear.new.flags).items (table ∙ c.self.invariant.sound.many ∙ sym (ap length (items ∙ cleared) ∙ many))
    ∙ ap length (items ∙ cleared) ∙ many ∙ sym (models-length w.table w.flags.items c.self.invariant.sound.many)
    ∙ ap (λ (t : Twin). length t.now.models) c.self.view_is
