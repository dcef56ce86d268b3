use Rattle.std.proofs.Common.{◌≡◌, ◌<◌, ◌+◌, ◌-◌, ◌^◌, false, [], nat_lt, length, get_or, None, Ok, Err, map, refl, sym, ap, ◌∙◌, subst}
use Rattle.std.proofs.lemmas.List.{with_items_is}
use Rattle.std.proofs.lemmas.Result.{err_from_is_err_and}
use Rattle.std.specs.Prelude.{slice_set}
use Rattle.std.specs.Vec.{with_items}
use Rattle.std.proofs.lemmas.Bool.{OnTrue_at}
use Rattle.std.specs.Bool.{OnTrue}
use Rattle.xf_def_forest.specs.Changes.{in_detached}
use Rattle.xf_def_forest.specs.Forest.{Forest}
use Rattle.xf_def_forest.specs.Shape.{shape_of}
use Rattle.xf_def_model.specs.Pertinent.{pertinent_count}
use Rattle.xf_def_model.specs.Settled.{calculates}
use Rattle.xf_def_machine.specs.Behave as machine
use Rattle.xf_binds.specs.Kept.{recalculated}
use Rattle.xf_binds.specs.Table.{all_rolled_back, kept_at, with_kept}
use Rattle.xf_binds_rebuild.specs.Web.{asks_of}
use Rattle.xf_engine_state.specs.declared.flags.Flag.TheVariants.{Recalculate}
use Rattle.xf_engine_state.specs.Built.{is_rebuild_due, scope_at}
use Rattle.xf_def_form.specs.Formed.{profile}
use Rattle.xf_engine_state.specs.Does.{Does, Twin}
use Rattle.xf_engine_state.specs.Fit.{IsRight}
use Rattle.xf_engine_state.specs.Flags.{none_due, without}
use Rattle.xf_engine_state.specs.Grown.{with_more}
use Rattle.xf_recalc_pertinent.specs.Marked.{pertinent_marks}
use Rattle.xf_recalc_pertinent.specs.OfTable.{changes_in}
use Rattle.xf_engine_state.specs.Known.{IsRemembered, Knows, MayBePassed}
use Rattle.xf_engine_state.specs.Parts.{IsSound, chosen_of, standing_of}
use Rattle.xf_engine_state.specs.Standing.{state_of}
use Rattle.xf_engine_state.specs.Steady.{AreSteady}
use Rattle.xf_engine_state.proofs.KnownLaws.{knows-of, may-be_passed}
use Rattle.xf_engine_state.proofs.WholeLaws.{KeepsDue, kept-set, set-keeps}
use Rattle.xf_engine_state.proofs.Models.{back-same, flags-length, models-length, set-length}
use Rattle.xf_engine_state.proofs.RecalculateLaws.{grown-refused, made-is, recalculate-done, recalculate-passed}
use Rattle.xf_engine_state.proofs.RightLaws.{alone-still, planted-still, right-still}
use Rattle.xf_engine_state.proofs.SoundLaws.{sound-draft, sound-flags, sound-kept, within-table}
use Rattle.xf_engine_state.proofs.SteadyLaws.{settled-steady}
use Rattle.xf_engine_state.proofs.work.Work.recalculate.Goals.{Else-is_rebuild_due, then-self, else-self}
use Rattle.xf_engine_state.proofs.work.Work.recalculate.Goals as goal

-- the rebuild of the model is not due
not-due : (c : Else-is_rebuild_due) → is_rebuild_due c.self.inside.flags.items c.args.model ≡ false
not-due c = ap (λ fs. is_rebuild_due fs c.args.model) (sym c.as_slice.ensures.value) ∙ sym c.is_rebuild_due.ensures ∙ c.if-is_rebuild_due.false

pub is_rebuild_due-requires : goal.is_rebuild_due-requires
is_rebuild_due-requires c =
    let w = c.self.inside in
    let h = within-table w.table w.flags.items c.args.model c.self.invariant.sound.many (subst (λ (t : Twin). c.args.model < length t.now.models) (sym c.self.view_is) c.requires.model) in
    subst (λ n. c.args.model < n) (c.self.invariant.sound.many ∙ ap length (sym c.as_slice.ensures.value)) h

pub settle_texts-requires-clause-built : goal.settle_texts-requires-clause-built
settle_texts-requires-clause-built c =
    c.self.invariant.sound.now.models c.args.model (subst (λ (t : Twin). c.args.model < t.built) (sym c.self.view_is) c.requires.built) (not-due (goal.at.settle_texts-requires-clause-built c).Else-is_rebuild_due)

pub settle_texts-requires-clause-passes : goal.settle_texts-requires-clause-passes
settle_texts-requires-clause-passes c =
    let w = c.self.inside in
    let i = c.self.invariant.sound in
    let k = kept_at w.table c.args.model in
    let x = scope_at w.loaded w.draft.now c.args.model in
    let built = i.now.models c.args.model (subst (λ (t : Twin). c.args.model < t.built) (sym c.self.view_is) c.requires.built) (not-due (goal.at.settle_texts-requires-clause-passes c).Else-is_rebuild_due) in
    let marked = c.in_ok-marks.ensures x (record { rules = refl; asks = subst (λ f. k.asks ≡ map (asks_of x (shape_of f.nodes)) k.entries) (sym c.forest-forest.ensures) built.asks }) in
    subst (MayBePassed w.loaded w.draft.now c.args.model k) (sym c.marks_for.ensures)
    (may-be_passed w.loaded w.draft.now w.table w.knowledge.known c.args.model c.in_ok-marks.marks c.self.invariant.now.known
    (marked ∙ ap (λ f. pertinent_marks x (shape_of f.nodes) k.entries (changes_in k)) c.forest-forest.ensures))

pub invariant_of-self : goal.invariant_of-self
invariant_of-self c =
    let w = c.self.inside in
    record {
      sound = sound-draft w.loaded w.draft w.table w.flags.items w.old_flags.items w.built w.old_built c.self.invariant.sound c.settle_texts.new.draft c.in_err-truths.ensures.whole c.in_err-truths.ensures.kept;
      now = right-still w.loaded w.draft.now c.settle_texts.new.draft.now c.in_err-truths.ensures.whole w.table w.shown.now w.knowledge None tt c.self.invariant.now;
      before = subst (λ f. IsRight w.loaded f (all_rolled_back w.table) w.shown.kept w.old_knowledge) (sym c.in_err-truths.ensures.kept) c.self.invariant.before;
      alone = subst (λ (f : Forest). in_detached f.nodes ≡ []) (sym c.in_err-truths.ensures.kept) c.self.invariant.alone;
      indexes = c.self.invariant.indexes;
      cases = c.self.invariant.cases;
      plain = c.self.invariant.plain;
      held = c.self.invariant.held;
      bound = c.self.invariant.bound;
      first = c.self.invariant.first;
    }

pub returns-in_err-truths-clause-done : goal.returns-in_err-truths-clause-done
returns-in_err-truths-clause-done c =
    let w = c.self.inside in
    let i = c.self.invariant.sound in
    let h = within-table w.table w.flags.items c.args.model i.many (subst (λ (t : Twin). c.args.model < length t.now.models) (sym c.self.view_is) c.requires.model) in
    let after = standing_of (chosen_of w.indexes.items w.cases.items) w.loaded c.settle_texts.new.draft.now w.table w.flags.items w.shown.now w.tally in
    let p = err_from_is_err_and c.from_residual-in_err-truths.result c.from_residual-in_err-truths.ensures.1 in
    rw (p.1, p.2) (subst (λ (t : Twin). Does {X = Unit {0}} (Err c.in_err-truths.field-0.0) after (machine.recalculate profile c.args.model (state_of t.now))) c.self.view_is
    (recalculate-passed (chosen_of w.indexes.items w.cases.items) w.loaded i.loaded w.draft.now c.args.model w.table w.flags.items w.shown.now w.tally i.many h c.in_err-truths.field-0.0 c.in_err-truths.ensures.err after))

pub invariant_of-self-in_err-self-inside : goal.invariant_of-self-in_err-self-inside
invariant_of-self-in_err-self-inside c =
    let w = c.self.inside in
    record {
      sound = sound-draft w.loaded w.draft w.table w.flags.items w.old_flags.items w.built w.old_built c.self.invariant.sound c.settle_texts.new.draft c.in_ok-truths.ensures.whole c.in_ok-truths.ensures.kept;
      now = right-still w.loaded w.draft.now c.settle_texts.new.draft.now c.in_ok-truths.ensures.whole w.table w.shown.now w.knowledge None tt c.self.invariant.now;
      before = subst (λ f. IsRight w.loaded f (all_rolled_back w.table) w.shown.kept w.old_knowledge) (sym c.in_ok-truths.ensures.kept) c.self.invariant.before;
      alone = subst (λ (f : Forest). in_detached f.nodes ≡ []) (sym c.in_ok-truths.ensures.kept) c.self.invariant.alone;
      indexes = c.self.invariant.indexes;
      cases = c.self.invariant.cases;
      plain = c.self.invariant.plain;
      held = c.self.invariant.held;
      bound = c.self.invariant.bound;
      first = c.self.invariant.first;
    }

pub returns-in_err-self-inside-clause-done : goal.returns-in_err-self-inside-clause-done
returns-in_err-self-inside-clause-done c =
    let w = c.self.inside in
    let i = c.self.invariant.sound in
    let h = within-table w.table w.flags.items c.args.model i.many (subst (λ (t : Twin). c.args.model < length t.now.models) (sym c.self.view_is) c.requires.model) in
    let after = standing_of (chosen_of w.indexes.items w.cases.items) w.loaded c.settle_texts.new.draft.now w.table w.flags.items w.shown.now w.tally in
    let k = kept_at w.table c.args.model in
    let x = scope_at w.loaded w.draft.now c.args.model in
    let settled = c.in_ok-truths.ensures.ok in
    let p = err_from_is_err_and c.from_residual-in_err-self-inside.result c.from_residual-in_err-self-inside.ensures.1 in
    rw (p.1, p.2) (subst (λ (t : Twin). Does {X = Unit {0}} (Err c.in_err-self-inside.field-0.0) after (machine.recalculate profile c.args.model (state_of t.now))) c.self.view_is
    (grown-refused (chosen_of w.indexes.items w.cases.items) w.loaded i.loaded w.draft.now c.args.model w.table w.flags.items w.shown.now w.tally i.many h c.in_err-self-inside.field-0.0 (c.next_number.result - c.next_number-before.result) c.pertinent_count-count.result
    (ap (λ n. n - c.next_number-before.result) (c.next_number.ensures ∙ ap (λ f. f.next) c.forest-2.ensures) ∙ ap (λ n. c.settle_texts.new.draft.now.next - n) (c.next_number-before.ensures ∙ ap (λ f. f.next) c.forest.ensures)
    ∙ made-is x k.entries w.draft.now c.settle_texts.new.draft.now c.in_ok-truths.truths settled)
    settled.within c.in_err-self-inside.ensures after))

pub recalculated-requires : goal.recalculated-requires
recalculated-requires c =
    let w = c.self.inside in
    within-table w.table w.flags.items c.args.model c.self.invariant.sound.many (subst (λ (t : Twin). c.args.model < length t.now.models) (sym c.self.view_is) c.requires.model)

pub clear-requires : goal.clear-requires
clear-requires c =
    let w = c.self.inside in
    let h = within-table w.table w.flags.items c.args.model c.self.invariant.sound.many (subst (λ (t : Twin). c.args.model < length t.now.models) (sym c.self.view_is) c.requires.model) in
    subst (λ n. c.args.model < n) (c.self.invariant.sound.many ∙ ap length (sym c.as_mut_slice.ensures.value)) h

pub invariant_of-self-2 : goal.invariant_of-self-2
invariant_of-self-2 c =
    let w = c.self.inside in
    let d = c.settle_texts.new.draft in
    let h = within-table w.table w.flags.items c.args.model c.self.invariant.sound.many (subst (λ (t : Twin). c.args.model < length t.now.models) (sym c.self.view_is) c.requires.model) in
    let gs = slice_set w.flags.items c.args.model (without Recalculate (get_or w.flags.items c.args.model none_due)) in
    let cleared : c.clear.new.flags ≡ gs = c.clear.ensures ∙ ap (λ fs. slice_set fs c.args.model (without Recalculate (get_or fs c.args.model none_due))) c.as_mut_slice.ensures.value in
    let many = flags-length w.flags.items c.args.model (without Recalculate (get_or w.flags.items c.args.model none_due)) in
    let items = with_items_is w.flags c.clear.new.flags (ap length cleared ∙ many ∙ sym w.flags.ok.0) in
    let s = sound-draft w.loaded w.draft w.table w.flags.items w.old_flags.items w.built w.old_built c.self.invariant.sound d c.in_ok-truths.ensures.whole c.in_ok-truths.ensures.kept in
    let k = recalculated c.in_ok-truths.truths (kept_at w.table c.args.model) in
    let t = sound-kept w.loaded d w.table w.flags.items w.old_flags.items w.built w.old_built s c.args.model k h (record { entries = refl; asks = refl }) refl in
    let stays = c.in_ok-truths.ensures.whole in
    record {
      sound = subst (λ x. IsSound w.loaded d x (with_items w.flags c.clear.new.flags).items w.old_flags.items w.built w.old_built) (sym c.recalculated.ensures)
          (sound-flags w.loaded d (with_kept w.table c.args.model k) w.flags.items w.old_flags.items w.built w.old_built t _ (ap length (items ∙ cleared) ∙ many)
          (subst (KeepsDue w.flags.items) (sym (items ∙ cleared)) (set-keeps w.flags.items c.args.model (without Recalculate (get_or w.flags.items c.args.model none_due)) refl)));
      now = record {
        known = subst (λ x. Knows w.loaded d.now x c.known_of-self-inside.result) (sym c.recalculated.ensures)
            (knows-of w.loaded d.now (with_kept w.table c.args.model k) c.known_of-self-inside.result c.args.model w.knowledge.is_alone c.known_of-self-inside.ensures (λ e. record {
              there = subst (λ n. c.args.model < n) (sym (set-length w.table c.args.model k)) h;
              alone = stays.alone (OnTrue_at e c.self.invariant.now.alone);
              remembered = subst (IsRemembered (scope_at w.loaded d.now c.args.model) d.now) (sym (kept-set w.table c.args.model k h)) (c.in_ok-truths.ensures.known (OnTrue_at e c.self.invariant.now.alone));
            }));
        steady = elim c.if-self.branch [
          | then-self t ↦ subst (λ b. OnTrue b (AreSteady w.loaded c.recalculated.new.self w.shown.now)) (sym t.self-is) (settled-steady w.loaded w.table w.shown.now (OnTrue_at t.if-self.true c.self.invariant.now.steady) t.keeps_properties-self-inside.result c.args.model c.in_ok-truths.truths c.recalculated.new.self c.recalculated.ensures t.keeps_properties-self-inside.ensures.alike)
          | else-self e ↦ subst (λ b. OnTrue b (AreSteady w.loaded c.recalculated.new.self w.shown.now)) (sym (e.self-is ∙ e.if-self.false)) tt
        ];
        planted = planted-still w.loaded w.draft.now d.now stays w.knowledge.is_planted c.self.invariant.now.planted;
        alone = alone-still w.loaded w.draft.now d.now stays w.knowledge.is_alone c.self.invariant.now.alone;
      };
      before = subst (λ x. IsRight w.loaded d.kept (all_rolled_back x) w.shown.kept w.old_knowledge) (sym c.recalculated.ensures)
          (subst (λ x. IsRight w.loaded d.kept x w.shown.kept w.old_knowledge) (sym (back-same w.table c.args.model k h refl))
          (subst (λ f. IsRight w.loaded f (all_rolled_back w.table) w.shown.kept w.old_knowledge) (sym c.in_ok-truths.ensures.kept) c.self.invariant.before));
      alone = subst (λ (f : Forest). in_detached f.nodes ≡ []) (sym c.in_ok-truths.ensures.kept) c.self.invariant.alone;
      indexes = c.self.invariant.indexes;
      cases = c.self.invariant.cases;
      plain = c.self.invariant.plain;
      held = c.self.invariant.held;
      bound = c.self.invariant.bound;
      first = c.self.invariant.first;
    }

pub returns-clause-done : goal.returns-clause-done
returns-clause-done c =
    let w = c.self.inside in
    let i = c.self.invariant.sound in
    let d = c.settle_texts.new.draft.now in
    let h = within-table w.table w.flags.items c.args.model i.many (subst (λ (t : Twin). c.args.model < length t.now.models) (sym c.self.view_is) c.requires.model) in
    let k = kept_at w.table c.args.model in
    let x = scope_at w.loaded w.draft.now c.args.model in
    let settled = c.in_ok-truths.ensures.ok in
    let gs = slice_set w.flags.items c.args.model (without Recalculate (get_or w.flags.items c.args.model none_due)) in
    let cleared : c.clear.new.flags ≡ gs = c.clear.ensures ∙ ap (λ fs. slice_set fs c.args.model (without Recalculate (get_or fs c.args.model none_due))) c.as_mut_slice.ensures.value in
    let many = flags-length w.flags.items c.args.model (without Recalculate (get_or w.flags.items c.args.model none_due)) in
    let items = with_items_is w.flags c.clear.new.flags (ap length cleared ∙ many ∙ sym w.flags.ok.0) in
    let built = i.now.models c.args.model (subst (λ (t : Twin). c.args.model < t.built) (sym c.self.view_is) c.requires.built) (not-due (goal.at.returns-clause-done c).Else-is_rebuild_due) in
    let marked = c.in_ok-marks.ensures x (record { rules = refl; asks = subst (λ f. k.asks ≡ map (asks_of x (shape_of f.nodes)) k.entries) (sym c.forest-forest.ensures) built.asks }) in
    let counted = c.pertinent_count-count.ensures x (shape_of c.forest-forest.result.now.forest.nodes) k.entries (changes_in k) marked in
    let made : c.next_number.result - c.next_number-before.result ≡ length (calculates k.entries) =
    ap (λ n. n - c.next_number-before.result) (c.next_number.ensures ∙ ap (λ f. f.next) c.forest-2.ensures) ∙ ap (λ n. d.next - n) (c.next_number-before.ensures ∙ ap (λ f. f.next) c.forest.ensures)
    ∙ made-is x k.entries w.draft.now d c.in_ok-truths.truths settled in
    ap (λ (t : Twin). machine.recalculate profile c.args.model (state_of t.now)) (sym c.self.view_is)
    ∙ recalculate-done (chosen_of w.indexes.items w.cases.items) w.loaded i.loaded w.draft.now c.args.model w.table w.flags.items w.shown.now w.tally i.many h d c.in_ok-truths.truths settled c.pertinent_count-count.result
    (counted ∙ ap (λ f. pertinent_count x (shape_of f.nodes) k.entries (changes_in k)) c.forest-forest.ensures)
    (ap (λ n. nat_lt (2 ^ 32) (w.tally.made + n)) (sym made) ∙ c.in_ok-self-inside.ensures.1)
    ∙ ap (λ t. Ok (state_of (standing_of (chosen_of w.indexes.items w.cases.items) w.loaded d t gs w.shown.now (with_more (length (calculates k.entries)) c.pertinent_count-count.result w.tally)))) (sym c.recalculated.ensures)
    ∙ ap (λ fs. Ok (state_of (standing_of (chosen_of w.indexes.items w.cases.items) w.loaded d c.recalculated.new.self fs w.shown.now (with_more (length (calculates k.entries)) c.pertinent_count-count.result w.tally)))) (sym (items ∙ cleared))
    ∙ ap (λ u. Ok (state_of (standing_of (chosen_of w.indexes.items w.cases.items) w.loaded d c.recalculated.new.self (with_items w.flags c.clear.new.flags).items w.shown.now u))) (ap (λ n. with_more n c.pertinent_count-count.result w.tally) (sym made) ∙ sym c.in_ok-self-inside.ensures.0)

pub returns-clause-kept : goal.returns-clause-kept
returns-clause-kept c =
    let w = c.self.inside in
    let h = within-table w.table w.flags.items c.args.model c.self.invariant.sound.many (subst (λ (t : Twin). c.args.model < length t.now.models) (sym c.self.view_is) c.requires.model) in
    let k = recalculated c.in_ok-truths.truths (kept_at w.table c.args.model) in
    let table : all_rolled_back c.recalculated.new.self ≡ all_rolled_back w.table = ap all_rolled_back c.recalculated.ensures ∙ back-same w.table c.args.model k h refl in
    ap (λ f. record { standing = standing_of (chosen_of w.old_indexes.items w.old_cases.items) w.loaded f (all_rolled_back c.recalculated.new.self) w.old_flags.items w.shown.kept w.old_tally; built = w.old_built }) c.in_ok-truths.ensures.kept
    ∙ ap (λ t. record { standing = standing_of (chosen_of w.old_indexes.items w.old_cases.items) w.loaded w.draft.kept t w.old_flags.items w.shown.kept w.old_tally; built = w.old_built }) table
    ∙ ap (λ (x : Twin). x.kept) c.self.view_is

pub returns-clause-models : goal.returns-clause-models
returns-clause-models c =
    let w = c.self.inside in
    let gs = slice_set w.flags.items c.args.model (without Recalculate (get_or w.flags.items c.args.model none_due)) in
    let cleared : c.clear.new.flags ≡ gs = c.clear.ensures ∙ ap (λ fs. slice_set fs c.args.model (without Recalculate (get_or fs c.args.model none_due))) c.as_mut_slice.ensures.value in
    let many = flags-length w.flags.items c.args.model (without Recalculate (get_or w.flags.items c.args.model none_due)) in
    let items = with_items_is w.flags c.clear.new.flags (ap length cleared ∙ many ∙ sym w.flags.ok.0) in
    let k = recalculated c.in_ok-truths.truths (kept_at w.table c.args.model) in
    let table : length c.recalculated.new.self ≡ length w.table = ap length c.recalculated.ensures ∙ set-length w.table c.args.model k in
    models-length c.recalculated.new.self _ (table ∙ c.self.invariant.sound.many ∙ sym (ap length (items ∙ cleared) ∙ many))
    ∙ ap length (items ∙ cleared) ∙ many ∙ sym (models-length w.table w.flags.items c.self.invariant.sound.many)
    ∙ ap (λ (x : Twin). length x.now.models) c.self.view_is
