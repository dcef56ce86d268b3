use Rattle.std.proofs.Common.{◌≡◌, ◌+◌, ◌^◌, [], nat_lt, length, None, Ok, Err, sym, ap, ◌∙◌, subst, inl, inr}
use Rattle.std.proofs.lemmas.List.{with_items_is}
use Rattle.std.proofs.lemmas.Result.{err_from_is_err_and}
use Rattle.std.specs.Vec.{with_items}
use Rattle.xf_def_forest.specs.declared.content.Kind.TheVariants.{Attribute, Element}
use Rattle.xf_def_forest.specs.Changes.{in_detached}
use Rattle.xf_def_forest.specs.Forest.{Forest}
use Rattle.xf_def_forest.specs.Needs.{IsSettable}
use Rattle.xf_def_forest.specs.Settle.{has_text}
use Rattle.xf_def_forest.specs.Texts.{new_texts, with_text}
use Rattle.xf_def_forest.specs.Visit.{visits}
use Rattle.xf_def_forest.specs.WellFormed.{HasTrees}
use Rattle.xf_def_forest.proofs.TextLaws.{in_forest}
use Rattle.xf_tree.proofs.ValueLemmas.{kind-live}
use Rattle.xf_def_machine.specs.Primitives.{set_text as text_set}
use Rattle.xf_binds.specs.Table.{all_rolled_back}
use Rattle.xf_undo.specs.Draft.{Draft}
use Rattle.xf_def_form.specs.Formed.{profile}
use Rattle.xf_engine_state.specs.Does.{Does, Twin}
use Rattle.xf_engine_state.specs.Fit.{IsRight}
use Rattle.xf_engine_state.specs.Grown.{with_more}
use Rattle.xf_engine_state.specs.Known.{Knows}
use Rattle.xf_engine_state.specs.Parts.{IsSound, chosen_of, standing_of}
use Rattle.xf_engine_state.specs.Setting.{due, holder_of, is_other, marked}
use Rattle.xf_engine_state.specs.Settling.{StaysWhole}
use Rattle.xf_engine_state.specs.Standing.{state_of}
use Rattle.xf_engine_state.proofs.SetKnown.{knows-text}
use Rattle.xf_engine_state.proofs.MarkedLaws.{due-length, marked-back, marked-length, sound-marked, text-whole}
use Rattle.xf_engine_state.proofs.Models.{models-length}
use Rattle.xf_engine_state.proofs.RightLaws.{alone-still, planted-still, right-still}
use Rattle.xf_engine_state.proofs.SetLaws.{grown-refused, limit-refused, set-done}
use Rattle.xf_engine_state.proofs.SoundLaws.{sound-draft}
use Rattle.xf_engine_state.proofs.SteadyLaws.{marked-steady}
use Rattle.xf_engine_state.proofs.work.Work.set_text.Goals.{After-are_trees-2, Else-not-may_set_text}
use Rattle.xf_engine_state.proofs.work.Work.set_text.Goals as goal

-- the node may be set
able : (c : Else-not-may_set_text) → IsSettable c.args.node.number c.forest-forest.result.now.forest
able c = c.may_set_text.ensures.0 c.if-not-may_set_text.false

-- over the draft as it stood
settable : (c : Else-not-may_set_text) → IsSettable c.args.node.number c.self.inside.draft.now
settable c = subst (IsSettable c.args.node.number) c.forest-forest.ensures (able c)

-- the text stands, over which all is built that was
stays : (c : After-are_trees-2) → StaysWhole c.self.inside.loaded c.self.inside.draft.now c.set_text.new.draft.now
stays c =
    let w = c.self.inside in
    let d = c.set_text.new.draft in
    let before : HasTrees w.draft.now = subst HasTrees c.forest-forest.ensures (in_forest c.are_trees.ensures) in
    let after : HasTrees d.now = subst HasTrees c.forest.ensures (in_forest c.are_trees-2.ensures) in
    text-whole w.loaded w.draft d c.args.node.number c.args.text.now before after (settable (goal.at.After-are_trees-2 c).Else-not-may_set_text) c.in_ok-made.ensures.done.0

-- and the draft was sound before
sound : (c : After-are_trees-2) → IsSound c.self.inside.loaded c.set_text.new.draft c.self.inside.table c.self.inside.flags.items c.self.inside.old_flags.items c.self.inside.built c.self.inside.old_built
sound c =
    let w = c.self.inside in
    sound-draft w.loaded w.draft w.table w.flags.items w.old_flags.items w.built w.old_built c.self.invariant.sound c.set_text.new.draft (stays c) (ap (λ (x : Draft). x.kept) c.in_ok-made.ensures.done.0)

pub holder-requires : goal.holder-requires
holder-requires c =
    let n = c.args.node.number in
    let nodes = c.forest-forest.result.now.forest.nodes in
    elim (able (goal.at.holder-requires c).Else-not-may_set_text).kind [ inl h ↦ kind-live n Attribute nodes h | inr h ↦ kind-live n Element nodes h ]

pub is_other-requires : goal.is_other-requires
is_other-requires c =
    let n = c.args.node.number in
    let nodes = c.forest-forest.result.now.forest.nodes in
    elim (able (goal.at.is_other-requires c).Else-not-may_set_text).kind [ inl h ↦ kind-live n Attribute nodes h | inr h ↦ kind-live n Element nodes h ]

pub returns-in_err-made-clause-done : goal.returns-in_err-made-clause-done
returns-in_err-made-clause-done c =
    let w = c.self.inside in
    let n = c.args.node.number in
    let told = c.in_err-made.field-0.0 in
    let after = standing_of (chosen_of w.indexes.items w.cases.items) w.loaded c.set_text.new.draft.now w.table w.flags.items w.shown.now w.tally in
    let p = err_from_is_err_and c.from_residual-in_err-made.result c.from_residual-in_err-made.ensures.1 in
    rw (p.1, p.2) (subst (λ (t : Twin). Does {X = Unit {0}} (Err told) after (text_set profile n c.args.text.now (state_of t.now))) c.self.view_is
    (limit-refused (chosen_of w.indexes.items w.cases.items) w.loaded w.draft.now w.table w.flags.items w.shown.now w.tally c.self.invariant.sound.many c.args.text.now n told c.in_err-made.ensures.done after))

pub invariant_of-self : goal.invariant_of-self
invariant_of-self c =
    let w = c.self.inside in
    record {
      sound = subst (λ d. IsSound w.loaded d w.table w.flags.items w.old_flags.items w.built w.old_built) (sym c.in_err-made.ensures.err) c.self.invariant.sound;
      now = subst (λ (d : Draft). IsRight w.loaded d.now w.table w.shown.now (record w.knowledge { known = None })) (sym c.in_err-made.ensures.err)
          (record { known = tt; steady = c.self.invariant.now.steady; planted = c.self.invariant.now.planted; alone = c.self.invariant.now.alone });
      before = subst (λ (d : Draft). IsRight w.loaded d.kept (all_rolled_back w.table) w.shown.kept w.old_knowledge) (sym c.in_err-made.ensures.err) c.self.invariant.before;
      alone = subst (λ (d : Draft). in_detached d.kept.nodes ≡ []) (sym c.in_err-made.ensures.err) c.self.invariant.alone;
      indexes = c.self.invariant.indexes;
      cases = c.self.invariant.cases;
      plain = c.self.invariant.plain;
      held = c.self.invariant.held;
      bound = c.self.invariant.bound;
      first = c.self.invariant.first;
    }

pub invariant_of-self-in_err-self-inside : goal.invariant_of-self-in_err-self-inside
invariant_of-self-in_err-self-inside c =
    let w = c.self.inside in
    let at = (goal.at.invariant_of-self-in_err-self-inside c).After-are_trees-2 in
    let kept = ap (λ (x : Draft). x.kept) c.in_ok-made.ensures.done.0 in
    record {
      sound = sound at;
      now = right-still w.loaded w.draft.now c.set_text.new.draft.now (stays at) w.table w.shown.now w.knowledge None tt c.self.invariant.now;
      before = subst (λ f. IsRight w.loaded f (all_rolled_back w.table) w.shown.kept w.old_knowledge) (sym kept) c.self.invariant.before;
      alone = subst (λ (f : Forest). in_detached f.nodes ≡ []) (sym kept) c.self.invariant.alone;
      indexes = c.self.invariant.indexes;
      cases = c.self.invariant.cases;
      plain = c.self.invariant.plain;
      held = c.self.invariant.held;
      bound = c.self.invariant.bound;
      first = c.self.invariant.first;
    }

pub returns-in_err-self-inside-clause-done : goal.returns-in_err-self-inside-clause-done
returns-in_err-self-inside-clause-done c =
    let w = c.self.inside in
    let n = c.args.node.number in
    let told = c.in_err-self-inside.field-0.0 in
    let after = standing_of (chosen_of w.indexes.items w.cases.items) w.loaded c.set_text.new.draft.now w.table w.flags.items w.shown.now w.tally in
    let set = c.in_ok-made.ensures.done in
    let p = err_from_is_err_and c.from_residual-in_err-self-inside.result c.from_residual-in_err-self-inside.ensures.1 in
    rw (p.1, p.2) (subst (λ (t : Twin). Does {X = Unit {0}} (Err told) after (text_set profile n c.args.text.now (state_of t.now))) c.self.view_is
    (grown-refused (chosen_of w.indexes.items w.cases.items) w.loaded w.draft.now w.table w.flags.items w.shown.now w.tally c.self.invariant.sound.many c.args.text.now n set.2 told c.in_ok-made.made set.1 c.in_err-self-inside.ensures after))

pub invariant_of-self-in_err-mark : goal.invariant_of-self-in_err-mark
invariant_of-self-in_err-mark c =
    let w = c.self.inside in
    let flags : c.mark.new.flags ≡ w.flags.items = c.in_err-mark.ensures.flags ∙ c.as_mut_slice.ensures.value in
    let items = with_items_is w.flags c.mark.new.flags (ap length flags ∙ sym w.flags.ok.0) in
    let at = (goal.at.invariant_of-self-in_err-mark c).After-are_trees-2 in
    let kept = ap (λ (x : Draft). x.kept) c.in_ok-made.ensures.done.0 in
    record {
      sound = subst (λ t. IsSound w.loaded c.set_text.new.draft t (with_items w.flags c.mark.new.flags).items w.old_flags.items w.built w.old_built) (sym c.in_err-mark.ensures.table)
          (subst (λ fs. IsSound w.loaded c.set_text.new.draft w.table fs w.old_flags.items w.built w.old_built) (sym (items ∙ flags)) (sound at));
      now = subst (λ t. IsRight w.loaded c.set_text.new.draft.now t w.shown.now (record w.knowledge { known = None })) (sym c.in_err-mark.ensures.table)
          (right-still w.loaded w.draft.now c.set_text.new.draft.now (stays at) w.table w.shown.now w.knowledge None tt c.self.invariant.now);
      before = subst (λ t. IsRight w.loaded c.set_text.new.draft.kept (all_rolled_back t) w.shown.kept w.old_knowledge) (sym c.in_err-mark.ensures.table)
          (subst (λ f. IsRight w.loaded f (all_rolled_back w.table) w.shown.kept w.old_knowledge) (sym kept) c.self.invariant.before);
      alone = subst (λ (f : Forest). in_detached f.nodes ≡ []) (sym kept) c.self.invariant.alone;
      indexes = c.self.invariant.indexes;
      cases = c.self.invariant.cases;
      plain = c.self.invariant.plain;
      held = c.self.invariant.held;
      bound = c.self.invariant.bound;
      first = c.self.invariant.first;
    }

pub invariant_of-self-2 : goal.invariant_of-self-2
invariant_of-self-2 c =
    let w = c.self.inside in
    let n = c.args.node.number in
    let holder = c.in_ok-holder.holder in
    let other = c.in_ok-is_other.is_other in
    let marks = c.in_ok-mark.ensures.ok in
    let flags : c.mark.new.flags ≡ due holder w.flags.items = marks.dues ∙ ap (due holder) c.as_mut_slice.ensures.value in
    let items = with_items_is w.flags c.mark.new.flags (ap length flags ∙ due-length holder w.flags.items ∙ sym w.flags.ok.0) in
    let is = c.in_ok-made.ensures.done.0 in
    let text = c.args.text.now in
    let now : c.set_text.new.draft.now ≡ with_text n text w.draft.now = ap (λ (x : Draft). x.now) is in
    let before : HasTrees w.draft.now = subst HasTrees c.forest-forest.ensures (in_forest c.are_trees.ensures) in
    let after : HasTrees c.set_text.new.draft.now = subst HasTrees c.forest.ensures (in_forest c.are_trees-2.ensures) in
    let at = (goal.at.invariant_of-self-2 c).After-are_trees-2 in
    let kept = ap (λ (x : Draft). x.kept) is in
    record {
      sound = subst (λ t. IsSound w.loaded c.set_text.new.draft t (with_items w.flags c.mark.new.flags).items w.old_flags.items w.built w.old_built) (sym marks.marks)
          (subst (λ fs. IsSound w.loaded c.set_text.new.draft (marked holder other n w.table) fs w.old_flags.items w.built w.old_built) (sym (items ∙ flags))
          (sound-marked w.loaded c.set_text.new.draft w.table w.flags.items w.old_flags.items w.built w.old_built (sound at) holder other n));
      now = subst (λ t. IsRight w.loaded c.set_text.new.draft.now t w.shown.now (record w.knowledge { known = c.known_still-known.result })) (sym marks.marks) (record {
        known = subst (λ f. Knows w.loaded f (marked holder other n w.table) c.known_still-known.result) (sym now)
            (knows-text w.loaded w.draft.now n text before (subst HasTrees now after) c.self.invariant.sound.now.hung (settable (goal.at.invariant_of-self-2 c).Else-not-may_set_text) c.in_ok-made.ensures.few
            w.table w.knowledge.known holder other c.has_text-stood.result c.known_still-known.result (c.has_text-stood.ensures ∙ ap (λ (f : Forest). has_text n text f.nodes) c.forest-forest.ensures) c.known_still-known.ensures c.self.invariant.now.known);
        steady = marked-steady w.loaded w.table w.shown.now w.knowledge.is_steady c.self.invariant.now.steady holder other n;
        planted = planted-still w.loaded w.draft.now c.set_text.new.draft.now (stays at) w.knowledge.is_planted c.self.invariant.now.planted;
        alone = alone-still w.loaded w.draft.now c.set_text.new.draft.now (stays at) w.knowledge.is_alone c.self.invariant.now.alone;
      });
      before = subst (λ t. IsRight w.loaded c.set_text.new.draft.kept (all_rolled_back t) w.shown.kept w.old_knowledge) (sym marks.marks)
          (subst (λ t. IsRight w.loaded c.set_text.new.draft.kept t w.shown.kept w.old_knowledge) (sym (marked-back holder other n w.table))
          (subst (λ f. IsRight w.loaded f (all_rolled_back w.table) w.shown.kept w.old_knowledge) (sym kept) c.self.invariant.before));
      alone = subst (λ (f : Forest). in_detached f.nodes ≡ []) (sym kept) c.self.invariant.alone;
      indexes = c.self.invariant.indexes;
      cases = c.self.invariant.cases;
      plain = c.self.invariant.plain;
      held = c.self.invariant.held;
      bound = c.self.invariant.bound;
      first = c.self.invariant.first;
    }

pub returns-clause-done : goal.returns-clause-done
returns-clause-done c =
    let w = c.self.inside in
    let n = c.args.node.number in
    let text = c.args.text.now in
    let d = c.set_text.new.draft in
    let holder = c.in_ok-holder.holder in
    let other = c.in_ok-is_other.is_other in
    let marks = c.in_ok-mark.ensures.ok in
    let set = c.in_ok-made.ensures.done in
    let flags : c.mark.new.flags ≡ due holder w.flags.items = marks.dues ∙ ap (due holder) c.as_mut_slice.ensures.value in
    let items = with_items_is w.flags c.mark.new.flags (ap length flags ∙ due-length holder w.flags.items ∙ sym w.flags.ok.0) in
    let after = with_text n text w.draft.now in
    let made = length (new_texts n text w.draft.now) in
    let held : holder ≡ holder_of w.loaded.form.tables.instances w.draft.now n =
    c.in_ok-holder.ensures ∙ ap (λ is. holder_of is c.forest-forest.result.now.forest n) c.as_slice-instances.ensures ∙ ap (λ f. holder_of w.loaded.form.tables.instances f n) c.forest-forest.ensures in
    let told : other ≡ is_other (visits w.draft.now.nodes) n text = c.in_ok-is_other.ensures ∙ ap (λ (f : Forest). is_other (visits f.nodes) n text) c.forest-forest.ensures in
    ap (λ (t : Twin). text_set profile n text (state_of t.now)) (sym c.self.view_is)
    ∙ set-done (chosen_of w.indexes.items w.cases.items) w.loaded w.draft.now w.table w.flags.items w.shown.now w.tally c.self.invariant.sound.many text n set.2 (ap (λ m. nat_lt (2 ^ 32) (w.tally.made + m)) (sym set.1) ∙ c.in_ok-self-inside.ensures.1)
    ∙ ap (λ h. Ok (state_of (standing_of (chosen_of w.indexes.items w.cases.items) w.loaded after (marked h (is_other (visits w.draft.now.nodes) n text) n w.table) (due h w.flags.items) w.shown.now (with_more made 0 w.tally)))) (sym held)
    ∙ ap (λ o. Ok (state_of (standing_of (chosen_of w.indexes.items w.cases.items) w.loaded after (marked holder o n w.table) (due holder w.flags.items) w.shown.now (with_more made 0 w.tally)))) (sym told)
    ∙ ap (λ (x : Draft). Ok (state_of (standing_of (chosen_of w.indexes.items w.cases.items) w.loaded x.now (marked holder other n w.table) (due holder w.flags.items) w.shown.now (with_more made 0 w.tally)))) (sym set.0)
    ∙ ap (λ t. Ok (state_of (standing_of (chosen_of w.indexes.items w.cases.items) w.loaded d.now t (due holder w.flags.items) w.shown.now (with_more made 0 w.tally)))) (sym marks.marks)
    ∙ ap (λ fs. Ok (state_of (standing_of (chosen_of w.indexes.items w.cases.items) w.loaded d.now c.mark.new.table fs w.shown.now (with_more made 0 w.tally)))) (sym (items ∙ flags))
    ∙ ap (λ u. Ok (state_of (standing_of (chosen_of w.indexes.items w.cases.items) w.loaded d.now c.mark.new.table (with_items w.flags c.mark.new.flags).items w.shown.now u))) (ap (λ m. with_more m 0 w.tally) (sym set.1) ∙ sym c.in_ok-self-inside.ensures.0)

pub returns-clause-kept : goal.returns-clause-kept
returns-clause-kept c =
    let w = c.self.inside in
    let n = c.args.node.number in
    let holder = c.in_ok-holder.holder in
    let other = c.in_ok-is_other.is_other in
    let table : all_rolled_back c.mark.new.table ≡ all_rolled_back w.table = ap all_rolled_back c.in_ok-mark.ensures.ok.marks ∙ marked-back holder other n w.table in
    ap (λ (x : Draft). record { standing = standing_of (chosen_of w.old_indexes.items w.old_cases.items) w.loaded x.kept (all_rolled_back c.mark.new.table) w.old_flags.items w.shown.kept w.old_tally; built = w.old_built }) c.in_ok-made.ensures.done.0
    ∙ ap (λ t. record { standing = standing_of (chosen_of w.old_indexes.items w.old_cases.items) w.loaded w.draft.kept t w.old_flags.items w.shown.kept w.old_tally; built = w.old_built }) table
    ∙ ap (λ (x : Twin). x.kept) c.self.view_is

pub returns-clause-models : goal.returns-clause-models
returns-clause-models c =
    let w = c.self.inside in
    let n = c.args.node.number in
    let holder = c.in_ok-holder.holder in
    let other = c.in_ok-is_other.is_other in
    let marks = c.in_ok-mark.ensures.ok in
    let flags : c.mark.new.flags ≡ due holder w.flags.items = marks.dues ∙ ap (due holder) c.as_mut_slice.ensures.value in
    let many = due-length holder w.flags.items in
    let items = with_items_is w.flags c.mark.new.flags (ap length flags ∙ many ∙ sym w.flags.ok.0) in
    let table : length c.mark.new.table ≡ length w.table = ap length marks.marks ∙ marked-length holder other n w.table in
    models-length c.mark.new.table (with_items w.flags c.mark.new.flags).items (table ∙ c.self.invariant.sound.many ∙ sym (ap length (items ∙ flags) ∙ many))
    ∙ ap length (items ∙ flags) ∙ many ∙ sym (models-length w.table w.flags.items c.self.invariant.sound.many)
    ∙ ap (λ (x : Twin). length x.now.models) c.self.view_is
