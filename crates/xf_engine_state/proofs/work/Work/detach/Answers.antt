use Rattle.std.proofs.Common.{◌≡◌, ◌<◌, ◌^◌, [], length, Ok, sym, ap, ◌∙◌, subst}
use Rattle.std.proofs.lemmas.List.{with_items_is}
use Rattle.std.specs.Vec.{with_items}
use Rattle.xf_def_forest.specs.Changes.{detached as cut, in_detached}
use Rattle.xf_def_forest.specs.Forest.{Forest}
use Rattle.xf_def_forest.specs.WellFormed.{HasTrees}
use Rattle.xf_def_machine.specs.Primitives.{detach as detached}
use Rattle.xf_binds.specs.Table.{all_rolled_back}
use Rattle.xf_undo.specs.Draft.{Draft}
use Rattle.xf_engine_state.specs.Built.{IsWhole}
use Rattle.xf_engine_state.specs.Does.{Twin}
use Rattle.xf_engine_state.specs.Fit.{IsRight}
use Rattle.xf_engine_state.specs.Moving.{IsWithin, MayGo, all_due_of, listed}
use Rattle.xf_engine_state.specs.Parts.{IsSound, chosen_of, standing_of}
use Rattle.xf_engine_state.specs.Standing.{state_of}
use Rattle.xf_engine_state.proofs.ComeLaws.{right-listed, right-nothing, sound-listed, sound-marks, sound-with, whole-detached}
use Rattle.xf_engine_state.proofs.ListedLaws.{all-due-length, listed-back, not-held}
use Rattle.xf_engine_state.proofs.MovedLaws.{tree-goes}
use Rattle.xf_engine_state.proofs.work.Work.detach.Goals as goal

pub invariant_of-self : goal.invariant_of-self
invariant_of-self c =
    let w = c.self.inside in
    let flags : c.mark_list.new.flags ≡ w.flags.items = c.in_err-mark_list.ensures.flags ∙ c.as_mut_slice.ensures.value in
    let items = with_items_is w.flags c.mark_list.new.flags (ap length flags ∙ sym w.flags.ok.0) in
    record {
      sound = subst (λ t. IsSound w.loaded w.draft t (with_items w.flags c.mark_list.new.flags).items w.old_flags.items w.built w.old_built) (sym c.in_err-mark_list.ensures.table)
          (subst (λ fs. IsSound w.loaded w.draft w.table fs w.old_flags.items w.built w.old_built) (sym (items ∙ flags)) c.self.invariant.sound);
      now = right-nothing w.loaded w.draft.now c.mark_list.new.table w.shown.now c.nothing-self-inside.result c.nothing-self-inside.ensures;
      before = subst (λ t. IsRight w.loaded w.draft.kept (all_rolled_back t) w.shown.kept w.old_knowledge) (sym c.in_err-mark_list.ensures.table) c.self.invariant.before;
      alone = c.self.invariant.alone;
      indexes = c.self.invariant.indexes;
      cases = c.self.invariant.cases;
      plain = c.self.invariant.plain;
      held = c.self.invariant.held;
      bound = c.self.invariant.bound;
      first = c.self.invariant.first;
    }

pub invariant_of-self-in_err-detach : goal.invariant_of-self-in_err-detach
invariant_of-self-in_err-detach c =
    let w = c.self.inside in
    let p = c.in_ok-parent.parent.number in
    let holder = c.in_ok-parent.holder in
    let marks = c.in_ok-mark_list.ensures.ok in
    let flags : c.mark_list.new.flags ≡ all_due_of holder w.flags.items = marks.dues ∙ ap (all_due_of holder) c.as_mut_slice.ensures.value in
    let items = with_items_is w.flags c.mark_list.new.flags (ap length flags ∙ all-due-length holder w.flags.items ∙ sym w.flags.ok.0) in
    let within : IsWithin holder w.flags.items = subst (IsWithin holder) c.as_mut_slice.ensures.value marks.within in
    let same : c.detach.new.self ≡ w.draft = c.in_err-detach.ensures.err in
    record {
      sound = subst (λ d. IsSound w.loaded d c.mark_list.new.table (with_items w.flags c.mark_list.new.flags).items w.old_flags.items w.built w.old_built) (sym same)
          (sound-marks w.loaded w.draft w.table w.flags.items w.old_flags.items w.built w.old_built c.self.invariant.sound holder p c.mark_list.new.table (with_items w.flags c.mark_list.new.flags).items
          within marks.marks (items ∙ flags));
      now = right-nothing w.loaded c.detach.new.self.now c.mark_list.new.table w.shown.now c.nothing-self-inside.result c.nothing-self-inside.ensures;
      before = right-listed w.loaded c.detach.new.self.kept w.table c.mark_list.new.table w.shown.kept w.old_knowledge holder p marks.marks
          (subst (λ (d : Draft). IsRight w.loaded d.kept (all_rolled_back w.table) w.shown.kept w.old_knowledge) (sym same) c.self.invariant.before);
      alone = subst (λ (d : Draft). in_detached d.kept.nodes ≡ []) (sym same) c.self.invariant.alone;
      indexes = c.self.invariant.indexes;
      cases = c.self.invariant.cases;
      plain = c.self.invariant.plain;
      held = c.self.invariant.held;
      bound = c.self.invariant.bound;
      first = c.self.invariant.first;
    }

pub returns-in_err-detach-clause-kept : goal.returns-in_err-detach-clause-kept
returns-in_err-detach-clause-kept c =
    let w = c.self.inside in
    let holder = c.in_ok-parent.holder in
    let table : all_rolled_back c.mark_list.new.table ≡ all_rolled_back w.table = ap all_rolled_back c.in_ok-mark_list.ensures.ok.marks ∙ listed-back holder c.in_ok-parent.parent.number w.table in
    ap (λ (x : Draft). record { standing = standing_of (chosen_of w.old_indexes.items w.old_cases.items) w.loaded x.kept (all_rolled_back c.mark_list.new.table) w.old_flags.items w.shown.kept w.old_tally; built = w.old_built }) c.in_err-detach.ensures.err
    ∙ ap (λ t. record { standing = standing_of (chosen_of w.old_indexes.items w.old_cases.items) w.loaded w.draft.kept t w.old_flags.items w.shown.kept w.old_tally; built = w.old_built }) table
    ∙ ap (λ (x : Twin). x.kept) c.self.view_is

pub invariant_of-self-2 : goal.invariant_of-self-2
invariant_of-self-2 c =
    let w = c.self.inside in
    let n = c.args.node.number in
    let p = c.in_ok-parent.parent.number in
    let holder = c.in_ok-parent.holder in
    let marks = c.in_ok-mark_list.ensures.ok in
    let flags : c.mark_list.new.flags ≡ all_due_of holder w.flags.items = marks.dues ∙ ap (all_due_of holder) c.as_mut_slice.ensures.value in
    let items = with_items_is w.flags c.mark_list.new.flags (ap length flags ∙ all-due-length holder w.flags.items ∙ sym w.flags.ok.0) in
    let within : IsWithin holder w.flags.items = subst (IsWithin holder) c.as_mut_slice.ensures.value marks.within in
    let kept : c.detach.new.self.kept ≡ w.draft.kept = ap (λ (x : Draft). x.kept) c.in_ok-detach.ensures.ok in
    let now : c.detach.new.self.now ≡ cut n w.draft.now = ap (λ (x : Draft). x.now) c.in_ok-detach.ensures.ok in
    let go : MayGo w.loaded.form.tables.instances n w.draft.now p holder =
    subst (λ is. MayGo is n w.draft.now p holder) c.as_slice-instances.ensures (subst (λ f. MayGo c.as_slice-instances.result.now n f p holder) c.forest-forest.ensures c.in_ok-parent.ensures) in
    let trees : HasTrees w.draft.now = subst HasTrees c.forest-forest.ensures c.are_counted.ensures.trees in
    let few : w.draft.now.next < 2 ^ 128 = subst (λ (f : Forest). f.next < 2 ^ 128) c.forest-forest.ensures c.are_counted.ensures.few in
    let later : HasTrees (cut n w.draft.now) = subst HasTrees (c.forest.ensures ∙ now) c.are_counted-2.ensures.trees in
    let before = sound-listed w.loaded w.draft w.table w.flags.items w.old_flags.items w.built w.old_built c.self.invariant.sound holder p within in
    record {
      sound = subst (λ t. IsSound w.loaded c.detach.new.self t (with_items w.flags c.mark_list.new.flags).items w.old_flags.items w.built w.old_built) (sym marks.marks)
          (subst (λ fs. IsSound w.loaded c.detach.new.self (listed holder p w.table) fs w.old_flags.items w.built w.old_built) (sym (items ∙ flags))
          (sound-with w.loaded w.draft (listed holder p w.table) (all_due_of holder w.flags.items) w.old_flags.items w.built w.old_built before c.detach.new.self kept
          (subst (λ f. IsWhole w.loaded f (listed holder p w.table) (all_due_of holder w.flags.items) w.built) (sym now)
          (whole-detached w.loaded (listed holder p w.table) (all_due_of holder w.flags.items) w.built w.draft.now trees few before.now holder p go.held (λ model idle. not-held holder w.flags.items model within idle) n
          later go.may go.below))));
      now = right-nothing w.loaded c.detach.new.self.now c.mark_list.new.table w.shown.now c.nothing-self-inside.result c.nothing-self-inside.ensures;
      before = right-listed w.loaded c.detach.new.self.kept w.table c.mark_list.new.table w.shown.kept w.old_knowledge holder p marks.marks
          (subst (λ f. IsRight w.loaded f (all_rolled_back w.table) w.shown.kept w.old_knowledge) (sym kept) c.self.invariant.before);
      alone = subst (λ (f : Forest). in_detached f.nodes ≡ []) (sym kept) c.self.invariant.alone;
      indexes = c.self.invariant.indexes;
      cases = c.self.invariant.cases;
      plain = c.self.invariant.plain;
      held = c.self.invariant.held;
      bound = c.self.invariant.bound;
      first = c.self.invariant.first;
    }

pub returns-clause-done : goal.returns-clause-done
returns-clause-done c =
    let w = c.self.inside in
    let n = c.args.node.number in
    let p = c.in_ok-parent.parent.number in
    let holder = c.in_ok-parent.holder in
    let marks = c.in_ok-mark_list.ensures.ok in
    let flags : c.mark_list.new.flags ≡ all_due_of holder w.flags.items = marks.dues ∙ ap (all_due_of holder) c.as_mut_slice.ensures.value in
    let items = with_items_is w.flags c.mark_list.new.flags (ap length flags ∙ all-due-length holder w.flags.items ∙ sym w.flags.ok.0) in
    let within : IsWithin holder w.flags.items = subst (IsWithin holder) c.as_mut_slice.ensures.value marks.within in
    let go : MayGo w.loaded.form.tables.instances n w.draft.now p holder =
    subst (λ is. MayGo is n w.draft.now p holder) c.as_slice-instances.ensures (subst (λ f. MayGo c.as_slice-instances.result.now n f p holder) c.forest-forest.ensures c.in_ok-parent.ensures) in
    ap (λ (t : Twin). Ok (detached n (state_of t.now))) (sym c.self.view_is)
    ∙ ap Ok (tree-goes (chosen_of w.indexes.items w.cases.items) w.loaded w.draft.now w.table w.flags.items w.shown.now w.tally c.self.invariant.sound.many n p holder go.below go.held within)
    ∙ ap (λ (x : Draft). Ok (state_of (standing_of (chosen_of w.indexes.items w.cases.items) w.loaded x.now (listed holder p w.table) (all_due_of holder w.flags.items) w.shown.now w.tally))) (sym c.in_ok-detach.ensures.ok)
    ∙ ap (λ t. Ok (state_of (standing_of (chosen_of w.indexes.items w.cases.items) w.loaded c.detach.new.self.now t (all_due_of holder w.flags.items) w.shown.now w.tally))) (sym marks.marks)
    ∙ ap (λ fs. Ok (state_of (standing_of (chosen_of w.indexes.items w.cases.items) w.loaded c.detach.new.self.now c.mark_list.new.table fs w.shown.now w.tally))) (sym (items ∙ flags))

pub returns-clause-kept : goal.returns-clause-kept
returns-clause-kept c =
    let w = c.self.inside in
    let holder = c.in_ok-parent.holder in
    let table : all_rolled_back c.mark_list.new.table ≡ all_rolled_back w.table = ap all_rolled_back c.in_ok-mark_list.ensures.ok.marks ∙ listed-back holder c.in_ok-parent.parent.number w.table in
    ap (λ (x : Draft). record { standing = standing_of (chosen_of w.old_indexes.items w.old_cases.items) w.loaded x.kept (all_rolled_back c.mark_list.new.table) w.old_flags.items w.shown.kept w.old_tally; built = w.old_built }) c.in_ok-detach.ensures.ok
    ∙ ap (λ t. record { standing = standing_of (chosen_of w.old_indexes.items w.old_cases.items) w.loaded w.draft.kept t w.old_flags.items w.shown.kept w.old_tally; built = w.old_built }) table
    ∙ ap (λ (x : Twin). x.kept) c.self.view_is
