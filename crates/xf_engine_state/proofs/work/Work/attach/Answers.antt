use Rattle.std.proofs.Common.{◌≡◌, ◌<◌, ◌^◌, [], length, Ok, Err, sym, ap, ◌∙◌, subst}
use Rattle.std.proofs.lemmas.List.{with_items_is}
use Rattle.std.proofs.lemmas.Result.{err_from_is_err_and}
use Rattle.std.specs.Vec.{with_items}
use Rattle.xf_def_forest.specs.Changes.{in_detached}
use Rattle.xf_def_forest.specs.Forest.{Forest}
use Rattle.xf_def_forest.specs.WellFormed.{HasTrees}
use Rattle.xf_def_machine.specs.Primitives.{attach as attached}
use Rattle.xf_binds.specs.Table.{all_rolled_back}
use Rattle.xf_undo.specs.Draft.{Draft}
use Rattle.xf_def_form.specs.Formed.{profile}
use Rattle.xf_engine_state.specs.Does.{Does, Twin}
use Rattle.xf_engine_state.specs.Fit.{IsRight}
use Rattle.xf_engine_state.specs.Grown.{with_more}
use Rattle.xf_engine_state.specs.Moving.{IsWithin, MayCome, all_due_of, listed}
use Rattle.xf_engine_state.specs.Parts.{IsSound, chosen_of, standing_of}
use Rattle.xf_engine_state.specs.Standing.{state_of}
use Rattle.xf_engine_state.proofs.ComeLaws.{right-listed, right-nothing, sound-listed, sound-marks, sound-with, whole-attached}
use Rattle.xf_engine_state.proofs.ListedLaws.{all-due-length, listed-back, not-held}
use Rattle.xf_engine_state.proofs.MovedLaws.{count-refused, place-refused, placed-done}
use Rattle.xf_engine_state.proofs.work.Work.attach.Goals as goal

pub returns-in_err-tally-clause-done : goal.returns-in_err-tally-clause-done
returns-in_err-tally-clause-done c =
    let w = c.self.inside in
    let n = c.args.node.number in
    let p = c.args.parent.number in
    let told = c.in_err-tally.field-0.0 in
    let e = err_from_is_err_and c.from_residual-in_err-tally.result c.from_residual-in_err-tally.ensures.1 in
    rw (e.1, e.2) (subst (λ (t : Twin). Does {X = Unit {0}} (Err told) t.now (attached profile n p c.args.place (state_of t.now))) c.self.view_is
    (count-refused (chosen_of w.indexes.items w.cases.items) w.loaded w.draft.now w.table w.flags.items w.shown.now w.tally c.self.invariant.sound.many n p c.args.place told c.in_err-tally.ensures
    (standing_of (chosen_of w.indexes.items w.cases.items) w.loaded w.draft.now w.table w.flags.items w.shown.now w.tally)))

pub invariant_of-self : goal.invariant_of-self
invariant_of-self c =
    let w = c.self.inside in
    let flags : c.mark_list.new.flags ≡ w.flags.items = c.in_err-mark_list.ensures.flags ∙ c.as_mut_slice.ensures.value in
    let items = with_items_is w.flags c.mark_list.new.flags (ap length flags ∙ sym w.flags.ok.0) in
    record {
      sound = subst (λ t. IsSound w.loaded w.draft t (with_items w.flags c.mark_list.new.flags).items w.old_flags.items w.built w.old_built) (sym c.in_err-mark_list.ensures.table)
          (subst (λ fs. IsSound w.loaded w.draft w.table fs w.old_flags.items w.built w.old_built) (sym (items ∙ flags)) c.self.invariant.sound);
      now = right-nothing w.loaded w.draft.now c.mark_list.new.table w.shown.now c.nothing-self-inside.result c.nothing-self-inside.ensures;
      before = subst (λ t. IsRight w.loaded w.draft.kept (all_rolled_back t) w.shown.kept w.old_knowledge) (sym c.in_err-mark_list.ensures.table) c.self.invariant.before;
      alone = c.self.invariant.alone;
      indexes = c.self.invariant.indexes;
      cases = c.self.invariant.cases;
      plain = c.self.invariant.plain;
      held = c.self.invariant.held;
      bound = c.self.invariant.bound;
      first = c.self.invariant.first;
    }

pub invariant_of-self-in_err-attach_in : goal.invariant_of-self-in_err-attach_in
invariant_of-self-in_err-attach_in c =
    let w = c.self.inside in
    let p = c.args.parent.number in
    let holder = c.in_ok-holder.holder in
    let marks = c.in_ok-mark_list.ensures.ok in
    let flags : c.mark_list.new.flags ≡ all_due_of holder w.flags.items = marks.dues ∙ ap (all_due_of holder) c.as_mut_slice.ensures.value in
    let items = with_items_is w.flags c.mark_list.new.flags (ap length flags ∙ all-due-length holder w.flags.items ∙ sym w.flags.ok.0) in
    let within : IsWithin holder w.flags.items = subst (IsWithin holder) c.as_mut_slice.ensures.value marks.within in
    let same : c.attach_in.new.draft ≡ w.draft = c.in_err-attach_in.ensures.err in
    record {
      sound = subst (λ d. IsSound w.loaded d c.mark_list.new.table (with_items w.flags c.mark_list.new.flags).items w.old_flags.items w.built w.old_built) (sym same)
          (sound-marks w.loaded w.draft w.table w.flags.items w.old_flags.items w.built w.old_built c.self.invariant.sound holder p c.mark_list.new.table (with_items w.flags c.mark_list.new.flags).items
          within marks.marks (items ∙ flags));
      now = right-nothing w.loaded c.attach_in.new.draft.now c.mark_list.new.table w.shown.now c.nothing-self-inside.result c.nothing-self-inside.ensures;
      before = right-listed w.loaded c.attach_in.new.draft.kept w.table c.mark_list.new.table w.shown.kept w.old_knowledge holder p marks.marks
          (subst (λ (d : Draft). IsRight w.loaded d.kept (all_rolled_back w.table) w.shown.kept w.old_knowledge) (sym same) c.self.invariant.before);
      alone = subst (λ (d : Draft). in_detached d.kept.nodes ≡ []) (sym same) c.self.invariant.alone;
      indexes = c.self.invariant.indexes;
      cases = c.self.invariant.cases;
      plain = c.self.invariant.plain;
      held = c.self.invariant.held;
      bound = c.self.invariant.bound;
      first = c.self.invariant.first;
    }

pub returns-in_err-attach_in-clause-done : goal.returns-in_err-attach_in-clause-done
returns-in_err-attach_in-clause-done c =
    let w = c.self.inside in
    let n = c.args.node.number in
    let p = c.args.parent.number in
    let told = c.in_err-attach_in.field-0.0 in
    let after = standing_of (chosen_of w.indexes.items w.cases.items) w.loaded c.attach_in.new.draft.now c.mark_list.new.table (with_items w.flags c.mark_list.new.flags).items w.shown.now w.tally in
    let e = err_from_is_err_and c.from_residual-in_err-attach_in.result c.from_residual-in_err-attach_in.ensures.1 in
    rw (e.1, e.2) (subst (λ (t : Twin). Does {X = Unit {0}} (Err told) after (attached profile n p c.args.place (state_of t.now))) c.self.view_is
    (place-refused (chosen_of w.indexes.items w.cases.items) w.loaded w.draft.now w.table w.flags.items w.shown.now w.tally c.self.invariant.sound.many n p c.args.place told c.in_err-attach_in.ensures.done after))

pub returns-in_err-attach_in-clause-kept : goal.returns-in_err-attach_in-clause-kept
returns-in_err-attach_in-clause-kept c =
    let w = c.self.inside in
    let holder = c.in_ok-holder.holder in
    let table : all_rolled_back c.mark_list.new.table ≡ all_rolled_back w.table = ap all_rolled_back c.in_ok-mark_list.ensures.ok.marks ∙ listed-back holder c.args.parent.number w.table in
    ap (λ (x : Draft). record { standing = standing_of (chosen_of w.old_indexes.items w.old_cases.items) w.loaded x.kept (all_rolled_back c.mark_list.new.table) w.old_flags.items w.shown.kept w.old_tally; built = w.old_built }) c.in_err-attach_in.ensures.err
    ∙ ap (λ t. record { standing = standing_of (chosen_of w.old_indexes.items w.old_cases.items) w.loaded w.draft.kept t w.old_flags.items w.shown.kept w.old_tally; built = w.old_built }) table
    ∙ ap (λ (x : Twin). x.kept) c.self.view_is

pub invariant_of-self-2 : goal.invariant_of-self-2
invariant_of-self-2 c =
    let w = c.self.inside in
    let n = c.args.node.number in
    let p = c.args.parent.number in
    let holder = c.in_ok-holder.holder in
    let marks = c.in_ok-mark_list.ensures.ok in
    let flags : c.mark_list.new.flags ≡ all_due_of holder w.flags.items = marks.dues ∙ ap (all_due_of holder) c.as_mut_slice.ensures.value in
    let items = with_items_is w.flags c.mark_list.new.flags (ap length flags ∙ all-due-length holder w.flags.items ∙ sym w.flags.ok.0) in
    let within : IsWithin holder w.flags.items = subst (IsWithin holder) c.as_mut_slice.ensures.value marks.within in
    let placed = c.in_ok-attach_in.ensures.done in
    let kept : c.attach_in.new.draft.kept ≡ w.draft.kept = ap (λ (x : Draft). x.kept) placed.0 in
    let come : MayCome w.loaded.form.tables.instances n p c.args.place w.draft.now holder =
    subst (λ is. MayCome is n p c.args.place w.draft.now holder) c.as_slice-instances.ensures
    (subst (λ f. MayCome c.as_slice-instances.result.now n p c.args.place f holder) c.forest-forest.ensures c.in_ok-holder.ensures) in
    let trees : HasTrees w.draft.now = subst HasTrees c.forest-forest.ensures c.are_counted.ensures.trees in
    let few : w.draft.now.next < 2 ^ 128 = subst (λ (f : Forest). f.next < 2 ^ 128) c.forest-forest.ensures c.are_counted.ensures.few in
    let later : HasTrees c.attach_in.new.draft.now = subst HasTrees c.forest.ensures c.are_counted-2.ensures.trees in
    let before = sound-listed w.loaded w.draft w.table w.flags.items w.old_flags.items w.built w.old_built c.self.invariant.sound holder p within in
    record {
      sound = subst (λ t. IsSound w.loaded c.attach_in.new.draft t (with_items w.flags c.mark_list.new.flags).items w.old_flags.items w.built w.old_built) (sym marks.marks)
          (subst (λ fs. IsSound w.loaded c.attach_in.new.draft (listed holder p w.table) fs w.old_flags.items w.built w.old_built) (sym (items ∙ flags))
          (sound-with w.loaded w.draft (listed holder p w.table) (all_due_of holder w.flags.items) w.old_flags.items w.built w.old_built before c.attach_in.new.draft kept
          (whole-attached w.loaded (listed holder p w.table) (all_due_of holder w.flags.items) w.built w.draft.now trees few before.now holder p come.held (λ model idle. not-held holder w.flags.items model within idle) n c.args.place
          c.attach_in.new.draft.now later come.may placed.1)));
      now = right-nothing w.loaded c.attach_in.new.draft.now c.mark_list.new.table w.shown.now c.nothing-self-inside.result c.nothing-self-inside.ensures;
      before = right-listed w.loaded c.attach_in.new.draft.kept w.table c.mark_list.new.table w.shown.kept w.old_knowledge holder p marks.marks
          (subst (λ f. IsRight w.loaded f (all_rolled_back w.table) w.shown.kept w.old_knowledge) (sym kept) c.self.invariant.before);
      alone = subst (λ (f : Forest). in_detached f.nodes ≡ []) (sym kept) c.self.invariant.alone;
      indexes = c.self.invariant.indexes;
      cases = c.self.invariant.cases;
      plain = c.self.invariant.plain;
      held = c.self.invariant.held;
      bound = c.self.invariant.bound;
      first = c.self.invariant.first;
    }

pub returns-clause-done : goal.returns-clause-done
returns-clause-done c =
    let w = c.self.inside in
    let n = c.args.node.number in
    let p = c.args.parent.number in
    let holder = c.in_ok-holder.holder in
    let marks = c.in_ok-mark_list.ensures.ok in
    let flags : c.mark_list.new.flags ≡ all_due_of holder w.flags.items = marks.dues ∙ ap (all_due_of holder) c.as_mut_slice.ensures.value in
    let items = with_items_is w.flags c.mark_list.new.flags (ap length flags ∙ all-due-length holder w.flags.items ∙ sym w.flags.ok.0) in
    let within : IsWithin holder w.flags.items = subst (IsWithin holder) c.as_mut_slice.ensures.value marks.within in
    let come : MayCome w.loaded.form.tables.instances n p c.args.place w.draft.now holder =
    subst (λ is. MayCome is n p c.args.place w.draft.now holder) c.as_slice-instances.ensures
    (subst (λ f. MayCome c.as_slice-instances.result.now n p c.args.place f holder) c.forest-forest.ensures c.in_ok-holder.ensures) in
    ap (λ (t : Twin). attached profile n p c.args.place (state_of t.now)) (sym c.self.view_is)
    ∙ placed-done (chosen_of w.indexes.items w.cases.items) w.loaded w.draft.now w.table w.flags.items w.shown.now w.tally c.self.invariant.sound.many n p c.args.place holder c.attach_in.new.draft.now come.held within
    c.in_ok-attach_in.ensures.done.1 c.in_ok-tally.ensures.1
    ∙ ap (λ t. Ok (state_of (standing_of (chosen_of w.indexes.items w.cases.items) w.loaded c.attach_in.new.draft.now t (all_due_of holder w.flags.items) w.shown.now (with_more 0 0 w.tally)))) (sym marks.marks)
    ∙ ap (λ fs. Ok (state_of (standing_of (chosen_of w.indexes.items w.cases.items) w.loaded c.attach_in.new.draft.now c.mark_list.new.table fs w.shown.now (with_more 0 0 w.tally)))) (sym (items ∙ flags))
    ∙ ap (λ u. Ok (state_of (standing_of (chosen_of w.indexes.items w.cases.items) w.loaded c.attach_in.new.draft.now c.mark_list.new.table (with_items w.flags c.mark_list.new.flags).items w.shown.now u))) (sym c.in_ok-tally.ensures.0)

pub returns-clause-kept : goal.returns-clause-kept
returns-clause-kept c =
    let w = c.self.inside in
    let holder = c.in_ok-holder.holder in
    let table : all_rolled_back c.mark_list.new.table ≡ all_rolled_back w.table = ap all_rolled_back c.in_ok-mark_list.ensures.ok.marks ∙ listed-back holder c.args.parent.number w.table in
    ap (λ (x : Draft). record { standing = standing_of (chosen_of w.old_indexes.items w.old_cases.items) w.loaded x.kept (all_rolled_back c.mark_list.new.table) w.old_flags.items w.shown.kept w.old_tally; built = w.old_built }) c.in_ok-attach_in.ensures.done.0
    ∙ ap (λ t. record { standing = standing_of (chosen_of w.old_indexes.items w.old_cases.items) w.loaded w.draft.kept t w.old_flags.items w.shown.kept w.old_tally; built = w.old_built }) table
    ∙ ap (λ (x : Twin). x.kept) c.self.view_is
