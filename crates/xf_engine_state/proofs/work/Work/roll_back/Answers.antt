use Rattle.std.proofs.Common.{◌≡◌, [], length, sym, ap, ◌∙◌, subst}
use Rattle.std.proofs.lemmas.List.{with_items_is}
use Rattle.std.specs.Vec.{with_items}
use Rattle.xf_def_forest.specs.Changes.{in_detached}
use Rattle.xf_binds.specs.Table.{all_rolled_back}
use Rattle.xf_controls.specs.Former.{Standing}
use Rattle.xf_undo.specs.Draft.{Draft}
use Rattle.xf_engine_state.specs.Does.{Twin}
use Rattle.xf_engine_state.specs.Parts.{chosen_of, standing_of}
use Rattle.xf_engine_state.proofs.EndLaws.{back-kept, back-sound}
use Rattle.xf_engine_state.proofs.Models.{chosen-same}
use Rattle.xf_engine_state.proofs.RightLaws.{back-before, back-now}
use Rattle.xf_engine_state.proofs.work.Work.roll_back.Goals.{After-copy_cases}
use Rattle.xf_engine_state.proofs.work.Work.roll_back.Goals as goal

-- the indexes and cases that were kept
indexes-back : (c : After-copy_cases) → (with_items c.self.inside.indexes c.copy_indexes.new.to).items ≡ c.self.inside.old_indexes.items
indexes-back c =
    let w = c.self.inside in
    let same : c.copy_indexes.new.to ≡ w.old_indexes.items = c.copy_indexes.ensures ∙ c.as_slice-2.ensures.value in
    with_items_is w.indexes c.copy_indexes.new.to (ap length same ∙ c.self.invariant.indexes ∙ sym w.indexes.ok.0) ∙ same

cases-back : (c : After-copy_cases) → (with_items c.self.inside.cases c.copy_cases.new.to).items ≡ c.self.inside.old_cases.items
cases-back c =
    let w = c.self.inside in
    let same : c.copy_cases.new.to ≡ w.old_cases.items = c.copy_cases.ensures ∙ c.as_slice-3.ensures.value in
    with_items_is w.cases c.copy_cases.new.to (ap length same ∙ c.self.invariant.cases ∙ sym w.cases.ok.0) ∙ same

pub invariant_of-self : goal.invariant_of-self
invariant_of-self c =
    let w = c.self.inside in
    let i = c.self.invariant.sound in
    let flags : c.copy.new.to ≡ w.old_flags.items = c.copy.ensures ∙ c.as_slice.ensures.value in
    let items = with_items_is w.flags c.copy.new.to (ap length flags ∙ i.kept ∙ sym w.flags.ok.0) in
    record {
      sound = back-sound w.loaded w.draft w.table w.flags.items w.old_flags.items w.built w.old_built i c.roll_back.new.self c.roll_back-2.new.self _ c.roll_back.ensures c.roll_back-2.ensures (items ∙ flags);
      now = back-now w.loaded w.draft w.table w.shown w.old_knowledge c.self.invariant.before c.roll_back.new.self c.roll_back-2.new.self c.roll_back-3.new.self c.roll_back.ensures c.roll_back-2.ensures c.roll_back-3.ensures;
      before = back-before w.loaded w.draft w.table w.shown w.old_knowledge c.self.invariant.before c.roll_back.new.self c.roll_back-2.new.self c.roll_back-3.new.self c.roll_back.ensures c.roll_back-2.ensures c.roll_back-3.ensures;
      alone = subst (λ (d : Draft). in_detached d.kept.nodes ≡ []) (sym c.roll_back.ensures) c.self.invariant.alone;
      indexes = ap length (sym (indexes-back (goal.at.invariant_of-self c).After-copy_cases));
      cases = ap length (sym (cases-back (goal.at.invariant_of-self c).After-copy_cases));
      plain = c.self.invariant.plain;
      held = c.self.invariant.held;
      bound = c.self.invariant.bound;
      first = c.self.invariant.first;
    }

pub returns-clause-kept : goal.returns-clause-kept
returns-clause-kept c =
    let w = c.self.inside in
    let d = c.roll_back.new.self in
    let t = c.roll_back-2.new.self in
    ap (λ (s : Standing). record { standing = standing_of (chosen_of w.old_indexes.items w.old_cases.items) w.loaded d.kept (all_rolled_back t) w.old_flags.items s.kept w.old_tally; built = w.old_built }) c.roll_back-3.ensures
    ∙ ap (λ s. record { standing = s; built = w.old_built }) (back-kept (chosen_of w.old_indexes.items w.old_cases.items) w.loaded w.table w.old_flags.items w.shown.kept w.old_tally d w.draft t c.roll_back.ensures c.roll_back-2.ensures)
    ∙ ap (λ (x : Twin). x.kept) c.self.view_is

pub returns-clause-now : goal.returns-clause-now
returns-clause-now c =
    let w = c.self.inside in
    let d = c.roll_back.new.self in
    let t = c.roll_back-2.new.self in
    let old = chosen_of w.old_indexes.items w.old_cases.items in
    let flags : c.copy.new.to ≡ w.old_flags.items = c.copy.ensures ∙ c.as_slice.ensures.value in
    let items = with_items_is w.flags c.copy.new.to (ap length flags ∙ c.self.invariant.sound.kept ∙ sym w.flags.ok.0) in
    ap (λ (s : Standing). standing_of (chosen_of (with_items w.indexes c.copy_indexes.new.to).items (with_items w.cases c.copy_cases.new.to).items) w.loaded d.now t (with_items w.flags c.copy.new.to).items s.now w.old_tally) c.roll_back-3.ensures
    ∙ ap (λ x. standing_of x w.loaded d.now t (with_items w.flags c.copy.new.to).items w.shown.kept w.old_tally)
    (chosen-same _ _ _ _ (indexes-back (goal.at.returns-clause-now c).After-copy_cases) (cases-back (goal.at.returns-clause-now c).After-copy_cases))
    ∙ ap (λ fs. standing_of old w.loaded d.now t fs w.shown.kept w.old_tally) (items ∙ flags)
    ∙ ap (λ (x : Draft). standing_of old w.loaded x.now t w.old_flags.items w.shown.kept w.old_tally) c.roll_back.ensures
    ∙ ap (λ ks. standing_of old w.loaded w.draft.kept ks w.old_flags.items w.shown.kept w.old_tally) c.roll_back-2.ensures
    ∙ ap (λ (x : Twin). x.kept.standing) c.self.view_is
