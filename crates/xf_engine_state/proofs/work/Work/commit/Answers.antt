use Rattle.std.proofs.Common.{◌≡◌, ◌<◌, ◌^◌, [], length, sym, ap, ◌∙◌, subst, arith}
use Rattle.std.proofs.lemmas.List.{with_items_is}
use Rattle.std.specs.Vec.{with_items}
use Rattle.xf_def_forest.specs.Changes.{in_detached}
use Rattle.xf_def_forest.specs.Forest.{Forest}
use Rattle.xf_def_forest.specs.WellFormed.{HasTrees}
use Rattle.xf_def_forest.proofs.TextLaws.{in_forest}
use Rattle.xf_binds.specs.Table.{all_rolled_back}
use Rattle.xf_def_machine.specs.Step.{at_end}
use Rattle.xf_controls.specs.Former.{Standing}
use Rattle.xf_def_form.specs.Formed.{profile}
use Rattle.xf_undo.specs.Draft.{Draft}
use Rattle.xf_engine_state.specs.Does.{Twin}
use Rattle.xf_engine_state.specs.Parts.{chosen_of, standing_of}
use Rattle.xf_engine_state.specs.Standing.{state_of}
use Rattle.xf_engine_state.proofs.DroppedLaws.{dropped, dropped-alone}
use Rattle.xf_engine_state.proofs.EndLaws.{committed-sound, committed-state, committed-kept}
use Rattle.xf_engine_state.proofs.Models.{chosen-same}
use Rattle.xf_engine_state.proofs.RightLaws.{committed-before, committed-now}
use Rattle.xf_engine_state.proofs.work.Work.commit.Goals.{After-copy_cases}
use Rattle.xf_engine_state.proofs.work.Work.commit.Goals as goal

-- the indexes and cases that stand are kept
indexes-kept : (c : After-copy_cases) → (with_items c.self.inside.old_indexes c.copy_indexes.new.to).items ≡ c.self.inside.indexes.items
indexes-kept c =
    let w = c.self.inside in
    let same : c.copy_indexes.new.to ≡ w.indexes.items = c.copy_indexes.ensures ∙ c.as_slice-2.ensures.value in
    with_items_is w.old_indexes c.copy_indexes.new.to (ap length same ∙ sym c.self.invariant.indexes ∙ sym w.old_indexes.ok.0) ∙ same

cases-kept : (c : After-copy_cases) → (with_items c.self.inside.old_cases c.copy_cases.new.to).items ≡ c.self.inside.cases.items
cases-kept c =
    let w = c.self.inside in
    let same : c.copy_cases.new.to ≡ w.cases.items = c.copy_cases.ensures ∙ c.as_slice-3.ensures.value in
    with_items_is w.old_cases c.copy_cases.new.to (ap length same ∙ sym c.self.invariant.cases ∙ sym w.old_cases.ok.0) ∙ same

pub invariant_of-self : goal.invariant_of-self
invariant_of-self c =
    let w = c.self.inside in
    let i = c.self.invariant.sound in
    let flags : c.copy.new.to ≡ w.flags.items = c.copy.ensures ∙ c.as_slice.ensures.value in
    let items = with_items_is w.old_flags c.copy.new.to (ap length flags ∙ sym i.kept ∙ sym w.old_flags.ok.0) in
    let trees : HasTrees w.draft.now = subst HasTrees c.forest-forest.ensures (in_forest c.are_trees.ensures) in
    let trees_after : HasTrees (dropped w.draft.now) = subst HasTrees (c.forest.ensures ∙ ap (λ (d : Draft). d.now) c.commit.ensures) (in_forest c.are_trees-2.ensures) in
    let n = c.next_number.ensures in
    let f = ap (λ (x : Forest). x.next) c.forest-forest.ensures in
    let t = c.next_number.type_inv in
    let few : w.draft.now.next < 2 ^ 128 = omega (arith, n, f, t) in
    record {
      sound = committed-sound w.loaded w.draft w.table w.flags.items w.old_flags.items w.built w.old_built i trees trees_after few c.are_ahead.ensures c.commit.new.self c.commit-2.new.self _ c.commit.ensures c.commit-2.ensures (items ∙ flags);
      now = committed-now w.loaded w.draft.now w.table w.shown.now w.knowledge c.self.invariant.now c.commit.new.self c.commit-2.new.self c.commit-3.new.self c.commit.ensures c.commit-2.ensures c.commit-3.ensures;
      before = committed-before w.loaded w.draft.now w.table w.shown.now w.knowledge c.self.invariant.now c.commit.new.self c.commit-2.new.self c.commit-3.new.self c.commit.ensures c.commit-2.ensures c.commit-3.ensures;
      alone = subst (λ (d : Draft). in_detached d.kept.nodes ≡ []) (sym c.commit.ensures) (dropped-alone w.draft.now);
      indexes = ap length (indexes-kept (goal.at.invariant_of-self c).After-copy_cases);
      cases = ap length (cases-kept (goal.at.invariant_of-self c).After-copy_cases);
      plain = c.self.invariant.plain;
      held = c.self.invariant.held;
      bound = c.self.invariant.bound;
      first = c.self.invariant.first;
    }

pub returns : goal.returns
returns c =
    let w = c.self.inside in
    let i = c.self.invariant.sound in
    let flags : c.copy.new.to ≡ w.flags.items = c.copy.ensures ∙ c.as_slice.ensures.value in
    let items = with_items_is w.old_flags c.copy.new.to (ap length flags ∙ sym i.kept ∙ sym w.old_flags.ok.0) in
    let d = c.commit.new.self in
    let t = c.commit-2.new.self in
    let u = c.begun-self-inside.result in
    record {
      now = ap (λ (s : Standing). state_of (standing_of (chosen_of w.indexes.items w.cases.items) w.loaded d.now t w.flags.items s.now u)) c.commit-3.ensures
          ∙ committed-state (chosen_of w.indexes.items w.cases.items) w.loaded w.draft.now w.table w.flags.items w.shown.now w.tally d t u c.commit.ensures c.commit-2.ensures c.begun-self-inside.ensures
          ∙ ap (λ (x : Twin). at_end profile (state_of x.now)) c.self.view_is;
      kept = ap (λ s. record { standing = s; built = w.built }) (ap (λ (s : Standing). standing_of (chosen_of (with_items w.old_indexes c.copy_indexes.new.to).items (with_items w.old_cases c.copy_cases.new.to).items) w.loaded d.kept (all_rolled_back t) (with_items w.old_flags c.copy.new.to).items s.kept u) c.commit-3.ensures
          ∙ ap (λ x. standing_of x w.loaded d.kept (all_rolled_back t) (with_items w.old_flags c.copy.new.to).items w.shown.now u) (chosen-same _ _ _ _ (indexes-kept (goal.at.returns c).After-copy_cases) (cases-kept (goal.at.returns c).After-copy_cases))
          ∙ committed-kept (chosen_of w.indexes.items w.cases.items) w.loaded w.draft.now w.table w.flags.items w.shown.now w.tally d t _ u c.commit.ensures c.commit-2.ensures (items ∙ flags)
          ∙ ap (λ (s : Standing). standing_of (chosen_of w.indexes.items w.cases.items) w.loaded d.now t w.flags.items s.now u) (sym c.commit-3.ensures));
      built = ap (λ (x : Twin). x.built) c.self.view_is;
    }
