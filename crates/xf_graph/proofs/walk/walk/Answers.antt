use Rattle.std.proofs.Common.{◌≡◌, ℕ, ◌<◌, inl, inr, List, [], ◌∷◌, refl, sym, ap, ◌∙◌, subst, arith, slice_index_or, length}
use Rattle.xf_graph.specs.Marks.{mark_of}
use Rattle.xf_graph.specs.Pertinent.{IsPertinent}
use Rattle.xf_graph.specs.Steps.{exit, entries_before}
use Rattle.xf_graph.specs.declared.walk.Step.{Step}
use Rattle.xf_graph.proofs.WalkState.{IsWalk}
use Rattle.xf_graph.proofs.WalkLemmas.{IsWalk-left}
use Rattle.xf_graph.proofs.WalkEnters.{IsWalk-begins, IsWalk-passed, IsWalk-entered, HasCycle-met, IsPertinent-at_end}
use Rattle.xf_graph.proofs.WalkMeasure.{AreKnown, AreKnown-begin, AreKnown-after, AreKnown-entered, to_do, to_do-left, to_do-entered}
use Rattle.xf_graph.proofs.walk.walk.Goals as goal

pub loop-step-init : goal.loop-step-init
loop-step-init c =
    let g = c.args.readers.now in
    let roots = c.args.roots.now in
    let e : c.enter_all.new.steps.items ≡ entries_before roots [] = c.in_ok-enter_all.ensures ∙ ap (entries_before roots) c.new-steps.ensures.items in
    let m = mark_of c.in_ok-marks.marks in
    record {
      state = subst (λ l. IsWalk g roots m c.enter_all.new.steps.items l) (sym c.new-left.ensures.items)
          (subst (λ s. IsWalk g roots m s []) (sym e) (IsWalk-begins g roots m c.in_ok-marks.ensures));
      known = subst (AreKnown g roots) (sym e) (AreKnown-begin g roots);
    }

pub loop-step-preserved-then-step : goal.loop-step-preserved-then-step
loop-step-preserved-then-step c =
    let g = c.args.readers.now in
    let roots = c.args.roots.now in
    let steps = c.pop_front.new.self.items in
    let old = c.loop-step.left.items in
    let at : IsWalk g roots (mark_of c.loop-step.marks) (c.in-Some.step ∷ steps) old =
    subst (λ s. IsWalk g roots (mark_of c.loop-step.marks) s old) c.in-Some.ensures.items c.loop-step.invariant.state in
    record {
      state = subst (λ l. IsWalk g roots (mark_of c.set.new.self) steps l) (sym c.in_ok-push.ensures.items)
          (IsWalk-left g roots (mark_of c.loop-step.marks) (mark_of c.set.new.self) c.in-Some.step steps old c.in_ok-set.ensures c.if-step.true at);
      known = AreKnown-after g roots c.in-Some.step steps (subst (AreKnown g roots) c.in-Some.ensures.items c.loop-step.invariant.known);
    }

pub loop-step-smaller-then-step : goal.loop-step-smaller-then-step
loop-step-smaller-then-step c =
    let g = c.args.readers.now in
    let roots = c.args.roots.now in
    let m = mark_of c.loop-step.marks in
    let steps = c.pop_front.new.self.items in
    subst (λ s. to_do g roots (mark_of c.set.new.self) steps < to_do g roots m s) (sym c.in-Some.ensures.items)
    (to_do-left g roots m (mark_of c.set.new.self) c.in-Some.step steps c.in_ok-set.ensures)

pub loop-step-preserved-then-mark-eq-LEFT : goal.loop-step-preserved-then-mark-eq-LEFT
loop-step-preserved-then-mark-eq-LEFT c =
    let g = c.args.readers.now in
    let roots = c.args.roots.now in
    let m = mark_of c.loop-step.marks in
    let steps = c.pop_front.new.self.items in
    record {
      state = IsWalk-passed g roots m c.in-Some.step steps c.loop-step.left.items c.if-step.false
          (subst (λ s. IsWalk g roots m s c.loop-step.left.items) c.in-Some.ensures.items c.loop-step.invariant.state)
          (sym c.get-mark.ensures ∙ c.if-mark-eq-LEFT.true);
      known = AreKnown-after g roots c.in-Some.step steps (subst (AreKnown g roots) c.in-Some.ensures.items c.loop-step.invariant.known);
    }

pub returns-then-mark-eq-ENTERED : goal.returns-then-mark-eq-ENTERED
returns-then-mark-eq-ENTERED c =
    let g = c.args.readers.now in
    let roots = c.args.roots.now in
    let m = mark_of c.loop-step.marks in
    HasCycle-met g roots m c.in-Some.step c.pop_front.new.self.items c.loop-step.left.items c.if-step.false
    (subst (λ s. IsWalk g roots m s c.loop-step.left.items) c.in-Some.ensures.items c.loop-step.invariant.state)
    (sym c.get-mark.ensures ∙ c.if-mark-eq-ENTERED.true)

-- the steps after an entry
entered_steps : (c : goal.In_ok-enter_all-2) → c.enter_all-in-Some.new.steps.items ≡ entries_before (slice_index_or c.args.readers.now c.in-Some.step.vertex []) (exit c.in-Some.step.vertex ∷ c.pop_front.new.self.items)
entered_steps c =
    c.in_ok-enter_all-2.ensures
    ∙ ap (λ b. entries_before b c.push_front.new.self.items) (c.deref.ensures.value ∙ c.in_ok-copy_at.ensures)
    ∙ ap (entries_before (slice_index_or c.args.readers.now c.in-Some.step.vertex [])) c.in_ok-push_front.ensures.items

pub loop-step-preserved : goal.loop-step-preserved
loop-step-preserved c =
    let g = c.args.readers.now in
    let roots = c.args.roots.now in
    let m = mark_of c.loop-step.marks in
    let marked = mark_of c.set-in-Some.new.self in
    let step = c.in-Some.step in
    let steps = c.pop_front.new.self.items in
    let left = c.loop-step.left.items in
    let e : c.enter_all-in-Some.new.steps.items ≡ entries_before (slice_index_or g step.vertex []) (exit step.vertex ∷ steps) = entered_steps c in
    record {
      state = subst (λ s. IsWalk g roots marked s left) (sym e)
          (IsWalk-entered g roots m step steps left c.if-step.false
          (subst (λ s. IsWalk g roots m s left) c.in-Some.ensures.items c.loop-step.invariant.state)
          marked c.in_ok-set-2.ensures
          (λ q. c.if-mark-eq-LEFT.false (c.get-mark.ensures ∙ q))
          (λ q. c.if-mark-eq-ENTERED.false (c.get-mark.ensures ∙ q)));
      known = subst (AreKnown g roots) (sym e) (AreKnown-entered g roots step steps (subst (AreKnown g roots) c.in-Some.ensures.items c.loop-step.invariant.known));
    }

-- what is neither left nor entered has no mark
no_mark : {g : List (List ℕ)} {roots : List ℕ} {m : ℕ → ℕ} {steps : List Step} {left : List ℕ} → IsWalk g roots m steps left → (v : ℕ) → (m v ≡ 2 → ⊥) → (m v ≡ 1 → ⊥) → m v ≡ 0
no_mark at v two one = elim (at.marked v) [
  | inl z ↦ z
  | inr (inl z) ↦ absurd (two z)
  | inr (inr h) ↦ absurd (one (at.entered v h))
]

pub loop-step-smaller : goal.loop-step-smaller
loop-step-smaller c =
    let g = c.args.readers.now in
    let roots = c.args.roots.now in
    let m = mark_of c.loop-step.marks in
    let marked = mark_of c.set-in-Some.new.self in
    let step = c.in-Some.step in
    let steps = c.pop_front.new.self.items in
    let left = c.loop-step.left.items in
    let at : IsWalk g roots m (step ∷ steps) left = subst (λ s. IsWalk g roots m s left) c.in-Some.ensures.items c.loop-step.invariant.state in
    let none = no_mark at step.vertex (λ q. c.if-mark-eq-LEFT.false (c.get-mark.ensures ∙ q)) (λ q. c.if-mark-eq-ENTERED.false (c.get-mark.ensures ∙ q)) in
    let known = subst (AreKnown g roots) c.in-Some.ensures.items c.loop-step.invariant.known in
    subst (λ s. to_do g roots marked s < to_do g roots m c.loop-step.steps.items) (sym (entered_steps c))
    (subst (λ s. to_do g roots marked (entries_before (slice_index_or g step.vertex []) (exit step.vertex ∷ steps)) < to_do g roots m s) (sym c.in-Some.ensures.items)
    (to_do-entered g roots m marked step steps c.in_ok-set-2.ensures none known))

none_left : (steps : List Step) → length steps ≡ 0 → steps ≡ []
none_left [] e = refl
none_left (step ∷ steps) e = absurd (omega arith)

pub returns : goal.returns
returns c =
    let a = c.loop-step.steps.ok in
    let f = c.in_default.ensures.cases in
    let g = c.args.readers.now in
    let roots = c.args.roots.now in
    let left = c.loop-step.left.items in
    let e : c.loop-step.steps.items ≡ [] = none_left c.loop-step.steps.items (omega arith) in
    subst (λ l. IsPertinent g roots l) (sym c.reverse.ensures.items)
    (IsPertinent-at_end g roots (mark_of c.loop-step.marks) left
    (subst (λ s. IsWalk g roots (mark_of c.loop-step.marks) s left) e c.loop-step.invariant.state))
