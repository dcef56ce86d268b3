-- Controls that differ from those made afresh in the values of their nodes alone stay so with another table by which nodes have the same properties.
use Rattle.std.proofs.Common.{◌≡◌, ℕ, ◌<◌, Bool, true, false, List, [], ◌∷◌, length, Option, Some, None, refl, sym, ap, ◌∙◌, subst}
use Rattle.std.specs.Bool.{OnTrue}
use Rattle.xf_def_forest.specs.declared.content.Node.{Node}
use Rattle.xf_binds.specs.Alike.{AreAlike}
use Rattle.xf_binds.specs.Kept.{Kept, committed, recalculated, values_of}
use Rattle.xf_binds.specs.Table.{all_committed, all_rolled_back, kept_at, with_kept}
use Rattle.xf_controls.specs.declared.copy.ControlCopy.{ControlCopy}
use Rattle.xf_valid.specs.Nodes.{marks_in}
use Rattle.xf_valid.proofs.AlikeLaws.{IsUnchanged, marks-committed, marks-kept, marks-with}
use Rattle.xf_form.specs.declared.loaded.Loaded.{Loaded}
use Rattle.xf_engine_state.specs.Setting.{mark_if, marked}
use Rattle.xf_engine_state.specs.Steady.{AreSteady}
use Rattle.xf_engine_state.proofs.WholeLaws.{kept-set}

-- nodes have the same properties by both
abbrev pub HaveMarks : List Kept → List Kept → Type 0
HaveMarks table other = (nodes : List Node) (n : ℕ) → marks_in other nodes n ≡ marks_in table nodes n

steady-marks : (l : Loaded) (table other : List Kept) (list : List ControlCopy) → HaveMarks table other → AreSteady l table list → AreSteady l other list
steady-marks l table other list same s = record {
  over = λ forest shaped marks is cases indexes. s.over forest shaped marks (λ n. is n ∙ same forest.nodes n) cases indexes;
  there = s.there;
  rising = s.rising;
  few = s.few;
}

on-steady : (l : Loaded) (table other : List Kept) (list : List ControlCopy) (b : Bool) → HaveMarks table other → OnTrue b (AreSteady l table list) → OnTrue b (AreSteady l other list)
on-steady l table other list true same s = steady-marks l table other list same s
on-steady l table other list false same s = tt

-- ---- another is kept of one model

mark-unchanged : (other : Bool) (n : ℕ) (k : Kept) → IsUnchanged k (mark_if other n k)
mark-unchanged true n k = record { entries = refl; stood = refl; invalid = refl }
mark-unchanged false n k = record { entries = refl; stood = refl; invalid = refl }

module _ (l : Loaded) (table : List Kept) (list : List ControlCopy) where
  -- a text is marked
  pub marked-steady : (b : Bool) → OnTrue b (AreSteady l table list) → (holder : Option ℕ) (other : Bool) (n : ℕ) → OnTrue b (AreSteady l (marked holder other n table) list)
  marked-steady b s None other n = s
  marked-steady b s (Some model) other n =
      let k = mark_if other n (kept_at table model) in
      on-steady l table (with_kept table model k) list b (marks-kept table model k (mark-unchanged other n (kept_at table model))) s

  -- the same nodes of a model are not valid
  pub checked-steady : AreSteady l table list → (same : Bool) (model : ℕ) (invalid : List ℕ) (after : List Kept) → model < length table → after ≡ with_kept table model (record (kept_at table model) { invalid = invalid })
      → OnTrue same ((kept_at after model).invalid ≡ (kept_at table model).invalid) → OnTrue same (AreSteady l after list)
  checked-steady s false model invalid after within is h = tt
  checked-steady s true model invalid after within is h =
      let k = record (kept_at table model) { invalid = invalid } in
      let same : invalid ≡ (kept_at table model).invalid = sym (ap (λ (x : Kept). x.invalid) (ap (λ t. kept_at t model) is ∙ kept-set table model k within)) ∙ h in
      subst (λ t. AreSteady l t list) (sym is) (steady-marks l table (with_kept table model k) list (marks-kept table model k (record { entries = refl; stood = refl; invalid = same })) s)

  -- the properties of its nodes are the same
  pub settled-steady : AreSteady l table list → (same : Bool) (model : ℕ) (truths : List (Option Bool)) (after : List Kept) → after ≡ with_kept table model (recalculated truths (kept_at table model))
      → OnTrue same (AreAlike (values_of (kept_at table model)) (values_of (recalculated truths (kept_at table model)))) → OnTrue same (AreSteady l after list)
  settled-steady s false model truths after is h = tt
  settled-steady s true model truths after is h =
      let k = recalculated truths (kept_at table model) in
      subst (λ t. AreSteady l t list) (sym is) (steady-marks l table (with_kept table model k) list (marks-with table model k h refl) s)

-- ---- the end of an event

kept-again : (ks : List Kept) → all_rolled_back (all_committed ks) ≡ all_committed ks
kept-again [] = refl
kept-again (k ∷ ks) = ap (λ js. committed k ∷ js) (kept-again ks)

-- what stands is kept
pub committed-steady : (l : Loaded) (table : List Kept) (list : List ControlCopy) (b : Bool) → OnTrue b (AreSteady l table list) → OnTrue b (AreSteady l (all_committed table) list) × OnTrue b (AreSteady l (all_rolled_back (all_committed table)) list)
committed-steady l table list b s =
    let now : OnTrue b (AreSteady l (all_committed table) list) = on-steady l table (all_committed table) list b (marks-committed table) s in
    (now, subst (λ ks. OnTrue b (AreSteady l ks list)) (sym (kept-again table)) now)
