-- What is new stands in trees of its own: so it is seen from one node to the next.
use Rattle.std.proofs.Common.{◌≡◌, ℕ, suc, ◌<◌, ◌≤◌, ◌&&◌, not, Bool, true, false, List, [], ◌∷◌, map, nat_lt, refl, sym, ◌∙◌, subst, inl, inr, arith}
use Rattle.std.specs.List.{list_all}
use Rattle.std.proofs.lemmas.Bool.{cases_Bool, cases_lt, false≢true}
use Rattle.slab.specs.Slab.{Slab}
use Rattle.xf_def_forest.specs.declared.content.Node.{Node}
use Rattle.xf_def_forest.specs.Forest.{is_root}
use Rattle.xf_def_forest.specs.Visit.{still_above, numbers, visit, visits_from, visits}
use Rattle.xf_def_forest.specs.Needs.{is_new, goes_or_stays}
use Rattle.xf_tree_rows.specs.declared.rows.Row.{Row}
use Rattle.xf_tree_rows.specs.Rows.{AreSteps}
use Rattle.xf_tree_rows.proofs.SizedLemmas.{lt-true, lt-false}
use Rattle.xf_tree_contents.specs.Slot.{Slot}
use Rattle.xf_tree_walks.specs.Nodes.{node_of}
use Rattle.xf_tree_walks.proofs.KidLemmas.{node_depths}
use Rattle.xf_tree_changes.specs.Older.{AreWhole}
use Rattle.xf_tree.specs.State.{IsSound}
use Rattle.xf_tree.proofs.AboveLemmas.{depths-of}

-- of the nodes that are open the last is a top; where there is none, the next one is
abbrev Grounded : ℕ → List Node → Type 0
Grounded most [] = most ≡ 0
Grounded most (t ∷ []) = t.depth ≡ 0
Grounded most (t ∷ (u ∷ us)) = Grounded most (u ∷ us)

-- all these are new, or none is
abbrev AllAs : ℕ → Bool → List Node → Type 0
AllAs number b [] = Unit {0}
AllAs number b (t ∷ ts) = (is_new number t.number ≡ b) × AllAs number b ts

both-true : (p q : Bool) → (p && q) ≡ true → (p ≡ true) × (q ≡ true)
both-true true true e = (refl, refl)
both-true true false e = absurd (false≢true e)
both-true false q e = absurd (false≢true e)

not-true : (p : Bool) → not p ≡ true → p ≡ false
not-true true e = absurd (false≢true e)
not-true false e = refl

same-above : (number d : ℕ) (b : Bool) (ts : List Node) → AllAs number b ts → AllAs number b (still_above d ts)
same-above number d b [] all = tt
same-above number d b (t ∷ ts) all = elim (cases_Bool (nat_lt t.depth d)) [ inl e ↦ rw e all | inr e ↦ rw e (same-above number d b ts all.1) ]

none-above : (d : ℕ) (ts : List Node) → d ≡ 0 → still_above d ts ≡ []
none-above d [] e = refl
none-above d (t ∷ ts) e = let no : nat_lt t.depth d ≡ false = lt-false t.depth d (omega arith) in rw no (none-above d ts e)

-- above a node that is no top some node is open, and the last is a top
abbrev IsOpen : List Node → Type 0
IsOpen [] = ⊥
IsOpen (t ∷ []) = t.depth ≡ 0
IsOpen (t ∷ (u ∷ us)) = IsOpen (u ∷ us)

open-grounded : (most : ℕ) (y : Node) (ts : List Node) → IsOpen ts → Grounded most (y ∷ ts)
open-grounded most y [] o = absurd o
open-grounded most y (t ∷ []) o = o
open-grounded most y (t ∷ (u ∷ us)) o = open-grounded most t (u ∷ us) o

grounded-open : (most : ℕ) (u : Node) (us : List Node) → Grounded most (u ∷ us) → IsOpen (u ∷ us)
grounded-open most u [] g = g
grounded-open most u (v ∷ vs) g = grounded-open most v vs g

open-above : (d most : ℕ) (ts : List Node) → 0 < d → d ≤ most → Grounded most ts → IsOpen (still_above d ts)
open-above d most [] h l g = absurd (omega arith)
open-above d most (t ∷ []) h l g = let yes : nat_lt t.depth d ≡ true = lt-true t.depth d (omega arith) in rw yes g
open-above d most (t ∷ (u ∷ us)) h l g = elim (cases_Bool (nat_lt t.depth d)) [
  | inl e ↦ rw e (grounded-open most u us g)
  | inr e ↦ rw e (open-above d most (u ∷ us) h l g)
]

-- where some node is open, a node goes or stays with it
as-above : (number : ℕ) (b : Bool) (y : Node) (ts : List Node) → IsOpen ts → AllAs number b ts → goes_or_stays number (record { number = y.number; above = numbers ts; content = y.content }) ≡ true
    → is_new number y.number ≡ b
as-above number b y [] o all e = absurd o
as-above number b y (t ∷ ts) o all e = elim (cases_Bool (is_new number y.number)) [
  | inl n ↦
      let both = both-true (not (is_root y.content)) _ (rw n at e) in
      let first = both-true (is_new number t.number) _ both.1 in
      n ∙ sym first.0 ∙ all.0
  | inr n ↦
      let first = both-true (not (is_new number t.number)) _ (rw n at e) in
      n ∙ sym (not-true (is_new number t.number) first.0) ∙ all.0
]

no-root : (number : ℕ) (y : Node) (above : List ℕ) → goes_or_stays number (record { number = y.number; above = above; content = y.content }) ≡ true → is_new number y.number ≡ true → is_root y.content ≡ false
no-root number y above e n = not-true (is_root y.content) (both-true (not (is_root y.content)) _ (rw n at e)).0

whole-from : (number most : ℕ) (b : Bool) (ts nodes : List Node) → AreSteps most (node_depths nodes) → Grounded most ts → AllAs number b ts
    → list_all (goes_or_stays number) (visits_from ts nodes) ≡ true → AreWhole number b nodes
whole-from number most b ts [] steps g all e = tt
whole-from number most b ts (y ∷ ys) steps g all e =
    let p = both-true (goes_or_stays number (visit ts y)) _ e in
    let here : 0 < y.depth → is_new number y.number ≡ b = λ l. as-above number b y (still_above y.depth ts) (open-above y.depth most ts l steps.0 g) (same-above number y.depth b ts all) p.0 in
    let later : Grounded (suc y.depth) (y ∷ still_above y.depth ts) × AllAs number (is_new number y.number) (y ∷ still_above y.depth ts) = elim (cases_lt 0 y.depth) [
      | inl l ↦ (open-grounded (suc y.depth) y (still_above y.depth ts) (open-above y.depth most ts l steps.0 g), (refl, subst (λ c. AllAs number c (still_above y.depth ts)) (sym (here l)) (same-above number y.depth b ts all)))
      | inr l ↦
          let top : y.depth ≡ 0 = omega arith in
          let none = none-above y.depth ts top in
          (subst (λ us. Grounded (suc y.depth) (y ∷ us)) (sym none) top, subst (λ us. AllAs number (is_new number y.number) (y ∷ us)) (sym none) (refl, tt))
    ] in
    (here, no-root number y (numbers (still_above y.depth ts)) p.0, whole-from number (suc y.depth) (is_new number y.number) (y ∷ still_above y.depth ts) ys steps.1 later.0 later.1 p.1)

whole-is : (number : ℕ) (nodes : List Node) → AreSteps 0 (node_depths nodes) → list_all (goes_or_stays number) (visits nodes) ≡ true → AreWhole number false nodes
whole-is number nodes steps e = whole-from number 0 false [] nodes steps refl tt e

pub rows-whole : (s : Slab Slot) (number next : ℕ) (rows : List Row) (kept : List ℕ) → IsSound s rows kept next → list_all (goes_or_stays number) (visits (map (node_of s) rows)) ≡ true
    → AreWhole number false (map (node_of s) rows)
rows-whole s number next rows kept sound e = whole-is number (map (node_of s) rows) (subst (AreSteps 0) (sym (depths-of s rows)) sound.steps) e

-- ---- and the other way round

goes-back : (number : ℕ) (y : Node) (ts : List Node) → AllAs number (is_new number y.number) ts → (is_new number y.number ≡ true → is_root y.content ≡ false)
    → goes_or_stays number (record { number = y.number; above = numbers ts; content = y.content }) ≡ true
goes-back number y ts all plain = elim (cases_Bool (is_new number y.number)) [
  | inl n ↦ rw (n, plain n) (all-new ts (subst (λ b. AllAs number b ts) n all))
  | inr n ↦ rw n (all-old ts (subst (λ b. AllAs number b ts) n all))
]
  where
    all-new : (us : List Node) → AllAs number true us → list_all (is_new number) (numbers us) ≡ true
    all-new [] a = refl
    all-new (u ∷ us) a = rw a.0 (all-new us a.1)

    all-old : (us : List Node) → AllAs number false us → list_all (λ n. not (is_new number n)) (numbers us) ≡ true
    all-old [] a = refl
    all-old (u ∷ us) a = rw a.0 (all-old us a.1)

whole-to : (number most : ℕ) (b : Bool) (ts nodes : List Node) → AreSteps most (node_depths nodes) → Grounded most ts → AllAs number b ts → AreWhole number b nodes
    → list_all (goes_or_stays number) (visits_from ts nodes) ≡ true
whole-to number most b ts [] steps g all w = refl
whole-to number most b ts (y ∷ ys) steps g all w =
    let us = still_above y.depth ts in
    let later : Grounded (suc y.depth) (y ∷ us) × AllAs number (is_new number y.number) us = elim (cases_lt 0 y.depth) [
      | inl l ↦ (open-grounded (suc y.depth) y us (open-above y.depth most ts l steps.0 g), subst (λ c. AllAs number c us) (sym (w.0 l)) (same-above number y.depth b ts all))
      | inr l ↦
          let top : y.depth ≡ 0 = omega arith in
          let none = none-above y.depth ts top in
          (subst (λ vs. Grounded (suc y.depth) (y ∷ vs)) (sym none) top, subst (λ vs. AllAs number (is_new number y.number) vs) (sym none) tt)
    ] in
    let here = goes-back number y us later.1 w.1 in
    let rest = whole-to number (suc y.depth) (is_new number y.number) (y ∷ us) ys steps.1 later.0 (refl, later.1) w.2 in
    both (goes_or_stays number (visit ts y)) _ here rest
  where
    both : (p q : Bool) → p ≡ true → q ≡ true → (p && q) ≡ true
    both true true e f = refl
    both true false e f = absurd (false≢true f)
    both false q e f = absurd (false≢true e)

pub whole-rows : (s : Slab Slot) (number next : ℕ) (rows : List Row) (kept : List ℕ) → IsSound s rows kept next → AreWhole number false (map (node_of s) rows)
    → list_all (goes_or_stays number) (visits (map (node_of s) rows)) ≡ true
whole-rows s number next rows kept sound w = whole-to number 0 false [] (map (node_of s) rows) (subst (AreSteps 0) (sym (depths-of s rows)) sound.steps) refl tt w
