-- Trees cut off where some texts do not count, and what was put below a node cut off again.
use Rattle.std.proofs.Common.{◌≡◌, ℕ, zero, suc, ◌+◌, ◌==◌, Bool, true, false, cond, ◌&&◌, ◌||◌, List, [], refl, sym, ap, ◌∙◌, subst, inl, inr, arith}
use Rattle.std.specs.Prelude.{◌≤◌, if◌then◌else◌}
use Rattle.std.proofs.lemmas.Bool.{cases_Bool}
use Rattle.xf_def_forest.specs.Forest.{is_root, is_attribute, is_text}
use Rattle.xf_def_forest.specs.Visit.{has}
use Rattle.xf_def_forest.specs.Texts.{with_value}
use Rattle.xf_def_forest.specs.Changes.{at_place}
use Rattle.xf_def_forest.proofs.BackLaws.{false-true}
use Rattle.xf_law_forests.proofs.RollbackLemmas.Trees.{Trees, none, tree, followed, times}
use Rattle.xf_law_forests.proofs.RollbackLemmas.TreeTexts.{times-split, Where, here, inside as deeper, later, where_is}
use Rattle.xf_law_forests.proofs.RollbackLemmas.TreeShape.{Sound, sound-followed}
use Rattle.xf_law_forests.proofs.RollbackLemmas.TreeMoved.{value-text}
use Rattle.xf_law_forests.proofs.RollbackLemmas.TreeBlank.{textless, blank, blank-followed}
use Rattle.xf_law_forests.proofs.RollbackLemmas.TreeFacts.{sound-blank}
use Rattle.xf_law_forests.proofs.RollbackLemmas.TreeMoves.{removed, found, removed-absent, found-absent, followed-none, removed-followed, found-followed}
use Rattle.xf_law_forests.proofs.RollbackLemmas.NodeKinds.{Each}
use Rattle.xf_law_forests.proofs.RollbackLemmas.TreePlaces.{inserted, beside, with_tree, changed, changed-absent}

-- ---- without texts that do not count

textless-removed : (n : ℕ) (t : Trees) → textless (removed n t) ≡ removed n (textless t)
textless-removed n none = refl
textless-removed n (tree m c k r) =
    elim (cases_Bool (m == n)) [
      | inl e ↦ elim (cases_Bool (is_text c)) [
        | inl q ↦ rw (e, q) (textless-removed n r)
        | inr q ↦ rw (e, q) (rw e (textless-removed n r))
      ]
      | inr e ↦ elim (cases_Bool (is_text c)) [
        | inl q ↦ rw (e, q) (textless-removed n r)
        | inr q ↦ rw (e, q) (rw e (ap (tree m c (removed n k)) (textless-removed n r)))
      ]
    ]

pub blank-removed : (n : ℕ) (ns : List ℕ) (t : Trees) → blank ns (removed n t) ≡ removed n (blank ns t)
blank-removed n ns none = refl
blank-removed n ns (tree m c k r) =
    elim (cases_Bool (m == n)) [
      | inl e ↦ rw e (blank-removed n ns r)
      | inr e ↦ rw e (
          ap (tree m (if has m ns then with_value [] c else c) (if has m ns then textless (blank ns (removed n k)) else blank ns (removed n k))) (blank-removed n ns r)
          ∙ ap (λ x. tree m (if has m ns then with_value [] c else c) x (removed n (blank ns r))) (by (has m ns) (blank-removed n ns k))
          )
    ]
  where
    by : (b : Bool) → blank ns (removed n k) ≡ removed n (blank ns k) → cond b (textless (blank ns (removed n k))) (blank ns (removed n k)) ≡ removed n (cond b (textless (blank ns k)) (blank ns k))
    by true h = ap textless h ∙ textless-removed n (blank ns k)
    by false h = h

textless-each : (n : ℕ) (t : Trees) → Each (λ c. is_text c ≡ false) n t → Each (λ c. is_text c ≡ false) n (textless t)
textless-each n none h = tt
textless-each n (tree m c k r) h = by (is_text c) (textless-each n r h.2)
  where
    by : (b : Bool) → Each (λ c. is_text c ≡ false) n (textless r) → Each (λ c. is_text c ≡ false) n (cond b (textless r) (tree m c k (textless r)))
    by true s = s
    by false s = (h.0, h.1, s)

blank-each : (n : ℕ) (ns : List ℕ) (t : Trees) → Each (λ c. is_text c ≡ false) n t → Each (λ c. is_text c ≡ false) n (blank ns t)
blank-each n ns none h = tt
blank-each n ns (tree m c k r) h = (λ e. content (has m ns) ∙ h.0 e, by (has m ns) (blank-each n ns k h.1), blank-each n ns r h.2)
  where
    content : (b : Bool) → is_text (cond b (with_value [] c) c) ≡ is_text c
    content true = value-text [] c
    content false = refl

    by : (b : Bool) → Each (λ c. is_text c ≡ false) n (blank ns k) → Each (λ c. is_text c ≡ false) n (cond b (textless (blank ns k)) (blank ns k))
    by true s = textless-each n (blank ns k) s
    by false s = s

found-textless : (n : ℕ) (inside : Bool) (t : Trees) → Sound inside t → Each (λ c. is_text c ≡ false) n t → found n (textless t) ≡ found n t
found-textless n inside none s h = refl
found-textless n inside (tree m c k r) s h =
    elim (cases_Bool (is_text c)) [
      | inl q ↦
          let bare : k ≡ none = s.0 (ap (λ b. is_attribute c || b) q ∙ or-true (is_attribute c)) in
          let other : (m == n) ≡ false = not-here (m == n) refl q in
          rw (q, other) (found-textless n inside r s.3 h.2 ∙ subst (λ j. found n r ≡ followed (found n j) (found n r)) (sym bare) refl)
      | inr q ↦ rw q (ap (followed (if m == n then tree m c k none else found n k)) (found-textless n inside r s.3 h.2))
    ]
  where
    or-true : (b : Bool) → (b || true) ≡ true
    or-true true = refl
    or-true false = refl

    not-here : (b : Bool) → (m == n) ≡ b → is_text c ≡ true → b ≡ false
    not-here true e q = absurd (false-true (sym (h.0 e) ∙ q))
    not-here false e q = refl

pub blank-found : (n : ℕ) (ns : List ℕ) (inside : Bool) (t : Trees) → Sound inside t → Each (λ c. is_text c ≡ false) n t → blank ns (found n t) ≡ found n (blank ns t)
blank-found n ns inside none s h = refl
blank-found n ns inside (tree m c k r) s h =
    blank-followed ns (if m == n then tree m c k none else found n k) (found n r)
    ∙ ap (followed (blank ns (if m == n then tree m c k none else found n k))) (blank-found n ns inside r s.3 h.2)
    ∙ ap (λ x. followed x (found n (blank ns r))) (by (m == n) (has m ns) (blank-found n ns true k s.2 h.1))
  where
    by : (p b : Bool) → blank ns (found n k) ≡ found n (blank ns k)
        → blank ns (cond p (tree m c k none) (found n k)) ≡ cond p (tree m (if has m ns then with_value [] c else c) (if has m ns then textless (blank ns k) else blank ns k) none) (found n (if has m ns then textless (blank ns k) else blank ns k))
    by true b e = refl
    by false b e = e ∙ inner (has m ns)
      where
        inner : (b : Bool) → found n (blank ns k) ≡ found n (cond b (textless (blank ns k)) (blank ns k))
        inner true = sym (found-textless n true (blank ns k) (sound-blank true ns k s.2) (blank-each n ns k h.1))
        inner false = refl

-- blank trees have no number more often
textless-times : (n : ℕ) (t : Trees) → times n (textless t) ≤ times n t
textless-times n none = omega arith
textless-times n (tree m c k r) = by (is_text c) (textless-times n r)
  where
    by : (b : Bool) → times n (textless r) ≤ times n r → times n (cond b (textless r) (tree m c k (textless r))) ≤ (if m == n then 1 else 0) + (times n k + times n r)
    by true h = omega (arith, h)
    by false h = omega (arith, h)

pub blank-times : (n : ℕ) (ns : List ℕ) (t : Trees) → times n (blank ns t) ≤ times n t
blank-times n ns none = omega arith
blank-times n ns (tree m c k r) = by (has m ns) (blank-times n ns k) (blank-times n ns r)
  where
    by : (b : Bool) → times n (blank ns k) ≤ times n k → times n (blank ns r) ≤ times n r
        → (if m == n then 1 else 0) + (times n (cond b (textless (blank ns k)) (blank ns k)) + times n (blank ns r)) ≤ (if m == n then 1 else 0) + (times n k + times n r)
    by true h g = let e = textless-times n (blank ns k) in omega (arith, h, g, e)
    by false h g = omega (arith, h, g)

-- ---- soundness

pub sound-removed : (n : ℕ) (inside : Bool) (t : Trees) → Sound inside t → Sound inside (removed n t)
sound-removed n inside none h = tt
sound-removed n inside (tree m c k r) h = by (m == n) (sound-removed n true k h.2) (sound-removed n inside r h.3)
  where
    by : (b : Bool) → Sound true (removed n k) → Sound inside (removed n r) → Sound inside (cond b (removed n r) (tree m c (removed n k) (removed n r)))
    by true s u = u
    by false s u = (λ e. ap (removed n) (h.0 e), h.1, s, u)

pub sound-found : (n : ℕ) (inside : Bool) (t : Trees) → Sound inside t → Sound false (found n t)
sound-found n inside none h = tt
sound-found n inside (tree m c k r) h = sound-followed false (if m == n then tree m c k none else found n k) (found n r) (by (m == n) (sound-found n true k h.2)) (sound-found n inside r h.3)
  where
    off : (b : Bool) → (b && false) ≡ false
    off true = refl
    off false = refl

    by : (b : Bool) → Sound false (found n k) → Sound false (cond b (tree m c k none) (found n k))
    by true s = (h.0, off (is_root c), h.2, tt)
    by false s = s

-- ---- what was put below a node is cut off

removed-inserted : (n place : ℕ) (s k : Trees) → removed n s ≡ none → times n k ≡ 0 → removed n (inserted place s k) ≡ k
removed-inserted n place s none gone h = gone
removed-inserted n place s (tree m c j r) gone h =
    let parts = times-split n m c j r h in
    elim (cases_Bool (is_attribute c)) [
      | inl a ↦ rw a (rw parts.0 (ap (λ x. tree m c x (removed n (inserted place s r))) (removed-absent n j parts.1) ∙ ap (tree m c j) (removed-inserted n place s r gone parts.2)))
      | inr a ↦ rw a (at place parts.0 (removed-absent n j parts.1) (λ left. removed-inserted n left s r gone parts.2))
    ]
  where
    at : (place : ℕ) → (m == n) ≡ false → removed n j ≡ j → ((left : ℕ) → removed n (inserted left s r) ≡ r)
        → removed n (at_place place (followed s (tree m c j r)) (λ left. tree m c j (inserted left s r))) ≡ tree m c j r
    at zero e f g = removed-followed n s (tree m c j r) ∙ ap (λ x. followed x (removed n (tree m c j r))) gone ∙ removed-absent n (tree m c j r) h
    at (suc left) e f g = rw e (ap (λ x. tree m c x (removed n (inserted left s r))) f ∙ ap (tree m c j) (g left))

removed-beside : (n place : ℕ) (s k : Trees) → removed n s ≡ none → times n k ≡ 0 → removed n (beside place s k) ≡ k
removed-beside n place s none gone h = gone
removed-beside n place s (tree m c j r) gone h = by (is_attribute c) (at place (λ left. removed-beside n left s r gone (times-split n m c j r h).2))
  where
    before : removed n (followed s (tree m c j r)) ≡ tree m c j r
    before = removed-followed n s (tree m c j r) ∙ ap (λ x. followed x (removed n (tree m c j r))) gone ∙ removed-absent n (tree m c j r) h

    at : (place : ℕ) → ((left : ℕ) → removed n (beside left s r) ≡ r) → removed n (at_place place (followed s (tree m c j r)) (λ left. tree m c j (beside left s r))) ≡ tree m c j r
    at zero e = before
    at (suc left) e = let parts = times-split n m c j r h in rw parts.0 (ap (λ x. tree m c x (removed n (beside left s r))) (removed-absent n j parts.1) ∙ ap (tree m c j) (e left))

    by : (b : Bool) → removed n (at_place place (followed s (tree m c j r)) (λ left. tree m c j (beside left s r))) ≡ tree m c j r
        → removed n (cond b (at_place place (followed s (tree m c j r)) (λ left. tree m c j (beside left s r))) (followed s (tree m c j r))) ≡ tree m c j r
    by true e = e
    by false e = before

removed-with : (n place : ℕ) (s k : Trees) → removed n s ≡ none → times n k ≡ 0 → removed n (with_tree place s k) ≡ k
removed-with n place none k gone h = removed-absent n k h
removed-with n place (tree m c j r) k gone h = by (is_attribute c)
  where
    by : (b : Bool) → removed n (cond b (beside place (tree m c j r) k) (inserted place (tree m c j r) k)) ≡ k
    by true = removed-beside n place (tree m c j r) k gone h
    by false = removed-inserted n place (tree m c j r) k gone h

pub removed-changed : (n p place : ℕ) (s t : Trees) → removed n s ≡ none → times n t ≡ 0 → removed n (changed p (with_tree place s) t) ≡ t
removed-changed n p place s none gone h = refl
removed-changed n p place s (tree m c k r) gone h =
    let parts = times-split n m c k r h in
    rw parts.0 (ap (λ x. tree m c x (removed n (changed p (with_tree place s) r))) (by (m == p) (removed-changed n p place s k gone parts.1) parts.1) ∙ ap (tree m c k) (removed-changed n p place s r gone parts.2))
  where
    by : (b : Bool) → removed n (changed p (with_tree place s) k) ≡ k → times n k ≡ 0 → removed n (cond b (with_tree place s k) (changed p (with_tree place s) k)) ≡ k
    by true e z = removed-with n place s k gone z
    by false e z = e

pub removed-found : (n : ℕ) (t : Trees) → removed n (found n t) ≡ none
removed-found n none = refl
removed-found n (tree m c k r) =
    removed-followed n (if m == n then tree m c k none else found n k) (found n r) ∙ ap (followed (removed n (if m == n then tree m c k none else found n k))) (removed-found n r)
    ∙ followed-none (removed n (if m == n then tree m c k none else found n k)) ∙ by (m == n) refl (removed-found n k)
  where
    by : (b : Bool) → (m == n) ≡ b → removed n (found n k) ≡ none → removed n (cond b (tree m c k none) (found n k)) ≡ none
    by true e h = rw e refl
    by false e h = h

pub found-found : (n : ℕ) (t : Trees) → found n (found n t) ≡ found n t
found-found n none = refl
found-found n (tree m c k r) =
    found-followed n (if m == n then tree m c k none else found n k) (found n r)
    ∙ ap (followed (found n (if m == n then tree m c k none else found n k))) (found-found n r)
    ∙ ap (λ x. followed x (found n r)) (by (m == n) refl (found-found n k))
  where
    by : (b : Bool) → (m == n) ≡ b → found n (found n k) ≡ found n k → found n (cond b (tree m c k none) (found n k)) ≡ cond b (tree m c k none) (found n k)
    by true e h = rw e refl
    by false e h = h

found-inserted : (n place : ℕ) (s k : Trees) → found n s ≡ s → times n k ≡ 0 → found n (inserted place s k) ≡ s
found-inserted n place s none own h = own
found-inserted n place s (tree m c j r) own h =
    let parts = times-split n m c j r h in
    elim (cases_Bool (is_attribute c)) [
      | inl a ↦ rw a (rw parts.0 (ap (λ x. followed x (found n (inserted place s r))) (found-absent n j parts.1) ∙ found-inserted n place s r own parts.2))
      | inr a ↦ rw a (at place parts.0 (found-absent n j parts.1) (λ left. found-inserted n left s r own parts.2))
    ]
  where
    at : (place : ℕ) → (m == n) ≡ false → found n j ≡ none → ((left : ℕ) → found n (inserted left s r) ≡ s)
        → found n (at_place place (followed s (tree m c j r)) (λ left. tree m c j (inserted left s r))) ≡ s
    at zero e f g = found-followed n s (tree m c j r) ∙ ap (followed (found n s)) (found-absent n (tree m c j r) h) ∙ followed-none (found n s) ∙ own
    at (suc left) e f g = rw e (ap (λ x. followed x (found n (inserted left s r))) f ∙ g left)

found-beside : (n place : ℕ) (s k : Trees) → found n s ≡ s → times n k ≡ 0 → found n (beside place s k) ≡ s
found-beside n place s none own h = own
found-beside n place s (tree m c j r) own h = by (is_attribute c) (at place (λ left. found-beside n left s r own (times-split n m c j r h).2))
  where
    before : found n (followed s (tree m c j r)) ≡ s
    before = found-followed n s (tree m c j r) ∙ ap (followed (found n s)) (found-absent n (tree m c j r) h) ∙ followed-none (found n s) ∙ own

    at : (place : ℕ) → ((left : ℕ) → found n (beside left s r) ≡ s) → found n (at_place place (followed s (tree m c j r)) (λ left. tree m c j (beside left s r))) ≡ s
    at zero e = before
    at (suc left) e = let parts = times-split n m c j r h in rw parts.0 (ap (λ x. followed x (found n (beside left s r))) (found-absent n j parts.1) ∙ e left)

    by : (b : Bool) → found n (at_place place (followed s (tree m c j r)) (λ left. tree m c j (beside left s r))) ≡ s
        → found n (cond b (at_place place (followed s (tree m c j r)) (λ left. tree m c j (beside left s r))) (followed s (tree m c j r))) ≡ s
    by true e = e
    by false e = before

found-with : (n place : ℕ) (s k : Trees) → found n s ≡ s → times n k ≡ 0 → found n (with_tree place s k) ≡ s
found-with n place none k own h = found-absent n k h
found-with n place (tree m c j r) k own h = by (is_attribute c)
  where
    by : (b : Bool) → found n (cond b (beside place (tree m c j r) k) (inserted place (tree m c j r) k)) ≡ tree m c j r
    by true = found-beside n place (tree m c j r) k own h
    by false = found-inserted n place (tree m c j r) k own h

pub found-changed : (n p place : ℕ) (s t : Trees) → found n s ≡ s → times n t ≡ 0 → times p t ≡ 1 → found n (changed p (with_tree place s) t) ≡ s
found-changed n p place s none own h once = absurd (omega (arith, once))
found-changed n p place s (tree m c k r) own h once =
    let parts = times-split n m c k r h in
    rw parts.0 (by parts (where_is p m c k r once) (λ q. found-changed n p place s k own parts.1 q) (λ q. found-changed n p place s r own parts.2 q))
  where
    by : ((m == n) ≡ false) × (times n k ≡ 0) × (times n r ≡ 0) → Where p m k r → (times p k ≡ 1 → found n (changed p (with_tree place s) k) ≡ s) → (times p r ≡ 1 → found n (changed p (with_tree place s) r) ≡ s)
        → followed (found n (if m == p then with_tree place s k else changed p (with_tree place s) k)) (found n (changed p (with_tree place s) r)) ≡ s
    by parts (here e q z) one two =
        rw e (ap (λ x. followed (found n (with_tree place s k)) (found n x)) (changed-absent p (with_tree place s) r z) ∙ ap (followed (found n (with_tree place s k))) (found-absent n r parts.2)
        ∙ followed-none (found n (with_tree place s k)) ∙ found-with n place s k own parts.1)
    by parts (deeper e q z) one two =
        rw e (ap (λ x. followed (found n (changed p (with_tree place s) k)) (found n x)) (changed-absent p (with_tree place s) r z) ∙ ap (followed (found n (changed p (with_tree place s) k))) (found-absent n r parts.2)
        ∙ followed-none (found n (changed p (with_tree place s) k)) ∙ one q)
    by parts (later e q z) one two =
        rw e (ap (λ x. followed (found n x) (found n (changed p (with_tree place s) r))) (changed-absent p (with_tree place s) k q) ∙ ap (λ x. followed x (found n (changed p (with_tree place s) r))) (found-absent n k parts.1) ∙ two z)
