-- Where a node stands among the children or the attributes of its parent, in trees.
use Rattle.std.proofs.Common.{◌≡◌, ℕ, zero, suc, ◌==◌, Bool, true, false, not, cond, ◌&&◌, List, [], ◌∷◌, map, Option, Some, None, refl, sym, ap, ◌∙◌, subst, inl, inr, arith}
use Rattle.std.specs.Prelude.{◌⊎◌, ◌≤◌, filter, find, if◌then◌else◌}
use Rattle.std.specs.List.{position_or_len}
use Rattle.std.proofs.lemmas.Bool.{cases_Bool}
use Rattle.std.proofs.lemmas.Bool.Decides.{nat_tests}
use Rattle.xf_def_forest.specs.declared.content.Content.{Content}
use Rattle.xf_def_forest.specs.Forest.{is_attribute}
use Rattle.xf_def_forest.specs.Visit.{Visit, visits, is_first, first_of, above_in, parent_of, has}
use Rattle.xf_def_forest.proofs.BackLaws.{false-true}
use Rattle.xf_law_forests.proofs.RollbackLemmas.Trees.{Trees, none, tree, onto, followed, times}
use Rattle.xf_law_forests.proofs.RollbackLemmas.TreeTexts.{times-split, Where, here, inside as deeper, later, where_is}
use Rattle.xf_law_forests.proofs.RollbackLemmas.TreeVisits.{seen, visits-seen}
use Rattle.xf_law_forests.proofs.RollbackLemmas.TreeMoves.{removed, found, removed-absent, found-absent, followed-none}
use Rattle.xf_law_forests.proofs.RollbackLemmas.NodeKinds.{Each, found-tree}
use Rattle.xf_law_forests.proofs.RollbackLemmas.TreePlaces.{inserted, beside, with_tree, changed, changed-absent}
use Rattle.xf_law_forests.proofs.RollbackLemmas.TreeTops.{tops}
use Rattle.xf_law_forests.proofs.RollbackLemmas.TreeOrder.{NoAttributes, AttributesFirst, Ordered}

abbrev pub is_child : Content → Bool
is_child c = not (is_attribute c)

pub child-plain : (c : Content) → is_child c ≡ true → is_attribute c ≡ false
child-plain c h = by (is_attribute c) h
  where
    by : (b : Bool) → not b ≡ true → b ≡ false
    by true e = cc e
    by false e = refl

-- ---- those below a node, of a kind

-- the numbers of the nodes of a kind that stand right below a node
abbrev pub parts_of : (Content → Bool) → ℕ → List Visit → List ℕ
parts_of w p all = map (λ x. x.number) (filter (λ x. is_first p x.above && w x.content) all)

-- the same in trees, before other numbers: true where the node is above them
abbrev pub parts : (Content → Bool) → Bool → ℕ → Trees → List ℕ → List ℕ
parts w u p none ns = ns
parts w u p (tree m c k r) ns = if u && w c then m ∷ parts w (p == m) p k (parts w u p r ns) else parts w (p == m) p k (parts w u p r ns)

parts-seen : (w : Content → Bool) (p : ℕ) (up : List ℕ) (t : Trees) (vs : List Visit) → parts_of w p (seen up t vs) ≡ parts w (is_first p up) p t (parts_of w p vs)
parts-seen w p up none vs = refl
parts-seen w p up (tree m c k r) vs = by (is_first p up && w c) (parts-seen w p (m ∷ up) k (seen up r vs) ∙ ap (parts w (p == m) p k) (parts-seen w p up r vs))
  where
    by : (b : Bool) → parts_of w p (seen (m ∷ up) k (seen up r vs)) ≡ parts w (p == m) p k (parts w (is_first p up) p r (parts_of w p vs))
        → map (λ (x : Visit). x.number) (cond b (record { number = m; above = up; content = c } ∷ filter (λ (x : Visit). is_first p x.above && w x.content) (seen (m ∷ up) k (seen up r vs)))
        (filter (λ (x : Visit). is_first p x.above && w x.content) (seen (m ∷ up) k (seen up r vs))))
        ≡ cond b (m ∷ parts w (p == m) p k (parts w (is_first p up) p r (parts_of w p vs))) (parts w (p == m) p k (parts w (is_first p up) p r (parts_of w p vs)))
    by true e = ap (λ l. m ∷ l) e
    by false e = e

pub parts-are : (w : Content → Bool) (p : ℕ) (t : Trees) → parts_of w p (visits (onto 0 t [])) ≡ parts w false p t []
parts-are w p t = ap (parts_of w p) (visits-seen t) ∙ parts-seen w p [] t []

-- the numbers of tops of a kind, before others
abbrev pub names : (Content → Bool) → Trees → List ℕ → List ℕ
names w none ns = ns
names w (tree m c k r) ns = if w c then m ∷ names w r ns else names w r ns

pub parts-absent : (w : Content → Bool) (p : ℕ) (t : Trees) (ns : List ℕ) → times p t ≡ 0 → parts w false p t ns ≡ ns
parts-absent w p none ns h = refl
parts-absent w p (tree m c k r) ns h =
    let split = times-split p m c k r h in
    let other : (p == m) ≡ false = let e = split.0 in grind (arith, nat_tests, e) in
    ap (λ b. parts w b p k (parts w false p r ns)) other ∙ parts-absent w p k (parts w false p r ns) split.1 ∙ parts-absent w p r ns split.2

pub parts-names : (w : Content → Bool) (p : ℕ) (t : Trees) (ns : List ℕ) → times p t ≡ 0 → parts w true p t ns ≡ names w t ns
parts-names w p none ns h = refl
parts-names w p (tree m c k r) ns h =
    let split = times-split p m c k r h in
    let other : (p == m) ≡ false = let e = split.0 in grind (arith, nat_tests, e) in
    let inner : parts w (p == m) p k (parts w true p r ns) ≡ names w r ns
    = ap (λ b. parts w b p k (parts w true p r ns)) other ∙ parts-absent w p k (parts w true p r ns) split.1 ∙ parts-names w p r ns split.2 in
    by (w c) inner
  where
    by : (b : Bool) → parts w (p == m) p k (parts w true p r ns) ≡ names w r ns → cond (true && b) (m ∷ parts w (p == m) p k (parts w true p r ns)) (parts w (p == m) p k (parts w true p r ns)) ≡ cond b (m ∷ names w r ns) (names w r ns)
    by true e = ap (λ l. m ∷ l) e
    by false e = e

-- a node of the other kind is none of them
pub parts-other : (w : Content → Bool) (n : ℕ) (u : Bool) (p : ℕ) (t : Trees) (ns : List ℕ) → Each (λ c. w c ≡ false) n t → has n (parts w u p t ns) ≡ has n ns
parts-other w n u p none ns h = refl
parts-other w n u p (tree m c k r) ns h =
    by (m == n) refl u (w c) refl (parts-other w n (p == m) p k (parts w u p r ns) h.1 ∙ parts-other w n u p r ns h.2)
  where
    turned : (m == n) ≡ false → (n == m) ≡ false
    turned e = grind (arith, nat_tests, e)

    by : (x : Bool) → (m == n) ≡ x → (u b : Bool) → w c ≡ b → has n (parts w (p == m) p k (parts w u p r ns)) ≡ has n ns
        → has n (cond (u && b) (m ∷ parts w (p == m) p k (parts w u p r ns)) (parts w (p == m) p k (parts w u p r ns))) ≡ has n ns
    by true e true true f g = absurd (false-true (sym (h.0 e) ∙ f))
    by false e true true f g = rw (turned e) g
    by x e true false f g = g
    by x e false b f g = g

-- ---- the parent

-- somewhere the second node is directly above the first one
abbrev pub Under : ℕ → ℕ → Trees → Type 0
Under n p none = ⊥
Under n p (tree m c k r) = (((m == p) ≡ true) × (tops n k ≡ true)) ⊎ (Under n p k ⊎ Under n p r)

find-absent : (n : ℕ) (up : List ℕ) (t : Trees) (vs : List Visit) → times n t ≡ 0 → find (λ (x : Visit). x.number == n) (seen up t vs) ≡ find (λ (x : Visit). x.number == n) vs
find-absent n up none vs h = refl
find-absent n up (tree m c k r) vs h =
    let parts = times-split n m c k r h in
    rw parts.0 (find-absent n (m ∷ up) k (seen up r vs) parts.1 ∙ find-absent n up r vs parts.2)

some-same : (a b : ℕ) → ◌≡◌ {A = Option ℕ} (Some a) (Some b) → a ≡ b
some-same a b e = cc e

no-some : (b : ℕ) → ◌≡◌ {A = Option ℕ} None (Some b) → ⊥
no-some b e = cc e

same_number : (m p : ℕ) → m ≡ p → (m == p) ≡ true
same_number m p e = grind (arith, nat_tests, e)

first-number : (m p : ℕ) (up : List ℕ) → first_of (m ∷ up) ≡ Some p → (m == p) ≡ true
first-number m p up e = same_number m p (some-same m p e)

pub parent-found : (n p : ℕ) (up : List ℕ) (t : Trees) (vs : List Visit) → times n t ≡ 1 → parent_of n (seen up t vs) ≡ Some p → ((first_of up ≡ Some p) × (tops n t ≡ true)) ⊎ Under n p t
parent-found n p up none vs once h = absurd (omega (arith, once))
parent-found n p up (tree m c k r) vs once h =
    by (where_is n m c k r once) h (λ e g. parent-found n p (m ∷ up) k (seen up r vs) e g) (λ e g. parent-found n p up r vs e g)
  where
    down : ((first_of (m ∷ up) ≡ Some p) × (tops n k ≡ true)) ⊎ Under n p k → Under n p (tree m c k r)
    down (inl g) = inl (first-number m p up g.0, g.1)
    down (inr g) = inr (inl g)

    over : (m == n) ≡ false → ((first_of up ≡ Some p) × (tops n r ≡ true)) ⊎ Under n p r → ((first_of up ≡ Some p) × (tops n (tree m c k r) ≡ true)) ⊎ Under n p (tree m c k r)
    over e (inl g) = inl (g.0, rw e g.1)
    over e (inr g) = inr (inr (inr g))

    by : Where n m k r → parent_of n (seen up (tree m c k r) vs) ≡ Some p
        → (times n k ≡ 1 → parent_of n (seen (m ∷ up) k (seen up r vs)) ≡ Some p → ((first_of (m ∷ up) ≡ Some p) × (tops n k ≡ true)) ⊎ Under n p k)
        → (times n r ≡ 1 → parent_of n (seen up r vs) ≡ Some p → ((first_of up ≡ Some p) × (tops n r ≡ true)) ⊎ Under n p r)
        → ((first_of up ≡ Some p) × (tops n (tree m c k r) ≡ true)) ⊎ Under n p (tree m c k r)
    by (here e a b) h one two = inl ((rw e at h), rw e refl)
    by (deeper e a b) h one two = inr (down (one a (rw e at h)))
    by (later e a b) h one two =
        over e (two b (subst (λ o. first_of (above_in o) ≡ Some p) (find-absent n (m ∷ up) k (seen up r vs) a) (rw e at h)))

pub under-parent : (n p : ℕ) (t : Trees) → times n t ≡ 1 → parent_of n (visits (onto 0 t [])) ≡ Some p → Under n p t
under-parent n p t once h = by (parent-found n p [] t [] once (subst (λ l. parent_of n l ≡ Some p) (visits-seen t) h))
  where
    by : ((first_of [] ≡ Some p) × (tops n t ≡ true)) ⊎ Under n p t → Under n p t
    by (inl g) = absurd (no-some p g.0)
    by (inr g) = g

-- ---- its place

-- how many tops of a kind stand before the node
abbrev pub rank : (Content → Bool) → ℕ → Trees → ℕ
rank w n none = 0
rank w n (tree m c k r) = if m == n then 0 else if w c then suc (rank w n r) else rank w n r

pub rank-names : (w : Content → Bool) (n : ℕ) (k : Trees) (ns : List ℕ) → tops n k ≡ true → Each (λ c. w c ≡ true) n k → position_or_len (λ m. m == n) (names w k ns) ≡ rank w n k
rank-names w n none ns top each = absurd (false-true top)
rank-names w n (tree m c k r) ns top each =
    elim (cases_Bool (m == n)) [
      | inl e ↦ rw (each.0 e) (rw e refl)
      | inr e ↦ let h : position_or_len (λ m. m == n) (names w r ns) ≡ rank w n r = rank-names w n r ns (rw e at top) each.2 in
          elim (cases_Bool (w c)) [
            | inl q ↦ rw (q, e) (omega (arith, h))
            | inr q ↦ rw (q, e) h
          ]
    ]

pub tops-times : (n : ℕ) (t : Trees) → tops n t ≡ true → 1 ≤ times n t
tops-times n none h = absurd (false-true h)
tops-times n (tree m c k r) h =
    elim (cases_Bool (m == n)) [
      | inl e ↦ rw e (omega arith)
      | inr e ↦ let z : 1 ≤ times n r = tops-times n r (rw e at h) in rw e (omega (arith, z))
    ]

-- ---- a top is put again where it stood

inserted-first : (s r : Trees) → NoAttributes r → inserted zero s r ≡ followed s r
inserted-first s none h = sym (followed-none s)
inserted-first s (tree m c k r) h = rw h.0 refl

pub inserted-again : (n : ℕ) (k : Trees) → tops n k ≡ true → times n k ≡ 1 → Each (λ c. is_child c ≡ true) n k → AttributesFirst k → inserted (rank is_child n k) (found n k) (removed n k) ≡ k
inserted-again n none top once each order = absurd (false-true top)
inserted-again n (tree m c k r) top once each order =
    elim (cases_Bool (m == n)) [
      | inl e ↦
          let in_r : times n r ≡ 0 = omega (arith, (rw e at once)) in
          first e in_r (order.0 (child-plain c (each.0 e)))
      | inr e ↦
          let z = tops-times n r (rw e at top) in
          let in_k : times n k ≡ 0 = omega (arith, z, (rw e at once)) in
          let in_r : times n r ≡ 1 = omega (arith, z, (rw e at once)) in
          rest e in_k (inserted-again n r (rw e at top) in_r each.2 order.1)
    ]
  where
    first : (m == n) ≡ true → times n r ≡ 0 → NoAttributes r → inserted (rank is_child n (tree m c k r)) (found n (tree m c k r)) (removed n (tree m c k r)) ≡ tree m c k r
    first e in_r plain_after =
        rw e (ap (inserted 0 (tree m c k (found n r))) (removed-absent n r in_r) ∙ ap (λ x. inserted 0 (tree m c k x) r) (found-absent n r in_r)
        ∙ inserted-first (tree m c k none) r plain_after)

    rest : (m == n) ≡ false → times n k ≡ 0 → inserted (rank is_child n r) (found n r) (removed n r) ≡ r → inserted (rank is_child n (tree m c k r)) (found n (tree m c k r)) (removed n (tree m c k r)) ≡ tree m c k r
    rest e in_k h = rw e (ap (λ x. inserted (if is_child c then suc (rank is_child n r) else rank is_child n r) (followed x (found n r)) (tree m c (removed n k) (removed n r))) (found-absent n k in_k)
        ∙ ap (λ x. inserted (if is_child c then suc (rank is_child n r) else rank is_child n r) (found n r) (tree m c x (removed n r))) (removed-absent n k in_k) ∙ by (is_attribute c) refl)
      where
        by : (b : Bool) → is_attribute c ≡ b → inserted (cond (not b) (suc (rank is_child n r)) (rank is_child n r)) (found n r) (tree m c k (removed n r)) ≡ tree m c k r
        by true q = rw q (ap (tree m c k) h)
        by false q = rw q (ap (tree m c k) h)

beside-first : (s r : Trees) → beside zero s r ≡ followed s r
beside-first s none = sym (followed-none s)
beside-first s (tree m c k r) = by (is_attribute c)
  where
    by : (b : Bool) → cond b (followed s (tree m c k r)) (followed s (tree m c k r)) ≡ followed s (tree m c k r)
    by true = refl
    by false = refl

pub none-top : (n : ℕ) (r : Trees) → NoAttributes r → tops n r ≡ true → Each (λ c. is_attribute c ≡ true) n r → ⊥
none-top n none h top each = false-true top
none-top n (tree m c k r) h top each =
    elim (cases_Bool (m == n)) [
      | inl e ↦ false-true (sym h.0 ∙ each.0 e)
      | inr e ↦ none-top n r h.1 (rw e at top) each.2
    ]

pub beside-again : (n : ℕ) (k : Trees) → tops n k ≡ true → times n k ≡ 1 → Each (λ c. is_attribute c ≡ true) n k → AttributesFirst k → beside (rank is_attribute n k) (found n k) (removed n k) ≡ k
beside-again n none top once each order = absurd (false-true top)
beside-again n (tree m c k r) top once each order =
    elim (cases_Bool (m == n)) [
      | inl e ↦
          let in_r : times n r ≡ 0 = omega (arith, (rw e at once)) in
          rw e (ap (beside 0 (tree m c k (found n r))) (removed-absent n r in_r) ∙ ap (λ x. beside 0 (tree m c k x) r) (found-absent n r in_r) ∙ beside-first (tree m c k none) r)
      | inr e ↦
          let z = tops-times n r (rw e at top) in
          let in_k : times n k ≡ 0 = omega (arith, z, (rw e at once)) in
          let in_r : times n r ≡ 1 = omega (arith, z, (rw e at once)) in
          rest e in_k (is_one (is_attribute c) refl (rw e at top)) (beside-again n r (rw e at top) in_r each.2 order.1)
    ]
  where
    is_one : (b : Bool) → is_attribute c ≡ b → tops n r ≡ true → is_attribute c ≡ true
    is_one true q h = q
    is_one false q h = absurd (none-top n r (order.0 q) h each.2)

    rest : (m == n) ≡ false → times n k ≡ 0 → is_attribute c ≡ true → beside (rank is_attribute n r) (found n r) (removed n r) ≡ r
        → beside (rank is_attribute n (tree m c k r)) (found n (tree m c k r)) (removed n (tree m c k r)) ≡ tree m c k r
    rest e in_k q h = rw (e, q) (ap (λ x. tree m c (removed n k) (beside (rank is_attribute n r) (followed x (found n r)) (removed n r))) (found-absent n k in_k)
        ∙ ap (λ x. tree m c x (beside (rank is_attribute n r) (found n r) (removed n r))) (removed-absent n k in_k) ∙ ap (tree m c k) h)

pub under-times : (n p : ℕ) (t : Trees) → Under n p t → (1 ≤ times n t) × (1 ≤ times p t)
under-times n p none u = absurd u
under-times n p (tree m c k r) (inl u) = let a = tops-times n k u.1 in let e = u.0 in (omega (arith, a), rw e (omega arith))
under-times n p (tree m c k r) (inr (inl u)) = let a = under-times n p k u in let b = a.0 in let d = a.1 in (omega (arith, b), omega (arith, d))
under-times n p (tree m c k r) (inr (inr u)) = let a = under-times n p r u in let b = a.0 in let d = a.1 in (omega (arith, b), omega (arith, d))

-- tops of a kind are put again where they stood
abbrev pub Again : (Content → Bool) → ℕ → Type 0
Again w n = (k : Trees) → tops n k ≡ true → times n k ≡ 1 → Each (λ c. w c ≡ true) n k → AttributesFirst k → with_tree (rank w n k) (found n k) (removed n k) ≡ k

-- so is a node below its parent
pub changed-again : (w : Content → Bool) (n : ℕ) → Again w n → (p : ℕ) (t : Trees) (ns : List ℕ) → Under n p t → times n t ≡ 1 → times p t ≡ 1 → Each (λ c. w c ≡ true) n t → Ordered t
    → changed p (with_tree (position_or_len (λ m. m == n) (parts w false p t ns)) (found n t)) (removed n t) ≡ t
changed-again w n again p none ns under once one each order = absurd under
changed-again w n again p (tree m c k r) ns (inl u) once one each order =
    let e = u.0 in
    let a = tops-times n k u.1 in
    let p_k : times p k ≡ 0 = omega (arith, (rw e at one)) in
    let p_r : times p r ≡ 0 = omega (arith, (rw e at one)) in
    let other : (m == n) ≡ false = elim (cases_Bool (m == n)) [ inl f ↦ absurd (omega (arith, a, (rw f at once))) | inr f ↦ f ] in
    let n_k : times n k ≡ 1 = omega (arith, a, (rw other at once)) in
    let n_r : times n r ≡ 0 = omega (arith, a, (rw other at once)) in
    let turned : (p == m) ≡ true = grind (arith, nat_tests, e) in
    let tree_is : found n (tree m c k r) ≡ found n k = rw other (ap (followed (found n k)) (found-absent n r n_r) ∙ followed-none (found n k)) in
    let place_is : position_or_len (λ m. m == n) (parts w false p (tree m c k r) ns) ≡ rank w n k
    = ap (position_or_len (λ m. m == n)) (ap (λ b. parts w b p k (parts w false p r ns)) turned ∙ parts-names w p k (parts w false p r ns) p_k) ∙ rank-names w n k (parts w false p r ns) u.1 each.1 in
    let kids : with_tree (rank w n k) (found n k) (removed n k) ≡ k = again k u.1 n_k each.1 order.0 in
    ap (λ x. changed p (with_tree (position_or_len (λ m. m == n) (parts w false p (tree m c k r) ns)) x) (removed n (tree m c k r))) tree_is
    ∙ ap (λ i. changed p (with_tree i (found n k)) (removed n (tree m c k r))) place_is
    ∙ rw other (rw e (ap (λ x. tree m c x (changed p (with_tree (rank w n k) (found n k)) (removed n r))) kids
    ∙ ap (λ x. tree m c k (changed p (with_tree (rank w n k) (found n k)) x)) (removed-absent n r n_r) ∙ ap (tree m c k) (changed-absent p (with_tree (rank w n k) (found n k)) r p_r)))
changed-again w n again p (tree m c k r) ns (inr (inl u)) once one each order =
    let a = (under-times n p k u).0 in
    let b = (under-times n p k u).1 in
    let other_p : (m == p) ≡ false = elim (cases_Bool (m == p)) [ inl f ↦ absurd (omega (arith, b, (rw f at one))) | inr f ↦ f ] in
    let other : (m == n) ≡ false = elim (cases_Bool (m == n)) [ inl f ↦ absurd (omega (arith, a, (rw f at once))) | inr f ↦ f ] in
    let n_k : times n k ≡ 1 = omega (arith, a, (rw other at once)) in
    let n_r : times n r ≡ 0 = omega (arith, a, (rw other at once)) in
    let p_k : times p k ≡ 1 = omega (arith, b, (rw other_p at one)) in
    let p_r : times p r ≡ 0 = omega (arith, b, (rw other_p at one)) in
    let turned : (p == m) ≡ false = grind (arith, nat_tests, other_p) in
    let tree_is : found n (tree m c k r) ≡ found n k = rw other (ap (followed (found n k)) (found-absent n r n_r) ∙ followed-none (found n k)) in
    let list_is : parts w false p (tree m c k r) ns ≡ parts w false p k (parts w false p r ns) = ap (λ b. parts w b p k (parts w false p r ns)) turned in
    let place = position_or_len (λ m. m == n) (parts w false p k (parts w false p r ns)) in
    ap (λ x. changed p (with_tree (position_or_len (λ m. m == n) (parts w false p (tree m c k r) ns)) x) (removed n (tree m c k r))) tree_is
    ∙ ap (λ l. changed p (with_tree (position_or_len (λ m. m == n) l) (found n k)) (removed n (tree m c k r))) list_is
    ∙ rw other (rw other_p (ap (λ x. tree m c x (changed p (with_tree place (found n k)) (removed n r))) (changed-again w n again p k (parts w false p r ns) u n_k p_k each.1 order.1)
    ∙ ap (λ x. tree m c k (changed p (with_tree place (found n k)) x)) (removed-absent n r n_r) ∙ ap (tree m c k) (changed-absent p (with_tree place (found n k)) r p_r)))
changed-again w n again p (tree m c k r) ns (inr (inr u)) once one each order =
    let a = (under-times n p r u).0 in
    let b = (under-times n p r u).1 in
    let other_p : (m == p) ≡ false = elim (cases_Bool (m == p)) [ inl f ↦ absurd (omega (arith, b, (rw f at one))) | inr f ↦ f ] in
    let other : (m == n) ≡ false = elim (cases_Bool (m == n)) [ inl f ↦ absurd (omega (arith, a, (rw f at once))) | inr f ↦ f ] in
    let n_r : times n r ≡ 1 = omega (arith, a, (rw other at once)) in
    let n_k : times n k ≡ 0 = omega (arith, a, (rw other at once)) in
    let p_r : times p r ≡ 1 = omega (arith, b, (rw other_p at one)) in
    let p_k : times p k ≡ 0 = omega (arith, b, (rw other_p at one)) in
    let turned : (p == m) ≡ false = grind (arith, nat_tests, other_p) in
    let tree_is : found n (tree m c k r) ≡ found n r = rw other (ap (λ x. followed x (found n r)) (found-absent n k n_k)) in
    let list_is : parts w false p (tree m c k r) ns ≡ parts w false p r ns = ap (λ b. parts w b p k (parts w false p r ns)) turned ∙ parts-absent w p k (parts w false p r ns) p_k in
    let place = position_or_len (λ m. m == n) (parts w false p r ns) in
    ap (λ x. changed p (with_tree (position_or_len (λ m. m == n) (parts w false p (tree m c k r) ns)) x) (removed n (tree m c k r))) tree_is
    ∙ ap (λ l. changed p (with_tree (position_or_len (λ m. m == n) l) (found n r)) (removed n (tree m c k r))) list_is
    ∙ rw other (rw other_p (ap (λ x. tree m c (changed p (with_tree place (found n r)) x) (changed p (with_tree place (found n r)) (removed n r))) (removed-absent n k n_k)
    ∙ ap (λ x. tree m c x (changed p (with_tree place (found n r)) (removed n r))) (changed-absent p (with_tree place (found n r)) k p_k) ∙ ap (tree m c k) (changed-again w n again p r ns u n_r p_r each.2 order.2)))

-- a child is put among children, and an attribute among attributes
pub child-again : (n : ℕ) → Again is_child n
child-again n k top once each order =
    let t = found-tree (λ c. is_child c ≡ true) n k once each in
    ap (λ x. with_tree (rank is_child n k) x (removed n k)) t.is ∙ plainly t.content t.below (child-plain t.content t.kind) ∙ ap (λ x. inserted (rank is_child n k) x (removed n k)) (sym t.is) ∙ inserted-again n k top once each order
  where
    plainly : (d : Content) (j : Trees) → is_attribute d ≡ false → with_tree (rank is_child n k) (tree n d j none) (removed n k) ≡ inserted (rank is_child n k) (tree n d j none) (removed n k)
    plainly d j q = rw q refl

pub attribute-again : (n : ℕ) → Again is_attribute n
attribute-again n k top once each order =
    let t = found-tree (λ c. is_attribute c ≡ true) n k once each in
    ap (λ x. with_tree (rank is_attribute n k) x (removed n k)) t.is ∙ plainly t.content t.below t.kind ∙ ap (λ x. beside (rank is_attribute n k) x (removed n k)) (sym t.is) ∙ beside-again n k top once each order
  where
    plainly : (d : Content) (j : Trees) → is_attribute d ≡ true → with_tree (rank is_attribute n k) (tree n d j none) (removed n k) ≡ beside (rank is_attribute n k) (tree n d j none) (removed n k)
    plainly d j q = rw q refl
