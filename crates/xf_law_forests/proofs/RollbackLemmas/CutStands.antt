-- Where a node stood says where it can stand again.
use Rattle.std.proofs.Common.{◌≡◌, ℕ, ◌==◌, Bool, true, false, cond, ◌&&◌, ◌||◌, List, [], ◌∷◌, Option, Some, None, refl, sym, ap, ◌∙◌, subst, inl, inr, arith}
use Rattle.std.specs.Prelude.{◌⊎◌}
use Rattle.std.specs.List.{position_or_len}
use Rattle.std.proofs.lemmas.Bool.{cases_Bool}
use Rattle.std.proofs.lemmas.Bool.Decides.{nat_tests}
use Rattle.xf_def_forest.specs.declared.content.Content.{Content}
use Rattle.xf_def_forest.specs.declared.content.Content.TheVariants.{Root, Element, Attribute, Text}
use Rattle.xf_def_forest.specs.Forest.{is_root, is_element, is_attribute}
use Rattle.xf_def_forest.specs.Visit.{Visit, visits, parent_of, has, attributes_of}
use Rattle.xf_def_forest.specs.Changes.{place_in, with_place, standing}
use Rattle.xf_def_forest.proofs.BackLaws.{and-true, false-true}
use Rattle.xf_law_forests.proofs.RollbackLemmas.Trees.{Trees, none, tree, onto, times, times-followed}
use Rattle.xf_law_forests.proofs.RollbackLemmas.TreeShape.{Sound, is_leaf}
use Rattle.xf_law_forests.proofs.RollbackLemmas.TreeFacts.{is_at, or-cases}
use Rattle.xf_law_forests.proofs.RollbackLemmas.TreeMoves.{found, found-absent}
use Rattle.xf_law_forests.proofs.RollbackLemmas.MoveFacts.{removed-times}
use Rattle.xf_law_forests.proofs.RollbackLemmas.NodeKinds.{Each}
use Rattle.xf_law_forests.proofs.RollbackLemmas.TreeTops.{tops}
use Rattle.xf_law_forests.proofs.RollbackLemmas.TreeRanks.{is_child, child-plain, parts, parts-are, parts-other, Under, under-times, under-parent, tops-times}

-- ---- the parent is not in the tree

pub under-outside : (n p : ℕ) (t : Trees) → Under n p t → times n t ≡ 1 → times p t ≡ 1 → times p (found n t) ≡ 0
under-outside n p none under once one = absurd under
under-outside n p (tree m c k r) (inl u) once one =
    let e = u.0 in
    let a = tops-times n k u.1 in
    let p_k : times p k ≡ 0 = omega (arith, (rw e at one)) in
    let other : (m == n) ≡ false = elim (cases_Bool (m == n)) [ inl f ↦ absurd (omega (arith, a, (rw f at once))) | inr f ↦ f ] in
    let n_r : times n r ≡ 0 = omega (arith, a, (rw other at once)) in
    let out : times p (found n k) ≡ 0 = let s = removed-times p n k in omega (arith, s, p_k) in
    let out_r : times p (found n r) ≡ 0 = ap (times p) (found-absent n r n_r) in
    rw other (times-followed p (found n k) (found n r) ∙ (omega (arith, out, out_r)))
under-outside n p (tree m c k r) (inr (inl u)) once one =
    let a = (under-times n p k u).0 in
    let b = (under-times n p k u).1 in
    let other_p : (m == p) ≡ false = elim (cases_Bool (m == p)) [ inl f ↦ absurd (omega (arith, b, (rw f at one))) | inr f ↦ f ] in
    let other : (m == n) ≡ false = elim (cases_Bool (m == n)) [ inl f ↦ absurd (omega (arith, a, (rw f at once))) | inr f ↦ f ] in
    let n_r : times n r ≡ 0 = omega (arith, a, (rw other at once)) in
    let out = under-outside n p k u (omega (arith, a, (rw other at once))) (omega (arith, b, (rw other_p at one))) in
    let out_r : times p (found n r) ≡ 0 = ap (times p) (found-absent n r n_r) in
    rw other (times-followed p (found n k) (found n r) ∙ (omega (arith, out, out_r)))
under-outside n p (tree m c k r) (inr (inr u)) once one =
    let a = (under-times n p r u).0 in
    let b = (under-times n p r u).1 in
    let other_p : (m == p) ≡ false = elim (cases_Bool (m == p)) [ inl f ↦ absurd (omega (arith, b, (rw f at one))) | inr f ↦ f ] in
    let other : (m == n) ≡ false = elim (cases_Bool (m == n)) [ inl f ↦ absurd (omega (arith, a, (rw f at once))) | inr f ↦ f ] in
    let n_k : times n k ≡ 0 = omega (arith, a, (rw other at once)) in
    let out = under-outside n p r u (omega (arith, a, (rw other at once))) (omega (arith, b, (rw other_p at one))) in
    let out_k : times p (found n k) ≡ 0 = ap (times p) (found-absent n k n_k) in
    rw other (times-followed p (found n k) (found n r) ∙ (omega (arith, out, out_k)))

-- ---- the parent is an element or a root

pub or-right : (a b : Bool) → b ≡ true → (a || b) ≡ true
or-right true b h = refl
or-right false b h = h

or-left : (a b : Bool) → a ≡ true → (a || b) ≡ true
or-left true b h = refl
or-left false b h = absurd (false-true h)

abbrev bears : Content → Bool
bears c = is_element c || is_root c

leaf-or-bears : (c : Content) → (is_leaf c ≡ true) ⊎ (bears c ≡ true)
leaf-or-bears Root = inr refl
leaf-or-bears (Element name) = inr refl
leaf-or-bears (Attribute name text) = inl refl
leaf-or-bears (Text text) = inl refl

pub under-bears : (n p : ℕ) (u : Bool) (t : Trees) → Sound u t → Under n p t → is_at bears p t ≡ true
under-bears n p u none s under = absurd under
under-bears n p u (tree m c k r) s (inl a) = or-left ((m == p) && bears c) (is_at bears p k || is_at bears p r) (rw a.0 (by (leaf-or-bears c)))
  where
    by : (is_leaf c ≡ true) ⊎ (bears c ≡ true) → bears c ≡ true
    by (inl e) = absurd (false-true (subst (λ j. tops n j ≡ true) (s.0 e) a.1))
    by (inr e) = e
under-bears n p u (tree m c k r) s (inr (inl a)) = or-right ((m == p) && bears c) (is_at bears p k || is_at bears p r) (or-left (is_at bears p k) (is_at bears p r) (under-bears n p true k s.2 a))
under-bears n p u (tree m c k r) s (inr (inr a)) = or-right ((m == p) && bears c) (is_at bears p k || is_at bears p r) (or-right (is_at bears p k) (is_at bears p r) (under-bears n p u r s.3 a))

pub element-or-root : (p : ℕ) (t : Trees) → is_at bears p t ≡ true → (is_at is_element p t ≡ true) ⊎ (is_at is_root p t ≡ true)
element-or-root p none h = absurd (false-true h)
element-or-root p (tree m c k r) h = or-cases ((m == p) && bears c) (is_at bears p k || is_at bears p r) h _ first (λ g. or-cases (is_at bears p k) (is_at bears p r) g _ (λ f. inner (element-or-root p k f)) (λ f. last (element-or-root p r f)))
  where
    Result : Type 0
    Result = (is_at is_element p (tree m c k r) ≡ true) ⊎ (is_at is_root p (tree m c k r) ≡ true)

    first : ((m == p) && bears c) ≡ true → (is_at is_element p (tree m c k r) ≡ true) ⊎ (is_at is_root p (tree m c k r) ≡ true)
    first g = let parts = and-true (m == p) (bears c) g in or-cases (is_element c) (is_root c) parts.1 _
        (λ f. inl (or-left ((m == p) && is_element c) (is_at is_element p k || is_at is_element p r) (rw parts.0 f)))
        (λ f. inr (or-left ((m == p) && is_root c) (is_at is_root p k || is_at is_root p r) (rw parts.0 f)))

    inner : (is_at is_element p k ≡ true) ⊎ (is_at is_root p k ≡ true) → (is_at is_element p (tree m c k r) ≡ true) ⊎ (is_at is_root p (tree m c k r) ≡ true)
    inner (inl f) = inl (or-right ((m == p) && is_element c) (is_at is_element p k || is_at is_element p r) (or-left (is_at is_element p k) (is_at is_element p r) f))
    inner (inr f) = inr (or-right ((m == p) && is_root c) (is_at is_root p k || is_at is_root p r) (or-left (is_at is_root p k) (is_at is_root p r) f))

    last : (is_at is_element p r ≡ true) ⊎ (is_at is_root p r ≡ true) → (is_at is_element p (tree m c k r) ≡ true) ⊎ (is_at is_root p (tree m c k r) ≡ true)
    last (inl f) = inl (or-right ((m == p) && is_element c) (is_at is_element p k || is_at is_element p r) (or-right (is_at is_element p k) (is_at is_element p r) f))
    last (inr f) = inr (or-right ((m == p) && is_root c) (is_at is_root p k || is_at is_root p r) (or-right (is_at is_root p k) (is_at is_root p r) f))

-- ---- a place among children or attributes

pub record Place (w : Content → Bool) (n p place : ℕ) (t : Trees) : Type 0 where
  pub under : Under n p t
  pub at : place ≡ position_or_len (λ m. m == n) (parts w false p t [])

none-some : {x : ℕ × ℕ} → ◌≡◌ {A = Option (ℕ × ℕ)} None (Some x) → ⊥
none-some e = cc e

same-pair : {x y : ℕ × ℕ} → ◌≡◌ {A = Option (ℕ × ℕ)} (Some x) (Some y) → x ≡ y
same-pair e = cc e

standing-parts : (n p place : ℕ) (vs : List Visit) → with_place vs n (parent_of n vs) ≡ Some (p, place) → (parent_of n vs ≡ Some p) × (place_in vs n p ≡ place)
standing-parts n p place vs h = by (parent_of n vs) refl h
  where
    by : (o : Option ℕ) → parent_of n vs ≡ o → with_place vs n o ≡ Some (p, place) → (parent_of n vs ≡ Some p) × (place_in vs n p ≡ place)
    by None e g = absurd (none-some g)
    by (Some q) e g =
        let pair = same-pair g in
        let is : q ≡ p = ap (λ x. x.0) pair in
        (e ∙ ap Some is, ap (place_in vs n) (sym is) ∙ ap (λ x. x.1) pair)

pub place-child : (n p place : ℕ) (t : Trees) → times n t ≡ 1 → Each (λ c. is_child c ≡ true) n t → standing n (onto 0 t []) ≡ Some (p, place) → Place is_child n p place t
place-child n p place t once each h =
    let both = standing-parts n p place (visits (onto 0 t [])) h in
    let out : has n (attributes_of p (visits (onto 0 t []))) ≡ false = ap (has n) (parts-are is_attribute p t) ∙ parts-other is_attribute n false p t [] (none-of t each) in
    record { under = under-parent n p t once both.0; at = sym both.1 ∙ rw out (ap (position_or_len (λ m. m == n)) (parts-are is_child p t)) }
  where
    none-of : (t : Trees) → Each (λ c. is_child c ≡ true) n t → Each (λ c. is_attribute c ≡ false) n t
    none-of none h = tt
    none-of (tree m c k r) h = (λ e. child-plain c (h.0 e), none-of k h.1, none-of r h.2)

turned : (m n : ℕ) → (m == n) ≡ true → (n == m) ≡ true
turned m n e = grind (arith, nat_tests, e)

has-more : (w : Content → Bool) (n : ℕ) (u : Bool) (p : ℕ) (t : Trees) (ns : List ℕ) → has n ns ≡ true → has n (parts w u p t ns) ≡ true
has-more w n u p none ns h = h
has-more w n u p (tree m c k r) ns h = by (u && w c) (has-more w n (p == m) p k (parts w u p r ns) (has-more w n u p r ns h))
  where
    by : (b : Bool) → has n (parts w (p == m) p k (parts w u p r ns)) ≡ true → has n (cond b (m ∷ parts w (p == m) p k (parts w u p r ns)) (parts w (p == m) p k (parts w u p r ns))) ≡ true
    by true g = or-right (n == m) (has n (parts w (p == m) p k (parts w u p r ns))) g
    by false g = g

has-top : (w : Content → Bool) (n p : ℕ) (t : Trees) (ns : List ℕ) → tops n t ≡ true → Each (λ c. w c ≡ true) n t → has n (parts w true p t ns) ≡ true
has-top w n p none ns top each = absurd (false-true top)
has-top w n p (tree m c k r) ns top each =
    elim (cases_Bool (m == n)) [
      | inl e ↦ rw (each.0 e) (ap (λ b. b || has n (parts w (p == m) p k (parts w true p r ns))) (turned m n e))
      | inr e ↦ by (w c) (has-more w n (p == m) p k (parts w true p r ns) (has-top w n p r ns (rw e at top) each.2))
    ]
  where
    by : (b : Bool) → has n (parts w (p == m) p k (parts w true p r ns)) ≡ true → has n (cond (true && b) (m ∷ parts w (p == m) p k (parts w true p r ns)) (parts w (p == m) p k (parts w true p r ns))) ≡ true
    by true g = or-right (n == m) (has n (parts w (p == m) p k (parts w true p r ns))) g
    by false g = g

has-under : (w : Content → Bool) (n : ℕ) (u : Bool) (p : ℕ) (t : Trees) (ns : List ℕ) → Under n p t → Each (λ c. w c ≡ true) n t → has n (parts w u p t ns) ≡ true
has-under w n u p none ns under each = absurd under
has-under w n u p (tree m c k r) ns under each = by (u && w c) (inner under (λ g. has-under w n (p == m) p k (parts w u p r ns) g each.1) (λ g. has-under w n u p r ns g each.2))
  where
    inner : Under n p (tree m c k r) → (Under n p k → has n (parts w (p == m) p k (parts w u p r ns)) ≡ true) → (Under n p r → has n (parts w u p r ns) ≡ true) → has n (parts w (p == m) p k (parts w u p r ns)) ≡ true
    inner (inl g) one two = ap (λ b. has n (parts w b p k (parts w u p r ns))) (turned m p g.0) ∙ has-top w n p k (parts w u p r ns) g.1 each.1
    inner (inr (inl g)) one two = one g
    inner (inr (inr g)) one two = has-more w n (p == m) p k (parts w u p r ns) (two g)

    by : (b : Bool) → has n (parts w (p == m) p k (parts w u p r ns)) ≡ true → has n (cond b (m ∷ parts w (p == m) p k (parts w u p r ns)) (parts w (p == m) p k (parts w u p r ns))) ≡ true
    by true g = or-right (n == m) (has n (parts w (p == m) p k (parts w u p r ns))) g
    by false g = g

pub place-attribute : (n p place : ℕ) (t : Trees) → times n t ≡ 1 → Each (λ c. is_attribute c ≡ true) n t → standing n (onto 0 t []) ≡ Some (p, place) → Place is_attribute n p place t
place-attribute n p place t once each h =
    let both = standing-parts n p place (visits (onto 0 t [])) h in
    let under = under-parent n p t once both.0 in
    let within : has n (attributes_of p (visits (onto 0 t []))) ≡ true = ap (has n) (parts-are is_attribute p t) ∙ has-under is_attribute n false p t [] under each in
    record { under = under; at = sym both.1 ∙ rw within (ap (position_or_len (λ m. m == n)) (parts-are is_attribute p t)) }
