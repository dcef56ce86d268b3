-- An element without element children, or an attribute, in trees: where a text can be set.
use Rattle.std.proofs.Common.{◌≡◌, ℕ, ◌+◌, ◌==◌, Bool, true, false, cond, ◌&&◌, ◌||◌, List, [], refl, sym, ap, ◌∙◌, subst, inl, inr, arith}
use Rattle.std.specs.Prelude.{◌≤◌, if◌then◌else◌}
use Rattle.std.proofs.lemmas.Bool.{cases_Bool}
use Rattle.std.proofs.lemmas.Bool.Decides.{nat_tests}
use Rattle.xf_def_forest.specs.declared.content.Content.{Content}
use Rattle.xf_def_forest.specs.declared.content.Content.TheVariants.{Root, Element, Attribute, Text}
use Rattle.xf_def_forest.specs.Forest.{is_root, is_element, is_attribute, is_text}
use Rattle.xf_def_forest.specs.Visit.{has}
use Rattle.xf_def_forest.specs.Texts.{with_value}
use Rattle.xf_def_forest.proofs.BackLaws.{or-false, false-true}
use Rattle.xf_law_forests.proofs.RollbackLemmas.Trees.{Trees, none, tree, followed, times, times-followed}
use Rattle.xf_law_forests.proofs.RollbackLemmas.TreeTexts.{attributes, retexted, revalued, retexted-absent, times-split, Bare, BareAt}
use Rattle.xf_law_forests.proofs.RollbackLemmas.TreeVisits.{elements}
use Rattle.xf_law_forests.proofs.RollbackLemmas.TreeShape.{Sound, is_leaf}
use Rattle.xf_law_forests.proofs.RollbackLemmas.TreeMoved.{value-element}
use Rattle.xf_law_forests.proofs.RollbackLemmas.TreeBlank.{textless, blank, AreTexts, AreLeaves, LeafAt, leaf-absent}
use Rattle.xf_law_forests.proofs.RollbackLemmas.TreeAgain.{AttributeAt}
use Rattle.xf_law_forests.proofs.RollbackLemmas.TreeFacts.{sound-blank, is_at, at-times, or-cases}

turned : (m n : ℕ) → (m == n) ≡ true → (n == m) ≡ true
turned m n e = grind (arith, nat_tests, e)

-- ---- elements directly below a node

elements-textless : (u : Bool) (n : ℕ) (inside : Bool) (t : Trees) → Sound inside t → elements u n (textless t) ≡ elements u n t
elements-textless u n inside none h = refl
elements-textless u n inside (tree m c k r) h =
    elim (cases_Bool (is_text c)) [
      | inl e ↦
          let bare : k ≡ none = h.0 (ap (λ b. is_attribute c || b) e ∙ or-true (is_attribute c)) in
          rw (e, text-no_element c e) (elements-textless u n inside r h.3 ∙ subst (λ j. elements u n r ≡ (elements (n == m) n j || elements u n r)) (sym bare) refl)
      | inr e ↦ rw e (ap (λ b. (is_element c && u) || (elements (n == m) n k || b)) (elements-textless u n inside r h.3))
    ]
  where
    or-true : (b : Bool) → (b || true) ≡ true
    or-true true = refl
    or-true false = refl

    text-no_element : (c : Content) → is_text c ≡ true → is_element c ≡ false
    text-no_element Root e = refl
    text-no_element (Element name) e = cc e
    text-no_element (Attribute name text) e = refl
    text-no_element (Text text) e = refl

pub elements-blank : (u : Bool) (n : ℕ) (inside : Bool) (ns : List ℕ) (t : Trees) → Sound inside t → elements u n (blank ns t) ≡ elements u n t
elements-blank u n inside ns none h = refl
elements-blank u n inside ns (tree m c k r) h =
    ap (λ b. (b && u) || (elements (n == m) n (if has m ns then textless (blank ns k) else blank ns k) || elements u n (blank ns r))) (content (has m ns))
    ∙ ap (λ b. (is_element c && u) || (b || elements u n (blank ns r))) (by (has m ns) (elements-blank (n == m) n true ns k h.2))
    ∙ ap (λ b. (is_element c && u) || (elements (n == m) n k || b)) (elements-blank u n inside ns r h.3)
  where
    content : (b : Bool) → is_element (cond b (with_value [] c) c) ≡ is_element c
    content true = value-element [] c
    content false = refl

    by : (b : Bool) → elements (n == m) n (blank ns k) ≡ elements (n == m) n k → elements (n == m) n (cond b (textless (blank ns k)) (blank ns k)) ≡ elements (n == m) n k
    by true e = elements-textless (n == m) n true (blank ns k) (sound-blank true ns k h.2) ∙ e
    by false e = e

pub elements-absent : (n : ℕ) (t : Trees) → times n t ≡ 0 → elements false n t ≡ false
elements-absent n none h = refl
elements-absent n (tree m c k r) h =
    let parts = times-split n m c k r h in
    let other : (n == m) ≡ false = let e = parts.0 in grind (arith, nat_tests, e) in
    ap (λ b. (is_element c && false) || (elements b n k || elements false n r)) other
    ∙ ap (λ b. (is_element c && false) || (b || elements false n r)) (elements-absent n k parts.1)
    ∙ ap (λ b. (is_element c && false) || b) (elements-absent n r parts.2) ∙ none-left (is_element c)
  where
    none-left : (b : Bool) → ((b && false) || false) ≡ false
    none-left true = refl
    none-left false = refl

pub elements-followed : (u : Bool) (n : ℕ) (t s : Trees) → elements u n (followed t s) ≡ (elements u n t || elements u n s)
elements-followed u n none s = refl
elements-followed u n (tree m c k r) s = ap (λ b. (is_element c && u) || (elements (n == m) n k || b)) (elements-followed u n r s) ∙ assoc (is_element c && u) (elements (n == m) n k) (elements u n r) (elements u n s)
  where
    assoc : (a b c d : Bool) → (a || (b || (c || d))) ≡ ((a || (b || c)) || d)
    assoc true b c d = refl
    assoc false true c d = refl
    assoc false false c d = refl

-- ---- leaves

leaf-content : (c : Content) → (is_element c && true) ≡ false → (is_root c && true) ≡ false → is_leaf c ≡ true
leaf-content Root e f = cc f
leaf-content (Element name) e f = cc e
leaf-content (Attribute name text) e f = refl
leaf-content (Text text) e f = refl

leaves-of : (n : ℕ) (t : Trees) → Sound true t → elements true n t ≡ false → AreLeaves t
leaves-of n none s h = tt
leaves-of n (tree m c k r) s h =
    let parts = or-false (is_element c && true) (elements (n == m) n k || elements true n r) h in
    let leaf = leaf-content c parts.0 s.1 in
    (leaf, s.0 leaf, leaves-of n r s.3 (or-false (elements (n == m) n k) (elements true n r) parts.1).1)

no-at : (q : Content → Bool) (n : ℕ) (t : Trees) → times n t ≡ 0 → is_at q n t ≡ true → ⊥
no-at q n t none_ h = let k = at-times q n t h in let no : ⊥ = omega (arith, k, none_) in no

pub leaf-of : (n : ℕ) (inside u : Bool) (t : Trees) → Sound inside t → times n t ≤ 1 → is_at is_element n t ≡ true → elements u n t ≡ false → LeafAt n t
leaf-of n inside u none s once at_ h = absurd (false-true at_)
leaf-of n inside u (tree m c k r) s once at_ h =
    let parts = or-false (is_element c && u) (elements (n == m) n k || elements u n r) h in
    let inner = or-false (elements (n == m) n k) (elements u n r) parts.1 in
    elim (cases_Bool (m == n)) [
      | inl e ↦
          let in_k : times n k ≡ 0 = omega (arith, (rw e at once)) in
          let in_r : times n r ≡ 0 = omega (arith, (rw e at once)) in
          let is : is_element c ≡ true = first (rw e at at_) in_k in_r in
          (λ f. (is, leaves-of n k s.2 (subst (λ b. elements b n k ≡ false) (turned m n e) inner.0)), leaf-absent n k in_k, leaf-absent n r in_r)
      | inr e ↦
          let whole : times n k + times n r ≤ 1 = omega (arith, (rw e at once)) in (
            λ f. absurd (false-true (sym e ∙ f)),
            or-cases (is_at is_element n k) (is_at is_element n r) (rw e at at_) (LeafAt n k) (λ g. leaf-of n true (n == m) k s.2 (omega (arith, whole)) g inner.0) (λ g. let z = at-times is_element n r g in leaf-absent n k (omega (arith, whole, z))),
            or-cases (is_at is_element n k) (is_at is_element n r) (rw e at at_) (LeafAt n r) (λ g. let z = at-times is_element n k g in leaf-absent n r (omega (arith, whole, z))) (λ g. leaf-of n inside u r s.3 (omega (arith, whole)) g inner.1),
          )
    ]
  where
    first : (is_element c || (is_at is_element n k || is_at is_element n r)) ≡ true → times n k ≡ 0 → times n r ≡ 0 → is_element c ≡ true
    first g p q = or-cases (is_element c) (is_at is_element n k || is_at is_element n r) g (is_element c ≡ true) (λ x. x)
        (λ x. or-cases (is_at is_element n k) (is_at is_element n r) x (is_element c ≡ true) (λ y. absurd (no-at is_element n k p y)) (λ y. absurd (no-at is_element n r q y)))

bare-leaves : (t : Trees) → AreLeaves t → Bare t
bare-leaves none h = tt
bare-leaves (tree n c k r) h = (h.1, bare-leaves r h.2)

pub bare-leaf : (n : ℕ) (t : Trees) → LeafAt n t → BareAt n t
bare-leaf n none h = tt
bare-leaf n (tree m c k r) h = (λ e. bare-leaves k (h.0 e).1, bare-leaf n k h.1, bare-leaf n r h.2)

attribute-absent : (n : ℕ) (t : Trees) → times n t ≡ 0 → AttributeAt n t
attribute-absent n none h = tt
attribute-absent n (tree m c k r) h =
    let parts = times-split n m c k r h in
    (λ e. absurd (false-true (sym parts.0 ∙ e)), attribute-absent n k parts.1, attribute-absent n r parts.2)

pub attribute-of : (n : ℕ) (inside : Bool) (t : Trees) → Sound inside t → times n t ≤ 1 → is_at is_attribute n t ≡ true → AttributeAt n t
attribute-of n inside none s once at_ = absurd (false-true at_)
attribute-of n inside (tree m c k r) s once at_ =
    elim (cases_Bool (m == n)) [
      | inl e ↦
          let in_k : times n k ≡ 0 = omega (arith, (rw e at once)) in
          let in_r : times n r ≡ 0 = omega (arith, (rw e at once)) in
          let is : is_attribute c ≡ true = first (rw e at at_) in_k in_r in
          (λ f. (is, s.0 (ap (λ b. b || is_text c) is)), attribute-absent n k in_k, attribute-absent n r in_r)
      | inr e ↦
          let whole : times n k + times n r ≤ 1 = omega (arith, (rw e at once)) in (
            λ f. absurd (false-true (sym e ∙ f)),
            or-cases (is_at is_attribute n k) (is_at is_attribute n r) (rw e at at_) (AttributeAt n k) (λ g. attribute-of n true k s.2 (omega (arith, whole)) g) (λ g. let z = at-times is_attribute n r g in attribute-absent n k (omega (arith, whole, z))),
            or-cases (is_at is_attribute n k) (is_at is_attribute n r) (rw e at at_) (AttributeAt n r) (λ g. let z = at-times is_attribute n k g in attribute-absent n r (omega (arith, whole, z))) (λ g. attribute-of n inside r s.3 (omega (arith, whole)) g),
          )
    ]
  where
    first : (is_attribute c || (is_at is_attribute n k || is_at is_attribute n r)) ≡ true → times n k ≡ 0 → times n r ≡ 0 → is_attribute c ≡ true
    first g p q = or-cases (is_attribute c) (is_at is_attribute n k || is_at is_attribute n r) g (is_attribute c ≡ true) (λ x. x)
        (λ x. or-cases (is_at is_attribute n k) (is_at is_attribute n r) x (is_attribute c ≡ true) (λ y. absurd (no-at is_attribute n k p y)) (λ y. absurd (no-at is_attribute n r q y)))

-- ---- after a setting

texts-no_elements : (u : Bool) (n : ℕ) (t : Trees) → AreTexts t → elements u n t ≡ false
texts-no_elements u n none h = refl
texts-no_elements u n (tree m c k r) h =
    subst (λ j. ((is_element c && u) || (elements (n == m) n j || elements u n r)) ≡ false) (sym h.1)
    (ap (λ b. (b && u) || elements u n r) (no_element c h.0) ∙ texts-no_elements u n r h.2)
  where
    no_element : (c : Content) → is_text c ≡ true → is_element c ≡ false
    no_element Root e = refl
    no_element (Element name) e = cc e
    no_element (Attribute name text) e = refl
    no_element (Text text) e = refl

attributes-no_elements : (u : Bool) (n : ℕ) (t : Trees) → AreLeaves t → elements u n (attributes t) ≡ false
attributes-no_elements u n none h = refl
attributes-no_elements u n (tree m c k r) h = by (is_attribute c) refl (attributes-no_elements u n r h.2)
  where
    no_element : (c : Content) → is_attribute c ≡ true → is_element c ≡ false
    no_element Root e = refl
    no_element (Element name) e = cc e
    no_element (Attribute name text) e = refl
    no_element (Text text) e = refl

    by : (b : Bool) → is_attribute c ≡ b → elements u n (attributes r) ≡ false → elements u n (cond b (tree m c k (attributes r)) (attributes r)) ≡ false
    by true e f = subst (λ j. ((is_element c && u) || (elements (n == m) n j || elements u n (attributes r))) ≡ false) (sym h.1) (ap (λ b. (b && u) || elements u n (attributes r)) (no_element c e) ∙ f)
    by false e f = f

pub elements-retexted : (u : Bool) (n : ℕ) (s t : Trees) → AreTexts s → LeafAt n t → elements u n t ≡ false → elements u n (retexted n s t) ≡ false
elements-retexted u n s none texts leaf h = refl
elements-retexted u n s (tree m c k r) texts leaf h =
    let parts = or-false (is_element c && u) (elements (n == m) n k || elements u n r) h in
    let inner = or-false (elements (n == m) n k) (elements u n r) parts.1 in
    ap (λ b. b || (elements (n == m) n (if m == n then followed (attributes k) s else retexted n s k) || elements u n (retexted n s r))) parts.0
    ∙ ap (λ b. elements (n == m) n (if m == n then followed (attributes k) s else retexted n s k) || b) (elements-retexted u n s r texts leaf.2 inner.1)
    ∙ ap (λ b. b || false) (by (m == n) refl (elements-retexted (n == m) n s k texts leaf.1 inner.0))
  where
    by : (b : Bool) → (m == n) ≡ b → elements (n == m) n (retexted n s k) ≡ false → elements (n == m) n (cond b (followed (attributes k) s) (retexted n s k)) ≡ false
    by true e f = elements-followed (n == m) n (attributes k) s ∙ ap (λ b. b || elements (n == m) n s) (attributes-no_elements (n == m) n k (leaf.0 e).1) ∙ texts-no_elements (n == m) n s texts
    by false e f = f

pub at-retexted : (n : ℕ) (s t : Trees) → LeafAt n t → is_at is_element n t ≡ true → is_at is_element n (retexted n s t) ≡ true
at-retexted n s none leaf h = h
at-retexted n s (tree m c k r) leaf h =
    elim (cases_Bool (m == n)) [
      | inl e ↦ rw e (rw (leaf.0 e).0 refl)
      | inr e ↦ rw e (or-cases (is_at is_element n k) (is_at is_element n r) (rw e at h) ((is_at is_element n (retexted n s k) || is_at is_element n (retexted n s r)) ≡ true)
          (λ g. ap (λ b. b || is_at is_element n (retexted n s r)) (at-retexted n s k leaf.1 g))
          (λ g. ap (λ b. is_at is_element n (retexted n s k) || b) (at-retexted n s r leaf.2 g) ∙ or-true (is_at is_element n (retexted n s k))))
    ]
  where
    or-true : (b : Bool) → (b || true) ≡ true
    or-true true = refl
    or-true false = refl

-- ---- numbers

attributes-times : (p : ℕ) (t : Trees) → times p (attributes t) ≤ times p t
attributes-times p none = omega arith
attributes-times p (tree n c k r) = by (is_attribute c) (attributes-times p r)
  where
    by : (b : Bool) → times p (attributes r) ≤ times p r → times p (cond b (tree n c k (attributes r)) (attributes r)) ≤ (if n == p then 1 else 0) + (times p k + times p r)
    by true h = omega (arith, h)
    by false h = omega (arith, h)

pub retexted-times : (p n : ℕ) (s t : Trees) → times n t ≤ 1 → times p (retexted n s t) ≤ times p t + times p s
retexted-times p n s none once = omega arith
retexted-times p n s (tree m c k r) once =
    elim (cases_Bool (m == n)) [
      | inl e ↦
          let in_r : times n r ≡ 0 = omega (arith, (rw e at once)) in
          rw e (here in_r)
      | inr e ↦
          let whole : times n k + times n r ≤ 1 = omega (arith, (rw e at once)) in
          rw e (other whole (retexted-times p n s k (omega (arith, whole))) (retexted-times p n s r (omega (arith, whole))))
    ]
  where
    here : times n r ≡ 0 → (if m == p then 1 else 0) + (times p (followed (attributes k) s) + times p (retexted n s r)) ≤ ((if m == p then 1 else 0) + (times p k + times p r)) + times p s
    here e =
        let a : times p (followed (attributes k) s) ≡ times p (attributes k) + times p s = times-followed p (attributes k) s in
        let b : times p (attributes k) ≤ times p k = attributes-times p k in
        let c : times p (retexted n s r) ≡ times p r = ap (times p) (retexted-absent n s r e) in
        omega (arith, a, b, c)

    other : times n k + times n r ≤ 1 → times p (retexted n s k) ≤ times p k + times p s → times p (retexted n s r) ≤ times p r + times p s
        → (if m == p then 1 else 0) + (times p (retexted n s k) + times p (retexted n s r)) ≤ ((if m == p then 1 else 0) + (times p k + times p r)) + times p s
    other whole a b =
        elim (cases_Bool (times n k == 0)) [
          | inl z ↦
              let none_ : times n k ≡ 0 = grind (arith, nat_tests, z) in
              let c : times p (retexted n s k) ≡ times p k = ap (times p) (retexted-absent n s k none_) in
              omega (arith, b, c)
          | inr z ↦
              let none_ : times n r ≡ 0 = grind (arith, nat_tests, z, whole) in
              let c : times p (retexted n s r) ≡ times p r = ap (times p) (retexted-absent n s r none_) in
              omega (arith, a, c)
        ]

pub revalued-times : (p n : ℕ) (text : List ℕ) (t : Trees) → times p (revalued n text t) ≡ times p t
revalued-times p n text none = refl
revalued-times p n text (tree m c k r) =
    ap (λ i. (if m == p then 1 else 0) + (i + times p (revalued n text r))) (revalued-times p n text k)
    ∙ ap (λ i. (if m == p then 1 else 0) + (times p k + i)) (revalued-times p n text r)
