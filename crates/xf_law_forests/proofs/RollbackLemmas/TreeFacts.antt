-- What nodes of trees are: facts that stay where texts do not count.
use Rattle.std.proofs.Common.{◌≡◌, ℕ, ◌+◌, ◌==◌, Bool, true, false, cond, ◌&&◌, ◌||◌, List, [], refl, sym, ap, ◌∙◌, subst, inl, inr, arith}
use Rattle.std.specs.Prelude.{◌≤◌, if◌then◌else◌}
use Rattle.std.proofs.lemmas.Bool.{cases_Bool}
use Rattle.xf_def_forest.specs.declared.content.Content.{Content}
use Rattle.xf_def_forest.specs.declared.content.Content.TheVariants.{Root, Element, Attribute, Text}
use Rattle.xf_def_forest.specs.Forest.{is_root, is_element, is_attribute, is_text}
use Rattle.xf_def_forest.specs.Visit.{has}
use Rattle.xf_def_forest.specs.Texts.{with_value}
use Rattle.xf_def_forest.proofs.RunLemmas.{text-no_attribute}
use Rattle.xf_def_forest.proofs.BackLaws.{false-true}
use Rattle.xf_law_forests.proofs.RollbackLemmas.Trees.{Trees, none, tree, followed, times}
use Rattle.xf_law_forests.proofs.RollbackLemmas.TreeTexts.{attributes, retexted, revalued, times-split}
use Rattle.xf_law_forests.proofs.RollbackLemmas.TreeShape.{Sound, is_leaf, sound-followed}
use Rattle.xf_law_forests.proofs.RollbackLemmas.TreeMoved.{some, value-root, value-element, value-attribute, value-text}
use Rattle.xf_law_forests.proofs.RollbackLemmas.TreeBlank.{textless, blank, AreTexts, LeafAt}

-- ---- soundness

leaf-value : (b : Bool) (text : List ℕ) (c : Content) → is_leaf (cond b (with_value text c) c) ≡ is_leaf c
leaf-value true text c = ap (λ x. x || is_text (with_value text c)) (value-attribute text c) ∙ ap (λ x. is_attribute c || x) (value-text text c)
leaf-value false text c = refl

root-value : (b : Bool) (text : List ℕ) (c : Content) → is_root (cond b (with_value text c) c) ≡ is_root c
root-value true text c = value-root text c
root-value false text c = refl

sound-textless : (inside : Bool) (t : Trees) → Sound inside t → Sound inside (textless t)
sound-textless inside none h = tt
sound-textless inside (tree n c k r) h = by (is_text c) (sound-textless inside r h.3)
  where
    by : (b : Bool) → Sound inside (textless r) → Sound inside (cond b (textless r) (tree n c k (textless r)))
    by true s = s
    by false s = (h.0, h.1, h.2, s)

pub sound-blank : (inside : Bool) (ns : List ℕ) (t : Trees) → Sound inside t → Sound inside (blank ns t)
sound-blank inside ns none h = tt
sound-blank inside ns (tree n c k r) h = (
  λ e. bare (h.0 (sym (leaf-value (has n ns) [] c) ∙ e)),
  ap (λ b. b && inside) (root-value (has n ns) [] c) ∙ h.1,
  by (has n ns) (sound-blank true ns k h.2),
  sound-blank inside ns r h.3,
)
  where
    bare : k ≡ none → (if has n ns then textless (blank ns k) else blank ns k) ≡ none
    bare e = subst (λ j. (if has n ns then textless (blank ns j) else blank ns j) ≡ none) (sym e) (both (has n ns))
      where
        both : (b : Bool) → cond b none none ≡ none
        both true = refl
        both false = refl

    by : (b : Bool) → Sound true (blank ns k) → Sound true (cond b (textless (blank ns k)) (blank ns k))
    by true s = sound-textless true (blank ns k) s
    by false s = s

sound-attributes : (t : Trees) → Sound true t → Sound true (attributes t)
sound-attributes none h = tt
sound-attributes (tree n c k r) h = by (is_attribute c) (sound-attributes r h.3)
  where
    by : (b : Bool) → Sound true (attributes r) → Sound true (cond b (tree n c k (attributes r)) (attributes r))
    by true s = (h.0, h.1, h.2, s)
    by false s = s

text-no_root : (c : Content) → is_text c ≡ true → is_root c ≡ false
text-no_root Root e = cc e
text-no_root (Element name) e = refl
text-no_root (Attribute name text) e = refl
text-no_root (Text text) e = refl

pub sound-texts : (t : Trees) → AreTexts t → Sound true t
sound-texts none h = tt
sound-texts (tree n c k r) h = (λ e. h.1, ap (λ b. b && true) (text-no_root c h.0), subst (Sound true) (sym h.1) tt, sound-texts r h.2)

element-no_leaf : (c : Content) → is_element c ≡ true → is_leaf c ≡ true → ⊥
element-no_leaf Root e f = cc (e, f)
element-no_leaf (Element name) e f = cc f
element-no_leaf (Attribute name text) e f = cc e
element-no_leaf (Text text) e f = cc e

pub sound-retexted : (inside : Bool) (n : ℕ) (s t : Trees) → AreTexts s → LeafAt n t → Sound inside t → Sound inside (retexted n s t)
sound-retexted inside n s none texts leaf h = tt
sound-retexted inside n s (tree m c k r) texts leaf h =
    elim (cases_Bool (m == n)) [
      | inl e ↦ rw e (
        λ f. absurd (element-no_leaf c (leaf.0 e).0 f),
        h.1,
        sound-followed true (attributes k) s (sound-attributes k h.2) (sound-texts s texts),
        sound-retexted inside n s r texts leaf.2 h.3,
      )
      | inr e ↦ rw e (λ f. subst (λ j. retexted n s j ≡ none) (sym (h.0 f)) refl, h.1, sound-retexted true n s k texts leaf.1 h.2, sound-retexted inside n s r texts leaf.2 h.3)
    ]

pub sound-revalued : (inside : Bool) (n : ℕ) (text : List ℕ) (t : Trees) → Sound inside t → Sound inside (revalued n text t)
sound-revalued inside n text none h = tt
sound-revalued inside n text (tree m c k r) h = (
  λ f. subst (λ j. revalued n text j ≡ none) (sym (h.0 (sym (leaf-value (m == n) text c) ∙ f))) refl,
  ap (λ b. b && inside) (root-value (m == n) text c) ∙ h.1,
  sound-revalued true n text k h.2,
  sound-revalued inside n text r h.3,
)

-- ---- tests of nodes, for which texts do not count

pub record Blind (p : ℕ → Content → Bool) : Type 0 where
  pub text : (n : ℕ) (c : Content) → is_text c ≡ true → p n c ≡ false
  pub value : (n : ℕ) (text : List ℕ) (c : Content) → p n (with_value text c) ≡ p n c

pub some-textless : (p : ℕ → Content → Bool) → Blind p → (inside : Bool) (t : Trees) → Sound inside t → some p (textless t) ≡ some p t
some-textless p blind inside none h = refl
some-textless p blind inside (tree n c k r) h =
    elim (cases_Bool (is_text c)) [
      | inl e ↦
          let bare : k ≡ none = h.0 (ap (λ b. is_attribute c || b) e ∙ or-true (is_attribute c)) in
          rw (e, blind.text n c e) (some-textless p blind inside r h.3 ∙ subst (λ j. some p r ≡ (some p j || some p r)) (sym bare) refl)
      | inr e ↦ rw e (ap (λ b. p n c || (some p k || b)) (some-textless p blind inside r h.3))
    ]
  where
    or-true : (b : Bool) → (b || true) ≡ true
    or-true true = refl
    or-true false = refl

pub some-blank : (p : ℕ → Content → Bool) → Blind p → (inside : Bool) (ns : List ℕ) (t : Trees) → Sound inside t → some p (blank ns t) ≡ some p t
some-blank p blind inside ns none h = refl
some-blank p blind inside ns (tree n c k r) h =
    ap (λ b. b || (some p (if has n ns then textless (blank ns k) else blank ns k) || some p (blank ns r))) (content (has n ns))
    ∙ ap (λ b. p n c || (b || some p (blank ns r))) (by (has n ns) (some-blank p blind true ns k h.2))
    ∙ ap (λ b. p n c || (some p k || b)) (some-blank p blind inside ns r h.3)
  where
    content : (b : Bool) → p n (cond b (with_value [] c) c) ≡ p n c
    content true = blind.value n [] c
    content false = refl

    by : (b : Bool) → some p (blank ns k) ≡ some p k → some p (cond b (textless (blank ns k)) (blank ns k)) ≡ some p k
    by true e = some-textless p blind true (blank ns k) (sound-blank true ns k h.2) ∙ e
    by false e = e

-- a node with this number is of a kind
abbrev pub is_at : (Content → Bool) → ℕ → Trees → Bool
is_at q n t = some (λ m c. (m == n) && q c) t

and-false : (b : Bool) → (b && false) ≡ false
and-false true = refl
and-false false = refl

pub blind-element : (n : ℕ) → Blind (λ m c. (m == n) && is_element c)
blind-element n = record {
  text = λ m c e. ap (λ b. (m == n) && b) (text-no_element c e) ∙ and-false (m == n);
  value = λ m text c. ap (λ b. (m == n) && b) (value-element text c);
}
  where
    text-no_element : (c : Content) → is_text c ≡ true → is_element c ≡ false
    text-no_element Root e = refl
    text-no_element (Element name) e = cc e
    text-no_element (Attribute name text) e = refl
    text-no_element (Text text) e = refl

pub blind-attribute : (n : ℕ) → Blind (λ m c. (m == n) && is_attribute c)
blind-attribute n = record {
  text = λ m c e. ap (λ b. (m == n) && b) (text-no_attribute c e) ∙ and-false (m == n);
  value = λ m text c. ap (λ b. (m == n) && b) (value-attribute text c);
}

pub or-cases : (a b : Bool) → (a || b) ≡ true → (X : Type 0) → (a ≡ true → X) → (b ≡ true → X) → X
or-cases true b h X f g = f refl
or-cases false b h X f g = g h

pub at-times : (q : Content → Bool) (n : ℕ) (t : Trees) → is_at q n t ≡ true → 1 ≤ times n t
at-times q n none h = absurd (false-true h)
at-times q n (tree m c k r) h =
    elim (cases_Bool (m == n)) [
      | inl e ↦ rw e (omega arith)
      | inr e ↦ rw e (or-cases (is_at q n k) (is_at q n r) (rw e at h) (1 ≤ 0 + (times n k + times n r)) (λ f. omega (arith, at-times q n k f)) (λ f. omega (arith, at-times q n r f)))
    ]

pub at-absent : (q : Content → Bool) (n : ℕ) (t : Trees) → times n t ≡ 0 → is_at q n t ≡ false
at-absent q n none h = refl
at-absent q n (tree m c k r) h = let parts = times-split n m c k r h in rw (parts.0, at-absent q n k parts.1, at-absent q n r parts.2) refl

pub some-followed : (p : ℕ → Content → Bool) (t s : Trees) → some p (followed t s) ≡ (some p t || some p s)
some-followed p none s = refl
some-followed p (tree n c k r) s = ap (λ b. p n c || (some p k || b)) (some-followed p r s) ∙ assoc (p n c) (some p k) (some p r) (some p s)
  where
    assoc : (a b c d : Bool) → (a || (b || (c || d))) ≡ ((a || (b || c)) || d)
    assoc true b c d = refl
    assoc false true c d = refl
    assoc false false c d = refl
