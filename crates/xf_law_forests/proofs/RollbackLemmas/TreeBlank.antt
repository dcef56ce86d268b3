-- Trees without the texts of some nodes: what stays where those texts do not count.
use Rattle.std.proofs.Common.{◌≡◌, ℕ, ◌==◌, Bool, true, false, cond, List, [], ◌∷◌, refl, sym, ap, ◌∙◌, subst, inl, inr}
use Rattle.std.specs.Prelude.{⊤, if◌then◌else◌}
use Rattle.std.proofs.lemmas.Bool.{cases_Bool}
use Rattle.xf_def_forest.specs.declared.content.Content.{Content}
use Rattle.xf_def_forest.specs.Forest.{is_element, is_attribute, is_text}
use Rattle.xf_def_forest.specs.Visit.{has}
use Rattle.xf_def_forest.specs.Texts.{with_value}
use Rattle.xf_def_forest.proofs.RunLemmas.{text-no_attribute}
use Rattle.xf_def_forest.proofs.BackLaws.{false-true}
use Rattle.xf_law_forests.proofs.RollbackLemmas.Trees.{Trees, none, tree, followed, times}
use Rattle.xf_law_forests.proofs.RollbackLemmas.TreeTexts.{attributes, times-split}
use Rattle.xf_law_forests.proofs.RollbackLemmas.TreeShape.{is_leaf}
use Rattle.xf_law_forests.proofs.RollbackLemmas.TreeMoved.{Moved, same, swap, under, through, value-attribute, value-text, value-over, value-if-root}

-- without the texts at the top
abbrev pub textless : Trees → Trees
textless none = none
textless (tree n c k r) = if is_text c then textless r else tree n c k (textless r)

-- each of these nodes has no text of its own
abbrev pub blank : List ℕ → Trees → Trees
blank ns none = none
blank ns (tree n c k r) = tree n (if has n ns then with_value [] c else c) (if has n ns then textless (blank ns k) else blank ns k) (blank ns r)

abbrev pub AreTexts : Trees → Type 0
AreTexts none = ⊤
AreTexts (tree n c k r) = (is_text c ≡ true) × (k ≡ none) × AreTexts r

-- attributes and texts, with nothing below them
abbrev pub AreLeaves : Trees → Type 0
AreLeaves none = ⊤
AreLeaves (tree n c k r) = (is_leaf c ≡ true) × (k ≡ none) × AreLeaves r

-- a node with this number is an element, and below it stand such nodes
abbrev pub LeafAt : ℕ → Trees → Type 0
LeafAt n none = ⊤
LeafAt n (tree m c k r) = ((m == n) ≡ true → (is_element c ≡ true) × AreLeaves k) × LeafAt n k × LeafAt n r

pub leaf-followed : (n : ℕ) (t s : Trees) → LeafAt n t → LeafAt n s → LeafAt n (followed t s)
leaf-followed n none s h k = k
leaf-followed n (tree m c j r) s h k = (h.0, h.1, leaf-followed n r s h.2 k)

pub leaf-absent : (n : ℕ) (t : Trees) → times n t ≡ 0 → LeafAt n t
leaf-absent n none h = tt
leaf-absent n (tree m c k r) h =
    let parts = times-split n m c k r h in
    (λ e. absurd (false-true (sym parts.0 ∙ e)), leaf-absent n k parts.1, leaf-absent n r parts.2)

-- ---- parts

pub blank-followed : (ns : List ℕ) (t s : Trees) → blank ns (followed t s) ≡ followed (blank ns t) (blank ns s)
blank-followed ns none s = refl
blank-followed ns (tree n c k r) s = ap (tree n (if has n ns then with_value [] c else c) (if has n ns then textless (blank ns k) else blank ns k)) (blank-followed ns r s)

pub blank-nothing : (t : Trees) → blank [] t ≡ t
blank-nothing none = refl
blank-nothing (tree n c k r) = ap (λ x. tree n c x (blank [] r)) (blank-nothing k) ∙ ap (tree n c k) (blank-nothing r)

content-attribute : (b : Bool) (c : Content) → is_attribute (cond b (with_value [] c) c) ≡ is_attribute c
content-attribute true c = value-attribute [] c
content-attribute false c = refl

content-text : (b : Bool) (c : Content) → is_text (cond b (with_value [] c) c) ≡ is_text c
content-text true c = value-text [] c
content-text false c = refl

pub attributes-blank : (ns : List ℕ) (t : Trees) → attributes (blank ns t) ≡ blank ns (attributes t)
attributes-blank ns none = refl
attributes-blank ns (tree n c k r) =
    elim (cases_Bool (is_attribute c)) [
      | inl e ↦ rw (content-attribute (has n ns) c ∙ e, e) (ap (tree n (if has n ns then with_value [] c else c) (if has n ns then textless (blank ns k) else blank ns k)) (attributes-blank ns r))
      | inr e ↦ rw (content-attribute (has n ns) c ∙ e, e) (attributes-blank ns r)
    ]

pub attributes-textless : (t : Trees) → attributes (textless t) ≡ attributes t
attributes-textless none = refl
attributes-textless (tree n c k r) =
    elim (cases_Bool (is_text c)) [
      | inl e ↦ rw (e, text-no_attribute c e) (attributes-textless r)
      | inr e ↦ rw e (ap (λ x. cond (is_attribute c) (tree n c k x) x) (attributes-textless r))
    ]

pub textless-blank : (ns : List ℕ) (t : Trees) → textless (blank ns (textless t)) ≡ textless (blank ns t)
textless-blank ns none = refl
textless-blank ns (tree n c k r) =
    elim (cases_Bool (is_text c)) [
      | inl e ↦ rw (e, content-text (has n ns) c ∙ e) (textless-blank ns r)
      | inr e ↦ rw (e, content-text (has n ns) c ∙ e) (ap (tree n (if has n ns then with_value [] c else c) (if has n ns then textless (blank ns k) else blank ns k)) (textless-blank ns r))
    ]

-- more nodes without texts
pub blank-more : (ns ms : List ℕ) → ((n : ℕ) → has n ns ≡ true → has n ms ≡ true) → (t : Trees) → blank ms (blank ns t) ≡ blank ms t
blank-more ns ms more none = refl
blank-more ns ms more (tree n c k r) =
    ap (tree n (if has n ms then with_value [] (if has n ns then with_value [] c else c) else (if has n ns then with_value [] c else c))
    (if has n ms then textless (blank ms (if has n ns then textless (blank ns k) else blank ns k)) else blank ms (if has n ns then textless (blank ns k) else blank ns k))) (blank-more ns ms more r)
    ∙ by (has n ms) (has n ns) (more n) (blank-more ns ms more k)
  where
    by : (b a : Bool) → (a ≡ true → b ≡ true) → blank ms (blank ns k) ≡ blank ms k
        → tree n (cond b (with_value [] (cond a (with_value [] c) c)) (cond a (with_value [] c) c))
        (cond b (textless (blank ms (cond a (textless (blank ns k)) (blank ns k)))) (blank ms (cond a (textless (blank ns k)) (blank ns k)))) (blank ms r)
        ≡ tree n (cond b (with_value [] c) c) (cond b (textless (blank ms k)) (blank ms k)) (blank ms r)
    by true true m h = ap (λ x. tree n x (textless (blank ms (textless (blank ns k)))) (blank ms r)) (value-over [] [] c)
        ∙ ap (λ x. tree n (with_value [] c) x (blank ms r)) (textless-blank ms (blank ns k) ∙ ap textless h)
    by true false m h = ap (λ x. tree n (with_value [] c) (textless x) (blank ms r)) h
    by false true m h = absurd (false-true (m refl))
    by false false m h = ap (λ x. tree n c x (blank ms r)) h

pub moved-blank : (ns : List ℕ) {a b : Trees} → Moved a b → Moved (blank ns a) (blank ns b)
moved-blank ns (same t) = same (blank ns t)
moved-blank ns (swap {n = x} {m = y} {c = c} {d = d} e f) = swap (value-if-root (has x ns) [] c e) (value-if-root (has y ns) [] d f)
moved-blank ns (under m c k h) = under m (if has m ns then with_value [] c else c) (if has m ns then textless (blank ns k) else blank ns k) (moved-blank ns h)
moved-blank ns (through g h) = through (moved-blank ns g) (moved-blank ns h)

pub moved-more : (ns ms : List ℕ) → ((n : ℕ) → has n ns ≡ true → has n ms ≡ true) → (a b : Trees) → Moved (blank ns a) (blank ns b) → Moved (blank ms a) (blank ms b)
moved-more ns ms more a b h = subst (λ x. Moved x (blank ms b)) (blank-more ns ms more a) (subst (Moved (blank ms (blank ns a))) (blank-more ns ms more b) (moved-blank ms h))

-- ---- a node whose number is not there

pub blank-absent : (n : ℕ) (ns : List ℕ) (t : Trees) → times n t ≡ 0 → blank (n ∷ ns) t ≡ blank ns t
blank-absent n ns none h = refl
blank-absent n ns (tree m c k r) h =
    let parts = times-split n m c k r h in
    rw parts.0 (ap (λ x. tree m (if has m ns then with_value [] c else c) (if has m ns then textless x else x) (blank (n ∷ ns) r)) (blank-absent n ns k parts.1)
    ∙ ap (tree m (if has m ns then with_value [] c else c) (if has m ns then textless (blank ns k) else blank ns k)) (blank-absent n ns r parts.2))
