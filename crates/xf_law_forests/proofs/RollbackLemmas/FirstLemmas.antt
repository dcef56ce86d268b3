-- Attributes stay first in trees that are cut off, put below a node, or get other texts.
use Rattle.std.proofs.Common.{◌≡◌, ℕ, zero, suc, ◌==◌, Bool, true, false, cond, List, [], refl, sym, ◌∙◌, subst, inl, inr}
use Rattle.std.specs.Prelude.{⊤, if◌then◌else◌}
use Rattle.std.proofs.lemmas.Bool.{cases_Bool}
use Rattle.xf_def_forest.specs.declared.content.Content.{Content}
use Rattle.xf_def_forest.specs.Forest.{is_attribute}
use Rattle.xf_def_forest.specs.Visit.{has}
use Rattle.xf_def_forest.specs.Texts.{with_value}
use Rattle.xf_def_forest.specs.Changes.{at_place}
use Rattle.xf_def_forest.proofs.BackLaws.{false-true}
use Rattle.xf_def_forest.proofs.RunLemmas.{text-no_attribute}
use Rattle.xf_law_forests.proofs.RollbackLemmas.Trees.{Trees, none, tree, followed}
use Rattle.xf_law_forests.proofs.RollbackLemmas.TreeTexts.{attributes, retexted, revalued}
use Rattle.xf_law_forests.proofs.RollbackLemmas.TreeMoved.{value-attribute}
use Rattle.xf_law_forests.proofs.RollbackLemmas.TreeBlank.{blank, AreTexts}
use Rattle.xf_law_forests.proofs.RollbackLemmas.TreeMoves.{removed, found}
use Rattle.xf_law_forests.proofs.RollbackLemmas.TreePlaces.{inserted, beside, with_tree, changed}
use Rattle.xf_law_forests.proofs.RollbackLemmas.TreeOrder.{NoAttributes, AttributesFirst, Ordered}

-- ---- trees whose tops are of the same kinds

abbrev SameTops : Trees → Trees → Type 0
SameTops none none = ⊤
SameTops none (tree n d j s) = ⊥
SameTops (tree m c k r) none = ⊥
SameTops (tree m c k r) (tree n d j s) = (is_attribute c ≡ is_attribute d) × SameTops r s

no_attributes-same : (t s : Trees) → SameTops t s → NoAttributes t → NoAttributes s
no_attributes-same none none h o = tt
no_attributes-same none (tree n d j s) h o = absurd h
no_attributes-same (tree m c k r) none h o = absurd h
no_attributes-same (tree m c k r) (tree n d j s) h o = (sym h.0 ∙ o.0, no_attributes-same r s h.1 o.1)

first-same : (t s : Trees) → SameTops t s → AttributesFirst t → AttributesFirst s
first-same none none h o = tt
first-same none (tree n d j s) h o = absurd h
first-same (tree m c k r) none h o = absurd h
first-same (tree m c k r) (tree n d j s) h o = (λ e. no_attributes-same r s h.1 (o.0 (h.0 ∙ e)), first-same r s h.1 o.1)

value-same : (b : Bool) (text : List ℕ) (c : Content) → is_attribute c ≡ is_attribute (cond b (with_value text c) c)
value-same true text c = sym (value-attribute text c)
value-same false text c = refl

same-blank : (ns : List ℕ) (t : Trees) → SameTops t (blank ns t)
same-blank ns none = tt
same-blank ns (tree m c k r) = (value-same (has m ns) [] c, same-blank ns r)

pub first-blank : (ns : List ℕ) (t : Trees) → AttributesFirst t → AttributesFirst (blank ns t)
first-blank ns t h = first-same t (blank ns t) (same-blank ns t) h

-- ---- cut off

no_attributes-removed : (n : ℕ) (t : Trees) → NoAttributes t → NoAttributes (removed n t)
no_attributes-removed n none h = tt
no_attributes-removed n (tree m c k r) h = by (m == n) (no_attributes-removed n r h.1)
  where
    by : (b : Bool) → NoAttributes (removed n r) → NoAttributes (cond b (removed n r) (tree m c (removed n k) (removed n r)))
    by true g = g
    by false g = (h.0, g)

first-removed : (n : ℕ) (t : Trees) → AttributesFirst t → AttributesFirst (removed n t)
first-removed n none h = tt
first-removed n (tree m c k r) h = by (m == n) (first-removed n r h.1)
  where
    by : (b : Bool) → AttributesFirst (removed n r) → AttributesFirst (cond b (removed n r) (tree m c (removed n k) (removed n r)))
    by true g = g
    by false g = (λ e. no_attributes-removed n r (h.0 e), g)

pub ordered-removed : (n : ℕ) (t : Trees) → Ordered t → Ordered (removed n t)
ordered-removed n none h = tt
ordered-removed n (tree m c k r) h = by (m == n) (ordered-removed n k h.1) (ordered-removed n r h.2)
  where
    by : (b : Bool) → Ordered (removed n k) → Ordered (removed n r) → Ordered (cond b (removed n r) (tree m c (removed n k) (removed n r)))
    by true f g = g
    by false f g = (first-removed n k h.0, f, g)

pub ordered-followed : (t s : Trees) → Ordered t → Ordered s → Ordered (followed t s)
ordered-followed none s h g = g
ordered-followed (tree m c k r) s h g = (h.0, h.1, ordered-followed r s h.2 g)

pub ordered-found : (n : ℕ) (t : Trees) → Ordered t → Ordered (found n t)
ordered-found n none h = tt
ordered-found n (tree m c k r) h = ordered-followed (if m == n then tree m c k none else found n k) (found n r) (by (m == n) (ordered-found n k h.1)) (ordered-found n r h.2)
  where
    by : (b : Bool) → Ordered (found n k) → Ordered (cond b (tree m c k none) (found n k))
    by true g = (h.0, h.1, tt)
    by false g = g

-- ---- put below a node

no_attributes-inserted : (place n : ℕ) (d : Content) (j k : Trees) → is_attribute d ≡ false → NoAttributes k → NoAttributes (inserted place (tree n d j none) k)
no_attributes-inserted place n d j none plain h = (plain, tt)
no_attributes-inserted place n d j (tree m c k r) plain h = rw h.0 (at place (λ left. no_attributes-inserted left n d j r plain h.1))
  where
    at : (place : ℕ) → ((left : ℕ) → NoAttributes (inserted left (tree n d j none) r)) → NoAttributes (at_place place (tree n d j (tree m c k r)) (λ left. tree m c k (inserted left (tree n d j none) r)))
    at zero g = (plain, h)
    at (suc left) g = (h.0, g left)

first-inserted : (place n : ℕ) (d : Content) (j k : Trees) → is_attribute d ≡ false → AttributesFirst k → AttributesFirst (inserted place (tree n d j none) k)
first-inserted place n d j none plain h = (λ e. tt, tt)
first-inserted place n d j (tree m c k r) plain h =
    elim (cases_Bool (is_attribute c)) [
      | inl q ↦ rw q (λ e. absurd (false-true (sym e ∙ q)), first-inserted place n d j r plain h.1)
      | inr q ↦ rw q (at q place (λ left. first-inserted left n d j r plain h.1))
    ]
  where
    at : is_attribute c ≡ false → (place : ℕ) → ((left : ℕ) → AttributesFirst (inserted left (tree n d j none) r))
        → AttributesFirst (at_place place (tree n d j (tree m c k r)) (λ left. tree m c k (inserted left (tree n d j none) r)))
    at q zero g = (λ e. (q, h.0 q), h)
    at q (suc left) g = (λ e. no_attributes-inserted left n d j r plain (h.0 q), g left)

first-beside : (place n : ℕ) (d : Content) (j k : Trees) → is_attribute d ≡ true → AttributesFirst k → AttributesFirst (beside place (tree n d j none) k)
first-beside place n d j none is h = (λ e. tt, tt)
first-beside place n d j (tree m c k r) is h =
    elim (cases_Bool (is_attribute c)) [
      | inl q ↦ rw q (at q place (λ left. first-beside left n d j r is h.1))
      | inr q ↦ rw q before
    ]
  where
    before : AttributesFirst (tree n d j (tree m c k r))
    before = (λ e. absurd (false-true (sym e ∙ is)), h)

    at : is_attribute c ≡ true → (place : ℕ) → ((left : ℕ) → AttributesFirst (beside left (tree n d j none) r))
        → AttributesFirst (at_place place (tree n d j (tree m c k r)) (λ left. tree m c k (beside left (tree n d j none) r)))
    at q zero g = before
    at q (suc left) g = (λ e. absurd (false-true (sym e ∙ q)), g left)

first-with : (place n : ℕ) (d : Content) (j k : Trees) → AttributesFirst k → AttributesFirst (with_tree place (tree n d j none) k)
first-with place n d j k h =
    elim (cases_Bool (is_attribute d)) [
      | inl q ↦ rw q (first-beside place n d j k q h)
      | inr q ↦ rw q (first-inserted place n d j k q h)
    ]

ordered-inserted : (place : ℕ) (s k : Trees) → Ordered s → Ordered k → Ordered (inserted place s k)
ordered-inserted place s none o h = o
ordered-inserted place s (tree m c k r) o h =
    elim (cases_Bool (is_attribute c)) [
      | inl q ↦ rw q (h.0, h.1, ordered-inserted place s r o h.2)
      | inr q ↦ rw q (at place (λ left. ordered-inserted left s r o h.2))
    ]
  where
    at : (place : ℕ) → ((left : ℕ) → Ordered (inserted left s r)) → Ordered (at_place place (followed s (tree m c k r)) (λ left. tree m c k (inserted left s r)))
    at zero g = ordered-followed s (tree m c k r) o h
    at (suc left) g = (h.0, h.1, g left)

ordered-beside : (place : ℕ) (s k : Trees) → Ordered s → Ordered k → Ordered (beside place s k)
ordered-beside place s none o h = o
ordered-beside place s (tree m c k r) o h =
    elim (cases_Bool (is_attribute c)) [
      | inl q ↦ rw q (at place (λ left. ordered-beside left s r o h.2))
      | inr q ↦ rw q (ordered-followed s (tree m c k r) o h)
    ]
  where
    at : (place : ℕ) → ((left : ℕ) → Ordered (beside left s r)) → Ordered (at_place place (followed s (tree m c k r)) (λ left. tree m c k (beside left s r)))
    at zero g = ordered-followed s (tree m c k r) o h
    at (suc left) g = (h.0, h.1, g left)

ordered-with : (place n : ℕ) (d : Content) (j k : Trees) → Ordered (tree n d j none) → Ordered k → Ordered (with_tree place (tree n d j none) k)
ordered-with place n d j k o h =
    elim (cases_Bool (is_attribute d)) [
      | inl q ↦ rw q (ordered-beside place (tree n d j none) k o h)
      | inr q ↦ rw q (ordered-inserted place (tree n d j none) k o h)
    ]

same-changed : (p : ℕ) (f : Trees → Trees) (t : Trees) → SameTops t (changed p f t)
same-changed p f none = tt
same-changed p f (tree m c k r) = (refl, same-changed p f r)

pub ordered-changed : (p place n : ℕ) (d : Content) (j t : Trees) → Ordered (tree n d j none) → Ordered t → Ordered (changed p (with_tree place (tree n d j none)) t)
ordered-changed p place n d j none o h = tt
ordered-changed p place n d j (tree m c k r) o h = (
  (by (m == p) (ordered-changed p place n d j k o h.1)).0,
  (by (m == p) (ordered-changed p place n d j k o h.1)).1,
  ordered-changed p place n d j r o h.2,
)
  where
    by : (b : Bool) → Ordered (changed p (with_tree place (tree n d j none)) k)
        → AttributesFirst (cond b (with_tree place (tree n d j none) k) (changed p (with_tree place (tree n d j none)) k)) × Ordered (cond b (with_tree place (tree n d j none) k) (changed p (with_tree place (tree n d j none)) k))
    by true g = (first-with place n d j k h.0, ordered-with place n d j k o h.1)
    by false g = (first-same k (changed p (with_tree place (tree n d j none)) k) (same-changed p (with_tree place (tree n d j none)) k) h.0, g)

-- ---- with other texts

no_attributes-texts : (s : Trees) → AreTexts s → NoAttributes s
no_attributes-texts none h = tt
no_attributes-texts (tree m c k r) h = (text-no_attribute c h.0, no_attributes-texts r h.2)

first-plain : (s : Trees) → NoAttributes s → AttributesFirst s
first-plain none h = tt
first-plain (tree m c k r) h = (λ e. h.1, first-plain r h.1)

ordered-texts : (s : Trees) → AreTexts s → Ordered s
ordered-texts none h = tt
ordered-texts (tree m c k r) h = (subst AttributesFirst (sym h.1) tt, subst Ordered (sym h.1) tt, ordered-texts r h.2)

first-attributes : (k s : Trees) → NoAttributes s → AttributesFirst (followed (attributes k) s)
first-attributes none s h = first-plain s h
first-attributes (tree m c k r) s h = by (is_attribute c) refl (first-attributes r s h)
  where
    by : (b : Bool) → is_attribute c ≡ b → AttributesFirst (followed (attributes r) s) → AttributesFirst (followed (cond b (tree m c k (attributes r)) (attributes r)) s)
    by true q g = (λ e. absurd (false-true (sym e ∙ q)), g)
    by false q g = g

ordered-attributes : (k : Trees) → Ordered k → Ordered (attributes k)
ordered-attributes none h = tt
ordered-attributes (tree m c k r) h = by (is_attribute c) (ordered-attributes r h.2)
  where
    by : (b : Bool) → Ordered (attributes r) → Ordered (cond b (tree m c k (attributes r)) (attributes r))
    by true g = (h.0, h.1, g)
    by false g = g

same-retexted : (n : ℕ) (s t : Trees) → SameTops t (retexted n s t)
same-retexted n s none = tt
same-retexted n s (tree m c k r) = (refl, same-retexted n s r)

pub ordered-retexted : (n : ℕ) (s t : Trees) → AreTexts s → Ordered t → Ordered (retexted n s t)
ordered-retexted n s none texts h = tt
ordered-retexted n s (tree m c k r) texts h = (
  (by (m == n) (ordered-retexted n s k texts h.1)).0,
  (by (m == n) (ordered-retexted n s k texts h.1)).1,
  ordered-retexted n s r texts h.2,
)
  where
    by : (b : Bool) → Ordered (retexted n s k) → AttributesFirst (cond b (followed (attributes k) s) (retexted n s k)) × Ordered (cond b (followed (attributes k) s) (retexted n s k))
    by true g = (first-attributes k s (no_attributes-texts s texts), ordered-followed (attributes k) s (ordered-attributes k h.1) (ordered-texts s texts))
    by false g = (first-same k (retexted n s k) (same-retexted n s k) h.0, g)

same-revalued : (n : ℕ) (text : List ℕ) (t : Trees) → SameTops t (revalued n text t)
same-revalued n text none = tt
same-revalued n text (tree m c k r) = (value-same (m == n) text c, same-revalued n text r)

pub ordered-revalued : (n : ℕ) (text : List ℕ) (t : Trees) → Ordered t → Ordered (revalued n text t)
ordered-revalued n text none h = tt
ordered-revalued n text (tree m c k r) h = (first-same k (revalued n text k) (same-revalued n text k) h.0, ordered-revalued n text k h.1, ordered-revalued n text r h.2)
