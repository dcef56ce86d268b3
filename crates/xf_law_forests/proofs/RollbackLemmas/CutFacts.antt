-- What is needed to put a tree again where it stood.
use Rattle.std.proofs.Common.{◌≡◌, ℕ, zero, suc, ◌==◌, Bool, true, false, cond, ◌&&◌, List, [], refl, sym, ap, ◌∙◌, subst, inl, inr}
use Rattle.std.specs.Prelude.{⊤, if◌then◌else◌}
use Rattle.std.proofs.lemmas.Bool.{cases_Bool}
use Rattle.xf_def_forest.specs.declared.content.Content.{Content}
use Rattle.xf_def_forest.specs.Forest.{is_root, is_attribute, is_text}
use Rattle.xf_def_forest.specs.Visit.{has}
use Rattle.xf_def_forest.specs.Texts.{with_value}
use Rattle.xf_def_forest.specs.Changes.{at_place}
use Rattle.xf_def_forest.proofs.BackLaws.{false-true, one_number}
use Rattle.xf_def_forest.proofs.RunLemmas.{attribute-no_text}
use Rattle.xf_law_forests.proofs.RollbackLemmas.Trees.{Trees, none, tree, followed, times}
use Rattle.xf_law_forests.proofs.RollbackLemmas.TreeTexts.{times-split}
use Rattle.xf_law_forests.proofs.RollbackLemmas.TreeShape.{Sound, is_leaf, sound-followed}
use Rattle.xf_law_forests.proofs.RollbackLemmas.TreeMoved.{value-attribute}
use Rattle.xf_law_forests.proofs.RollbackLemmas.TreeBlank.{textless, blank, blank-followed}
use Rattle.xf_law_forests.proofs.RollbackLemmas.TreeMoves.{found, followed-none}
use Rattle.xf_law_forests.proofs.RollbackLemmas.NodeKinds.{Each, FoundTree}
use Rattle.xf_law_forests.proofs.RollbackLemmas.TreePlaces.{inserted, beside, with_tree, changed}
use Rattle.xf_law_forests.proofs.RollbackLemmas.TreeOrder.{NoAttributes, AttributesFirst, Ordered}
use Rattle.xf_law_forests.proofs.RollbackLemmas.FirstLemmas.{first-blank}
use Rattle.xf_law_forests.proofs.RollbackLemmas.TreeRanks.{is_child}

-- ---- soundness

sound-inserted : (place : ℕ) (s k : Trees) → Sound true s → Sound true k → Sound true (inserted place s k)
sound-inserted place s none a b = a
sound-inserted place s (tree m c k r) a b =
    elim (cases_Bool (is_attribute c)) [
      | inl e ↦ rw e (b.0, b.1, b.2, sound-inserted place s r a b.3)
      | inr e ↦ rw e (at place (λ left. sound-inserted left s r a b.3))
    ]
  where
    at : (place : ℕ) → ((left : ℕ) → Sound true (inserted left s r)) → Sound true (at_place place (followed s (tree m c k r)) (λ left. tree m c k (inserted left s r)))
    at zero h = sound-followed true s (tree m c k r) a b
    at (suc left) h = (b.0, b.1, b.2, h left)

sound-beside : (place : ℕ) (s k : Trees) → Sound true s → Sound true k → Sound true (beside place s k)
sound-beside place s none a b = a
sound-beside place s (tree m c k r) a b = by (is_attribute c) (at place (λ left. sound-beside left s r a b.3))
  where
    at : (place : ℕ) → ((left : ℕ) → Sound true (beside left s r)) → Sound true (at_place place (followed s (tree m c k r)) (λ left. tree m c k (beside left s r)))
    at zero h = sound-followed true s (tree m c k r) a b
    at (suc left) h = (b.0, b.1, b.2, h left)

    by : (p : Bool) → Sound true (at_place place (followed s (tree m c k r)) (λ left. tree m c k (beside left s r)))
        → Sound true (cond p (at_place place (followed s (tree m c k r)) (λ left. tree m c k (beside left s r))) (followed s (tree m c k r)))
    by true h = h
    by false h = sound-followed true s (tree m c k r) a b

sound-with : (place : ℕ) (s k : Trees) → Sound true s → Sound true k → Sound true (with_tree place s k)
sound-with place none k a b = b
sound-with place (tree m c j r) k a b = by (is_attribute c)
  where
    by : (p : Bool) → Sound true (cond p (beside place (tree m c j r) k) (inserted place (tree m c j r) k))
    by true = sound-beside place (tree m c j r) k a b
    by false = sound-inserted place (tree m c j r) k a b

pub sound-changed : (p place : ℕ) (s : Trees) (u : Bool) (t : Trees) → Sound true s → Each (λ c. is_leaf c ≡ false) p t → Sound u t → Sound u (changed p (with_tree place s) t)
sound-changed p place s u none a each h = tt
sound-changed p place s u (tree m c k r) a each h = (
  λ e. bare e (m == p) refl (h.0 e),
  h.1,
  by (m == p) (sound-changed p place s true k a each.1 h.2),
  sound-changed p place s u r a each.2 h.3,
)
  where
    bare : is_leaf c ≡ true → (b : Bool) → (m == p) ≡ b → k ≡ none → cond b (with_tree place s k) (changed p (with_tree place s) k) ≡ none
    bare e true f g = absurd (false-true (sym (each.0 f) ∙ e))
    bare e false f g = ap (changed p (with_tree place s)) g

    by : (b : Bool) → Sound true (changed p (with_tree place s) k) → Sound true (cond b (with_tree place s k) (changed p (with_tree place s) k))
    by true g = sound-with place s k a h.2
    by false g = g

pub sound-found-inside : (n : ℕ) (u : Bool) (t : Trees) → Each (λ c. is_root c ≡ false) n t → Sound u t → Sound true (found n t)
sound-found-inside n u none each h = tt
sound-found-inside n u (tree m c k r) each h =
    sound-followed true (if m == n then tree m c k none else found n k) (found n r) (by (m == n) refl (sound-found-inside n true k each.1 h.2)) (sound-found-inside n u r each.2 h.3)
  where
    by : (b : Bool) → (m == n) ≡ b → Sound true (found n k) → Sound true (cond b (tree m c k none) (found n k))
    by true e s = (h.0, ap (λ x. x && true) (each.0 e), h.2, tt)
    by false e s = s

-- ---- texts that do not count

content-attribute : (b : Bool) (c : Content) → is_attribute (cond b (with_value [] c) c) ≡ is_attribute c
content-attribute true c = value-attribute [] c
content-attribute false c = refl

blank-inserted : (ns : List ℕ) (place : ℕ) (s k : Trees) → blank ns (inserted place s k) ≡ inserted place (blank ns s) (blank ns k)
blank-inserted ns place s none = refl
blank-inserted ns place s (tree m c k r) =
    elim (cases_Bool (is_attribute c)) [
      | inl e ↦ rw (e, content-attribute (has m ns) c ∙ e) (ap (tree m (if has m ns then with_value [] c else c) (if has m ns then textless (blank ns k) else blank ns k)) (blank-inserted ns place s r))
      | inr e ↦ rw (e, content-attribute (has m ns) c ∙ e) (at place (λ left. blank-inserted ns left s r))
    ]
  where
    at : (place : ℕ) → ((left : ℕ) → blank ns (inserted left s r) ≡ inserted left (blank ns s) (blank ns r))
        → blank ns (at_place place (followed s (tree m c k r)) (λ left. tree m c k (inserted left s r)))
        ≡ at_place place (followed (blank ns s) (blank ns (tree m c k r))) (λ left. tree m (if has m ns then with_value [] c else c) (if has m ns then textless (blank ns k) else blank ns k) (inserted left (blank ns s) (blank ns r)))
    at zero h = blank-followed ns s (tree m c k r)
    at (suc left) h = ap (tree m (if has m ns then with_value [] c else c) (if has m ns then textless (blank ns k) else blank ns k)) (h left)

blank-beside : (ns : List ℕ) (place : ℕ) (s k : Trees) → blank ns (beside place s k) ≡ beside place (blank ns s) (blank ns k)
blank-beside ns place s none = refl
blank-beside ns place s (tree m c k r) =
    elim (cases_Bool (is_attribute c)) [
      | inl e ↦ rw (e, content-attribute (has m ns) c ∙ e) (at place (λ left. blank-beside ns left s r))
      | inr e ↦ rw (e, content-attribute (has m ns) c ∙ e) (blank-followed ns s (tree m c k r))
    ]
  where
    at : (place : ℕ) → ((left : ℕ) → blank ns (beside left s r) ≡ beside left (blank ns s) (blank ns r))
        → blank ns (at_place place (followed s (tree m c k r)) (λ left. tree m c k (beside left s r)))
        ≡ at_place place (followed (blank ns s) (blank ns (tree m c k r))) (λ left. tree m (if has m ns then with_value [] c else c) (if has m ns then textless (blank ns k) else blank ns k) (beside left (blank ns s) (blank ns r)))
    at zero h = blank-followed ns s (tree m c k r)
    at (suc left) h = ap (tree m (if has m ns then with_value [] c else c) (if has m ns then textless (blank ns k) else blank ns k)) (h left)

blank-with : (ns : List ℕ) (place : ℕ) (s k : Trees) → blank ns (with_tree place s k) ≡ with_tree place (blank ns s) (blank ns k)
blank-with ns place none k = refl
blank-with ns place (tree m c j r) k =
    elim (cases_Bool (is_attribute c)) [
      | inl e ↦ rw (e, content-attribute (has m ns) c ∙ e) (blank-beside ns place (tree m c j r) k)
      | inr e ↦ rw (e, content-attribute (has m ns) c ∙ e) (blank-inserted ns place (tree m c j r) k)
    ]

-- ---- a tree comes below a node whose texts count

textless-changed : (p : ℕ) (f : Trees → Trees) (t : Trees) → textless (changed p f t) ≡ changed p f (textless t)
textless-changed p f none = refl
textless-changed p f (tree m c k r) =
    elim (cases_Bool (is_text c)) [
      | inl e ↦ rw e (textless-changed p f r)
      | inr e ↦ rw e (ap (tree m c (if m == p then f k else changed p f k)) (textless-changed p f r))
    ]

blank-changed : (ns : List ℕ) (p place : ℕ) (s t : Trees) → has p ns ≡ false → blank ns (changed p (with_tree place s) t) ≡ changed p (with_tree place (blank ns s)) (blank ns t)
blank-changed ns p place s none out = refl
blank-changed ns p place s (tree m c k r) out =
    elim (cases_Bool (m == p)) [
      | inl e ↦
          let off : has m ns ≡ false = subst (λ x. has x ns ≡ false) (sym (one_number m p e)) out in
          rw (e, off) (ap (λ x. tree m c x (blank ns (changed p (with_tree place s) r))) (blank-with ns place s k) ∙ ap (tree m c (with_tree place (blank ns s) (blank ns k))) (blank-changed ns p place s r out))
      | inr e ↦
          rw e (ap (tree m (if has m ns then with_value [] c else c) (if has m ns then textless (blank ns (changed p (with_tree place s) k)) else blank ns (changed p (with_tree place s) k))) (blank-changed ns p place s r out)
          ∙ ap (λ x. tree m (if has m ns then with_value [] c else c) x (changed p (with_tree place (blank ns s)) (blank ns r))) (by (has m ns) (blank-changed ns p place s k out)))
    ]
  where
    by : (b : Bool) → blank ns (changed p (with_tree place s) k) ≡ changed p (with_tree place (blank ns s)) (blank ns k)
        → cond b (textless (blank ns (changed p (with_tree place s) k))) (blank ns (changed p (with_tree place s) k)) ≡ changed p (with_tree place (blank ns s)) (cond b (textless (blank ns k)) (blank ns k))
    by true h = ap textless h ∙ textless-changed p (with_tree place (blank ns s)) (blank ns k)
    by false h = h

-- ---- an attribute comes below any node where attributes are first

-- attributes are first below a node
abbrev pub FirstAt : ℕ → Trees → Type 0
FirstAt p none = ⊤
FirstAt p (tree m c k r) = ((m == p) ≡ true → AttributesFirst k) × FirstAt p k × FirstAt p r

pub first_at-ordered : (p : ℕ) (t : Trees) → Ordered t → FirstAt p t
first_at-ordered p none h = tt
first_at-ordered p (tree m c k r) h = (λ e. h.0, first_at-ordered p k h.1, first_at-ordered p r h.2)

pub first_at-absent : (p : ℕ) (t : Trees) → times p t ≡ 0 → FirstAt p t
first_at-absent p none h = tt
first_at-absent p (tree m c k r) h =
    let parts = times-split p m c k r h in
    (λ e. absurd (false-true (sym parts.0 ∙ e)), first_at-absent p k parts.1, first_at-absent p r parts.2)

pub first_at-followed : (p : ℕ) (t s : Trees) → FirstAt p t → FirstAt p s → FirstAt p (followed t s)
first_at-followed p none s h g = g
first_at-followed p (tree m c k r) s h g = (h.0, h.1, first_at-followed p r s h.2 g)

beside-plain : (place : ℕ) (s k : Trees) → NoAttributes k → beside place s k ≡ followed s k
beside-plain place s none h = sym (followed-none s)
beside-plain place s (tree m c k r) h = rw h.0 refl

plain-textless : (k : Trees) → NoAttributes k → NoAttributes (textless k)
plain-textless none h = tt
plain-textless (tree m c k r) h = by (is_text c) (plain-textless r h.1)
  where
    by : (b : Bool) → NoAttributes (textless r) → NoAttributes (cond b (textless r) (tree m c k (textless r)))
    by true g = g
    by false g = (h.0, g)

textless-beside : (place n : ℕ) (d : Content) (j k : Trees) → is_attribute d ≡ true → AttributesFirst k → textless (beside place (tree n d j none) k) ≡ beside place (tree n d j none) (textless k)
textless-beside place n d j none is h = rw (attribute-no_text d is) refl
textless-beside place n d j (tree m c k r) is h =
    elim (cases_Bool (is_attribute c)) [
      | inl q ↦ rw (q, attribute-no_text c q) (rw q (at q place (λ left. textless-beside left n d j r is h.1)))
      | inr q ↦ rw q (rw (attribute-no_text d is) (sym (beside-plain place (tree n d j none) (textless (tree m c k r)) (plain-textless (tree m c k r) (q, h.0 q)))))
    ]
  where
    at : is_attribute c ≡ true → (place : ℕ) → ((left : ℕ) → textless (beside left (tree n d j none) r) ≡ beside left (tree n d j none) (textless r))
        → textless (at_place place (tree n d j (tree m c k r)) (λ left. tree m c k (beside left (tree n d j none) r)))
        ≡ at_place place (tree n d j (tree m c k (textless r))) (λ left. tree m c k (beside left (tree n d j none) (textless r)))
    at q zero g = rw (attribute-no_text d is, attribute-no_text c q) refl
    at q (suc left) g = rw (attribute-no_text c q) (ap (tree m c k) (g left))

textless-with : (place n : ℕ) (d : Content) (j k : Trees) → is_attribute d ≡ true → AttributesFirst k → textless (with_tree place (tree n d j none) k) ≡ with_tree place (tree n d j none) (textless k)
textless-with place n d j k is h = rw is (textless-beside place n d j k is h)

blank-attribute : (ns : List ℕ) (p place n : ℕ) (d : Content) (j t : Trees) → is_attribute d ≡ true → FirstAt p t
    → blank ns (changed p (with_tree place (tree n d j none)) t) ≡ changed p (with_tree place (blank ns (tree n d j none))) (blank ns t)
blank-attribute ns p place n d j none is h = refl
blank-attribute ns p place n d j (tree m c k r) is h =
    ap (tree m (if has m ns then with_value [] c else c) (if has m ns then textless (blank ns below_) else blank ns below_)) (blank-attribute ns p place n d j r is h.2)
    ∙ ap (λ x. tree m (if has m ns then with_value [] c else c) x (changed p (with_tree place (blank ns (tree n d j none))) (blank ns r))) (by (m == p) refl (has m ns) (blank-attribute ns p place n d j k is h.1))
  where
    below_ : Trees
    below_ = if m == p then with_tree place (tree n d j none) k else changed p (with_tree place (tree n d j none)) k

    kind : is_attribute (if has n ns then with_value [] d else d) ≡ true
    kind = content-attribute (has n ns) d ∙ is

    by : (x : Bool) → (m == p) ≡ x → (b : Bool) → blank ns (changed p (with_tree place (tree n d j none)) k) ≡ changed p (with_tree place (blank ns (tree n d j none))) (blank ns k)
        → cond b (textless (blank ns (cond x (with_tree place (tree n d j none) k) (changed p (with_tree place (tree n d j none)) k)))) (blank ns (cond x (with_tree place (tree n d j none) k) (changed p (with_tree place (tree n d j none)) k)))
        ≡ cond x (with_tree place (blank ns (tree n d j none)) (cond b (textless (blank ns k)) (blank ns k))) (changed p (with_tree place (blank ns (tree n d j none))) (cond b (textless (blank ns k)) (blank ns k)))
    by true e true g = ap textless (blank-with ns place (tree n d j none) k)
        ∙ textless-with place n (if has n ns then with_value [] d else d) (if has n ns then textless (blank ns j) else blank ns j) (blank ns k) kind (first-blank ns k (h.0 e))
    by true e false g = blank-with ns place (tree n d j none) k
    by false e true g = ap textless g ∙ textless-changed p (with_tree place (blank ns (tree n d j none))) (blank ns k)
    by false e false g = g

-- ---- both

-- a tree whose top is no attribute, below a node whose texts count; or one of an attribute
pub data Passes (ns : List ℕ) (p : ℕ) (q : Content → Bool) : Type 0 where
  as_child : has p ns ≡ false → ((c : Content) → q c ≡ true → is_child c ≡ true) → Passes ns p q
  as_attribute : ((c : Content) → q c ≡ true → is_attribute c ≡ true) → Passes ns p q

-- it comes below the node with the texts that count as it does with all
pub blank-put : (ns : List ℕ) (p place : ℕ) (q : Content → Bool) → Passes ns p q → (n : ℕ) (x t : Trees) → FoundTree (λ c. q c ≡ true) n x → FirstAt p t
    → blank ns (changed p (with_tree place (found n x)) t) ≡ changed p (with_tree place (blank ns (found n x))) (blank ns t)
blank-put ns p place q (as_child out plain) n x t top h = blank-changed ns p place (found n x) t out
blank-put ns p place q (as_attribute is) n x t top h =
    subst (λ s. blank ns (changed p (with_tree place s) t) ≡ changed p (with_tree place (blank ns s)) (blank ns t)) (sym top.is) (blank-attribute ns p place n top.content top.below t (is top.content top.kind) h)

pub changed-followed : (p : ℕ) (f : Trees → Trees) (a b : Trees) → changed p f (followed a b) ≡ followed (changed p f a) (changed p f b)
changed-followed p f none b = refl
changed-followed p f (tree m c k r) b = ap (tree m c (if m == p then f k else changed p f k)) (changed-followed p f r b)
