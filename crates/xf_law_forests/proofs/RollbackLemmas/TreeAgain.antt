-- Texts put back at a node whose texts do not count: the trees are alike again, and count there.
use Rattle.std.proofs.Common.{◌≡◌, ℕ, ◌==◌, Bool, true, false, cond, ◌||◌, List, [], ◌∷◌, refl, sym, ap, ◌∙◌, subst, inl, inr, arith}
use Rattle.std.specs.Prelude.{⊤, ◌≤◌, if◌then◌else◌}
use Rattle.std.proofs.lemmas.Bool.{cases_Bool}
use Rattle.xf_def_forest.specs.Forest.{is_attribute, is_text}
use Rattle.xf_def_forest.specs.Visit.{has}
use Rattle.xf_def_forest.specs.Texts.{with_value}
use Rattle.xf_def_forest.proofs.RunLemmas.{text-no_attribute, attribute-no_text}
use Rattle.xf_def_forest.proofs.BackLaws.{one_number}
use Rattle.xf_law_forests.proofs.RollbackLemmas.Trees.{Trees, none, tree, followed, times}
use Rattle.xf_law_forests.proofs.RollbackLemmas.TreeTexts.{attributes, retexted, revalued}
use Rattle.xf_law_forests.proofs.RollbackLemmas.TreeShape.{is_leaf}
use Rattle.xf_law_forests.proofs.RollbackLemmas.TreeMoved.{Moved, moved-retexted, moved-revalued, value-over, value-other, value-attribute, value-text, element-no_attribute}
use Rattle.xf_law_forests.proofs.RollbackLemmas.TreeBlank.{textless, blank, AreTexts, AreLeaves, LeafAt, blank-followed, attributes-blank, attributes-textless, blank-absent, moved-more}

same_has : (m n : ℕ) (ns : List ℕ) (b : Bool) → (m == n) ≡ true → has n ns ≡ b → has m ns ≡ b
same_has m n ns b e h = subst (λ x. has x ns ≡ b) (sym (one_number m n e)) h

blank-texts : (ns : List ℕ) (s : Trees) → AreTexts s → blank ns s ≡ s
blank-texts ns none h = refl
blank-texts ns (tree n c k r) h =
    subst (λ j. blank ns (tree n c j r) ≡ tree n c j r) (sym h.1)
    (ap (λ x. tree n (if has n ns then with_value [] c else c) x (blank ns r)) (by (has n ns)) ∙ ap (λ x. tree n x none (blank ns r)) (content (has n ns)) ∙ ap (tree n c none) (blank-texts ns r h.2))
  where
    by : (b : Bool) → cond b none none ≡ none
    by true = refl
    by false = refl

    content : (b : Bool) → cond b (with_value [] c) c ≡ c
    content true = value-other [] c (text-no_attribute c h.0)
    content false = refl

textless-texts : (t s : Trees) → AreTexts s → textless (followed (attributes t) s) ≡ attributes t
textless-texts none none h = refl
textless-texts none (tree n c k r) h = rw h.0 (textless-texts none r h.2)
textless-texts (tree n c k r) s h =
    elim (cases_Bool (is_attribute c)) [
      | inl e ↦ rw e (rw (attribute-no_text c e) (ap (tree n c k) (textless-texts r s h)))
      | inr e ↦ rw e (textless-texts r s h)
    ]

textless-leaves : (t : Trees) → AreLeaves t → textless t ≡ attributes t
textless-leaves none h = refl
textless-leaves (tree n c k r) h =
    elim (cases_Bool (is_attribute c)) [
      | inl e ↦ rw (e, attribute-no_text c e) (ap (tree n c k) (textless-leaves r h.2))
      | inr e ↦ rw (e, text e) (textless-leaves r h.2)
    ]
  where
    text : is_attribute c ≡ false → is_text c ≡ true
    text e = subst (λ b. (b || is_text c) ≡ true) e h.0

blank-leaves : (ns : List ℕ) (t : Trees) → AreLeaves t → AreLeaves (blank ns t)
blank-leaves ns none h = tt
blank-leaves ns (tree n c k r) h = (leaf (has n ns), subst (λ j. (if has n ns then textless (blank ns j) else blank ns j) ≡ none) (sym h.1) (by (has n ns)), blank-leaves ns r h.2)
  where
    by : (b : Bool) → cond b none none ≡ none
    by true = refl
    by false = refl

    leaf : (b : Bool) → is_leaf (cond b (with_value [] c) c) ≡ true
    leaf true = ap (λ x. x || is_text (with_value [] c)) (value-attribute [] c) ∙ ap (λ x. is_attribute c || x) (value-text [] c) ∙ h.0
    leaf false = h.0

textless-through : (n : ℕ) (s t : Trees) → textless (retexted n s t) ≡ retexted n s (textless t)
textless-through n s none = refl
textless-through n s (tree m c k r) =
    elim (cases_Bool (is_text c)) [
      | inl e ↦ rw e (textless-through n s r)
      | inr e ↦ rw e (ap (tree m c (if m == n then followed (attributes k) s else retexted n s k)) (textless-through n s r))
    ]

-- ---- the texts of an element

-- they count again
again-blank : (n : ℕ) (s : Trees) (ns : List ℕ) (t : Trees) → has n ns ≡ false → AreTexts s → times n t ≤ 1 → LeafAt n t → blank ns (retexted n s t) ≡ retexted n s (blank (n ∷ ns) t)
again-blank n s ns none out texts once leaf = refl
again-blank n s ns (tree m c k r) out texts once leaf =
    elim (cases_Bool (m == n)) [
      | inl e ↦
          let no : times n k ≡ 0 = omega (arith, (rw e at once)) in
          let l = leaf.0 e in
          rw (e, same_has m n ns false e out)
          (ap (λ x. tree m c x (blank ns (retexted n s r)))
          (blank-followed ns (attributes k) s ∙ ap (followed (blank ns (attributes k))) (blank-texts ns s texts)
          ∙ ap (λ x. followed x s) (sym (attributes-blank ns k) ∙ sym (attributes-textless (blank ns k)) ∙ ap (λ x. attributes (textless x)) (sym (blank-absent n ns k no))))
          ∙ ap (λ x. tree m x (followed (attributes (textless (blank (n ∷ ns) k))) s) (blank ns (retexted n s r))) (sym (value-other [] c (element-no_attribute c l.0)))
          ∙ ap (tree m (with_value [] c) (followed (attributes (textless (blank (n ∷ ns) k))) s)) (again-blank n s ns r out texts (omega (arith, (rw e at once))) leaf.2))
      | inr e ↦
          let in_k : times n k ≤ 1 = omega (arith, (rw e at once)) in
          let in_r : times n r ≤ 1 = omega (arith, (rw e at once)) in
          rw e (ap (tree m (if has m ns then with_value [] c else c) (if has m ns then textless (blank ns (retexted n s k)) else blank ns (retexted n s k))) (again-blank n s ns r out texts in_r leaf.2)
          ∙ ap (λ x. tree m (if has m ns then with_value [] c else c) x (retexted n s (blank (n ∷ ns) r))) (by (has m ns) (again-blank n s ns k out texts in_k leaf.1)))
    ]
  where
    by : (b : Bool) → blank ns (retexted n s k) ≡ retexted n s (blank (n ∷ ns) k)
        → cond b (textless (blank ns (retexted n s k))) (blank ns (retexted n s k)) ≡ retexted n s (cond b (textless (blank (n ∷ ns) k)) (blank (n ∷ ns) k))
    by true h = ap textless h ∙ textless-through n s (blank (n ∷ ns) k)
    by false h = h

-- where they do not count, they make no difference
no-difference : (n : ℕ) (s : Trees) (ns : List ℕ) (t : Trees) → has n ns ≡ true → AreTexts s → LeafAt n t → blank ns (retexted n s t) ≡ blank ns t
no-difference n s ns none within texts leaf = refl
no-difference n s ns (tree m c k r) within texts leaf =
    elim (cases_Bool (m == n)) [
      | inl e ↦
          let l = leaf.0 e in
          rw (e, same_has m n ns true e within)
          (ap (λ x. tree m (with_value [] c) x (blank ns (retexted n s r)))
          (ap textless (blank-followed ns (attributes k) s ∙ ap (followed (blank ns (attributes k))) (blank-texts ns s texts) ∙ ap (λ x. followed x s) (sym (attributes-blank ns k)))
          ∙ textless-texts (blank ns k) s texts ∙ sym (textless-leaves (blank ns k) (blank-leaves ns k l.1)))
          ∙ ap (tree m (with_value [] c) (textless (blank ns k))) (no-difference n s ns r within texts leaf.2))
      | inr e ↦
          rw e (ap (tree m (if has m ns then with_value [] c else c) (if has m ns then textless (blank ns (retexted n s k)) else blank ns (retexted n s k))) (no-difference n s ns r within texts leaf.2)
          ∙ ap (λ x. tree m (if has m ns then with_value [] c else c) (if has m ns then textless x else x) (blank ns r)) (no-difference n s ns k within texts leaf.1))
    ]

pub retexted-alike : (n : ℕ) (s : Trees) (ns : List ℕ) (a b : Trees) → AreTexts s → times n a ≤ 1 → times n b ≤ 1 → LeafAt n a → LeafAt n b
    → Moved (blank (n ∷ ns) a) (blank (n ∷ ns) b) → Moved (blank ns (retexted n s a)) (blank ns (retexted n s b))
retexted-alike n s ns a b texts in_a in_b leaf_a leaf_b h =
    elim (cases_Bool (has n ns)) [
      | inl e ↦
          subst (λ x. Moved x (blank ns (retexted n s b))) (sym (no-difference n s ns a e texts leaf_a))
          (subst (Moved (blank ns a)) (sym (no-difference n s ns b e texts leaf_b)) (moved-more (n ∷ ns) ns (more e) a b h))
      | inr e ↦
          subst (λ x. Moved x (blank ns (retexted n s b))) (sym (again-blank n s ns a e texts in_a leaf_a))
          (subst (Moved (retexted n s (blank (n ∷ ns) a))) (sym (again-blank n s ns b e texts in_b leaf_b)) (moved-retexted n s h))
    ]
  where
    more : has n ns ≡ true → (m : ℕ) → has m (n ∷ ns) ≡ true → has m ns ≡ true
    more e m h = elim (cases_Bool (m == n)) [ inl p ↦ same_has m n ns true p e | inr p ↦ (rw p at h) ]

-- a setting where texts do not count makes no difference
pub retexted-within : (n : ℕ) (s : Trees) (ns : List ℕ) (t : Trees) → has n ns ≡ true → AreTexts s → LeafAt n t → blank ns (retexted n s t) ≡ blank ns t
retexted-within = no-difference

-- ---- the text of an attribute

abbrev pub AttributeAt : ℕ → Trees → Type 0
AttributeAt n none = ⊤
AttributeAt n (tree m c k r) = ((m == n) ≡ true → (is_attribute c ≡ true) × (k ≡ none)) × AttributeAt n k × AttributeAt n r

textless-revalued : (n : ℕ) (text : List ℕ) (t : Trees) → textless (revalued n text t) ≡ revalued n text (textless t)
textless-revalued n text none = refl
textless-revalued n text (tree m c k r) =
    elim (cases_Bool (is_text c)) [
      | inl e ↦ rw (e, by (m == n) ∙ e) (textless-revalued n text r)
      | inr e ↦ rw (e, by (m == n) ∙ e) (ap (tree m (if m == n then with_value text c else c) (revalued n text k)) (textless-revalued n text r))
    ]
  where
    by : (b : Bool) → is_text (cond b (with_value text c) c) ≡ is_text c
    by true = value-text text c
    by false = refl

value-blank : (n : ℕ) (text : List ℕ) (ns : List ℕ) (t : Trees) → has n ns ≡ false → AttributeAt n t → blank ns (revalued n text t) ≡ revalued n text (blank (n ∷ ns) t)
value-blank n text ns none out at_ = refl
value-blank n text ns (tree m c k r) out at_ =
    elim (cases_Bool (m == n)) [
      | inl e ↦
          let bare : k ≡ none = (at_.0 e).1 in
          rw (e, same_has m n ns false e out)
          (subst (λ j. tree m (with_value text c) (blank ns (revalued n text j)) (blank ns (revalued n text r)) ≡ tree m (with_value text (with_value [] c)) (revalued n text (textless (blank (n ∷ ns) j))) (revalued n text (blank (n ∷ ns) r))) (sym bare)
          (ap (λ x. tree m x none (blank ns (revalued n text r))) (sym (value-over [] text c)) ∙ ap (tree m (with_value text (with_value [] c)) none) (value-blank n text ns r out at_.2)))
      | inr e ↦
          rw e (ap (tree m (if has m ns then with_value [] c else c) (if has m ns then textless (blank ns (revalued n text k)) else blank ns (revalued n text k))) (value-blank n text ns r out at_.2)
          ∙ ap (λ x. tree m (if has m ns then with_value [] c else c) x (revalued n text (blank (n ∷ ns) r))) (by (has m ns) (value-blank n text ns k out at_.1)))
    ]
  where
    by : (b : Bool) → blank ns (revalued n text k) ≡ revalued n text (blank (n ∷ ns) k)
        → cond b (textless (blank ns (revalued n text k))) (blank ns (revalued n text k)) ≡ revalued n text (cond b (textless (blank (n ∷ ns) k)) (blank (n ∷ ns) k))
    by true h = ap textless h ∙ textless-revalued n text (blank (n ∷ ns) k)
    by false h = h

pub revalued-within : (n : ℕ) (text : List ℕ) (ns : List ℕ) (t : Trees) → has n ns ≡ true → blank ns (revalued n text t) ≡ blank ns t
revalued-within n text ns none within = refl
revalued-within n text ns (tree m c k r) within =
    ap (tree m (if has m ns then with_value [] (if m == n then with_value text c else c) else (if m == n then with_value text c else c))
    (if has m ns then textless (blank ns (revalued n text k)) else blank ns (revalued n text k))) (revalued-within n text ns r within)
    ∙ ap (λ x. tree m (if has m ns then with_value [] (if m == n then with_value text c else c) else (if m == n then with_value text c else c)) (if has m ns then textless x else x) (blank ns r)) (revalued-within n text ns k within)
    ∙ ap (λ x. tree m x (if has m ns then textless (blank ns k) else blank ns k) (blank ns r)) (by (m == n) refl)
  where
    by : (b : Bool) → (m == n) ≡ b → (if has m ns then with_value [] (cond b (with_value text c) c) else cond b (with_value text c) c) ≡ (if has m ns then with_value [] c else c)
    by true e = rw (same_has m n ns true e within) (value-over text [] c)
    by false e = refl

pub revalued-alike : (n : ℕ) (text : List ℕ) (ns : List ℕ) (a b : Trees) → AttributeAt n a → AttributeAt n b → Moved (blank (n ∷ ns) a) (blank (n ∷ ns) b) → Moved (blank ns (revalued n text a)) (blank ns (revalued n text b))
revalued-alike n text ns a b at_a at_b h =
    elim (cases_Bool (has n ns)) [
      | inl e ↦
          subst (λ x. Moved x (blank ns (revalued n text b))) (sym (revalued-within n text ns a e))
          (subst (Moved (blank ns a)) (sym (revalued-within n text ns b e)) (moved-more (n ∷ ns) ns (more e) a b h))
      | inr e ↦
          subst (λ x. Moved x (blank ns (revalued n text b))) (sym (value-blank n text ns a e at_a))
          (subst (Moved (revalued n text (blank (n ∷ ns) a))) (sym (value-blank n text ns b e at_b)) (moved-revalued n text h))
    ]
  where
    more : has n ns ≡ true → (m : ℕ) → has m (n ∷ ns) ≡ true → has m ns ≡ true
    more e m h = elim (cases_Bool (m == n)) [ inl p ↦ same_has m n ns true p e | inr p ↦ (rw p at h) ]
