-- Texts set at a node of trees, as they are set in the list.
use Rattle.std.proofs.Common.{◌≡◌, ℕ, suc, ◌+◌, ◌==◌, Bool, true, false, cond, List, [], ◌∷◌, ◌++◌, map, nat_lt, refl, sym, ap, ◌∙◌, subst, inl, inr, append_assoc, arith}
use Rattle.std.specs.Prelude.{⊤, filter, if◌then◌else◌}
use Rattle.std.proofs.lemmas.Bool.{cases_Bool}
use Rattle.std.proofs.lemmas.Bool.Decides.{nat_tests}
use Rattle.xf_def_forest.specs.declared.content.Node.{Node}
use Rattle.xf_def_forest.specs.declared.content.Content.{Content}
use Rattle.xf_def_forest.specs.Forest.{is_attribute, below, past}
use Rattle.xf_def_forest.specs.Texts.{at_depth, with_content, with_texts, with_value, valued, with_attribute_text}
use Rattle.xf_law_forests.proofs.RollbackLemmas.Trees.{Trees, none, tree, onto, followed, times, StopsAt, stops-more, onto-followed, onto-append}

-- the attributes among trees that follow each other
abbrev pub attributes : Trees → Trees
attributes none = none
attributes (tree n c k r) = if is_attribute c then tree n c k (attributes r) else attributes r

-- nodes without anything below them
abbrev pub lone : List Node → Trees
lone [] = none
lone (x ∷ xs) = tree x.number x.content none (lone xs)

-- each node with this number has its attributes, and these trees after them
abbrev pub retexted : ℕ → Trees → Trees → Trees
retexted n s none = none
retexted n s (tree m c k r) = tree m c (if m == n then followed (attributes k) s else retexted n s k) (retexted n s r)

abbrev pub revalued : ℕ → List ℕ → Trees → Trees
revalued n text none = none
revalued n text (tree m c k r) = tree m (if m == n then with_value text c else c) (revalued n text k) (revalued n text r)

-- nothing is below any of these
abbrev pub Bare : Trees → Type 0
Bare none = ⊤
Bare (tree n c k r) = (k ≡ none) × Bare r

-- nor below what is directly below a node with this number
abbrev pub BareAt : ℕ → Trees → Type 0
BareAt n none = ⊤
BareAt n (tree m c k r) = ((m == n) ≡ true → Bare k) × BareAt n k × BareAt n r

-- ---- an attribute's text

pub valued-onto : (n : ℕ) (text : List ℕ) (d : ℕ) (t : Trees) (ys : List Node) → with_attribute_text n text (onto d t ys) ≡ onto d (revalued n text t) (with_attribute_text n text ys)
valued-onto n text d none ys = refl
valued-onto n text d (tree m c k r) ys =
    ap (λ l. valued n text (record { number = m; depth = d; content = c }) ∷ l) (valued-onto n text (suc d) k (onto d r ys) ∙ ap (onto (suc d) (revalued n text k)) (valued-onto n text d r ys))
    ∙ by (m == n) refl
  where
    by : (b : Bool) → (m == n) ≡ b
        → valued n text (record { number = m; depth = d; content = c }) ∷ onto (suc d) (revalued n text k) (onto d (revalued n text r) (with_attribute_text n text ys))
        ≡ onto d (revalued n text (tree m c k r)) (with_attribute_text n text ys)
    by true e = rw e refl
    by false e = rw e refl

-- ---- an element's texts

none-below : (d : ℕ) (ys : List Node) → StopsAt (suc d) ys → below d ys ≡ []
none-below d [] h = refl
none-below d (y ∷ ys) h = let e : nat_lt d y.depth ≡ false = grind (arith, nat_tests, h) in rw e refl

all-past : (d : ℕ) (ys : List Node) → StopsAt (suc d) ys → past d ys ≡ ys
all-past d [] h = refl
all-past d (y ∷ ys) h = let e : nat_lt d y.depth ≡ false = grind (arith, nat_tests, h) in rw e refl

below-inner : (d e : ℕ) (t : Trees) (zs : List Node) → nat_lt d e ≡ true → below d (onto e t zs) ≡ onto e t (below d zs)
below-inner d e none zs h = refl
below-inner d e (tree n c k r) zs h =
    let deeper : nat_lt d (suc e) ≡ true = grind (arith, nat_tests, h) in
    rw h (ap (λ l. record { number = n; depth = e; content = c } ∷ l) (below-inner d (suc e) k (onto e r zs) deeper ∙ ap (onto (suc e) k) (below-inner d e r zs h)))

-- what is below a node is all that stands deeper
pub below-onto : (d : ℕ) (t : Trees) (ys : List Node) → StopsAt (suc d) ys → below d (onto (suc d) t ys) ≡ onto (suc d) t []
below-onto d t ys h = below-inner d (suc d) t ys (grind (arith, nat_tests)) ∙ ap (onto (suc d) t) (none-below d ys h)

past-inner : (d e : ℕ) (t : Trees) (zs : List Node) → nat_lt d e ≡ true → past d (onto e t zs) ≡ past d zs
past-inner d e none zs h = refl
past-inner d e (tree n c k r) zs h =
    let deeper : nat_lt d (suc e) ≡ true = grind (arith, nat_tests, h) in
    rw h (past-inner d (suc e) k (onto e r zs) deeper ∙ past-inner d e r zs h)

pub past-onto : (d : ℕ) (t : Trees) (ys : List Node) → StopsAt (suc d) ys → past d (onto (suc d) t ys) ≡ ys
past-onto d t ys h = past-inner d (suc d) t ys (grind (arith, nat_tests)) ∙ all-past d ys h

lone-onto : (d : ℕ) (texts ys : List Node) → map (at_depth d) texts ++ ys ≡ onto d (lone texts) ys
lone-onto d [] ys = refl
lone-onto d (x ∷ xs) ys = ap (λ l. at_depth d x ∷ l) (lone-onto d xs ys)

attributes-onto : (d : ℕ) (t : Trees) → Bare t → filter (λ y. is_attribute y.content) (onto d t []) ≡ onto d (attributes t) []
attributes-onto d none h = refl
attributes-onto d (tree n c k r) h =
    subst (λ j. filter (λ y. is_attribute y.content) (onto d (tree n c j r) []) ≡ onto d (attributes (tree n c j r)) []) (sym h.0) (by (is_attribute c) (attributes-onto d r h.1))
  where
    by : (b : Bool) → filter (λ y. is_attribute y.content) (onto d r []) ≡ onto d (attributes r) []
        → cond b (record { number = n; depth = d; content = c } ∷ filter (λ y. is_attribute y.content) (onto d r [])) (filter (λ y. is_attribute y.content) (onto d r []))
        ≡ onto d (cond b (tree n c none (attributes r)) (attributes r)) []
    by true e = ap (λ l. record { number = n; depth = d; content = c } ∷ l) e
    by false e = e

content-onto : (d : ℕ) (texts : List Node) (k : Trees) (ys : List Node) → Bare k → StopsAt (suc d) ys
    → with_content d texts (onto (suc d) k ys) ≡ onto (suc d) (followed (attributes k) (lone texts)) ys
content-onto d texts k ys bare stops =
    ap (λ l. filter (λ y. is_attribute y.content) l ++ map (at_depth (suc d)) texts ++ past d (onto (suc d) k ys)) (below-onto d k ys stops)
    ∙ ap (λ l. l ++ map (at_depth (suc d)) texts ++ past d (onto (suc d) k ys)) (attributes-onto (suc d) k bare)
    ∙ ap (λ l. onto (suc d) (attributes k) [] ++ map (at_depth (suc d)) texts ++ l) (past-onto d k ys stops)
    ∙ append_assoc (onto (suc d) (attributes k) []) (map (at_depth (suc d)) texts) ys
    ∙ onto-append (suc d) (attributes k) [] (map (at_depth (suc d)) texts ++ ys)
    ∙ ap (onto (suc d) (attributes k)) (lone-onto (suc d) texts ys)
    ∙ sym (onto-followed (suc d) (attributes k) (lone texts) ys)

stops-on : (d : ℕ) (t : Trees) (ys : List Node) → StopsAt (suc d) ys → StopsAt (suc d) (onto d t ys)
stops-on d none ys h = h
stops-on d (tree n c k r) ys h = grind (arith, nat_tests)

stops-more-on : (d : ℕ) (t : Trees) (ys : List Node) → StopsAt (suc d) ys → StopsAt (suc (suc d)) (onto d t ys)
stops-more-on d t ys h = stops-more (suc d) (onto d t ys) (stops-on d t ys h)

pub times-split : (n m : ℕ) (c : Content) (k r : Trees) → times n (tree m c k r) ≡ 0 → ((m == n) ≡ false) × (times n k ≡ 0) × (times n r ≡ 0)
times-split n m c k r h =
    elim (cases_Bool (m == n)) [
      | inl e ↦ absurd (omega (arith, (rw e at h)))
      | inr e ↦ let g : 0 + (times n k + times n r) ≡ 0 = rw e at h in (e, omega (arith, g), omega (arith, g))
    ]

pub texts-skip : (n : ℕ) (texts : List Node) (d : ℕ) (t : Trees) (ys : List Node) → times n t ≡ 0 → with_texts n texts (onto d t ys) ≡ onto d t (with_texts n texts ys)
texts-skip n texts d none ys h = refl
texts-skip n texts d (tree m c k r) ys h =
    let parts = times-split n m c k r h in
    rw parts.0 (ap (λ l. record { number = m; depth = d; content = c } ∷ l) (texts-skip n texts (suc d) k (onto d r ys) parts.1 ∙ ap (onto (suc d) k) (texts-skip n texts d r ys parts.2)))

pub retexted-absent : (n : ℕ) (s t : Trees) → times n t ≡ 0 → retexted n s t ≡ t
retexted-absent n s none h = refl
retexted-absent n s (tree m c k r) h =
    let parts = times-split n m c k r h in
    rw parts.0 (ap (λ x. tree m c x (retexted n s r)) (retexted-absent n s k parts.1) ∙ ap (tree m c k) (retexted-absent n s r parts.2))

-- the number is there once: at the top, below it or after it
pub data Where (n m : ℕ) (k r : Trees) : Type 0 where
  here : (m == n) ≡ true → times n k ≡ 0 → times n r ≡ 0 → Where n m k r
  inside : (m == n) ≡ false → times n k ≡ 1 → times n r ≡ 0 → Where n m k r
  later : (m == n) ≡ false → times n k ≡ 0 → times n r ≡ 1 → Where n m k r

pub where_is : (n m : ℕ) (c : Content) (k r : Trees) → times n (tree m c k r) ≡ 1 → Where n m k r
where_is n m c k r h =
    elim (cases_Bool (m == n)) [
      | inl e ↦ let g : 1 + (times n k + times n r) ≡ 1 = rw e at h in here e (omega (arith, g)) (omega (arith, g))
      | inr e ↦ let g : 0 + (times n k + times n r) ≡ 1 = rw e at h in
          elim (cases_Bool (times n k == 0)) [
            | inl z ↦ let y : times n k ≡ 0 = grind (arith, nat_tests, z) in later e y (omega (arith, g, y))
            | inr z ↦ let y : times n k ≡ 1 = grind (arith, nat_tests, z, g) in inside e y (omega (arith, g, y))
          ]
    ]

pub texts-onto : (n : ℕ) (texts : List Node) (d : ℕ) (t : Trees) (ys : List Node) → times n t ≡ 1 → BareAt n t → StopsAt (suc d) ys
    → with_texts n texts (onto d t ys) ≡ onto d (retexted n (lone texts) t) ys
texts-onto n texts d none ys once bare stops = absurd (omega (arith, once))
texts-onto n texts d (tree m c k r) ys once bare stops =
    by (where_is n m c k r once) (λ p. texts-onto n texts (suc d) k (onto d r ys) p bare.1 (stops-more-on d r ys stops)) (λ q. texts-onto n texts d r ys q bare.2 stops)
  where
    Result : Type 0
    Result = with_texts n texts (onto d (tree m c k r) ys) ≡ onto d (retexted n (lone texts) (tree m c k r)) ys

    by : Where n m k r → (times n k ≡ 1 → with_texts n texts (onto (suc d) k (onto d r ys)) ≡ onto (suc d) (retexted n (lone texts) k) (onto d r ys))
        → (times n r ≡ 1 → with_texts n texts (onto d r ys) ≡ onto d (retexted n (lone texts) r) ys) → Result
    by (here e p q) one two =
        rw e (ap (λ l. record { number = m; depth = d; content = c } ∷ l) (content-onto d texts k (onto d r ys) (bare.0 e) (stops-on d r ys stops)
        ∙ ap (λ x. onto (suc d) (followed (attributes k) (lone texts)) (onto d x ys)) (sym (retexted-absent n (lone texts) r q))))
    by (inside e p q) one two =
        rw e (ap (λ l. record { number = m; depth = d; content = c } ∷ l) (one p
        ∙ ap (λ x. onto (suc d) (retexted n (lone texts) k) (onto d x ys)) (sym (retexted-absent n (lone texts) r q))))
    by (later e p q) one two =
        rw e (ap (λ l. record { number = m; depth = d; content = c } ∷ l) (texts-skip n texts (suc d) k (onto d r ys) p
        ∙ ap (onto (suc d) k) (two q)
        ∙ ap (λ x. onto (suc d) x (onto d (retexted n (lone texts) r) ys)) (sym (retexted-absent n (lone texts) k p))))
