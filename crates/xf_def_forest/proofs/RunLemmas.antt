-- What is below a node without element children: attributes, then texts, all one deeper.
use Rattle.std.proofs.Common.{◌≡◌, ℕ, suc, ◌==◌, Bool, true, false, cond, List, [], ◌∷◌, ◌++◌, map, nat_lt, refl, sym, ap, ◌∙◌, subst, append-nil, inl, inr, arith}
use Rattle.std.specs.Prelude.{⊤, ◌⊎◌, filter}
use Rattle.std.proofs.lemmas.Bool.{cases_Bool}
use Rattle.std.proofs.lemmas.Bool.Decides.{nat_tests}
use Rattle.std.proofs.lemmas.List.Elements.{filter-append}
use Rattle.xf_def_forest.specs.declared.content.Node.{Node}
use Rattle.xf_def_forest.specs.declared.content.Content.{Content}
use Rattle.xf_def_forest.specs.declared.content.Content.TheVariants.{Root, Element, Attribute, Text}
use Rattle.xf_def_forest.specs.Forest.{is_element, is_attribute, is_text, own_text, below, past, first_tree, from_node, tree_of}
use Rattle.xf_def_forest.specs.Texts.{text_node, one_text, at_depth, with_content, with_texts, texts_in, kept_from, back}

-- ---- shapes of a part of the list

abbrev pub AreTexts : ℕ → List Node → Type 0
AreTexts d [] = ⊤
AreTexts d (y ∷ ys) = (is_text y.content ≡ true) × (y.depth ≡ suc d) × AreTexts d ys

abbrev pub IsRun : ℕ → List Node → Type 0
IsRun d [] = ⊤
IsRun d (y ∷ ys) = ((is_attribute y.content ≡ true) × (y.depth ≡ suc d) × IsRun d ys) ⊎ ((is_text y.content ≡ true) × (y.depth ≡ suc d) × AreTexts d ys)

-- the first node with this number is an element, and below it is such a run
abbrev pub IsLeafAt : ℕ → List Node → Type 0
IsLeafAt n [] = ⊤
IsLeafAt n (x ∷ xs) = cond (x.number == n) ((is_element x.content ≡ true) × IsRun x.depth (below x.depth xs)) (IsLeafAt n xs)

abbrev pub AreDeeper : ℕ → List Node → Type 0
AreDeeper d [] = ⊤
AreDeeper d (y ∷ ys) = (nat_lt d y.depth ≡ true) × AreDeeper d ys

abbrev pub NoAttributes : List Node → Type 0
NoAttributes [] = ⊤
NoAttributes (y ∷ ys) = (is_attribute y.content ≡ false) × NoAttributes ys

-- ---- contents

pub text-no_attribute : (c : Content) → is_text c ≡ true → is_attribute c ≡ false
text-no_attribute Root e = refl
text-no_attribute (Element name) e = refl
text-no_attribute (Attribute name text) e = cc e
text-no_attribute (Text text) e = refl

pub attribute-no_text : (c : Content) → is_attribute c ≡ true → is_text c ≡ false
attribute-no_text Root e = refl
attribute-no_text (Element name) e = refl
attribute-no_text (Attribute name text) e = refl
attribute-no_text (Text text) e = cc e

pub element-no_text : (c : Content) → is_element c ≡ true → is_text c ≡ false
element-no_text Root e = refl
element-no_text (Element name) e = refl
element-no_text (Attribute name text) e = refl
element-no_text (Text text) e = cc e

pub text-again : (c : Content) → is_text c ≡ true → Text (own_text c) ≡ c
text-again Root e = cc e
text-again (Element name) e = cc e
text-again (Attribute name text) e = cc e
text-again (Text text) e = refl

-- ---- below and past

pub below-past : (d : ℕ) (xs : List Node) → below d (past d xs) ≡ []
below-past d [] = refl
below-past d (y ∷ ys) = elim (cases_Bool (nat_lt d y.depth)) [ inl e ↦ rw e (below-past d ys) | inr e ↦ rw e (rw e refl) ]

pub past-past : (d : ℕ) (xs : List Node) → past d (past d xs) ≡ past d xs
past-past d [] = refl
past-past d (y ∷ ys) = elim (cases_Bool (nat_lt d y.depth)) [ inl e ↦ rw e (past-past d ys) | inr e ↦ rw e (rw e refl) ]

pub below-then-past : (d : ℕ) (xs : List Node) → below d xs ++ past d xs ≡ xs
below-then-past d [] = refl
below-then-past d (y ∷ ys) = elim (cases_Bool (nat_lt d y.depth)) [ inl e ↦ rw e (ap (λ l. y ∷ l) (below-then-past d ys)) | inr e ↦ rw e refl ]

pub below-front : (d : ℕ) (zs xs : List Node) → AreDeeper d zs → below d (zs ++ past d xs) ≡ zs
below-front d [] xs h = below-past d xs
below-front d (a ∷ zs) xs h = rw h.0 (ap (λ l. a ∷ l) (below-front d zs xs h.1))

pub past-front : (d : ℕ) (zs xs : List Node) → AreDeeper d zs → past d (zs ++ past d xs) ≡ past d xs
past-front d [] xs h = past-past d xs
past-front d (a ∷ zs) xs h = rw h.0 (past-front d zs xs h.1)

pub deeper-append : (d : ℕ) (zs bs : List Node) → AreDeeper d zs → AreDeeper d bs → AreDeeper d (zs ++ bs)
deeper-append d [] bs h k = k
deeper-append d (a ∷ zs) bs h k = (h.0, deeper-append d zs bs h.1 k)

pub below-deeper : (p : Node → Bool) (d : ℕ) (xs : List Node) → AreDeeper d (filter p (below d xs))
below-deeper p d [] = tt
below-deeper p d (y ∷ ys) = elim (cases_Bool (nat_lt d y.depth)) [ inl e ↦ rw e (kept y (p y) e (below-deeper p d ys)) | inr e ↦ rw e tt ]
  where
    kept : (y : Node) (b : Bool) → nat_lt d y.depth ≡ true → AreDeeper d (filter p (below d ys)) → AreDeeper d (cond b (y ∷ filter p (below d ys)) (filter p (below d ys)))
    kept y true e h = (e, h)
    kept y false e h = h

-- ---- the texts of a run

pub no_attributes-filter : (xs : List Node) → NoAttributes xs → filter (λ x. is_attribute x.content) xs ≡ []
no_attributes-filter [] h = refl
no_attributes-filter (x ∷ xs) h = rw h.0 (no_attributes-filter xs h.1)

pub no_attributes-placed : (d : ℕ) (xs : List Node) → NoAttributes xs → NoAttributes (map (at_depth d) xs)
no_attributes-placed d [] h = tt
no_attributes-placed d (x ∷ xs) h = (h.0, no_attributes-placed d xs h.1)

pub placed-deeper : (d : ℕ) (xs : List Node) → AreDeeper d (map (at_depth (suc d)) xs)
placed-deeper d [] = tt
placed-deeper d (x ∷ xs) = (grind (arith, nat_tests), placed-deeper d xs)

pub one_text-no_attributes : (n : ℕ) (text : List ℕ) → NoAttributes (one_text n text)
one_text-no_attributes n [] = tt
one_text-no_attributes n (c ∷ cs) = (refl, tt)

again : (d : ℕ) (y : Node) → is_text y.content ≡ true → y.depth ≡ d → at_depth d (text_node y.number (own_text y.content)) ≡ y
again d y is deep = ap (λ c. record { number = y.number; depth = d; content = c }) (text-again y.content is) ∙ ap (λ k. record { number = y.number; depth = k; content = y.content }) (sym deep)

texts-again : (n d : ℕ) (xs : List Node) → AreTexts d xs → map (at_depth (suc d)) (back (kept_from n (texts_in xs))) ≡ xs
texts-again n d [] h = refl
texts-again n d (x ∷ xs) h = rw h.0 (ap (λ l. at_depth (suc d) (text_node x.number (own_text x.content)) ∷ l) (texts-again n d xs h.2) ∙ ap (λ y. y ∷ xs) (again (suc d) x h.0 h.1))

texts-no_attributes : (d : ℕ) (xs : List Node) → AreTexts d xs → NoAttributes xs
texts-no_attributes d [] h = tt
texts-no_attributes d (x ∷ xs) h = (text-no_attribute x.content h.0, texts-no_attributes d xs h.2)

-- the attributes of a run and its texts again are the run
pub run-again : (n d : ℕ) (xs : List Node) → IsRun d xs → filter (λ x. is_attribute x.content) xs ++ map (at_depth (suc d)) (back (kept_from n (texts_in xs))) ≡ xs
run-again n d [] h = refl
run-again n d (x ∷ xs) (inl h) = rw (h.0, attribute-no_text x.content h.0) (ap (λ l. x ∷ l) (run-again n d xs h.2))
run-again n d (x ∷ xs) (inr h) =
    ap (λ l. l ++ map (at_depth (suc d)) (back (kept_from n (texts_in (x ∷ xs))))) (no_attributes-filter (x ∷ xs) (text-no_attribute x.content h.0, texts-no_attributes d xs h.2))
    ∙ texts-again n d (x ∷ xs) h

-- ---- an element's content

pub content-again : (d : ℕ) (first second xs : List Node) → NoAttributes first → with_content d second (with_content d first xs) ≡ with_content d second xs
content-again d first second xs h =
    let zs = filter (λ y. is_attribute y.content) (below d xs) in
    let bs = map (at_depth (suc d)) first in
    let deep : AreDeeper d (zs ++ bs) = deeper-append d zs bs (below-deeper (λ y. is_attribute y.content) d xs) (placed-deeper d first) in
    let low : below d (with_content d first xs) ≡ zs ++ bs = below-front d (zs ++ bs) xs deep in
    let high : past d (with_content d first xs) ≡ past d xs = past-front d (zs ++ bs) xs deep in
    let none : filter (λ (y : Node). is_attribute y.content) (zs ++ bs) ≡ zs
    = filter-append (λ (y : Node). is_attribute y.content) zs bs
    ∙ ap (λ l. filter (λ (y : Node). is_attribute y.content) zs ++ l) (no_attributes-filter bs (no_attributes-placed (suc d) first h))
    ∙ append-nil (filter (λ (y : Node). is_attribute y.content) zs)
    ∙ filter-twice (λ (y : Node). is_attribute y.content) (below d xs) in
    ap (λ l. filter (λ (y : Node). is_attribute y.content) l ++ map (at_depth (suc d)) second ++ past d (with_content d first xs)) low
    ∙ ap (λ l. l ++ map (at_depth (suc d)) second ++ past d (with_content d first xs)) none
    ∙ ap (λ l. zs ++ map (at_depth (suc d)) second ++ l) high
  where
    filter-twice : (p : Node → Bool) (ys : List Node) → filter p (filter p ys) ≡ filter p ys
    filter-twice p [] = refl
    filter-twice p (y ∷ ys) = elim (cases_Bool (p y)) [ inl e ↦ rw e (rw e (ap (λ l. y ∷ l) (filter-twice p ys))) | inr e ↦ rw e (filter-twice p ys) ]

pub content-kept : (n d : ℕ) (xs : List Node) → IsRun d (below d xs) → with_content d (back (kept_from n (texts_in (below d xs)))) xs ≡ xs
content-kept n d xs h =
    ap (λ l. l ++ past d xs) (run-again n d (below d xs) h)
    ∙ below-then-past d xs

pub texts-over : (n : ℕ) (first second nodes : List Node) → NoAttributes first → with_texts n second (with_texts n first nodes) ≡ with_texts n second nodes
texts-over n first second [] h = refl
texts-over n first second (x ∷ xs) h =
    elim (cases_Bool (x.number == n)) [
      | inl e ↦ rw e (rw e (ap (λ l. x ∷ l) (content-again x.depth first second xs h)))
      | inr e ↦ rw e (rw e (ap (λ l. x ∷ l) (texts-over n first second xs h)))
    ]

pub tree-other : (n : ℕ) (x : Node) (xs : List Node) → (x.number == n) ≡ false → tree_of n (x ∷ xs) ≡ tree_of n xs
tree-other n x xs e = ap (λ b. first_tree (cond b (x ∷ xs) (from_node n xs))) e

pub tree-here : (n : ℕ) (x : Node) (xs : List Node) → (x.number == n) ≡ true → tree_of n (x ∷ xs) ≡ x ∷ below x.depth xs
tree-here n x xs e = ap (λ b. first_tree (cond b (x ∷ xs) (from_node n xs))) e

pub texts-kept : (n owner : ℕ) (nodes : List Node) → IsLeafAt n nodes → with_texts n (back (kept_from owner (texts_in (tree_of n nodes)))) nodes ≡ nodes
texts-kept n owner [] h = refl
texts-kept n owner (x ∷ xs) h =
    elim (cases_Bool (x.number == n)) [
      | inl e ↦ here e (rw e at h)
      | inr e ↦ subst (λ t. with_texts n (back (kept_from owner (texts_in t))) (x ∷ xs) ≡ x ∷ xs) (sym (tree-other n x xs e)) (rw e (ap (λ l. x ∷ l) (texts-kept n owner xs (rw e at h))))
    ]
  where
    here : (x.number == n) ≡ true → (is_element x.content ≡ true) × IsRun x.depth (below x.depth xs)
        → with_texts n (back (kept_from owner (texts_in (tree_of n (x ∷ xs))))) (x ∷ xs) ≡ x ∷ xs
    here e k = rw e (rw (element-no_text x.content k.0) (ap (λ l. x ∷ l) (content-kept owner x.depth xs k.1)))
