-- A text that was set and put back: the node has what it had, and the kept texts are those that were kept before.
use Rattle.std.proofs.Common.{◌≡◌, ℕ, ◌==◌, Bool, true, false, not, cond, ◌&&◌, ◌||◌, List, [], ◌∷◌, ◌++◌, nat_lt, refl, sym, ap, ◌∙◌, subst, append-nil, inl, inr, arith}
use Rattle.std.specs.Prelude.{⊤, ◌⊎◌, filter}
use Rattle.std.specs.List.{list_any}
use Rattle.std.proofs.lemmas.Bool.{cases_Bool}
use Rattle.std.proofs.lemmas.Bool.Decides.{nat_tests}
use Rattle.std.proofs.lemmas.List.Elements.{filter-append}
use Rattle.xf_def_forest.specs.declared.content.Node.{Node}
use Rattle.xf_def_forest.specs.declared.content.Content.{Content}
use Rattle.xf_def_forest.specs.declared.content.Content.TheVariants.{Root, Element, Attribute, Text}
use Rattle.xf_def_forest.specs.Forest.{is_attribute, is_text, own_text, below, has_number, tree_of}
use Rattle.xf_def_forest.specs.Visit.{has, numbers}
use Rattle.xf_def_forest.specs.WellFormed.{are_apart}
use Rattle.xf_def_forest.specs.Texts.{Keeping, KeptText, one_text, with_texts, with_value, with_attribute_text, is_attribute_at, texts_in, value_in, kept_from, before_of, taken_from, with_text, put_back, is_of, without, back}
use Rattle.xf_def_forest.proofs.RunLemmas.{IsLeafAt, texts-over, texts-kept, one_text-no_attributes, tree-here, tree-other}

-- ---- kept texts

-- texts whose numbers are all among these
abbrev AllOf : List ℕ → List KeptText → Type 0
AllOf ns [] = ⊤
AllOf ns (t ∷ ts) = (is_of ns t ≡ true) × AllOf ns ts

abbrev NoneOf : List ℕ → List KeptText → Type 0
NoneOf ns [] = ⊤
NoneOf ns (t ∷ ts) = (is_of ns t ≡ false) × NoneOf ns ts

all-filter : (ns : List ℕ) (ts : List KeptText) → AllOf ns ts → filter (is_of ns) ts ≡ ts
all-filter ns [] h = refl
all-filter ns (t ∷ ts) h = rw h.0 (ap (λ l. t ∷ l) (all-filter ns ts h.1))

none-filter : (ns : List ℕ) (ts : List KeptText) → NoneOf ns ts → filter (is_of ns) ts ≡ []
none-filter ns [] h = refl
none-filter ns (t ∷ ts) h = rw h.0 (none-filter ns ts h.1)

all-without : (ns : List ℕ) (ts : List KeptText) → AllOf ns ts → without ns ts ≡ []
all-without ns [] h = refl
all-without ns (t ∷ ts) h = rw h.0 (all-without ns ts h.1)

none-without : (ns : List ℕ) (ts : List KeptText) → NoneOf ns ts → without ns ts ≡ ts
none-without ns [] h = refl
none-without ns (t ∷ ts) h = rw h.0 (ap (λ l. t ∷ l) (none-without ns ts h.1))

same_number : (n : ℕ) → (n == n) ≡ true
same_number n = grind (arith, nat_tests)

more : (m : ℕ) (ns : List ℕ) (ts : List KeptText) → AllOf ns ts → AllOf (m ∷ ns) ts
more m ns [] h = tt
more m ns (t ∷ ts) h = (rw h.0 (or-true (t.number == m)), more m ns ts h.1)
  where
    or-true : (b : Bool) → (b || true) ≡ true
    or-true true = refl
    or-true false = refl

own-all : (owner : ℕ) (xs : List Node) → AllOf (numbers xs) (kept_from owner xs)
own-all owner [] = tt
own-all owner (x ∷ xs) = (rw (same_number x.number) refl, more x.number (numbers xs) (kept_from owner xs) (own-all owner xs))

-- ---- numbers that do not stand in the forest are not among those of a part of it

turned : (m n : ℕ) → (m == n) ≡ (n == m)
turned m n = grind (arith, nat_tests)

pub false-true : false ≡ true → ⊥
false-true e = cc e

pub and-true : (a b : Bool) → (a && b) ≡ true → (a ≡ true) × (b ≡ true)
and-true true b e = (refl, e)
and-true false b e = absurd (false-true e)

pub not-true : (b : Bool) → not b ≡ true → b ≡ false
not-true true e = absurd (false-true e)
not-true false e = refl

pub or-false : (a b : Bool) → (a || b) ≡ false → (a ≡ false) × (b ≡ false)
or-false true b e = (e, absurd (true-false e))
  where
    true-false : true ≡ false → ⊥
    true-false e = cc e
or-false false b e = (refl, e)

absent-filter : (m : ℕ) (p : Node → Bool) (xs : List Node) → has_number m xs ≡ false → has m (numbers (filter p xs)) ≡ false
absent-filter m p [] e = refl
absent-filter m p (x ∷ xs) e =
    let parts = or-false (x.number == m) (has_number m xs) e in
    let rest = absent-filter m p xs parts.1 in
    elim (cases_Bool (p x)) [
      | inl q ↦ rw q (rw (turned m x.number ∙ parts.0, rest) refl)
      | inr q ↦ rw q rest
    ]

absent-below : (m d : ℕ) (xs : List Node) → has_number m xs ≡ false → has_number m (below d xs) ≡ false
absent-below m d [] e = refl
absent-below m d (x ∷ xs) e =
    let parts = or-false (x.number == m) (has_number m xs) e in
    cut (nat_lt d x.depth) parts.0 (absent-below m d xs parts.1)
  where
    cut : (b : Bool) → (x.number == m) ≡ false → has_number m (below d xs) ≡ false → has_number m (cond b (x ∷ below d xs) []) ≡ false
    cut true h k = rw (h, k) refl
    cut false h k = refl

absent-tree : (m n : ℕ) (nodes : List Node) → has_number m nodes ≡ false → has_number m (tree_of n nodes) ≡ false
absent-tree m n [] e = refl
absent-tree m n (x ∷ xs) e =
    let parts = or-false (x.number == m) (has_number m xs) e in
    elim (cases_Bool (x.number == n)) [
      | inl q ↦ subst (λ l. has_number m l ≡ false) (sym (tree-here n x xs q)) (rw (parts.0, absent-below m x.depth xs parts.1) refl)
      | inr q ↦ subst (λ l. has_number m l ≡ false) (sym (tree-other n x xs q)) (absent-tree m n xs parts.1)
    ]

-- no kept text stands in the forest
abbrev pub AreOutside : List Node → List KeptText → Type 0
AreOutside nodes [] = ⊤
AreOutside nodes (t ∷ ts) = (has_number t.number nodes ≡ false) × AreOutside nodes ts

pub outside-all : (nodes : List Node) (kept : List KeptText) → list_any (λ t. has_number t.number nodes) kept ≡ false → AreOutside nodes kept
outside-all nodes [] e = tt
outside-all nodes (t ∷ ts) e = let parts = or-false (has_number t.number nodes) (list_any (λ t. has_number t.number nodes) ts) e in (parts.0, outside-all nodes ts parts.1)

others-none : (n : ℕ) (nodes : List Node) (kept : List KeptText) → AreOutside nodes kept → NoneOf (numbers (texts_in (tree_of n nodes))) kept
others-none n nodes [] h = tt
others-none n nodes (t ∷ ts) h = (absent-filter t.number (λ x. is_text x.content) (tree_of n nodes) (absent-tree t.number n nodes h.0), others-none n nodes ts h.1)

-- ---- an attribute's text

abbrev pub IsAttributeAt : ℕ → List Node → Type 0
IsAttributeAt n nodes = is_attribute_at n nodes ≡ true

value-again : (c : Content) (text : List ℕ) → is_attribute c ≡ true → with_value (own_text c) (with_value text c) ≡ c
value-again Root text e = absurd (false-true e)
value-again (Element name) text e = absurd (false-true e)
value-again (Attribute name old) text e = refl
value-again (Text old) text e = absurd (false-true e)

untouched : (n : ℕ) (old text : List ℕ) (xs : List Node) → has_number n xs ≡ false → with_attribute_text n old (with_attribute_text n text xs) ≡ xs
untouched n old text [] e = refl
untouched n old text (x ∷ xs) e =
    let parts = or-false (x.number == n) (has_number n xs) e in
    rw parts.0 (rw parts.0 (ap (λ l. x ∷ l) (untouched n old text xs parts.1)))

-- two equal numbers are one
pub one_number : (m n : ℕ) → (m == n) ≡ true → m ≡ n
one_number m n e = grind (arith, nat_tests)

pub attribute-absent : (n : ℕ) (xs : List Node) → has_number n xs ≡ false → is_attribute_at n xs ≡ false
attribute-absent n [] e = refl
attribute-absent n (x ∷ xs) e = let parts = or-false (x.number == n) (has_number n xs) e in rw (parts.0, attribute-absent n xs parts.1) refl

or-none : (a b : Bool) → (a || b) ≡ true → b ≡ false → a ≡ true
or-none true b e h = refl
or-none false b e h = absurd (false-true (sym h ∙ e))

-- of nodes whose numbers differ, the one with this number is the attribute
first-attribute : (n : ℕ) (x : Node) (xs : List Node) → are_apart (x ∷ xs) ≡ true → (x.number == n) ≡ true → IsAttributeAt n (x ∷ xs) → (is_attribute x.content ≡ true) × (has_number n xs ≡ false)
first-attribute n x xs apart e h =
    let gone : has_number n xs ≡ false = subst (λ m. has_number m xs ≡ false) (one_number x.number n e) (not-true (has_number x.number xs) (and-true (not (has_number x.number xs)) (are_apart xs) apart).0) in
    let first : ((x.number == n) && is_attribute x.content) ≡ true = or-none ((x.number == n) && is_attribute x.content) (is_attribute_at n xs) h (attribute-absent n xs gone) in
    ((and-true (x.number == n) (is_attribute x.content) first).1, gone)

attribute-back : (n : ℕ) (text : List ℕ) (nodes : List Node) → are_apart nodes ≡ true → IsAttributeAt n nodes
    → with_attribute_text n (value_in (tree_of n nodes)) (with_attribute_text n text nodes) ≡ nodes
attribute-back n text [] apart h = refl
attribute-back n text (x ∷ xs) apart h =
    elim (cases_Bool (x.number == n)) [
      | inl e ↦
          let k = first-attribute n x xs apart e h in
          subst (λ l. with_attribute_text n (value_in l) (with_attribute_text n text (x ∷ xs)) ≡ x ∷ xs) (sym (tree-here n x xs e))
          (here e k.0 (untouched n (own_text x.content) text xs k.1))
      | inr e ↦
          subst (λ l. with_attribute_text n (value_in l) (with_attribute_text n text (x ∷ xs)) ≡ x ∷ xs) (sym (tree-other n x xs e))
          (there e (attribute-back n text xs (and-true (not (has_number x.number xs)) (are_apart xs) apart).1 (rw e at h)))
    ]
  where
    here : (x.number == n) ≡ true → is_attribute x.content ≡ true → with_attribute_text n (own_text x.content) (with_attribute_text n text xs) ≡ xs
        → with_attribute_text n (own_text x.content) (with_attribute_text n text (x ∷ xs)) ≡ x ∷ xs
    here e a r = rw e (rw e (ap (λ c. record x { content = c } ∷ with_attribute_text n (own_text x.content) (with_attribute_text n text xs)) (value-again x.content text a) ∙ ap (λ l. x ∷ l) r))

    there : (x.number == n) ≡ false → with_attribute_text n (value_in (tree_of n xs)) (with_attribute_text n text xs) ≡ xs
        → with_attribute_text n (value_in (tree_of n xs)) (with_attribute_text n text (x ∷ xs)) ≡ x ∷ xs
    there e r = rw e (rw e (ap (λ l. x ∷ l) r))

-- ---- the law

-- the node is an attribute, or an element without element children, as its forest has them
abbrev pub HasText : ℕ → List Node → Type 0
HasText n nodes = IsAttributeAt n nodes ⊎ ((is_attribute_at n nodes ≡ false) × IsLeafAt n nodes)

-- what a setting of this text leaves
abbrev pub after_set : ℕ → List ℕ → Keeping → Keeping
after_set n text k = record { forest = with_text n text k.forest; kept = k.kept ++ taken_from n k.forest.nodes }

-- with other texts kept outside, a setting is undone: all but the next number is as before
pub put_back-after_set : (n : ℕ) (text : List ℕ) (k : Keeping) → are_apart k.forest.nodes ≡ true → AreOutside k.forest.nodes k.kept → HasText n k.forest.nodes
    → put_back n (before_of n k.forest.nodes) (after_set n text k) ≡ record k { forest = record k.forest { next = (with_text n text k.forest).next } }
put_back-after_set n text k apart out (inl h) =
    let same : k.kept ++ [] ≡ k.kept = append-nil k.kept in
    rw h (rw (attribute-back n text k.forest.nodes apart h, same) refl)
put_back-after_set n text k apart out (inr h) =
    let texts = texts_in (tree_of n k.forest.nodes) in
    let ns = numbers texts in
    let none = others-none n k.forest.nodes k.kept out in
    let taken : filter (is_of ns) (k.kept ++ kept_from n texts) ≡ kept_from n texts
    = filter-append (is_of ns) k.kept (kept_from n texts)
    ∙ ap (λ l. l ++ filter (is_of ns) (kept_from n texts)) (none-filter ns k.kept none)
    ∙ all-filter ns (kept_from n texts) (own-all n texts) in
    let left : without ns (k.kept ++ kept_from n texts) ≡ k.kept
    = filter-append (λ t. not (is_of ns t)) k.kept (kept_from n texts)
    ∙ ap (λ l. l ++ without ns (kept_from n texts)) (none-without ns k.kept none)
    ∙ ap (λ l. k.kept ++ l) (all-without ns (kept_from n texts) (own-all n texts))
    ∙ append-nil k.kept in
    let whole : with_texts n (back (kept_from n texts)) (with_texts n (one_text k.forest.next text) k.forest.nodes) ≡ k.forest.nodes
    = texts-over n (one_text k.forest.next text) (back (kept_from n texts)) k.forest.nodes (one_text-no_attributes k.forest.next text)
    ∙ texts-kept n n k.forest.nodes h.1 in
    rw h.0 (rw (taken, left, whole) refl)
