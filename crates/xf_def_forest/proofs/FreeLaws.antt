-- A number that no node and no kept text has comes in with no text but one that has it.
use Rattle.std.proofs.Common.{◌≡◌, ℕ, suc, ◌≤◌, ◌==◌, Bool, true, false, not, ◌&&◌, ◌||◌, List, [], ◌∷◌, ◌++◌, map, nat_lt, refl, ap, ◌∙◌, inl, inr, arith}
use Rattle.std.specs.Prelude.{filter}
use Rattle.std.specs.List.{list_any, list_all}
use Rattle.std.proofs.lemmas.Bool.{cases_Bool}
use Rattle.std.proofs.lemmas.Bool.Decides.{nat_tests}
use Rattle.xf_def_forest.specs.declared.content.Node.{Node}
use Rattle.xf_def_forest.specs.Forest.{is_attribute, is_text, has_number, from_node, below, past, first_tree, tree_of}
use Rattle.xf_def_forest.specs.Texts.{KeptText, Keeping, Before, attribute_text, element_texts, at_depth, one_text, with_content, with_texts, valued, with_attribute_text, is_attribute_at, texts_in, kept_from, taken_from, is_of, given_up}
use Rattle.xf_def_forest.specs.Settle.{with_numbered_text}
use Rattle.xf_def_forest.specs.WellFormed.{are_below}

pub or-parts : (a b : Bool) → (a || b) ≡ false → (a ≡ false) × (b ≡ false)
or-parts true b h = absurd (let z : true ≡ false = h in cc)
or-parts false b h = (refl, h)

both-false : (a b : Bool) → a ≡ false → b ≡ false → (a || b) ≡ false
both-false a b e f = rw e f

and-parts : (a b : Bool) → (a && b) ≡ true → (a ≡ true) × (b ≡ true)
and-parts true b h = (refl, h)
and-parts false b h = absurd (let z : false ≡ true = h in cc)

-- ---- in a part

kept-none : {X : Type 0} (p q : X → Bool) (xs : List X) → list_any p xs ≡ false → list_any p (filter q xs) ≡ false
kept-none p q [] h = refl
kept-none p q (x ∷ xs) h =
    let parts = or-parts (p x) (list_any p xs) h in
    let rest = kept-none p q xs parts.1 in
    elim (cases_Bool (q x)) [ inl e ↦ rw e (both-false (p x) (list_any p (filter q xs)) parts.0 rest) | inr e ↦ rw e rest ]

append-none : {X : Type 0} (p : X → Bool) (xs ys : List X) → list_any p xs ≡ false → list_any p ys ≡ false → list_any p (xs ++ ys) ≡ false
append-none p [] ys h i = i
append-none p (x ∷ xs) ys h i = let parts = or-parts (p x) (list_any p xs) h in both-false (p x) (list_any p (xs ++ ys)) parts.0 (append-none p xs ys parts.1 i)

below-none : (m depth : ℕ) (xs : List Node) → has_number m xs ≡ false → has_number m (below depth xs) ≡ false
below-none m depth [] h = refl
below-none m depth (y ∷ ys) h =
    let parts = or-parts (y.number == m) (has_number m ys) h in
    elim (cases_Bool (nat_lt depth y.depth)) [ inl e ↦ rw e (both-false (y.number == m) (has_number m (below depth ys)) parts.0 (below-none m depth ys parts.1)) | inr e ↦ rw e refl ]

past-none : (m depth : ℕ) (xs : List Node) → has_number m xs ≡ false → has_number m (past depth xs) ≡ false
past-none m depth [] h = refl
past-none m depth (y ∷ ys) h =
    let parts = or-parts (y.number == m) (has_number m ys) h in
    elim (cases_Bool (nat_lt depth y.depth)) [ inl e ↦ rw e (past-none m depth ys parts.1) | inr e ↦ rw e h ]

from-none : (m n : ℕ) (xs : List Node) → has_number m xs ≡ false → has_number m (from_node n xs) ≡ false
from-none m n [] h = refl
from-none m n (x ∷ xs) h =
    let parts = or-parts (x.number == m) (has_number m xs) h in
    elim (cases_Bool (x.number == n)) [ inl e ↦ rw e h | inr e ↦ rw e (from-none m n xs parts.1) ]

first-none : (m : ℕ) (xs : List Node) → has_number m xs ≡ false → has_number m (first_tree xs) ≡ false
first-none m [] h = refl
first-none m (x ∷ xs) h = let parts = or-parts (x.number == m) (has_number m xs) h in both-false (x.number == m) (has_number m (below x.depth xs)) parts.0 (below-none m x.depth xs parts.1)

deep-none : (m depth : ℕ) (xs : List Node) → has_number m xs ≡ false → has_number m (map (at_depth depth) xs) ≡ false
deep-none m depth [] h = refl
deep-none m depth (x ∷ xs) h = let parts = or-parts (x.number == m) (has_number m xs) h in both-false (x.number == m) (has_number m (map (at_depth depth) xs)) parts.0 (deep-none m depth xs parts.1)

-- ---- with another text

one-none : (m number : ℕ) (text : List ℕ) → (number == m) ≡ false → has_number m (one_text number text) ≡ false
one-none m number [] e = refl
one-none m number (c ∷ cs) e = rw e refl

valued-none : (m n : ℕ) (text : List ℕ) (xs : List Node) → has_number m xs ≡ false → has_number m (with_attribute_text n text xs) ≡ false
valued-none m n text [] h = refl
valued-none m n text (x ∷ xs) h =
    let parts = or-parts (x.number == m) (has_number m xs) h in
    let rest = valued-none m n text xs parts.1 in
    let same : (valued n text x).number ≡ x.number = elim (cases_Bool (x.number == n)) [ inl e ↦ rw e refl | inr e ↦ rw e refl ] in
    both-false ((valued n text x).number == m) (has_number m (with_attribute_text n text xs)) (ap (λ k. k == m) same ∙ parts.0) rest

content-none : (m depth : ℕ) (texts xs : List Node) → has_number m texts ≡ false → has_number m xs ≡ false → has_number m (with_content depth texts xs) ≡ false
content-none m depth texts xs t h =
    let p : Node → Bool = λ y. y.number == m in
    append-none p (filter (λ (y : Node). is_attribute y.content) (below depth xs) ++ map (at_depth (suc depth)) texts) (past depth xs)
    (append-none p (filter (λ (y : Node). is_attribute y.content) (below depth xs)) (map (at_depth (suc depth)) texts) (kept-none p (λ (y : Node). is_attribute y.content) (below depth xs) (below-none m depth xs h)) (deep-none m (suc depth) texts t))
    (past-none m depth xs h)

texts-none : (m n : ℕ) (texts xs : List Node) → has_number m texts ≡ false → has_number m xs ≡ false → has_number m (with_texts n texts xs) ≡ false
texts-none m n texts [] t h = refl
texts-none m n texts (x ∷ xs) t h =
    let parts = or-parts (x.number == m) (has_number m xs) h in
    elim (cases_Bool (x.number == n)) [
      | inl e ↦ rw e (both-false (x.number == m) (has_number m (with_content x.depth texts xs)) parts.0 (content-none m x.depth texts xs t parts.1))
      | inr e ↦ rw e (both-false (x.number == m) (has_number m (with_texts n texts xs)) parts.0 (texts-none m n texts xs t parts.1))
    ]

-- no node has the number after a text came in that has another one
pub numbered-none : (m number n : ℕ) (text : List ℕ) (xs : List Node) → (number == m) ≡ false → has_number m xs ≡ false → has_number m (with_numbered_text number n text xs) ≡ false
numbered-none m number n text xs e h =
    elim (cases_Bool (is_attribute_at n xs)) [ inl is ↦ rw is (valued-none m n text xs h) | inr is ↦ rw is (texts-none m n (one_text number text) xs (one-none m number text e) h) ]

-- ---- among the kept texts

abbrev pub is_numbered : ℕ → KeptText → Bool
is_numbered m t = t.number == m

from-kept : (m owner : ℕ) (xs : List Node) → has_number m xs ≡ false → list_any (is_numbered m) (kept_from owner xs) ≡ false
from-kept m owner [] h = refl
from-kept m owner (x ∷ xs) h = let parts = or-parts (x.number == m) (has_number m xs) h in both-false (x.number == m) (list_any (is_numbered m) (kept_from owner xs)) parts.0 (from-kept m owner xs parts.1)

-- nor has a text that is taken
pub taken-none : (m n : ℕ) (xs : List Node) → has_number m xs ≡ false → list_any (is_numbered m) (taken_from n xs) ≡ false
taken-none m n xs h =
    let inside = first-none m (from_node n xs) (from-none m n xs h) in
    elim (cases_Bool (is_attribute_at n xs)) [
      | inl is ↦ rw is refl
      | inr is ↦ rw is (from-kept m n (texts_in (tree_of n xs)) (kept-none (λ (y : Node). y.number == m) (λ (y : Node). is_text y.content) (tree_of n xs) inside))
    ]

pub both-kept : (m : ℕ) (ts us : List KeptText) → list_any (is_numbered m) ts ≡ false → list_any (is_numbered m) us ≡ false → list_any (is_numbered m) (ts ++ us) ≡ false
both-kept m ts us h i = append-none (is_numbered m) ts us h i

-- nor one of those that are left where some are given up
pub left-kept : (m : ℕ) (before : Before) (k : Keeping) → list_any (is_numbered m) k.kept ≡ false → list_any (is_numbered m) (given_up before k).kept ≡ false
left-kept m (attribute_text text) k h = h
left-kept m (element_texts ns) k h = kept-none (is_numbered m) (λ t. not (is_of ns t)) k.kept h

-- ---- of the next number on

pub fresh-nodes : (m next : ℕ) (xs : List Node) → next ≤ m → are_below next xs ≡ true → has_number m xs ≡ false
fresh-nodes m next [] le h = refl
fresh-nodes m next (x ∷ xs) le h =
    let parts = and-parts (nat_lt x.number next) (are_below next xs) h in
    let less = parts.0 in
    both-false (x.number == m) (has_number m xs) (grind (arith, nat_tests, le, less)) (fresh-nodes m next xs le parts.1)

pub fresh-kept : (m next : ℕ) (ts : List KeptText) → next ≤ m → list_all (λ (t : KeptText). nat_lt t.number next) ts ≡ true → list_any (is_numbered m) ts ≡ false
fresh-kept m next [] le h = refl
fresh-kept m next (t ∷ ts) le h =
    let parts = and-parts (nat_lt t.number next) (list_all (λ (t : KeptText). nat_lt t.number next) ts) h in
    let less = parts.0 in
    both-false (t.number == m) (list_any (is_numbered m) ts) (grind (arith, nat_tests, le, less)) (fresh-kept m next ts le parts.1)
