-- A list of nodes is that of trees where each node may follow the one before it.
use Rattle.std.proofs.Common.{◌≡◌, ℕ, suc, ◌+◌, ◌-◌, ◌<◌, ◌==◌, Bool, true, false, not, cond, ◌&&◌, ◌||◌, List, [], ◌∷◌, ◌++◌, map, nat_lt, nat_le, refl, sym, ap, ◌∙◌, subst, inl, inr, arith}
use Rattle.std.specs.Prelude.{◌≤◌, ◌⊎◌}
use Rattle.std.proofs.lemmas.Bool.Decides.{nat_tests}
use Rattle.xf_def_forest.specs.declared.content.Node.{Node}
use Rattle.xf_def_forest.specs.Changes.{moved_to, shifted, without_tree}
use Rattle.xf_def_forest.specs.Forest.{below, first_tree, from_node, is_attribute, is_element, is_text, past, tree_of}
use Rattle.xf_def_forest.specs.WellFormed.{are_depths, are_depths_from, are_first, reach, stands_first}

pub and-true : (a b : Bool) → (a && b) ≡ true → (a ≡ true) × (b ≡ true)
and-true true b h = (refl, h)
and-true false b h = cc

pub both-true : (a b : Bool) → a ≡ true → b ≡ true → (a && b) ≡ true
both-true a b h k = rw (h, k) refl

-- ---- one node after another

-- an attribute stands right after its element or after another attribute of it; a detached one is a top
pub data Stands (x y : Node) : Type 0 where
  plain : is_attribute y.content ≡ false → Stands x y
  top : y.depth ≡ 0 → Stands x y
  under : is_element x.content ≡ true → y.depth ≡ suc x.depth → Stands x y
  beside : is_attribute x.content ≡ true → y.depth ≡ x.depth → Stands x y

equal : (m n : ℕ) → (m == n) ≡ true → m ≡ n
equal m n h = grind (arith, nat_tests, h)

is-equal : (m n : ℕ) → m ≡ n → (m == n) ≡ true
is-equal m n h = grind (arith, nat_tests, h)

to-stands : (x y : Node) → stands_first x y ≡ true → Stands x y
to-stands x y h = by (is_attribute y.content) (y.depth == 0) (is_element x.content) (suc x.depth == y.depth) (is_attribute x.content) (x.depth == y.depth) refl refl refl refl refl refl h
  where
    by : (a b c d e f : Bool) → is_attribute y.content ≡ a → (y.depth == 0) ≡ b → is_element x.content ≡ c → (suc x.depth == y.depth) ≡ d → is_attribute x.content ≡ e → (x.depth == y.depth) ≡ f
        → (not a || b || (c && d) || (e && f)) ≡ true → Stands x y
    by false b c d e f p q r s t u h = plain p
    by true true c d e f p q r s t u h = top (equal y.depth 0 q)
    by true false true true e f p q r s t u h = under r (sym (equal (suc x.depth) y.depth s))
    by true false true false true true p q r s t u h = beside t (sym (equal x.depth y.depth u))
    by true false true false true false p q r s t u h = cc h
    by true false true false false f p q r s t u h = cc h
    by true false false d true true p q r s t u h = beside t (sym (equal x.depth y.depth u))
    by true false false d true false p q r s t u h = cc h
    by true false false d false f p q r s t u h = cc h

from-stands : (x y : Node) → Stands x y → stands_first x y ≡ true
from-stands x y (plain p) = ap (λ a. not a || (y.depth == 0) || (is_element x.content && (suc x.depth == y.depth)) || (is_attribute x.content && (x.depth == y.depth))) p
from-stands x y (top q) =
    ap (λ b. not (is_attribute y.content) || b || (is_element x.content && (suc x.depth == y.depth)) || (is_attribute x.content && (x.depth == y.depth))) (is-equal y.depth 0 q) ∙ by (not (is_attribute y.content)) (is_element x.content && (suc x.depth == y.depth)) (is_attribute x.content && (x.depth == y.depth))
  where
    by : (a c d : Bool) → (a || true || c || d) ≡ true
    by true c d = refl
    by false c d = refl
from-stands x y (under r s) =
    ap (λ c. not (is_attribute y.content) || (y.depth == 0) || (c && (suc x.depth == y.depth)) || (is_attribute x.content && (x.depth == y.depth))) r
    ∙ ap (λ d. not (is_attribute y.content) || (y.depth == 0) || d || (is_attribute x.content && (x.depth == y.depth))) (is-equal (suc x.depth) y.depth (sym s))
    ∙ by (not (is_attribute y.content)) (y.depth == 0) (is_attribute x.content && (x.depth == y.depth))
  where
    by : (a b d : Bool) → (a || b || true || d) ≡ true
    by true b d = refl
    by false true d = refl
    by false false d = refl
from-stands x y (beside t u) =
    ap (λ e. not (is_attribute y.content) || (y.depth == 0) || (is_element x.content && (suc x.depth == y.depth)) || (e && (x.depth == y.depth))) t
    ∙ ap (λ f. not (is_attribute y.content) || (y.depth == 0) || (is_element x.content && (suc x.depth == y.depth)) || f) (is-equal x.depth y.depth (sym u))
    ∙ by (not (is_attribute y.content)) (y.depth == 0) (is_element x.content && (suc x.depth == y.depth))
  where
    by : (a b c : Bool) → (a || b || c || true) ≡ true
    by true b c = refl
    by false true c = refl
    by false false true = refl
    by false false false = refl

pub record Next (x y : Node) : Type 0 where
  pub deep : y.depth ≤ reach x
  pub stands : Stands x y

-- these may follow the node
abbrev pub Linked : Node → List Node → Type 0
Linked x [] = Unit {0}
Linked x (y ∷ ys) = Next x y × Linked y ys

-- one behind the other, wherever the first stands
abbrev pub Links : List Node → Type 0
Links [] = Unit {0}
Links (x ∷ xs) = Linked x xs

-- so, and the first is a top
abbrev pub Well : List Node → Type 0
Well [] = Unit {0}
Well (x ∷ xs) = (x.depth ≡ 0) × Linked x xs

at-most : (m n : ℕ) → nat_le m n ≡ true → m ≤ n
at-most m n h = grind (arith, nat_tests, h)

is-at-most : (m n : ℕ) → m ≤ n → nat_le m n ≡ true
is-at-most m n h = grind (arith, nat_tests, h)

to-linked : (x : Node) (xs : List Node) → are_depths_from (reach x) xs ≡ true → are_first (x ∷ xs) ≡ true → Linked x xs
to-linked x [] h k = tt
to-linked x (y ∷ ys) h k =
    let p = and-true (nat_le y.depth (reach x)) (are_depths_from (reach y) ys) h in
    let q = and-true (stands_first x y) (are_first (y ∷ ys)) k in
    (record { deep = at-most y.depth (reach x) p.0; stands = to-stands x y q.0 }, to-linked y ys p.1 q.1)

pub to-well : (xs : List Node) → are_depths xs ≡ true → are_first xs ≡ true → Well xs
to-well [] h k = tt
to-well (x ∷ xs) h k =
    let p = and-true (nat_le x.depth 0) (are_depths_from (reach x) xs) h in
    let low : x.depth ≤ 0 = at-most x.depth 0 p.0 in
    (omega (arith, low), to-linked x xs p.1 k)

linked-depths : (x : Node) (xs : List Node) → Linked x xs → are_depths_from (reach x) xs ≡ true
linked-depths x [] h = refl
linked-depths x (y ∷ ys) h = both-true (nat_le y.depth (reach x)) (are_depths_from (reach y) ys) (is-at-most y.depth (reach x) h.0.deep) (linked-depths y ys h.1)

linked-first : (x : Node) (xs : List Node) → Linked x xs → are_first (x ∷ xs) ≡ true
linked-first x [] h = refl
linked-first x (y ∷ ys) h = both-true (stands_first x y) (are_first (y ∷ ys)) (from-stands x y h.0.stands) (linked-first y ys h.1)

pub well-depths : (xs : List Node) → Well xs → are_depths xs ≡ true
well-depths [] h = refl
well-depths (x ∷ xs) h = both-true (nat_le x.depth 0) (are_depths_from (reach x) xs) (is-at-most x.depth 0 (let e : x.depth ≡ 0 = h.0 in omega (arith, e))) (linked-depths x xs h.1)

pub well-first : (xs : List Node) → Well xs → are_first xs ≡ true
well-first [] h = refl
well-first (x ∷ xs) h = linked-first x xs h.1

-- ---- parts

pub well-links : (xs : List Node) → Well xs → Links xs
well-links [] h = tt
well-links (x ∷ xs) h = h.1

-- a top may stand behind every node
pub top-next : (x y : Node) → y.depth ≡ 0 → Next x y
top-next x y h = record { deep = omega (arith, h); stands = top h }

pub linked-append : (x : Node) (xs ys : List Node) → Linked x xs → Well ys → Linked x (xs ++ ys)
linked-append x [] [] h k = tt
linked-append x [] (y ∷ ys) h k = (top-next x y k.0, k.1)
linked-append x (z ∷ zs) ys h k = (h.0, linked-append z zs ys h.1 k)

pub well-append : (xs ys : List Node) → Well xs → Well ys → Well (xs ++ ys)
well-append [] ys h k = k
well-append (x ∷ xs) ys h k = (h.0, linked-append x xs ys h.1 k)

pub linked-below : (x : Node) (d : ℕ) (xs : List Node) → Linked x xs → Linked x (below d xs)
linked-below x d [] h = tt
linked-below x d (y ∷ ys) h = by (nat_lt d y.depth) (linked-below y d ys h.1)
  where
    by : (b : Bool) → Linked y (below d ys) → Linked x (cond b (y ∷ below d ys) [])
    by true rest = (h.0, rest)
    by false rest = tt

pub links-from : (n : ℕ) (xs : List Node) → Links xs → Links (from_node n xs)
links-from n [] h = tt
links-from n (x ∷ xs) h = by (x.number == n) (links-from n xs (rest xs h))
  where
    rest : (ys : List Node) → Linked x ys → Links ys
    rest [] k = tt
    rest (y ∷ ys) k = k.1

    by : (b : Bool) → Links (from_node n xs) → Links (cond b (x ∷ xs) (from_node n xs))
    by true later = h
    by false later = later

-- ---- what stands past a tree

-- in the tree of the first
abbrev InTree : Node → Node → Type 0
InTree x z = (x.depth < z.depth) ⊎ (z ≡ x)

deeper : (d : ℕ) (y : Node) → nat_lt d y.depth ≡ true → d < y.depth
deeper d y h = grind (arith, nat_tests, h)

no-deeper : (d : ℕ) (y : Node) → nat_lt d y.depth ≡ false → y.depth ≤ d
no-deeper d y h = grind (arith, nat_tests, h)

past-stands : (p x z y : Node) → Next p x → InTree x z → y.depth ≤ x.depth → Stands z y → Stands p y
past-stands p x z y n i low (plain a) = plain a
past-stands p x z y n i low (top a) = top a
past-stands p x z y n (inl less) low (under e d) = let no : ⊥ = omega (arith, less, low, d) in absurd no
past-stands p x z y n (inr same) low (under e d) = let k : z.depth ≡ x.depth = ap (λ (w : Node). w.depth) same in let no : ⊥ = omega (arith, k, low, d) in absurd no
past-stands p x z y n (inl less) low (beside a d) = let no : ⊥ = omega (arith, less, low, d) in absurd no
past-stands p x z y n (inr same) low (beside a d) = by n.stands
  where
    attribute : is_attribute x.content ≡ true
    attribute = subst (λ (w : Node). is_attribute w.content ≡ true) same a

    depth : y.depth ≡ x.depth
    depth = d ∙ ap (λ (w : Node). w.depth) same

    by : Stands p x → Stands p y
    by (plain b) = let no : true ≡ false = sym attribute ∙ b in cc no
    by (top b) = top (depth ∙ b)
    by (under e b) = under e (depth ∙ b)
    by (beside e b) = beside e (depth ∙ b)

pub past-linked : (p x z : Node) (xs : List Node) → Next p x → InTree x z → Linked z xs → Linked p (past x.depth xs)
past-linked p x z [] n i h = tt
past-linked p x z (y ∷ ys) n i h = by (nat_lt x.depth y.depth) refl (λ less. past-linked p x y ys n (inl less) h.1)
  where
    by : (b : Bool) → nat_lt x.depth y.depth ≡ b → (x.depth < y.depth → Linked p (past x.depth ys)) → Linked p (cond b (past x.depth ys) (y ∷ ys))
    by true e rest = rest (deeper x.depth y e)
    by false e rest =
        let low : y.depth ≤ x.depth = no-deeper x.depth y e in
        let high : x.depth ≤ reach p = n.deep in
        (record { deep = omega (arith, low, high); stands = past-stands p x z y n i low h.0.stands }, h.1)

past-well : (x z : Node) (xs : List Node) → x.depth ≡ 0 → Linked z xs → Well (past x.depth xs)
past-well x z [] e h = tt
past-well x z (y ∷ ys) e h = by (nat_lt x.depth y.depth) refl (past-well x y ys e h.1)
  where
    by : (b : Bool) → nat_lt x.depth y.depth ≡ b → Well (past x.depth ys) → Well (cond b (past x.depth ys) (y ∷ ys))
    by true q rest = rest
    by false q rest = let low : y.depth ≤ x.depth = no-deeper x.depth y q in (omega (arith, low, e), h.1)

without-linked : (n : ℕ) (p : Node) (xs : List Node) → Linked p xs → Linked p (without_tree n xs)
without-linked n p [] h = tt
without-linked n p (x ∷ xs) h = by (x.number == n) (without-linked n x xs h.1)
  where
    by : (b : Bool) → Linked x (without_tree n xs) → Linked p (cond b (past x.depth xs) (x ∷ without_tree n xs))
    by true rest = past-linked p x x xs h.0 (inr refl) h.1
    by false rest = (h.0, rest)

pub without-well : (n : ℕ) (xs : List Node) → Well xs → Well (without_tree n xs)
without-well n [] h = tt
without-well n (x ∷ xs) h = by (x.number == n) (without-linked n x xs h.1)
  where
    by : (b : Bool) → Linked x (without_tree n xs) → Well (cond b (past x.depth xs) (x ∷ without_tree n xs))
    by true rest = past-well x x xs h.0 h.1
    by false rest = (h.0, rest)

-- ---- a tree that is moved

abbrev pub AllDeeper : ℕ → List Node → Type 0
AllDeeper d [] = Unit {0}
AllDeeper d (y ∷ ys) = (d < y.depth) × AllDeeper d ys

pub below-deeper : (d : ℕ) (xs : List Node) → AllDeeper d (below d xs)
below-deeper d [] = tt
below-deeper d (y ∷ ys) = by (nat_lt d y.depth) refl (below-deeper d ys)
  where
    by : (b : Bool) → nat_lt d y.depth ≡ b → AllDeeper d (below d ys) → AllDeeper d (cond b (y ∷ below d ys) [])
    by true e rest = (deeper d y e, rest)
    by false e rest = tt

shifted-reach : (from to : ℕ) (x y : Node) → from ≤ x.depth → y.depth ≤ reach x → to + (y.depth - from) ≤ reach (shifted from to x)
shifted-reach from to x y h k = by (is_attribute x.content || is_text x.content) k
  where
    by : (b : Bool) → y.depth ≤ cond b x.depth (suc x.depth) → to + (y.depth - from) ≤ cond b (to + (x.depth - from)) (suc (to + (x.depth - from)))
    by true l = omega (arith, h, l)
    by false l = omega (arith, h, l)

shifted-stands : (from to : ℕ) (x y : Node) → from ≤ x.depth → from < y.depth → Stands x y → Stands (shifted from to x) (shifted from to y)
shifted-stands from to x y h k (plain a) = plain a
shifted-stands from to x y h k (top a) = let no : ⊥ = omega (arith, k, a) in absurd no
shifted-stands from to x y h k (under a d) = under a (let e : to + (y.depth - from) ≡ suc (to + (x.depth - from)) = omega (arith, h, d) in e)
shifted-stands from to x y h k (beside a d) = beside a (ap (λ m. to + (m - from)) d)

pub shifted-linked : (from to : ℕ) (x : Node) (ys : List Node) → from ≤ x.depth → AllDeeper from ys → Linked x ys → Linked (shifted from to x) (map (shifted from to) ys)
shifted-linked from to x [] h k l = tt
shifted-linked from to x (y ∷ ys) h k l =
    let less : from < y.depth = k.0 in
    (record { deep = shifted-reach from to x y h l.0.deep; stands = shifted-stands from to x y h less l.0.stands }, shifted-linked from to y ys (omega (arith, less)) k.1 l.1)

-- a tree as one by itself
pub tree-well : (n : ℕ) (xs : List Node) → Links xs → Well (moved_to 0 (tree_of n xs))
tree-well n xs h = by (from_node n xs) (links-from n xs h)
  where
    by : (ys : List Node) → Links ys → Well (moved_to 0 (first_tree ys))
    by [] k = tt
    by (x ∷ ys) k =
        let none : 0 + (x.depth - x.depth) ≡ 0 = omega arith in
        (none, shifted-linked x.depth 0 x (below x.depth ys) (omega arith) (below-deeper x.depth ys) (linked-below x x.depth ys k))
