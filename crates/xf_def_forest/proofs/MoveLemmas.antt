-- A tree that is cut off, and put in again at another place of the list.
use Rattle.std.proofs.Common.{◌≡◌, ℕ, ◌+◌, ◌-◌, ◌==◌, true, false, not, cond, List, [], ◌∷◌, ◌++◌, map, nat_lt, refl, sym, ap, ◌∙◌, subst, append-nil, inl, inr, arith}
use Rattle.std.proofs.lemmas.Bool.{cases_Bool}
use Rattle.std.proofs.lemmas.Bool.Decides.{nat_tests}
use Rattle.xf_def_forest.specs.declared.content.Node.{Node}
use Rattle.xf_def_forest.specs.Forest.{Forest, has_number, from_node, below, past, first_tree, tree_of}
use Rattle.xf_def_forest.specs.Changes.{shifted, moved_to, without_tree, detached}
use Rattle.xf_def_forest.specs.WellFormed.{are_apart}
use Rattle.xf_def_forest.proofs.RunLemmas.{AreDeeper}
use Rattle.xf_def_forest.proofs.BackLaws.{and-true, or-false, not-true, one_number, false-true}

absent-past : (n d : ℕ) (xs : List Node) → has_number n xs ≡ false → has_number n (past d xs) ≡ false
absent-past n d [] e = refl
absent-past n d (x ∷ xs) e =
    elim (cases_Bool (nat_lt d x.depth)) [
      | inl q ↦ rw q (absent-past n d xs (or-false (x.number == n) (has_number n xs) e).1)
      | inr q ↦ rw q e
    ]

-- where numbers differ, a number that is first comes no more
pub gone-after : (n : ℕ) (x : Node) (xs : List Node) → are_apart (x ∷ xs) ≡ true → (x.number == n) ≡ true → has_number n xs ≡ false
gone-after n x xs apart e = subst (λ m. has_number m xs ≡ false) (one_number x.number n e) (not-true (has_number x.number xs) (and-true (not (has_number x.number xs)) (are_apart xs) apart).0)

-- without the tree its top is not there
pub absent-without : (n : ℕ) (xs : List Node) → are_apart xs ≡ true → has_number n (without_tree n xs) ≡ false
absent-without n [] apart = refl
absent-without n (x ∷ xs) apart =
    elim (cases_Bool (x.number == n)) [
      | inl e ↦ rw e (absent-past n x.depth xs (gone-after n x xs apart e))
      | inr e ↦ rw e (rw (e, absent-without n xs (and-true (not (has_number x.number xs)) (are_apart xs) apart).1) refl)
    ]

pub from-behind : (n : ℕ) (xs ys : List Node) → has_number n xs ≡ false → from_node n (xs ++ ys) ≡ from_node n ys
from-behind n [] ys e = refl
from-behind n (x ∷ xs) ys e = let parts = or-false (x.number == n) (has_number n xs) e in rw parts.0 (from-behind n xs ys parts.1)

pub without-behind : (n : ℕ) (xs ys : List Node) → has_number n xs ≡ false → without_tree n (xs ++ ys) ≡ xs ++ without_tree n ys
without-behind n [] ys e = refl
without-behind n (x ∷ xs) ys e = let parts = or-false (x.number == n) (has_number n xs) e in rw parts.0 (ap (λ l. x ∷ l) (without-behind n xs ys parts.1))

-- ---- a tree at another depth

deeper-shifted : (d e : ℕ) (xs : List Node) → AreDeeper d xs → AreDeeper e (map (shifted d e) xs)
deeper-shifted d e [] h = tt
deeper-shifted d e (x ∷ xs) h = let k = h.0 in (grind (arith, nat_tests, k), deeper-shifted d e xs h.1)

below-all-deeper : (d : ℕ) (xs : List Node) → AreDeeper d (below d xs)
below-all-deeper d [] = tt
below-all-deeper d (x ∷ xs) = elim (cases_Bool (nat_lt d x.depth)) [ inl e ↦ rw e (e, below-all-deeper d xs) | inr e ↦ rw e tt ]

all-below : (d : ℕ) (xs : List Node) → AreDeeper d xs → below d xs ≡ xs
all-below d [] h = refl
all-below d (x ∷ xs) h = rw h.0 (ap (λ l. x ∷ l) (all-below d xs h.1))

none-past : (d : ℕ) (xs : List Node) → AreDeeper d xs → past d xs ≡ []
none-past d [] h = refl
none-past d (x ∷ xs) h = rw h.0 (none-past d xs h.1)

top-depth : (d e : ℕ) → e + (d - d) ≡ e
top-depth d e = omega arith

-- a tree that stands alone, its top first, is the tree of its top
pub alone-tree : (n d : ℕ) (x : Node) (xs : List Node) → (x.number == n) ≡ true → AreDeeper x.depth xs → tree_of n (moved_to d (x ∷ xs)) ≡ moved_to d (x ∷ xs)
alone-tree n d x xs e h =
    rw e (ap (λ l. shifted x.depth d x ∷ l) (all-below (d + (x.depth - x.depth)) (map (shifted x.depth d) xs) (subst (λ k. AreDeeper k (map (shifted x.depth d) xs)) (sym (top-depth x.depth d)) (deeper-shifted x.depth d xs h))))

pub alone-without : (n d : ℕ) (x : Node) (xs : List Node) → (x.number == n) ≡ true → AreDeeper x.depth xs → without_tree n (moved_to d (x ∷ xs)) ≡ []
alone-without n d x xs e h =
    rw e (none-past (d + (x.depth - x.depth)) (map (shifted x.depth d) xs) (subst (λ k. AreDeeper k (map (shifted x.depth d) xs)) (sym (top-depth x.depth d)) (deeper-shifted x.depth d xs h)))

back-again : (d : ℕ) (x : Node) → (nat_lt x.depth d ≡ false) → shifted 0 d (shifted d 0 x) ≡ x
back-again d x h = let e : d + ((0 + (x.depth - d)) - 0) ≡ x.depth = grind (arith, nat_tests, h) in ap (λ k. record x { depth = k }) e

all-back : (d : ℕ) (xs : List Node) → AreDeeper d xs → map (shifted 0 d) (map (shifted d 0) xs) ≡ xs
all-back d [] h = refl
all-back d (x ∷ xs) h =
    let k = h.0 in
    let not_less : nat_lt x.depth d ≡ false = grind (arith, nat_tests, k) in
    ap (λ y. y ∷ map (shifted 0 d) (map (shifted d 0) xs)) (back-again d x not_less) ∙ ap (λ l. x ∷ l) (all-back d xs h.1)

-- ---- what was detached

-- the node with this number, and what stands after it
pub record Found (n : ℕ) (nodes : List Node) : Type 0 where
  pub node : Node
  pub after : List Node
  pub from : from_node n nodes ≡ node ∷ after
  pub number : (node.number == n) ≡ true

pub found : (n : ℕ) (nodes : List Node) → has_number n nodes ≡ true → Found n nodes
found n [] h = absurd (false-true h)
found n (x ∷ xs) h =
    elim (cases_Bool (x.number == n)) [
      | inl e ↦ record { node = x; after = xs; from = ap (λ b. cond b (x ∷ xs) (from_node n xs)) e; number = e }
      | inr e ↦ later e (found n xs (rw e at h))
    ]
  where
    later : (x.number == n) ≡ false → Found n xs → Found n (x ∷ xs)
    later e k = record { node = k.node; after = k.after; from = ap (λ b. cond b (x ∷ xs) (from_node n xs)) e ∙ k.from; number = k.number }

-- the tree that was cut off is the tree of its top
pub tree-of_detached : (n : ℕ) (forest : Forest) → are_apart forest.nodes ≡ true → has_number n forest.nodes ≡ true
    → tree_of n (detached n forest).nodes ≡ moved_to 0 (tree_of n forest.nodes)
tree-of_detached n forest apart live =
    let k = found n forest.nodes live in
    let tree : tree_of n forest.nodes ≡ k.node ∷ below k.node.depth k.after = ap first_tree k.from in
    ap first_tree (from-behind n (without_tree n forest.nodes) (moved_to 0 (tree_of n forest.nodes)) (absent-without n forest.nodes apart))
    ∙ ap (λ l. tree_of n (moved_to 0 l)) tree
    ∙ alone-tree n 0 k.node (below k.node.depth k.after) k.number (below-all-deeper k.node.depth k.after)
    ∙ sym (ap (moved_to 0) tree)

-- and without it the rest is what was left
pub rest-of_detached : (n : ℕ) (forest : Forest) → are_apart forest.nodes ≡ true → has_number n forest.nodes ≡ true
    → without_tree n (detached n forest).nodes ≡ without_tree n forest.nodes
rest-of_detached n forest apart live =
    let k = found n forest.nodes live in
    let tree : tree_of n forest.nodes ≡ k.node ∷ below k.node.depth k.after = ap first_tree k.from in
    without-behind n (without_tree n forest.nodes) (moved_to 0 (tree_of n forest.nodes)) (absent-without n forest.nodes apart)
    ∙ ap (λ l. without_tree n forest.nodes ++ without_tree n (moved_to 0 l)) tree
    ∙ ap (λ l. without_tree n forest.nodes ++ l) (alone-without n 0 k.node (below k.node.depth k.after) k.number (below-all-deeper k.node.depth k.after))
    ∙ append-nil (without_tree n forest.nodes)
