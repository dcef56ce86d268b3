-- A node at depth 0 ends each tree before it, so that it is never cut off with one, and nothing moves it but a change of its own tree.
use Rattle.std.proofs.Common.{◌≡◌, ℕ, zero, suc, ◌+◌, ◌-◌, ◌==◌, Bool, true, false, cond, ◌&&◌, ◌||◌, List, [], ◌∷◌, ◌++◌, map, nat_lt, Option, Some, None, Ok, refl, sym, ap, subst, arith}
use Rattle.std.specs.List.{list_any}
use Rattle.std.proofs.lemmas.Bool.Decides.{nat_tests}
use Rattle.xf_def_forest.specs.declared.content.Node.{Node}
use Rattle.xf_def_forest.specs.declared.fault.TreeFault.{TreeFault}
use Rattle.xf_def_forest.specs.declared.fault.TreeFault.TheVariants.{Depth}
use Rattle.xf_def_forest.specs.Changes.{at_place, contents_in, detached, elements_above, moved_to, place_of, placed, shifted, with_attribute, with_below, with_child, with_part, without_tree}
use Rattle.xf_def_forest.specs.Forest.{Forest, below, content_at, first_tree, from_node, has_number, is_attribute, past, tree_of}
use Rattle.xf_def_forest.specs.Limits.{is_too_deep, passed_by_all, unless}
use Rattle.xf_def_forest.specs.Needs.{is_top}
use Rattle.xf_def_forest.specs.Plant.{numbered_from}
use Rattle.xf_def_forest.specs.Visit.{visits}
use Rattle.xf_law_invariants.specs.Tree.Tops.{TopsDetached, CutIsTop, TopsCopied, CopyIsTop, TopsAttached, TopLaws}

or-either : (a b : Bool) → b ≡ true → (a || b) ≡ true
or-either true b h = refl
or-either false b h = h

-- ---- tests of one node

module _ (test : Node → Bool) where
  any-front : (xs ys : List Node) → list_any test xs ≡ true → list_any test (xs ++ ys) ≡ true
  any-front [] ys h = cc h
  any-front (x ∷ xs) ys h = by (test x) h (any-front xs ys)
    where
      by : (b : Bool) → (b || list_any test xs) ≡ true → (list_any test xs ≡ true → list_any test (xs ++ ys) ≡ true) → (b || list_any test (xs ++ ys)) ≡ true
      by true q rest = refl
      by false q rest = rest q

  any-back : (xs ys : List Node) → list_any test ys ≡ true → list_any test (xs ++ ys) ≡ true
  any-back [] ys h = h
  any-back (x ∷ xs) ys h = or-either (test x) (list_any test (xs ++ ys)) (any-back xs ys h)

  -- what is so of a node is so still where more stand beside it
  more : (y : Node) (xs ys : List Node) → (list_any test xs ≡ true → list_any test ys ≡ true) → (test y || list_any test xs) ≡ true → (test y || list_any test ys) ≡ true
  more y xs ys f h = by (test y) h
    where
      by : (b : Bool) → (b || list_any test xs) ≡ true → (b || list_any test ys) ≡ true
      by true q = refl
      by false q = f q

  any-at : (place : ℕ) (here_ : List Node) (later : ℕ → List Node) → list_any test here_ ≡ true → ((left : ℕ) → list_any test (later left) ≡ true) → list_any test (at_place place here_ later) ≡ true
  any-at zero here_ later h f = h
  any-at (suc left) here_ later h f = f left

  any-child : (d place : ℕ) (moved ys : List Node) → list_any test ys ≡ true → list_any test (with_child d place moved ys) ≡ true
  any-child d place moved [] h = cc h
  any-child d place moved (y ∷ ys) h = by (nat_lt y.depth d) (nat_lt d y.depth || is_attribute y.content) (λ left. any-child d left moved ys)
    where
      by : (b c : Bool) → ((left : ℕ) → list_any test ys ≡ true → list_any test (with_child d left moved ys) ≡ true)
          → list_any test (cond b (moved ++ y ∷ ys) (cond c (y ∷ with_child d place moved ys) (at_place place (moved ++ y ∷ ys) (λ left. y ∷ with_child d left moved ys)))) ≡ true
      by true c rest = any-back moved (y ∷ ys) h
      by false true rest = more y ys (with_child d place moved ys) (rest place) h
      by false false rest = any-at place (moved ++ y ∷ ys) (λ left. y ∷ with_child d left moved ys) (any-back moved (y ∷ ys) h) (λ left. more y ys (with_child d left moved ys) (rest left) h)

  any-attribute : (d place : ℕ) (moved ys : List Node) → list_any test ys ≡ true → list_any test (with_attribute d place moved ys) ≡ true
  any-attribute d place moved [] h = cc h
  any-attribute d place moved (y ∷ ys) h = by ((y.depth == d) && is_attribute y.content) (λ left. any-attribute d left moved ys)
    where
      by : (b : Bool) → ((left : ℕ) → list_any test ys ≡ true → list_any test (with_attribute d left moved ys) ≡ true)
          → list_any test (cond b (at_place place (moved ++ y ∷ ys) (λ left. y ∷ with_attribute d left moved ys)) (moved ++ y ∷ ys)) ≡ true
      by true rest = any-at place (moved ++ y ∷ ys) (λ left. y ∷ with_attribute d left moved ys) (any-back moved (y ∷ ys) h) (λ left. more y ys (with_attribute d left moved ys) (rest left) h)
      by false rest = any-back moved (y ∷ ys) h

  any-part : (d place : ℕ) (tree ys : List Node) → list_any test ys ≡ true → list_any test (with_part d place tree ys) ≡ true
  any-part d place [] ys h = h
  any-part d place (x ∷ inside) ys h = by (is_attribute x.content)
    where
      by : (b : Bool) → list_any test (cond b (with_attribute d place (moved_to d (x ∷ inside)) ys) (with_child d place (moved_to d (x ∷ inside)) ys)) ≡ true
      by true = any-attribute d place (moved_to d (x ∷ inside)) ys h
      by false = any-child d place (moved_to d (x ∷ inside)) ys h

  any-with : (parent place : ℕ) (tree ys : List Node) → list_any test ys ≡ true → list_any test (with_below parent place tree ys) ≡ true
  any-with parent place tree [] h = cc h
  any-with parent place tree (y ∷ ys) h = by (y.number == parent) (any-with parent place tree ys)
    where
      by : (b : Bool) → (list_any test ys ≡ true → list_any test (with_below parent place tree ys) ≡ true)
          → list_any test (cond b (y ∷ with_part (suc y.depth) place tree ys) (y ∷ with_below parent place tree ys)) ≡ true
      by true rest = more y ys (with_part (suc y.depth) place tree ys) (any-part (suc y.depth) place tree ys) h
      by false rest = more y ys (with_below parent place tree ys) rest h

-- ---- a top is not cut off with another tree

abbrev top_of : ℕ → Node → Bool
top_of m x = (x.number == m) && (x.depth == 0)

and-second : (a b : Bool) → (a && b) ≡ true → b ≡ true
and-second true b h = h
and-second false b h = cc

past-top : (m d : ℕ) (ys : List Node) → is_top m ys ≡ true → is_top m (past d ys) ≡ true
past-top m d [] h = cc h
past-top m d (y ∷ ys) h = by (nat_lt d y.depth) refl (top_of m y) refl h (past-top m d ys)
  where
    deep : nat_lt d y.depth ≡ true → top_of m y ≡ true → true ≡ false
    deep e q = let zero-deep : (y.depth == 0) ≡ true = and-second (y.number == m) (y.depth == 0) q in let no : ⊥ = grind (arith, nat_tests, e, zero-deep) in absurd no

    by : (b : Bool) → nat_lt d y.depth ≡ b → (t : Bool) → top_of m y ≡ t → (t || is_top m ys) ≡ true → (is_top m ys ≡ true → is_top m (past d ys) ≡ true) → is_top m (cond b (past d ys) (y ∷ ys)) ≡ true
    by true e true q r rest = let no : true ≡ false = deep e q in cc no
    by true e false q r rest = rest r
    by false e t q r rest = h

without-top : (n m : ℕ) (ys : List Node) → (m == n) ≡ false → is_top m ys ≡ true → is_top m (without_tree n ys) ≡ true
without-top n m [] f h = cc h
without-top n m (y ∷ ys) f h = by (y.number == n) refl (top_of m y) refl h (without-top n m ys f)
  where
    same-of : (a b : Bool) → (a && b) ≡ true → a ≡ true
    same-of true b q = refl
    same-of false b q = cc

    own : (y.number == n) ≡ true → top_of m y ≡ true → true ≡ false
    own e q =
        let i : (y.number == m) ≡ true = same-of (y.number == m) (y.depth == 0) q in
        let no : ⊥ = grind (arith, nat_tests, e, i, f) in absurd no

    by : (b : Bool) → (y.number == n) ≡ b → (t : Bool) → top_of m y ≡ t → (t || is_top m ys) ≡ true → (is_top m ys ≡ true → is_top m (without_tree n ys) ≡ true)
        → is_top m (cond b (past y.depth ys) (y ∷ without_tree n ys)) ≡ true
    by true e true q r rest = let no : true ≡ false = own e q in cc no
    by true e false q r rest = past-top m y.depth ys r
    by false e t q r rest = more (top_of m) y ys (without_tree n ys) rest h

-- ---- the top of a tree

self : (n : ℕ) → (n == n) ≡ true
self n = grind (arith, nat_tests)

both : (a b : Bool) → a ≡ true → b ≡ true → (a && b) ≡ true
both a b h k = rw (h, k) refl

-- a tree that is moved to depth 0 has its top there
moved-top : (n : ℕ) (ys : List Node) → has_number n ys ≡ true → is_top n (moved_to 0 (tree_of n ys)) ≡ true
moved-top n [] h = cc h
moved-top n (y ∷ ys) h = by (y.number == n) refl h (moved-top n ys)
  where
    by : (b : Bool) → (y.number == n) ≡ b → (b || has_number n ys) ≡ true → (has_number n ys ≡ true → is_top n (moved_to 0 (tree_of n ys)) ≡ true)
        → is_top n (moved_to 0 (first_tree (cond b (y ∷ ys) (from_node n ys)))) ≡ true
    by true e q rest =
        let flat : 0 + (y.depth - y.depth) ≡ 0 = omega arith in
        let zero-deep : (0 + (y.depth - y.depth) == 0) ≡ true = grind (arith, nat_tests, flat) in
        ap (λ b. b || is_top n (map (shifted y.depth 0) (below y.depth ys))) (both (y.number == n) (0 + (y.depth - y.depth) == 0) e zero-deep)
    by false e q rest = rest q

-- a top stands
top-stands : (m : ℕ) (ys : List Node) → is_top m ys ≡ true → has_number m ys ≡ true
top-stands m [] q = cc q
top-stands m (y ∷ ys) q = by (y.number == m) (y.depth == 0) q (top-stands m ys)
  where
    by : (a c : Bool) → ((a && c) || is_top m ys) ≡ true → (is_top m ys ≡ true → has_number m ys ≡ true) → (a || has_number m ys) ≡ true
    by true c r rest = refl
    by false c r rest = rest r

tops-detached : TopsDetached
tops-detached n m forest h = by (m == n) refl
  where
    same : (a c : ℕ) → (a == c) ≡ true → a ≡ c
    same a c e = grind (arith, nat_tests, e)

    by : (b : Bool) → (m == n) ≡ b → is_top m (detached n forest).nodes ≡ true
    by true e =
        let i : n ≡ m = sym (same m n e) in
        any-back (top_of m) (without_tree n forest.nodes) (moved_to 0 (tree_of n forest.nodes))
        (subst (λ k. is_top m (moved_to 0 (tree_of k forest.nodes)) ≡ true) (sym i) (moved-top m forest.nodes (top-stands m forest.nodes h)))
    by false e = any-front (top_of m) (without_tree n forest.nodes) (moved_to 0 (tree_of n forest.nodes)) (without-top n m forest.nodes e h)

cut-is-top : CutIsTop
cut-is-top n forest h = any-back (top_of n) (without_tree n forest.nodes) (moved_to 0 (tree_of n forest.nodes)) (moved-top n forest.nodes h)

-- ---- copies

unless-same : {X : Type 0} (o : Option TreeFault) (x y : X) → unless o x ≡ Ok y → x ≡ y
unless-same None x y e = cc e
unless-same (Some fault) x y e = cc e

tops-copied : TopsCopied
tops-copied l n c m forest after e h =
    let more_nodes = numbered_from forest.next (contents_in (tree_of n forest.nodes)) in
    let whole = ap (λ (q : ℕ × Forest). q.1.nodes) (unless-same (passed_by_all l (forest.nodes ++ more_nodes)) _ (c, after) e) in
    subst (λ ns. is_top m ns ≡ true) whole (any-front (top_of m) forest.nodes more_nodes h)

-- the first of the numbered contents of a tree
first-top : (next n : ℕ) (ys : List Node) → has_number n ys ≡ true → is_top next (numbered_from next (contents_in (tree_of n ys))) ≡ true
first-top next n [] h = cc h
first-top next n (y ∷ ys) h = by (y.number == n) h (first-top next n ys)
  where
    by : (b : Bool) → (b || has_number n ys) ≡ true → (has_number n ys ≡ true → is_top next (numbered_from next (contents_in (tree_of n ys))) ≡ true)
        → is_top next (numbered_from next (contents_in (first_tree (cond b (y ∷ ys) (from_node n ys))))) ≡ true
    by true q rest =
        let flat : 0 + (y.depth - y.depth) ≡ 0 = omega arith in
        let zero-deep : (0 + (y.depth - y.depth) == 0) ≡ true = grind (arith, nat_tests, flat) in
        ap (λ b. b || is_top next (numbered_from (suc next) (map (λ (x : Node). (x.depth, x.content)) (map (shifted y.depth 0) (below y.depth ys)))))
        (both (next == next) (0 + (y.depth - y.depth) == 0) (self next) zero-deep)
    by false q rest = rest q

copy-is-top : CopyIsTop
copy-is-top l n c forest after e h =
    let more_nodes = numbered_from forest.next (contents_in (tree_of n forest.nodes)) in
    let is = unless-same (passed_by_all l (forest.nodes ++ more_nodes)) _ (c, after) e in
    let number : forest.next ≡ c = ap (λ (q : ℕ × Forest). q.0) is in
    let whole = ap (λ (q : ℕ × Forest). q.1.nodes) is in
    subst (λ k. is_top k after.nodes ≡ true) number
    (subst (λ ns. is_top forest.next ns ≡ true) whole (any-back (top_of forest.next) forest.nodes more_nodes (first-top forest.next n forest.nodes h)))

-- ---- another tree comes below a node

tops-attached : TopsAttached
tops-attached l n parent place m forest after e f h =
    let all = visits forest.nodes in
    let at = place_of parent place all (content_at n forest.nodes) in
    let deep = is_too_deep l.depth (elements_above parent all) (tree_of n forest.nodes) in
    let whole = ap (λ (x : Forest). x.nodes) (unless-same (cond deep (Some Depth) None) (placed n parent at forest) after e) in
    subst (λ ns. is_top m ns ≡ true) whole (any-with (top_of m) parent at (tree_of n forest.nodes) (without_tree n forest.nodes) (without-top n m forest.nodes f h))

pub top_laws : TopLaws
top_laws = record { detached = tops-detached; cut = cut-is-top; copied = tops-copied; copy = copy-is-top; attached = tops-attached }
