-- What the nodes of a forest weigh together stays where trees go and come.
use Rattle.std.proofs.Common.{◌≡◌, ℕ, zero, suc, ◌+◌, ◌==◌, Bool, true, false, cond, ◌&&◌, ◌||◌, List, [], ◌∷◌, ◌++◌, map, length, nat_lt, Option, Some, None, Ok, refl, ap, ◌∙◌, subst, arith}
use Rattle.std.specs.Prelude.{◌≤◌, not, if◌then◌else◌}
use Rattle.std.proofs.lemmas.Bool.Decides.{nat_tests}
use Rattle.std.proofs.lemmas.List.Recursion.{is_count_by, is_sum_by}
use Rattle.xf_def_forest.specs.declared.content.Content.{Content}
use Rattle.xf_def_forest.specs.declared.content.Node.{Node}
use Rattle.xf_def_forest.specs.declared.fault.TreeFault.{TreeFault}
use Rattle.xf_def_forest.specs.declared.fault.TreeFault.TheVariants as fault
use Rattle.xf_def_forest.specs.Changes.{at_place, contents_in, detached, elements_above, in_instances, is_detached_top, moved_to, place_of, placed, shifted, with_attribute, with_below, with_child, with_part, without_tree}
use Rattle.xf_def_forest.specs.Forest.{Forest, below, content_at, first_tree, from_node, is_attribute, is_root, past, tree_of}
use Rattle.xf_def_forest.specs.Limits.{Limits, all_size, has_long_text, is_too_deep, node_count, passed_by_all, passed_by_tree, size_of, unless}
use Rattle.xf_def_forest.specs.Plant.{numbered_from}
use Rattle.xf_def_forest.specs.Visit.{visits}
use Rattle.xf_law_invariants.specs.Tree.Sizes.{SizesDetached, SizesAttached, SizesDropped, SizesCopied, SizesPlanted, SizesText, SizeLaws}

-- ---- the weight of nodes, each told by its content

module _ (weight : Content → ℕ) where
  abbrev pub total : List Node → ℕ
  total [] = 0
  total (x ∷ xs) = weight x.content + total xs

  total-append : (xs ys : List Node) → total (xs ++ ys) ≡ total xs + total ys
  total-append [] ys = omega arith
  total-append (x ∷ xs) ys = let rest = total-append xs ys in omega (arith, rest)

  total-past : (d : ℕ) (ys : List Node) → total (past d ys) + total (below d ys) ≡ total ys
  total-past d [] = omega arith
  total-past d (y ∷ ys) = by (nat_lt d y.depth) (total-past d ys)
    where
      by : (b : Bool) → total (past d ys) + total (below d ys) ≡ total ys → total (cond b (past d ys) (y ∷ ys)) + total (cond b (y ∷ below d ys) []) ≡ weight y.content + total ys
      by true rest = omega (arith, rest)
      by false rest = omega arith

  total-parts : (n : ℕ) (xs : List Node) → total (without_tree n xs) + total (tree_of n xs) ≡ total xs
  total-parts n [] = omega arith
  total-parts n (x ∷ xs) = by (x.number == n) (total-parts n xs)
    where
      by : (b : Bool) → total (without_tree n xs) + total (tree_of n xs) ≡ total xs
          → total (cond b (past x.depth xs) (x ∷ without_tree n xs)) + total (first_tree (cond b (x ∷ xs) (from_node n xs))) ≡ weight x.content + total xs
      by true rest = let parts = total-past x.depth xs in omega (arith, parts)
      by false rest = omega (arith, rest)

  total-shifted : (from to : ℕ) (xs : List Node) → total (map (shifted from to) xs) ≡ total xs
  total-shifted from to [] = refl
  total-shifted from to (x ∷ xs) = ap (λ m. weight x.content + m) (total-shifted from to xs)

  total-moved : (to : ℕ) (xs : List Node) → total (moved_to to xs) ≡ total xs
  total-moved to [] = refl
  total-moved to (x ∷ xs) = total-shifted x.depth to (x ∷ xs)

  pub total-detached : (n : ℕ) (forest : Forest) → total (detached n forest).nodes ≡ total forest.nodes
  total-detached n forest =
      let a = total-append (without_tree n forest.nodes) (moved_to 0 (tree_of n forest.nodes)) in
      let b = total-moved 0 (tree_of n forest.nodes) in
      let c = total-parts n forest.nodes in
      omega (arith, a, b, c)

  -- ---- a tree that comes

  total-at : (place sum : ℕ) (here_ : List Node) (later : ℕ → List Node) → total here_ ≡ sum → ((left : ℕ) → total (later left) ≡ sum) → total (at_place place here_ later) ≡ sum
  total-at zero sum here_ later h f = h
  total-at (suc left) sum here_ later h f = f left

  total-child : (d place : ℕ) (moved ys : List Node) → total (with_child d place moved ys) ≡ total moved + total ys
  total-child d place moved [] = omega arith
  total-child d place moved (y ∷ ys) = by (nat_lt y.depth d) (nat_lt d y.depth || is_attribute y.content) (λ left. total-child d left moved ys)
    where
      front : total (moved ++ y ∷ ys) ≡ total moved + total (y ∷ ys)
      front = total-append moved (y ∷ ys)

      more : (l : List Node) → total l ≡ total moved + total ys → total (y ∷ l) ≡ total moved + total (y ∷ ys)
      more l e = omega (arith, e)

      by : (b c : Bool) → ((left : ℕ) → total (with_child d left moved ys) ≡ total moved + total ys)
          → total (cond b (moved ++ y ∷ ys) (cond c (y ∷ with_child d place moved ys) (at_place place (moved ++ y ∷ ys) (λ left. y ∷ with_child d left moved ys)))) ≡ total moved + total (y ∷ ys)
      by true c rest = front
      by false true rest = more (with_child d place moved ys) (rest place)
      by false false rest = total-at place (total moved + total (y ∷ ys)) (moved ++ y ∷ ys) (λ left. y ∷ with_child d left moved ys) front (λ left. more (with_child d left moved ys) (rest left))

  total-attribute : (d place : ℕ) (moved ys : List Node) → total (with_attribute d place moved ys) ≡ total moved + total ys
  total-attribute d place moved [] = omega arith
  total-attribute d place moved (y ∷ ys) = by ((y.depth == d) && is_attribute y.content) (λ left. total-attribute d left moved ys)
    where
      front : total (moved ++ y ∷ ys) ≡ total moved + total (y ∷ ys)
      front = total-append moved (y ∷ ys)

      more : (l : List Node) → total l ≡ total moved + total ys → total (y ∷ l) ≡ total moved + total (y ∷ ys)
      more l e = omega (arith, e)

      by : (b : Bool) → ((left : ℕ) → total (with_attribute d left moved ys) ≡ total moved + total ys)
          → total (cond b (at_place place (moved ++ y ∷ ys) (λ left. y ∷ with_attribute d left moved ys)) (moved ++ y ∷ ys)) ≡ total moved + total (y ∷ ys)
      by true rest = total-at place (total moved + total (y ∷ ys)) (moved ++ y ∷ ys) (λ left. y ∷ with_attribute d left moved ys) front (λ left. more (with_attribute d left moved ys) (rest left))
      by false rest = front

  total-part : (d place : ℕ) (tree ys : List Node) → total (with_part d place tree ys) ≡ total tree + total ys
  total-part d place [] ys = omega arith
  total-part d place (x ∷ inside) ys = by (is_attribute x.content)
    where
      same : total (moved_to d (x ∷ inside)) ≡ total (x ∷ inside)
      same = total-moved d (x ∷ inside)

      by : (b : Bool) → total (cond b (with_attribute d place (moved_to d (x ∷ inside)) ys) (with_child d place (moved_to d (x ∷ inside)) ys)) ≡ total (x ∷ inside) + total ys
      by true = total-attribute d place (moved_to d (x ∷ inside)) ys ∙ ap (λ m. m + total ys) same
      by false = total-child d place (moved_to d (x ∷ inside)) ys ∙ ap (λ m. m + total ys) same

  -- nothing more, and less where there is no parent
  total-below : (parent place : ℕ) (tree ys : List Node) → total (with_below parent place tree ys) ≤ total ys + total tree
  total-below parent place tree [] = omega arith
  total-below parent place tree (y ∷ ys) = by (y.number == parent) (total-below parent place tree ys)
    where
      by : (b : Bool) → total (with_below parent place tree ys) ≤ total ys + total tree
          → total (cond b (y ∷ with_part (suc y.depth) place tree ys) (y ∷ with_below parent place tree ys)) ≤ total (y ∷ ys) + total tree
      by true rest = let e = total-part (suc y.depth) place tree ys in omega (arith, e)
      by false rest = omega (arith, rest)

  pub total-placed : (n parent place : ℕ) (forest : Forest) → total (placed n parent place forest).nodes ≤ total forest.nodes
  total-placed n parent place forest =
      let a = total-below parent place (tree_of n forest.nodes) (without_tree n forest.nodes) in
      let b = total-parts n forest.nodes in
      omega (arith, a, b)

  pub total-dropped : (xs : List Node) → total (in_instances xs) ≤ total xs
  total-dropped [] = omega arith
  total-dropped (x ∷ xs) = by (is_detached_top x) (total-dropped xs)
    where
      by : (b : Bool) → total (in_instances xs) ≤ total xs → total (cond b [] (x ∷ in_instances xs)) ≤ total (x ∷ xs)
      by true rest = omega arith
      by false rest = omega (arith, rest)

-- ---- the two weights

-- a root does not count
abbrev one_node : Content → ℕ
one_node content = cond (not (is_root content)) 1 0

count-is : (xs : List Node) → total one_node xs ≡ node_count xs
count-is xs = is_count_by (total one_node) (λ (x : Node). not (is_root x.content)) refl each xs
  where
    each : (x : Node) (ys : List Node) → total one_node (x ∷ ys) ≡ cond (not (is_root x.content)) (1 + total one_node ys) (total one_node ys)
    each x ys = by (not (is_root x.content))
      where
        by : (b : Bool) → cond b 1 0 + total one_node ys ≡ cond b (1 + total one_node ys) (total one_node ys)
        by true = omega arith
        by false = omega arith

size-is : (xs : List Node) → total size_of xs ≡ all_size xs
size-is xs = is_sum_by (total size_of) (λ (x : Node). size_of x.content) refl (λ x ys. refl) xs

-- where neither is more, no limit is passed
none-more : (l : Limits) (xs ys : List Node) → total one_node ys ≤ total one_node xs → total size_of ys ≤ total size_of xs → passed_by_all l xs ≡ None → passed_by_all l ys ≡ None
none-more l xs ys few less h = by (nat_lt l.nodes (node_count xs)) (nat_lt l.all (all_size xs)) refl refl h
  where
    by : (a b : Bool) → nat_lt l.nodes (node_count xs) ≡ a → nat_lt l.all (all_size xs) ≡ b → (if a then Some fault.Nodes else if b then Some fault.AllText else None) ≡ None → passed_by_all l ys ≡ None
    by true b e f q = cc q
    by false true e f q = cc q
    by false false e f q =
        let p = count-is xs in
        let r = count-is ys in
        let t = size-is xs in
        let u = size-is ys in
        let one : nat_lt l.nodes (node_count ys) ≡ false = grind (arith, nat_tests, e, few, p, r) in
        let two : nat_lt l.all (all_size ys) ≡ false = grind (arith, nat_tests, f, less, t, u) in
        rw (one, two) refl

-- ---- each change

sizes-detached : SizesDetached
sizes-detached l n forest h =
    let a = total-detached one_node n forest in
    let b = total-detached size_of n forest in
    none-more l forest.nodes (detached n forest).nodes (omega (arith, a)) (omega (arith, b)) h

unless-none : {X : Type 0} (o : Option TreeFault) (x y : X) → unless o x ≡ Ok y → (o ≡ None) × (x ≡ y)
unless-none None x y e = (refl, cc e)
unless-none (Some why) x y e = cc e

sizes-attached : SizesAttached
sizes-attached l held n parent place forest after e h =
    let at = place_of parent place (visits forest.nodes) (content_at n forest.nodes) in
    let deep = is_too_deep held.depth (elements_above parent (visits forest.nodes)) (tree_of n forest.nodes) in
    let is = (unless-none (if deep then Some fault.Depth else None) (placed n parent at forest) after e).1 in
    subst (λ (f : Forest). passed_by_all l f.nodes ≡ None) is
    (none-more l forest.nodes (placed n parent at forest).nodes (total-placed one_node n parent at forest) (total-placed size_of n parent at forest) h)

sizes-dropped : SizesDropped
sizes-dropped l nodes h = none-more l nodes (in_instances nodes) (total-dropped one_node nodes) (total-dropped size_of nodes) h

sizes-copied : SizesCopied
sizes-copied l n m forest after e =
    let more = numbered_from forest.next (contents_in (tree_of n forest.nodes)) in
    let whole : ℕ × Forest = (forest.next, record { nodes = forest.nodes ++ more; next = forest.next + length (tree_of n forest.nodes) }) in
    let u = unless-none (passed_by_all l (forest.nodes ++ more)) whole (m, after) e in
    subst (λ (w : ℕ × Forest). passed_by_all l w.1.nodes ≡ None) u.1 u.0

all-by-tree : (l : Limits) (tree nodes : List Node) → passed_by_tree l tree nodes ≡ None → passed_by_all l nodes ≡ None
all-by-tree l tree nodes h = by (nat_lt l.nodes (node_count nodes)) (has_long_text l.text tree) (nat_lt l.all (all_size nodes)) (is_too_deep l.depth 0 tree) h
  where
    by : (a b c d : Bool) → (if a then Some fault.Nodes else if b then Some fault.NodeText else if c then Some fault.AllText else if d then Some fault.Depth else None) ≡ None
        → (if a then Some fault.Nodes else if c then Some fault.AllText else None) ≡ None
    by true b c d q = cc q
    by false true c d q = cc q
    by false false true d q = cc q
    by false false false d q = refl

sizes-planted : SizesPlanted
sizes-planted l contents m forest after e =
    let tree = numbered_from forest.next contents in
    let u = unless-none (passed_by_tree l tree (forest.nodes ++ tree)) (forest.next, record { nodes = forest.nodes ++ tree; next = forest.next + length contents }) (m, after) e in
    subst (λ (w : ℕ × Forest). passed_by_all l w.1.nodes ≡ None) u.1 (all-by-tree l tree (forest.nodes ++ tree) u.0)

sizes-text : SizesText
sizes-text l size nodes h = by (nat_lt l.nodes (node_count nodes)) (nat_lt l.text size) (nat_lt l.all (all_size nodes)) h
  where
    by : (a b c : Bool) → (if a then Some fault.Nodes else if b then Some fault.NodeText else if c then Some fault.AllText else None) ≡ None
        → (if a then Some fault.Nodes else if c then Some fault.AllText else None) ≡ None
    by true b c q = cc q
    by false true c q = cc q
    by false false true q = cc q
    by false false false q = refl

pub size_laws : SizeLaws
size_laws = record { detached = sizes-detached; attached = sizes-attached; dropped = sizes-dropped; copied = sizes-copied; planted = sizes-planted; text = sizes-text }
