-- What is outside of a tree, told of lists of nodes.
use Rattle.std.proofs.Common.{◌≡◌, ℕ, ◌+◌, ◌==◌, Bool, true, false, cond, ◌&&◌, ◌||◌, List, [], ◌∷◌, ◌++◌, nat_lt, Option, Some, None, refl, sym, ap, ◌∙◌, subst, arith}
use Rattle.std.specs.Prelude.{◌≤◌}
use Rattle.std.proofs.lemmas.Bool.Decides.{nat_tests}
use Rattle.xf_def_forest.specs.declared.content.Kind.{Kind}
use Rattle.xf_def_forest.specs.declared.content.Kind.TheVariants as kind
use Rattle.xf_def_forest.specs.declared.content.Node.{Node}
use Rattle.xf_def_forest.specs.Changes.{detached, moved_to, placed, without_tree}
use Rattle.xf_def_forest.specs.Forest.{Forest, below, first_tree, from_node, has_number, kind_at, past, tree_of}
use Rattle.xf_def_forest.specs.Needs.{MayPlace, goes_below, is_top}
use Rattle.xf_def_forest.specs.Texts.{Keeping}
use Rattle.xf_def_forest.specs.WellFormed.{HasTrees, AreTrees}
use Rattle.xf_law_recalculation.specs.Agree.Hung.{begins_at_top}
use Rattle.xf_law_forests.proofs.RollbackLemmas.Trees.{Trees, onto, followed, times, times-followed}
use Rattle.xf_law_forests.proofs.RollbackLemmas.TreeShape.{Sound, node_times, times-onto}
use Rattle.xf_law_forests.proofs.RollbackLemmas.TreeMoves.{removed, found, found-absent, tree-onto, detached-onto}
use Rattle.xf_law_forests.proofs.RollbackLemmas.TreePlaces.{with_tree, changed, placed-onto}
use Rattle.xf_law_forests.proofs.RollbackLemmas.TreeTops.{tops, tops-onto}
use Rattle.xf_law_forests.proofs.RollbackLemmas.MoveFacts.{removed-times, changed-times}
use Rattle.xf_law_forests.proofs.RollbackLemmas.MoveBlank.{sound-removed}
use Rattle.xf_law_forests.proofs.RollbackLemmas.BearLemmas.{number-none}
use Rattle.xf_law_forests.proofs.RollbackLemmas.KeepingTrees.{Stands, stands, absent-times}
use Rattle.xf_law_forests.proofs.RollbackLemmas.JoinSteps.{bare-sound, kind-times}
use Rattle.xf_law_invariants.specs.Planned.Outside.{IsOutside, OutsideDetached, OutsidePlaced, OutsideGrown, OutsideLaws}
use Rattle.xf_law_invariants.proofs.PlannedLemmas.Outside.{IsOut, out-detached, out-removed, out-placed, top-apart}

-- ---- the trees of a forest

abbrev pub alone : Forest → Keeping
alone forest = record { forest = forest; kept = [] }

pub alone-trees : (forest : Forest) → HasTrees forest → AreTrees (alone forest)
alone-trees forest h = record { apart = h.apart; below = h.below; depths = h.depths; tops = h.tops; first = h.first; kept_apart = refl; kept_outside = refl; kept_below = refl }

-- a forest in hand, without kept texts
pub record Reading (forest : Forest) : Type 0 where
  pub trees : Trees
  pub nodes : forest.nodes ≡ onto 0 trees []
  pub once : (n : ℕ) → times n trees ≤ 1
  pub stands : Stands (alone forest)
  pub same : stands.trees ≡ trees

pub reading : (forest : Forest) → HasTrees forest → Reading forest
reading forest h =
    let s = stands (alone forest) (alone-trees forest h) in
    record { trees = s.trees; nodes = s.nodes; once = λ n. let z = s.once n in omega (arith, z); stands = s; same = refl }

-- ---- numbers

there-times : (n : ℕ) (xs : List Node) → has_number n xs ≡ true → 1 ≤ node_times n xs
there-times n [] h = cc h
there-times n (x ∷ xs) h = by (x.number == n) h (there-times n xs)
  where
    by : (b : Bool) → (b || has_number n xs) ≡ true → (has_number n xs ≡ true → 1 ≤ node_times n xs) → 1 ≤ cond b 1 0 + node_times n xs
    by true q rest = omega arith
    by false q rest = let z = rest q in omega (arith, z)

times-there : (n : ℕ) (xs : List Node) → 1 ≤ node_times n xs → has_number n xs ≡ true
times-there n xs h = by (has_number n xs) refl
  where
    by : (b : Bool) → has_number n xs ≡ b → b ≡ true
    by true e = refl
    by false e = let z = absent-times n xs e in let no : ⊥ = omega (arith, z, h) in absurd no

pub stands-times : (n : ℕ) (t : Trees) (nodes : List Node) → nodes ≡ onto 0 t [] → has_number n nodes ≡ true → 1 ≤ times n t
stands-times n t nodes e h =
    let a = times-onto n 0 t [] in
    let b : 1 ≤ node_times n (onto 0 t []) = subst (λ l. 1 ≤ node_times n l) e (there-times n nodes h) in
    omega (arith, a, b)

pub times-stands : (n : ℕ) (t : Trees) (nodes : List Node) → nodes ≡ onto 0 t [] → 1 ≤ times n t → has_number n nodes ≡ true
times-stands n t nodes e h =
    let a = times-onto n 0 t [] in
    subst (λ l. has_number n l ≡ true) (sym e) (times-there n (onto 0 t []) (omega (arith, a, h)))

pub none-times : (n : ℕ) (t : Trees) (nodes : List Node) → nodes ≡ onto 0 t [] → has_number n nodes ≡ false → times n t ≡ 0
none-times n t nodes e h =
    let a = times-onto n 0 t [] in
    let b = absent-times n (onto 0 t []) (subst (λ l. has_number n l ≡ false) e h) in
    omega (arith, a, b)

pub kind-there : (n : ℕ) (k : Kind) (xs : List Node) → kind_at n xs ≡ Some k → has_number n xs ≡ true
kind-there n k xs h = times-there n xs (kind-times k n xs h)

-- ---- outside of a tree

pub out-of : (p n : ℕ) (t : Trees) (nodes : List Node) → nodes ≡ onto 0 t [] → times n t ≡ 1 → has_number p (tree_of n nodes) ≡ false → IsOut p n t
out-of p n t nodes e once h =
    let at = tree-onto n 0 t [] once tt in
    let a = times-onto p at.depth (found n t) [] in
    let b = absent-times p (onto at.depth (found n t) []) (subst (λ l. has_number p l ≡ false) (ap (tree_of n) e ∙ at.is) h) in
    omega (arith, a, b)

pub outside-of : (p n : ℕ) (t : Trees) (nodes : List Node) → nodes ≡ onto 0 t [] → times n t ≡ 1 → IsOut p n t → IsOutside p n nodes
outside-of p n t nodes e once h =
    let at = tree-onto n 0 t [] once tt in
    record {
      stands = times-stands n t nodes e (omega (arith, once));
      outside = subst (λ l. has_number p l ≡ false) (sym (ap (tree_of n) e ∙ at.is)) (number-none p at.depth (found n t) h);
    }

pub stands-once : (n : ℕ) (forest : Forest) (r : Reading forest) → has_number n forest.nodes ≡ true → times n r.trees ≡ 1
stands-once n forest r h = let a = r.once n in let b = stands-times n r.trees forest.nodes r.nodes h in omega (arith, a, b)

-- ---- a tree that is cut off

-- of no node there is nothing to cut off
none-tree : (n : ℕ) (xs : List Node) → has_number n xs ≡ false → tree_of n xs ≡ []
none-tree n [] h = refl
none-tree n (x ∷ xs) h = by (x.number == n) h (none-tree n xs)
  where
    by : (b : Bool) → (b || has_number n xs) ≡ false → (has_number n xs ≡ false → tree_of n xs ≡ []) → first_tree (cond b (x ∷ xs) (from_node n xs)) ≡ []
    by true q rest = cc q
    by false q rest = rest q

none-without : (n : ℕ) (xs : List Node) → has_number n xs ≡ false → without_tree n xs ≡ xs
none-without n [] h = refl
none-without n (x ∷ xs) h = by (x.number == n) h (none-without n xs)
  where
    by : (b : Bool) → (b || has_number n xs) ≡ false → (has_number n xs ≡ false → without_tree n xs ≡ xs) → cond b (past x.depth xs) (x ∷ without_tree n xs) ≡ x ∷ xs
    by true q rest = cc q
    by false q rest = ap (λ l. x ∷ l) (rest q)

pub detached-none : (n : ℕ) (forest : Forest) → has_number n forest.nodes ≡ false → (detached n forest).nodes ≡ forest.nodes
detached-none n forest h =
    ap (λ l. l ++ moved_to 0 (tree_of n forest.nodes)) (none-without n forest.nodes h) ∙ ap (λ l. forest.nodes ++ moved_to 0 l) (none-tree n forest.nodes h) ∙ append_nil forest.nodes
  where
    append_nil : (xs : List Node) → xs ++ [] ≡ xs
    append_nil [] = refl
    append_nil (x ∷ xs) = ap (λ l. x ∷ l) (append_nil xs)

pub outside_detached : OutsideDetached
outside_detached p n m forest h o = by (has_number m forest.nodes) refl
  where
    r : Reading forest
    r = reading forest h

    n_once : times n r.trees ≡ 1
    n_once = stands-once n forest r o.stands

    by : (b : Bool) → has_number m forest.nodes ≡ b → IsOutside p n (detached m forest).nodes
    by false e = subst (IsOutside p n) (sym (detached-none m forest e)) o
    by true e =
        let t = followed (removed m r.trees) (found m r.trees) in
        let a = removed-times n m r.trees in
        let b = times-followed n (removed m r.trees) (found m r.trees) in
        outside-of p n t (detached m forest).nodes (detached-onto m r.trees forest r.nodes (stands-once m forest r e)) (omega (arith, a, b, n_once))
        (out-detached p n m r.trees (out-of p n r.trees forest.nodes r.nodes n_once o.outside))

-- ---- a tree that comes below a node

pub top-stands : (m : ℕ) (ys : List Node) → is_top m ys ≡ true → has_number m ys ≡ true
top-stands m [] q = cc q
top-stands m (y ∷ ys) q = by (y.number == m) (y.depth == 0) q (top-stands m ys)
  where
    by : (a c : Bool) → ((a && c) || is_top m ys) ≡ true → (is_top m ys ≡ true → has_number m ys ≡ true) → (a || has_number m ys) ≡ true
    by true c r rest = refl
    by false c r rest = rest r

-- the trees after it, where its parent stands
pub record Joined (m q place : ℕ) (forest : Forest) (r : Reading forest) : Type 0 where
  pub once : times m r.trees ≡ 1
  pub there : times q (removed m r.trees) ≡ 1
  pub nodes : (placed m q place forest).nodes ≡ onto 0 (changed q (with_tree place (found m r.trees)) (removed m r.trees)) []

pub joined : (m q place : ℕ) (forest : Forest) (r : Reading forest) → MayPlace m q forest → has_number q forest.nodes ≡ true → Joined m q place forest r
joined m q place forest r may live =
    let once = stands-once m forest r (top-stands m forest.nodes may.detached) in
    let out = out-of q m r.trees forest.nodes r.nodes once may.outside in
    let split = removed-times q m r.trees in
    let one = stands-once q forest r live in
    let there : times q (removed m r.trees) ≡ 1 = omega (arith, split, out, one) in
    let whole : Sound false r.trees = subst (Sound false) r.same r.stands.sound in
    record { once = once; there = there; nodes = placed-onto m q place r.trees forest r.nodes once there (bare-sound false (removed m r.trees) (sound-removed m false r.trees whole)) }

pub outside_placed : OutsidePlaced
outside_placed p n m q place forest h may top other out_q out_p =
    let r = reading forest h in
    let n_once = stands-once n forest r out_q.stands in
    let top_t : tops n r.trees ≡ true = sym (tops-onto n r.trees) ∙ ap (is_top n) (sym r.nodes) ∙ top in
    let apart : times n (found m r.trees) ≡ 0 = top-apart n m r.trees other top_t (r.once n) in
    let j = joined m q place forest r may (parent-stands (kind_at m forest.nodes) (kind_at q forest.nodes) may.kinds refl) in
    let split = removed-times n m r.trees in
    let moved = changed-times n q place (found m r.trees) (removed m r.trees) j.there in
    let none_ : times p (found n (found m r.trees)) ≡ 0 = ap (times p) (found-absent n (found m r.trees) apart) in
    outside-of p n (changed q (with_tree place (found m r.trees)) (removed m r.trees)) (placed m q place forest).nodes j.nodes (omega (arith, split, moved, apart, n_once))
    (out-placed p n q place (found m r.trees) (removed m r.trees) none_
    (out-removed q n m r.trees (out-of q n r.trees forest.nodes r.nodes n_once out_q.outside))
    (out-removed p n m r.trees (out-of p n r.trees forest.nodes r.nodes n_once out_p.outside)))
  where
    parent-stands : (own above : Option Kind) → goes_below own above ≡ true → kind_at q forest.nodes ≡ above → has_number q forest.nodes ≡ true
    parent-stands own None g e = cc (nowhere own g)
      where
        nowhere : (o : Option Kind) → goes_below o None ≡ true → false ≡ true
        nowhere None g = g
        nowhere (Some kind.Root) g = g
        nowhere (Some kind.Element) g = g
        nowhere (Some kind.Attribute) g = g
        nowhere (Some kind.Text) g = g
    parent-stands own (Some k) g e = kind-there q k forest.nodes e

-- ---- new trees

-- a tree ends before a top
below-top : (d : ℕ) (xs trees : List Node) → begins_at_top trees ≡ true → below d (xs ++ trees) ≡ below d xs
below-top d [] [] h = refl
below-top d [] (y ∷ ys) h = let e : nat_lt d y.depth ≡ false = grind (arith, nat_tests, h) in rw e refl
below-top d (x ∷ xs) trees h = by (nat_lt d x.depth) (below-top d xs trees h)
  where
    by : (b : Bool) → below d (xs ++ trees) ≡ below d xs → cond b (x ∷ below d (xs ++ trees)) [] ≡ cond b (x ∷ below d xs) []
    by true e = ap (λ l. x ∷ l) e
    by false e = refl

grown-tree : (n : ℕ) (xs trees : List Node) → begins_at_top trees ≡ true → has_number n xs ≡ true → tree_of n (xs ++ trees) ≡ tree_of n xs
grown-tree n [] trees h live = cc live
grown-tree n (x ∷ xs) trees h live = by (x.number == n) live (grown-tree n xs trees h)
  where
    by : (b : Bool) → (b || has_number n xs) ≡ true → (has_number n xs ≡ true → tree_of n (xs ++ trees) ≡ tree_of n xs)
        → first_tree (cond b (x ∷ xs ++ trees) (from_node n (xs ++ trees))) ≡ first_tree (cond b (x ∷ xs) (from_node n xs))
    by true q rest = ap (λ l. x ∷ l) (below-top x.depth xs trees h)
    by false q rest = rest q

grown-has : (n : ℕ) (xs ys : List Node) → has_number n xs ≡ true → has_number n (xs ++ ys) ≡ true
grown-has n [] ys h = cc h
grown-has n (x ∷ xs) ys h = by (x.number == n) h (grown-has n xs ys)
  where
    by : (b : Bool) → (b || has_number n xs) ≡ true → (has_number n xs ≡ true → has_number n (xs ++ ys) ≡ true) → (b || has_number n (xs ++ ys)) ≡ true
    by true q rest = refl
    by false q rest = rest q

pub outside_grown : OutsideGrown
outside_grown p n nodes trees h o = record { stands = grown-has n nodes trees o.stands; outside = ap (has_number p) (grown-tree n nodes trees h o.stands) ∙ o.outside }

pub outside_laws : OutsideLaws
outside_laws = record { detached = outside_detached; placed = outside_placed; grown = outside_grown }
