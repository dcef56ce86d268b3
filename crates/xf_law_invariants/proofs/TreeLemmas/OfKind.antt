-- Nodes stay of their kind: by the number, each node with it has the kind, and one stands.
use Rattle.std.proofs.Common.{◌≡◌, ℕ, suc, ◌+◌, ◌==◌, Bool, true, false, not, cond, ◌&&◌, ◌||◌, List, [], ◌∷◌, ◌++◌, find, Option, Some, None, option_map, Ok, refl, sym, ap, ◌∙◌, subst, inl, inr, arith}
use Rattle.std.specs.Prelude.{◌≤◌}
use Rattle.std.specs.List.{list_all}
use Rattle.std.proofs.lemmas.Bool.{cases_Bool}
use Rattle.std.proofs.lemmas.Bool.Decides.{nat_tests}
use Rattle.xf_def_forest.specs.declared.content.Kind.{Kind}
use Rattle.xf_def_forest.specs.declared.content.Kind.TheVariants as kind
use Rattle.xf_def_forest.specs.declared.content.Node.{Node}
use Rattle.xf_def_forest.specs.declared.fault.TreeFault.{TreeFault}
use Rattle.xf_def_forest.specs.declared.fault.TreeFault.TheVariants.{Depth}
use Rattle.xf_def_forest.specs.Changes.{contents_in, elements_above, moved_to, place_of, placed, with_below, with_part, without_tree}
use Rattle.xf_def_forest.specs.Forest.{Forest, content_at, has_number, kind_at, kind_of, tree_of}
use Rattle.xf_def_forest.specs.Limits.{is_too_deep, passed_by_all, passed_by_tree, unless}
use Rattle.xf_def_forest.specs.Needs.{MayPlace}
use Rattle.xf_def_forest.specs.Plant.{numbered_from}
use Rattle.xf_def_forest.specs.Visit.{visits}
use Rattle.xf_def_forest.specs.WellFormed.{are_apart, HasTrees}
use Rattle.xf_law_invariants.specs.Tree.Kinds.{KindsStay, KindsDetached, KindsCopied, KindsPlanted, KindsAttached, KindLaws}
use Rattle.xf_law_invariants.proofs.TreeLemmas.Links.{and-true, both-true, to-well, well-links}
use Rattle.xf_law_invariants.proofs.TreeLemmas.Counted.{times, times-append, times-none, times-parts, times-moved, all-append, all-without, all-tree, all-moved}
use Rattle.xf_law_invariants.proofs.TreeLemmas.Placed.{times-part, all-with}
use Rattle.xf_law_invariants.proofs.TreeLemmas.Attached.{tree-at, goes}

-- ---- kinds

abbrev same_kind : Kind → Kind → Bool
same_kind kind.Root kind.Root = true
same_kind kind.Element kind.Element = true
same_kind kind.Attribute kind.Attribute = true
same_kind kind.Text kind.Text = true
same_kind k other = false

kind-itself : (k : Kind) → same_kind k k ≡ true
kind-itself kind.Root = refl
kind-itself kind.Element = refl
kind-itself kind.Attribute = refl
kind-itself kind.Text = refl

same-kinds : (k j : Kind) → same_kind k j ≡ true → k ≡ j
same-kinds kind.Root kind.Root h = refl
same-kinds kind.Element kind.Element h = refl
same-kinds kind.Attribute kind.Attribute h = refl
same-kinds kind.Text kind.Text h = refl
same-kinds kind.Root kind.Element h = cc h
same-kinds kind.Root kind.Attribute h = cc h
same-kinds kind.Root kind.Text h = cc h
same-kinds kind.Element kind.Root h = cc h
same-kinds kind.Element kind.Attribute h = cc h
same-kinds kind.Element kind.Text h = cc h
same-kinds kind.Attribute kind.Root h = cc h
same-kinds kind.Attribute kind.Element h = cc h
same-kinds kind.Attribute kind.Text h = cc h
same-kinds kind.Text kind.Root h = cc h
same-kinds kind.Text kind.Element h = cc h
same-kinds kind.Text kind.Attribute h = cc h

-- one with this number has this kind
abbrev is_so : ℕ → Kind → Node → Bool
is_so m k y = not (y.number == m) || same_kind k (kind_of y.content)

abbrev kind_by : ℕ → Node → List Node → Bool → Option Kind
kind_by m y ys b = option_map kind_of (option_map (λ (z : Node). z.content) (cond b (Some y) (find (λ z. z.number == m) ys)))

-- ---- from the kind of a node, and back

same : (a c : ℕ) → (a == c) ≡ true → a ≡ c
same a c e = grind (arith, nat_tests, e)

not-true : (b : Bool) → not b ≡ true → b ≡ false
not-true true q = cc
not-true false q = refl

none-so : (m : ℕ) (k : Kind) (ys : List Node) → has_number m ys ≡ false → list_all (is_so m k) ys ≡ true
none-so m k [] h = refl
none-so m k (y ∷ ys) h = by (y.number == m) h (none-so m k ys)
  where
    by : (b : Bool) → (b || has_number m ys) ≡ false → (has_number m ys ≡ false → list_all (is_so m k) ys ≡ true) → ((not b || same_kind k (kind_of y.content)) && list_all (is_so m k) ys) ≡ true
    by true q rest = cc q
    by false q rest = rest q

all-so : (m : ℕ) (k : Kind) (ys : List Node) → are_apart ys ≡ true → kind_at m ys ≡ Some k → list_all (is_so m k) ys ≡ true
all-so m k [] a h = cc h
all-so m k (y ∷ ys) a h = by (y.number == m) refl h (all-so m k ys parts.1)
  where
    parts : (not (has_number y.number ys) ≡ true) × (are_apart ys ≡ true)
    parts = and-true (not (has_number y.number ys)) (are_apart ys) a

    by : (b : Bool) → (y.number == m) ≡ b → kind_by m y ys b ≡ Some k → (kind_at m ys ≡ Some k → list_all (is_so m k) ys ≡ true)
        → ((not b || same_kind k (kind_of y.content)) && list_all (is_so m k) ys) ≡ true
    by true e q rest =
        let own : kind_of y.content ≡ k = cc q in
        both-true (same_kind k (kind_of y.content)) (list_all (is_so m k) ys) (ap (same_kind k) own ∙ kind-itself k)
        (none-so m k ys (subst (λ j. has_number j ys ≡ false) (same y.number m e) (not-true (has_number y.number ys) parts.0)))
    by false e q rest = rest q

so-kind : (m : ℕ) (k : Kind) (ys : List Node) → list_all (is_so m k) ys ≡ true → has_number m ys ≡ true → kind_at m ys ≡ Some k
so-kind m k [] h there = cc there
so-kind m k (y ∷ ys) h there = by (y.number == m) h there (so-kind m k ys)
  where
    by : (b : Bool) → ((not b || same_kind k (kind_of y.content)) && list_all (is_so m k) ys) ≡ true → (b || has_number m ys) ≡ true
        → (list_all (is_so m k) ys ≡ true → has_number m ys ≡ true → kind_at m ys ≡ Some k) → kind_by m y ys b ≡ Some k
    by true q r rest = ap Some (sym (same-kinds k (kind_of y.content) (and-true (same_kind k (kind_of y.content)) (list_all (is_so m k) ys) q).0))
    by false q r rest = rest q r

kind-there : (m : ℕ) (k : Kind) (ys : List Node) → kind_at m ys ≡ Some k → has_number m ys ≡ true
kind-there m k [] h = cc h
kind-there m k (y ∷ ys) h = by (y.number == m) h (kind-there m k ys)
  where
    by : (b : Bool) → kind_by m y ys b ≡ Some k → (kind_at m ys ≡ Some k → has_number m ys ≡ true) → (b || has_number m ys) ≡ true
    by true q rest = refl
    by false q rest = rest q

there-times : (m : ℕ) (ys : List Node) → has_number m ys ≡ true → 1 ≤ times m ys
there-times m [] h = cc h
there-times m (y ∷ ys) h = by (y.number == m) h (there-times m ys)
  where
    by : (b : Bool) → (b || has_number m ys) ≡ true → (has_number m ys ≡ true → 1 ≤ times m ys) → 1 ≤ cond b 1 0 + times m ys
    by true q rest = omega arith
    by false q rest = let r : 1 ≤ times m ys = rest q in omega (arith, r)

times-there : (m : ℕ) (ys : List Node) → 1 ≤ times m ys → has_number m ys ≡ true
times-there m ys h =
    elim (cases_Bool (has_number m ys)) [
      | inl p ↦ p
      | inr p ↦ let none = times-none m ys p in let no : ⊥ = omega (arith, h, none) in absurd no
    ]

-- ---- each change

kind-append : (m : ℕ) (k : Kind) (xs ys : List Node) → kind_at m xs ≡ Some k → kind_at m (xs ++ ys) ≡ Some k
kind-append m k [] ys h = cc h
kind-append m k (x ∷ xs) ys h = by (x.number == m) h (kind-append m k xs ys)
  where
    by : (b : Bool) → kind_by m x xs b ≡ Some k → (kind_at m xs ≡ Some k → kind_at m (xs ++ ys) ≡ Some k) → kind_by m x (xs ++ ys) b ≡ Some k
    by true q rest = q
    by false q rest = rest q

detached-kinds : KindsDetached
detached-kinds n forest h m k e =
    let nodes = forest.nodes in
    let rest = without_tree n nodes in
    let tree = moved_to 0 (tree_of n nodes) in
    let so = all-so m k nodes h.apart e in
    let one = there-times m nodes (kind-there m k nodes e) in
    let sum = times-append m rest tree in
    let moved = times-moved m 0 (tree_of n nodes) in
    let parts = times-parts m n nodes in
    so-kind m k (rest ++ tree)
    (all-append (is_so m k) rest tree (all-without (is_so m k) n nodes so) (all-moved (is_so m k) 0 (λ from x q. q) (tree_of n nodes) (all-tree (is_so m k) n nodes so)))
    (times-there m (rest ++ tree) (omega (arith, one, sum, moved, parts)))

unless-same : {X : Type 0} (o : Option TreeFault) (x y : X) → unless o x ≡ Ok y → x ≡ y
unless-same None x y e = cc e
unless-same (Some fault) x y e = cc e

copied-kinds : KindsCopied
copied-kinds l n c forest after e m k h =
    let nodes = forest.nodes ++ numbered_from forest.next (contents_in (tree_of n forest.nodes)) in
    let whole = ap (λ (q : ℕ × Forest). q.1.nodes) (unless-same (passed_by_all l nodes) _ (c, after) e) in
    subst (λ ns. kind_at m ns ≡ Some k) whole (kind-append m k forest.nodes (numbered_from forest.next (contents_in (tree_of n forest.nodes))) h)

planted-kinds : KindsPlanted
planted-kinds l contents c forest after e m k h =
    let tree = numbered_from forest.next contents in
    let whole = ap (λ (q : ℕ × Forest). q.1.nodes) (unless-same (passed_by_tree l tree (forest.nodes ++ tree)) _ (c, after) e) in
    subst (λ ns. kind_at m ns ≡ Some k) whole (kind-append m k forest.nodes tree h)

-- below a parent that stands nothing is lost
times-with : (m parent place : ℕ) (x : Node) (inside ys : List Node) → has_number parent ys ≡ true → times m (with_below parent place (x ∷ inside) ys) ≡ times m ys + times m (x ∷ inside)
times-with m parent place x inside [] h = cc h
times-with m parent place x inside (y ∷ ys) h = by (y.number == parent) h (times-with m parent place x inside ys)
  where
    by : (b : Bool) → (b || has_number parent ys) ≡ true → (has_number parent ys ≡ true → times m (with_below parent place (x ∷ inside) ys) ≡ times m ys + times m (x ∷ inside))
        → times m (cond b (y ∷ with_part (suc y.depth) place (x ∷ inside) ys) (y ∷ with_below parent place (x ∷ inside) ys)) ≡ times m (y ∷ ys) + times m (x ∷ inside)
    by true q rest = let e = times-part m (suc y.depth) place x inside ys in omega (arith, e)
    by false q rest = let e = rest q in omega (arith, e)

placed-kinds : (n parent place : ℕ) (forest : Forest) → HasTrees forest → MayPlace n parent forest → KindsStay forest (placed n parent place forest)
placed-kinds n parent place forest h may m k e =
    let nodes = forest.nodes in
    let rest = without_tree n nodes in
    let g = goes n parent nodes may.kinds in
    let t = tree-at n g.own nodes (well-links nodes (to-well nodes h.depths h.first)) g.is in
    let x = t.top in
    let inside = t.inside in
    let so = all-so m k nodes h.apart e in
    let there = there-times parent nodes (kind-there parent g.over nodes g.above) in
    let outside = times-none parent (tree_of n nodes) may.outside in
    let halves = times-parts parent n nodes in
    let stands : has_number parent rest ≡ true = times-there parent rest (omega (arith, there, outside, halves)) in
    let one = there-times m nodes (kind-there m k nodes e) in
    let parts = times-parts m n nodes in
    let own : times m (tree_of n nodes) ≡ times m (x ∷ inside) = ap (times m) t.is in
    let sum = times-with m parent place x inside rest stands in
    let tree_so : list_all (is_so m k) (x ∷ inside) ≡ true = subst (λ l. list_all (is_so m k) l ≡ true) t.is (all-tree (is_so m k) n nodes so) in
    subst (λ l. kind_at m (with_below parent place l rest) ≡ Some k) (sym t.is)
    (so-kind m k (with_below parent place (x ∷ inside) rest)
    (all-with (is_so m k) parent place x inside rest (λ d. all-moved (is_so m k) d (λ from y q. q) (x ∷ inside) tree_so) (all-without (is_so m k) n nodes so))
    (times-there m (with_below parent place (x ∷ inside) rest) (omega (arith, one, parts, own, sum))))

attached-kinds : KindsAttached
attached-kinds l n parent place forest after h may e m k q =
    let all = visits forest.nodes in
    let at = place_of parent place all (content_at n forest.nodes) in
    let deep = is_too_deep l.depth (elements_above parent all) (tree_of n forest.nodes) in
    let whole = ap (λ (f : Forest). f.nodes) (unless-same (cond deep (Some Depth) None) (placed n parent at forest) after e) in
    subst (λ ns. kind_at m ns ≡ Some k) whole (placed-kinds n parent at forest h may m k q)

pub kind_laws : KindLaws
kind_laws = record { detached = detached-kinds; copied = copied-kinds; planted = planted-kinds; attached = attached-kinds }
