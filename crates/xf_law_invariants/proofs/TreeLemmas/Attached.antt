-- What a binding names as the place of a tree may have it, so that the forest is one of trees after it came.
use Rattle.std.proofs.Common.{◌≡◌, ℕ, ◌<◌, ◌==◌, Bool, true, false, not, cond, ◌||◌, List, [], ◌∷◌, nat_lt, find, Option, Some, None, option_map, Ok, refl, sym, ap, ◌∙◌, subst, inl, inr, arith}
use Rattle.std.specs.List.{list_all}
use Rattle.std.proofs.lemmas.Bool.Decides.{nat_tests}
use Rattle.xf_def_forest.specs.declared.content.Content.{Content}
use Rattle.xf_def_forest.specs.declared.content.Content.TheVariants.{Root, Element, Attribute, Text}
use Rattle.xf_def_forest.specs.declared.content.Kind.{Kind}
use Rattle.xf_def_forest.specs.declared.content.Kind.TheVariants as kind
use Rattle.xf_def_forest.specs.declared.content.Node.{Node}
use Rattle.xf_def_forest.specs.declared.fault.TreeFault.{TreeFault}
use Rattle.xf_def_forest.specs.declared.fault.TreeFault.TheVariants.{Depth}
use Rattle.xf_def_forest.specs.Changes.{elements_above, moved_to, place_of, placed, with_below, without_tree}
use Rattle.xf_def_forest.specs.Forest.{below, content_at, first_tree, from_node, has_number, is_attribute, is_element, is_root, kind_at, kind_of, past, tree_of}
use Rattle.xf_def_forest.specs.Limits.{is_too_deep, unless}
use Rattle.xf_def_forest.specs.Needs.{goes_below}
use Rattle.xf_def_forest.specs.Visit.{visits}
use Rattle.xf_def_forest.specs.WellFormed.{are_apart, are_tops, HasTrees}
use Rattle.xf_law_invariants.specs.Tree.Trees.{PlacedTrees, AttachedTrees, PlaceLaws}
use Rattle.xf_law_invariants.proofs.TreeLemmas.Links.{and-true, both-true, Linked, Links, Well, AllDeeper, to-well, well-depths, well-first, well-links, without-well, linked-below, below-deeper}
use Rattle.xf_law_invariants.proofs.TreeLemmas.Counted.{times, apart-times, times-apart, times-parts, all-without, all-tree, all-moved}
use Rattle.xf_law_invariants.proofs.TreeLemmas.Placed.{MayHave, AllMayHave, below-well, times-below, all-with}

-- ---- the tree that comes

-- a tree with its top
pub record TreeAt (n : ℕ) (k : Kind) (nodes : List Node) : Type 0 where
  pub top : Node
  pub inside : List Node
  pub is : tree_of n nodes ≡ top ∷ inside
  pub kind : kind_of top.content ≡ k
  pub deep : AllDeeper top.depth inside
  pub linked : Linked top inside

pub tree-at : (n : ℕ) (k : Kind) (nodes : List Node) → Links nodes → kind_at n nodes ≡ Some k → TreeAt n k nodes
tree-at n k [] l h = cc h
tree-at n k (x ∷ xs) l h = by (x.number == n) refl (tree-at n k xs (rest xs l))
  where
    rest : (ys : List Node) → Linked x ys → Links ys
    rest [] q = tt
    rest (y ∷ ys) q = q.1

    by : (b : Bool) → (x.number == n) ≡ b → (kind_at n xs ≡ Some k → TreeAt n k xs) → TreeAt n k (x ∷ xs)
    by true e later =
        let own : Some (kind_of x.content) ≡ Some k = sym (ap (λ c. option_map kind_of (option_map (λ (y : Node). y.content) (cond c (Some x) (find (λ y. y.number == n) xs)))) e) ∙ h in
        record {
          top = x;
          inside = below x.depth xs;
          is = ap (λ c. first_tree (cond c (x ∷ xs) (from_node n xs))) e;
          kind = cc own;
          deep = below-deeper x.depth xs;
          linked = linked-below x x.depth xs l;
        }
    by false e later =
        let other : kind_at n xs ≡ Some k = sym (ap (λ c. option_map kind_of (option_map (λ (y : Node). y.content) (cond c (Some x) (find (λ y. y.number == n) xs)))) e) ∙ h in
        let t = later other in
        record { top = t.top; inside = t.inside; is = ap (λ c. first_tree (cond c (x ∷ xs) (from_node n xs))) e ∙ t.is; kind = t.kind; deep = t.deep; linked = t.linked }

-- ---- the parent

-- one with this number has this kind
abbrev AreOfKind : ℕ → Kind → List Node → Type 0
AreOfKind m k [] = Unit {0}
AreOfKind m k (y ∷ ys) = (y.number ≡ m → kind_of y.content ≡ k) × AreOfKind m k ys

same : (a c : ℕ) → (a == c) ≡ true → a ≡ c
same a c e = grind (arith, nat_tests, e)

none-of-kind : (m : ℕ) (k : Kind) (ys : List Node) → has_number m ys ≡ false → AreOfKind m k ys
none-of-kind m k [] h = tt
none-of-kind m k (y ∷ ys) h = by (none-of-kind m k ys) (y.number == m) refl h
  where
    by : (has_number m ys ≡ false → AreOfKind m k ys) → (b : Bool) → (y.number == m) ≡ b → (b || has_number m ys) ≡ false → AreOfKind m k (y ∷ ys)
    by rest true e q = cc q
    by rest false e q = (λ i. let yes : (y.number == m) ≡ true = grind (arith, nat_tests, i) in let no : true ≡ false = sym yes ∙ e in cc no, rest q)

of-kind : (m : ℕ) (k : Kind) (ys : List Node) → are_apart ys ≡ true → kind_at m ys ≡ Some k → AreOfKind m k ys
of-kind m k [] a h = tt
of-kind m k (y ∷ ys) a h = by (y.number == m) refl (of-kind m k ys parts.1)
  where
    parts : (not (has_number y.number ys) ≡ true) × (are_apart ys ≡ true)
    parts = and-true (not (has_number y.number ys)) (are_apart ys) a

    not-true : (b : Bool) → not b ≡ true → b ≡ false
    not-true true q = cc
    not-true false q = refl

    by : (b : Bool) → (y.number == m) ≡ b → (kind_at m ys ≡ Some k → AreOfKind m k ys) → AreOfKind m k (y ∷ ys)
    by true e later =
        let own : Some (kind_of y.content) ≡ Some k = sym (ap (λ c. option_map kind_of (option_map (λ (z : Node). z.content) (cond c (Some y) (find (λ z. z.number == m) ys)))) e) ∙ h in
        (λ i. cc own, none-of-kind m k ys (subst (λ j. has_number j ys ≡ false) (same y.number m e) (not-true (has_number y.number ys) parts.0)))
    by false e later =
        let other : kind_at m ys ≡ Some k = sym (ap (λ c. option_map kind_of (option_map (λ (z : Node). z.content) (cond c (Some y) (find (λ z. z.number == m) ys)))) e) ∙ h in
        (λ i. let yes : (y.number == m) ≡ true = grind (arith, nat_tests, i) in let no : true ≡ false = sym yes ∙ e in cc no, later other)

past-of-kind : (m : ℕ) (k : Kind) (d : ℕ) (ys : List Node) → AreOfKind m k ys → AreOfKind m k (past d ys)
past-of-kind m k d [] h = tt
past-of-kind m k d (y ∷ ys) h = by (nat_lt d y.depth) (past-of-kind m k d ys h.1)
  where
    by : (b : Bool) → AreOfKind m k (past d ys) → AreOfKind m k (cond b (past d ys) (y ∷ ys))
    by true later = later
    by false later = h

without-of-kind : (m : ℕ) (k : Kind) (n : ℕ) (ys : List Node) → AreOfKind m k ys → AreOfKind m k (without_tree n ys)
without-of-kind m k n [] h = tt
without-of-kind m k n (y ∷ ys) h = by (y.number == n) (without-of-kind m k n ys h.1)
  where
    by : (b : Bool) → AreOfKind m k (without_tree n ys) → AreOfKind m k (cond b (past y.depth ys) (y ∷ without_tree n ys))
    by true later = past-of-kind m k y.depth ys h.1
    by false later = (h.0, later)

element-kind : (c : Content) → kind_of c ≡ kind.Element → (is_element c ≡ true) × (is_attribute c ≡ false) × (is_root c ≡ false)
element-kind Root e = cc e
element-kind (Element name) e = (refl, refl, refl)
element-kind (Attribute name text) e = cc e
element-kind (Text text) e = cc e

attribute-kind : (c : Content) → kind_of c ≡ kind.Attribute → (is_attribute c ≡ true) × (is_root c ≡ false)
attribute-kind Root e = cc e
attribute-kind (Element name) e = cc e
attribute-kind (Attribute name text) e = (refl, refl)
attribute-kind (Text text) e = cc e

root-kind : (c : Content) → kind_of c ≡ kind.Root → is_root c ≡ true
root-kind Root e = refl
root-kind (Element name) e = cc e
root-kind (Attribute name text) e = cc e
root-kind (Text text) e = cc e

-- what goes below what
pub record Goes (n parent : ℕ) (nodes : List Node) : Type 0 where
  pub own : Kind
  pub over : Kind
  pub is : kind_at n nodes ≡ Some own
  pub above : kind_at parent nodes ≡ Some over
  pub no_root : (c : Content) → kind_of c ≡ own → is_root c ≡ false
  pub may : (x y : Node) → kind_of x.content ≡ own → kind_of y.content ≡ over → MayHave x y

pub goes : (n parent : ℕ) (nodes : List Node) → goes_below (kind_at n nodes) (kind_at parent nodes) ≡ true → Goes n parent nodes
goes n parent nodes h = by (kind_at n nodes) (kind_at parent nodes) refl refl h
  where
    by : (o q : Option Kind) → kind_at n nodes ≡ o → kind_at parent nodes ≡ q → goes_below o q ≡ true → Goes n parent nodes
    by (Some kind.Element) (Some kind.Element) e f g = record {
      own = kind.Element;
      over = kind.Element;
      is = e;
      above = f;
      no_root = λ c i. (element-kind c i).2;
      may = λ x y i j. inl (element-kind y.content j).0;
    }
    by (Some kind.Element) (Some kind.Root) e f g = record {
      own = kind.Element;
      over = kind.Root;
      is = e;
      above = f;
      no_root = λ c i. (element-kind c i).2;
      may = λ x y i j. inr (root-kind y.content j, (element-kind x.content i).1);
    }
    by (Some kind.Attribute) (Some kind.Element) e f g = record {
      own = kind.Attribute;
      over = kind.Element;
      is = e;
      above = f;
      no_root = λ c i. (attribute-kind c i).1;
      may = λ x y i j. inl (element-kind y.content j).0;
    }
    by (Some kind.Element) (Some kind.Attribute) e f g = cc g
    by (Some kind.Element) (Some kind.Text) e f g = cc g
    by (Some kind.Element) None e f g = cc g
    by (Some kind.Attribute) (Some kind.Root) e f g = cc g
    by (Some kind.Attribute) (Some kind.Attribute) e f g = cc g
    by (Some kind.Attribute) (Some kind.Text) e f g = cc g
    by (Some kind.Attribute) None e f g = cc g
    by (Some kind.Root) q e f g = cc g
    by (Some kind.Text) q e f g = cc g
    by None q e f g = cc g

all-may : (own over : Kind) (x : Node) (parent : ℕ) → kind_of x.content ≡ own → ((x y : Node) → kind_of x.content ≡ own → kind_of y.content ≡ over → MayHave x y) → (ys : List Node) → AreOfKind parent over ys
    → AllMayHave x parent ys
all-may own over x parent e may [] h = tt
all-may own over x parent e may (y ∷ ys) h = (λ i. may x y e (h.0 i), all-may own over x parent e may ys h.1)

-- ---- no root comes

-- in a tree below its top there is none
no-roots : (d : ℕ) (ys : List Node) → AllDeeper d ys → are_tops ys ≡ true → list_all (λ y. not (is_root y.content)) ys ≡ true
no-roots d [] a h = refl
no-roots d (y ∷ ys) a h =
    let parts = and-true (not (is_root y.content) || (y.depth == 0)) (are_tops ys) h in
    both-true (not (is_root y.content)) (list_all (λ (z : Node). not (is_root z.content)) ys) (by (not (is_root y.content)) (y.depth == 0) refl a.0 parts.0) (no-roots d ys a.1 parts.1)
  where
    by : (b c : Bool) → (y.depth == 0) ≡ c → d < y.depth → (b || c) ≡ true → b ≡ true
    by true c e less q = refl
    by false true e less q = let zero-deep : y.depth ≡ 0 = same y.depth 0 e in let no : ⊥ = omega (arith, less, zero-deep) in absurd no
    by false false e less q = cc q

rootless-tops : (ys : List Node) → list_all (λ y. not (is_root y.content)) ys ≡ true → are_tops ys ≡ true
rootless-tops [] h = refl
rootless-tops (y ∷ ys) h =
    let parts = and-true (not (is_root y.content)) (list_all (λ (z : Node). not (is_root z.content)) ys) h in
    both-true (not (is_root y.content) || (y.depth == 0)) (are_tops ys) (ap (λ b. b || (y.depth == 0)) parts.0) (rootless-tops ys parts.1)

placed-trees : PlacedTrees
placed-trees n parent place forest h may =
    let nodes = forest.nodes in
    let rest = without_tree n nodes in
    let w = to-well nodes h.depths h.first in
    let g = goes n parent nodes may.kinds in
    let t = tree-at n g.own nodes (well-links nodes w) g.is in
    let x = t.top in
    let inside = t.inside in
    let fits : AllMayHave x parent rest = all-may g.own g.over x parent t.kind g.may rest (without-of-kind parent g.over n nodes (of-kind parent g.over nodes h.apart g.above)) in
    let all : Well (with_below parent place (x ∷ inside) rest) = below-well parent place x inside t.linked t.deep rest fits (without-well n nodes w) in
    let low : list_all (λ y. nat_lt y.number forest.next) (x ∷ inside) ≡ true =
    subst (λ l. list_all (λ (y : Node). nat_lt y.number forest.next) l ≡ true) t.is (all-tree (λ y. nat_lt y.number forest.next) n nodes h.below) in
    let tops : are_tops (x ∷ inside) ≡ true = subst (λ l. are_tops l ≡ true) t.is (all-tree (λ y. not (is_root y.content) || (y.depth == 0)) n nodes h.tops) in
    let inner = and-true (not (is_root x.content) || (x.depth == 0)) (are_tops inside) tops in
    let none : list_all (λ y. not (is_root y.content)) (x ∷ inside) ≡ true =
    both-true (not (is_root x.content)) (list_all (λ (y : Node). not (is_root y.content)) inside) (ap not (g.no_root x.content t.kind)) (no-roots x.depth inside t.deep inner.1) in
    let after : HasTrees (record forest { nodes = with_below parent place (x ∷ inside) rest }) = record {
      apart = times-apart (with_below parent place (x ∷ inside) rest) (λ k.
          let fewer = times-below k parent place x inside rest in
          let parts = times-parts k n nodes in
          let same_tree : times k (tree_of n nodes) ≡ times k (x ∷ inside) = ap (times k) t.is in
          let most = apart-times nodes h.apart k in omega (arith, fewer, parts, same_tree, most));
      below = all-with (λ y. nat_lt y.number forest.next) parent place x inside rest (λ d. all-moved (λ y. nat_lt y.number forest.next) d (λ from y q. q) (x ∷ inside) low) (all-without (λ y. nat_lt y.number forest.next) n nodes h.below);
      depths = well-depths (with_below parent place (x ∷ inside) rest) all;
      tops = all-with (λ y. not (is_root y.content) || (y.depth == 0)) parent place x inside rest
          (λ d. rootless-tops (moved_to d (x ∷ inside)) (all-moved (λ y. not (is_root y.content)) d (λ from y q. q) (x ∷ inside) none))
          (all-without (λ y. not (is_root y.content) || (y.depth == 0)) n nodes h.tops);
      first = well-first (with_below parent place (x ∷ inside) rest) all;
    } in
    subst (λ l. HasTrees (record forest { nodes = with_below parent place l rest })) (sym t.is) after

unless-same : {X : Type 0} (o : Option TreeFault) (x y : X) → unless o x ≡ Ok y → x ≡ y
unless-same None x y e = cc e
unless-same (Some fault) x y e = cc e

attached-trees : AttachedTrees
attached-trees l n parent place forest after h may e =
    let all = visits forest.nodes in
    let at = place_of parent place all (content_at n forest.nodes) in
    let deep = is_too_deep l.depth (elements_above parent all) (tree_of n forest.nodes) in
    subst HasTrees (unless-same (cond deep (Some Depth) None) (placed n parent at forest) after e) (placed-trees n parent at forest h may)

pub place_laws : PlaceLaws
place_laws = record { placed = placed-trees; attached = attached-trees }
