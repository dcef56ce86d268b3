-- The first fault of a literal tree, level by level, and the limits over new nodes.
use Rattle.std.proofs.Common.{◌≡◌, ℕ, suc, ◌+◌, ◌<◌, ◌≤◌, ◌&&◌, ◌||◌, true, false, List, [], ◌∷◌, ◌++◌, nat_lt, Option, Some, None, refl, sym, ap, ◌∙◌, arith}
use Rattle.std.specs.Prelude.{nat_le}
use Rattle.std.specs.List.{list_any}
use Rattle.std.proofs.lemmas.Bool.Decides.{nat_tests}
use Rattle.xf_name.specs.declared.lit.Lit.{Lit}
use Rattle.xf_name.specs.declared.lit.LitElement.{LitElement}
use Rattle.xf_name.specs.Bindings.{Bindings}
use Rattle.xf_name.specs.Faults.{name_fault}
use Rattle.xf_name.specs.Shown.{walk_of_all}
use Rattle.xf_name.specs.Written.{Written, walk_of, walk_of_element, default_below}
use Rattle.xf_name.proofs.WalkLemmas.{walk_of_element-is}
use Rattle.xf_def_forest.specs.declared.content.Node.{Node}
use Rattle.xf_def_forest.specs.declared.content.Content.{Content}
use Rattle.xf_def_forest.specs.declared.fault.TreeFault.{TreeFault}
use Rattle.xf_def_forest.specs.declared.fault.TreeFault.TheVariants.{Nodes, NodeText, AllText, Depth}
use Rattle.xf_def_forest.specs.Forest.{is_element}
use Rattle.xf_def_forest.specs.Limits.{Limits, has_long_text, is_too_deep, passed_by_tree, node_count, all_size}
use Rattle.xf_def_forest.specs.Plant.{numbered_from}
use Rattle.xf_def_forest.specs.Planted.{or_later, first_fault, written_fault, fault_by, is_unknown_space}
use Rattle.xf_tree_rows.proofs.SizedLemmas.{lt-true, lt-false}
use Rattle.xf_tree_literals.specs.Contents.{is_long, is_deep}

pub first-append : {X : Type 0} (f : X → Option TreeFault) (xs ys : List X) → first_fault f (xs ++ ys) ≡ or_later (first_fault f xs) (first_fault f ys)
first-append f [] ys = refl
first-append f (x ∷ xs) ys = ap (or_later (f x)) (first-append f xs ys) ∙ or-twice (f x) (first_fault f xs) (first_fault f ys)
  where
    or-twice : (a b c : Option TreeFault) → or_later a (or_later b c) ≡ or_later (or_later a b) c
    or-twice (Some x) b c = refl
    or-twice None b c = refl

pub later-fault : (f : Written → Option TreeFault) (x : Lit) (xs : List Lit) (above : List ℕ) (depth : ℕ) → None ≡ first_fault f (walk_of x above depth)
    → first_fault f (walk_of_all xs above depth) ≡ first_fault f (walk_of_all (x ∷ xs) above depth)
later-fault f x xs above depth e = sym (first-append f (walk_of x above depth) (walk_of_all xs above depth) ∙ ap (λ o. or_later o (first_fault f (walk_of_all xs above depth))) (sym e))

pub found-fault : (f : Written → Option TreeFault) (fault : TreeFault) (x : Lit) (xs : List Lit) (above : List ℕ) (depth : ℕ) → Some fault ≡ first_fault f (walk_of x above depth)
    → Some fault ≡ first_fault f (walk_of_all (x ∷ xs) above depth)
found-fault f fault x xs above depth e = sym (first-append f (walk_of x above depth) (walk_of_all xs above depth) ∙ ap (λ o. or_later o (first_fault f (walk_of_all xs above depth))) (sym e))

pub element-fault : (b : Bindings) (e : LitElement) (above : List ℕ) (depth : ℕ)
    → first_fault (written_fault b) (walk_of_element e above depth)
    ≡ or_later (fault_by (name_fault b e.name e.attributes) (is_unknown_space b (default_below above e.attributes))) (first_fault (written_fault b) (walk_of_all e.children (default_below above e.attributes) (suc depth)))
element-fault b e above depth = ap (first_fault (written_fault b)) (walk_of_element-is e above depth)

-- ---- limits over new nodes

pub long-numbered : (l : Limits) (next : ℕ) (cs : List (ℕ × Content)) → has_long_text l.text (numbered_from next cs) ≡ list_any (is_long l) cs
long-numbered l next [] = refl
long-numbered l next (c ∷ cs) = ap (λ b. is_long l c || b) (long-numbered l (suc next) cs)

pub deep-numbered : (l : Limits) (next : ℕ) (cs : List (ℕ × Content)) → is_too_deep l.depth 0 (numbered_from next cs) ≡ list_any (is_deep l) cs
deep-numbered l next [] = refl
deep-numbered l next (c ∷ cs) = ap (λ b. (is_element c.1 && b) || is_too_deep l.depth 0 (numbered_from (suc next) cs)) (deeper l.depth c.0) ∙ ap (λ b. is_deep l c || b) (deep-numbered l (suc next) cs)
  where
    deeper : (m d : ℕ) → nat_lt m (0 + suc d) ≡ nat_le m d
    deeper m d = grind (arith, nat_tests)

-- ---- the first limit that is passed

pub tree-nodes : (l : Limits) (tree nodes : List Node) → l.nodes < node_count nodes → Some Nodes ≡ passed_by_tree l tree nodes
tree-nodes l tree nodes h = rw (lt-true l.nodes (node_count nodes) h) refl

pub tree-long : (l : Limits) (tree nodes : List Node) → node_count nodes ≤ l.nodes → has_long_text l.text tree ≡ true → Some NodeText ≡ passed_by_tree l tree nodes
tree-long l tree nodes h long = rw (lt-false l.nodes (node_count nodes) h, long) refl

pub tree-bytes : (l : Limits) (tree nodes : List Node) → node_count nodes ≤ l.nodes → has_long_text l.text tree ≡ false → l.all < all_size nodes → Some AllText ≡ passed_by_tree l tree nodes
tree-bytes l tree nodes h long k = rw (lt-false l.nodes (node_count nodes) h, long, lt-true l.all (all_size nodes) k) refl

pub tree-deep : (l : Limits) (tree nodes : List Node) → node_count nodes ≤ l.nodes → has_long_text l.text tree ≡ false → all_size nodes ≤ l.all → is_too_deep l.depth 0 tree ≡ true
    → Some Depth ≡ passed_by_tree l tree nodes
tree-deep l tree nodes h long k deep = rw (lt-false l.nodes (node_count nodes) h, long, lt-false l.all (all_size nodes) k, deep) refl

pub tree-none : (l : Limits) (tree nodes : List Node) → node_count nodes ≤ l.nodes → has_long_text l.text tree ≡ false → all_size nodes ≤ l.all → is_too_deep l.depth 0 tree ≡ false
    → None ≡ passed_by_tree l tree nodes
tree-none l tree nodes h long k deep = rw (lt-false l.nodes (node_count nodes) h, long, lt-false l.all (all_size nodes) k, deep) refl
