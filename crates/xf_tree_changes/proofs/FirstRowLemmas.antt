-- Attributes stand first: the rows without a tree, a tree of them, and where a tree comes in.
use Rattle.std.proofs.Common.{◌≡◌, ℕ, suc, ◌+◌, ◌<◌, ◌≤◌, List, [], ◌∷◌, ◌++◌, map, length, take, drop, get_or, sym, ap, ◌∙◌, subst, arith}
use Rattle.slab.specs.Slab.{Slab}
use Rattle.xf_def_forest.specs.declared.content.Node.{Node}
use Rattle.xf_def_forest.specs.declared.content.Content.{Content}
use Rattle.xf_tree_rows.specs.declared.rows.Row.{Row}
use Rattle.xf_tree_rows.specs.Rows.{deeper, tree_of, after_tree, no_row, AllDeep}
use Rattle.xf_tree_rows.proofs.CutLemmas.{stops-after}
use Rattle.xf_tree_rows.proofs.RowLemmas.{split-at}
use Rattle.xf_tree_rows.proofs.ParentLemmas.{deep-prefix}
use Rattle.xf_tree_contents.specs.Slot.{Slot}
use Rattle.xf_tree_walks.specs.Leaves.{parts_in}
use Rattle.xf_tree_walks.specs.First.{AreFirst, AllFrom}
use Rattle.xf_tree_walks.specs.Nodes.{node_of}
use Rattle.xf_tree_walks.proofs.LeafLemmas.{parts-append, first-not_deeper}
use Rattle.xf_tree_walks.proofs.FirstLemmas.{depth_behind, first-without, AllBelow}
use Rattle.xf_tree_changes.proofs.MapLemmas.{whole-map}

all-below : (s : Slab Slot) (d : ℕ) (rows : List Row) → AllDeep (d + 1) rows → AllBelow d (map (node_of s) rows)
all-below s d [] deep = tt
all-below s d (r ∷ rs) deep = (omega (arith, deep.0), all-below s d rs deep.1)

all-from : (d : ℕ) (xs : List Node) → AllBelow d xs → AllFrom (suc d) (map (λ (p : ℕ × Content). p.0) (parts_in xs))
all-from d [] below = tt
all-from d (x ∷ xs) below = (omega (arith, below.0), all-from d xs below.1)

pub tree-below : (s : Slab Slot) (d : ℕ) (xs : List Row) → AllBelow d (map (node_of s) (take (deeper d xs) xs))
tree-below s d xs = let few : deeper d xs ≤ deeper d xs = omega arith in all-below s d (take (deeper d xs) xs) (deep-prefix d (deeper d xs) xs few)

-- a list without the tree at a place, and that tree
pub without-tree : (s : Slab Slot) (at : ℕ) (old : List Row) → at < length old → AreFirst 0 (parts_in (map (node_of s) old))
    → AreFirst 0 (parts_in (map (node_of s) (take at old)) ++ parts_in (map (node_of s) (after_tree (drop at old))))
    × AreFirst (depth_behind 0 (parts_in (map (node_of s) (take at old)))) (parts_in (map (node_of s) (tree_of (get_or old at no_row ∷ drop (at + 1) old))))
without-tree s at old h first =
    let f = node_of s in
    let x = get_or old at no_row in
    let xs = drop (at + 1) old in
    let us = map f (take at old) in
    let rest = map f (take (deeper x.depth xs) xs) in
    let after = map f (after_tree (x ∷ xs)) in
    let sp = split-at at old no_row h in
    let was : parts_in (map f old) ≡ parts_in us ++ (parts_in (f x ∷ rest) ++ parts_in after) =
    ap parts_in (whole-map f at old ∙ ap (λ l. us ++ (map f (tree_of l) ++ map f (after_tree l))) sp) ∙ parts-append us ((f x ∷ rest) ++ after)
    ∙ ap (λ l. parts_in us ++ l) (parts-append (f x ∷ rest) after) in
    let w = first-without 0 (parts_in us) (x.depth, (f x).content) (parts_in rest) (parts_in after) (subst (AreFirst 0) was first) (all-from x.depth rest (tree-below s x.depth xs))
    (first-not_deeper s x.depth (after_tree (x ∷ xs)) (stops-after x.depth xs)) in
    (subst (λ l. AreFirst 0 (parts_in us ++ parts_in (map f (after_tree l)))) (sym sp) w.0, w.1)

pub without-first : (s : Slab Slot) (at : ℕ) (old : List Row) → at < length old → AreFirst 0 (parts_in (map (node_of s) old))
    → AreFirst 0 (parts_in (map (node_of s) (take at old)) ++ parts_in (map (node_of s) (after_tree (drop at old))))
without-first s at old h first = (without-tree s at old h first).0
