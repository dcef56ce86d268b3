use Rattle.std.proofs.Common.{◌≡◌, ◌-◌, ◌==◌, ◌&&◌, not, true, false, ℕ, List, map, length, take, drop, get_or, sym, ap, ◌∙◌, subst, arith}
use Rattle.std.specs.Prelude.{IfOk, Result, Ok, Err}
use Rattle.std.specs.List.{list_any}
use Rattle.xf_def_forest.specs.declared.content.Node.{Node}
use Rattle.xf_def_forest.specs.declared.content.Content.{Content}
use Rattle.xf_def_forest.specs.Changes.{contents_in}
use Rattle.xf_def_forest.specs.Forest.{is_root, has_number, tree_of}
use Rattle.xf_def_forest.specs.Texts.{Keeping}
use Rattle.xf_tree_rows.specs.declared.rows.Row.{Row}
use Rattle.xf_tree_rows.specs.Rows.{tree_of as row_tree, no_row}
use Rattle.xf_tree_rows.proofs.CutLemmas.{tree-is-front}
use Rattle.xf_tree_walks.specs.Nodes.{StandsAt, IsTree, node_of}
use Rattle.xf_tree_walks.proofs.PlaceLemmas.{stands}
use Rattle.xf_tree_changes.specs.Trees.{part_of}
use Rattle.xf_tree.proofs.MeansLemmas.{one_of}
use Rattle.xf_tree.proofs.CopyLemmas.{contents-mean, contents-tree, copied-stands, nothing-copied}
use Rattle.xf_tree.proofs.forest.Forest.contents_at.Goals.{After-contents_of}
use Rattle.xf_tree.proofs.forest.Forest.contents_at.Goals as goal

ok-tree : {V E : Type 0} (r : Result V E) (items : V → List (ℕ × Content)) (l : List (ℕ × Content)) → IfOk r (λ v. items v ≡ l) → IsTree l → IfOk r (λ v. IsTree (items v))
ok-tree (Ok v) items l e tree = subst IsTree (sym e) tree
ok-tree (Err e) items l h tree = tt

stands-here : (c : After-contents_of) → StandsAt c.self.inside.slots c.self.inside.rows.items c.args.node.number c.in-Some.at
stands-here c = c.in-Some.ensures

-- what was read are the parts of the node's tree
parts-here : (c : After-contents_of) → IfOk c.contents_of.result (λ tree. tree.items ≡ map (part_of c.self.inside.slots (get_or c.self.inside.rows.items c.in-Some.at no_row).depth) (row_tree (drop c.in-Some.at c.self.inside.rows.items)))
parts-here c =
    let s = c.self.inside.slots in
    let rows = c.self.inside.rows.items in
    let at = c.in-Some.at in
    let here = stands-here c in
    let end : c.end_of-end.result - at ≡ length (row_tree (drop at rows)) = omega (arith, c.end_of-end.ensures.answer) in
    let slice : take (c.end_of-end.result - at) (drop at rows) ≡ row_tree (drop at rows) =
    (tree-is-front (drop at rows) (c.end_of-end.result - at) end).0 in
    let row = ap (λ (r : Row). r.depth) (c.at.ensures) in
    let same = ap (λ l. map (part_of s c.at.result.depth) l) (c.slice.ensures ∙ slice) ∙ ap (λ d. map (part_of s d) (row_tree (drop at rows))) row in
    subst (λ (l : List (ℕ × Content)). IfOk c.contents_of.result (λ tree. tree.items ≡ l)) same c.contents_of.ensures

pub returns-in-Some-clause-answer : goal.returns-in-Some-clause-answer
returns-in-Some-clause-answer c =
    let k = (goal.at.returns-in-Some-clause-answer c).After-contents_of in
    let n = c.args.node.number in
    let s = c.self.inside.slots in
    let rows = c.self.inside.rows.items in
    let means = contents-mean s n c.in-Some.at rows (stands-here k) (one_of s rows c.self.inside.kept.items c.self.inside.next n c.self.invariant.sound) in
    subst (λ (l : List (ℕ × Content)). IfOk c.contents_of.result (λ tree. tree.items ≡ l)) (means ∙ ap (λ (k : Keeping). contents_in (tree_of n k.forest.nodes)) c.self.view_is) (parts-here k)

pub returns-in-Some-clause-tree : goal.returns-in-Some-clause-tree
returns-in-Some-clause-tree c =
    let k = (goal.at.returns-in-Some-clause-tree c).After-contents_of in
    let n = c.args.node.number in
    let s = c.self.inside.slots in
    let rows = c.self.inside.rows.items in
    let here = stands-here k in
    let may = subst (λ (q : Keeping). list_any (λ (y : Node). (y.number == n) && not (is_root y.content)) q.forest.nodes ≡ true) (sym c.self.view_is) c.requires in
    let top = copied-stands n _ _ _ _ (stands s n c.in-Some.at rows here (one_of s rows c.self.inside.kept.items c.self.inside.next n c.self.invariant.sound)) may in
    let tree = contents-tree s c.in-Some.at rows c.self.inside.kept.items c.self.inside.next c.self.inside.count c.self.inside.bytes _ c.self.invariant here.within top in
    ok-tree c.contents_of.result (λ v. v.items) _ (parts-here k) tree

pub returns-in-None-clause-answer : goal.returns-in-None-clause-answer
returns-in-None-clause-answer c =
    let n = c.args.node.number in
    let s = c.self.inside.slots in
    let absent : has_number n (map (node_of s) c.self.inside.rows.items) ≡ false = c.in-None.ensures in
    let may = subst (λ (q : Keeping). list_any (λ (y : Node). (y.number == n) && not (is_root y.content)) q.forest.nodes ≡ true) (sym c.self.view_is) c.requires in
    absurd (nothing-copied n _ absent may)
