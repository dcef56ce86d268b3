use Rattle.std.proofs.Common.{◌≡◌, ℕ, ◌<◌, length, map, get_or, false, Option, Some, None, option_map, sym, ap, ◌∙◌, arith}
use Rattle.slab.specs.Slab.{get}
use Rattle.xf_def_forest.specs.declared.node.NodeId.{NodeId}
use Rattle.xf_def_forest.specs.Changes.{standing, with_place}
use Rattle.xf_def_forest.specs.Forest.{has_number}
use Rattle.xf_def_forest.specs.Texts.{Keeping}
use Rattle.xf_def_forest.specs.Visit.{visits, parent_of}
use Rattle.xf_tree_rows.specs.declared.rows.Row.{Row}
use Rattle.xf_tree_rows.specs.Rows.{parent_row_of, no_row}
use Rattle.xf_tree_contents.specs.Keys.{number_in}
use Rattle.xf_tree_walks.specs.Nodes.{node_of, number_at, kin_before}
use Rattle.xf_tree_walks.proofs.AboveLemmas.{above-is, above-inside, child-depth}
use Rattle.xf_tree_walks.proofs.ParentLemmas.{parent-means}
use Rattle.xf_tree_walks.proofs.ReadLemmas.{absent-standing}
use Rattle.xf_tree.proofs.AboveLemmas.{standing-means}
use Rattle.xf_tree.proofs.MeansLemmas.{one_of}
use Rattle.xf_tree.proofs.forest.Forest.standing.Goals as goal

pub returns-in_err-at : goal.returns-in_err-at
returns-in_err-at c =
    let n = c.args.node.number in
    let s = c.self.inside.slots in
    let absent : has_number n (map (node_of s) c.self.inside.rows.items) ≡ false = c.in_err-at.ensures in
    ap (option_map (λ (r : NodeId × ℕ). (r.0.number, r.1))) c.from_residual.ensures
    ∙ sym (absent-standing n (map (node_of s) c.self.inside.rows.items) absent) ∙ ap (λ (k : Keeping). standing n k.forest.nodes) c.self.view_is

pub returns-in_err-above : goal.returns-in_err-above
returns-in_err-above c =
    let n = c.args.node.number in
    let s = c.self.inside.slots in
    let rows = c.self.inside.rows.items in
    let at = c.in_ok-at.at in
    let here = c.in_ok-at.ensures in
    let means = parent-means s n at rows here (one_of s rows c.self.inside.kept.items c.self.inside.next n c.self.invariant.sound) in
    let is : None ≡ parent_row_of rows at = c.in_err-above.ensures.answer in
    let none : parent_of n (visits (map (node_of s) rows)) ≡ None = means ∙ ap (number_at s rows) (sym is) in
    ap (option_map (λ (r : NodeId × ℕ). (r.0.number, r.1))) c.from_residual-in_err-above.ensures
    ∙ sym (ap (with_place (visits (map (node_of s) rows)) n) none) ∙ ap (λ (k : Keeping). standing n k.forest.nodes) c.self.view_is

pub place_of-place-requires-clause-inside : goal.place_of-place-requires-clause-inside
place_of-place-requires-clause-inside c =
    let rows = c.self.inside.rows.items in
    let here = c.in_ok-at.ensures in
    let above = c.in_ok-above.above in
    let i = above-inside rows above c.in_ok-at.at here.within (above-is rows above c.in_ok-at.at here.within (c.in_ok-above.ensures.answer)) in
    i

pub place_of-place-requires-clause-child : goal.place_of-place-requires-clause-child
place_of-place-requires-clause-child c =
    let rows = c.self.inside.rows.items in
    let here = c.in_ok-at.ensures in
    let above = c.in_ok-above.above in
    let i = child-depth rows above c.in_ok-at.at here.within c.self.invariant.sound.steps (above-is rows above c.in_ok-at.at here.within (c.in_ok-above.ensures.answer)) in
    i

pub returns : goal.returns
returns c =
    let n = c.args.node.number in
    let s = c.self.inside.slots in
    let rows = c.self.inside.rows.items in
    let at = c.in_ok-at.at in
    let above = c.in_ok-above.above in
    let here = c.in_ok-at.ensures in
    let within : above < length rows = omega (arith, here.within, c.in_ok-above.ensures.within) in
    let row = c.at-key.ensures in
    let number : c.number_of-number.result ≡ number_in (get s (get_or rows above no_row).key) = c.number_of-number.ensures ∙ ap (λ (r : Row). number_in (get s r.key)) row in
    let place : c.place_of-place.result ≡ kin_before s rows above at = c.place_of-place.ensures in
    let means = standing-means s rows c.self.inside.kept.items c.self.inside.next n above at c.self.invariant.sound here (c.in_ok-above.ensures.answer) in
    let pair : ℕ → ℕ → Option (ℕ × ℕ) = λ a b. Some (a, b) in
    ap (λ a. pair a c.place_of-place.result) number ∙ ap (pair (number_in (get s (get_or rows above no_row).key))) place ∙ sym means ∙ ap (λ (k : Keeping). standing n k.forest.nodes) c.self.view_is
