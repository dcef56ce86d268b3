use Rattle.std.proofs.Common.{◌≡◌, ℕ, ◌<◌, List, length, map, get_or, Option, Some, None, false, sym, ap, ◌∙◌, arith}
use Rattle.std.specs.Prelude.{is_some}
use Rattle.std.proofs.lemmas.Bool.{false≢true}
use Rattle.slab.specs.Slab.{get}
use Rattle.xf_def_forest.specs.declared.content.Node.{Node}
use Rattle.xf_def_forest.specs.Forest.{has_number}
use Rattle.xf_def_forest.specs.Changes.{detached, standing}
use Rattle.xf_def_forest.specs.Texts.{Keeping}
use Rattle.xf_def_forest.specs.Visit.{visits, parent_of}
use Rattle.xf_tree_rows.specs.declared.rows.Row.{Row}
use Rattle.xf_tree_rows.specs.Rows.{parent_row_of, no_row}
use Rattle.xf_tree_contents.specs.Keys.{kept_of, number_in}
use Rattle.xf_tree_walks.specs.Nodes.{node_of, number_at, kin_before}
use Rattle.xf_tree_walks.proofs.StackLemmas.{absent-parent}
use Rattle.xf_tree_walks.proofs.ParentLemmas.{parent-means}
use Rattle.xf_tree_walks.proofs.AboveLemmas.{above-is, above-inside, child-depth}
use Rattle.xf_tree.proofs.MeansLemmas.{one_of}
use Rattle.xf_tree.proofs.AboveLemmas.{standing-means}
use Rattle.xf_tree.proofs.ForestLemmas.{cut-means}
use Rattle.xf_tree.proofs.StateLemmas.{cut-state}
use Rattle.xf_tree.proofs.forest.Forest.detach.Goals.{In_default, In_default-parent_row}
use Rattle.xf_tree.proofs.forest.Forest.detach.Goals as goal

nowhere : (c : In_default) → ⊥
nowhere c =
    let n = c.args.node.number in
    let s = c.self.inside.slots in
    let rows = c.self.inside.rows.items in
    let absent : has_number n (map (node_of s) rows) ≡ false = c.in_default.ensures in
    let none = absent-parent n (map (node_of s) rows) absent in
    false≢true (ap is_some (sym none ∙ ap (λ (k : Keeping). parent_of n (visits k.forest.nodes)) c.self.view_is) ∙ c.requires.below)

pub returns-in_default-clause-moved : goal.returns-in_default-clause-moved
returns-in_default-clause-moved c = absurd (nowhere c)

pub returns-in_default-clause-stood : goal.returns-in_default-clause-stood
returns-in_default-clause-stood c = absurd (nowhere c)

topmost : (c : In_default-parent_row) → ⊥
topmost c =
    let n = c.args.node.number in
    let s = c.self.inside.slots in
    let rows = c.self.inside.rows.items in
    let at = c.in-Some.at in
    let here = c.in-Some.ensures in
    let means = parent-means s n at rows here (one_of s rows c.self.inside.kept.items c.self.inside.next n c.self.invariant.sound) in
    let is : None ≡ parent_row_of rows at = c.in_default-parent_row.ensures.answer in
    let none : parent_of n (visits (map (node_of s) rows)) ≡ None = means ∙ ap (number_at s rows) (sym is) in
    false≢true (ap is_some (sym none ∙ ap (λ (k : Keeping). parent_of n (visits k.forest.nodes)) c.self.view_is) ∙ c.requires.below)

pub returns-in_default-parent_row-clause-moved : goal.returns-in_default-parent_row-clause-moved
returns-in_default-parent_row-clause-moved c = absurd (topmost c)

pub returns-in_default-parent_row-clause-stood : goal.returns-in_default-parent_row-clause-stood
returns-in_default-parent_row-clause-stood c = absurd (topmost c)

pub place_of-place-requires-clause-inside : goal.place_of-place-requires-clause-inside
place_of-place-requires-clause-inside c =
    let rows = c.self.inside.rows.items in
    let here = c.in-Some.ensures in
    let above = c.in-Some-parent_row.above in
    let i = above-inside rows above c.in-Some.at here.within (above-is rows above c.in-Some.at here.within (c.in-Some-parent_row.ensures.answer)) in
    i

pub place_of-place-requires-clause-child : goal.place_of-place-requires-clause-child
place_of-place-requires-clause-child c =
    let rows = c.self.inside.rows.items in
    let here = c.in-Some.ensures in
    let above = c.in-Some-parent_row.above in
    let i = child-depth rows above c.in-Some.at here.within c.self.invariant.sound.steps (above-is rows above c.in-Some.at here.within (c.in-Some-parent_row.ensures.answer)) in
    i

pub invariant_of-self : goal.invariant_of-self
invariant_of-self c =
    let here = c.in-Some.ensures in
    cut-state c.self.inside.slots c.in-Some.at c.self.inside.next c.self.inside.count c.self.inside.bytes _ _ c.self.inside.kept.items c.self.inside.rows.items c.cut.new.rows.items
    c.self.invariant here.within c.cut.ensures.sized c.cut.ensures.answer c.cut.ensures.room

pub returns-clause-moved : goal.returns-clause-moved
returns-clause-moved c =
    let n = c.args.node.number in
    let s = c.self.inside.slots in
    let rows = c.self.inside.rows.items in
    let here = c.in-Some.ensures in
    let e = cut-means s n c.in-Some.at rows c.cut.new.rows.items here (one_of s rows c.self.inside.kept.items c.self.inside.next n c.self.invariant.sound) c.cut.ensures.answer in
    let whole : List Node → Keeping = λ l. record { forest = record { nodes = l; next = c.self.inside.next }; kept = map (kept_of s) c.self.inside.kept.items } in
    ap whole e ∙ ap (λ (k : Keeping). record k { forest = detached n k.forest }) c.self.view_is

pub returns-clause-stood : goal.returns-clause-stood
returns-clause-stood c =
    let n = c.args.node.number in
    let s = c.self.inside.slots in
    let rows = c.self.inside.rows.items in
    let at = c.in-Some.at in
    let above = c.in-Some-parent_row.above in
    let here = c.in-Some.ensures in
    let within : above < length rows = omega (arith, here.within, c.in-Some-parent_row.ensures.within) in
    let row = c.at-key.ensures in
    let number : c.number_of-number.result ≡ number_in (get s (get_or rows above no_row).key) = c.number_of-number.ensures ∙ ap (λ (r : Row). number_in (get s r.key)) row in
    let place : c.place_of-place.result ≡ kin_before s rows above at = c.place_of-place.ensures in
    let means = standing-means s rows c.self.inside.kept.items c.self.inside.next n above at c.self.invariant.sound here (c.in-Some-parent_row.ensures.answer) in
    let pair : ℕ → ℕ → Option (ℕ × ℕ) = λ a b. Some (a, b) in
    ap (λ a. pair a c.place_of-place.result) number ∙ ap (pair (number_in (get s (get_or rows above no_row).key))) place ∙ sym means ∙ ap (λ (k : Keeping). standing n k.forest.nodes) c.self.view_is
