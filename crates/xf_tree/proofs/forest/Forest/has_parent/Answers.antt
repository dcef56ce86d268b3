use Rattle.std.proofs.Common.{◌≡◌, ℕ, map, Option, Some, None, refl, sym, ap, ◌∙◌}
use Rattle.std.specs.Prelude.{is_some}
use Rattle.xf_def_forest.specs.Texts.{Keeping}
use Rattle.xf_def_forest.specs.Visit.{visits, parent_of}
use Rattle.xf_tree_rows.specs.Rows.{parent_row_of}
use Rattle.xf_tree_walks.specs.Nodes.{node_of, number_at}
use Rattle.xf_tree_walks.proofs.StackLemmas.{absent-parent}
use Rattle.xf_tree_walks.proofs.ParentLemmas.{parent-means}
use Rattle.xf_tree.proofs.MeansLemmas.{one_of}
use Rattle.xf_tree.proofs.forest.Forest.has_parent.Goals as goal

pub returns-in-Some : goal.returns-in-Some
returns-in-Some c =
    let n = c.args.node.number in
    let s = c.self.inside.slots in
    let rows = c.self.inside.rows.items in
    let at = c.in-Some.at in
    let here = c.in-Some.ensures in
    let means = parent-means s n at rows here (one_of s rows c.self.inside.kept.items c.self.inside.next n c.self.invariant.sound) in
    let is : c.parent_row.result ≡ parent_row_of rows at = c.parent_row.ensures.answer in
    c.is_some.ensures ∙ ap is_some is ∙ there (parent_row_of rows at) ∙ ap is_some (sym means) ∙ ap (λ (k : Keeping). is_some (parent_of n (visits k.forest.nodes))) c.self.view_is
  where
    there : (o : Option ℕ) → is_some o ≡ is_some (number_at c.self.inside.slots c.self.inside.rows.items o)
    there None = refl
    there (Some at) = refl

pub returns-in-None : goal.returns-in-None
returns-in-None c =
    let n = c.args.node.number in
    let s = c.self.inside.slots in
    let rows = c.self.inside.rows.items in
    let absent = c.in-None.ensures in
    ap is_some (sym (absent-parent n (map (node_of s) rows) absent)) ∙ ap (λ (k : Keeping). is_some (parent_of n (visits k.forest.nodes))) c.self.view_is
