use Rattle.std.proofs.Common.{◌≡◌, ℕ, List, Option, sym, ap, ◌∙◌, subst}
use Rattle.std.specs.Prelude.{IfOk}
use Rattle.xf_def_forest.specs.StringValue.{string_value_within}
use Rattle.xf_def_forest.specs.Texts.{Keeping}
use Rattle.xf_def_forest.specs.Visit.{visits}
use Rattle.xf_tree.proofs.MeansLemmas.{within-means}
use Rattle.xf_tree.proofs.forest.Forest.string_value.Goals as goal

pub returns-in-Some : goal.returns-in-Some
returns-in-Some c =
    let n = c.args.node.number in
    let s = c.self.inside.slots in
    let rows = c.self.inside.rows.items in
    let at = c.in-Some.at in
    let here = c.in-Some.ensures in
    let means = within-means s n at c.args.most rows c.self.inside.kept.items c.self.inside.next c.self.invariant.sound here in
    let same = sym means ∙ ap (λ (k : Keeping). string_value_within c.args.most n (visits k.forest.nodes)) c.self.view_is in
    subst (λ (v : Option (List ℕ)). IfOk c.text_at.result (λ t. t ≡ v)) same c.text_at.ensures
