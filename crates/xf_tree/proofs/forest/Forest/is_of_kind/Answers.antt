use Rattle.std.proofs.Common.{◌≡◌, map, Some, None, option_map, sym, ap, ◌∙◌, subst}
use Rattle.std.proofs.lemmas.Bool.{false≢true}
use denote.Enum.Bare.{same_true, true_same}
use Rattle.slab.specs.Slab.{get}
use Rattle.xf_def_forest.specs.declared.content.Kind.{Kind}
use Rattle.xf_def_forest.specs.contracts.content.Kind.{the_type}
use Rattle.xf_def_forest.specs.Forest.{kind_of, kind_at}
use Rattle.xf_def_forest.specs.Texts.{Keeping}
use Rattle.xf_tree_rows.specs.declared.rows.Row.{Row}
use Rattle.xf_tree_contents.specs.Keys.{content_in}
use Rattle.xf_tree_walks.specs.Nodes.{node_of}
use Rattle.xf_tree.proofs.NamedLemmas.{kind-none}
use Rattle.xf_tree.proofs.MeansLemmas.{content-means}
use Rattle.xf_tree.proofs.forest.Forest.is_of_kind.Goals as goal

one-kind : (a b : Kind) → Some a ≡ Some b → a ≡ b
one-kind a b e = cc

no-kind : (a : Kind) → None ≡ Some a → ⊥
no-kind a e = cc

pub returns-in-Some : goal.returns-in-Some
returns-in-Some c =
    let n = c.args.node.number in
    let s = c.self.inside.slots in
    let rows = c.self.inside.rows.items in
    let at = c.in-Some.at in
    let here = c.in-Some.ensures in
    let row = c.at.ensures in
    let means = ap (option_map kind_of) (content-means s n at rows c.self.inside.kept.items c.self.inside.next c.self.invariant.sound here) in
    let is : Some c.kind.result ≡ kind_at n c.args.self.now.forest.nodes =
    ap Some (c.kind.ensures ∙ ap (λ (r : Row). kind_of (content_in (get s r.key))) row) ∙ sym means ∙ ap (λ (k : Keeping). kind_at n k.forest.nodes) c.self.view_is in (
      λ e. sym is ∙ ap Some (same_true the_type tt c.kind.result c.args.wanted (sym c.eq.ensures ∙ e)),
      λ e. c.eq.ensures ∙ true_same the_type c.kind.result c.args.wanted (one-kind c.kind.result c.args.wanted (is ∙ e)),
    )

pub returns-in-None : goal.returns-in-None
returns-in-None c =
    let n = c.args.node.number in
    let s = c.self.inside.slots in
    let rows = c.self.inside.rows.items in
    let absent = c.in-None.ensures in
    let none = subst (λ (k : Keeping). kind_at n k.forest.nodes ≡ None) c.self.view_is (kind-none n (map (node_of s) rows) absent) in
    (λ e. absurd (false≢true e), λ e. absurd (no-kind c.args.wanted (sym none ∙ e)))
