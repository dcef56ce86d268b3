use Rattle.std.proofs.Common.{◌==◌, Bool, sym, ap, ◌∙◌}
use Rattle.xf_def_forest.specs.declared.content.Node.{Node}
use Rattle.xf_def_forest.specs.Needs.{is_top}
use Rattle.xf_def_forest.specs.Texts.{Keeping}
use Rattle.xf_tree_rows.specs.declared.rows.Row.{Row}
use Rattle.xf_tree.proofs.NamedLemmas.{named-at, named-none}
use Rattle.xf_tree.proofs.forest.Forest.is_top.Goals as goal

pub returns-in-Some : goal.returns-in-Some
returns-in-Some c =
    let n = c.args.node.number in
    let s = c.self.inside.slots in
    let rows = c.self.inside.rows.items in
    let at = c.in-Some.at in
    let here = c.in-Some.ensures in
    let row = c.at.ensures in
    let test : Node → Bool = λ x. x.depth == 0 in
    ap (λ (r : Row). r.depth == 0) row ∙ sym (named-at test s n at rows c.self.inside.kept.items c.self.inside.next c.self.invariant.sound here)
    ∙ ap (λ (k : Keeping). is_top n k.forest.nodes) c.self.view_is

pub returns-in-None : goal.returns-in-None
returns-in-None c =
    let n = c.args.node.number in
    let s = c.self.inside.slots in
    let absent = c.in-None.ensures in
    let test : Node → Bool = λ x. x.depth == 0 in
    sym (named-none n test _ absent) ∙ ap (λ (k : Keeping). is_top n k.forest.nodes) c.self.view_is
