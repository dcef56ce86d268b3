use Rattle.std.proofs.Common.{sym, ap, ◌∙◌}
use Rattle.xf_def_forest.specs.Visit.{visits}
use Rattle.xf_def_forest.proofs.TextLaws.{in_forest}
use Rattle.xf_insert.specs.Placing.{first_named}
use Rattle.xf_insert.proofs.PlaceLaws.{namesake-listed, namesake-none, visited}
use Rattle.xf_insert.proofs.placing.namesake.Goals as goal

pub returns-then-not-is_live : goal.returns-then-not-is_live
returns-then-not-is_live c = sym (namesake-none c.args.parent.number c.args.node.number c.args.forest.now.forest.nodes (sym c.is_live.ensures ∙ c.if-not-is_live.true))

pub returns : goal.returns
returns c =
    let forest = c.args.forest.now.forest in
    let n = c.args.node.number in
    let parent = c.args.parent.number in
    let (y, here) = visited parent forest (sym c.is_live.ensures ∙ c.if-not-is_live.false) in
    c.first_named.ensures ∙ ap (first_named (visits forest.nodes) n) (c.as_slice.ensures ∙ c.in_ok-attributes.ensures)
    ∙ sym (namesake-listed forest parent n y (in_forest c.are_trees.ensures) here)
