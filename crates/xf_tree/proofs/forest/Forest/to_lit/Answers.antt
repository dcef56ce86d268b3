use Rattle.std.proofs.Common.{◌≡◌, Some, List, map, sym, ap, ◌∙◌, subst}
use Rattle.std.specs.Prelude.{IfOk}
use Rattle.xf_def_forest.specs.declared.content.Node.{Node}
use Rattle.xf_def_forest.specs.Forest.{tree_of}
use Rattle.xf_def_forest.specs.Literal.{gathered, first_tree_in, printed}
use Rattle.xf_def_forest.specs.Printed.{printing, printed_as}
use Rattle.xf_tree_walks.specs.Nodes.{node_of}
use Rattle.xf_tree_literals.specs.Print.{IsPrintable}
use Rattle.xf_tree_literals.proofs.ShownLemmas.{printed-same}
use Rattle.xf_tree.proofs.PrintLemmas.{tree-here, printable-first, printable-printed, nothing-here}
use Rattle.xf_tree.proofs.forest.Forest.to_lit.Goals.{After-deref}
use Rattle.xf_tree.proofs.forest.Forest.to_lit.Goals as goal

-- the rows that are printed are those of the node's tree
left-here : (c : After-deref) → map (node_of c.self.inside.slots) c.deref.result.now ≡ printed c.args.kept.now (tree_of c.args.node.number c.args.self.now.forest.nodes)
left-here c =
    let s = c.self.inside.slots in
    let tree = ap (map (node_of s)) c.slice.ensures ∙ tree-here c.self.inside.slots c.args.node.number c.in-Some.at c.end_of-end.result c.self.inside.next c.self.inside.kept.items c.self.inside.rows.items _ c.self.invariant.sound c.self.view_is c.in-Some.ensures c.end_of-end.ensures.answer in
    ap (map (node_of s)) c.deref.ensures.value ∙ c.in_ok-left-in-Some.ensures
    ∙ ap (printed c.in_ok-numbers-in-Some.numbers.keys) tree ∙ printed-same c.in_ok-numbers-in-Some.numbers.keys c.args.kept.now (tree_of c.args.node.number c.args.self.now.forest.nodes) c.in_ok-numbers-in-Some.ensures

pub lit_of_rows-requires : goal.lit_of_rows-requires
lit_of_rows-requires c =
    subst IsPrintable (sym (left-here c)) (printable-printed c.args.kept.now _ (printable-first c.args.node.number c.args.self.now.forest.nodes c.requires))

pub returns-in_ok-left-in-Some : goal.returns-in_ok-left-in-Some
returns-in_ok-left-in-Some c =
    let k = (goal.at.returns-in_ok-left-in-Some c).After-deref in
    let b = c.args.prefixes.now in
    subst (λ (l : List Node). IfOk c.lit_of_rows.result (λ lit. Some lit ≡ printed_as b l (first_tree_in (gathered (printing b) l)))) (left-here k) c.lit_of_rows.ensures

pub returns-in-None : goal.returns-in-None
returns-in-None c =
    absurd (nothing-here c.self.inside.slots c.args.node.number c.self.inside.next c.self.inside.kept.items c.self.inside.rows.items _ c.self.view_is c.in-None.ensures c.requires)
