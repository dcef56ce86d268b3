use Rattle.std.proofs.Common.{◌≡◌, Some, List, map, sym, ap, ◌∙◌, subst}
use Rattle.std.specs.Prelude.{IfOk}
use Rattle.xf_def_forest.specs.declared.content.Node.{Node}
use Rattle.xf_def_forest.specs.Literal.{bare_part, gathered, first_tree_in}
use Rattle.xf_tree_walks.specs.Nodes.{node_of}
use Rattle.xf_tree_literals.specs.Print.{IsPrintable}
use Rattle.xf_tree.proofs.PrintLemmas.{tree-here, printable-first, nothing-here}
use Rattle.xf_tree.proofs.forest.Forest.to_bare.Goals as goal

pub bare_of_rows-requires : goal.bare_of_rows-requires
bare_of_rows-requires c =
    let tree = ap (map (node_of c.self.inside.slots)) c.slice.ensures ∙ tree-here c.self.inside.slots c.args.node.number c.in-Some.at c.end_of-end.result c.self.inside.next c.self.inside.kept.items c.self.inside.rows.items _ c.self.invariant.sound c.self.view_is c.in-Some.ensures c.end_of-end.ensures.answer in
    subst IsPrintable (sym tree) (printable-first c.args.node.number c.args.self.now.forest.nodes c.requires)

pub returns-in-Some : goal.returns-in-Some
returns-in-Some c =
    let tree = ap (map (node_of c.self.inside.slots)) c.slice.ensures ∙ tree-here c.self.inside.slots c.args.node.number c.in-Some.at c.end_of-end.result c.self.inside.next c.self.inside.kept.items c.self.inside.rows.items _ c.self.invariant.sound c.self.view_is c.in-Some.ensures c.end_of-end.ensures.answer in
    subst (λ (l : List Node). IfOk c.bare_of_rows.result (λ tree. Some tree ≡ first_tree_in (gathered bare_part l))) tree c.bare_of_rows.ensures

pub returns-in-None : goal.returns-in-None
returns-in-None c =
    absurd (nothing-here c.self.inside.slots c.args.node.number c.self.inside.next c.self.inside.kept.items c.self.inside.rows.items _ c.self.view_is c.in-None.ensures c.requires)
