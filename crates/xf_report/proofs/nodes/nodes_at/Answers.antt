use Rattle.std.proofs.Common.{◌≡◌, ℕ, List, sym, subst, ◌∙◌}
use Rattle.std.specs.Prelude.{IfOk}
use Rattle.xf_def_forest.proofs.LiveLaws.{root-live}
use Rattle.xf_def_forest.proofs.TextLaws.{in_forest}
use Rattle.xf_report.proofs.NodeLaws.{nodes-are, nodes-none}
use Rattle.xf_report.proofs.nodes.nodes_at.Goals as goal

pub nodes_under-requires : goal.nodes_under-requires
nodes_under-requires c = root-live c.args.place c.in-Some.root.number c.args.forest.now.forest.nodes (sym c.in-Some.ensures)

pub returns-in-Some : goal.returns-in-Some
returns-in-Some c =
    let P : List ℕ → Type 0 = λ l. IfOk c.nodes_under.result (λ ns. ns ≡ l) in
    subst P (sym (nodes-are c.args.forest.now.forest (in_forest c.are_trees.ensures) c.args.place c.in-Some.root.number (sym c.in-Some.ensures))) c.nodes_under.ensures

pub returns-in-None : goal.returns-in-None
returns-in-None c = c.new.ensures ∙ sym (nodes-none c.args.forest.now.forest c.args.place (sym c.in-None.ensures))
