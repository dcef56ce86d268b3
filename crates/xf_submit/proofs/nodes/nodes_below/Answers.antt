use Rattle.std.proofs.Common.{◌≡◌, ℕ, List, subst}
use Rattle.std.specs.Prelude.{IfOk}
use Rattle.xf_def_forest.proofs.TextLaws.{in_forest}
use Rattle.xf_submit.proofs.BelowLaws.{below-are}
use Rattle.xf_submit.proofs.nodes.nodes_below.Goals as goal

pub returns : goal.returns
returns c =
    let P : List ℕ → Type 0 = λ l. IfOk c.listed_below.result (λ ns. ns ≡ l) in
    subst P (below-are c.args.forest.now.forest (in_forest c.are_trees.ensures) c.args.node.number c.requires) c.listed_below.ensures
