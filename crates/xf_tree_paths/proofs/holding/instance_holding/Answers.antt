use Rattle.std.proofs.Common.{sym, ap, ◌∙◌}
use Rattle.xf_def_forest.specs.Order.{instance_of}
use Rattle.xf_def_machine.specs.StateText.{is_place}
use Rattle.xf_tree_paths.proofs.RootLaws.{none-else, one-more, root-other, root-placed}
use Rattle.xf_tree_paths.proofs.holding.instance_holding.Goals as goal

pub returns-in-None : goal.returns-in-None
returns-in-None c =
    let nodes = c.args.forest.now.forest.nodes in
    λ place within. ap (λ m. is_place place (instance_of m nodes)) (sym c.top-top.ensures)
    ∙ none-else c.loop-place.place c.top-top.result.number nodes c.loop-place.invariant (sym c.in-None.ensures) place

pub returns-then-root-top : goal.returns-then-root-top
returns-then-root-top c =
    let nodes = c.args.forest.now.forest.nodes in (
      c.loop-place-test.true,
      ap (λ n. instance_of n nodes) (sym c.top-top.ensures)
          ∙ root-placed c.loop-place.place c.top-top.result.number c.in-Some.root.number nodes c.are_trees.ensures.apart (sym c.in-Some.ensures) c.if-root-top.true,
    )

pub loop-place-preserved : goal.loop-place-preserved
loop-place-preserved c =
    let nodes = c.args.forest.now.forest.nodes in
    one-more c.loop-place.place c.top-top.result.number nodes c.loop-place.invariant
    (root-other c.loop-place.place c.top-top.result.number c.in-Some.root.number nodes c.are_trees.ensures.apart (sym c.in-Some.ensures) c.if-root-top.false)
