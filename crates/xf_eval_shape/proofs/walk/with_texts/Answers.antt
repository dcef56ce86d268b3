use Rattle.std.proofs.Common.{List, ℕ, ◌++◌, map, sym, ap, ◌∙◌}
use Rattle.xf_def_forest.specs.declared.node.NodeId.{NodeId}
use Rattle.xf_def_forest.specs.Forest.{has_number}
use Rattle.xf_def_forest.proofs.LiveLaws.{axis-all_live}
use Rattle.xf_name.specs.declared.axis.Axis.TheVariants.{DescendantOrSelf}
use Rattle.xf_eval_shape.proofs.Reached.{all-behind}
use Rattle.xf_eval.proofs.Lives.{live-is}
use Rattle.xf_eval_shape.proofs.walk.with_texts.Goals as goal

pub push_piece-requires : goal.push_piece-requires
push_piece-requires c =
    let nodes = c.args.forest.now.forest.nodes in
    let numbers : List ℕ = map (λ (i : NodeId). i.number) c.loop-other.yielded in
    all-behind (λ k. has_number k nodes) numbers _ c.in-Some.other.number
    (live-is nodes (ap (λ l. numbers ++ l) (sym c.in-Some.ensures.steps) ∙ c.loop-other.invariant.whole ∙ c.into_iter-other-iterator.ensures.into_iter_gives ∙ c.axis-other-items.ensures) (axis-all_live DescendantOrSelf c.args.node.number nodes))
