use Rattle.std.proofs.Common.{◌≡◌, List, ℕ, ◌++◌, map, sym, ap, ◌∙◌}
use Rattle.std.specs.List.{list_any}
use Rattle.xf_def_forest.specs.declared.node.NodeId.{NodeId}
use Rattle.xf_def_forest.specs.Axis.{axis_of}
use Rattle.xf_def_forest.specs.Forest.{content_at}
use Rattle.xf_def_forest.specs.Visit.{visits}
use Rattle.xf_name.specs.declared.axis.Axis.TheVariants.{Child}
use Rattle.xf_eval_shape.specs.Spots.{is_element_in}
use Rattle.xf_eval_shape.proofs.Filled.{append-none}
use Rattle.xf_eval_shape.proofs.Reached.{any-here, children-any}
use Rattle.xf_eval_shape.proofs.leaf.has_elements.Goals as goal

pub returns-then-is_element : goal.returns-then-is_element
returns-then-is_element c =
    let f = c.args.forest.now.forest in
    let n = c.args.node.number in
    let numbers : List ℕ = map (λ (i : NodeId). i.number) c.loop-child.yielded in
    let found = sym c.is_element.ensures ∙ c.if-is_element.true in
    sym (
    sym (children-any f c.is_sound.ensures n c.requires)
    ∙ ap (list_any (λ k. is_element_in (content_at k f.nodes))) (sym (ap (λ l. numbers ++ l) (sym c.in-Some.ensures.steps) ∙ c.loop-child.invariant.whole ∙ c.into_iter-child-iterator.ensures.into_iter_gives ∙ c.axis-child-items.ensures))
    ∙ any-here (λ k. is_element_in (content_at k f.nodes)) numbers _ c.in-Some.child.number found)

pub returns : goal.returns
returns c =
    let f = c.args.forest.now.forest in
    let n = c.args.node.number in
    let numbers : List ℕ = map (λ (i : NodeId). i.number) c.loop-child.yielded in
    let all : numbers ≡ axis_of Child n (visits f.nodes) =
    sym (append-none numbers) ∙ ap (λ l. numbers ++ l) (sym c.in-None.ensures.steps.0) ∙ c.loop-child.invariant.whole ∙ c.into_iter-child-iterator.ensures.into_iter_gives ∙ c.axis-child-items.ensures in
    sym (sym (ap (list_any (λ k. is_element_in (content_at k f.nodes))) all ∙ children-any f c.is_sound.ensures n c.requires) ∙ c.loop-child.invariant.none)
