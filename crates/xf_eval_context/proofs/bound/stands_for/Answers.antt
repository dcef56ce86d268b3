use Rattle.std.proofs.Common.{◌≡◌, [], ◌∷◌, inl, inr, Some, ap, sym, ◌∙◌}
use Rattle.xf_def_forest.specs.Visit.{first_of, parent_of, visits}
use Rattle.xf_eval_context.specs.Nested.StandIns.{stand_ins_of}
use Rattle.xf_eval_context.proofs.NestedLemmas.StandInLaws.{stand-attribute, stand-element, stand-root, stand-text}
use Rattle.xf_eval_context.proofs.FirstLaws.{first-listed}
use Rattle.xf_eval_context.proofs.AroundLaws.{children-axis}
use Rattle.xf_eval_context.proofs.bound.stands_for.Goals as goal

pub returns-in-Root : goal.returns-in-Root
returns-in-Root c =
    let nodes = c.args.forest.now.forest.nodes in
    let n = c.args.node.number in
    c.first_child.ensures ∙ ap first_of (sym (children-axis n nodes c.requires) ∙ sym (stand-root n nodes c.in-Root.ensures))

pub returns-in-Text : goal.returns-in-Text
returns-in-Text c =
    let nodes = c.args.forest.now.forest.nodes in
    let n = c.args.node.number in
    c.parent.ensures ∙ sym (first-listed (parent_of n (visits nodes))) ∙ ap first_of (sym (stand-text n nodes c.in-Text.ensures))

pub returns-in-Element : goal.returns-in-Element
returns-in-Element c =
    let n = c.args.node.number in
    let nodes = c.args.forest.now.forest.nodes in
    let stands : stand_ins_of (visits nodes) n ≡ n ∷ [] = elim c.in-Element.is [
      | inl e ↦ stand-element n nodes (ap Some (sym e) ∙ c.kind.ensures)
      | inr e ↦ stand-attribute n nodes (ap Some (sym e) ∙ c.kind.ensures)
    ] in
    ap first_of (sym stands)
