use Rattle.std.proofs.Common.{◌≡◌, [], ◌∷◌, inl, inr, Some, option_map, ap, sym, ◌∙◌}
use Rattle.xf_name.specs.declared.axis.Axis.TheVariants.{Child}
use Rattle.xf_def_forest.specs.Axis.{axis_of}
use Rattle.xf_def_forest.specs.Visit.{first_of, parent_of, visits}
use Rattle.xf_def_forest.proofs.LiveLaws.{axis-all_live}
use Rattle.xf_eval_context.specs.Nested.StandIns.{stand_ins_of}
use Rattle.xf_eval_context.proofs.NestedLemmas.StandInLaws.{stand-attribute, stand-element, stand-root, stand-text}
use Rattle.xf_controls.specs.Seen.{number}
use Rattle.xf_controls.proofs.NodeLaws.{first-listed, live-first, live-parent, there}
use Rattle.xf_controls.proofs.binding.stands_for.Goals as goal

pub returns-in-Root-clause-value : goal.returns-in-Root-clause-value
returns-in-Root-clause-value c = c.first_child.ensures ∙ ap first_of (sym (stand-root c.args.node.number c.args.forest.now.forest.nodes c.in-Root.ensures))

pub returns-in-Root-clause-live : goal.returns-in-Root-clause-live
returns-in-Root-clause-live c =
    let nodes = c.args.forest.now.forest.nodes in
    let n = c.args.node.number in
    there (option_map number c.first_child.result) (first_of (axis_of Child n (visits nodes))) nodes c.first_child.ensures (live-first (axis_of Child n (visits nodes)) nodes (axis-all_live Child n nodes))

pub returns-in-Text-clause-value : goal.returns-in-Text-clause-value
returns-in-Text-clause-value c =
    let nodes = c.args.forest.now.forest.nodes in
    let n = c.args.node.number in
    c.parent.ensures ∙ sym (first-listed (parent_of n (visits nodes))) ∙ ap first_of (sym (stand-text n nodes c.in-Text.ensures))

pub returns-in-Text-clause-live : goal.returns-in-Text-clause-live
returns-in-Text-clause-live c =
    let nodes = c.args.forest.now.forest.nodes in
    let n = c.args.node.number in
    there (option_map number c.parent.result) (parent_of n (visits nodes)) nodes c.parent.ensures (live-parent n nodes)

pub returns-in-Element-clause-value : goal.returns-in-Element-clause-value
returns-in-Element-clause-value c =
    let n = c.args.node.number in
    let nodes = c.args.forest.now.forest.nodes in
    let stands : stand_ins_of (visits nodes) n ≡ n ∷ [] = elim c.in-Element.is [
      | inl e ↦ stand-element n nodes (ap Some (sym e) ∙ c.kind.ensures)
      | inr e ↦ stand-attribute n nodes (ap Some (sym e) ∙ c.kind.ensures)
    ] in
    ap first_of (sym stands)
