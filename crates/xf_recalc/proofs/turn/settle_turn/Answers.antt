use Rattle.std.proofs.Common.{◌≡◌, true, inl, inr, ap, ◌∙◌}
use Rattle.xf_def_forest.specs.declared.content.Kind.TheVariants.{Attribute, Element}
use Rattle.xf_def_forest.specs.Forest.{has_number}
use Rattle.xf_tree.proofs.ValueLemmas.{kind-live}
use Rattle.xf_recalc.proofs.turn.settle_turn.Goals as goal

pub evaluated_entry-requires-clause-live : goal.evaluated_entry-requires-clause-live
evaluated_entry-requires-clause-live g c =
    let n = c.args.entry.node.number in
    let nodes = c.args.draft.now.now.nodes in
    let live : has_number n nodes ≡ true = elim c.requires.may.kind [ inl h ↦ kind-live n Attribute nodes h | inr h ↦ kind-live n Element nodes h ] in
    ap (λ f. has_number n f.nodes) c.forest.ensures ∙ live
