use Rattle.std.proofs.Common.{sym, ap, ◌∙◌, subst}
use Rattle.xf_def_forest.proofs.TextLaws.{in_forest}
use Rattle.xf_def_ui.specs.Interface.{interface_of}
use Rattle.xf_controls.specs.Known.{AreHeld}
use Rattle.xf_controls.specs.Surrounded.{around_in}
use Rattle.xf_engine_state.specs.Around.{numbers_of}
use Rattle.xf_engine_state.proofs.AroundLaws.{around-stands}
use Rattle.xf_engine_state.proofs.FoundLaws.{given-found}
use Rattle.xf_engine_state.proofs.HeldLaws.{held-nothing, held-over, none-there}
use Rattle.xf_engine_state.proofs.holding.held.Goals as goal

pub known_nodes-requires-clause-around : goal.known_nodes-requires-clause-around
known_nodes-requires-clause-around c =
    around-stands c.as_slice-instances.result.now c.args.loaded.now.prefixes c.args.loaded.now.form.decimals c.args.forest.now.forest.nodes (numbers_of c.as_slice.result.now) (ap numbers_of c.as_slice.ensures.value ∙ c.in_ok-documents.ensures.all)

pub returns-in-Ok : goal.returns-in-Ok
returns-in-Ok c =
    let l = c.args.loaded.now in
    let forest = c.args.forest.now.forest in
    held-over l forest c.in-Ok.known (in_forest c.are_trees.ensures) c.requires.hung c.requires.shape (none-there c.root.result _ c.root.ensures (sym c.is_some.ensures ∙ c.if-is_some.false))
    (subst (λ g. AreHeld (interface_of l.form) (around_in g l.form.tables forest.nodes) c.in-Ok.known)
    (given-found l.form.tables.instances c.as_slice-instances.result.now l.prefixes l.form.decimals forest (numbers_of c.as_slice.result.now) c.as_slice-instances.ensures
    (ap numbers_of c.as_slice.ensures.value ∙ c.in_ok-documents.ensures.all)) c.in-Ok.ensures)

pub returns-in-Err-Long : goal.returns-in-Err-Long
returns-in-Err-Long c = held-nothing c.args.loaded.now c.args.forest.now.forest c.new-in-Err-Long.result c.requires.shape (none-there c.root.result _ c.root.ensures (sym c.is_some.ensures ∙ c.if-is_some.false)) c.new-in-Err-Long.ensures

pub returns-then-not-is_plain : goal.returns-then-not-is_plain
returns-then-not-is_plain c = held-nothing c.args.loaded.now c.args.forest.now.forest c.new.result c.requires.shape (none-there c.root.result _ c.root.ensures (sym c.is_some.ensures ∙ c.if-is_some.false)) c.new.ensures
