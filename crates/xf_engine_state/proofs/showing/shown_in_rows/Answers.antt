use Rattle.std.proofs.Common.{◌≡◌, List, map, None, Err, sym, ◌∙◌, subst, ◌⊎◌}
use Rattle.xf_def_xpath.specs.declared.fault.EvalFault.TheVariants as eval
use Rattle.xf_def_ui.specs.Index.{named_indexes}
use Rattle.xf_def_ui.specs.Interface.{interface_of}
use Rattle.xf_def_machine.specs.Update as update
use Rattle.xf_controls.specs.declared.copy.ControlCopy.{ControlCopy}
use Rattle.xf_controls.specs.Seen.{seen_copy}
use Rattle.xf_def_form.specs.Formed.{profile}
use Rattle.xf_engine_state.specs.Does.{Finds}
use Rattle.xf_engine_state.specs.Parts.{chosen_of, standing_of}
use Rattle.xf_engine_state.specs.Standing.{state_of}
use Rattle.xf_engine_state.proofs.ShownLaws.{context-listed, list-found, told-found}
use Rattle.xf_engine_state.proofs.showing.shown_in_rows.Goals as goal

pub returns-in-Ok : goal.returns-in-Ok
returns-in-Ok c = λ flags controls tally many.
    let l = c.args.loaded.now in
    let forest = c.args.forest.now.forest in
    let chosen = chosen_of c.args.choice.indexes.now c.args.choice.cases.now in
    list-found chosen l c.requires.loaded forest c.args.table.now flags controls tally many c.in-Ok.list c.within.result
    (sym (context-listed chosen l c.requires.loaded forest c.args.table.now flags controls tally many (named_indexes (interface_of l.form) chosen.indexes)) ∙ c.in-Ok.ensures) c.within.ensures

pub returns-in-Err : goal.returns-in-Err
returns-in-Err c = λ flags controls tally many.
    let l = c.args.loaded.now in
    let forest = c.args.forest.now.forest in
    let chosen = chosen_of c.args.choice.indexes.now c.args.choice.cases.now in
    let fault = c.in-Err.fault in
    subst (λ e. Finds {X = List ControlCopy} (map seen_copy) (Err e) (update.shown profile (state_of (standing_of chosen l forest c.args.table.now flags controls tally)))) (sym c.told.ensures)
    (told-found chosen l c.requires.loaded forest c.args.table.now flags controls tally many fault
    (subst (λ given. (fault ≡ eval.Memory) ⊎ ((fault ≡ eval.Long) × (given ≡ None))) (context-listed chosen l c.requires.loaded forest c.args.table.now flags controls tally many (named_indexes (interface_of l.form) chosen.indexes)) c.in-Err.ensures))
