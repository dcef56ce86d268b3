use Rattle.std.proofs.Common.{◌≡◌, List, map, None, Err, sym, ap, ◌∙◌, subst, ◌⊎◌}
use Rattle.xf_def_xpath.specs.declared.fault.EvalFault.TheVariants as eval
use Rattle.xf_def_ui.specs.Interface.{interface_of}
use Rattle.xf_def_machine.specs.Update as update
use Rattle.xf_controls.specs.declared.copy.ControlCopy.{ControlCopy}
use Rattle.xf_controls.specs.Known.{AreKnown}
use Rattle.xf_controls.specs.Seen.{seen_copy}
use Rattle.xf_controls.specs.Surrounded.{around_in}
use Rattle.xf_engine_state.specs.Around.{given_by, given_in, numbers_of}
use Rattle.xf_def_form.specs.Formed.{profile}
use Rattle.xf_engine_state.specs.Does.{Finds}
use Rattle.xf_engine_state.specs.Parts.{standing_of}
use Rattle.xf_engine_state.specs.Standing.{state_of}
use Rattle.xf_engine_state.proofs.AroundLaws.{around-stands}
use Rattle.xf_engine_state.proofs.FoundLaws.{given-found}
use Rattle.xf_engine_state.proofs.ShownLaws.{listed-same, list-found, told-found}
use Rattle.xf_engine_state.proofs.showing.shown.Goals.{After-controls}
use Rattle.xf_engine_state.proofs.showing.shown.Goals as goal

-- what surrounds the controls
given-is : (c : After-controls) → given_by c.as_slice-instances.result.now c.args.loaded.now.prefixes c.args.loaded.now.form.decimals (numbers_of c.as_slice.result.now) ≡ given_in c.args.loaded.now.form.tables.instances c.args.loaded.now.prefixes c.args.loaded.now.form.decimals c.args.forest.now.forest
given-is c =
    given-found c.args.loaded.now.form.tables.instances c.as_slice-instances.result.now c.args.loaded.now.prefixes c.args.loaded.now.form.decimals c.args.forest.now.forest (numbers_of c.as_slice.result.now) c.as_slice-instances.ensures
    (ap numbers_of c.as_slice.ensures.value ∙ c.in_ok-documents.ensures.all)

pub controls-requires-clause-around : goal.controls-requires-clause-around
controls-requires-clause-around c =
    around-stands c.as_slice-instances.result.now c.args.loaded.now.prefixes c.args.loaded.now.form.decimals c.args.forest.now.forest.nodes (numbers_of c.as_slice.result.now) (ap numbers_of c.as_slice.ensures.value ∙ c.in_ok-documents.ensures.all)

pub controls-requires-clause-known : goal.controls-requires-clause-known
controls-requires-clause-known c =
    let l = c.args.loaded.now in
    let forest = c.args.forest.now.forest in
    subst (λ g. AreKnown (interface_of l.form) (around_in g l.form.tables forest.nodes) forest.nodes c.args.known.now)
    (sym (given-found l.form.tables.instances c.as_slice-instances.result.now l.prefixes l.form.decimals forest (numbers_of c.as_slice.result.now) c.as_slice-instances.ensures
    (ap numbers_of c.as_slice.ensures.value ∙ c.in_ok-documents.ensures.all)))
    c.requires.known

pub returns-in-Ok : goal.returns-in-Ok
returns-in-Ok c = λ chosen flags controls tally many.
    let l = c.args.loaded.now in
    let forest = c.args.forest.now.forest in
    list-found chosen l c.requires.loaded forest c.args.table.now flags controls tally many c.in-Ok.list c.within.result
    (sym (listed-same chosen l c.requires.loaded forest c.args.table.now flags controls tally many _ (given-is (goal.at.returns-in-Ok c).After-controls)) ∙ c.in-Ok.ensures chosen.cases chosen.indexes) c.within.ensures

pub returns : goal.returns
returns c = λ chosen flags controls tally many.
    let l = c.args.loaded.now in
    let forest = c.args.forest.now.forest in
    let fault = c.in-Err.fault in
    subst (λ e. Finds {X = List ControlCopy} (map seen_copy) (Err e) (update.shown profile (state_of (standing_of chosen l forest c.args.table.now flags controls tally)))) (sym c.told.ensures)
    (told-found chosen l c.requires.loaded forest c.args.table.now flags controls tally many fault
    (subst (λ given. (fault ≡ eval.Memory) ⊎ ((fault ≡ eval.Long) × (given ≡ None))) (listed-same chosen l c.requires.loaded forest c.args.table.now flags controls tally many _ (given-is (goal.at.returns c).After-controls))
    (c.in-Err.ensures chosen.cases chosen.indexes)))
