use Rattle.std.proofs.Common.{◌≡◌, map, Ok, Err, refl, sym, ap, ◌∙◌, subst}
use Rattle.std.proofs.lemmas.Result.{err_from_is_err_and}
use Rattle.xf_eval_context.specs.Indexes.{seen_index}
use Rattle.xf_def_machine.specs.Construct.{start_indexes}
use Rattle.xf_def_machine.specs.Surround.{interface}
use Rattle.xf_def_form.specs.Formed.{profile}
use Rattle.xf_def_ui.specs.Cases.{first_cases}
use Rattle.xf_engine_state.specs.declared.choosing.FirstChosen.{FirstChosen}
use Rattle.xf_engine_state.specs.Choosing.{HasData}
use Rattle.xf_engine_state.specs.Does.{Finds, Twin}
use Rattle.xf_engine_state.specs.Parts.{chosen_of, standing_of}
use Rattle.xf_engine_state.specs.Standing.{state_of}
use Rattle.xf_engine_state.proofs.ChoosingLaws.{found-does}
use Rattle.xf_engine_state.proofs.work.Work.start_rows.Goals as goal

pub invariant_of-self : goal.invariant_of-self
invariant_of-self c =
    let i = c.self.invariant in
    record {
      sound = i.sound;
      now = i.now;
      before = i.before;
      alone = i.alone;
      indexes = c.in_ok-first.ensures.many.0;
      cases = c.in_ok-first.ensures.many.1;
      plain = i.plain;
      held = i.held;
      bound = i.bound;
      first = i.first;
    }

pub returns-clause-done : goal.returns-clause-done
returns-clause-done c =
    let w = c.self.inside in
    let first = c.in_ok-first.first in
    let here = standing_of (chosen_of w.indexes.items w.cases.items) w.loaded w.draft.now w.table w.flags.items w.shown.now w.tally in
    let data_of : HasData w.loaded.form w.loaded.prefixes c.forest.result.now.forest here = record { same_form = refl; same_prefixes = refl; same_forest = sym c.forest.ensures } in
    let around = c.surrounding-over.ensures here data_of in
    let cases : first.cases.items ≡ first_cases (interface (state_of here)) = c.in_ok-first.ensures.cases ∙ ap first_cases around.form in
    subst (λ (t : Twin). start_indexes profile (record (state_of t.now) { cases = first_cases (interface (state_of t.now)) }) ≡ Ok (state_of (record here { indexes = map seen_index first.indexes.items; cases = first.cases.items }))) c.self.view_is
    (subst (λ xs. start_indexes profile (record (state_of here) { cases = xs }) ≡ Ok (state_of (record here { indexes = map seen_index first.indexes.items; cases = first.cases.items }))) cases
    (c.in_ok-first.ensures.start (record here { cases = first.cases.items }) (record { form = around.form; seen = around.seen })))

pub returns-in_err-first-clause-done : goal.returns-in_err-first-clause-done
returns-in_err-first-clause-done c =
    let w = c.self.inside in
    let p = err_from_is_err_and c.from_residual.result c.from_residual.ensures.1 in
    let here = standing_of (chosen_of w.indexes.items w.cases.items) w.loaded w.draft.now w.table w.flags.items w.shown.now w.tally in
    let data_of : HasData w.loaded.form w.loaded.prefixes c.forest.result.now.forest here = record { same_form = refl; same_prefixes = refl; same_forest = sym c.forest.ensures } in
    let around = c.surrounding-over.ensures here data_of in
    let view = λ (first : FirstChosen). state_of (record here { indexes = map seen_index first.indexes.items; cases = first_cases (interface (state_of here)) }) in
    let e = c.in_err-first.field-0.0 in
    rw (p.1, p.2)
    (found-does {X = FirstChosen} view e _ _
    (subst (λ (t : Twin). Finds {X = FirstChosen} view (Err e) (start_indexes profile (record (state_of t.now) { cases = first_cases (interface (state_of t.now)) }))) c.self.view_is
    (c.in_err-first.ensures.start (record here { cases = first_cases (interface (state_of here)) }) (record { form = around.form; seen = around.seen }))))
