use Rattle.std.proofs.Common.{◌≡◌, List, [], Ok, Err, Vec, Global, map, length, sym, ap, ◌∙◌, subst}
use Rattle.std.proofs.lemmas.List.{with_items_is}
use Rattle.std.proofs.lemmas.Result.{err_from_is_err_and}
use Rattle.xf_def_ui.specs.Index as ui
use Rattle.xf_eval_context.specs.declared.indexes.Index.{Index}
use Rattle.xf_eval_context.specs.Indexes.{seen_index}
use Rattle.xf_def_machine.specs.Update.{reindex}
use Rattle.xf_def_form.specs.Formed.{profile}
use Rattle.xf_engine_state.specs.Does.{Does}
use Rattle.xf_engine_state.specs.Standing.{state_of}
use Rattle.xf_engine_state.proofs.ChoosingLaws.{start-done, start-fails, start-refused}
use Rattle.xf_engine_state.proofs.choosing.started_over.Goals as goal

abbrev seen : Vec Index Global → List ui.Index
seen indexes = map seen_index indexes.items

pub returns-in-Err : goal.returns-in-Err
returns-in-Err c = λ s around. start-fails c.args.over.now s around seen c.in-Err.fault c.told.result c.told.ensures c.in-Err.ensures

pub returns-in_err-bring_over : goal.returns-in_err-bring_over
returns-in_err-bring_over c = λ s around.
    let e = c.in_err-bring_over.field-0.0 in
    let after = map seen_index c.bring_over.new.indexes in
    let p = err_from_is_err_and c.from_residual.result c.from_residual.ensures.1 in
    rw (p.1, p.2) (start-refused c.args.over.now s around seen (seen c.in-Ok.indexes) after e c.in-Ok.ensures
    (subst (λ xs. Does {X = Unit {0}} (Err e) (record s { indexes = after }) (reindex profile [] (state_of (record s { indexes = map seen_index xs })))) c.as_mut_slice.ensures.value
    (subst (λ ns. Does {X = Unit {0}} (Err e) (record s { indexes = after }) (reindex profile ns (state_of (record s { indexes = map seen_index c.as_mut_slice.result.now })))) c.new-nothing.ensures
    (c.in_err-bring_over.ensures s around))))

pub returns : goal.returns
returns c = λ s around.
    let fs = c.bring_over.new.indexes in
    let many : length fs ≡ c.in-Ok.indexes.len = c.bring_over.auto.indexes ∙ c.as_mut_slice.ensures.len in
    start-done c.args.over.now s around (seen c.in-Ok.indexes) (Ok (state_of (record s { indexes = map seen_index fs }))) c.in-Ok.ensures
    (subst (λ xs. reindex profile [] (state_of (record s { indexes = map seen_index xs })) ≡ Ok (state_of (record s { indexes = map seen_index fs }))) c.as_mut_slice.ensures.value
    (subst (λ ns. reindex profile ns (state_of (record s { indexes = map seen_index c.as_mut_slice.result.now })) ≡ Ok (state_of (record s { indexes = map seen_index fs }))) c.new-nothing.ensures
    (c.in_ok-bring_over.ensures s around)))
    ∙ ap (λ xs. Ok (state_of (record s { indexes = map seen_index xs }))) (sym (with_items_is c.in-Ok.indexes fs many))
