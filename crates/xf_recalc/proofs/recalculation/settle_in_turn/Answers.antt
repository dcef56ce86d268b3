use Rattle.std.proofs.Common.{◌<◌, ◌^◌, [], map, length, refl, sym, ap, ◌∙◌, subst, arith}
use Rattle.std.specs.List.{list_all}
use Rattle.std.proofs.lemmas.Result.{err_from_is_err_and}
use Rattle.xf_def_forest.specs.Limits.{limits, passed_by_all}
use Rattle.xf_def_forest.specs.Visit.{visits}
use Rattle.xf_def_model.specs.Settled.{calculates}
use Rattle.xf_eval.specs.Live.{AroundStands}
use Rattle.xf_binds.specs.Table.{kept_at}
use Rattle.xf_recalc.specs.Known.{AreKnown}
use Rattle.xf_recalc.specs.Settles.{scope_in, word_of, words_of}
use Rattle.xf_recalc.specs.Passes.{AreTrue}
use Rattle.xf_recalc.specs.Turns.{entry_in, found_over, is_there}
use Rattle.xf_recalc.proofs.Ending.{after-nodes, limit-told, long-after, long-told, settled, stands-after, there-after}
use Rattle.xf_recalc.proofs.KeptTruths.{are-true}
use Rattle.xf_recalc.proofs.Left.{left-all, left-none}
use Rattle.xf_recalc.proofs.recalculation.settle_in_turn.Goals as goal

pub truths_of-requires-clause-stands : goal.truths_of-requires-clause-stands
truths_of-requires-clause-stands g c =
    let given = g.A.Around.given c.args.around.now in
    let entries = (kept_at c.args.table.now c.args.model).entries in
    let scope = scope_in given c.args.tables.now c.args.model in
    let few : length (calculates entries) < 2 ^ 32 = let fits = c.if-count.false in let is = c.calculate_count-count.ensures in omega (arith, fits, is) in
    subst (λ f. AroundStands given f.nodes) (sym c.forest.ensures)
    (stands-after given c.args.tables.now c.args.model c.args.draft.now.now entries c.requires.may c.args.turns.now c.requires.turns few c.settle_turns.new.draft.now c.in_ok-known.ensures.ok)

pub truths_of-requires-clause-live : goal.truths_of-requires-clause-live
truths_of-requires-clause-live g c =
    let given = g.A.Around.given c.args.around.now in
    let entries = (kept_at c.args.table.now c.args.model).entries in
    let scope = scope_in given c.args.tables.now c.args.model in
    let few : length (calculates entries) < 2 ^ 32 = let fits = c.if-count.false in let is = c.calculate_count-count.ensures in omega (arith, fits, is) in
    ap (λ f. list_all (is_there f.nodes) entries) c.forest.ensures
    ∙ there-after given c.args.tables.now c.args.model c.args.draft.now.now entries c.requires.may c.args.turns.now c.requires.turns few c.settle_turns.new.draft.now c.in_ok-known.ensures.ok

pub truths_of-requires-clause-known : goal.truths_of-requires-clause-known
truths_of-requires-clause-known g c =
    let entries = (kept_at c.args.table.now c.args.model).entries in
    let scope = scope_in (g.A.Around.given c.args.around.now) c.args.tables.now c.args.model in
    subst (AreKnown scope (visits c.forest.result.now.forest.nodes) entries) (sym c.as_slice.ensures.value)
    (subst (λ f. AreKnown scope (visits f.nodes) entries c.in_ok-known.known.items) (sym c.forest.ensures) c.in_ok-known.ensures.truths)

pub settle_turns-requires-clause-passes : goal.settle_turns-requires-clause-passes
settle_turns-requires-clause-passes g c = c.requires.passes

pub truths_of-requires-clause-passed : goal.truths_of-requires-clause-passed
truths_of-requires-clause-passed g c =
    let given = g.A.Around.given c.args.around.now in
    let kept = kept_at c.args.table.now c.args.model in
    let scope = scope_in given c.args.tables.now c.args.model in
    let few : length (calculates kept.entries) < 2 ^ 32 = let fits = c.if-count.false in let is = c.calculate_count-count.ensures in omega (arith, fits, is) in
    let after = c.settle_turns.new.draft.now in
    subst (λ f. AreTrue scope (visits f.nodes) kept c.args.marks.now) (sym c.forest.ensures)
    (are-true given c.args.tables.now c.args.model c.args.draft.now.now kept (map entry_in c.args.turns.now) (record { ordered = c.requires.turns.ordered; single = c.requires.turns.single }) c.args.marks.now c.requires.passes after
    (after-nodes given c.args.tables.now c.args.model c.args.draft.now.now kept.entries c.requires.may c.args.turns.now c.requires.turns few after c.in_ok-known.ensures.ok))

pub returns-in_err-truths-clause-err : goal.returns-in_err-truths-clause-err
returns-in_err-truths-clause-err g c =
    let given = g.A.Around.given c.args.around.now in
    let entries = (kept_at c.args.table.now c.args.model).entries in
    let scope = scope_in given c.args.tables.now c.args.model in
    let few : length (calculates entries) < 2 ^ 32 = let fits = c.if-count.false in let is = c.calculate_count-count.ensures in omega (arith, fits, is) in
    let p = err_from_is_err_and c.from_residual-in_err-truths.result c.from_residual-in_err-truths.ensures.1 in
    rw (p.1, p.2) (long-told (words_of scope entries c.args.draft.now.now) _ _ c.in_err-truths.ensures (λ none.
    long-after given c.args.tables.now c.args.model c.args.draft.now.now entries c.requires.may c.args.turns.now c.requires.turns few c.settle_turns.new.draft.now c.in_ok-known.ensures.ok
    (ap (λ f. found_over [] scope (visits f.nodes) entries) (sym c.forest.ensures) ∙ none)))

pub returns-in-Some-clause-err : goal.returns-in-Some-clause-err
returns-in-Some-clause-err g c =
    let given = g.A.Around.given c.args.around.now in
    let entries = (kept_at c.args.table.now c.args.model).entries in
    let scope = scope_in given c.args.tables.now c.args.model in
    let few : length (calculates entries) < 2 ^ 32 = let fits = c.if-count.false in let is = c.calculate_count-count.ensures in omega (arith, fits, is) in
    limit-told given c.args.tables.now c.args.model c.args.draft.now.now entries c.requires.may c.args.turns.now c.requires.turns few c.settle_turns.new.draft.now c.in_ok-known.ensures.ok
    c.in-Some.fault (c.in-Some.ensures ∙ ap (λ f. word_of (passed_by_all limits f.nodes)) c.forest-2.ensures)

pub returns-clause-ok : goal.returns-clause-ok
returns-clause-ok g c =
    let given = g.A.Around.given c.args.around.now in
    let entries = (kept_at c.args.table.now c.args.model).entries in
    let scope = scope_in given c.args.tables.now c.args.model in
    let few : length (calculates entries) < 2 ^ 32 = let fits = c.if-count.false in let is = c.calculate_count-count.ensures in omega (arith, fits, is) in
    settled given c.args.tables.now c.args.model c.args.draft.now.now entries c.requires.may c.args.turns.now c.requires.turns few c.settle_turns.new.draft.now c.in_ok-known.ensures.ok
    c.in_ok-truths.truths (ap (λ f. found_over [] scope (visits f.nodes) entries) (sym c.forest.ensures) ∙ c.in_ok-truths.ensures)
    (c.in-None.ensures ∙ ap (λ f. word_of (passed_by_all limits f.nodes)) c.forest-2.ensures)

pub returns-then-count-clause-left : goal.returns-then-count-clause-left
returns-then-count-clause-left g c =
    left-none (scope_in (g.A.Around.given c.args.around.now) c.args.tables.now c.args.model) (kept_at c.args.table.now c.args.model).entries c.args.draft.now.now c.args.draft.now.now refl

pub returns-in_err-truths-clause-left : goal.returns-in_err-truths-clause-left
returns-in_err-truths-clause-left g c =
    let p = err_from_is_err_and c.from_residual-in_err-truths.result c.from_residual-in_err-truths.ensures.1 in
    rw p.1 (left-all (scope_in (g.A.Around.given c.args.around.now) c.args.tables.now c.args.model) (kept_at c.args.table.now c.args.model).entries c.args.draft.now.now c.settle_turns.new.draft.now
    c.in_ok-known.ensures.ok)

pub returns-in-Some-clause-left : goal.returns-in-Some-clause-left
returns-in-Some-clause-left g c =
    left-all (scope_in (g.A.Around.given c.args.around.now) c.args.tables.now c.args.model) (kept_at c.args.table.now c.args.model).entries c.args.draft.now.now c.settle_turns.new.draft.now
    c.in_ok-known.ensures.ok
