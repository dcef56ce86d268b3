use Rattle.std.proofs.Common.{◌≡◌, ◌+◌, length, take, sym, ap, ◌∙◌, subst, arith}
use Rattle.std.proofs.lemmas.Result.{err_from_is_err_and}
use Rattle.std.specs.Prelude.{option_map, slice_get}
use Rattle.xf_def_forest.specs.Visit.{visits}
use Rattle.xf_def_xpath.specs.declared.fault.EvalFault.TheVariants.{Long, Memory}
use Rattle.xf_def_model.specs.Settled.{calculates}
use Rattle.xf_eval.proofs.Bounded.{part-long}
use Rattle.xf_binds.specs.Table.{kept_at}
use Rattle.xf_binds.specs.Held.{entry_of}
use Rattle.xf_recalc.specs.Known.{IsKnown}
use Rattle.xf_recalc.specs.Passes.{IsKnownBy, is_passed}
use Rattle.xf_recalc.specs.Settles.{scope_in}
use Rattle.xf_binds.specs.Placed.{is_calculate_at}
use Rattle.xf_binds.proofs.Placings.{counted, one_if, plus-none}
use Rattle.xf_recalc.specs.Turns.{found_step, is_there_at}
use Rattle.xf_recalc.proofs.HeldSteps.{there-at, step-none, step-some}
use Rattle.xf_recalc.proofs.Known.{known-by}
use Rattle.xf_recalc.proofs.truths.truths_of.Goals as goal
use Rattle.xf_recalc.proofs.truths.truths_of.Goals.{then-is_calculate, else-is_calculate}

pub push_truth-requires-clause-live : goal.push_truth-requires-clause-live
push_truth-requires-clause-live g c =
    ap (is_there_at c.args.forest.now.forest.nodes) c.entry-entry.ensures ∙ there-at c.args.forest.now.forest.nodes (kept_at c.args.table.now c.args.model).entries c.loop-at.at c.requires.live

pub push_truth-requires-clause-known : goal.push_truth-requires-clause-known
push_truth-requires-clause-known g c =
    let scope = scope_in (g.A.Around.given c.args.around.now) c.args.tables.now c.args.model in
    let all = visits c.args.forest.now.forest.nodes in
    let kept = kept_at c.args.table.now c.args.model in
    let at = c.loop-at.at in
    let marks = c.args.marks.now in
    let told = subst (λ b. IsKnownBy b kept c.args.known.now c.loop-at.place (option_map entry_of c.entry-entry.result) c.known_of-truth.result) c.is_passed-passed.ensures c.known_of-truth.ensures in
    let here = subst (λ e. IsKnownBy (is_passed marks at) kept c.args.known.now c.loop-at.place e c.known_of-truth.result) c.entry-entry.ensures told in
    subst (λ e. IsKnown scope all e c.known_of-truth.result) (sym c.entry-entry.ensures)
    (known-by scope all kept marks c.args.known.now c.requires.known c.requires.passed at c.known_of-truth.result
    (subst (λ p. IsKnownBy (is_passed marks at) kept c.args.known.now p (slice_get kept.entries at) c.known_of-truth.result) c.loop-at.invariant.so_far here))

pub returns-in_err-push_truth : goal.returns-in_err-push_truth
returns-in_err-push_truth g c =
    let scope = scope_in (g.A.Around.given c.args.around.now) c.args.tables.now c.args.model in
    let all = visits c.args.forest.now.forest.nodes in
    let p = err_from_is_err_and c.from_residual-in_err-push_truth.result c.from_residual-in_err-push_truth.ensures.1 in
    rw (p.1, p.2) (part-long Memory Long _ _ _ c.in_err-push_truth.ensures
    (λ h. step-none scope all c.loop-at.found (kept_at c.args.table.now c.args.model).entries c.loop-at.at _ c.loop-at.invariant.found (ap (found_step c.loop-at.found scope all) (sym c.entry-entry.ensures) ∙ h)))

pub loop-at-preserved : goal.loop-at-preserved
loop-at-preserved g c =
    let scope = scope_in (g.A.Around.given c.args.around.now) c.args.tables.now c.args.model in
    let all = visits c.args.forest.now.forest.nodes in
    let entries = (kept_at c.args.table.now c.args.model).entries in
    let at = c.loop-at.at in
    let old = c.loop-at.invariant in
    let here : c.is_calculate.result ≡ is_calculate_at (slice_get entries at) = c.is_calculate.ensures ∙ ap is_calculate_at c.entry-entry.ensures in
    let found = step-some scope all c.loop-at.found c.push_truth.new.found entries at _ old.found (ap (found_step c.loop-at.found scope all) (sym c.entry-entry.ensures) ∙ c.in_ok-push_truth.ensures) in
    elim c.if-is_calculate.branch [
      | then-is_calculate w ↦
          let more = counted entries at ∙ ap (λ b. length (calculates (take at entries)) + one_if b) (sym here ∙ w.if-is_calculate.true) in
          record { found = found; so_far = w.place-is ∙ ap (λ n. n + 1) old.so_far ∙ sym more; few = let f = old.few in let i = w.place-is in omega (arith, f, i) }
      | else-is_calculate w ↦
          let more = counted entries at ∙ ap (λ b. length (calculates (take at entries)) + one_if b) (sym here ∙ w.if-is_calculate.false) in
          record {
            found = found;
            so_far = w.place-is ∙ old.so_far ∙ sym (more ∙ plus-none (length (calculates (take at entries))));
            few = let f = old.few in let i = w.place-is in omega (arith, f, i);
          }
    ]
