use Rattle.std.proofs.Common.{◌≡◌, ℕ, ◌==◌, ◌+◌, List, [], ◌∷◌, Option, None, true, false, map, length, slice_get, refl, sym, ap, ◌∙◌, subst, arith, length-append}
use Rattle.std.specs.Prelude.{Ok, Err}
use Rattle.std.proofs.lemmas.Option.{slice_get_read}
use Rattle.std.proofs.lemmas.Bool.Decides.{nat_tests}
use Rattle.xf_def_forest.specs.Shape.{shape_of}
use Rattle.xf_def_model.specs.Applied.{applied_over, entries_by, entries_from}
use Rattle.xf_def_model.specs.Rules.{rule_of}
use Rattle.xf_binds.specs.Held.{entries_in}
use Rattle.xf_binds_apply.specs.Adding.{Added, Tells, exception_after}
use Rattle.xf_binds_apply.specs.Fault.{IsApplied}
use Rattle.xf_binds_apply.specs.Reached.{AreKept, scope_in}
use Rattle.xf_binds_apply.proofs.Chains.{kept-none}
use Rattle.xf_binds_apply.proofs.EntryLaws.{all-before, answers-all, answers-fault, bind-added, bind-other, bind-stopped}
use Rattle.xf_binds_apply.proofs.binds.apply.Goals as goal

pub loop-bind-preserved-then-bind-model : goal.loop-bind-preserved-then-bind-model
loop-bind-preserved-then-bind-model g c =
    let given = g.A.Around.given c.args.around.now in
    let nodes = c.args.forest.now.forest.nodes in
    let bs = c.as_slice-binds.result.now in
    let model = c.args.model in
    let old = c.loop-bind.reached.items in
    let other : (c.bind-item.result.model == model) ≡ false = grind (arith, nat_tests, c.if-bind-model.true) in
    record {
      long = ap length c.in_ok-keep.ensures ∙ length-append old (None ∷ []) ∙ ap (λ k. k + 1) c.loop-bind.invariant.long;
      kept = subst (AreKept given bs model nodes) (sym {A = List (Option (List ℕ))} c.in_ok-keep.ensures) (kept-none given bs model nodes old c.loop-bind.invariant.kept []);
      so_far = bind-other (scope_in given bs model) (shape_of nodes) bs c.loop-bind.bind-index c.bind-item.result c.loop-bind-test.true (sym c.bind-item.is) [] (entries_in c.loop-bind.applied) other c.loop-bind.invariant.so_far;
    }

pub apply_bind-requires-clause-here : goal.apply_bind-requires-clause-here
apply_bind-requires-clause-here g c =
    let bs = c.as_slice-binds.result.now in
    ap (slice_get bs) c.loop-bind.invariant.long ∙ slice_get_read bs (length bs) c.loop-bind.bind-index c.bind-item.result refl c.loop-bind-test.true c.bind-item.is

pub loop-bind-preserved : goal.loop-bind-preserved
loop-bind-preserved g c =
    let given = g.A.Around.given c.args.around.now in
    let all = shape_of c.args.forest.now.forest.nodes in
    let bs = c.as_slice-binds.result.now in
    let model = c.args.model in
    let scope = scope_in given bs model in
    let bind = c.bind-item.result in
    let now = entries_in c.loop-bind.applied in
    let after = entries_in c.apply_bind.new.applied in
    let own : (bind.model == model) ≡ true = grind (arith, nat_tests, c.if-bind-model.false) in
    record {
      long = c.in-Ok.ensures.next ∙ ap (λ k. k + 1) c.loop-bind.invariant.long;
      kept = c.in-Ok.ensures.kept;
      so_far = bind-added scope all bs c.loop-bind.bind-index bind c.loop-bind-test.true (sym c.bind-item.is) [] now after own c.loop-bind.invariant.so_far
          (subst (λ k. Added all now (entries_by scope all k (rule_of bind)) after) c.loop-bind.invariant.long c.in-Ok.ensures.added);
    }

pub returns-in-Err : goal.returns-in-Err
returns-in-Err g c =
    let given = g.A.Around.given c.args.around.now in
    let all = shape_of c.args.forest.now.forest.nodes in
    let bs = c.as_slice-binds.result.now in
    let model = c.args.model in
    let scope = scope_in given bs model in
    let bind = c.bind-item.result in
    let now = entries_in c.loop-bind.applied in
    let own : (bind.model == model) ≡ true = grind (arith, nat_tests, c.if-bind-model.false) in
    subst (λ l. IsApplied (Err c.in-Err.e) (applied_over (scope_in given l model) all)) c.as_slice-binds.ensures
    (answers-fault all (entries_from scope all 0 (map rule_of bs)) c.in-Err.e
    (bind-stopped scope all bs c.loop-bind.bind-index bind c.loop-bind-test.true (sym c.bind-item.is) [] now c.in-Err.e own c.loop-bind.invariant.so_far
    (subst (λ k. Tells c.in-Err.e (exception_after all now (entries_by scope all k (rule_of bind)))) c.loop-bind.invariant.long c.in-Err.ensures.added)))

pub returns : goal.returns
returns g c =
    let given = g.A.Around.given c.args.around.now in
    let all = shape_of c.args.forest.now.forest.nodes in
    let bs = c.as_slice-binds.result.now in
    let model = c.args.model in
    let scope = scope_in given bs model in
    let held = c.loop-bind.applied in
    subst (λ l. applied_over (scope_in given l model) all ≡ Ok (entries_in held)) c.as_slice-binds.ensures
    (answers-all all (entries_from scope all 0 (map rule_of bs)) held
    (subst (λ l. Added all [] l (entries_in held)) (all-before scope all bs c.loop-bind.bind-index c.loop-bind-test.false) c.loop-bind.invariant.so_far))
