use Rattle.std.proofs.Common.{◌≡◌, get_or, ◌<◌, ◌≤◌, length, Some, ap, sym, ◌∙◌, rules, tests}
use Rattle.std.proofs.lemmas.Result.{err_from_is_err_and}
use Rattle.xf_def_forest.specs.Visit.{visits}
use Rattle.xf_def_values.specs.Bounded.{◌>>=◌}
use Rattle.xf_def_xpath.specs.declared.fault.EvalFault.TheVariants.{Long, Memory}
use Rattle.xf_def_xpath.specs.Reads.{trace}
use Rattle.xf_eval.proofs.Bounded.{gives-same, part-long}
use Rattle.xf_eval_context.specs.Nested.Chain.{scope_in, selected, through}
use Rattle.xf_eval_context.proofs.NestedLemmas.ChainLaws.{through-alone, through-in, through-none}
use Rattle.xf_eval_context.proofs.nested.chain.+through.Goals as goal
use Rattle.xf_eval_context.proofs.nested.chain.+through.Goals.{in-Some-outer_of+in_ok-from-in-Some-outer_of, in-None+in_ok-from-in-None}

pub returns-in_default-clause-value : goal.returns-in_default-clause-value
returns-in_default-clause-value g t c =
    let large : length c.args.binds.now ≤ c.args.bind = search (rules, tests) in
    through-none (g.A.Around.given c.args.around.now) c.args.binds.now c.args.model (visits c.args.forest.now.forest.nodes) c.args.bind large ∙ ap Some (sym c.in_ok-document.ensures.value)

pub returns-in_err-from-in-Some-outer_of-clause-value : goal.returns-in_err-from-in-Some-outer_of-clause-value
returns-in_err-from-in-Some-outer_of-clause-value g t c =
    let given = g.A.Around.given c.args.around.now in
    let all = visits c.args.forest.now.forest.nodes in
    let bs = c.args.binds.now in
    let here = c.in-Some.here.now in
    let small : c.args.bind < length bs = search (rules, tests) in
    let p = err_from_is_err_and c.from_residual-in_err-from-in-Some-outer_of.result c.from_residual-in_err-from-in-Some-outer_of.ensures.1 in
    rw (p.1, p.2) (part-long Memory Long _ _ (through given bs c.args.model all c.args.bind) c.in_err-from-in-Some-outer_of.ensures.value
    (λ h. through-in given bs c.args.model all c.args.bind here c.in-Some-outer_of.outer small (sym c.in-Some.ensures.lookup.1) (sym c.in-Some-outer_of.ensures.value)
    ∙ ap (λ m. m >>= selected (scope_in given bs c.args.model) all (trace here.node_set)) h))

pub returns-clause-value : goal.returns-clause-value
returns-clause-value g t c =
    let given = g.A.Around.given c.args.around.now in
    let all = visits c.args.forest.now.forest.nodes in
    let bs = c.args.binds.now in
    let model = c.args.model in
    let here = c.in-Some.here.now in
    let scope = scope_in given bs model in
    let small : c.args.bind < length bs = search (rules, tests) in
    let is : get_or bs c.args.bind here ≡ here = sym c.in-Some.ensures.lookup.1 in
    let from = c.match-outer_of.from in
    let worth : through given bs model all c.args.bind ≡ selected scope all (trace here.node_set) from = elim c.match-outer_of.branch [
      | in-Some-outer_of+in_ok-from-in-Some-outer_of w ↦
          through-in given bs model all c.args.bind here w.in-Some-outer_of.outer small is (sym w.in-Some-outer_of.ensures.value)
          ∙ ap (λ m. m >>= selected scope all (trace here.node_set)) w.in_ok-from-in-Some-outer_of.ensures.value
          ∙ ap (selected scope all (trace here.node_set)) (sym w.from-is)
      | in-None+in_ok-from-in-None w ↦
          through-alone given bs model all c.args.bind here small is (sym w.in-None.ensures.value)
          ∙ ap (selected scope all (trace here.node_set)) (sym w.in_ok-from-in-None.ensures.value ∙ sym w.from-is)
    ] in
    gives-same Memory Long (λ found. found) c.selected.result _ _ (sym worth) c.selected.ensures.value
