use Rattle.std.proofs.Common.{◌≡◌, get_or, ◌<◌, ◌≤◌, length, Some, ap, sym, ◌∙◌, rules, tests}
use Rattle.std.proofs.lemmas.Result.{IfOk-weaker}
use Rattle.xf_def_forest.specs.Order.{in_order}
use Rattle.xf_def_forest.specs.Visit.{visits}
use Rattle.xf_eval.specs.Live.{AllLive}
use Rattle.xf_eval.proofs.Lives.{live-in_order, live-is}
use Rattle.xf_binds_apply.specs.Reached.{sets_at, through}
use Rattle.xf_binds_apply.proofs.Chains.{ordered, through-alone, through-in, through-none}
use Rattle.xf_binds_apply.proofs.SetLaws.{one-order, sets-ordered}
use Rattle.xf_binds_apply.proofs.sets.+through.Goals as goal
use Rattle.xf_binds_apply.proofs.sets.+through.Goals.{in-Some-outer_of+in_ok-from-in-Some-outer_of, in-None+in_ok-from-in-None}

pub returns-in_default-clause-value : goal.returns-in_default-clause-value
returns-in_default-clause-value g t c =
    let large : length c.args.binds.now ≤ c.args.bind = search (rules, tests) in
    IfOk-weaker c.document.result _ _ (λ found h. through-none (g.A.Around.given c.args.around.now) c.args.binds.now c.args.model c.args.forest.now.forest.nodes c.args.bind large ∙ ap Some (sym h)) c.document.ensures.value

pub returns-clause-value : goal.returns-clause-value
returns-clause-value g t c =
    let given = g.A.Around.given c.args.around.now in
    let forest = c.args.forest.now.forest in
    let bs = c.args.binds.now in
    let model = c.args.model in
    let here = c.in-Some.here.now in
    let small : c.args.bind < length bs = search (rules, tests) in
    let is : get_or bs c.args.bind here ≡ here = sym c.in-Some.ensures.lookup.1 in
    let from = c.match-outer_of.from in
    let worth : through given bs model forest.nodes c.args.bind ≡ ordered forest.nodes (sets_at given forest.nodes model here.node_set from) = elim c.match-outer_of.branch [
      | in-Some-outer_of+in_ok-from-in-Some-outer_of w ↦
          through-in given bs model forest.nodes c.args.bind here w.in-Some-outer_of.outer _ small is (sym w.in-Some-outer_of.ensures.value) w.in_ok-from-in-Some-outer_of.ensures.value
          ∙ ap (λ ns. ordered forest.nodes (sets_at given forest.nodes model here.node_set ns)) (sym w.from-is)
      | in-None+in_ok-from-in-None w ↦
          through-alone given bs model forest.nodes c.args.bind here small is (sym w.in-None.ensures.value)
          ∙ ap (λ ns. ordered forest.nodes (sets_at given forest.nodes model here.node_set ns)) (sym w.in_ok-from-in-None.ensures.value ∙ sym w.from-is)
    ] in
    let sets = c.in_ok-sets.sets in
    IfOk-weaker c.in_order.result _ _ (λ found h. worth
    ∙ sets-ordered forest.nodes sets.nodes sets.places (sets_at given forest.nodes model here.node_set from) c.in_ok-sets.ensures.sets
    ∙ ap Some (sym (h ∙ one-order forest c.is_sound.ensures sets.nodes c.in_ok-sets.ensures.shown))) c.in_order.ensures

pub returns-clause-live : goal.returns-clause-live
returns-clause-live g t c =
    let nodes = c.args.forest.now.forest.nodes in
    IfOk-weaker c.in_order.result (λ found. found ≡ in_order (visits nodes) c.in_ok-sets.sets.nodes) (λ found. AllLive found nodes) (λ found h. live-is nodes h (live-in_order c.in_ok-sets.sets.nodes nodes)) c.in_order.ensures
