use Rattle.std.proofs.Common.{◌≡◌, ℕ, List, ap, ◌∙◌, sym}
use Rattle.std.specs.List.{flat_map}
use Rattle.std.proofs.lemmas.Result.{IfOk-weaker}
use Rattle.xf_name.specs.declared.axis.Axis.TheVariants.{DescendantOrSelf}
use Rattle.xf_def_syntax.specs.declared.expr.Test.TheVariants.{Node}
use Rattle.xf_def_forest.specs.Visit.{visits}
use Rattle.xf_def_xpath.specs.Setting.{in_order}
use Rattle.xf_def_xpath.specs.Steps.{reached}
use Rattle.xf_eval.specs.Worth.{seen}
use Rattle.xf_eval.proofs.Erased.{in_order-erased}
use Rattle.xf_eval.proofs.Lives.{live-is, live-in_order}
use Rattle.xf_eval.proofs.sets.all_below.Goals as goal

pub returns-clause-value : goal.returns-clause-value
returns-clause-value c =
    let nodes = c.args.forest.now.forest.nodes in
    let below : List ℕ → List ℕ = flat_map (reached DescendantOrSelf Node (seen nodes)) in
    IfOk-weaker c.put_in_order.result _ _ (λ found h. h ∙ ap (in_order (visits nodes)) c.in_ok-found.ensures ∙ sym (in_order-erased (visits nodes) (below c.args.nodes.now))) c.put_in_order.ensures

pub returns-clause-live : goal.returns-clause-live
returns-clause-live c =
    let nodes = c.args.forest.now.forest.nodes in
    IfOk-weaker c.put_in_order.result _ _ (λ found h. live-is nodes h (live-in_order c.in_ok-found.found nodes)) c.put_in_order.ensures
