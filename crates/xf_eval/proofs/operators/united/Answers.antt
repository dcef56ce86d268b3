use Rattle.std.proofs.Common.{◌≡◌, ◌++◌, ap, ◌∙◌, sym}
use Rattle.std.proofs.lemmas.Result.{IfOk-weaker}
use Rattle.xf_def_forest.specs.Visit.{visits}
use Rattle.xf_def_xpath.specs.Conversions.{nodes_of}
use Rattle.xf_def_xpath.specs.Setting.{in_order}
use Rattle.xf_eval.proofs.Erased.{in_order-erased}
use Rattle.xf_eval.proofs.Lives.{live-is, live-in_order}
use Rattle.xf_eval.proofs.operators.united.Goals as goal

pub returns-clause-value : goal.returns-clause-value
returns-clause-value c =
    let all = visits c.args.forest.now.forest.nodes in
    let both : c.append.new.nodes ≡ nodes_of c.args.left ++ nodes_of c.args.right =
    c.in_ok-append.ensures ∙ ap (λ l. l ++ c.nodes_in-more.result) c.nodes_in-nodes.ensures ∙ ap (λ l. nodes_of c.args.left ++ l) c.nodes_in-more.ensures in
    IfOk-weaker c.put_in_order.result _ _ (λ nodes h. h ∙ ap (in_order all) both ∙ sym (in_order-erased all (nodes_of c.args.left ++ nodes_of c.args.right))) c.put_in_order.ensures

pub returns-clause-live : goal.returns-clause-live
returns-clause-live c =
    let nodes = c.args.forest.now.forest.nodes in
    IfOk-weaker c.put_in_order.result _ _ (λ found h. live-is nodes h (live-in_order c.append.new.nodes nodes)) c.put_in_order.ensures
