use Rattle.std.proofs.Common.{Some, List, ℕ, sym, subst}
use Rattle.xf_base.specs.Limits.{string_limit}
use Rattle.xf_def_forest.specs.Visit.{visits}
use Rattle.xf_def_forest.proofs.PieceLaws.{whole-value}
use Rattle.xf_def_xpath.specs.declared.fault.EvalFault.TheVariants.{Long, Memory}
use Rattle.xf_def_values.specs.Bounded.{GivesBounded, capped}
use Rattle.xf_eval.specs.declared.texts.StringValue.{StringValue}
use Rattle.xf_eval.specs.Texts.{characters}
use Rattle.xf_eval.proofs.texts.value_of_node.Goals as goal

pub returns-in-Some : goal.returns-in-Some
returns-in-Some c =
    let all = visits c.args.forest.now.forest.nodes in
    subst (λ text. GivesBounded {X = StringValue} {Y = List ℕ} Memory Long characters c.lent.result (capped (Some string_limit) text)) (whole-value c.args.node.number all c.in-Some.text.now (sym c.in-Some.ensures)) c.lent.ensures
