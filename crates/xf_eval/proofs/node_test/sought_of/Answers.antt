use Rattle.std.proofs.Common.{sym, ap, ◌∙◌}
use Rattle.xf_def_xpath.specs.Tests.{meets}
use Rattle.xf_eval.proofs.Sought.{names-asked, space-asked, all-asked}
use Rattle.xf_eval.proofs.node_test.sought_of.Goals as goal

pub returns-in-Name : goal.returns-in-Name
returns-in-Name c = λ content. names-asked c.args.axis c.principal_of.result c.in-Name.name content c.principal_of.ensures ∙ ap (λ t. meets c.args.axis t content) (sym c.in-Name.is)

pub returns-in-InSpace : goal.returns-in-InSpace
returns-in-InSpace c = λ content. space-asked c.args.axis c.principal_of-in-InSpace.result c.in-InSpace.space content c.principal_of-in-InSpace.ensures ∙ ap (λ t. meets c.args.axis t content) (sym c.in-InSpace.is)

pub returns-in-AnyName : goal.returns-in-AnyName
returns-in-AnyName c = λ content. all-asked c.args.axis c.principal_of-in-AnyName.result content c.principal_of-in-AnyName.ensures ∙ ap (λ t. meets c.args.axis t content) (sym c.in-AnyName.is)
