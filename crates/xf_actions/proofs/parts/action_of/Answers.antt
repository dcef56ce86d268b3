use Rattle.std.proofs.Common.{sym}
use Rattle.xf_actions.proofs.Roles.{role-missing}
use Rattle.xf_actions.proofs.parts.action_of.Goals as goal

pub returns-in-None : goal.returns-in-None
returns-in-None c = sym (role-missing c.args.form.now.elements c.args.element (sym c.in-None.ensures.value))
