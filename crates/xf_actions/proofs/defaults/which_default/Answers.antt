use Rattle.std.proofs.Common.{sym}
use Rattle.xf_actions.proofs.DefaultActions.{default-missing}
use Rattle.xf_actions.proofs.defaults.which_default.Goals as goal

pub returns-in-None : goal.returns-in-None
returns-in-None g c = default-missing c.form.result.now (g.W.World.state c.args.world.now) c.args.fired.now.target c.args.fired.now.name c.form.ensures (sym c.in-None.ensures.value)
