use Rattle.std.proofs.Common.{sym, ◌∙◌}
use Rattle.xf_engine.proofs.NamingLaws.{first-model, other-model}
use Rattle.xf_engine.proofs.naming.model.Goals as goal

pub returns-then-is_empty : goal.returns-then-is_empty
returns-then-is_empty g c = first-model (g.W.World.state c.args.world.now) c.args.id.now _ (sym c.is_empty.ensures ∙ c.if-is_empty.true) c.model_element.ensures

pub returns : goal.returns
returns g c = other-model (g.W.World.state c.args.world.now) c.args.id.now _ (sym c.is_empty.ensures ∙ c.if-is_empty.false) c.target.ensures
