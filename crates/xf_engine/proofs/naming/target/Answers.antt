use Rattle.std.proofs.Common.{◌≡◌, Some, None, rules}
use Rattle.xf_engine.specs.Naming.{named_from}
use Rattle.xf_engine.proofs.NamingLaws.{target-found, target-refuses}
use Rattle.xf_engine.proofs.naming.target.Goals as goal

pub returns-in-Some : goal.returns-in-Some
returns-in-Some g c =
    let found : named_from c.args.wanted c.args.id.now 0 c.form.result.now.elements ≡ Some c.in-Some.element = search rules in
    target-found c.args.wanted c.form.result.now (g.W.World.state c.args.world.now) c.args.id.now c.in-Some.element c.form.ensures found

pub returns-in-None : goal.returns-in-None
returns-in-None g c =
    let none : named_from c.args.wanted c.args.id.now 0 c.form.result.now.elements ≡ None = search rules in
    target-refuses c.args.wanted c.form.result.now (g.W.World.state c.args.world.now) c.args.id.now c.form.ensures none
