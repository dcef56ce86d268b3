use Rattle.std.proofs.Common.{sym, ◌∙◌, rules}
use Rattle.xf_def_machine.specs.Delete.{location_of}
use Rattle.xf_actions.proofs.Rounds.{same-makes}
use Rattle.xf_actions.proofs.Trees.{deleted-none, deleted-some}
use Rattle.xf_actions.proofs.delete.deleted.Goals as goal

pub returns-in-None-clause-done : goal.returns-in-None-clause-done
returns-in-None-clause-done g c = deleted-none g.W.World.profile (location_of (g.W.World.state c.args.world.now).form.decimals c.args.set.now c.args.at) c.args.nodes.now (g.W.World.state c.args.world.now) (sym c.in-None.ensures) ∙ (search rules)

pub returns-in-Some-clause-done : goal.returns-in-Some-clause-done
returns-in-Some-clause-done g c =
    same-makes _ _ _ _ _ _ (deleted-some g.W.World.profile (location_of (g.W.World.state c.args.world.now).form.decimals c.args.set.now c.args.at) c.args.nodes.now c.in-Some.first.number (g.W.World.state c.args.world.now) (sym c.in-Some.ensures)) c.deleted_from.ensures.done
