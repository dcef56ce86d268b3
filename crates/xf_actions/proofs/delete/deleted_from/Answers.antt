use Rattle.std.proofs.Common.{◌∙◌, rules}
use Rattle.xf_def_machine.specs.Delete.{location_of}
use Rattle.xf_actions.proofs.Flow.{makes-stopped, refuses-any, one-made}
use Rattle.xf_actions.proofs.Rounds.{same-makes}
use Rattle.xf_actions.proofs.Trees.{deleted-cut_stops, deleted-reindex_stops, deleted-quiet, deleted-told}
use Rattle.xf_actions.proofs.delete.deleted_from.Goals as goal

pub returns-in_err-detach_all-clause-done : goal.returns-in_err-detach_all-clause-done
returns-in_err-detach_all-clause-done g c =
    makes-stopped _ _ _ _ _ _ c.from_residual.ensures.1
    (deleted-cut_stops g.W.World.profile (location_of (g.W.World.state c.args.world.now).form.decimals c.args.set.now c.args.at) c.args.first.number c.args.nodes.now (g.W.World.state c.args.world.now) _ _ (rw c.as_slice.ensures at c.in_err-detach_all.ensures.done))

pub returns-in_err-reindex-clause-done : goal.returns-in_err-reindex-clause-done
returns-in_err-reindex-clause-done g c =
    makes-stopped _ _ _ _ _ _ c.from_residual-in_err-reindex.ensures.1
    (deleted-reindex_stops g.W.World.profile (location_of (g.W.World.state c.args.world.now).form.decimals c.args.set.now c.args.at) c.args.first.number c.args.nodes.now (g.W.World.state c.args.world.now) (g.W.World.state c.detach_all.new.world) _ _
    (rw c.as_slice.ensures at c.in_ok-detach_all.ensures.done) (rw c.new-none.ensures at c.in_err-reindex.ensures.done))

pub returns-in_err-event-in-Some-clause-done : goal.returns-in_err-event-in-Some-clause-done
returns-in_err-event-in-Some-clause-done g c =
    makes-stopped _ _ _ _ _ _ c.from_residual-in_err-event-in-Some.ensures.1 (refuses-any _ _ _ _ c.in_err-event-in-Some.ensures)

pub returns-in-None-clause-done : goal.returns-in-None-clause-done
returns-in-None-clause-done g c =
    deleted-quiet g.W.World.profile (location_of (g.W.World.state c.args.world.now).form.decimals c.args.set.now c.args.at) c.args.first.number c.args.nodes.now (g.W.World.state c.args.world.now) (g.W.World.state c.detach_all.new.world) (g.W.World.state c.reindex.new.self) c.instance_holding-instance.result (search rules) (search rules) (search rules) (search rules) ∙ (search rules)

pub returns-clause-done : goal.returns-clause-done
returns-clause-done g c =
    same-makes _ _ _ _ _ _ (deleted-told g.W.World.profile c.args.set.now c.args.at c.args.first.number c.args.nodes.now (g.W.World.state c.args.world.now) (g.W.World.state c.detach_all.new.world) (g.W.World.state c.reindex.new.self) c.instance_holding-instance.result c.in-Some.place (search rules) (search rules) (c.in_ok-reindex.ensures.form ∙ c.in_ok-detach_all.ensures.form) (search rules) (search rules))
    (one-made _ _ _ _ _ _ c.one.ensures c.in_ok-event-in-Some.ensures)
