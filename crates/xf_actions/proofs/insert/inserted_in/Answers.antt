use Rattle.std.proofs.Common.{map, ◌∙◌, rules}
use Rattle.xf_actions.specs.Seen.{place_of}
use Rattle.xf_actions.proofs.Flow.{makes-stopped, refuses-any, one-made}
use Rattle.xf_actions.proofs.Rounds.{same-makes}
use Rattle.xf_actions.proofs.Trees.{inserted-uncopied, inserted-unput, inserted-reindex_stops, inserted-quiet, inserted-told}
use Rattle.xf_actions.proofs.insert.inserted_in.Goals as goal

pub returns-in_err-tops-clause-done : goal.returns-in_err-tops-clause-done
returns-in_err-tops-clause-done g c =
    makes-stopped _ _ _ _ _ _ c.from_residual.ensures.1
    (inserted-uncopied g.W.World.profile c.args.inserting.now.is_before c.args.inserting.now.location c.args.parent.number (map place_of c.args.inserting.now.places) (g.W.World.state c.args.world.now) _ _ (rw c.as_slice.ensures at c.in_err-tops.ensures.done))

pub returns-in_err-put_copies-clause-done : goal.returns-in_err-put_copies-clause-done
returns-in_err-put_copies-clause-done g c =
    makes-stopped _ _ _ _ _ _ c.from_residual-in_err-put_copies.ensures.1
    (inserted-unput g.W.World.profile c.args.inserting.now.is_before c.args.inserting.now.location c.args.parent.number (map place_of c.args.inserting.now.places) (g.W.World.state c.args.world.now) (g.W.World.state c.copies.new.world) c.in_ok-tops.tops _ _ (search rules) (rw c.as_slice-2.ensures at c.in_err-put_copies.ensures.done))

pub returns-in_err-reindex-clause-done : goal.returns-in_err-reindex-clause-done
returns-in_err-reindex-clause-done g c =
    makes-stopped _ _ _ _ _ _ c.from_residual-in_err-reindex.ensures.1
    (inserted-reindex_stops g.W.World.profile c.args.inserting.now.is_before c.args.inserting.now.location c.args.parent.number (map place_of c.args.inserting.now.places) (g.W.World.state c.args.world.now) (g.W.World.state c.copies.new.world) (g.W.World.state c.put_copies.new.world) c.in_ok-tops.tops _ _ (search rules) (search rules) c.in_err-reindex.ensures.done)

pub returns-in_err-event-in-Some-clause-done : goal.returns-in_err-event-in-Some-clause-done
returns-in_err-event-in-Some-clause-done g c =
    makes-stopped _ _ _ _ _ _ c.from_residual-in_err-event-in-Some.ensures.1 (refuses-any _ _ _ _ c.in_err-event-in-Some.ensures)

pub returns-in-None-clause-done : goal.returns-in-None-clause-done
returns-in-None-clause-done g c =
    inserted-quiet g.W.World.profile c.args.inserting.now.is_before c.args.inserting.now.location c.args.parent.number (map place_of c.args.inserting.now.places) (g.W.World.state c.args.world.now) (g.W.World.state c.copies.new.world) (g.W.World.state c.put_copies.new.world) (g.W.World.state c.reindex.new.self) c.in_ok-tops.tops c.instance_holding-instance.result (search rules) (search rules) (search rules) (search rules) (search rules) ∙ (search rules)

pub returns-clause-done : goal.returns-clause-done
returns-clause-done g c =
    same-makes _ _ _ _ _ _ (inserted-told g.W.World.profile c.args.inserting.now.is_before c.args.inserting.now.location c.args.parent.number (map place_of c.args.inserting.now.places) (g.W.World.state c.args.world.now) (g.W.World.state c.copies.new.world) (g.W.World.state c.put_copies.new.world) (g.W.World.state c.reindex.new.self) c.in_ok-tops.tops c.instance_holding-instance.result c.in-Some.place (search rules) (search rules) (search rules) (search rules) (search rules))
    (one-made _ _ _ _ _ _ c.one.ensures c.in_ok-event-in-Some.ensures)
