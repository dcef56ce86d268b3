use Rattle.std.proofs.Common.{◌∙◌, arith, rules}
use Rattle.xf_actions.specs.Seen.{place_of}
use Rattle.xf_actions.proofs.Flow.{makes-stopped, same-refuses, refuses-none}
use Rattle.xf_actions.proofs.Trees.{copies-begin, copies-read, copies-read_stop, copies-placed_all}
use Rattle.xf_actions.proofs.insert.copies.Goals as goal

pub loop-place-init : goal.loop-place-init
loop-place-init g c = record { rest = copies-begin _ _ (search rules); kept = search rules; form = search rules; calls = search rules }

pub returns-in_err-top-clause-done : goal.returns-in_err-top-clause-done
returns-in_err-top-clause-done g c =
    makes-stopped _ _ _ _ _ _ c.from_residual.ensures.1
    (same-refuses _ _ _ _ c.loop-place.invariant.rest
    (copies-read_stop g.W.World.profile place_of c.args.places.now c.loop-place.place-index _ c.loop-place.tops (g.W.World.state c.loop-place.world) _ _ (omega arith) c.in_err-top.ensures.done))

pub returns-in-Err-clause-done : goal.returns-in-Err-clause-done
returns-in-Err-clause-done g c = refuses-none _ _ _ c.memory.ensures

pub loop-place-preserved : goal.loop-place-preserved
loop-place-preserved g c = record {
  rest =
      c.loop-place.invariant.rest
      ∙ copies-read g.W.World.profile place_of c.args.places.now c.loop-place.place-index _ c.loop-place.tops _ c.in_ok-top.top.number (g.W.World.state c.loop-place.world) (g.W.World.state c.copy.new.self) (omega arith) c.in_ok-top.ensures.done
      c.in-Ok.ensures.ok;
  kept = c.in_ok-top.ensures.kept ∙ c.loop-place.invariant.kept;
  form = c.in_ok-top.ensures.form ∙ c.loop-place.invariant.form;
  calls = c.in_ok-top.ensures.calls ∙ c.loop-place.invariant.calls;
}

pub returns-clause-done : goal.returns-clause-done
returns-clause-done g c =
    c.loop-place.invariant.rest ∙ copies-placed_all g.W.World.profile place_of c.args.places.now c.loop-place.place-index c.loop-place.tops (g.W.World.state c.loop-place.world) (omega arith)
