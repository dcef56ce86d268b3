use Rattle.std.proofs.Common.{map, drop, sym, ◌∙◌, arith}
use Rattle.xf_def_machine.specs.Insert.{put_copy}
use Rattle.xf_actions.specs.Seen.{place_of}
use Rattle.xf_actions.proofs.Flow.{stopped, same-refuses}
use Rattle.xf_actions.proofs.Trees.{put-read, put-read_stop, put-short, put-end}
use Rattle.xf_actions.proofs.insert.put_copies.Goals as goal

pub returns-in_err-put_copy-in-Some-clause-done : goal.returns-in_err-put_copy-in-Some-clause-done
returns-in_err-put_copy-in-Some-clause-done g c =
    stopped _ _ _ _ _ c.from_residual.ensures.1
    (same-refuses _ _ _ _ c.loop-at.invariant.rest
    (put-read_stop (put_copy g.W.World.profile c.args.tops.now) place_of c.args.places.now c.args.tops.now c.loop-at.at _ c.in-Some.top.number (g.W.World.state c.loop-at.world) _ _ (omega arith) (sym c.in-Some.ensures) c.in_err-put_copy-in-Some.ensures.done))

pub returns-in-None-clause-done : goal.returns-in-None-clause-done
returns-in-None-clause-done g c =
    c.loop-at.invariant.rest ∙ put-short (put_copy g.W.World.profile c.args.tops.now) (drop c.loop-at.at (map place_of c.args.places.now)) c.args.tops.now c.loop-at.at (g.W.World.state c.loop-at.world) (sym c.in-None.ensures)

pub loop-at-preserved : goal.loop-at-preserved
loop-at-preserved g c = record {
  rest =
      c.loop-at.invariant.rest
      ∙ put-read (put_copy g.W.World.profile c.args.tops.now) place_of c.args.places.now c.args.tops.now c.loop-at.at _ c.in-Some.top.number (g.W.World.state c.loop-at.world) (g.W.World.state c.put_copy.new.world) (omega arith) (sym c.in-Some.ensures) c.in_ok-put_copy-in-Some.ensures.done;
  kept = c.in_ok-put_copy-in-Some.ensures.kept ∙ c.loop-at.invariant.kept;
  form = c.in_ok-put_copy-in-Some.ensures.form ∙ c.loop-at.invariant.form;
  calls = c.in_ok-put_copy-in-Some.ensures.calls ∙ c.loop-at.invariant.calls;
}

pub returns-clause-done : goal.returns-clause-done
returns-clause-done g c =
    c.loop-at.invariant.rest ∙ put-end (put_copy g.W.World.profile c.args.tops.now) place_of c.args.places.now (drop c.loop-at.at c.args.tops.now) c.loop-at.at (g.W.World.state c.loop-at.world) (omega arith)
