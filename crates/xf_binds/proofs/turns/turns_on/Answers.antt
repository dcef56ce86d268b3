use Rattle.std.proofs.Common.{◌++◌, ◌∙◌, ap, sym}
use Rattle.xf_binds.specs.Held.{entries_in}
use Rattle.xf_binds.specs.Placed.{placed_from}
use Rattle.xf_binds.proofs.Placings.{on-next}
use Rattle.xf_binds.proofs.turns.turns_on.Goals as goal

pub loop-at-preserved : goal.loop-at-preserved
loop-at-preserved c =
    let entries = entries_in c.args.applied.now in
    record {
      placed = c.in_ok-push_turn.ensures.placed ∙ ap (λ l. l ++ placed_from 0 entries c.at.result.number) c.loop-at.invariant.placed
          ∙ sym (on-next entries c.loop-at.at c.args.nodes.now c.at.result.number c.at.ensures);
      seated = c.in_ok-push_turn.ensures.seated c.loop-at.invariant.seated;
    }
