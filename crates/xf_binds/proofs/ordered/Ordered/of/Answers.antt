use Rattle.std.proofs.Common.{sym, subst}
use Rattle.xf_binds.specs.Held.{entries_in}
use Rattle.xf_binds.specs.Turns.{AreInTurn}
use Rattle.xf_binds.proofs.ordered.Ordered.of.Goals as goal

pub invariant_of-result : goal.invariant_of-result
invariant_of-result c = (
  record {
    nodes = c.args.order;
    in_turn = subst (λ a. AreInTurn (entries_in a) c.args.web c.args.order) (sym c.in_ok-bring_near.ensures) c.requires;
    told = record { placed = c.in_ok-turns.ensures.placed; seated = c.in_ok-turns.ensures.seated };
  },
  c.in_ok-readers.ensures,
)
