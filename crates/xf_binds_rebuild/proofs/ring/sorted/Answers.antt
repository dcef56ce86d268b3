use Rattle.std.proofs.Common.{subst}
use Rattle.xf_graph.specs.Answer.{IsAnswer, OnSorted}
use Rattle.xf_graph.specs.Cycle.{IsAcyclic}
use Rattle.xf_binds_rebuild.proofs.Rings.{cycle-as_told, none-as_told, order-as_told}
use Rattle.xf_binds_rebuild.proofs.ring.sorted.Goals as goal

pub returns-in-Sorted : goal.returns-in-Sorted
returns-in-Sorted c = λ other edges. (
  none-as_told c.args.graph.now other edges (subst (λ o. OnSorted o (IsAcyclic c.args.graph.now)) c.in-Sorted.is c.in_ok-places.ensures.acyclic),
  order-as_told c.args.graph.now other c.in-Sorted.places edges (subst (λ o. IsAnswer c.args.graph.now o) c.in-Sorted.is c.in_ok-places.ensures.answer),
)

pub returns-in-Cycle : goal.returns-in-Cycle
returns-in-Cycle c = λ other edges.
    cycle-as_told c.args.graph.now other c.in-Cycle.places edges c.size.ensures.within (subst (λ o. IsAnswer c.args.graph.now o) c.in-Cycle.is c.in_ok-places.ensures.answer)
