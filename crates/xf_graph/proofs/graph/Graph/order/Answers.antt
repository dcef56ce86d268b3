use Rattle.std.proofs.Common.{nat_lt, MatchOption, sym, ap, ◌∙◌, subst}
use Rattle.xf_graph.specs.Order.{IsOrder}
use Rattle.xf_graph.specs.Cycle.{HasCycle}
use Rattle.xf_graph.specs.Pertinent.{IsPertinent}
use Rattle.xf_graph.proofs.Laws.{IsAcyclic-from_order}
use Rattle.xf_graph.proofs.OrderLemmas.{IsOrder-pertinent}
use Rattle.xf_graph.proofs.graph.Graph.order.Goals as goal

-- the answer of a walk over all vertices is an order
sorted : (c : goal.After-drop-roots-in-Some) → IsOrder c.args.self.now c.from_vec.result
sorted c =
    let g = c.args.self.now in
    let roots = c.in_ok-roots.roots.items in
    let found : IsPertinent c.readers.result.now c.deref.result.now c.in-Some.vertices.items =
    subst (λ o. MatchOption o (HasCycle c.readers.result.now) (λ vertices. IsPertinent c.readers.result.now c.deref.result.now vertices.items)) c.in-Some.is c.in_ok-vertices.ensures in
    let reached : IsPertinent g roots c.in-Some.vertices.items =
    subst (λ h. IsPertinent h roots c.in-Some.vertices.items) c.readers.ensures
    (subst (λ r. IsPertinent c.readers.result.now r c.in-Some.vertices.items) c.deref.ensures.value found) in
    subst (IsOrder g) (sym c.from_vec.ensures)
    (IsOrder-pertinent g roots c.size-size.ensures.within (λ v. c.in_ok-roots.ensures v ∙ ap (nat_lt v) c.size-size.ensures.count) c.in-Some.vertices.items reached)

pub returns-in-Some-clause-answer : goal.returns-in-Some-clause-answer
returns-in-Some-clause-answer c = sorted c

pub returns-in-Some-clause-acyclic : goal.returns-in-Some-clause-acyclic
returns-in-Some-clause-acyclic c = IsAcyclic-from_order c.args.self.now c.size-size.ensures.within c.from_vec.result (sorted c)
