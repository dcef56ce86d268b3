use Rattle.std.proofs.Common.{◌≡◌, Some, None, ap, subst, map, ◌∙◌}
use Rattle.xf_def_machine.specs.Cycles.{reported_cycle}
use Rattle.xf_graph.specs.Order.{IsOrder}
use Rattle.xf_binds.specs.Held.{entries_in}
use Rattle.xf_binds_rebuild.specs.Links.{links, nodes_in, ring_of, source_on}
use Rattle.xf_binds_rebuild.specs.Order.{IsInOrder, IsToldOf}
use Rattle.xf_binds_rebuild.proofs.Linked.{in-order-some, ring-is, told-is}
use Rattle.xf_binds_rebuild.proofs.ring.sort_nodes.Goals as goal

pub returns-in-Sorted-clause-ring : goal.returns-in-Sorted-clause-ring
returns-in-Sorted-clause-ring c =
    let entries = entries_in c.args.applied.now in
    let web = c.args.web.now in
    let nodes = c.in_ok-nodes.nodes in
    let told : (reported_cycle (links (map (source_on entries web) nodes)) ≡ None) × IsOrder (links (map (source_on entries web) nodes)) c.in-Sorted.places =
    subst (IsToldOf (links (map (source_on entries web) nodes))) c.in-Sorted.is (told-is entries web nodes c.in_ok-graph.graph c.in_ok-told.told c.in_ok-graph.ensures c.in_ok-told.ensures) in
    ring-is entries web nodes None told.0 ∙ ap (λ ns. ring_of (map (source_on entries web) ns)) c.in_ok-nodes.ensures

pub returns-in-Sorted-clause-turns : goal.returns-in-Sorted-clause-turns
returns-in-Sorted-clause-turns c =
    let entries = entries_in c.args.applied.now in
    let web = c.args.web.now in
    let nodes = c.in_ok-nodes.nodes in
    let told : (reported_cycle (links (map (source_on entries web) nodes)) ≡ None) × IsOrder (links (map (source_on entries web) nodes)) c.in-Sorted.places =
    subst (IsToldOf (links (map (source_on entries web) nodes))) c.in-Sorted.is (told-is entries web nodes c.in_ok-graph.graph c.in_ok-told.told c.in_ok-graph.ensures c.in_ok-told.ensures) in
    subst (λ ns. IsInOrder (map (source_on entries web) ns) (Some c.in_ok-found-in-Sorted.found)) c.in_ok-nodes.ensures
    (in-order-some entries web nodes c.in-Sorted.places c.in_ok-found-in-Sorted.found told.1 (c.in_ok-found-in-Sorted.ensures ∙ ap (nodes_in nodes) c.as_slice.ensures))

pub returns-clause-ring : goal.returns-clause-ring
returns-clause-ring c =
    let entries = entries_in c.args.applied.now in
    let web = c.args.web.now in
    let nodes = c.in_ok-nodes.nodes in
    let told : reported_cycle (links (map (source_on entries web) nodes)) ≡ Some c.in-Cycle.places =
    subst (IsToldOf (links (map (source_on entries web) nodes))) c.in-Cycle.is (told-is entries web nodes c.in_ok-graph.graph c.in_ok-told.told c.in_ok-graph.ensures c.in_ok-told.ensures) in
    ap Some (c.in_ok-found-in-Cycle.ensures ∙ ap (nodes_in nodes) c.as_slice-in-Cycle.ensures)
    ∙ ring-is entries web nodes (Some c.in-Cycle.places) told ∙ ap (λ ns. ring_of (map (source_on entries web) ns)) c.in_ok-nodes.ensures
