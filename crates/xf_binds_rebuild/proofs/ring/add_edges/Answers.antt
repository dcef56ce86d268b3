use Rattle.std.proofs.Common.{◌<◌, ◌==◌, [], length, get_or, ap, sym, subst, take, take_all, refl, arith}
use Rattle.xf_graph.specs.Edges.{has, HasEdges}
use Rattle.xf_binds_rebuild.specs.Readers.{edge_with}
use Rattle.xf_binds_rebuild.proofs.Linked.{edges-none, edges-more, has-next, has-there}
use Rattle.xf_binds_rebuild.proofs.ring.add_edges.Goals as goal

pub add_edge-requires-clause-from : goal.add_edge-requires-clause-from
add_edge-requires-clause-from c = subst (λ n. c.args.vertex < n) (sym c.loop-other.invariant.size) c.requires.vertex

pub add_edge-requires-clause-to : goal.add_edge-requires-clause-to
add_edge-requires-clause-to c =
    subst (λ n. get_or c.args.others.now c.loop-other.other-index 0 < n) (sym c.loop-other.invariant.size)
    (c.requires.others (get_or c.args.others.now c.loop-other.other-index 0) (has-there c.args.others.now c.loop-other.other-index 0 c.loop-other-test.true))

pub loop-other-init : goal.loop-other-init
loop-other-init c = edges-none c.args.graph.now c.args.vertex (has []) (λ r. refl)

pub loop-other-preserved : goal.loop-other-preserved
loop-other-preserved c =
    edges-more c.args.graph.now c.loop-other.graph c.add_edge.new.self c.args.vertex (length c.args.graph.now) (λ r. get_or c.args.others.now c.loop-other.other-index 0 == r)
    (has (take c.loop-other.other-index c.args.others.now)) (has (take _ c.args.others.now)) c.loop-other.invariant c.in_ok-add_edge.ensures.ok
    (λ r. has-next c.args.others.now c.loop-other.other-index 0 r c.loop-other-test.true)

pub returns : goal.returns
returns c =
    subst (λ l. HasEdges c.loop-other.graph (length c.args.graph.now) (edge_with c.args.graph.now c.args.vertex (has l)))
    (take_all c.loop-other.other-index c.args.others.now c.loop-other-test.false) c.loop-other.invariant
