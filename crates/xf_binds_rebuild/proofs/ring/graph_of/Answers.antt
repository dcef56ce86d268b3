use Rattle.std.proofs.Common.{◌≡◌, ◌<◌, ◌≤◌, ◌==◌, ◌&&◌, ◌||◌, ◌∙◌, ◌∷◌, Some, map, length, ap, sym, subst, arith}
use Rattle.std.specs.Prelude.{slice_get}
use Rattle.xf_graph.specs.Edges.{HasEdges}
use Rattle.xf_binds.specs.Held.{entries_in}
use Rattle.xf_binds_rebuild.specs.Links.{Source, source_on}
use Rattle.xf_binds_rebuild.specs.Readers.{edges_before, reads_one}
use Rattle.xf_binds_rebuild.proofs.Linked.{before-all, before-next, before-none, item-got, links-at, mapped-length, read-within}
use Rattle.xf_binds_rebuild.proofs.ring.graph_of.Goals as goal

pub link_source-requires-clause-readers : goal.link_source-requires-clause-readers
link_source-requires-clause-readers c = λ n place h.
    let f = source_on (entries_in c.args.applied.now) c.args.web.now in
    let l = read-within (map f c.args.nodes.now) place n (sym (c.in_ok-readers.ensures n place) ∙ h) in
    omega (arith, l, mapped-length f c.args.nodes.now, c.loop-place.invariant.size)

pub link_source-requires-clause-place : goal.link_source-requires-clause-place
link_source-requires-clause-place c = omega (arith, c.loop-place-test.true, c.len-count.ensures, c.loop-place.invariant.size)

pub loop-place-init : goal.loop-place-init
loop-place-init c =
    let h = c.in_ok-graph.ensures in
    record { size = h.size ∙ c.len-count.ensures; edges = λ from to. h.edges from to ∙ before-none (map (source_on (entries_in c.args.applied.now) c.args.web.now) c.args.nodes.now) from to }

pub loop-place-preserved : goal.loop-place-preserved
loop-place-preserved c =
    let h = c.in_ok-link_source.ensures in
    let f = source_on (entries_in c.args.applied.now) c.args.web.now in
    let sources = map f c.args.nodes.now in
    let at = c.loop-place.place in
    let source : Source = source_on (entries_in c.args.applied.now) c.args.web.now c.at.result.number in
    let here : slice_get sources at ≡ Some source = item-got f c.args.nodes.now at c.at.result.number c.at.ensures in
    record {
      size = h.size ∙ c.loop-place.invariant.size;
      edges = λ from to.
          h.edges from to
          ∙ ap (λ b. ((at == from) && reads_one c.in_ok-readers.readers (source.node ∷ source.asks.above) to) || b) (c.loop-place.invariant.edges from to)
          ∙ before-next sources at from to (reads_one c.in_ok-readers.readers (source.node ∷ source.asks.above) to) (links-at sources c.in_ok-readers.readers at to source c.in_ok-readers.ensures here);
    }

pub returns : goal.returns
returns c =
    let f = source_on (entries_in c.args.applied.now) c.args.web.now in
    let all : length (map f c.args.nodes.now) ≤ c.loop-place.place = omega (arith, c.loop-place-test.false, c.len-count.ensures, mapped-length f c.args.nodes.now) in
    record { size = c.loop-place.invariant.size; edges = λ from to. c.loop-place.invariant.edges from to ∙ before-all (map f c.args.nodes.now) c.loop-place.place from to all }
