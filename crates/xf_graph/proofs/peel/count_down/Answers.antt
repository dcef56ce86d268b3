use Rattle.std.proofs.Common.{take, slice_index_or, ◌∷◌, [], ◌++◌, sym, subst}
use Rattle.std.proofs.lemmas.List.{take_more}
use Rattle.xf_graph.specs.Search.{PutsSome}
use Rattle.xf_graph.proofs.PeelLemmas.{PutsSome-passed, PutsSome-more}
use Rattle.xf_graph.proofs.peel.count_down.Goals as goal

pub loop-vertex-preserved-then-place-counts : goal.loop-vertex-preserved-then-place-counts
loop-vertex-preserved-then-place-counts c =
    let vs = c.args.vertices.now in
    let i = c.loop-vertex.vertex-index in
    subst (λ l. PutsSome l c.args.queue.now.items c.loop-vertex.queue.items) (sym (take_more vs i 0 c.loop-vertex-test.true))
    (PutsSome-passed (take i vs) c.args.queue.now.items c.loop-vertex.queue.items (slice_index_or vs i 0) c.loop-vertex.invariant)

pub loop-vertex-preserved-then-count-gt0 : goal.loop-vertex-preserved-then-count-gt0
loop-vertex-preserved-then-count-gt0 c =
    let vs = c.args.vertices.now in
    let i = c.loop-vertex.vertex-index in
    subst (λ l. PutsSome l c.args.queue.now.items c.loop-vertex.queue.items) (sym (take_more vs i 0 c.loop-vertex-test.true))
    (PutsSome-passed (take i vs) c.args.queue.now.items c.loop-vertex.queue.items (slice_index_or vs i 0) c.loop-vertex.invariant)

pub loop-vertex-preserved : goal.loop-vertex-preserved
loop-vertex-preserved c =
    let vs = c.args.vertices.now in
    let i = c.loop-vertex.vertex-index in
    subst (λ l. PutsSome l c.args.queue.now.items c.push.new.self.items) (sym (take_more vs i 0 c.loop-vertex-test.true))
    (subst (λ q. PutsSome (take i vs ++ slice_index_or vs i 0 ∷ []) c.args.queue.now.items q) (sym c.in_ok-push.ensures.items)
    (PutsSome-more (take i vs) c.args.queue.now.items c.loop-vertex.queue.items (slice_index_or vs i 0) c.loop-vertex.invariant))
