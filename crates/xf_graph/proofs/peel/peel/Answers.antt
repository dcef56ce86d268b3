use Rattle.std.proofs.Common.{◌≡◌, ℕ, ◌<◌, true, [], slice_index_or, sym, ◌∙◌, subst}
use Rattle.xf_graph.specs.Edges.{has, has_edge}
use Rattle.xf_graph.specs.Marks.{mark_of}
use Rattle.xf_graph.specs.Search.{PutsSome}
use Rattle.xf_graph.proofs.PeelLemmas.{AreQueued, AreQueued-first, AreQueued-less, AreQueued-more, ArePeeled-more, to_peel, to_peel-more}
use Rattle.xf_graph.proofs.peel.peel.Goals as goal

pub loop-vertex-init : goal.loop-vertex-init
loop-vertex-init c = record { peeled = c.requires.old; queued = AreQueued-first c.args.ahead.now c.in_ok-queue.queue.items }

pub loop-vertex-preserved-then-get-ne0 : goal.loop-vertex-preserved-then-get-ne0
loop-vertex-preserved-then-get-ne0 c =
    let g = c.args.ahead.now in
    let first = c.in_ok-queue.queue.items in
    record {
      peeled = c.loop-vertex.invariant.peeled;
      queued = AreQueued-less g first c.pop.new.self.items c.in-Some.vertex (subst (AreQueued g first) c.in-Some.ensures.items c.loop-vertex.invariant.queued);
    }

pub loop-vertex-preserved-then-not-all_marked : goal.loop-vertex-preserved-then-not-all_marked
loop-vertex-preserved-then-not-all_marked c =
    let g = c.args.ahead.now in
    let first = c.in_ok-queue.queue.items in
    record {
      peeled = c.loop-vertex.invariant.peeled;
      queued = AreQueued-less g first c.pop.new.self.items c.in-Some.vertex (subst (AreQueued g first) c.in-Some.ensures.items c.loop-vertex.invariant.queued);
    }

-- the queue after a vertex was marked
puts : (c : goal.In_ok-count_down) → PutsSome (slice_index_or c.args.ahead.now c.in-Some.vertex []) c.pop.new.self.items c.count_down.new.queue.items
puts c = subst (λ l. PutsSome l c.pop.new.self.items c.count_down.new.queue.items) (c.deref-in-Some.ensures.value ∙ c.in_ok-copy_at-2.ensures) c.in_ok-count_down.ensures

pub loop-vertex-preserved : goal.loop-vertex-preserved
loop-vertex-preserved c =
    let g = c.args.ahead.now in
    let first = c.in_ok-queue.queue.items in
    let v = c.in-Some.vertex in
    let all : (w : ℕ) → has_edge c.args.behind.now v w ≡ true → mark_of c.loop-vertex.peeled w ≡ 0 → ⊥ =
    subst (λ l. (w : ℕ) → has l w ≡ true → mark_of c.loop-vertex.peeled w ≡ 0 → ⊥) (c.deref.ensures.value ∙ c.in_ok-copy_at.ensures) (c.all_marked.ensures c.if-not-all_marked.false) in
    record {
      peeled = ArePeeled-more g c.args.behind.now (mark_of c.loop-vertex.peeled) (mark_of c.set.new.self) v c.loop-vertex.invariant.peeled c.requires.turned all c.in_ok-set.ensures;
      queued = AreQueued-more g first c.pop.new.self.items c.count_down.new.queue.items v (subst (AreQueued g first) c.in-Some.ensures.items c.loop-vertex.invariant.queued) (puts c);
    }

pub loop-vertex-smaller : goal.loop-vertex-smaller
loop-vertex-smaller c =
    let g = c.args.ahead.now in
    let first = c.in_ok-queue.queue.items in
    let m = mark_of c.loop-vertex.peeled in
    let marked = mark_of c.set.new.self in
    subst (λ q. to_peel g first marked c.count_down.new.queue.items < to_peel g first m q) (sym c.in-Some.ensures.items)
    (to_peel-more g first c.pop.new.self.items c.count_down.new.queue.items m marked c.in-Some.vertex
    (subst (AreQueued g first) c.in-Some.ensures.items c.loop-vertex.invariant.queued) (puts c) (sym c.get.ensures ∙ c.if-get-ne0.false) c.in_ok-set.ensures)
