use Rattle.std.proofs.Common.{◌∷◌, [], ◌++◌, slice_index_or, take, sym, subst, ◌∙◌}
use Rattle.std.proofs.lemmas.List.{take_more}
use Rattle.xf_graph.specs.Marks.{mark_of}
use Rattle.xf_graph.specs.Search.{MarksNew}
use Rattle.xf_graph.proofs.SearchLemmas.{MarksNew-passed, MarksNew-more}
use Rattle.xf_graph.proofs.cycle.mark_new.Goals as goal

pub loop-vertex-preserved-then-get-ne0 : goal.loop-vertex-preserved-then-get-ne0
loop-vertex-preserved-then-get-ne0 c =
    let vs = c.args.vertices.now in
    let i = c.loop-vertex.vertex-index in
    subst (λ l. MarksNew l c.args.mark (mark_of c.args.marks.now) (mark_of c.loop-vertex.marks) c.args.queue.now.items c.loop-vertex.queue.items)
    (sym (take_more vs i 0 c.loop-vertex-test.true))
    (MarksNew-passed (take i vs) c.args.mark (mark_of c.args.marks.now) (mark_of c.loop-vertex.marks) c.args.queue.now.items c.loop-vertex.queue.items
    c.requires c.loop-vertex.invariant (slice_index_or vs i 0) (λ e. c.if-get-ne0.true (c.get.ensures ∙ e)))

pub loop-vertex-preserved : goal.loop-vertex-preserved
loop-vertex-preserved c =
    let vs = c.args.vertices.now in
    let i = c.loop-vertex.vertex-index in
    let old = mark_of c.args.marks.now in
    let queue = c.args.queue.now.items in
    subst (λ l. MarksNew l c.args.mark old (mark_of c.set.new.self) queue c.push.new.self.items)
    (sym (take_more vs i 0 c.loop-vertex-test.true))
    (subst (λ q. MarksNew (take i vs ++ slice_index_or vs i 0 ∷ []) c.args.mark old (mark_of c.set.new.self) queue q)
    (sym c.in_ok-push.ensures.items)
    (MarksNew-more (take i vs) c.args.mark old (mark_of c.loop-vertex.marks) queue c.loop-vertex.queue.items
    c.requires c.loop-vertex.invariant (slice_index_or vs i 0) (mark_of c.set.new.self) (sym c.get.ensures ∙ c.if-get-ne0.false) c.in_ok-set.ensures))
