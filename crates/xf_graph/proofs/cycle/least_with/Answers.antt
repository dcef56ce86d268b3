use Rattle.std.proofs.Common.{Some, slice_index_or, take, sym, subst, ◌∙◌}
use Rattle.std.proofs.lemmas.List.{take_more}
use Rattle.xf_graph.specs.Marks.{mark_of}
use Rattle.xf_graph.specs.Search.{IsLeastWith}
use Rattle.xf_graph.proofs.SearchLemmas.{IsLeastWith-passed, IsLeastWith-more}
use Rattle.xf_graph.proofs.cycle.least_with.Goals as goal

pub loop-vertex-preserved-then-get-mark : goal.loop-vertex-preserved-then-get-mark
loop-vertex-preserved-then-get-mark c =
    let vs = c.args.vertices.now in
    let i = c.loop-vertex.vertex-index in
    subst (λ l. IsLeastWith l (mark_of c.args.marks.now) c.args.mark c.loop-vertex.least) (sym (take_more vs i 0 c.loop-vertex-test.true))
    (IsLeastWith-passed (take i vs) (mark_of c.args.marks.now) c.args.mark (slice_index_or vs i 0) c.loop-vertex.least c.loop-vertex.invariant
    (λ e. c.if-get-mark.true (c.get.ensures ∙ e)))

pub loop-vertex-preserved : goal.loop-vertex-preserved
loop-vertex-preserved c =
    let vs = c.args.vertices.now in
    let i = c.loop-vertex.vertex-index in
    subst (λ l. IsLeastWith l (mark_of c.args.marks.now) c.args.mark (Some c.lesser.result)) (sym (take_more vs i 0 c.loop-vertex-test.true))
    (IsLeastWith-more (take i vs) (mark_of c.args.marks.now) c.args.mark (slice_index_or vs i 0) c.loop-vertex.least c.lesser.result c.loop-vertex.invariant
    (sym c.get.ensures ∙ c.if-get-mark.false) c.lesser.ensures)
