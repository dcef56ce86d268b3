use Rattle.std.proofs.Common.{take, slice_index_or, inl, inr, sym, ap, ◌∙◌}
use Rattle.std.proofs.lemmas.List.{take_more}
use Rattle.xf_graph.specs.Edges.{has}
use Rattle.xf_graph.specs.Marks.{mark_of}
use Rattle.xf_graph.proofs.HasLists.{has-push_cases}
use Rattle.xf_graph.proofs.peel.all_marked.Goals as goal

pub loop-vertex-preserved : goal.loop-vertex-preserved
loop-vertex-preserved c = λ v h z.
    let vs = c.args.vertices.now in
    let i = c.loop-vertex.vertex-index in
    elim (has-push_cases (take i vs) (slice_index_or vs i 0) v (sym (ap (λ l. has l v) (take_more vs i 0 c.loop-vertex-test.true)) ∙ h)) [
      | inl q ↦ c.loop-vertex.invariant v q z
      | inr e ↦ c.if-get-eq0.false (c.get.ensures ∙ (ap (mark_of c.args.marks.now) e ∙ z))
    ]
