use Rattle.std.proofs.Common.{◌≡◌, suc, ◌-◌, ◌<◌, true, [], ◌∷◌, ◌++◌, Some, sym, ap, ◌∙◌, subst, arith, append_assoc}
use Rattle.std.proofs.lemmas.List.{append-nil}
use Rattle.xf_graph.specs.Edges.{has_edge}
use Rattle.xf_graph.specs.Marks.{mark_of}
use Rattle.xf_graph.specs.Search.{IsTrace, IsLeastWith}
use Rattle.xf_graph.proofs.CycleLemmas.{IsTraced-next, IsTraced-end}
use Rattle.xf_graph.proofs.cycle.trace.Goals as goal

pub loop-mark-preserved : goal.loop-mark-preserved
loop-mark-preserved c =
    let g = c.args.graph.now in
    let m = mark_of c.args.marks.now in
    let t = c.args.target in
    let next = c.unwrap-next.result in
    let value = c.loop-mark.mark in
    let cycle = c.loop-mark.cycle.items in
    let vs = c.copy_sources.new.buffer.items in
    let more : 1 < value = c.loop-mark-test.true in
    let least : IsLeastWith vs m value (Some next) =
    subst (IsLeastWith vs m value) c.unwrap-next.ensures (subst (λ l. IsLeastWith l m value c.least_with.result) c.deref.ensures.value c.least_with.ensures) in
    let edge : has_edge g next c.loop-mark.reader ≡ true = sym (c.in_ok-copy_sources.ensures next) ∙ least.0 in
    let two : value ≡ suc (suc (value - 2)) = omega arith in
    let source = c.requires.measured.before next (value - 2) (least.1 ∙ two) in
    record {
      so_far = λ rest traced.
          subst (IsTrace g m t c.args.limit) (sym (ap (λ q. q ++ rest) c.in_ok-push-2.ensures.items ∙ append_assoc cycle (next ∷ []) rest))
          (c.loop-mark.invariant.so_far (next ∷ rest)
          (IsTraced-next g t m c.args.limit c.loop-mark.reader next value (value - 1) rest (omega arith) (omega arith) edge least.1
          (λ other h n. least.2 other (c.in_ok-copy_sources.ensures other ∙ h) n) traced));
      source = (source.0, source.1, (let e = source.2 in omega arith));
      positive = omega arith;
    }

pub returns : goal.returns
returns c =
    let g = c.args.graph.now in
    let m = mark_of c.args.marks.now in
    let t = c.args.target in
    let one : c.loop-mark.mark ≡ 1 = omega (arith, c.loop-mark-test.false, c.loop-mark.invariant.positive) in
    let source = c.loop-mark.invariant.source in
    let edge = ap (λ w. has_edge g w c.loop-mark.reader) (sym (c.requires.measured.one source.0 (source.2 ∙ one))) ∙ source.1 in
    subst (IsTrace g m t c.args.limit) (append-nil c.loop-mark.cycle.items)
    (c.loop-mark.invariant.so_far [] (IsTraced-end g t m c.args.limit c.loop-mark.reader c.loop-mark.mark one edge))
