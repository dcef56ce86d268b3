use Rattle.std.proofs.Common.{◌≡◌, ◌+◌, ◌<◌, ◌≤◌, [], ◌∷◌, ◌++◌, length, drop, slice_index_or, refl, sym, ap, ◌∙◌, subst, arith, length-append}
use Rattle.std.proofs.lemmas.List.{drop-append-le, drop_all}
use Rattle.xf_graph.specs.Marks.{mark_of}
use Rattle.xf_graph.specs.Search.{MarksNew, IsMeasured}
use Rattle.xf_graph.proofs.WalkState.{unmarked_cost, joined}
use Rattle.xf_graph.proofs.MeasureLemmas.{IsSearch, IsSearch-begins, IsMeasured-found, at_positive, IsSearch-spread, IsMeasured-all, IsOnNoCycle-from_all, drop_next, cost_falls, spent}
use Rattle.xf_graph.proofs.cycle.measure.Goals as goal

pub loop-at-init : goal.loop-at-init
loop-at-init c =
    let g = c.args.readers.now in
    let m = mark_of c.set.new.self in
    let e : c.push.new.self.items ≡ c.args.target ∷ [] = c.in_ok-push.ensures.items ∙ ap (λ q. q ++ c.args.target ∷ []) c.new-queue.ensures.items in
    record {
      search = subst (λ q. IsSearch g c.args.target m q (length q)) (sym e)
          (IsSearch-begins g c.args.target (mark_of c.in_ok-marks.marks) m c.in_ok-marks.ensures c.in_ok-set.ensures);
      within = omega arith;
    }

pub returns-then-has_at : goal.returns-then-has_at
returns-then-has_at c =
    let g = c.args.readers.now in
    let t = c.args.target in
    let m = mark_of c.loop-at.marks in
    let q = c.loop-at.queue.items in
    let x = c.index-vertex.result.now in
    let ok = c.loop-at.queue.ok in
    let within : c.loop-at.at < length q = omega (arith, c.loop-at-test.true, c.len.ensures) in
    let now : IsSearch g t m (x ∷ drop (c.loop-at.at + 1) q) (length q) =
    subst (λ l. IsSearch g t m l (length q)) (drop_next q c.loop-at.at x within c.index-vertex.ensures) c.loop-at.invariant.search in (
      subst (IsMeasured g t m) (sym c.get-mark.ensures) (IsMeasured-found g t m x (drop (c.loop-at.at + 1) q) (length q) now),
      (
        x,
        sym c.has_at.ensures ∙ c.if-has_at.true,
        sym c.get-mark.ensures,
        subst (λ n. 1 ≤ n) (sym c.get-mark.ensures) (at_positive g t m x (drop (c.loop-at.at + 1) q) (length q) now),
      ),
    )

pub loop-at-preserved : goal.loop-at-preserved
loop-at-preserved c =
    let g = c.args.readers.now in
    let t = c.args.target in
    let m = mark_of c.loop-at.marks in
    let marked = mark_of c.mark_new.new.marks in
    let q = c.loop-at.queue.items in
    let q' = c.mark_new.new.queue.items in
    let x = c.index-vertex.result.now in
    let ok = c.loop-at.queue.ok in
    let within : c.loop-at.at < length q = omega (arith, c.loop-at-test.true, c.len.ensures) in
    let rest = drop (c.loop-at.at + 1) q in
    let now : IsSearch g t m (x ∷ rest) (length q) =
    subst (λ l. IsSearch g t m l (length q)) (drop_next q c.loop-at.at x within c.index-vertex.ensures) c.loop-at.invariant.search in
    let news : MarksNew (slice_index_or g x []) (m x + 1) m marked q q' =
    subst (λ v. MarksNew (slice_index_or g x []) (v + 1) m marked q q') c.get-mark.ensures
    (subst (λ l. MarksNew l (c.get-mark.result + 1) m marked q q') (c.deref.ensures.value ∙ c.in_ok-copy_at.ensures) c.in_ok-mark_new.ensures) in
    let spread = IsSearch-spread g t m x rest (length q) now marked q q' news refl (sym c.has_at.ensures ∙ c.if-has_at.false) in
    let longer : length q' ≡ length q + length news.added = ap length news.queue ∙ length-append q news.added in
    record {
      search = subst (λ l. IsSearch g t marked l (length q')) (sym (ap (drop (c.loop-at.at + 1)) news.queue ∙ drop-append-le (c.loop-at.at + 1) q news.added (omega arith))) spread;
      within = omega arith;
    }

pub loop-at-smaller : goal.loop-at-smaller
loop-at-smaller c =
    let g = c.args.readers.now in
    let t = c.args.target in
    let m = mark_of c.loop-at.marks in
    let marked = mark_of c.mark_new.new.marks in
    let q = c.loop-at.queue.items in
    let q' = c.mark_new.new.queue.items in
    let x = c.index-vertex.result.now in
    let ok = c.loop-at.queue.ok in
    let within : c.loop-at.at < length q = omega (arith, c.loop-at-test.true, c.len.ensures) in
    let news : MarksNew (slice_index_or g x []) (c.get-mark.result + 1) m marked q q' =
    subst (λ l. MarksNew l (c.get-mark.result + 1) m marked q q') (c.deref.ensures.value ∙ c.in_ok-copy_at.ensures) c.in_ok-mark_new.ensures in
    let longer : length q' ≡ length q + length news.added = ap length news.queue ∙ length-append q news.added in
    let falls = cost_falls g t x (c.get-mark.result + 1) m marked q q' (omega arith) news in
    spent (unmarked_cost g m (t ∷ joined g)) (unmarked_cost g marked (t ∷ joined g)) (length q) (length q') c.loop-at.at (length news.added) longer falls within

pub returns : goal.returns
returns c =
    let g = c.args.readers.now in
    let t = c.args.target in
    let m = mark_of c.loop-at.marks in
    let q = c.loop-at.queue.items in
    let ok = c.loop-at.queue.ok in
    let past : length q ≤ c.loop-at.at = omega (arith, c.loop-at-test.false, c.len.ensures) in
    let now : IsSearch g t m [] (length q) = subst (λ l. IsSearch g t m l (length q)) (drop_all c.loop-at.at q past) c.loop-at.invariant.search in
    IsOnNoCycle-from_all g t m (IsMeasured-all g t m (length q) now)
