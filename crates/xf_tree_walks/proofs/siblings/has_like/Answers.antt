use Rattle.std.proofs.Common.{◌+◌, drop, length, refl, sym, ap, ◌∙◌, arith}
use Rattle.xf_tree_rows.specs.Rows.{tree_of}
use Rattle.xf_tree_rows.proofs.SizedLemmas.{lt-true}
use Rattle.xf_tree_contents.specs.Seen.{seen_content}
use Rattle.xf_tree_walks.specs.Siblings.{same_sort}
use Rattle.xf_tree_walks.proofs.WalkLemmas.{behind, kin-passed, kin-found}
use Rattle.xf_tree_walks.proofs.siblings.has_like.Goals as goal

pub returns-then-is_like_at : goal.returns-then-is_like_at
returns-then-is_like_at c =
    let s = c.args.slots.now in
    let rows = c.args.rows.now.items in
    let next = c.loop-next.next in
    let i = c.loop-next.invariant in
    let q = same_sort (seen_content c.args.like) in
    let stop = next + length (tree_of (drop next rows)) in
    let b = behind s c.args.depth q rows next c.args.to stop c.loop-next-test.true c.requires.within i.deep refl in
    let found = ap length (sym i.same ∙ kin-found s c.args.depth q rows next c.args.to stop b (sym c.is_like_at.ensures ∙ c.if-is_like_at.true)) in
    sym (lt-true 0 _ (omega (arith, found)))

pub loop-next-preserved : goal.loop-next-preserved
loop-next-preserved c =
    let s = c.args.slots.now in
    let rows = c.args.rows.now.items in
    let next = c.loop-next.next in
    let i = c.loop-next.invariant in
    let q = same_sort (seen_content c.args.like) in
    let b = behind s c.args.depth q rows next c.args.to c.end_of-next.result c.loop-next-test.true c.requires.within i.deep c.end_of-next.ensures.answer in
    record {
      same = kin-passed s c.args.depth q rows next c.args.to c.end_of-next.result b (sym c.is_like_at.ensures ∙ c.if-is_like_at.false) ∙ i.same;
      deep = b.deep;
    }
