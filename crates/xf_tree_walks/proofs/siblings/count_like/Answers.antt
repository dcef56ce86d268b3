use Rattle.std.proofs.Common.{length, sym, ap, ◌∙◌, arith}
use Rattle.xf_tree_contents.specs.Seen.{seen_content}
use Rattle.xf_tree_walks.specs.Siblings.{same_sort}
use Rattle.xf_tree_walks.proofs.WalkLemmas.{behind, kin-passed, kin-found}
use Rattle.xf_tree_walks.proofs.siblings.count_like.Goals.{then-is_like_at, else-is_like_at}
use Rattle.xf_tree_walks.proofs.siblings.count_like.Goals as goal

pub loop-next-preserved : goal.loop-next-preserved
loop-next-preserved c =
    let s = c.args.slots.now in
    let rows = c.args.rows.now.items in
    let next = c.loop-next.next in
    let i = c.loop-next.invariant in
    let q = same_sort (seen_content c.args.like) in
    let b = behind s c.args.depth q rows next c.args.to c.end_of-next.result c.loop-next-test.true c.requires.within i.deep c.end_of-next.ensures.answer in
    let so_far = i.so_far in
    let few = i.few in
    let further = b.further in
    record {
      so_far = elim c.if-is_like_at.branch [
        | then-is_like_at w ↦
            let is = w.count-is in
            let found = ap length (kin-found s c.args.depth q rows next c.args.to c.end_of-next.result b (sym c.is_like_at.ensures ∙ w.if-is_like_at.true)) in
            (omega (arith, found))
        | else-is_like_at w ↦
            let is = w.count-is in
            let passed = ap length (kin-passed s c.args.depth q rows next c.args.to c.end_of-next.result b (sym c.is_like_at.ensures ∙ w.if-is_like_at.false)) in
            (omega (arith, passed))
      ];
      few = elim c.if-is_like_at.branch [ then-is_like_at w ↦ omega arith | else-is_like_at w ↦ omega arith ];
      deep = b.deep;
    }
