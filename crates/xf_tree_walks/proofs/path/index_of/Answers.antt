use Rattle.std.proofs.Common.{length, nat_lt, sym, ap, ◌∙◌, arith}
use Rattle.xf_tree_contents.specs.Seen.{seen_content}
use Rattle.xf_tree_walks.specs.Siblings.{same_sort}
use Rattle.xf_tree_walks.proofs.SiblingLemmas.{family}
use Rattle.xf_tree_walks.proofs.StackLemmas.{lt-from}
use Rattle.xf_tree_walks.proofs.AxisLemmas.{beside}
use Rattle.xf_tree_walks.proofs.PathLemmas.{index-none, index-some, later-same}
use Rattle.xf_tree_walks.proofs.path.index_of.Goals.{else-earlier-eq0-via-then-earlier-eq0+else-not-has_like, else-earlier-eq0-via-else-earlier-eq0}
use Rattle.xf_tree_walks.proofs.path.index_of.Goals as goal

pub has_like-requires-clause-deep : goal.has_like-requires-clause-deep
has_like-requires-clause-deep c =
    let q = same_sort (seen_content c.args.like) in
    let f = family q c.args.slots.now c.args.rows.now.items c.in_ok-above.above c.args.at c.requires.nodes c.requires.within c.in_ok-above.ensures.answer in
    rw c.at.ensures (beside q _ _ _ _ _ _ f c.end_of.ensures.answer c.end_of-then-earlier-eq0.ensures.answer).deep

pub returns-then-not-has_like : goal.returns-then-not-has_like
returns-then-not-has_like c =
    let same = later-same c.args.slots.now c.args.rows.now.items (seen_content c.args.like) c.in_ok-above.above c.args.at c.end_of.result c.end_of-then-earlier-eq0.result c.requires.nodes c.requires.within
    c.in_ok-above.ensures.answer c.end_of.ensures.answer c.end_of-then-earlier-eq0.ensures.answer in
    index-none _ _ (sym c.count_before-earlier.ensures.answer ∙ c.if-earlier-eq0.true) (ap (λ l. nat_lt 0 (length l)) (sym same) ∙ sym (rw c.at.ensures at c.has_like.ensures) ∙ c.if-not-has_like.true)

pub returns : goal.returns
returns c = elim c.else-earlier-eq0.branch [
  | else-earlier-eq0-via-then-earlier-eq0+else-not-has_like w ↦
      let same = later-same c.args.slots.now c.args.rows.now.items (seen_content c.args.like) c.in_ok-above.above c.args.at w.end_of.result w.end_of-then-earlier-eq0.result c.requires.nodes c.requires.within
      c.in_ok-above.ensures.answer w.end_of.ensures.answer w.end_of-then-earlier-eq0.ensures.answer in
      let some = lt-from 0 _ (ap (λ l. nat_lt 0 (length l)) (sym same) ∙ sym (rw w.at.ensures at w.has_like.ensures) ∙ w.if-not-has_like.false) in
      index-some _ _ _ c.count_before-earlier.ensures.answer (omega (arith, some))
  | else-earlier-eq0-via-else-earlier-eq0 w ↦ index-some _ _ _ c.count_before-earlier.ensures.answer (omega (arith, w.if-earlier-eq0.false, c.count_before-earlier.ensures.answer))
]
