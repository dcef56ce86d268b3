use Rattle.std.proofs.Common.{take, drop, reverse, ap, ◌∙◌, subst}
use Rattle.xf_tree_literals.specs.Contents.{AllLess, EndsNotLess}
use Rattle.xf_tree_literals.proofs.WrittenLemmas.{insert-place}
use Rattle.xf_tree_literals.proofs.plant.insert_sorted.Goals as goal

pub returns : goal.returns
returns c =
    let at = c.place_of-at.result in
    let less = subst (λ l. AllLess c.args.content (drop at l)) c.deref.ensures.value c.place_of-at.ensures.less in
    let ends = subst (λ l. EndsNotLess c.args.content (take at l)) c.deref.ensures.value c.place_of-at.ensures.first in
    ap reverse c.in_ok-insert.ensures.items ∙ insert-place c.args.content c.args.sorted.now.items at less ends
