use Rattle.std.proofs.Common.{◌+◌, ◌-◌, drop, get_or, arith, length-take}
use Rattle.xf_tree_rows.specs.Rows.{no_row}
use Rattle.xf_tree_contents.specs.Seen.{seen_content}
use Rattle.xf_tree_walks.specs.Siblings.{is_like}
use Rattle.xf_tree_walks.specs.Walks.{between}
use Rattle.xf_tree_walks.proofs.AboveLemmas.{above-is}
use Rattle.xf_tree_walks.proofs.PathLemmas.{chosen-few}
use Rattle.xf_tree_walks.proofs.path.count_before.Goals as goal

pub count_like-requires-clause-deep : goal.count_like-requires-clause-deep
count_like-requires-clause-deep c = rw c.at.ensures (above-is c.args.rows.now.items c.in-Some.above c.args.at c.requires.within c.in-Some.ensures.answer).between

pub returns-in-Some-clause-few : goal.returns-in-Some-clause-few
returns-in-Some-clause-few c =
    let rows = c.args.rows.now.items in
    let above = c.in-Some.above in
    let at = c.args.at in
    let few = chosen-few c.args.slots.now (is_like (get_or rows at no_row).depth (seen_content c.args.like)) (between (above + 1) at rows) in
    omega (arith, rw c.at.ensures at c.count_like.ensures, few, length-take (at - (above + 1)) (drop (above + 1) rows), c.requires.within)
