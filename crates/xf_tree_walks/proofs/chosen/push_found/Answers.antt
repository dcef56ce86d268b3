use Rattle.std.proofs.Common.{◌<◌, ◌++◌, length, get_or, IfSome, append_assoc, sym, ap, ◌∙◌, subst}
use Rattle.std.proofs.lemmas.Result.{on_ok_weaker}
use Rattle.slab.specs.Slab.{get}
use Rattle.xf_tree_rows.specs.Rows.{no_row}
use Rattle.xf_tree_contents.specs.Sought.{is_sought}
use Rattle.xf_tree_contents.specs.Keys.{content_in}
use Rattle.xf_tree_walks.specs.Found.{alone_where, left_met, walk_met}
use Rattle.xf_tree_walks.specs.Walks.{left_of, number_of_row}
use Rattle.xf_tree_walks.proofs.SoughtLemmas.{one-on}
use Rattle.xf_tree_walks.proofs.chosen.push_found.Goals as goal

pub returns : goal.returns
returns c =
    let s = c.args.slots.now in
    let rows = c.args.rows.now.items in
    let sought = c.args.sought in
    let at = c.in-Some.at in
    let within = subst (λ f. IfSome f (λ at. at < length rows)) c.in-Some.is c.requires.walk.within in
    let left = left_met s rows sought c.args.left in
    let one = alone_where (is_sought sought (content_in (get s (get_or rows at no_row).key))) (number_of_row s rows at) in
    on_ok_weaker c.push_left-2.result
    (λ h. h ∙ ap (λ l. l ++ left) c.in_ok-push_sought.ensures ∙ append_assoc c.args.found.now one left
    ∙ ap (λ l. c.args.found.now ++ l) (sym (ap (λ f. walk_met s rows sought f c.args.left) c.in-Some.is ∙ one-on s rows sought c.requires.nodes at (left_of s rows c.args.left) within)))
    c.push_left-2.ensures
