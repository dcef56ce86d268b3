use Rattle.std.proofs.Common.{◌++◌, ◌+◌, get_or, append-nil, append_assoc, sym, ap, ◌∙◌, arith}
use Rattle.slab.specs.Slab.{get}
use Rattle.xf_tree_rows.specs.Rows.{no_row}
use Rattle.xf_tree_contents.specs.Sought.{is_sought}
use Rattle.xf_tree_contents.specs.Keys.{content_in}
use Rattle.xf_tree_walks.specs.declared.walk.Left.TheVariants.{Attributes}
use Rattle.xf_tree_walks.specs.Found.{alone_where, left_met}
use Rattle.xf_tree_walks.specs.Walks.{number_of_row}
use Rattle.xf_tree_walks.proofs.SoughtLemmas.{attributes-on, attributes-end, attributes-stop}
use Rattle.xf_tree_walks.proofs.chosen.push_attributes.Goals as goal

pub loop-next-preserved : goal.loop-next-preserved
loop-next-preserved c =
    let s = c.args.slots.now in
    let rows = c.args.rows.now.items in
    let next = c.loop-next.next in
    let left = left_met s rows c.args.sought (Attributes (next + 1) c.args.depth) in
    let one = alone_where (is_sought c.args.sought (content_in (get s (get_or rows next no_row).key))) (number_of_row s rows next) in
    ap (λ l. l ++ left) c.in_ok-push_sought.ensures ∙ append_assoc c.loop-next.found one left
    ∙ ap (λ l. c.loop-next.found ++ l) (sym (attributes-on s rows c.args.sought c.requires c.args.depth next (omega (arith, c.loop-next-test.true, c.len.ensures)) (sym c.is_kin_at.ensures ∙ c.if-is_kin_at.true)))
    ∙ c.loop-next.invariant

pub returns-else-is_kin_at : goal.returns-else-is_kin_at
returns-else-is_kin_at c =
    let s = c.args.slots.now in
    let rows = c.args.rows.now.items in
    sym (ap (λ l. c.loop-next.found ++ l) (attributes-stop s rows c.args.sought c.requires c.args.depth c.loop-next.next (omega (arith, c.loop-next-test.true, c.len.ensures)) (sym c.is_kin_at.ensures ∙ c.if-is_kin_at.false)) ∙ append-nil c.loop-next.found)
    ∙ c.loop-next.invariant

pub returns-after-loop-next : goal.returns-after-loop-next
returns-after-loop-next c =
    let s = c.args.slots.now in
    let rows = c.args.rows.now.items in
    sym (ap (λ l. c.loop-next.found ++ l) (attributes-end s rows c.args.sought c.requires c.args.depth c.loop-next.next (omega (arith, c.loop-next-test.false, c.len.ensures))) ∙ append-nil c.loop-next.found)
    ∙ c.loop-next.invariant
