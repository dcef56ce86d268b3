use Rattle.std.proofs.Common.{◌++◌, ◌+◌, ◌<◌, ◌≤◌, length, get_or, refl, append-nil, append_assoc, sym, ap, ◌∙◌, arith}
use Rattle.xf_tree_rows.specs.Rows.{no_row}
use Rattle.xf_tree_walks.specs.Found.{alone_where, is_plain_sought, sought_within}
use Rattle.xf_tree_walks.specs.Nodes.{node_of}
use Rattle.xf_tree_walks.specs.Walks.{is_plain, number_of_row}
use Rattle.xf_tree_walks.proofs.SoughtLemmas.{rows-on, within-none}
use Rattle.xf_tree_walks.proofs.chosen.push_between.Goals as goal

pub loop-next-preserved : goal.loop-next-preserved
loop-next-preserved c =
    let s = c.args.slots.now in
    let rows = c.args.rows.now.items in
    let next = c.loop-next.next in
    let end = c.args.end in
    let left = sought_within s rows c.args.sought is_plain (next + 1) end in
    let is = is_plain_sought c.args.sought (node_of s (get_or rows next no_row)) in
    let within : next < length rows = omega (arith, c.loop-next-test.true, c.requires.within) in
    ap (λ l. l ++ left) c.in_ok-push_plain.ensures ∙ append_assoc c.loop-next.found (alone_where is (number_of_row s rows next)) left
    ∙ ap (λ l. c.loop-next.found ++ l) (sym (rows-on s rows c.args.sought c.requires.nodes is_plain next end is c.loop-next-test.true c.requires.within within refl))
    ∙ c.loop-next.invariant

pub returns : goal.returns
returns c =
    let s = c.args.slots.now in
    let rows = c.args.rows.now.items in
    let past : c.args.end ≤ c.loop-next.next = omega (arith, c.loop-next-test.false) in
    sym (ap (λ l. c.loop-next.found ++ l) (within-none s rows c.args.sought c.requires.nodes is_plain c.loop-next.next c.args.end past) ∙ append-nil c.loop-next.found)
    ∙ c.loop-next.invariant
