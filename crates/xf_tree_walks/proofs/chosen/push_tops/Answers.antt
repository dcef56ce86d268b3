use Rattle.std.proofs.Common.{◌++◌, ◌<◌, ◌≤◌, length, get_or, refl, append-nil, append_assoc, false, sym, ap, ◌∙◌, arith}
use Rattle.xf_tree_rows.specs.Rows.{no_row}
use Rattle.xf_tree_contents.specs.Keys.{same_kind}
use Rattle.xf_tree_walks.specs.Found.{alone_where, is_kin_sought, sought_within}
use Rattle.xf_tree_walks.specs.Nodes.{is_kin, node_of}
use Rattle.xf_tree_walks.specs.Walks.{number_of_row}
use Rattle.xf_tree_walks.proofs.WalkLemmas.{behind}
use Rattle.xf_tree_walks.proofs.SoughtLemmas.{trees-on, within-none}
use Rattle.xf_tree_walks.proofs.chosen.push_tops.Goals as goal

pub loop-next-preserved : goal.loop-next-preserved
loop-next-preserved c =
    let i = c.loop-next.invariant in
    let s = c.args.slots.now in
    let rows = c.args.rows.now.items in
    let next = c.loop-next.next in
    let end = c.args.end in
    let stop = c.end_of-next.result in
    let left = sought_within s rows c.args.sought (is_kin c.args.depth false) stop end in
    let is = is_kin_sought c.args.depth c.args.sought (node_of s (get_or rows next no_row)) in
    let b = behind s c.args.depth (same_kind false) rows next end stop c.loop-next-test.true c.requires.within i.deep c.end_of-next.ensures.answer in
    let within : next < length rows = omega (arith, c.loop-next-test.true, c.requires.within) in
    record {
      same = ap (λ l. l ++ left) c.in_ok-push_kin.ensures ∙ append_assoc c.loop-next.found (alone_where is (number_of_row s rows next)) left
          ∙ ap (λ l. c.loop-next.found ++ l) (sym (trees-on s rows c.args.sought c.requires.nodes c.args.depth next end stop is b within refl)) ∙ i.same;
      deep = b.deep;
    }

pub returns : goal.returns
returns c =
    let s = c.args.slots.now in
    let rows = c.args.rows.now.items in
    let past : c.args.end ≤ c.loop-next.next = omega (arith, c.loop-next-test.false) in
    sym (ap (λ l. c.loop-next.found ++ l) (within-none s rows c.args.sought c.requires.nodes (is_kin c.args.depth false) c.loop-next.next c.args.end past) ∙ append-nil c.loop-next.found)
    ∙ c.loop-next.invariant.same
