use Rattle.std.proofs.Common.{◌<◌, length, false, sym, ap, ◌∙◌, subst, arith}
use Rattle.xf_tree_contents.specs.Keys.{same_kind}
use Rattle.xf_tree_walks.specs.Walks.{IsReady, is_plain}
use Rattle.xf_tree_walks.specs.Found.{left_met}
use Rattle.xf_tree_walks.proofs.WalkLemmas.{behind}
use Rattle.xf_tree_walks.proofs.SoughtLemmas.{trees-found, rows-found}
use Rattle.xf_tree_walks.proofs.found.next_found.Goals as goal

pub returns-else-next-end : goal.returns-else-next-end
returns-else-next-end c =
    let s = c.args.slots.now in
    let rows = c.args.rows.now.items in
    let next = c.found_in_trees-next.result in
    let end = c.in-Trees.end in
    let given = c.found_in_trees-next.ensures in
    let ready = subst (IsReady rows) c.in-Trees.is c.requires.ready in
    let within : next < length rows = omega (arith, c.if-next-end.false, ready.0) in
    let b = behind s c.in-Trees.depth (same_kind false) rows next end c.end_of-at.result c.if-next-end.false ready.0 given.deep c.end_of-at.ensures.answer in
    record {
      within = within;
      ready = (ready.0, b.deep);
      rest = ap (left_met s rows c.args.sought) c.in-Trees.is ∙ sym given.same ∙ trees-found s rows c.args.sought c.requires.nodes c.in-Trees.depth next end c.end_of-at.result b within (given.found c.if-next-end.false);
    }

pub returns-else-next-end-2 : goal.returns-else-next-end-2
returns-else-next-end-2 c =
    let s = c.args.slots.now in
    let rows = c.args.rows.now.items in
    let next = c.found_in_rows-next.result in
    let end = c.in-Rows.end in
    let given = c.found_in_rows-next.ensures in
    let ready = subst (IsReady rows) c.in-Rows.is c.requires.ready in
    let within : next < length rows = omega (arith, c.if-next-end-2.false, ready) in
    record {
      within = within;
      ready = ready;
      rest = ap (left_met s rows c.args.sought) c.in-Rows.is ∙ sym given.same ∙ rows-found s rows c.args.sought c.requires.nodes is_plain next end c.if-next-end-2.false ready within (given.found c.if-next-end-2.false);
    }
