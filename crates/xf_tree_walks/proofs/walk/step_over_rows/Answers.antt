use Rattle.std.proofs.Common.{◌+◌, get_or, sym, ap, ◌∙◌, arith}
use Rattle.xf_tree_rows.specs.Rows.{no_row}
use Rattle.xf_tree_walks.specs.Walks.{between, chosen, is_plain}
use Rattle.xf_tree_walks.proofs.WalkLemmas.{between-first, chosen-yes}
use Rattle.xf_tree_walks.proofs.walk.step_over_rows.Goals as goal

pub returns : goal.returns
returns c =
    let rows = c.args.rows.now.items in
    let s = c.args.slots.now in
    let next = c.next_plain-next.result in
    let given = c.next_plain-next.ensures in
    let x = get_or rows next no_row in
    record {
      within = omega (arith, c.if-next-end.false, c.requires);
      ready = c.requires;
      rest = sym given.same ∙ ap (chosen s is_plain) (between-first next c.args.end rows c.if-next-end.false c.requires) ∙ chosen-yes s is_plain x (between (next + 1) c.args.end rows) (given.found c.if-next-end.false);
    }
