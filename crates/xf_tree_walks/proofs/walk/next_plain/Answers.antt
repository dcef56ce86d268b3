use Rattle.std.proofs.Common.{◌≡◌, ◌+◌, not, false, sym, ap, ◌∙◌, get_or}
use Rattle.xf_tree_rows.specs.Rows.{no_row}
use Rattle.xf_tree_walks.specs.Nodes.{node_of}
use Rattle.xf_tree_walks.specs.Walks.{between, chosen, is_plain}
use Rattle.xf_tree_walks.proofs.WalkLemmas.{between-first, chosen-no}
use Rattle.xf_tree_walks.proofs.walk.next_plain.Goals as goal

pub loop-next-preserved : goal.loop-next-preserved
loop-next-preserved c =
    let s = c.args.slots.now in
    let rows = c.args.rows.now.items in
    let next = c.loop-next.next in
    let x = get_or rows next no_row in
    let no : is_plain (node_of s x) ≡ false = ap not (rw c.at.ensures at (sym c.is_attribute_at.ensures ∙ c.if-is_attribute_at.true)) in
    sym (ap (chosen s is_plain) (between-first next c.args.end rows c.loop-next-test.true c.requires.within) ∙ chosen-no s is_plain x (between (next + 1) c.args.end rows) no) ∙ c.loop-next.invariant
