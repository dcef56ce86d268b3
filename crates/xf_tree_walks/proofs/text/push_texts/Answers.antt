use Rattle.std.proofs.Common.{◌<◌, length, not, sym, ap, ◌∙◌, arith}
use Rattle.slab.specs.Slab.{get}
use Rattle.xf_def_forest.specs.StringValue.{characters}
use Rattle.xf_tree_rows.specs.declared.rows.Row.{Row}
use Rattle.xf_tree_rows.specs.Rows.{no_row}
use Rattle.xf_tree_rows.proofs.SizedLemmas.{lt-true}
use Rattle.xf_tree_contents.specs.Keys.{content_in}
use Rattle.xf_tree_walks.specs.Nodes.{texts_in}
use Rattle.xf_tree_walks.proofs.TextLemmas.{texts-over}
use Rattle.xf_tree_walks.proofs.text.push_texts.Goals as goal

pub returns-then-piece-left-clause-fits : goal.returns-then-piece-left-clause-fits
returns-then-piece-left-clause-fits c =
    let s = c.args.slots.now in
    let h : c.loop-at.at < length c.args.rows.now = omega (arith, c.loop-at-test.true, c.len-at-end.ensures) in
    let is = c.below-piece.ensures ∙ ap (λ (r : Row). characters (content_in (get s r.key))) c.at.ensures in
    let over : c.args.most < length (texts_in s c.args.rows.now) =
    texts-over s c.loop-at.at c.args.most c.loop-at.left c.args.rows.now no_row _ h is c.loop-at.invariant.0 c.if-piece-left.true in
    ap not (sym (lt-true c.args.most (length (texts_in s c.args.rows.now)) over))
