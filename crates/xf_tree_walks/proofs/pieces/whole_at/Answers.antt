use Rattle.std.proofs.Common.{◌≡◌, ◌+◌, ◌<◌, [], Some, length, drop, sym, ap, ◌∙◌, arith}
use Rattle.std.proofs.lemmas.List.{nil_from_length}
use borrow.Author.Tests.{eqb-true}
use Rattle.slab.specs.Slab.{get}
use Rattle.xf_def_forest.specs.Forest.{own_text}
use Rattle.xf_def_forest.specs.StringValue.{characters}
use Rattle.xf_tree_rows.specs.declared.rows.Row.{Row}
use Rattle.xf_tree_rows.specs.Rows.{tree_of}
use Rattle.xf_tree_contents.specs.Keys.{content_in}
use Rattle.xf_tree_walks.proofs.PieceLemmas.{whole-one}
use Rattle.xf_tree_walks.proofs.pieces.whole_at.Goals as goal

pub returns-then-is_empty : goal.returns-then-is_empty
returns-then-is_empty c =
    let s = c.args.slots.now in
    let rows = c.args.rows.now.items in
    let at = c.args.at in
    let h : at + 1 < length rows = omega arith in
    let size : length (tree_of (drop at rows)) ≡ 2 = omega arith in
    let empty : c.own.result.now ≡ [] = nil_from_length c.own.result.now (eqb-true _ _ (sym c.is_empty.ensures ∙ c.if-is_empty.true)) in
    let none = ap (λ (r : Row). own_text (content_in (get s r.key))) (sym c.at.ensures) ∙ sym c.own.ensures ∙ empty in
    ap Some (c.below.ensures ∙ ap (λ (r : Row). characters (content_in (get s r.key))) c.at-then-is_empty.ensures) ∙ whole-one s rows at h size none
