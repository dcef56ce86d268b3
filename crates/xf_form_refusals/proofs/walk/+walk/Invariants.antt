use Rattle.std.proofs.Common.{◌≡◌, ◌++◌, length, map, drop}
use Rattle.xf_form_refusals.specs.Rows.{shown}
use Rattle.xf_form_refusals.specs.Walk.{rows_from, parts_from, piece_of}
use Rattle.xf_form_refusals.proofs.walk.+walk.Given as goal

abbrev pub invariant-add_children-loop-i : goal.invariant-add_children-loop-i
invariant-add_children-loop-i l =
    let before = map shown l.fn.rows.items in
    let now = map shown l.rows.items in
    let pieces = map (piece_of l.prefixes) l.children in
    let left = map (piece_of l.prefixes) (drop l.i l.children) in
    record {
      rows_are : now ++ rows_from l.inside l.i (length now) left ≡ before ++ rows_from l.inside 0 (length before) pieces;
      parts_are : l.parts.items ++ parts_from l.keeps l.inside l.i (length now) left ≡ parts_from l.keeps l.inside 0 (length before) pieces;
    }
