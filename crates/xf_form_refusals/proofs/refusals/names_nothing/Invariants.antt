use Rattle.std.proofs.Common.{◌≡◌, map, drop}
use Rattle.std.specs.List.{list_any}
use Rattle.xf_form_vocabulary.specs.Attributes as attributes
use Rattle.xf_form_refusals.specs.Refusals.{names_nothing_by}
use Rattle.xf_form_refusals.specs.Rows.{is_handler, shown}
use Rattle.xf_form_refusals.proofs.refusals.names_nothing.Given as goal

abbrev pub invariant-loop-one : goal.invariant-loop-one
invariant-loop-one l =
    list_any (names_nothing_by (map shown l.rows) l.row.tag (is_handler (shown l.row))) (map attributes.shown l.known)
    ≡ list_any (names_nothing_by (map shown l.rows) l.row.tag (is_handler (shown l.row))) (map attributes.shown (drop l.one-index l.known))
