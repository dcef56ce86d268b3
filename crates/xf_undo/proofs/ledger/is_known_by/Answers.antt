use Rattle.std.proofs.Common.{sym, ◌∙◌}
use Rattle.xf_undo.proofs.IndexLemmas.{unlisted, known-at}
use Rattle.xf_undo.proofs.ledger.is_known_by.Goals as goal

pub returns-in_default : goal.returns-in_default
returns-in_default c =
    sym (unlisted c.args.node.number c.args.forest.now c.args.entries.now c.args.seats.now c.requires.listed (sym c.in_default.ensures.value))

pub returns-then-is_set_of : goal.returns-then-is_set_of
returns-then-is_set_of c =
    sym (known-at c.args.node.number c.args.forest.now c.args.still c.in-Some.seat.now c.args.entries.now c.index-entries-at.result c.if-at-still.true c.if-at-entries.true c.requires.quiet c.index-entries-at.is
    (sym c.is_set_of.ensures ∙ c.if-is_set_of.true))
