use Rattle.std.proofs.Common.{◌==◌, ◌&&◌, ◌||◌, ◌∙◌, Bool, not, map, option_map, ap, sym}
use Rattle.xf_def_model.specs.Applied as applied
use Rattle.xf_def_model.specs.Rules.{rule_of}
use Rattle.xf_binds.specs.Held.{entry_of, passes}
use Rattle.xf_recalc_pertinent.specs.Begun.{is_placed_in}
use Rattle.xf_recalc_pertinent.proofs.Begins.{or-never, or-some}
use Rattle.xf_recalc_pertinent.proofs.begun.is_standing.Goals as goal

-- at the same place, unless the expression does not ask for that
abbrev at_place : Bool → applied.Entry → applied.Entry → Bool
at_place placed e old = not placed || ((e.position == old.position) && (e.size == old.size))

pub returns-then-is_at : goal.returns-then-is_at
returns-then-is_at c = λ asks.
    let e = entry_of c.args.entry.now in
    let placed = is_placed_in (map rule_of c.args.tables.now.binds) (entry_of c.args.entry.now) in
    c.is_at.ensures
    ∙ or-some (not placed) ((c.args.entry.now.position == c.in-Some.old.position) && (c.args.entry.now.size == c.in-Some.old.size)) (sym c.is_at.ensures ∙ c.if-is_at.true)
    ∙ ap (λ o. passes (at_place placed e) (option_map entry_of o)) (sym c.in-Some.is)
    ∙ sym (c.stood.ensures (at_place placed e))

pub returns-else-is_at : goal.returns-else-is_at
returns-else-is_at c = λ asks.
    let e = entry_of c.args.entry.now in
    let placed = is_placed_in (map rule_of c.args.tables.now.binds) (entry_of c.args.entry.now) in
    ap not (c.is_placed.ensures ∙ ap (λ binds. is_placed_in (map rule_of binds) e) c.as_slice.ensures)
    ∙ or-never (not placed) ((c.args.entry.now.position == c.in-Some.old.position) && (c.args.entry.now.size == c.in-Some.old.size)) (sym c.is_at.ensures ∙ c.if-is_at.false)
    ∙ ap (λ o. passes (at_place placed e) (option_map entry_of o)) (sym c.in-Some.is)
    ∙ sym (c.stood.ensures (at_place placed e))

pub returns-in-None : goal.returns-in-None
returns-in-None c = λ asks.
    let e = entry_of c.args.entry.now in
    let placed = is_placed_in (map rule_of c.args.tables.now.binds) (entry_of c.args.entry.now) in
    ap (λ o. passes (at_place placed e) (option_map entry_of o)) (sym c.in-None.is) ∙ sym (c.stood.ensures (at_place placed e))
