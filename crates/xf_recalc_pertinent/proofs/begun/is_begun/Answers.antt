use Rattle.std.proofs.Common.{◌≡◌, ◌&&◌, ◌∙◌, false, not, map, ap, sym}
use Rattle.std.specs.List.{list_any}
use Rattle.xf_def_forest.specs.Visit.{has}
use Rattle.xf_def_model.specs.Rules.{rule_of}
use Rattle.xf_def_model.specs.Applied.{is_calculate}
use Rattle.xf_binds.specs.Held.{entry_of}
use Rattle.xf_binds.specs.Table.{kept_at}
use Rattle.xf_binds_rebuild.specs.Found.{asks_or}
use Rattle.xf_recalc_pertinent.specs.Places.{asks_at}
use Rattle.xf_recalc_pertinent.proofs.Begins.{and-never, begun-looks, begun-new}
use Rattle.xf_recalc_pertinent.proofs.Lists.{any-same}
use Rattle.xf_recalc_pertinent.proofs.begun.is_begun.Goals as goal
use Rattle.xf_recalc_pertinent.proofs.begun.is_begun.Goals.{else-is_calculate-via-then-is_calculate+else-has, else-is_calculate-via-else-is_calculate}

pub returns-then-not-is_standing : goal.returns-then-not-is_standing
returns-then-not-is_standing c =
    let k = kept_at c.args.table.now c.args.model in
    let e = entry_of c.in-Some.entry in
    begun-new (map rule_of c.args.tables.now.binds) k c.args.place e (sym c.in-Some.ensures) (ap not (sym c.is_type.ensures ∙ c.if-is_type.false))
    (sym (c.is_standing.ensures (asks_at k.asks c.args.place)) ∙ c.if-not-is_standing.true)

pub returns-else-is_calculate : goal.returns-else-is_calculate
returns-else-is_calculate c =
    let k = kept_at c.args.table.now c.args.model in
    let e = entry_of c.in-Some.entry in
    let never : (is_calculate e && has e.node k.texts) ≡ false = elim c.else-is_calculate.branch [
      | else-is_calculate-via-then-is_calculate+else-has w ↦ and-never (is_calculate e) (has e.node k.texts) (sym (c.requires.texts e.node) ∙ sym w.has.ensures ∙ w.if-has.false)
      | else-is_calculate-via-else-is_calculate w ↦ ap (λ b. b && has e.node k.texts) (sym c.is_calculate.ensures ∙ w.if-is_calculate.false)
    ] in
    c.looks_any.ensures
    ∙ ap (λ o. list_any (λ n. has n c.args.marked.now.lists) (asks_or o).looks) c.asks.ensures
    ∙ any-same (λ n. has n c.args.marked.now.lists) (λ n. has n k.lists) c.requires.lists (asks_at k.asks c.args.place).looks
    ∙ begun-looks (map rule_of c.args.tables.now.binds) k c.args.place e (sym c.in-Some.ensures) (ap not (sym c.is_type.ensures ∙ c.if-is_type.false))
    (sym (c.is_standing.ensures (asks_at k.asks c.args.place)) ∙ c.if-not-is_standing.false) never
