use Rattle.xf_binds.specs.Table.{kept_at}
use Rattle.xf_recalc.proofs.InOrder.{are-turns}
use Rattle.xf_recalc.proofs.recalculation.settle.Goals as goal

pub settle_in_turn-requires-clause-turns : goal.settle_in_turn-requires-clause-turns
settle_in_turn-requires-clause-turns g c =
    let kept = kept_at c.args.table.now c.args.model in
    are-turns (g.A.Around.given c.args.around.now) c.args.tables.now c.args.model c.args.draft.now.now kept.entries c.requires.may kept.asks c.requires.asked c.turns_of-turns.result.now c.turns_of-turns.ensures

pub settle_in_turn-requires-clause-seated : goal.settle_in_turn-requires-clause-seated
settle_in_turn-requires-clause-seated g c = c.turns_of-turns.ensures.told.seated

pub settle_in_turn-requires-clause-passes : goal.settle_in_turn-requires-clause-passes
settle_in_turn-requires-clause-passes g c = c.requires.passes
