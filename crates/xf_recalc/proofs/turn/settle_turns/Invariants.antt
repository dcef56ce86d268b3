use Rattle.std.proofs.Common.{◌≡◌, take}
use Rattle.xf_def_forest.specs.Visit.{visits}
use Rattle.xf_binds.specs.Table.{kept_at}
use Rattle.xf_recalc.specs.Known.{AreKnown}
use Rattle.xf_recalc.specs.Settles.{scope_in, settled_forest}
use Rattle.xf_recalc.proofs.Turning.{Going}
use Rattle.xf_recalc.proofs.turn.settle_turns.Given as goal

abbrev pub invariant-loop-turn : goal.invariant-loop-turn
invariant-loop-turn g l =
    let entries = (kept_at l.fn.table l.fn.model).entries in
    let scope = scope_in (g.A.Around.given l.fn.around) l.fn.tables l.fn.model in
    record {
      going : Going scope entries l.fn.draft.now (take l.turn-index l.turns) l.draft;
      kept : l.draft.kept ≡ l.fn.draft.kept;
      known : AreKnown scope (visits (settled_forest scope entries l.fn.draft.now).nodes) entries l.truths.items;
    }
