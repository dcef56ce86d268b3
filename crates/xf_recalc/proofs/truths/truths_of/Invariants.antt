use Rattle.std.proofs.Common.{◌≡◌, ◌≤◌, [], drop, length, take}
use Rattle.xf_def_forest.specs.Visit.{visits}
use Rattle.xf_def_model.specs.Settled.{calculates}
use Rattle.xf_binds.specs.Table.{kept_at}
use Rattle.xf_recalc.specs.Settles.{scope_in}
use Rattle.xf_recalc.specs.Turns.{found_over}
use Rattle.xf_recalc.proofs.truths.truths_of.Given as goal

abbrev pub invariant-loop-at : goal.invariant-loop-at
invariant-loop-at g l =
    let scope = scope_in (g.A.Around.given l.fn.around) l.fn.tables l.fn.model in
    let all = visits l.fn.forest.forest.nodes in
    let entries = (kept_at l.fn.table l.fn.model).entries in
    record {
      found : found_over l.found scope all (drop l.at entries) ≡ found_over [] scope all entries;
      so_far : l.place ≡ length (calculates (take l.at entries));
      few : l.place ≤ l.at;
    }
