use Rattle.std.proofs.Common.{◌≡◌, true, [], drop}
use Rattle.xf_def_forest.specs.Changes.{in_detached}
use Rattle.xf_law_recalculation.specs.Agree.Hung.{are_hung}
use Rattle.xf_engine_state.specs.Planting.{documents_grown}
use Rattle.xf_engine_state.proofs.planting.plant_all.Given as goal

abbrev pub invariant-loop-instance : goal.invariant-loop-instance
invariant-loop-instance l = record {
  rest : documents_grown l.loaded (drop l.instance-index l.instance-items) l.forest.forest l.made ≡ documents_grown l.loaded l.loaded.form.tables.instances l.fn.forest.forest 0;
  alone : in_detached l.forest.forest.nodes ≡ [];
  hung : are_hung l.forest.forest.nodes ≡ true;
}
