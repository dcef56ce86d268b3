use Rattle.std.proofs.Common.{[], map}
use Rattle.xf_def_ui.specs.Interface.{interface_of}
use Rattle.xf_eval_context.specs.Over.{around_over}
use Rattle.xf_report_state.specs.Levels.{AreLevels, Starts}
use Rattle.xf_report_state.proofs.levels.go_to.Given as goal

-- the levels down to here are those of the first repeats and rows
abbrev pub invariant-loop-at : goal.invariant-loop-at
invariant-loop-at l = record {
  levels : AreLevels (interface_of l.over.form.now) (around_over l.over) [] l.levels.items;
  front : Starts l.levels.items l.at l.repeats (map (λ n. n.number) l.rows);
}
