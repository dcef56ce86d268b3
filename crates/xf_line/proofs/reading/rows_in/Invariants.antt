use Rattle.std.proofs.Common.{◌≡◌, ◌++◌, option_map, drop}
use Rattle.serde_json.specs.View.{items_view}
use Rattle.xf_line.specs.Line.{rows_in}
use Rattle.xf_line.proofs.reading.rows_in.Given as goal

abbrev pub invariant-loop-value : goal.invariant-loop-value
invariant-loop-value l = rows_in (items_view l.values) ≡ option_map (λ rest. l.rows ++ rest) (rows_in (items_view (drop l.value-index l.values)))
