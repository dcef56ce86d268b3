use Rattle.std.proofs.Common.{◌≡◌, ◌++◌, drop}
use Rattle.xf_def_values.specs.Functions.{Functions}
use Rattle.xf_def_xpath.specs.Given.{Given}
use Rattle.xf_def_model.specs.Rules.{scope_of}
use Rattle.xf_binds.specs.Table.{kept_at}
use Rattle.xf_valid.specs.Failed.{failed_among}
use Rattle.xf_valid.proofs.invalid.all_failed.Given as goal

abbrev pub invariant-loop-at : goal.invariant-loop-at
invariant-loop-at l =
    (functions : Functions) (given : Given) → l.found ++ failed_among l.tables.types (scope_of functions given l.tables l.model) l.forest.forest.nodes l.roots (kept_at l.table l.model) (drop l.at (kept_at l.table l.model).entries)
    ≡ failed_among l.tables.types (scope_of functions given l.tables l.model) l.forest.forest.nodes l.roots (kept_at l.table l.model) (kept_at l.table l.model).entries
