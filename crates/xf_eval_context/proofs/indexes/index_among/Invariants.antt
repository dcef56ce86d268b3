use Rattle.std.proofs.Common.{◌≡◌, drop, map}
use Rattle.xf_def_xpath.specs.Given.{beside}
use Rattle.xf_def_ui.specs.Interface.{interface_of}
use Rattle.xf_eval_context.specs.Indexes.{named_among, seen_index}
use Rattle.xf_eval_context.proofs.indexes.index_among.Given as goal

abbrev pub invariant-loop-repeat : goal.invariant-loop-repeat
invariant-loop-repeat l =
    beside l.id (named_among (interface_of l.form) (map seen_index l.indexes) l.repeats)
    ≡ beside l.id (named_among (interface_of l.form) (map seen_index l.indexes) (drop l.repeat-index l.repeats))
