use Rattle.std.proofs.Common.{◌≡◌, drop, map}
use Rattle.std.specs.Prelude.{filter}
use Rattle.xf_def_ui.specs.Interface.{interface_of}
use Rattle.xf_def_ui.specs.Started.{each_takes}
use Rattle.xf_eval_context.specs.Indexes.{seen_index}
use Rattle.xf_eval_context.specs.Over.{around_over}
use Rattle.xf_repeat.specs.Starts.{is_taken, taken_by}
use Rattle.xf_repeat.proofs.starting.take_each.Given as goal

-- from here on the repeats that are left come to what all of them come to
abbrev pub invariant-loop-repeat : goal.invariant-loop-repeat
invariant-loop-repeat l =
    let f = interface_of l.over.form.now in
    each_takes f (around_over l.over) (taken_by f l.start) (map seen_index l.indexes) (filter (is_taken f l.start) (drop l.repeat-index l.repeat-items))
    ≡ each_takes f (around_over l.over) (taken_by f l.start) (map seen_index l.initial.indexes) (filter (is_taken f l.start) l.repeat-items)
