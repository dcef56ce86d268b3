use Rattle.std.proofs.Common.{◌≡◌, [], drop, map}
use Rattle.xf_def_ui.specs.Interface.{interface_of}
use Rattle.xf_eval_context.specs.Indexes.{seen_index}
use Rattle.xf_eval_context.specs.Over.{around_over}
use Rattle.xf_repeat.proofs.PassLaws.{indexes_after}
use Rattle.xf_repeat.proofs.passing.pass.Given as goal

-- from here on the repeats that are left come to what all of them come to
abbrev pub invariant-loop-repeat : goal.invariant-loop-repeat
invariant-loop-repeat l =
    indexes_after (interface_of l.over.form.now) (around_over l.over) l.added (record { indexes = map seen_index l.indexes; restarted = l.restarted }) (drop l.repeat-index l.repeat-items)
    ≡ indexes_after (interface_of l.over.form.now) (around_over l.over) l.added (record { indexes = map seen_index l.initial.indexes; restarted = [] }) l.repeat-items
