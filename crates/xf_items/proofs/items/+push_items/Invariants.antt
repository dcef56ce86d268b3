use Rattle.std.proofs.Common.{◌≡◌, drop}
use Rattle.xf_def_ui.specs.Interface.{interface_of}
use Rattle.xf_eval_context.specs.Inside.{seen_inside}
use Rattle.xf_eval_context.specs.Over.{around_over}
use Rattle.xf_items.specs.Items.{behind, items_among}
use Rattle.xf_items.proofs.items.+push_items.Given as goal

abbrev pub decreases-push_items : goal.decreases-push_items
decreases-push_items l = l.most

-- what is there and what is left give what all the parts give
abbrev pub invariant-loop-part : goal.invariant-loop-part
invariant-loop-part l =
    behind l.initial.all (items_among l.most (interface_of l.over.form.now) (around_over l.over) (seen_inside l.within) l.parts)
    ≡ behind l.all (items_among l.most (interface_of l.over.form.now) (around_over l.over) (seen_inside l.within) (drop l.part-index l.parts))
