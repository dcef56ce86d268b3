use Rattle.std.proofs.Common.{◌≡◌, drop}
use Rattle.xf_def_ui.specs.Interface.{interface_of}
use Rattle.xf_eval_context.specs.Inside.{seen_inside}
use Rattle.xf_eval_context.specs.Over.{around_over}
use Rattle.xf_items.specs.Items.{behind, placed_items}
use Rattle.xf_items.proofs.SetLaws.{numbers}
use Rattle.xf_items.proofs.sets.push_placed.Given as goal

-- what is there and what is left give what all nodes of the set give
abbrev pub invariant-loop-node : goal.invariant-loop-node
invariant-loop-node l =
    behind l.initial.all (placed_items (interface_of l.over.form.now) (around_over l.over) (seen_inside l.within) l.element l.set l.set)
    ≡ behind l.all (placed_items (interface_of l.over.form.now) (around_over l.over) (seen_inside l.within) l.element l.set (numbers (drop l.node-index l.nodes)))
