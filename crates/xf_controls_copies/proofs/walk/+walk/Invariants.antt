use Rattle.std.proofs.Common.{◌≡◌, ◌+◌, ◌*◌, drop, map}
use Rattle.xf_def_forest.specs.declared.node.NodeId.{NodeId}
use Rattle.xf_def_ui.specs.Interface.{interface_of}
use Rattle.xf_eval_context.specs.Over.{around_over}
use Rattle.xf_controls.specs.Seen.{number, seen_copy}
use Rattle.xf_controls_copies.specs.Handed.{in_row}
use Rattle.xf_controls_copies.specs.Made.{all_of, behind, of_part}
use Rattle.xf_controls_copies.specs.Seen.{seen_handed}
use Rattle.xf_controls_copies.specs.Walk.{copies_from, of_children}
use Rattle.xf_controls_copies.proofs.walk.+walk.Given as goal

abbrev pub decreases-push_below : goal.decreases-push_below
decreases-push_below g l = 6 * l.most

abbrev pub decreases-push_part : goal.decreases-push_part
decreases-push_part g l = 6 * l.most + 1

abbrev pub decreases-push_parts : goal.decreases-push_parts
decreases-push_parts g l = 6 * l.most + 2

abbrev pub decreases-push_rows : goal.decreases-push_rows
decreases-push_rows g l = 6 * l.most + 3

abbrev pub decreases-push_other : goal.decreases-push_other
decreases-push_other g l = 6 * l.most + 4

abbrev pub decreases-push_control : goal.decreases-push_control
decreases-push_control g l = 6 * l.most + 4

-- what is there and what is left give what all the parts give
abbrev pub invariant-push_parts-loop-part : goal.invariant-push_parts-loop-part
invariant-push_parts-loop-part g l =
    let further = copies_from l.most (interface_of l.state.over.form.now) (around_over l.state.over) (g.M.NodeMarks.marks_of l.state.marks.now) l.state.cases.now in
    behind (map seen_copy l.initial.all) (all_of (of_part (further (seen_handed l.handed))) l.part-items)
    ≡ behind (map seen_copy l.all) (all_of (of_part (further (seen_handed l.handed))) (drop l.part-index l.part-items))

-- and what all the rows give
abbrev pub invariant-push_rows-loop-node : goal.invariant-push_rows-loop-node
invariant-push_rows-loop-node g l =
    let f = interface_of l.state.over.form.now in
    let further = copies_from l.most f (around_over l.state.over) (g.M.NodeMarks.marks_of l.state.marks.now) l.state.cases.now in
    behind (map seen_copy l.initial.all) (all_of (λ (x : NodeId). of_children further f (in_row (seen_handed l.handed) l.situation.model (map number l.node-items) x.number) l.element) l.node-items)
    ≡ behind (map seen_copy l.all) (all_of (λ (x : NodeId). of_children further f (in_row (seen_handed l.handed) l.situation.model (map number l.node-items) x.number) l.element) (drop l.node-index l.node-items))
