use Rattle.std.proofs.Common.{◌≡◌, ◌+◌, ◌*◌, drop, map}
use Rattle.xf_def_ui.specs.Interface.{interface_of}
use Rattle.xf_eval_context.specs.Over.{around_over}
use Rattle.xf_controls.specs.Seen.{number, seen_copy}
use Rattle.xf_controls_copies.specs.Made.{all_of, behind, copies_at, of_parts}
use Rattle.xf_controls_copies.proofs.MadeLaws.{at_row}
use Rattle.xf_controls_copies.proofs.made.+made.Given as goal

abbrev pub decreases-push_copies : goal.decreases-push_copies
decreases-push_copies g l = 5 * l.most

abbrev pub decreases-push_inner : goal.decreases-push_inner
decreases-push_inner g l = 5 * l.most + 4

abbrev pub decreases-push_rows : goal.decreases-push_rows
decreases-push_rows g l = 5 * l.most + 3

abbrev pub decreases-push_parts : goal.decreases-push_parts
decreases-push_parts g l = 5 * l.most + 2

abbrev pub decreases-push_part : goal.decreases-push_part
decreases-push_part g l = 5 * l.most + 1

-- what is there and what is left give what all the parts give
abbrev pub invariant-push_parts-loop-part : goal.invariant-push_parts-loop-part
invariant-push_parts-loop-part g l =
    let further = copies_at l.most (interface_of l.state.over.form.now) (around_over l.state.over) (g.M.NodeMarks.marks_of l.state.marks.now) l.state.cases.now (map number l.rows) in
    behind (map seen_copy l.initial.all) (of_parts further l.part-items) ≡ behind (map seen_copy l.all) (of_parts further (drop l.part-index l.part-items))

-- and of the rows
abbrev pub invariant-push_rows-loop-node : goal.invariant-push_rows-loop-node
invariant-push_rows-loop-node g l =
    let f = interface_of l.state.over.form.now in
    let a = around_over l.state.over in
    let made = at_row f a (copies_at l.most f a (g.M.NodeMarks.marks_of l.state.marks.now) l.state.cases.now) (map number l.rows) l.element in
    behind (map seen_copy l.initial.all) (all_of made l.node-items) ≡ behind (map seen_copy l.all) (all_of made (drop l.node-index l.node-items))
