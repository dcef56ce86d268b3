use Rattle.std.proofs.Common.{◌≡◌, ◌-◌, ◌++◌, map, drop, option_map}
use Rattle.xf_def_ui.specs.Interface.{interface_of}
use Rattle.xf_controls.specs.Below.{copies_from, of_parts}
use Rattle.xf_controls.specs.Seen.{seen_copy, seen_handed}
use Rattle.xf_controls.specs.Surrounded.{around_in}
use Rattle.xf_controls.proofs.walk.+push_copies.Given as goal

abbrev pub decreases-push_copies : goal.decreases-push_copies
decreases-push_copies g l = l.most

abbrev pub invariant-loop-part : goal.invariant-loop-part
invariant-loop-part g l =
    let form = l.over.form.now in
    let a = around_in (g.A.Around.given l.over.around.now) form.tables l.over.forest.now.forest.nodes in
    let further = copies_from (l.most - 1) (interface_of form) a (g.M.NodeMarks.marks_of l.over.marks.now) (seen_handed l.below) in
    option_map (λ more. map seen_copy l.copies ++ more) (of_parts further (drop l.part-index l.part-items))
    ≡ option_map (λ more. map seen_copy l.initial.copies ++ more) (of_parts further l.part-items)
