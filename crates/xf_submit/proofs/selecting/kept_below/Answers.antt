use Rattle.std.proofs.Common.{◌++◌, map, ap, ◌∙◌}
use Rattle.std.specs.Prelude.{filter}
use Rattle.xf_def_forest.specs.Visit.{visits}
use Rattle.xf_def_model.specs.Submitted.{left_by}
use Rattle.xf_submit.specs.Selecting.{relevant_by}
use Rattle.xf_submit.proofs.BelowLaws.{is_below}
use Rattle.xf_submit.proofs.NodeLaws.{filter-numbers}
use Rattle.xf_submit.proofs.selecting.kept_below.Goals as goal

pub returns : goal.returns
returns g c =
    let is_left = left_by c.args.submission.now.is_relevant (relevant_by (g.M.NodeMarks.marks_of c.args.marks.now)) in
    let all = visits c.args.over.now.forest.now.forest.nodes in
    c.in_ok-push_left.ensures ∙ ap (λ l. l ++ filter is_left (map (λ n. n.number) c.as_slice.result.now)) c.new-kept.ensures
    ∙ ap (filter is_left) (c.as_slice.ensures ∙ c.in_ok-below.ensures) ∙ filter-numbers (is_below c.args.element.number) is_left all
