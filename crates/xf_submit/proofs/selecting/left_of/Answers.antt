use Rattle.std.proofs.Common.{◌≡◌, ℕ, true, false, Option, ap, subst, sym, ◌∙◌}
use Rattle.std.specs.Prelude.{IfOk}
use Rattle.xf_def_forest.specs.Visit.{visits}
use Rattle.xf_def_model.specs.Submitted.{left_by, sent_from}
use Rattle.xf_submit.specs.Selecting.{relevant_by, seen_chosen, valid_by}
use Rattle.xf_submit.proofs.NodeLaws.{element-kind, element-of}
use Rattle.xf_submit.proofs.selecting.left_of.Goals as goal

pub returns-then-not-is_element-clause-value : goal.returns-then-not-is_element-clause-value
returns-then-not-is_element-clause-value g c =
    let marks = g.M.NodeMarks.marks_of c.args.marks.now in
    let s = c.args.submission.now in
    let nodes = c.args.over.now.forest.now.forest.nodes in
    sym (ap (sent_from s.is_validated (left_by s.is_relevant (relevant_by marks)) (valid_by marks) (visits nodes))
    (element-of c.args.node.number nodes false (sym c.is_element.ensures ∙ c.if-not-is_element.true)))

pub left_of_element-requires : goal.left_of_element-requires
left_of_element-requires g c = element-kind c.args.node.number c.args.over.now.forest.now.forest.nodes (sym c.is_element.ensures ∙ c.if-not-is_element.false)

pub returns-clause-value : goal.returns-clause-value
returns-clause-value g c =
    let marks = g.M.NodeMarks.marks_of c.args.marks.now in
    let s = c.args.submission.now in
    let nodes = c.args.over.now.forest.now.forest.nodes in
    let P : Option ℕ → Type 0 = λ o. IfOk c.left_of_element.result (λ found. seen_chosen found ≡ sent_from s.is_validated (left_by s.is_relevant (relevant_by marks)) (valid_by marks) (visits nodes) o) in
    subst P (sym (element-of c.args.node.number nodes true (sym c.is_element.ensures ∙ c.if-not-is_element.false))) c.left_of_element.ensures.value
