use Rattle.std.proofs.Common.{◌≡◌, ℕ, Bool, true, not, Some, None, List, ap, sym, ◌∙◌}
use Rattle.std.specs.Prelude.{find}
use Rattle.xf_def_forest.specs.Visit.{Visit, visits}
use Rattle.xf_def_model.specs.Submitted.{kept_below, left, left_by}
use Rattle.xf_submit.specs.Selecting.{relevant_by, valid_by}
use Rattle.xf_submit.proofs.LeftLaws.{sent-all, sent-valid}
use Rattle.xf_submit.proofs.NodeLaws.{element-live}
use Rattle.xf_submit.proofs.selecting.left_of_element.Goals as goal

pub kept_below-requires : goal.kept_below-requires
kept_below-requires g c = element-live c.args.element.number c.args.over.now.forest.now.forest.nodes c.requires

pub returns-then-not-is_validated-clause-value : goal.returns-then-not-is_validated-clause-value
returns-then-not-is_validated-clause-value g c =
    let marks = g.M.NodeMarks.marks_of c.args.marks.now in
    let s = c.args.submission.now in
    let n = c.args.element.number in
    let is_left : ℕ → Bool = left_by s.is_relevant (relevant_by marks) in
    let all : List Visit = visits c.args.over.now.forest.now.forest.nodes in
    let whole : is_left n ≡ true = sym c.is_left-is_whole.ensures ∙ c.if-not-is_whole.false in
    ap (left n) c.in_ok-kept.ensures ∙ sym (sent-all is_left (valid_by marks) all n s.is_validated whole c.if-not-is_validated.true)

pub returns-in-Some-clause-value : goal.returns-in-Some-clause-value
returns-in-Some-clause-value g c =
    let marks = g.M.NodeMarks.marks_of c.args.marks.now in
    let s = c.args.submission.now in
    let n = c.args.element.number in
    let is_left : ℕ → Bool = left_by s.is_relevant (relevant_by marks) in
    let all : List Visit = visits c.args.over.now.forest.now.forest.nodes in
    let whole : is_left n ≡ true = sym c.is_left-is_whole.ensures ∙ c.if-not-is_whole.false in
    let first : find (λ m. not (valid_by marks m)) (kept_below all is_left n) ≡ Some c.in-Some.node.number =
    sym (c.in-Some.ensures ∙ ap (find (λ m. not (valid_by marks m))) (c.as_slice.ensures ∙ c.in_ok-kept.ensures)) in
    sym (sent-valid is_left (valid_by marks) all n s.is_validated (Some c.in-Some.node.number) whole c.if-not-is_validated.false first)

pub returns-in-None-clause-value : goal.returns-in-None-clause-value
returns-in-None-clause-value g c =
    let marks = g.M.NodeMarks.marks_of c.args.marks.now in
    let s = c.args.submission.now in
    let n = c.args.element.number in
    let is_left : ℕ → Bool = left_by s.is_relevant (relevant_by marks) in
    let all : List Visit = visits c.args.over.now.forest.now.forest.nodes in
    let whole : is_left n ≡ true = sym c.is_left-is_whole.ensures ∙ c.if-not-is_whole.false in
    let first : find (λ m. not (valid_by marks m)) (kept_below all is_left n) ≡ None =
    sym (c.in-None.ensures ∙ ap (find (λ m. not (valid_by marks m))) (c.as_slice.ensures ∙ c.in_ok-kept.ensures)) in
    ap (left n) c.in_ok-kept.ensures ∙ sym (sent-valid is_left (valid_by marks) all n s.is_validated None whole c.if-not-is_validated.false first)
