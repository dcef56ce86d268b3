use Rattle.std.proofs.Common.{◌<◌, ◌∷◌, length, slice_get, IfSome, sym, ap, ◌∙◌, subst}
use Rattle.xf_tree_walks.specs.Found.{left_met}
use Rattle.xf_tree_walks.specs.Walks.{number_of_row}
use Rattle.xf_tree_walks.proofs.SoughtLemmas.{first-found, first-passed, get-behind}
use Rattle.xf_tree_walks.proofs.chosen_row.row_found.Goals as goal

pub returns-then-not-is_sought-clause-answer : goal.returns-then-not-is_sought-clause-answer
returns-then-not-is_sought-clause-answer c =
    let rows = c.args.rows.now.items in
    let within = subst (λ f. IfSome f (λ at. at < length rows)) c.in-Some.is c.requires.walk.within in
    c.row_left-then-not-is_sought.ensures.answer
    ∙ ap (λ l. slice_get l c.args.place) (sym (first-passed c.args.slots.now rows c.args.sought c.requires.nodes c.args.first c.in-Some.at c.args.left c.in-Some.is within (rw c.at.ensures at (sym c.is_sought.ensures ∙ c.if-not-is_sought.true))))

pub returns-then-place-eq0-clause-answer : goal.returns-then-place-eq0-clause-answer
returns-then-place-eq0-clause-answer c =
    let s = c.args.slots.now in
    let rows = c.args.rows.now.items in
    let at = c.in-Some.at in
    let within = subst (λ f. IfSome f (λ at. at < length rows)) c.in-Some.is c.requires.walk.within in
    sym (ap (λ l. slice_get l c.args.place) (first-found s rows c.args.sought c.requires.nodes c.args.first at c.args.left c.in-Some.is within (rw c.at.ensures at (sym c.is_sought.ensures ∙ c.if-not-is_sought.false)))
    ∙ ap (slice_get (number_of_row s rows at ∷ left_met s rows c.args.sought c.args.left)) c.if-place-eq0.true)

pub returns-clause-answer : goal.returns-clause-answer
returns-clause-answer c =
    let s = c.args.slots.now in
    let rows = c.args.rows.now.items in
    let at = c.in-Some.at in
    let within = subst (λ f. IfSome f (λ at. at < length rows)) c.in-Some.is c.requires.walk.within in
    c.row_left-2.ensures.answer
    ∙ sym (ap (λ l. slice_get l c.args.place) (first-found s rows c.args.sought c.requires.nodes c.args.first at c.args.left c.in-Some.is within (rw c.at.ensures at (sym c.is_sought.ensures ∙ c.if-not-is_sought.false)))
    ∙ get-behind (number_of_row s rows at) c.args.place (left_met s rows c.args.sought c.args.left) c.if-place-eq0.false)
