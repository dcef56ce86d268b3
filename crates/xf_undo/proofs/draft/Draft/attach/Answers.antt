use Rattle.std.proofs.Common.{Ok, sym, ap, ◌∙◌, subst}
use Rattle.xf_def_forest.specs.Changes.{attached}
use Rattle.xf_def_forest.specs.Limits.{limits}
use Rattle.xf_def_forest.specs.Needs.{MayAttach}
use Rattle.xf_def_forest.specs.Undo.{of_attach, attach_filled}
use Rattle.xf_undo.specs.Draft.{Draft, with_forest}
use Rattle.xf_law_forests.specs.Rollback.Made.{Made, noted, joined}
use Rattle.xf_undo.proofs.DraftLemmas.{drafted, made-as, with_kept, none-free, free-as}
use Rattle.xf_undo.proofs.draft.Draft.attach.Goals.{After-are_trees-2}
use Rattle.xf_undo.proofs.draft.Draft.attach.Goals as goal

-- a refused attachment is a note
pub invariant_of-self-in_err-attach : goal.invariant_of-self-in_err-attach
invariant_of-self-in_err-attach c = record {
  start = c.self.invariant.start;
  made = made-as (noted (of_attach c.args.node.number) c.self.invariant.made) c.in_ok-note.ensures.ok c.in_err-attach.ensures.err;
  free = free-as _ _ c.self.invariant.free c.in_err-attach.ensures.err;
}

made-then : (c : After-are_trees-2) → Made c.self.invariant.start c.fill_attach.new.self c.attach.new.self
made-then c =
    let n = c.args.node.number in
    let m = c.args.parent.number in
    let may = subst (λ (d : Draft). MayAttach n m c.args.place d.now) (sym c.self.view_is) c.requires in
    made-as (joined limits n m c.args.place c.attach.new.self.forest c.self.invariant.made c.are_trees.ensures may (sym c.in_ok-attach.ensures.answer))
    (c.fill_attach.ensures ∙ ap attach_filled c.in_ok-note.ensures.ok) (with_kept c.self.inside.forest c.attach.new.self c.in_ok-attach.ensures.kept)

pub invariant_of-self-2 : goal.invariant_of-self-2
invariant_of-self-2 c = record { start = c.self.invariant.start; made = made-then (goal.at.invariant_of-self-2 c).After-are_trees-2; free = none-free _ _ c.attach.new.self c.give_up_numbers.ensures.first }

pub returns-clause-answer : goal.returns-clause-answer
returns-clause-answer c =
    let k = (goal.at.returns-clause-answer c).After-are_trees-2 in
    ap (λ (d : Draft). with_forest c.args.self.now (attached limits c.args.node.number c.args.parent.number c.args.place d.now)) (sym c.self.view_is)
    ∙ ap (with_forest c.args.self.now) (sym c.in_ok-attach.ensures.answer) ∙ ap Ok (sym (drafted c.args.self.now c.self.view_is c.self.invariant.made c.are_trees.ensures (made-then k) c.are_trees-2.ensures c.give_up_numbers.ensures.first c.give_up_numbers.ensures.used))
