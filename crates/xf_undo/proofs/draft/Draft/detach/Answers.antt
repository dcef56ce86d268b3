use Rattle.std.proofs.Common.{sym, ap, ◌∙◌, subst}
use Rattle.xf_def_forest.specs.Changes.{detached}
use Rattle.xf_def_forest.specs.Needs.{MayDetach}
use Rattle.xf_def_forest.specs.Texts.{Keeping}
use Rattle.xf_def_forest.specs.Undo.{place_filled}
use Rattle.xf_undo.specs.Draft.{Draft, changed}
use Rattle.xf_law_forests.specs.Rollback.Made.{Made, cut}
use Rattle.xf_undo.proofs.DraftLemmas.{drafted, made-as, none-free}
use Rattle.xf_undo.proofs.draft.Draft.detach.Goals.{After-are_trees-2}
use Rattle.xf_undo.proofs.draft.Draft.detach.Goals as goal

made-then : (c : After-are_trees-2) → Made c.self.invariant.start c.fill_place.new.self c.detach-place.new.self
made-then c =
    let n = c.args.node.number in
    let may = subst (λ (d : Draft). MayDetach n d.now) (sym c.self.view_is) c.requires in
    made-as (cut n c.detach-place.result.0.number c.detach-place.result.1 c.self.invariant.made c.are_trees.ensures may (sym c.detach-place.ensures.stood))
    (c.fill_place.ensures ∙ ap (place_filled c.detach-place.result.0.number c.detach-place.result.1) c.in_ok-note.ensures.ok) c.detach-place.ensures.moved

pub invariant_of-self-2 : goal.invariant_of-self-2
invariant_of-self-2 c = record { start = c.self.invariant.start; made = made-then (goal.at.invariant_of-self-2 c).After-are_trees-2; free = none-free _ _ c.detach-place.new.self c.give_up_numbers.ensures.first }

pub returns-clause-ok : goal.returns-clause-ok
returns-clause-ok c =
    let k = (goal.at.returns-clause-ok c).After-are_trees-2 in
    let d = c.args.self.now in
    drafted d c.self.view_is c.self.invariant.made c.are_trees.ensures (made-then k) c.are_trees-2.ensures c.give_up_numbers.ensures.first c.give_up_numbers.ensures.used ∙ ap (λ (k : Keeping). changed d k.forest) c.detach-place.ensures.moved
    ∙ ap (λ (e : Draft). changed d (detached c.args.node.number e.now)) c.self.view_is
