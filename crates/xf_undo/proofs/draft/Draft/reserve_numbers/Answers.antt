use Rattle.std.proofs.Common.{ℕ, List, [], refl, sym, ap, ◌∙◌, subst}
use Rattle.xf_def_forest.specs.Texts.{Keeping}
use Rattle.xf_def_forest.specs.Settle.{reserved}
use Rattle.xf_undo.specs.Draft.{Draft, AreFree}
use Rattle.xf_law_forests.specs.Rollback.Made.{Made, passed}
use Rattle.xf_undo.proofs.DraftLemmas.{numbered-draft, made-as, next-free}
use Rattle.xf_undo.proofs.draft.Draft.reserve_numbers.Goals.{After-are_trees-2}
use Rattle.xf_undo.proofs.draft.Draft.reserve_numbers.Goals as goal

made-then : (c : After-are_trees-2) → Made c.self.invariant.start c.self.inside.ledger c.reserve_numbers.new.self
made-then c = made-as (passed c.args.count c.self.invariant.made) refl c.reserve_numbers.ensures

pub invariant_of-self : goal.invariant_of-self
invariant_of-self c =
    let k = c.self.inside.forest in
    let free = next-free c.args.count k c.are_trees.ensures in
    let now = subst (AreFree k.forest.next []) (sym c.reserve_numbers.ensures) free in
    record {
      start = c.self.invariant.start;
      made = made-then (goal.at.invariant_of-self c).After-are_trees-2;
      free = subst (λ (used : List ℕ). AreFree c.give_up_numbers.new.first used c.reserve_numbers.new.self) (sym c.give_up_numbers.ensures.used)
          (subst (λ (first : ℕ). AreFree first [] c.reserve_numbers.new.self) (sym c.give_up_numbers.ensures.first) now);
    }

pub returns : goal.returns
returns c =
    let d = c.args.self.now in
    let k = c.self.inside.forest in
    let first = c.give_up_numbers.new.first in
    let used = c.give_up_numbers.new.used.items in
    let made = made-then (goal.at.returns c).After-are_trees-2 in
    numbered-draft d first used c.self.view_is c.self.invariant.made c.are_trees.ensures made c.are_trees-2.ensures
    ∙ ap (λ (q : Keeping). record { kept = d.kept; now = q.forest; first = first; used = used }) c.reserve_numbers.ensures
    ∙ ap (λ n. record { kept = d.kept; now = reserved c.args.count k.forest; first = n; used = used }) c.give_up_numbers.ensures.first
    ∙ ap (λ ns. record { kept = d.kept; now = reserved c.args.count k.forest; first = k.forest.next; used = ns }) c.give_up_numbers.ensures.used
    ∙ ap (λ (e : Draft). record { kept = d.kept; now = reserved c.args.count e.now; first = e.now.next; used = [] }) c.self.view_is
