use Rattle.std.proofs.Common.{◌≡◌, ap, ◌∙◌}
use Rattle.xf_def_forest.specs.Texts.{Keeping}
use Rattle.xf_undo.specs.Draft.{Draft, plain, changed}
use Rattle.xf_law_forests.specs.Rollback.Made.{Made}
use Rattle.xf_law_forests.proofs.RollbackLemmas.Laws.{can_roll_back, rolls_back}
use Rattle.xf_law_forests.proofs.RollbackLemmas.MadeLemmas.{keeps-again}
use Rattle.xf_undo.proofs.DraftLemmas.{drafted, made-as, none-free}
use Rattle.xf_undo.proofs.draft.Draft.roll_back.Goals.{After-are_trees-2}
use Rattle.xf_undo.proofs.draft.Draft.roll_back.Goals as goal

pub roll_back-requires : goal.roll_back-requires
roll_back-requires c = can_roll_back c.self.invariant.made c.are_trees.ensures

-- what is given back is what was kept
back-is : (c : After-are_trees-2) → c.roll_back.new.forest ≡ c.self.invariant.start
back-is c = c.roll_back.ensures.back ∙ rolls_back c.self.invariant.made c.are_trees.ensures

made-then : (c : After-are_trees-2) → Made c.self.invariant.start c.roll_back.new.self c.roll_back.new.forest
made-then c = made-as (keeps-again c.self.invariant.made) c.roll_back.ensures.none (back-is c)

pub invariant_of-self : goal.invariant_of-self
invariant_of-self c = record { start = c.self.invariant.start; made = made-then (goal.at.invariant_of-self c).After-are_trees-2; free = none-free _ _ c.roll_back.new.forest c.give_up_numbers.ensures.first }

pub returns : goal.returns
returns c =
    let k = (goal.at.returns c).After-are_trees-2 in
    let d = c.args.self.now in
    drafted d c.self.view_is c.self.invariant.made c.are_trees.ensures (made-then k) c.are_trees-2.ensures c.give_up_numbers.ensures.first c.give_up_numbers.ensures.used ∙ ap (λ (k : Keeping). changed d k.forest) c.roll_back.ensures.back
    ∙ ap (λ (e : Draft). plain d.kept e.kept) c.self.view_is
