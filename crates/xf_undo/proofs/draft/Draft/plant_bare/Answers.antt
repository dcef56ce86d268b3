use Rattle.std.proofs.Common.{Ok, refl, sym, ap, ◌∙◌}
use Rattle.xf_def_forest.specs.Limits.{limits}
use Rattle.xf_law_forests.specs.Rollback.Made.{Made}
use Rattle.xf_undo.specs.Draft.{Draft, with_tree}
use Rattle.xf_def_forest.specs.Planted.{planted_bare}
use Rattle.xf_law_forests.proofs.RollbackLemmas.GrowthLaws.{planted_bare-made}
use Rattle.xf_undo.proofs.DraftLemmas.{drafted, made-as, trees-as, with_kept, none-free}
use Rattle.xf_undo.proofs.draft.Draft.plant_bare.Goals as goal
use Rattle.xf_undo.proofs.draft.Draft.plant_bare.Goals.{After-are_trees-2}

-- what stands then was made
made-then : (c : After-are_trees-2) → Made c.self.invariant.start c.self.inside.ledger c.plant_bare.new.self
made-then c =
    let beside = with_kept c.self.inside.forest c.plant_bare.new.self c.in_ok-top.ensures.kept in
    made-as (planted_bare-made limits c.args.prefixes.now c.args.tree.now c.in_ok-top.top.number c.plant_bare.new.self.forest c.self.invariant.made c.are_trees.ensures c.in_ok-top.ensures.answer (trees-as c.are_trees-2.ensures (sym beside))) refl beside

pub invariant_of-self-2 : goal.invariant_of-self-2
invariant_of-self-2 c = record { start = c.self.invariant.start; made = made-then (goal.at.invariant_of-self-2 c).After-are_trees-2; free = none-free _ _ c.plant_bare.new.self c.give_up_numbers.ensures.first }

pub returns-clause-answer : goal.returns-clause-answer
returns-clause-answer c =
    let made = made-then (goal.at.returns-clause-answer c).After-are_trees-2 in
    ap (λ (d : Draft). with_tree c.args.self.now (planted_bare limits c.args.prefixes.now c.args.tree.now d.now)) (sym c.self.view_is) ∙ ap (with_tree c.args.self.now) c.in_ok-top.ensures.answer
    ∙ ap (λ (d : Draft). Ok (c.in_ok-top.top.number, d)) (sym (drafted c.args.self.now c.self.view_is c.self.invariant.made c.are_trees.ensures made c.are_trees-2.ensures c.give_up_numbers.ensures.first c.give_up_numbers.ensures.used))
