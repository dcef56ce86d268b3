-- The parts of two models have no node in common.
use Rattle.std.proofs.Common.{◌≡◌, ℕ, ◌==◌, true, false, Option, Some, None, sym, ap, ◌∙◌}
use Rattle.std.proofs.lemmas.Bool.{eqb-true}
use Rattle.xf_def_xpath.proofs.VisitFacts.{no}
use Rattle.xf_law_recalculation.specs.Held.Held.{is_held, holder, PartsApart}
use Rattle.xf_law_recalculation.proofs.HeldLemmas.Held.{held_in_part}

-- one model holds it alone
held-once : (model other : ℕ) (m : Option ℕ) → (model == other) ≡ false → is_held other m ≡ true → is_held model m ≡ false
held-once model other None h i = no i
held-once model other (Some holding_it) h i = ap (λ k. model == k) (sym (eqb-true other holding_it i)) ∙ h

pub parts_apart : PartsApart
parts_apart instances model other n part another whole h h_too trees different there =
    held_in_part instances model n part whole h trees
    ∙ held-once model other (holder instances n whole.nodes) different (sym (held_in_part instances other n another whole h_too trees) ∙ there)
