-- What the last rebuild of each model gave, through a recalculation.
use Rattle.std.proofs.Common.{◌≡◌, ℕ, ◌<◌, ◌==◌, Bool, true, false, length, get_or, refl, sym, ap, ◌∙◌, subst}
use Rattle.std.proofs.lemmas.Bool.{eqb-true}
use Rattle.xf_def_syntax.specs.declared.form.Tables.{Tables}
use Rattle.xf_def_forest.specs.Shape.{shape_of}
use Rattle.xf_def_forest.specs.WellFormed.{HasTrees}
use Rattle.xf_def_model.specs.Settled.{Contents, settled_contents}
use Rattle.xf_def_machine.specs.Behave.{evaluated_more, model_at, no_model, recalculate, recalculated_with, settled_in}
use Rattle.xf_def_machine.specs.Primitives.{changed_at}
use Rattle.xf_def_machine.specs.Profile.{Profile}
use Rattle.xf_def_machine.specs.State.{Model, State}
use Rattle.xf_def_machine.specs.Surround.{all_in, bind_scope}
use Rattle.xf_law_machine.proofs.RestLemmas.Holds.{held-is}
use Rattle.xf_law_machine.proofs.RestLemmas.FlagLaws.{changed-length, recalculate-held, settled_values_in}
use Rattle.xf_law_sessions.specs.Kept.Kept.{AreEntered, HasBinds, HasNodes, IsEntered}
use Rattle.xf_law_sessions.proofs.KeptLemmas.Changing.{other-at, this-at}
use Rattle.xf_law_sessions.proofs.KeptLemmas.Entered.{entered_shaped}
use Rattle.xf_law_sessions.proofs.KeptLemmas.EnteredChanges.{other-marks}
use Rattle.xf_law_sessions.specs.Entered.Recalculations.{EnteredRecalculated, MaySettle, ShapeRecalculated}
use Rattle.xf_law_sessions.proofs.EnteredLemmas.Still.{settled-shape}

module _ (p : Profile) (model : ℕ) (s : State) where
  abbrev contents : Contents
  contents = settled_contents p.bounds (bind_scope p s model) (model_at s model).entries (all_in s)

  -- what it leaves
  abbrev pub left : ℕ → ℕ → State
  left made count = evaluated_more made count (settled_in p model (model_at s model).entries contents s)

  shape-left : HasTrees s.forest → MaySettle model s → (made count : ℕ) → shape_of (left made count).forest.nodes ≡ shape_of s.forest.nodes
  shape-left trees may made count = settled-shape p.bounds (bind_scope p s model) (model_at s model).entries s.forest trees may (all_in s)

  module _ (tables : Tables) (binds : HasBinds tables s.form) (h : HasNodes s.forest) (may : MaySettle model s) (k : AreEntered p s) where
    entered-left : (made count : ℕ) → HasNodes (left made count).forest → AreEntered p (left made count)
    entered-left made count n at l d = by (at == model) refl
      where
        many : at < length s.models
        many = subst (λ x. at < x) (changed-length (recalculated_with (settled_values_in p model s)) model s.models) l

        carried : (m : Model) → IsEntered (bind_scope p s at) s.forest.nodes m → IsEntered (bind_scope p (left made count) at) (left made count).forest.nodes m
        carried m r = entered_shaped p tables s (left made count) at m (record { binds = binds; same = refl; before = h; after = n }) (shape-left h.trees may made count) r

        by : (b : Bool) → (at == model) ≡ b → IsEntered (bind_scope p (left made count) at) (left made count).forest.nodes (model_at (left made count) at)
        by false i =
            let is : model_at (left made count) at ≡ model_at s at = other-at (recalculated_with (settled_values_in p model s)) model at s.models i in
            subst (λ (m : Model). IsEntered (bind_scope p (left made count) at) (left made count).forest.nodes m) (sym is)
            (carried (model_at s at) (k at many (ap (λ (m : Model). m.flags.rebuild) (sym is) ∙ d)))
        by true i =
            let is : model_at (left made count) at ≡ recalculated_with (settled_values_in p model s) (model_at s at) =
            ap (λ x. get_or (changed_at x (recalculated_with (settled_values_in p model s)) s.models) at no_model) (sym (eqb-true at model i)) ∙ this-at (recalculated_with (settled_values_in p model s)) at s.models many in
            subst (λ (m : Model). IsEntered (bind_scope p (left made count) at) (left made count).forest.nodes m) (sym is)
            (other-marks p tables (left made count) at (model_at s at) (recalculated_with (settled_values_in p model s) (model_at s at)) refl refl
            (carried (model_at s at) (k at many (ap (λ (m : Model). m.flags.rebuild) (sym is) ∙ d))))

pub shape_recalculated : ShapeRecalculated
shape_recalculated p model s t trees may e =
    held-is (λ (u : State). shape_of u.forest.nodes ≡ shape_of s.forest.nodes) (recalculate p model s) t
    (recalculate-held (λ (u : State). shape_of u.forest.nodes ≡ shape_of s.forest.nodes) p model s (shape-left p model s trees may)) e

pub entered_recalculated : EnteredRecalculated
entered_recalculated p tables model s t may h k e =
    held-is (λ (u : State). HasNodes u.forest → AreEntered p u) (recalculate p model s) t
    (recalculate-held (λ (u : State). HasNodes u.forest → AreEntered p u) p model s (entered-left p model s tables h.binds h.before may k)) e h.after
