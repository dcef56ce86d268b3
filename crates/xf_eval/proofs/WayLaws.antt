-- How a step is walked gives what the step selects.
use Rattle.std.proofs.Common.{◌≡◌, ℕ, ◌+◌, ◌<◌, true, false, List, [], ◌∷◌, map, drop, length, get_or, Option, Some, None, refl, sym, ap, ◌∙◌, subst}
use Rattle.xf_name.specs.declared.axis.Axis.{Axis}
use Rattle.xf_name.specs.declared.axis.Axis.TheVariants.{Child, Attribute, Self_, Parent, Ancestor, AncestorOrSelf, Descendant, DescendantOrSelf, FollowingSibling, PrecedingSibling}
use Rattle.xf_def_syntax.specs.declared.expr.Step.{Step}
use Rattle.xf_def_forest.specs.declared.content.Node.{Node}
use Rattle.xf_funcs.specs.Called.{called}
use Rattle.xf_def_xpath.specs.declared.context.Context.{Context}
use Rattle.xf_def_xpath.specs.Given.{Given}
use Rattle.xf_eval.specs.declared.ways.Way.{Way}
use Rattle.xf_def_forest.specs.Texts.{Keeping}
use Rattle.xf_def_forest.specs.WellFormed.{AreTrees}
use Rattle.xf_def_xpath.specs.Agree.{AreVisits}
use Rattle.xf_def_xpath.specs.Meaning.{meaning, setting_of, walk_of}
use Rattle.xf_def_xpath.specs.Setting.{Setting}
use Rattle.xf_def_xpath.specs.Steps.{begun_at, walked}
use Rattle.xf_eval.specs.Taken.{taken}
use Rattle.xf_eval.specs.Ways.{IsWay, is_child}
use Rattle.xf_eval.specs.Worth.{seen}
use Rattle.xf_eval.proofs.Below.{seen-visits, taken-below}
use Rattle.xf_eval.proofs.Parts.{step-taken}
use Rattle.xf_eval.proofs.Runs.{walked-more, walked-stuck}

pub empty-is : {X : Type 0} (xs : List X) → length xs ≡ 0 → xs ≡ []
empty-is [] h = refl
empty-is (x ∷ xs) h = cc h

child-is : (axis : Axis) → is_child axis ≡ true → axis ≡ Child
child-is Child h = refl
child-is Attribute h = cc h
child-is Self_ h = cc h
child-is Parent h = cc h
child-is Ancestor h = cc h
child-is AncestorOrSelf h = cc h
child-is Descendant h = cc h
child-is DescendantOrSelf h = cc h
child-is FollowingSibling h = cc h
child-is PrecedingSibling h = cc h

-- as it is written
pub as-written : (k : Keeping) (step : Step) (from : List ℕ) → IsWay step k.forest.nodes from (record { is_below = step.is_below; axis = step.axis })
as-written k step from s all = step-taken step step.is_below s from refl

-- `//name` from one node
pub straight-down : (k : Keeping) (step : Step) (from : List ℕ) → AreTrees k → step.is_below ≡ true → is_child step.axis ≡ true → length step.predicates ≡ 0 → length from ≡ 1 →
    IsWay step k.forest.nodes from (record { is_below = false; axis = Descendant })
straight-down k step [] sound below axis none one s all = cc one
straight-down k step (n ∷ m ∷ ns) sound below axis none one s all = cc one
straight-down k step (n ∷ []) sound below axis none one s all =
    step-taken step true s (n ∷ []) below
    ∙ ap (λ a. taken a step.test (map meaning step.predicates) s (begun_at true s.all (n ∷ []))) (child-is step.axis axis)
    ∙ ap (λ ms. taken Child step.test ms s (begun_at true s.all (n ∷ []))) (ap (map meaning) (empty-is step.predicates none))
    ∙ sym (taken-below step.test s n (subst AreVisits (sym all) (seen-visits k sound)))
    ∙ ap (λ ms. taken Descendant step.test ms s (n ∷ [])) (sym (ap (map meaning) (empty-is step.predicates none)))

-- ---- in the setting of an expression

module _ (given : Given) (nodes : List Node) (context : Context) where
  abbrev setting : Setting
  setting = setting_of called given nodes context

  pub way-walks : (step : Step) (from start : List ℕ) (way : Way) → IsWay step nodes from way → start ≡ begun_at way.is_below (seen nodes) from →
      walk_of step setting from ≡ taken way.axis step.test (map meaning step.predicates) setting start
  way-walks step from start way h e = h setting refl ∙ ap (taken way.axis step.test (map meaning step.predicates) setting) (sym e)

  pub way-stuck : (steps : List Step) (i : ℕ) (step : Step) (from start : List ℕ) (way : Way) (worth : Option (List ℕ)) →
      walked setting (map walk_of (drop i steps)) from ≡ worth → i < length steps → step ≡ get_or steps i step → IsWay step nodes from way → start ≡ begun_at way.is_below (seen nodes) from →
      taken way.axis step.test (map meaning step.predicates) setting start ≡ None → worth ≡ None
  way-stuck steps i step from start way worth inv l at h e stuck =
      walked-stuck setting steps i step from worth inv l (ap (λ x. walk_of x setting from) (sym at) ∙ way-walks step from start way h e ∙ stuck)

  pub way-more : (steps : List Step) (i : ℕ) (step : Step) (from start next : List ℕ) (way : Way) (worth : Option (List ℕ)) →
      walked setting (map walk_of (drop i steps)) from ≡ worth → i < length steps → step ≡ get_or steps i step → IsWay step nodes from way → start ≡ begun_at way.is_below (seen nodes) from →
      taken way.axis step.test (map meaning step.predicates) setting start ≡ Some next → walked setting (map walk_of (drop (i + 1) steps)) next ≡ worth
  way-more steps i step from start next way worth inv l at h e some =
      walked-more setting steps i step from next worth inv l (ap (λ x. walk_of x setting from) (sym at) ∙ way-walks step from start way h e ∙ some)
