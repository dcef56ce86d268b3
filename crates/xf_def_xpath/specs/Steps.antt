-- Location paths (XPath 1.0, sections 2 to 2.5).
use Rattle.std.specs.Prelude.{ℕ, suc, Bool, true, false, List, [], ◌∷◌, map, filter, find, length, Option, Some, option_map, ◌==◌}
use Rattle.std.specs.List.{flat_map}
use Rattle.xf_name.specs.declared.axis.Axis.{Axis}
use Rattle.xf_name.specs.declared.axis.Axis.TheVariants.{DescendantOrSelf}
use Rattle.xf_def_syntax.specs.declared.expr.Test.{Test}
use Rattle.xf_def_syntax.specs.declared.expr.Test.TheVariants.{Node}
use Rattle.xf_def_syntax.specs.declared.expr.Start.{Start}
use Rattle.xf_def_syntax.specs.declared.expr.Start.TheVariants.{Root, Context}
use Rattle.xf_def_syntax.specs.declared.expr.Expr.TheOpen.{Step-F}
use Rattle.xf_def_forest.specs.Visit.{Visit, top_of}
use Rattle.xf_def_forest.specs.Axis.{axis_from}
use Rattle.xf_def_xpath.specs.declared.value.Value.{Value}
use Rattle.xf_def_xpath.specs.declared.value.Value.TheVariants.{Number}
use Rattle.xf_def_values.specs.Conversions.{whole}
use Rattle.xf_def_xpath.specs.Setting.{Setting, Focus, Meaning, Walk, LinkMeaning, ◌>>=◌, each, in_order, joined}
use Rattle.xf_def_xpath.specs.Conversions.{truth_of}
use Rattle.xf_def_xpath.specs.Comparisons.{is_same_number}
use Rattle.xf_def_xpath.specs.Tests.{meets}

-- what the axis and the node test select from a node, in the order of the axis (section 2.1)
abbrev pub reached : Axis → Test → List Visit → ℕ → List ℕ
reached axis test all n = map (λ y. y.number) (filter (λ y. meets axis test y.content) (axis_from axis all (find (λ x. x.number == n) all)))

-- ---- predicates (section 2.4)

-- a number is true at its own position
abbrev pub is_true_at : ℕ → ℕ → Value → Bool
is_true_at d position (Number k) = is_same_number k (whole d position)
is_true_at d position value = truth_of value

abbrev pub with_first : ℕ → Bool → List ℕ → List ℕ
with_first n true ns = n ∷ ns
with_first n false ns = ns

-- the nodes at which a predicate is true, the first of them at this position
abbrev pub kept_from : Setting → Meaning → ℕ → ℕ → List ℕ → Option (List ℕ)
kept_from s predicate size position [] = Some []
kept_from s predicate size position (n ∷ ns) = do
  value ← predicate s (record { node = n; position = position; size = size })
  rest ← kept_from s predicate size (suc position) ns
  Some (with_first n (is_true_at s.given.decimals position value) rest)

-- each predicate is asked of the nodes that the one before left
abbrev pub kept_by_all : Setting → List Meaning → List ℕ → Option (List ℕ)
kept_by_all s [] ns = Some ns
kept_by_all s (predicate ∷ predicates) ns = do
  left ← kept_from s predicate (length ns) 1 ns
  kept_by_all s predicates left

-- ---- steps (section 2.1)

-- positions count from each context node on its own
abbrev pub from_one : Axis → Test → List Meaning → Setting → ℕ → Option (List ℕ)
from_one axis test predicates s n = kept_by_all s predicates (reached axis test s.all n)

-- the nodes that a step begins at: after `//` also all nodes below (section 2.5)
abbrev pub begun_at : Bool → List Visit → List ℕ → List ℕ
begun_at false all ns = ns
begun_at true all ns = in_order all (flat_map (reached DescendantOrSelf Node all) ns)

abbrev pub step_walk : Step-F Meaning LinkMeaning Walk → Walk
step_walk step = λ s ns. option_map (λ sets. in_order s.all (joined sets))
    (each (from_one step.axis step.test step.predicates s) (begun_at step.is_below s.all ns))

-- ---- paths (section 2)

-- a chain of steps
abbrev pub walked : Setting → List Walk → List ℕ → Option (List ℕ)
walked s [] ns = Some ns
walked s (walk ∷ walks) ns = do
  reached ← walk s ns
  walked s walks reached

-- the root of a detached tree is its top
abbrev pub begun : Start → Setting → Focus → List ℕ
begun Root s c = top_of c.node s.all ∷ []
begun Context s c = c.node ∷ []
