-- A node that moves within an instance, the lists that it left and came to marked. From it `count(ancestor::*)` reads and looks at nothing, and
-- gives another number: no marks can tell of it, so that it can't stand beside itself under one number.
use Rattle.std.proofs.Common.{◌≡◌, ℕ, true, false, List, [], ◌∷◌, Option, Some, refl, ap, codes}
use Rattle.std.specs.Prelude.{pos}
use Rattle.xf_base.specs.Limits.{string_limit}
use Rattle.xf_num.specs.Number.{scale}
use Rattle.xf_name.specs.declared.axis.Axis.TheVariants as axis
use Rattle.xf_def_syntax.specs.declared.expr.Test.TheVariants as test
use Rattle.xf_def_forest.specs.declared.content.Node.{Node}
use Rattle.xf_def_forest.specs.declared.content.Content.TheVariants.{Root, Element}
use Rattle.xf_def_forest.specs.Changes.{detached, placed}
use Rattle.xf_def_forest.specs.Examples.{node, element, plain}
use Rattle.xf_def_forest.specs.Visit.{Visit, visits, has}
use Rattle.xf_def_xpath.specs.declared.value.Value.{Value}
use Rattle.xf_def_xpath.specs.declared.value.Value.TheVariants.{Number}
use Rattle.xf_def_xpath.specs.Setting.{setting_over}
use Rattle.xf_def_xpath.specs.Asked.{Trace}
use Rattle.xf_def_xpath.specs.Reads.{reads_in, looks_in, shape_setting}
use Rattle.xf_def_xpath.specs.Examples.{functions, given, step, path, call, focus}
use Rattle.xf_law_recalculation.specs.Marks.Marks.{SameNodes}

-- ["d",["b",["c"]]], and c behind b
abbrev before : List Node
before = node 0 0 Root ∷ element 1 1 (codes "d") ∷ element 2 2 (codes "b") ∷ element 3 3 (codes "c") ∷ []

abbrev now : List Node
now = node 0 0 Root ∷ element 1 1 (codes "d") ∷ element 2 2 (codes "b") ∷ element 3 2 (codes "c") ∷ []

it_moves : (placed 3 1 1 (detached 3 (record { nodes = before; next = 4 }))).nodes ≡ now
it_moves = refl

-- count(ancestor::*)
abbrev above : Trace
above = call 8 (path (step axis.Ancestor test.AnyName [] ∷ []) ∷ [])

abbrev worth : List Node → Option Value
worth nodes = above.meaning (setting_over functions (Some string_limit) given (visits nodes) 0 3) (focus 3)

reads_nothing : reads_in above (shape_setting functions given now 0 3) (focus 3) ≡ []
reads_nothing = refl

looks_at_nothing : looks_in above (shape_setting functions given now 0 3) (focus 3) ≡ []
looks_at_nothing = refl

gave_two : worth before ≡ Some (Number (Some (pos 2000000)))
unfolding scale
gave_two = refl

gives_one : worth now ≡ Some (Number (Some (pos 1000000)))
unfolding scale
gives_one = refl

-- so the two are not the same by any marks
never_the_same : (texts lists : List ℕ) → SameNodes texts lists (visits now) (visits before) → false ≡ true
never_the_same texts lists same =
    ap (λ (v : Visit). has 2 v.above)
    (same.stay 3 (record { number = 3; above = 1 ∷ 0 ∷ []; content = Element (plain (codes "c")) }) (record { number = 3; above = 2 ∷ 1 ∷ 0 ∷ []; content = Element (plain (codes "c")) }) refl refl)
