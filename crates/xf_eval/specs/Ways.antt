-- How a step is walked: where it begins, and on which axis it goes (XPath 1.0, sections 2.1 and 2.5).
use Rattle.std.specs.Prelude.{ℕ, ◌≡◌, Bool, true, false, List, map}
use Rattle.xf_name.specs.declared.axis.Axis.{Axis}
use Rattle.xf_name.specs.declared.axis.Axis.TheVariants.{Child}
use Rattle.xf_def_syntax.specs.declared.expr.Step.{Step}
use Rattle.xf_def_forest.specs.declared.content.Node.{Node}
use Rattle.xf_def_xpath.specs.Meaning.{meaning, walk_of}
use Rattle.xf_def_xpath.specs.Setting.{Setting}
use Rattle.xf_def_xpath.specs.Steps.{begun_at}
use Rattle.xf_eval.specs.declared.ways.Way.{Way}
use Rattle.xf_eval.specs.Taken.{taken}
use Rattle.xf_eval.specs.Worth.{seen}

abbrev pub is_child : Axis → Bool
is_child Child = true
is_child other = false

-- walked so, the step selects what it means
abbrev pub IsWay : Step → List Node → List ℕ → Way → Type 0
IsWay step nodes from way = (s : Setting) → s.all ≡ seen nodes →
    walk_of step s from ≡ taken way.axis step.test (map meaning step.predicates) s (begun_at way.is_below s.all from)
