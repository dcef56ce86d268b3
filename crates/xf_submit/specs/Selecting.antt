-- What a submission selects (XForms 1.1, section 11.2), as code answers it.
use Rattle.std.specs.Prelude.{◌≡◌, ℕ, Bool, List, ◌∷◌, Some}
use Rattle.xf_name.specs.declared.axis.Axis.TheVariants.{Attribute}
use Rattle.xf_def_forest.specs.declared.content.Node.{Node}
use Rattle.xf_def_forest.specs.declared.content.Kind.TheVariants as kind
use Rattle.xf_def_forest.specs.Axis.{axis_of}
use Rattle.xf_def_forest.specs.Forest.{kind_at}
use Rattle.xf_def_forest.specs.Visit.{visits}
use Rattle.xf_funcs.specs.Called.{called}
use Rattle.xf_def_model.specs.Rules.{Scope, scope_of}
use Rattle.xf_def_model.specs.Submitted.{Submitted, left, no_data, invalid}
use Rattle.xf_def_ui.specs.declared.marks.Marks.{Marks}
use Rattle.xf_eval_context.specs.declared.over.Over.{Over}
use Rattle.xf_eval_context.specs.Over.{around_over}
use Rattle.xf_submit.specs.declared.selecting.Chosen.{Chosen}
use Rattle.xf_submit.specs.declared.selecting.Chosen.TheVariants as chosen

-- of the expressions of a model's submissions
abbrev pub scope_over : Over → ℕ → Scope
scope_over o model = scope_of called (around_over o).given o.form.now.tables model

-- which nodes are relevant, and which valid, by the properties that are told of each
abbrev pub relevant_by : (ℕ → Marks) → ℕ → Bool
relevant_by marks n = (marks n).relevant

abbrev pub valid_by : (ℕ → Marks) → ℕ → Bool
valid_by marks n = (marks n).valid

abbrev pub seen_chosen : Chosen → Submitted
seen_chosen (chosen.Left l) = left l.node.number l.kept
seen_chosen chosen.NoData = no_data
seen_chosen (chosen.Invalid n) = invalid n.number

-- the tree that is left is that of an element
abbrev pub IsOfElement : List Node → Chosen → Type 0
IsOfElement nodes (chosen.Left l) = kind_at l.node.number nodes ≡ Some kind.Element
IsOfElement nodes chosen.NoData = Unit {0}
IsOfElement nodes (chosen.Invalid n) = Unit {0}

-- a node with its attributes
abbrev pub with_attributes : List Node → ℕ → List ℕ
with_attributes nodes n = n ∷ axis_of Attribute n (visits nodes)
