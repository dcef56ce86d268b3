-- The target of a submission (XForms 1.1, section 11.2), and whether a response may come in its place.
use Rattle.std.specs.Prelude.{ℕ, Bool, not, ◌&&◌, List, Option, Some, None, option_and_then, ◌==◌}
use Rattle.std.specs.List.{list_any}
use Rattle.xf_base.specs.Limits.{string_limit}
use Rattle.xf_def_syntax.specs.declared.expr.Expr.{Expr}
use Rattle.xf_def_forest.specs.declared.content.Node.{Node}
use Rattle.xf_def_forest.specs.Changes.{root_of}
use Rattle.xf_def_forest.specs.Forest.{is_element}
use Rattle.xf_def_forest.specs.Order.{instance_of}
use Rattle.xf_def_forest.specs.Shape.{has_elements}
use Rattle.xf_def_forest.specs.Visit.{top_of, visits}
use Rattle.xf_def_xpath.specs.Reads.{trace}
use Rattle.xf_def_model.specs.Rules.{Scope}
use Rattle.xf_def_model.specs.Submitted.{by_expression}
use Rattle.xf_def_ui.specs.declared.marks.Marks.{Marks}
use Rattle.xf_eval_context.specs.Around.{document_below}

-- the document element of the instance at a place
abbrev pub document_at : List Node → ℕ → Option ℕ
document_at nodes place = document_below nodes (root_of place nodes)

-- that of the instance in which a node stands
abbrev pub document_of : List Node → ℕ → Option ℕ
document_of nodes n = option_and_then (document_at nodes) (instance_of (top_of n (visits nodes)) nodes)

-- what `targetref` selects, else the document element of the instance that is named, else that of the instance of the selection
abbrev pub target_by : Scope → List Node → ℕ → Option Expr → Option ℕ → Option (Option ℕ)
target_by scope nodes n (Some expr) instance = by_expression (Some string_limit) scope (visits nodes) (trace expr)
target_by scope nodes n None (Some place) = Some (document_at nodes place)
target_by scope nodes n None None = Some (document_of nodes n)

-- an element that is not readonly
abbrev pub takes_tree : (ℕ → Marks) → List Node → ℕ → Bool
takes_tree marks nodes n = list_any (λ x. (x.number == n) && is_element x.content) (visits nodes) && not (marks n).readonly

-- no element stands in it, and it is not readonly
abbrev pub takes_text : (ℕ → Marks) → List Node → ℕ → Bool
takes_text marks nodes n = not (has_elements (visits nodes) n) && not (marks n).readonly
