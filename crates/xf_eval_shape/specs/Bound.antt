-- What a binding takes in place of a node of the shape (XForms 1.1, section 3.2.3), and which instance a call names (section 7.10.1).
use Rattle.std.specs.Prelude.{ℕ, ◌≡◌, Bool, false, List, [], ◌∷◌, find, Option, Some, None, ◌==◌}
use Rattle.xf_def_forest.specs.declared.content.Node.{Node}
use Rattle.xf_def_forest.specs.declared.content.Content.{Content}
use Rattle.xf_def_forest.specs.Forest.{is_root}
use Rattle.xf_def_xpath.specs.Binding.{as_list, stand_ins}
use Rattle.xf_def_xpath.specs.declared.value.Value.{Value}
use Rattle.xf_def_xpath.specs.Conversions.{nodes_of}
use Rattle.xf_def_xpath.specs.Given.{Given, document_of}
use Rattle.xf_def_xpath.specs.declared.context.Context.{Context}
use Rattle.xf_def_syntax.specs.declared.expr.Expr.{Expr}
use Rattle.xf_eval.specs.declared.kinds.Kind.{Kind}
use Rattle.xf_eval.specs.declared.kinds.Kind.TheVariants as kind
use Rattle.xf_eval_shape.specs.Fixed.{fixed_of}
use Rattle.xf_eval_shape.specs.Spots.{shaped}

abbrev pub bound_at : List Node → ℕ → List ℕ
bound_at nodes n = stand_ins (shaped nodes) (find (λ x. x.number == n) (shaped nodes))

abbrev pub is_root_in : Option Content → Bool
is_root_in None = false
is_root_in (Some content) = is_root content

-- the id that the arguments of a call of `instance` write: the empty text where there are none
abbrev pub literal_id : List Expr → Option (List ℕ)
literal_id [] = Some []
literal_id (expr ∷ exprs) = (fixed_of expr).literal

abbrev pub document_by : Given → ℕ → Option (List ℕ) → Option ℕ
document_by given model None = None
document_by given model (Some id) = document_of model id given.documents

-- this is the document element of the instance that is written
abbrev pub IsDocument : Given → List Expr → ℕ → Option ℕ → Type 0
IsDocument given arguments model element = document_by given model (literal_id arguments) ≡ element

-- the nodes that a call gives
abbrev pub CallGives : Kind → Given → List Expr → Context → List ℕ → Type 0
CallGives kind.Current given arguments context ns = ns ≡ context.current.number ∷ []
CallGives kind.Instance given arguments context ns = ns ≡ as_list (document_by given context.model (literal_id arguments))
CallGives other given arguments context ns = ns ≡ []

-- a value, where there is one, gives these nodes
abbrev pub Gives : List ℕ → Option Value → Type 0
Gives ns value = (w : Value) → value ≡ Some w → nodes_of w ≡ ns
