-- What a submission sends (XForms 1.1, section 11.2): the selected element with what is below it, irrelevant nodes left out, unless
-- nothing is left or a node that is left is invalid.
use Rattle.std.specs.Prelude.{ℕ, Bool, true, false, not, ◌&&◌, ◌||◌, List, [], ◌∷◌, map, filter, find, Option, Some, None, option_map, ◌==◌, if◌then◌else◌}
use Rattle.xf_def_syntax.specs.declared.form.Selection.{Selection}
use Rattle.xf_def_syntax.specs.declared.form.Selection.TheVariants.{Whole, Ref, Bind}
use Rattle.xf_def_syntax.specs.declared.form.Submission.{Submission}
use Rattle.xf_def_forest.specs.declared.content.Node.{Node}
use Rattle.xf_def_forest.specs.Forest.{is_element}
use Rattle.xf_def_forest.specs.Visit.{Visit, has, visits}
use Rattle.xf_def_xpath.specs.Setting.{each, joined}
use Rattle.xf_def_xpath.specs.Conversions.{nodes_of}
use Rattle.xf_def_xpath.specs.Binding.{first_bound}
use Rattle.xf_def_xpath.specs.Asked.{Trace}
use Rattle.xf_def_xpath.specs.Reads.{trace}
use Rattle.xf_def_model.specs.Rules.{Scope, in_model, for_binds}
use Rattle.xf_def_model.specs.Nested.{alone, setting_for, begun, nested}

pub data Submitted : Type 0 where
  -- the tree of this node, of which these nodes are left
  left : ℕ → List ℕ → Submitted
  -- nothing is selected or left, or an attribute is selected: `no-data`
  no_data : Submitted
  -- the first node left that is not valid: `validation-error`
  invalid : ℕ → Submitted

-- ---- what is selected

abbrev pub first_in : List ℕ → Option ℕ
first_in [] = None
first_in (n ∷ ns) = Some n

-- what the first node stands for that is selected from a node
abbrev pub first_from : Option ℕ → Scope → List Visit → Trace → ℕ → Option (List ℕ)
first_from most scope all t n = option_map (λ v. first_bound all (nodes_of v)) (t.meaning (setting_for most scope all n) (alone n))

-- by an expression whose context is the document element of the model's first instance
abbrev pub by_expression : Option ℕ → Scope → List Visit → Trace → Option (Option ℕ)
by_expression most scope all t = option_map (λ sets. first_in (joined sets)) (each (first_from most scope all t) (begun scope))

-- over a scope of the submission's model; None where a string passes the limit on the way
abbrev pub selected_by : Option ℕ → Scope → List Visit → Selection → Option (Option ℕ)
selected_by most scope all Whole = Some (first_in (begun scope))
selected_by most scope all (Ref expr) = by_expression most scope all (trace expr)
selected_by most scope all (Bind bind) = option_map first_in (nested most (for_binds scope) all bind)

abbrev pub element_in : Option Visit → Option ℕ
element_in None = None
element_in (Some x) = if is_element x.content then Some x.number else None

-- an attribute counts as nothing
abbrev pub element_of : List Visit → Option ℕ → Option ℕ
element_of all None = None
element_of all (Some n) = element_in (find (λ x. x.number == n) all)

-- ---- what is left

-- the node and what is below it, in document order, without the nodes that are left out
abbrev pub kept_below : List Visit → (ℕ → Bool) → ℕ → List ℕ
kept_below all is_left n =
    map (λ x. x.number) (filter (λ x. ((x.number == n) || has n x.above) && is_left x.number) all)

abbrev pub unless_invalid : Option ℕ → ℕ → List ℕ → Submitted
unless_invalid None n ns = left n ns
unless_invalid (Some m) n ns = invalid m

abbrev pub validated : Bool → (ℕ → Bool) → ℕ → List ℕ → Submitted
validated false is_valid n ns = left n ns
validated true is_valid n ns = unless_invalid (find (λ m. not (is_valid m)) ns) n ns

-- of the element, where it is left itself
abbrev pub sent_from : Bool → (ℕ → Bool) → (ℕ → Bool) → List Visit → Option ℕ → Submitted
sent_from is_validated is_left is_valid all None = no_data
sent_from is_validated is_left is_valid all (Some n) =
    if is_left n then validated is_validated is_valid n (kept_below all is_left n) else no_data

-- where relevance is not asked, every node is left
abbrev pub left_by : Bool → (ℕ → Bool) → ℕ → Bool
left_by false is_relevant n = true
left_by true is_relevant n = is_relevant n

-- over these visits, by the relevance and the validity of nodes
abbrev pub submitted_from : Submission → (ℕ → Bool) → (ℕ → Bool) → List Visit → Option ℕ → Submitted
submitted_from s is_relevant is_valid all selected =
    sent_from s.is_validated (left_by s.is_relevant is_relevant) is_valid all (element_of all selected)

-- whatever the scope's model is, the submission's own counts; strings have at most so many bytes, and None is a selection where one is longer
abbrev pub submitted : Option ℕ → Scope → (ℕ → Bool) → (ℕ → Bool) → List Node → Submission → Option Submitted
submitted most scope is_relevant is_valid nodes s =
    option_map (submitted_from s is_relevant is_valid (visits nodes)) (selected_by most (in_model s.model scope) (visits nodes) s.selection)
