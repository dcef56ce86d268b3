-- The expression of an entry (XForms 1.1, section 6.1): its value over some data, and what it reads and looks at over their shape. Its
-- context is the bound node, with that node's position and size in the node set of the bind (section 7.2).
use Rattle.std.specs.Prelude.{ℕ, ◌+◌, Bool, not, List, [], ◌∷◌, length, filter, sum_by, Option, Some, None, option_and_then, slice_get}
use Rattle.std.specs.List.{list_any}
use Rattle.xf_def_forest.specs.Visit.{Visit, has, ancestors_of}
use Rattle.xf_def_xpath.specs.declared.value.Value.{Value}
use Rattle.xf_def_xpath.specs.declared.value.Value.TheVariants.{Nodes}
use Rattle.xf_def_xpath.specs.Setting.{Focus, ◌>>=◌}
use Rattle.xf_def_xpath.specs.Conversions.{string_of}
use Rattle.xf_def_xpath.specs.Reads.{reads_in, looks_in}
use Rattle.xf_def_model.specs.declared.property.Property.{Property}
use Rattle.xf_def_model.specs.declared.property.Property.TheVariants.{Kind, Calculate, Relevant, Readonly, Required, Constraint}
use Rattle.xf_def_model.specs.Rules.{Rule, Computed, Scope}
use Rattle.xf_def_model.specs.Nested.{setting_for}
use Rattle.xf_def_model.specs.Applied.{Entry, is_property}

abbrev pub expression_in : Rule → Property → Option Computed
expression_in r Kind = None
expression_in r Calculate = r.calculate
expression_in r Relevant = r.relevant
expression_in r Readonly = r.readonly
expression_in r Required = r.required
expression_in r Constraint = r.constraint

abbrev pub expression_of : Scope → Entry → Option Computed
expression_of scope e = option_and_then (λ r. expression_in r e.property) (slice_get scope.rules e.bind)

-- a type has no expression
abbrev pub is_computed : Entry → Bool
is_computed e = not (is_property e.property Kind)

abbrev pub focus_of : Entry → Focus
focus_of e = record { node = e.node; position = e.position; size = e.size }

-- ---- its value over visits, or None where a string passes the limit

abbrev pub value_by : Option ℕ → Scope → List Visit → Entry → Option Computed → Option Value
value_by most scope all e None = Some (Nodes [])
value_by most scope all e (Some x) = x.trace.meaning (setting_for most scope all e.node) (focus_of e)

abbrev pub value_of : Option ℕ → Scope → List Visit → Entry → Option Value
value_of most scope all e = value_by most scope all e (expression_of scope e)

abbrev pub text_of : Option ℕ → Scope → List Visit → Entry → Option (List ℕ)
text_of most scope all e = value_of most scope all e >>= string_of (setting_for most scope all e.node)

-- ---- what it reads and looks at, over the visits of a shape

abbrev pub reads_by : Scope → List Visit → Entry → Option Computed → List ℕ
reads_by scope all e None = []
reads_by scope all e (Some x) = reads_in x.trace (setting_for None scope all e.node) (focus_of e)

abbrev pub looks_by : Scope → List Visit → Entry → Option Computed → List ℕ
looks_by scope all e None = []
looks_by scope all e (Some x) = looks_in x.trace (setting_for None scope all e.node) (focus_of e)

abbrev pub reads_of : Scope → List Visit → Entry → List ℕ
reads_of scope all e = reads_by scope all e (expression_of scope e)

abbrev pub looks_of : Scope → List Visit → Entry → List ℕ
looks_of scope all e = looks_by scope all e (expression_of scope e)

-- the node or an ancestor of it is among those that are read: its text counts for what was read
abbrev pub touches : List Visit → List ℕ → ℕ → Bool
touches all reads n = list_any (λ m. has m reads) (n ∷ ancestors_of n all)

-- how much the entries read and look at together: a limit that a form is held to
abbrev pub asked_size : Scope → List Visit → Entry → ℕ
asked_size scope all e = length (reads_of scope all e) + length (looks_of scope all e)

abbrev pub edge_count : Scope → List Visit → List Entry → ℕ
edge_count scope all entries = sum_by (asked_size scope all) (filter is_computed entries)
