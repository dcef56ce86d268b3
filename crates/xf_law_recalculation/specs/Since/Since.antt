-- What is known at a recalculation of the one before it (XForms 1.1, section 4.3.2 and appendix C): what stood then, how the data of now stand
-- beside the data of then, and what a recalculation asks of those of now.
use Rattle.std.specs.Prelude.{ℕ, ◌≡◌, ◌+◌, ◌^◌, Bool, true, false, List, map, length, Option, Some, None, option_map, nat_lt, nat_le}
use Rattle.xf_def_syntax.specs.declared.form.Tables.{Tables}
use Rattle.xf_def_forest.specs.declared.content.Node.{Node}
use Rattle.xf_def_forest.specs.Forest.{Forest}
use Rattle.xf_def_forest.specs.Needs.{IsSettable}
use Rattle.xf_def_forest.specs.Settle.{has_text}
use Rattle.xf_def_forest.specs.Visit.{visits}
use Rattle.xf_def_values.specs.Functions.{Functions}
use Rattle.xf_def_xpath.specs.declared.value.Value.{Value}
use Rattle.xf_def_xpath.specs.declared.value.Value.TheVariants.{Truth}
use Rattle.xf_def_xpath.specs.Conversions.{truth_of}
use Rattle.xf_def_xpath.specs.Given.{Document, Given, document_of}
use Rattle.xf_def_model.specs.Rules.{Scope, scope_of}
use Rattle.xf_def_model.specs.Applied.{Entry, is_calculate}
use Rattle.xf_def_model.specs.Entries.{text_of, value_of}
use Rattle.xf_def_model.specs.Settled.{Bounds, Valued, calculates}
use Rattle.xf_def_model.specs.Pertinent.{Changes, AllOf}
use Rattle.xf_def_model.specs.Stands.{AreAcyclic}
use Rattle.xf_law_recalculation.specs.Agree.Settles.{IsSolid, Surrounds}
use Rattle.xf_law_recalculation.specs.Agree.FormSettles.{AreCovered, Applies}
use Rattle.xf_law_recalculation.specs.Agree.Forests.{over_second}
use Rattle.xf_law_recalculation.specs.Agree.Hung.{are_hung}
use Rattle.xf_law_recalculation.specs.Marks.Instances.{standing}
use Rattle.xf_law_recalculation.specs.Change.Carried.{Carried}

-- ---- then

-- the data as the last recalculation left them, what surrounded expressions, and the entries of then with the truths of their values
pub record Before : Type 0 where
  pub forest : Forest
  pub documents : List Document
  pub indexes : List (List ℕ × ℕ)
  pub event : Option (List (List ℕ × Value))
  pub stood : List Valued

abbrev pub scope_then : Scope → Before → Scope
scope_then scope was = over_second scope was.documents was.indexes was.event

-- of a value its truth is kept
abbrev pub kept_of : Option Value → Option Value
kept_of value = option_map (λ v. Truth (truth_of v)) value

abbrev pub truly : Valued → Valued
truly v = record v { value = kept_of v.value }

abbrev pub changes_since : List ℕ → List ℕ → Before → Changes
changes_since texts lists was = record { texts = texts; lists = lists; stood = map (λ v. v.entry) was.stood }

-- the entry's text over these nodes passes no limit and stands at its node
pub record HoldsText (b : Bounds) (scope : Scope) (nodes : List Node) (e : Entry) : Type 0 where
  pub text : List ℕ
  pub given : text_of (Some b.string) scope (visits nodes) e ≡ Some text
  pub fits : nat_lt b.limits.text (length text) ≡ false
  pub stands : has_text e.node text nodes ≡ true

-- an entry that stood then, at a node that is no text and has its number still where it stands in an instance now
pub record Stood (f : ℕ → ℕ) (b : Bounds) (scope : Scope) (was : Before) (now : Forest) (v : Valued) : Type 0 where
  pub node : IsSolid (standing was.forest) v.entry.node
  pub number : IsSolid (standing now) v.entry.node → f v.entry.node ≡ v.entry.node
  pub truth : v.value ≡ kept_of (value_of (Some b.string) (scope_then scope was) (visits was.forest.nodes) v.entry)
  pub able : is_calculate v.entry ≡ true → IsSettable v.entry.node was.forest
  pub text : is_calculate v.entry ≡ true → HoldsText b (scope_then scope was) was.forest.nodes v.entry

-- ---- now

-- the entries are what the binds apply to the data, without an exception and without a cycle; no event is handled
pub record IsDue (b : Bounds) (functions : Functions) (given : Given) (tables : Tables) (model : ℕ) (now : Forest) (entries : List Entry) : Type 0 where
  pub covered : AreCovered tables
  pub around : Surrounds (scope_of functions given tables model) b.string now
  pub applies : Applies functions given tables model now entries
  pub acyclic : AreAcyclic (scope_of functions given tables model) entries (visits now.nodes)
  pub documents : AllOf (λ (d : Document). IsSolid (visits now.nodes) d.element) given.documents
  pub no_event : given.event ≡ None
  pub hung : are_hung now.nodes ≡ true
  -- document elements and nodes of entries stand in instances
  pub instances : (id : List ℕ) (n : ℕ) → document_of model id given.documents ≡ Some n → IsSolid (standing now) n
  pub stand : AllOf (λ e. IsSolid (standing now) e.node) entries
  -- there are as many numbers, none of which may be set aside
  pub room : nat_le (now.next + length (calculates entries)) (2 ^ 127) ≡ true

-- ---- now beside then

pub record Since (f : ℕ → ℕ) (taken : ℕ → Bool) (texts lists : List ℕ) (b : Bounds) (functions : Functions) (given : Given) (tables : Tables) (model : ℕ)
    (was : Before) (now : Forest) (entries : List Entry) : Type 0 where
  pub due : IsDue b functions given tables model now entries
  pub carried : Carried f taken texts lists (scope_of functions given tables model) was.documents now was.forest
  pub stood : AllOf (Stood f b (scope_of functions given tables model) was now) was.stood
