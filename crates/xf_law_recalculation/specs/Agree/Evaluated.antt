-- What an entry gives over a forest whose texts were set is what it gives over the data that hold these contents, where texts have the
-- numbers of a shape: numbers do not count.
use Rattle.std.specs.Prelude.{ℕ, ◌≡◌, ◌<◌, false, ◌&&◌, ◌==◌, List, map, Option, None, option_map}
use Rattle.std.specs.List.{list_any}
use Rattle.xf_def_syntax.specs.declared.form.Tables.{Tables}
use Rattle.xf_def_forest.specs.Forest.{Forest, is_text}
use Rattle.xf_def_forest.specs.Visit.{Visit, visits}
use Rattle.xf_def_forest.specs.WellFormed.{HasTrees}
use Rattle.xf_def_forest.specs.Same.{IsRenumbering, renumbered_visit}
use Rattle.xf_def_values.specs.Functions.{Functions}
use Rattle.xf_def_xpath.specs.Given.{Document, Given}
use Rattle.xf_def_xpath.specs.Conversions.{truth_of}
use Rattle.xf_def_xpath.specs.Same.{renumbered_given}
use Rattle.xf_def_model.specs.Rules.{scope_of}
use Rattle.xf_def_model.specs.Applied.{Entry}
use Rattle.xf_def_model.specs.Entries.{value_of, text_of}
use Rattle.xf_def_model.specs.Settled.{Bounds, is_long, passed_over}
use Rattle.xf_def_model.specs.Pertinent.{AllOf}
use Rattle.xf_law_recalculation.specs.Agree.Settles.{IsSolid}

-- one renumbering makes the one list of visits the other; what surrounds them, and the node of the entry, keep their numbers
pub record AreAlike (given : Given) (all other : List Visit) (e : Entry) : Type 0 where
  pub by : ℕ → ℕ
  pub renumbers : IsRenumbering by
  pub visits : map (renumbered_visit by) all ≡ other
  pub surroundings : renumbered_given by given ≡ given
  pub node : by e.node ≡ e.node

abbrev pub EvaluatedText : Type 0
EvaluatedText = (most : Option ℕ) (functions : Functions) (given : Given) (tables : Tables) (model : ℕ) (all other : List Visit) (e : Entry) → AreAlike given all other e →
    text_of most (scope_of functions given tables model) all e ≡ text_of most (scope_of functions given tables model) other e

abbrev pub EvaluatedTruth : Type 0
EvaluatedTruth = (most : Option ℕ) (functions : Functions) (given : Given) (tables : Tables) (model : ℕ) (all other : List Visit) (e : Entry) → AreAlike given all other e →
    option_map truth_of (value_of most (scope_of functions given tables model) all e) ≡ option_map truth_of (value_of most (scope_of functions given tables model) other e)

-- a string is too long over both or over neither
abbrev pub EvaluatedLong : Type 0
EvaluatedLong = (b : Bounds) (functions : Functions) (given : Given) (tables : Tables) (model : ℕ) (all other : List Visit) (e : Entry) → AreAlike given all other e →
    is_long b (scope_of functions given tables model) all e ≡ is_long b (scope_of functions given tables model) other e

-- so the same limits are passed over both: where the nodes of the entries keep their numbers
abbrev pub EvaluatedPassed : Type 0
EvaluatedPassed = (b : Bounds) (functions : Functions) (given : Given) (tables : Tables) (model : ℕ) (all other : List Visit) (entries : List Entry) (by : ℕ → ℕ) →
    IsRenumbering by → map (renumbered_visit by) all ≡ other → renumbered_given by given ≡ given → AllOf (λ e. by e.node ≡ e.node) entries →
    passed_over b (scope_of functions given tables model) entries all ≡ passed_over b (scope_of functions given tables model) entries other

-- outside an event the surroundings keep their numbers where the document elements do
abbrev pub SurroundingsStay : Type 0
SurroundingsStay = (by : ℕ → ℕ) (given : Given) → AllOf (λ (d : Document). by d.element ≡ d.element) given.documents → given.event ≡ None → renumbered_given by given ≡ given

-- a node that is no text has a number before the next one, and no text has it
abbrev pub SolidNumbers : Type 0
SolidNumbers = (forest : Forest) (n : ℕ) → HasTrees forest → IsSolid (visits forest.nodes) n →
    (n < forest.next) × (list_any (λ x. (x.number == n) && is_text x.content) forest.nodes ≡ false)
