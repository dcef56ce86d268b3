-- The calculates of a form in an order of their graph, each evaluated over the nodes where those before it were written (XForms 1.1, section
-- 4.3.2 and appendix C): each has its settled text, in whatever order these come in.
use Rattle.std.specs.Prelude.{ℕ, ◌≡◌, ◌+◌, ◌≤◌, ◌^◌, Bool, true, false, List, ◌∷◌, ◌++◌, length, Some, None, option_map}
use Rattle.xf_def_syntax.specs.declared.form.Tables.{Tables}
use Rattle.xf_def_forest.specs.Forest.{Forest}
use Rattle.xf_def_forest.specs.Visit.{visits}
use Rattle.xf_def_values.specs.Functions.{Functions}
use Rattle.xf_def_xpath.specs.Conversions.{truth_of}
use Rattle.xf_def_xpath.specs.Given.{Document, Given}
use Rattle.xf_def_model.specs.Rules.{scope_of}
use Rattle.xf_def_model.specs.Applied.{Entry}
use Rattle.xf_def_model.specs.Entries.{text_of, value_of}
use Rattle.xf_def_model.specs.Settled.{Bounds, Contents, content_of, calculates, fitting, settled_contents, settled, passed_over, passed}
use Rattle.xf_def_model.specs.Pertinent.{AllOf}
use Rattle.xf_law_forests.specs.Settle.Written.{written, MayWrite}
use Rattle.xf_law_recalculation.specs.Agree.Settles.{IsSolid, Surrounds}
use Rattle.xf_law_recalculation.specs.Agree.FormSettles.{AreCovered, Applies}
use Rattle.xf_law_recalculation.specs.Agree.InTurn.{IsOrdered}

-- what the binds of a form apply, in such an order, with what surrounds it
pub record AreTurned (b : Bounds) (functions : Functions) (given : Given) (tables : Tables) (model : ℕ) (forest : Forest) (entries es : List Entry) : Type 0 where
  pub covered : AreCovered tables
  pub around : Surrounds (scope_of functions given tables model) b.string forest
  pub applies : Applies functions given tables model forest entries
  pub ordered : IsOrdered (scope_of functions given tables model) entries (visits forest.nodes) es
  -- no document element is a text, and no event is told
  pub documents : AllOf (λ (d : Document). IsSolid (visits forest.nodes) d.element) given.documents
  pub no_event : given.event ≡ None
  -- there are as many numbers
  pub room : forest.next + length (calculates entries) ≤ 2 ^ 128

abbrev pub contents_of : Bounds → Functions → Given → Tables → ℕ → Forest → List Entry → Contents
contents_of b functions given tables model forest entries = settled_contents b (scope_of functions given tables model) entries (visits forest.nodes)

-- ---- the laws

-- the settled contents may be written
abbrev pub TurnWrites : Type 0
TurnWrites = (b : Bounds) (functions : Functions) (given : Given) (tables : Tables) (model : ℕ) (forest : Forest) (entries es : List Entry) →
    AreTurned b functions given tables model forest entries es → MayWrite forest.next (contents_of b functions given tables model forest entries) forest

-- where those before it were written, and those after it were not, a calculate has the text that it has over the settled data
abbrev pub TurnText : Type 0
TurnText = (b : Bounds) (functions : Functions) (given : Given) (tables : Tables) (model : ℕ) (forest : Forest) (entries es : List Entry) →
    AreTurned b functions given tables model forest entries es →
    (before after : List Entry) (e : Entry) → es ≡ before ++ e ∷ after → (done : ℕ → Bool) → AllOf (λ f. done f.node ≡ true) before → AllOf (λ f. done f.node ≡ false) (e ∷ after) →
    text_of (Some b.string) (scope_of functions given tables model) (visits (written done forest.next (contents_of b functions given tables model forest entries) forest.nodes)) e
    ≡ text_of (Some b.string) (scope_of functions given tables model) (settled b (scope_of functions given tables model) entries (visits forest.nodes)) e

-- and the truth that it has once all are written
abbrev pub TurnTruth : Type 0
TurnTruth = (b : Bounds) (functions : Functions) (given : Given) (tables : Tables) (model : ℕ) (forest : Forest) (entries es : List Entry) →
    AreTurned b functions given tables model forest entries es →
    (before after : List Entry) (e : Entry) → es ≡ before ++ e ∷ after → (done : ℕ → Bool) → AllOf (λ f. done f.node ≡ true) before → AllOf (λ f. done f.node ≡ false) (e ∷ after) →
    option_map truth_of (value_of (Some b.string) (scope_of functions given tables model) (visits (written done forest.next (contents_of b functions given tables model forest entries) forest.nodes)) e)
    ≡ option_map truth_of (value_of (Some b.string) (scope_of functions given tables model) (visits (written (λ n. true) forest.next (contents_of b functions given tables model forest entries) forest.nodes)) e)

-- its text makes its settled content, empty where it is too long
abbrev pub TurnContent : Type 0
TurnContent = (b : Bounds) (functions : Functions) (given : Given) (tables : Tables) (model : ℕ) (forest : Forest) (entries es : List Entry) →
    AreTurned b functions given tables model forest entries es →
    AllOf (λ e. content_of (contents_of b functions given tables model forest entries) e.node
    ≡ Some (fitting b.limits.text (text_of (Some b.string) (scope_of functions given tables model) (settled b (scope_of functions given tables model) entries (visits forest.nodes)) e))) es

-- once all are written, the limits that are passed are those that the settled texts pass
abbrev pub TurnPassed : Type 0
TurnPassed = (b : Bounds) (functions : Functions) (given : Given) (tables : Tables) (model : ℕ) (forest : Forest) (entries es : List Entry) →
    AreTurned b functions given tables model forest entries es →
    passed_over b (scope_of functions given tables model) entries (visits (written (λ n. true) forest.next (contents_of b functions given tables model forest entries) forest.nodes))
    ≡ passed b (scope_of functions given tables model) entries (visits forest.nodes)
