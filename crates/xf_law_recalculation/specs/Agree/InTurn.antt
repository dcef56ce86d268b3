-- Calculates evaluated one after the other, each over data that hold the texts of those before it, as a recalculation does (XForms 1.1,
-- section 4.3.2 and appendix C). In an order of their graph they have the settled texts, and pass a limit where the settled ones do.
use Rattle.std.specs.Prelude.{ℕ, ◌≡◌, Bool, true, false, List, [], ◌∷◌, ◌++◌, filter, length, Option, Some, None, nat_lt, slice_get, ◌==◌}
use Rattle.std.specs.List.{list_any}
use Rattle.xf_def_syntax.specs.declared.form.Tables.{Tables}
use Rattle.xf_def_forest.specs.Forest.{Forest}
use Rattle.xf_def_forest.specs.Visit.{Visit, visits}
use Rattle.xf_def_forest.specs.Shape.{shape}
use Rattle.xf_graph.specs.Order.{IsOrder}
use Rattle.xf_def_values.specs.Functions.{Functions}
use Rattle.xf_def_xpath.specs.Given.{Given}
use Rattle.xf_def_model.specs.Rules.{Scope, scope_of}
use Rattle.xf_def_model.specs.Applied.{Entry}
use Rattle.xf_def_model.specs.Entries.{text_of, value_of}
use Rattle.xf_def_model.specs.Circular.{by_nodes, graph_over}
use Rattle.xf_def_model.specs.Settled.{Bounds, Contents, content_of, holding, calculates, content_by, fitting, settled_contents, settled, Passed, long, text, is_long, is_over, passed}
use Rattle.xf_def_model.specs.Pertinent.{AllOf}
use Rattle.xf_def_model.specs.Stands.{IsSettled, AreStanding}
use Rattle.xf_law_recalculation.specs.Agree.Settles.{Surrounds, IsStatic}
use Rattle.xf_law_recalculation.specs.Agree.FormSettles.{AreCovered, Applies}

-- the contents, once these entries were evaluated in turn
abbrev pub in_turn : Bounds → Scope → List Visit → List Entry → Contents → Contents
in_turn b scope all [] contents = contents
in_turn b scope all (e ∷ es) contents = in_turn b scope all es (contents ++ content_by b scope (holding all contents) e ∷ [])

-- these entries stand at these places of the first list
abbrev pub AtPlaces : List Entry → List ℕ → List Entry → Type 0
AtPlaces xs [] [] = Unit {0}
AtPlaces xs [] (e ∷ es) = ⊥
AtPlaces xs (place ∷ places) [] = ⊥
AtPlaces xs (place ∷ places) (e ∷ es) = (slice_get xs place ≡ Some e) × AtPlaces xs places es

-- no node has two of these entries
abbrev pub AreSingle : List Entry → Type 0
AreSingle [] = Unit {0}
AreSingle (e ∷ es) = (list_any (λ f. f.node == e.node) es ≡ false) × AreSingle es

-- these are the calculates in an order of their graph
pub record IsOrdered (scope : Scope) (entries : List Entry) (all : List Visit) (es : List Entry) : Type 0 where
  pub places : List ℕ
  pub order : IsOrder (graph_over scope (shape all) entries) places
  pub at_places : AtPlaces (by_nodes (shape all) (calculates entries)) places es

-- the static calculates of a model in an order of their graph, over the nodes of a forest
pub record AreInTurn (b : Bounds) (scope : Scope) (entries : List Entry) (forest : Forest) (es : List Entry) : Type 0 where
  pub around : Surrounds scope b.string forest
  pub static : AllOf (IsStatic scope forest) (calculates entries)
  pub standing : AreStanding entries (visits forest.nodes)
  pub single : AreSingle (calculates entries)
  pub ordered : IsOrdered scope entries (visits forest.nodes) es

-- ---- the laws

-- each node has its settled content in the end
abbrev pub InTurnContents : Type 0
InTurnContents = (b : Bounds) (scope : Scope) (entries : List Entry) (forest : Forest) (es : List Entry) → AreInTurn b scope entries forest es →
    (n : ℕ) → content_of (in_turn b scope (visits forest.nodes) es []) n ≡ content_of (settled_contents b scope entries (visits forest.nodes)) n

-- so that the data are the settled ones
abbrev pub InTurnSettled : Type 0
InTurnSettled = (b : Bounds) (scope : Scope) (entries : List Entry) (forest : Forest) (es : List Entry) → AreInTurn b scope entries forest es →
    holding (visits forest.nodes) (in_turn b scope (visits forest.nodes) es []) ≡ settled b scope entries (visits forest.nodes)

-- each is given the text, short or long, that it has over the settled data
abbrev pub InTurnTexts : Type 0
InTurnTexts = (b : Bounds) (scope : Scope) (entries : List Entry) (forest : Forest) (es : List Entry) → AreInTurn b scope entries forest es →
    (before after : List Entry) (e : Entry) → es ≡ before ++ e ∷ after →
    text_of (Some b.string) scope (holding (visits forest.nodes) (in_turn b scope (visits forest.nodes) before [])) e ≡ text_of (Some b.string) scope (settled b scope entries (visits forest.nodes)) e

-- and it has that text while some stand: where those before it have their settled contents, and those after it have none yet
abbrev pub InTurnDone : Type 0
InTurnDone = (b : Bounds) (scope : Scope) (entries : List Entry) (forest : Forest) (es : List Entry) → AreInTurn b scope entries forest es →
    (before after : List Entry) (e : Entry) → es ≡ before ++ e ∷ after → (done : ℕ → Bool) → AllOf (λ f. done f.node ≡ true) before → AllOf (λ f. done f.node ≡ false) (e ∷ after) →
    text_of (Some b.string) scope (holding (visits forest.nodes) (filter (λ p. done p.0) (settled_contents b scope entries (visits forest.nodes)))) e
    ≡ text_of (Some b.string) scope (settled b scope entries (visits forest.nodes)) e

-- so it has the value that it has over the settled data
abbrev pub InTurnValue : Type 0
InTurnValue = (b : Bounds) (scope : Scope) (entries : List Entry) (forest : Forest) (es : List Entry) → AreInTurn b scope entries forest es →
    (before after : List Entry) (e : Entry) → es ≡ before ++ e ∷ after → (done : ℕ → Bool) → AllOf (λ f. done f.node ≡ true) before → AllOf (λ f. done f.node ≡ false) (e ∷ after) →
    value_of (Some b.string) scope (holding (visits forest.nodes) (filter (λ p. done p.0) (settled_contents b scope entries (visits forest.nodes)))) e
    ≡ value_of (Some b.string) scope (settled b scope entries (visits forest.nodes)) e

-- its text makes its settled content, cut off where it is too long
abbrev pub InTurnContent : Type 0
InTurnContent = (b : Bounds) (scope : Scope) (entries : List Entry) (forest : Forest) (es : List Entry) → AreInTurn b scope entries forest es →
    AllOf (λ e. content_of (settled_contents b scope entries (visits forest.nodes)) e.node
    ≡ Some (fitting b.limits.text (text_of (Some b.string) scope (settled b scope entries (visits forest.nodes)) e))) es

-- and these are settled
abbrev pub InTurnStands : Type 0
InTurnStands = (b : Bounds) (scope : Scope) (entries : List Entry) (forest : Forest) (es : List Entry) → AreInTurn b scope entries forest es →
    IsSettled b scope entries (visits forest.nodes) (settled_contents b scope entries (visits forest.nodes))

-- ---- limits

abbrev pub tells_long : Passed → Bool
tells_long (long n) = true
tells_long word = false

abbrev pub tells_text : Passed → Bool
tells_text text = true
tells_text word = false

-- a limit that is passed on the way is passed in the end: that of a string, or that of a text
abbrev pub InTurnPassed : Type 0
InTurnPassed = (b : Bounds) (scope : Scope) (entries : List Entry) (forest : Forest) (es : List Entry) → AreInTurn b scope entries forest es →
    (before after : List Entry) (e : Entry) → es ≡ before ++ e ∷ after → (given : Option (List ℕ)) →
    text_of (Some b.string) scope (holding (visits forest.nodes) (in_turn b scope (visits forest.nodes) before [])) e ≡ given →
    (given ≡ None → list_any tells_long (passed b scope entries (visits forest.nodes)) ≡ true)
    × (is_over b.limits.text given ≡ true → list_any tells_text (passed b scope entries (visits forest.nodes)) ≡ true)

-- a text that passes neither limit
abbrev pub IsFitting : ℕ → Option (List ℕ) → Type 0
IsFitting most None = ⊥
IsFitting most (Some given) = nat_lt most (length given) ≡ false

-- each of the entries has such a text in its turn
abbrev pub FitInTurn : Bounds → Scope → List Visit → List Entry → Contents → Type 0
FitInTurn b scope all [] contents = Unit {0}
FitInTurn b scope all (e ∷ es) contents =
    IsFitting b.limits.text (text_of (Some b.string) scope (holding all contents) e) × FitInTurn b scope all es (contents ++ content_by b scope (holding all contents) e ∷ [])

-- where none is passed on the way, no calculate passes one in the end
abbrev pub InTurnFitting : Type 0
InTurnFitting = (b : Bounds) (scope : Scope) (entries : List Entry) (forest : Forest) (es : List Entry) → AreInTurn b scope entries forest es →
    FitInTurn b scope (visits forest.nodes) es [] →
    AllOf (λ e. is_long b scope (settled b scope entries (visits forest.nodes)) e ≡ false) (calculates entries)
    × (list_any (λ e. is_over b.limits.text (text_of (Some b.string) scope (settled b scope entries (visits forest.nodes)) e)) (calculates entries) ≡ false)

-- ---- of a form

-- what the binds of a form apply without an exception is so
abbrev pub FormInTurn : Type 0
FormInTurn = (b : Bounds) (functions : Functions) (given : Given) (tables : Tables) (model : ℕ) (forest : Forest) (entries es : List Entry) →
    AreCovered tables → Surrounds (scope_of functions given tables model) b.string forest → Applies functions given tables model forest entries →
    IsOrdered (scope_of functions given tables model) entries (visits forest.nodes) es → AreInTurn b (scope_of functions given tables model) entries forest es
