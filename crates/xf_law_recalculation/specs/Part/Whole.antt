-- What stands of a model is told by its part: its entries, what these ask, their order, their settled contents and values are over the whole data
-- what they are over the part, whatever trees stand elsewhere, outside an event. Of the document elements those of the model alone count.
use Rattle.std.specs.Prelude.{Bool, filter, Some, ℕ, ◌≡◌, false, List, map, None, ◌==◌}
use Rattle.std.specs.List.{list_any}
use Rattle.xf_def_syntax.specs.declared.form.Instance.{Instance}
use Rattle.xf_def_syntax.specs.declared.form.Tables.{Tables}
use Rattle.xf_def_forest.specs.Forest.{Forest, has_number}
use Rattle.xf_def_forest.specs.Visit.{Visit, visits, ancestors_of}
use Rattle.xf_def_forest.specs.Shape.{shape_of}
use Rattle.xf_def_forest.specs.WellFormed.{HasTrees}
use Rattle.xf_def_values.specs.Functions.{Functions}
use Rattle.xf_def_xpath.specs.Given.{Document, Given}
use Rattle.xf_graph.specs.Cycle.{IsAcyclic}
use Rattle.xf_def_model.specs.Rules.{Scope, scope_of}
use Rattle.xf_def_model.specs.Applied.{Entry, applied}
use Rattle.xf_def_model.specs.Entries.{is_computed, text_of, reads_of, looks_of, edge_count}
use Rattle.xf_def_model.specs.Circular.{graph_over}
use Rattle.xf_def_model.specs.Settled.{calculates, computed_over, is_long, is_over, settled, Bounds, settled_contents, settled_values, values_over}
use Rattle.xf_def_model.specs.Pertinent.{AllOf, Changes, pertinent}
use Rattle.xf_law_recalculation.specs.Agree.Settles.{AreHung, IsSolid}
use Rattle.xf_law_recalculation.specs.Agree.FormSettles.{Applies}
use Rattle.xf_law_recalculation.specs.Marks.Binds.{HasInstances}
use Rattle.xf_law_recalculation.specs.Document.Documents.{documents_at}
use Rattle.xf_law_recalculation.specs.Elsewhere.Parts.{IsPart}
use Rattle.xf_law_recalculation.specs.Held.OwnForest.{AreLow, NameSame}

-- ---- the whole data and the part

-- the data with what surrounds the binds of the model: the document elements that it names are those of its instances, and no event is handled
pub record IsPresent (instances : List Instance) (model : ℕ) (given : Given) (whole : Forest) : Type 0 where
  pub trees : HasTrees whole
  pub below : AreLow whole
  pub hung : AreHung (visits whole.nodes)
  pub documents : NameSame model given.documents (documents_at instances whole.nodes)
  pub quiet : given.event ≡ None

-- with other document elements, as those of an earlier time
abbrev pub with_documents : List Document → Given → Given
with_documents documents given = record given { documents = documents }

-- the part stands for the whole, with these document elements
pub record StandsFor (instances : List Instance) (model : ℕ) (given : Given) (documents : List Document) (part whole : Forest) : Type 0 where
  pub is_part : IsPart instances model part whole
  pub present : IsPresent instances model given whole
  pub same : NameSame model documents given.documents

-- the part is a forest of its own, in which the document elements of the model stand
abbrev pub PartHasInstances : Type 0
PartHasInstances = (functions : Functions) (given : Given) (documents : List Document) (tables : Tables) (instances : List Instance) (model : ℕ) (part whole : Forest) → StandsFor instances model given documents part whole →
    HasInstances (scope_of functions (with_documents documents given) tables model) (record part { next = whole.next })

-- ---- entries

-- the binds of the model apply the same, or have the same exception
abbrev pub AppliedOfPart : Type 0
AppliedOfPart = (functions : Functions) (given : Given) (documents : List Document) (tables : Tables) (instances : List Instance) (model : ℕ) (part whole : Forest) → StandsFor instances model given documents part whole →
    applied (scope_of functions given tables model) whole.nodes ≡ applied (scope_of functions (with_documents documents given) tables model) part.nodes

-- what they apply stands at nodes of the part, which are no texts
abbrev pub AppliedStandsInPart : Type 0
AppliedStandsInPart = (functions : Functions) (given : Given) (documents : List Document) (tables : Tables) (instances : List Instance) (model : ℕ) (part whole : Forest) (entries : List Entry) →
    StandsFor instances model given documents part whole → Applies functions (with_documents documents given) tables model part entries → AllOf (λ e. IsSolid (visits part.nodes) e.node) entries

-- ---- what entries ask

-- what one reads and looks at, and what stands above its node
pub record Asks : Type 0 where
  pub reads : List ℕ
  pub looks : List ℕ
  pub above : List ℕ

abbrev pub asks_of : Scope → List Visit → Entry → Asks
asks_of scope all e = record { reads = reads_of scope all e; looks = looks_of scope all e; above = ancestors_of e.node all }

abbrev pub AsksOfPart : Type 0
AsksOfPart = (functions : Functions) (given : Given) (documents : List Document) (tables : Tables) (instances : List Instance) (model : ℕ) (part whole : Forest) (entries : List Entry) →
    StandsFor instances model given documents part whole → Applies functions (with_documents documents given) tables model part entries →
    map (asks_of (scope_of functions given tables model) (shape_of whole.nodes)) entries ≡ map (asks_of (scope_of functions (with_documents documents given) tables model) (shape_of part.nodes)) entries

-- how much they ask together
abbrev pub CountOfPart : Type 0
CountOfPart = (functions : Functions) (given : Given) (documents : List Document) (tables : Tables) (instances : List Instance) (model : ℕ) (part whole : Forest) (entries : List Entry) →
    StandsFor instances model given documents part whole → Applies functions (with_documents documents given) tables model part entries →
    edge_count (scope_of functions given tables model) (shape_of whole.nodes) entries ≡ edge_count (scope_of functions (with_documents documents given) tables model) (shape_of part.nodes) entries

-- ---- their order

-- the graph of the calculates, and with it the cycle that is reported
abbrev pub GraphOfPart : Type 0
GraphOfPart = (functions : Functions) (given : Given) (documents : List Document) (tables : Tables) (instances : List Instance) (model : ℕ) (part whole : Forest) (entries : List Entry) →
    StandsFor instances model given documents part whole → Applies functions (with_documents documents given) tables model part entries →
    graph_over (scope_of functions given tables model) (shape_of whole.nodes) entries ≡ graph_over (scope_of functions (with_documents documents given) tables model) (shape_of part.nodes) entries

-- it has no cycle over the whole exactly where it has none over the part
abbrev pub OrderOfPart : Type 0
OrderOfPart = (functions : Functions) (given : Given) (documents : List Document) (tables : Tables) (instances : List Instance) (model : ℕ) (part whole : Forest) (entries : List Entry) →
    StandsFor instances model given documents part whole → Applies functions (with_documents documents given) tables model part entries →
    (IsAcyclic (graph_over (scope_of functions given tables model) (shape_of whole.nodes) entries) → IsAcyclic (graph_over (scope_of functions (with_documents documents given) tables model) (shape_of part.nodes) entries))
    × (IsAcyclic (graph_over (scope_of functions (with_documents documents given) tables model) (shape_of part.nodes) entries) → IsAcyclic (graph_over (scope_of functions given tables model) (shape_of whole.nodes) entries))

-- ---- what a recalculation gives

-- the settled contents of the calculates
abbrev pub SettledOfPart : Type 0
SettledOfPart = (b : Bounds) (functions : Functions) (given : Given) (documents : List Document) (tables : Tables) (instances : List Instance) (model : ℕ) (part whole : Forest) (entries : List Entry) →
    StandsFor instances model given documents part whole → Applies functions (with_documents documents given) tables model part entries →
    settled_contents b (scope_of functions given tables model) entries (visits whole.nodes) ≡ settled_contents b (scope_of functions (with_documents documents given) tables model) entries (visits part.nodes)

-- the texts of the calculates over the data as they stand: at rest each is the content of its node
abbrev pub ComputedOfPart : Type 0
ComputedOfPart = (b : Bounds) (functions : Functions) (given : Given) (documents : List Document) (tables : Tables) (instances : List Instance) (model : ℕ) (part whole : Forest) (entries : List Entry) →
    StandsFor instances model given documents part whole → Applies functions (with_documents documents given) tables model part entries →
    computed_over b (scope_of functions given tables model) entries (visits whole.nodes) ≡ computed_over b (scope_of functions (with_documents documents given) tables model) entries (visits part.nodes)

-- those of another model stand elsewhere
abbrev pub SettledElsewhere : Type 0
SettledElsewhere = (b : Bounds) (functions : Functions) (given : Given) (documents : List Document) (tables : Tables) (instances : List Instance) (model other : ℕ) (part another whole : Forest) (entries : List Entry) →
    IsPart instances model part whole → StandsFor instances other given documents another whole → (model == other) ≡ false → Applies functions (with_documents documents given) tables other another entries →
    list_any (λ p. has_number p.0 part.nodes) (settled_contents b (scope_of functions given tables other) entries (visits whole.nodes)) ≡ false

-- the values of the entries over the data as they stand, and over the settled data
abbrev pub ValuesOfPart : Type 0
ValuesOfPart = (b : Bounds) (functions : Functions) (given : Given) (documents : List Document) (tables : Tables) (instances : List Instance) (model : ℕ) (part whole : Forest) (entries : List Entry) →
    StandsFor instances model given documents part whole → Applies functions (with_documents documents given) tables model part entries →
    values_over b (scope_of functions given tables model) entries (visits whole.nodes) ≡ values_over b (scope_of functions (with_documents documents given) tables model) entries (visits part.nodes)

abbrev pub SettledValuesOfPart : Type 0
SettledValuesOfPart = (b : Bounds) (functions : Functions) (given : Given) (documents : List Document) (tables : Tables) (instances : List Instance) (model : ℕ) (part whole : Forest) (entries : List Entry) →
    StandsFor instances model given documents part whole → Applies functions (with_documents documents given) tables model part entries →
    settled_values b (scope_of functions given tables model) entries (visits whole.nodes) ≡ settled_values b (scope_of functions (with_documents documents given) tables model) entries (visits part.nodes)

-- the entries that it evaluates
abbrev pub PertinentOfPart : Type 0
PertinentOfPart = (functions : Functions) (given : Given) (documents : List Document) (tables : Tables) (instances : List Instance) (model : ℕ) (part whole : Forest) (entries : List Entry) (changes : Changes) →
    StandsFor instances model given documents part whole → Applies functions (with_documents documents given) tables model part entries →
    pertinent (scope_of functions given tables model) (shape_of whole.nodes) entries changes ≡ pertinent (scope_of functions (with_documents documents given) tables model) (shape_of part.nodes) entries changes

-- ---- limits

-- the entries in whose evaluation a string is too long, and whether the text of a calculate is; the other limits count all data
abbrev pub long_entries : Bounds → Scope → List Entry → List Visit → List Entry
long_entries b scope entries all = filter (is_long b scope all) (filter is_computed entries)

abbrev pub has_long_text : Bounds → Scope → List Entry → List Visit → Bool
has_long_text b scope entries all = list_any (λ e. is_over b.limits.text (text_of (Some b.string) scope all e)) (calculates entries)

-- over the settled data they are those over the settled part
abbrev pub LongOfPart : Type 0
LongOfPart = (b : Bounds) (functions : Functions) (given : Given) (documents : List Document) (tables : Tables) (instances : List Instance) (model : ℕ) (part whole : Forest) (entries : List Entry) →
    StandsFor instances model given documents part whole → Applies functions (with_documents documents given) tables model part entries →
    long_entries b (scope_of functions given tables model) entries (settled b (scope_of functions given tables model) entries (visits whole.nodes))
    ≡ long_entries b (scope_of functions (with_documents documents given) tables model) entries (settled b (scope_of functions (with_documents documents given) tables model) entries (visits part.nodes))

abbrev pub LongTextOfPart : Type 0
LongTextOfPart = (b : Bounds) (functions : Functions) (given : Given) (documents : List Document) (tables : Tables) (instances : List Instance) (model : ℕ) (part whole : Forest) (entries : List Entry) →
    StandsFor instances model given documents part whole → Applies functions (with_documents documents given) tables model part entries →
    has_long_text b (scope_of functions given tables model) entries (settled b (scope_of functions given tables model) entries (visits whole.nodes))
    ≡ has_long_text b (scope_of functions (with_documents documents given) tables model) entries (settled b (scope_of functions (with_documents documents given) tables model) entries (visits part.nodes))
