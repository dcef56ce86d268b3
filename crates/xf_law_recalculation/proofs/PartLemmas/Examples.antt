-- The part of a model, worked; and what is not so without one of the premises: that the numbers of the whole differ and are below those of the
-- texts of a shape, that the document elements are those of the data, and that the entries are those of the part.
use Rattle.std.proofs.Common.{◌≡◌, ℕ, ◌+◌, ◌^◌, List, [], ◌∷◌, ◌++◌, refl, codes, Bool, true, false, map}
use Rattle.std.specs.Prelude.{Ok, Err}
use Rattle.xf_def_syntax.specs.declared.form.Instance.{Instance}
use Rattle.xf_name.specs.declared.axis.Axis.TheVariants as axis
use Rattle.xf_def_syntax.specs.declared.expr.Test.TheVariants as test
use Rattle.xf_def_forest.specs.declared.content.Node.{Node}
use Rattle.xf_def_forest.specs.declared.content.Content.TheVariants.{Root}
use Rattle.xf_def_forest.specs.Forest.{Forest}
use Rattle.xf_def_forest.specs.Visit.{Visit, ancestors_of}
use Rattle.xf_def_forest.specs.Shape.{shape_of}
use Rattle.xf_def_forest.specs.Changes.{detached}
use Rattle.xf_def_forest.specs.Examples.{node, element}
use Rattle.xf_def_xpath.specs.Examples.{step, path}
use Rattle.xf_def_model.specs.declared.property.Property.TheVariants.{Calculate}
use Rattle.xf_def_model.specs.Entries.{is_computed, reads_of, looks_of}
use Rattle.xf_def_model.specs.Rules.{Scope, scope_of}
use Rattle.xf_def_model.specs.Applied.{Entry, twice, applied}
use Rattle.xf_def_model.specs.Circular.{graph_over}
use Rattle.xf_def_model.specs.Examples.{bind, calculate, yes, to}
use Rattle.xf_def_model.specs.Examples as model
use Rattle.xf_law_recalculation.specs.Document.Documents.{documents_at}
use Rattle.xf_law_recalculation.specs.Agree.FormSettles.{Applies}
use Rattle.xf_def_syntax.specs.declared.form.Tables.{Tables}
use Rattle.xf_def_xpath.specs.Given.{Given}
use Rattle.xf_def_values.specs.Functions.{Functions}
use Rattle.xf_law_recalculation.proofs.PartLemmas.OfPart.{any_asks_of_part}
use Rattle.xf_law_recalculation.specs.Part.Whole.{StandsFor}
use Rattle.xf_law_recalculation.specs.Elsewhere.Parts.{part_of}

-- one instance of each of two models
abbrev instances : List Instance
instances = record { model = 0; id = []; place = []; space = 0 } ∷ record { model = 1; id = []; place = []; space = 0 } ∷ []

-- ["d",["a"]] of the first model, ["e",["a"]] of the second, and a detached ["a",["b"]]
abbrev first : List Node
first = node 0 0 Root ∷ element 1 1 (codes "d") ∷ element 2 2 (codes "a") ∷ []

abbrev second : List Node
second = node 3 0 Root ∷ element 4 1 (codes "e") ∷ element 5 2 (codes "a") ∷ []

abbrev loose : List Node
loose = element 6 0 (codes "a") ∷ element 7 1 (codes "b") ∷ []

part_of_first : part_of instances 0 (first ++ second ++ loose) ≡ first
part_of_first = refl

part_of_second : part_of instances 1 (first ++ second ++ loose) ≡ second
part_of_second = refl

-- a model without an instance
part_of_none : part_of instances 2 (first ++ second ++ loose) ≡ []
part_of_none = refl

-- it does not see that a tree of the other model is detached
it_stays : part_of instances 0 (detached 5 (record { nodes = first ++ second ++ loose; next = 8 })).nodes ≡ first
it_stays = refl

-- ---- what is applied over the whole and over the part

-- a calculate on each `a` of the document element
abbrev on_a : Scope
on_a = model.scope (calculate yes (bind (to (codes "a"))) ∷ [])

abbrev entry : ℕ → Entry
entry n = record { node = n; property = Calculate; bind = 0; position = 1; size = 1 }

the_same : applied on_a (first ++ second ++ loose) ≡ Ok (entry 2 ∷ [])
the_same = refl

-- ---- numbers that come twice: a detached element has that of one of the part

abbrev doubled : List Node
doubled = first ++ element 2 0 (codes "b") ∷ []

doubled_part : applied on_a (part_of instances 0 doubled) ≡ Ok (entry 2 ∷ [])
doubled_part = refl

doubled_whole : applied on_a doubled ≡ Err (twice 2)
doubled_whole = refl

-- ---- the number of a text: an element of another model has that of the one text of an element of the part, in the shape

abbrev far : List Node
far = node 3 0 Root ∷ element (2 ^ 128 + 1) 1 (codes "e") ∷ node 0 0 Root ∷ element 1 1 (codes "d") ∷ []

abbrev turned : List Instance
turned = record { model = 1; id = []; place = []; space = 0 } ∷ record { model = 0; id = []; place = []; space = 0 } ∷ []

-- a calculate on `text()`, which stands for the document element
abbrev on_text : Scope
on_text = model.scope (calculate yes (bind (path (step axis.Child test.Text [] ∷ []))) ∷ [])

far_part : applied on_text (part_of turned 0 far) ≡ Ok (entry 1 ∷ [])
far_part = refl

far_whole : applied on_text far ≡ Err (twice (2 ^ 128 + 1))
far_whole = refl

-- ---- a document element that is that of no instance any more, as one that was detached

abbrev gone : List Node
gone = node 0 0 Root ∷ element 1 0 (codes "d") ∷ element 2 1 (codes "a") ∷ []

no_document : documents_at instances gone ≡ []
no_document = refl

gone_part : applied on_a (part_of instances 0 gone) ≡ Ok []
gone_part = refl

gone_whole : applied on_a gone ≡ Ok (entry 2 ∷ [])
gone_whole = refl

-- ---- an entry that was kept, and whose node is detached by now: it reads itself over the whole, and over the part nothing

abbrev itself : Scope
itself = model.scope (calculate (path []) (bind (to (codes "a"))) ∷ [])

abbrev kept : List Node
kept = node 0 0 Root ∷ element 1 1 (codes "d") ∷ element 2 0 (codes "a") ∷ []

kept_whole : graph_over itself (shape_of kept) (entry 2 ∷ []) ≡ (0 ∷ []) ∷ []
kept_whole = refl

kept_part : graph_over itself (shape_of (part_of instances 0 kept)) (entry 2 ∷ []) ≡ []
kept_part = refl

-- ---- a caller's own record of what an entry asks, of which a type has none: the law is cited, and nothing is proved

record Listed : Type 0 where
  reads : List ℕ
  looks : List ℕ
  above : List ℕ

abbrev listed_by : Scope → List Visit → Entry → Bool → Listed
listed_by scope all e true = record { reads = reads_of scope all e; looks = looks_of scope all e; above = ancestors_of e.node all }
listed_by scope all e false = record { reads = []; looks = []; above = [] }

abbrev listed_of : Scope → List Visit → Entry → Listed
listed_of scope all e = listed_by scope all e (is_computed e)

abbrev made_by : List ℕ → List ℕ → List ℕ → Bool → Listed
made_by reads looks above true = record { reads = reads; looks = looks; above = above }
made_by reads looks above false = record { reads = []; looks = []; above = [] }

listed_of_part : (functions : Functions) (given : Given) (tables : Tables) (model : ℕ) (part whole : Forest) (entries : List Entry) →
    StandsFor instances model given given.documents part whole → Applies functions given tables model part entries →
    map (listed_of (scope_of functions given tables model) (shape_of whole.nodes)) entries ≡ map (listed_of (scope_of functions given tables model) (shape_of part.nodes)) entries
listed_of_part functions given tables model part whole entries s applies =
    any_asks_of_part (λ e reads looks above. made_by reads looks above (is_computed e)) functions given given.documents tables instances model part whole entries s applies
