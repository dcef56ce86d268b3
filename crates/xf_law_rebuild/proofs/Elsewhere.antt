-- A model that is built over the data is built over its part, and the other way round.
use Rattle.std.proofs.Common.{◌≡◌, ℕ, ◌<◌, ◌==◌, Bool, true, false, ◌||◌, List, [], ◌∷◌, map, refl, sym, ap, ◌∙◌, subst, arith}
use Rattle.std.specs.Prelude.{◌^◌, Ok, nat_lt}
use Rattle.std.proofs.lemmas.Bool.Decides.{nat_tests}
use Rattle.xf_def_syntax.specs.declared.form.Instance.{Instance}
use Rattle.xf_def_syntax.specs.declared.form.Tables.{Tables}
use Rattle.xf_def_forest.specs.declared.content.Node.{Node}
use Rattle.xf_def_forest.specs.Forest.{Forest}
use Rattle.xf_def_forest.specs.Shape.{shape_of}
use Rattle.xf_def_forest.specs.Visit.{Visit, ancestors_of, has, still_above, visits_from}
use Rattle.xf_def_forest.specs.WellFormed.{are_below}
use Rattle.xf_def_forest.proofs.BackLaws.{and-true}
use Rattle.xf_def_values.specs.Functions.{Functions}
use Rattle.xf_def_xpath.specs.Agree.{numbers_of}
use Rattle.xf_def_xpath.specs.Given.{Document, Given, document_of}
use Rattle.xf_def_xpath.proofs.VisitFacts.{no}
use Rattle.xf_def_model.specs.Applied.{Entry, applied}
use Rattle.xf_def_model.specs.Entries.{is_computed, looks_of, reads_of}
use Rattle.xf_def_model.specs.Rules.{Scope, scope_of}
use Rattle.xf_law_recalculation.proofs.AgreeLemmas.HungLaws.{hung_forest}
use Rattle.xf_law_recalculation.specs.Document.Documents.{documents_at}
use Rattle.xf_law_recalculation.specs.Elsewhere.Parts.{IsPart, part_of}
use Rattle.xf_law_recalculation.specs.Held.OwnForest.{AreLow}
use Rattle.xf_law_recalculation.proofs.HeldLemmas.Named.{documents_of_part}
use Rattle.xf_law_recalculation.specs.Part.Whole.{IsPresent, StandsFor, with_documents}
use Rattle.xf_law_recalculation.proofs.PartLemmas.OfPart.{any_asks_of_part, applied_of_part, order_of_part}
use Rattle.xf_binds.specs.declared.web.Asks.{Asks}
use Rattle.xf_binds.specs.Kept.{Kept}
use Rattle.xf_binds_rebuild.specs.Built.{IsBuilt}
use Rattle.xf_binds_rebuild.specs.Web.{asks_by, asks_of, no_asks}
use Rattle.xf_law_rebuild.specs.Data.{IsData, Presents}
use Rattle.xf_law_rebuild.specs.Elsewhere.{BuiltElsewhere, BuiltWhereStays}

-- ---- what an entry asks, a type among them

abbrev asks_if : Bool → List ℕ → List ℕ → List ℕ → Asks
asks_if true reads looks above = record { reads = reads; looks = looks; above = above }
asks_if false reads looks above = no_asks

abbrev asks_with : Entry → List ℕ → List ℕ → List ℕ → Asks
asks_with e reads looks above = asks_if (is_computed e) reads looks above

asks-are : (scope : Scope) (all : List Visit) (es : List Entry) → map (λ e. asks_with e (reads_of scope all e) (looks_of scope all e) (ancestors_of e.node all)) es ≡ map (asks_of scope all) es
asks-are scope all [] = refl
asks-are scope all (e ∷ es) = ap (λ a. a ∷ map (λ e. asks_with e (reads_of scope all e) (looks_of scope all e) (ancestors_of e.node all)) es) (by (is_computed e)) ∙ ap (λ l. asks_of scope all e ∷ l) (asks-are scope all es)
  where
    by : (b : Bool) → asks_if b (reads_of scope all e) (looks_of scope all e) (ancestors_of e.node all) ≡ asks_by scope all e b
    by true = refl
    by false = refl

-- ---- over the part

module _ (functions : Functions) (given : Given) (documents : List Document) (tables : Tables) (instances : List Instance) (model : ℕ) (part whole : Forest) (s : StandsFor instances model given documents part whole) (k : Kept) where
  abbrev large : Scope
  large = scope_of functions given tables model

  abbrev over_part : Scope
  over_part = scope_of functions (with_documents documents given) tables model

  asks-same : applied over_part part.nodes ≡ Ok k.entries → map (asks_of large (shape_of whole.nodes)) k.entries ≡ map (asks_of over_part (shape_of part.nodes)) k.entries
  asks-same applies =
      sym (asks-are large (shape_of whole.nodes) k.entries)
      ∙ any_asks_of_part asks_with functions given documents tables instances model part whole k.entries s applies
      ∙ asks-are over_part (shape_of part.nodes) k.entries

  to-part : IsBuilt large whole.nodes k → IsBuilt over_part part.nodes k
  to-part b =
      let applies = sym (applied_of_part functions given documents tables instances model part whole s) ∙ b.applies in
      record {
        applies = applies;
        asks = b.asks ∙ asks-same applies;
        acyclic = (order_of_part functions given documents tables instances model part whole k.entries s applies).0 b.acyclic;
      }

  to-whole : IsBuilt over_part part.nodes k → IsBuilt large whole.nodes k
  to-whole b = record {
    applies = applied_of_part functions given documents tables instances model part whole s ∙ b.applies;
    asks = b.asks ∙ sym (asks-same b.applies);
    acyclic = (order_of_part functions given documents tables instances model part whole k.entries s b.applies).1 b.acyclic;
  }

-- ---- two data with one part

pub built_elsewhere : BuiltElsewhere
built_elsewhere functions given later tables instances model part before after k same first second there now b =
    let documents = documents_at instances before.nodes in
    let one : StandsFor instances model given documents part before = record { is_part = first; present = there; same = λ id. sym (there.documents id) } in
    let two : StandsFor instances model later documents part after =
    record { is_part = second; present = now; same = λ id. documents_of_part instances model part before after there.trees now.trees first second id ∙ sym (now.documents id) } in
    to-whole functions later documents tables instances model part after two k
    (subst (λ (g : Given). IsBuilt (scope_of functions g tables model) part.nodes k) (ap (with_documents documents) same) (to-part functions given documents tables instances model part before one k b))

-- ---- numbers

number-below : (next k : ℕ) (above nodes : List Node) → are_below next nodes ≡ true → has k (numbers_of (visits_from above nodes)) ≡ true → nat_lt k next ≡ true
number-below next k above [] h e = no e
number-below next k above (x ∷ xs) h e = by (k == x.number) refl e (number-below next k (x ∷ still_above x.depth above) xs (and-true (nat_lt x.number next) (are_below next xs) h).1)
  where
    first : nat_lt x.number next ≡ true
    first = (and-true (nat_lt x.number next) (are_below next xs) h).0

    by : (b : Bool) → (k == x.number) ≡ b → (b || has k (numbers_of (visits_from (x ∷ still_above x.depth above) xs))) ≡ true
        → (has k (numbers_of (visits_from (x ∷ still_above x.depth above) xs)) ≡ true → nat_lt k next ≡ true) → nat_lt k next ≡ true
    by true i j later = grind (arith, nat_tests, i, first)
    by false i j later = later j

less : (k next most : ℕ) → nat_lt k next ≡ true → next < most → nat_lt k most ≡ true
less k next most h e = grind (arith, nat_tests, h, e)

low : (forest : Forest) → IsData forest → AreLow forest
low forest d k h = less k forest.next (2 ^ 128) (number-below forest.next k [] forest.nodes d.trees.below h) d.few

-- ---- all data of a form

pub present : (instances : List Instance) (given : Forest → Given) (model : ℕ) (forest : Forest) → Presents instances given → IsData forest → IsPresent instances model (given forest) forest
present instances given model forest p d = record {
  trees = d.trees;
  below = low forest d;
  hung = hung_forest forest d.trees d.hung;
  documents = λ id. ap (document_of model id) (p.documents forest);
  quiet = p.quiet forest;
}

pub built_where_stays : BuiltWhereStays
built_where_stays functions given tables instances model before after p d e stays k b =
    let part : Forest = record { nodes = part_of instances model before.nodes; next = before.next } in
    let is : IsPart instances model part before = record { nodes = refl } in
    built_elsewhere functions (given before) (given after) tables instances model part before after k (p.same before after) is (stays part is) (present instances given model before p d) (present instances given model after p e) b
