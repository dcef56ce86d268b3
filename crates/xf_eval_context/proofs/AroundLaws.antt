-- The documents of a form and what an event tells stand in the forest.
use Rattle.std.proofs.Common.{◌≡◌, ℕ, suc, ◌==◌, Bool, true, false, cond, ◌&&◌, ◌||◌, List, [], ◌∷◌, map, Option, Some, None, option_map, refl, sym, ap, ◌∙◌, subst, arith}
use Rattle.std.specs.Prelude.{find, filter, not, bytes_eq, unwrap_or}
use Rattle.std.proofs.lemmas.Bool.{and_parts}
use Rattle.std.proofs.lemmas.Bool.Decides.{nat_tests}
use denote.Ref.{Bor}
use Rattle.xf_name.specs.Bindings.{Bindings}
use Rattle.xf_name.specs.declared.axis.Axis.TheVariants.{Child}
use Rattle.xf_def_syntax.specs.declared.form.Instance.{Instance}
use Rattle.xf_def_forest.specs.declared.content.Node.{Node}
use Rattle.xf_def_forest.specs.Axis.{axis_from, axis_of}
use Rattle.xf_def_forest.specs.Changes.{root_of}
use Rattle.xf_def_forest.specs.Forest.{has_number, is_attribute}
use Rattle.xf_def_forest.specs.Visit.{Visit, visit, visits, visits_from, still_above, is_first, children_of}
use Rattle.xf_def_forest.proofs.LiveLaws.{axis-all_live, root-live}
use Rattle.xf_def_xpath.specs.declared.value.Value.TheVariants.{Nodes}
use Rattle.xf_def_xpath.specs.Binding.{as_list}
use Rattle.xf_def_xpath.specs.Conversions.{nodes_of}
use Rattle.xf_def_xpath.specs.Given.{Document, beside, document_of, property_of}
use Rattle.xf_eval.specs.Live.{AllLive, AroundStands}
use Rattle.xf_def_ui.specs.declared.told.Property.{Property}
use Rattle.xf_def_ui.specs.Told.{told_of}
use Rattle.xf_eval_context.specs.Around.{AreThere, Indexes, are_live, are_told_live, document_below, documents_by, documents_from, event_of, given_with, is_event_live}
use Rattle.xf_eval_context.proofs.FirstLaws.{live-first}

-- ---- children

found : (n : ℕ) (above xs : List Node) → has_number n xs ≡ true → (y : Visit) × (find (λ (v : Visit). v.number == n) (visits_from above xs) ≡ Some y) × (y.number ≡ n)
found n above [] h = cc h
found n above (x ∷ xs) h = by (found n (x ∷ still_above x.depth above) xs) (x.number == n) refl h
  where
    by : (has_number n xs ≡ true → (y : Visit) × (find (λ (v : Visit). v.number == n) (visits_from (x ∷ still_above x.depth above) xs) ≡ Some y) × (y.number ≡ n))
        → (b : Bool) → (x.number == n) ≡ b → (b || has_number n xs) ≡ true
        → (y : Visit) × (cond b (Some (visit above x)) (find (λ (v : Visit). v.number == n) (visits_from (x ∷ still_above x.depth above) xs)) ≡ Some y) × (y.number ≡ n)
    by later true e i = let same : x.number ≡ n = grind (arith, nat_tests, e) in (visit above x, refl, same)
    by later false e i = later i

abbrev children_on : List Visit → ℕ → List ℕ
children_on all n = map (λ (y : Visit). y.number) (filter (λ (y : Visit). is_first n y.above && not (is_attribute y.content)) all)

abbrev on_child : List Visit → Option Visit → List ℕ
on_child all None = []
on_child all (Some x) = children_on all x.number

on-axis : (all : List Visit) (n : ℕ) (o : Option Visit) → find (λ (v : Visit). v.number == n) all ≡ o → axis_of Child n all ≡ on_child all o
on-axis all n None e = ap (λ o. map (λ (x : Visit). x.number) (axis_from Child all o)) e
on-axis all n (Some x) e = ap (λ o. map (λ (x : Visit). x.number) (axis_from Child all o)) e

pub children-axis : (n : ℕ) (nodes : List Node) → has_number n nodes ≡ true → axis_of Child n (visits nodes) ≡ children_of n (visits nodes)
children-axis n nodes h =
    let (x, at, is) = found n [] nodes h in
    on-axis (visits nodes) n (Some x) at ∙ ap (children_on (visits nodes)) is

-- ---- they stand

below-live : (nodes : List Node) (place : ℕ) (o : Option ℕ) → root_of place nodes ≡ o → AllLive (as_list (document_below nodes o)) nodes
below-live nodes place None e = refl
below-live nodes place (Some root) e =
    let live = children-axis root nodes (root-live place root nodes e) in
    live-first (children_of root (visits nodes)) nodes (subst (λ ns. AllLive ns nodes) live (axis-all_live Child root nodes))

pub all-there : {X : Type 0} (place : ℕ) (is : List X) (nodes : List Node) → AreThere (documents_from place is nodes) nodes
all-there place [] nodes = tt
all-there place (i ∷ is) nodes = (below-live nodes place (root_of place nodes) refl, all-there (suc place) is nodes)

abbrev found_live : (Document → Bool) → List Document → List Node → Type 0
found_live test ds nodes = AllLive (as_list (option_map (λ (d : Document). d.element) (find test ds))) nodes

find-live : (test : Document → Bool) (is : List Instance) (ds : List (Option ℕ)) (nodes : List Node) → AreThere ds nodes → found_live test (documents_by is ds) nodes
find-live test [] ds nodes h = refl
find-live test (i ∷ is) [] nodes h = refl
find-live test (i ∷ is) (None ∷ ds) nodes h = find-live test is ds nodes h.1
find-live test (i ∷ is) (Some n ∷ ds) nodes h = by (find-live test is ds nodes h.1) (test (record { model = i.model; id = i.id; element = n }))
  where
    by : found_live test (documents_by is ds) nodes
        → (b : Bool) → AllLive (as_list (option_map (λ (d : Document). d.element) (cond b (Some (record { model = i.model; id = i.id; element = n })) (find test (documents_by is ds))))) nodes
    by later true = h.0
    by later false = later

document-live : (model : ℕ) (id : List ℕ) (is : List Instance) (ds : List (Option ℕ)) (nodes : List Node) → AreThere ds nodes → AllLive (as_list (document_of model id (documents_by is ds))) nodes
document-live model [] is ds nodes h = find-live (λ (d : Document). d.model == model) is ds nodes h
document-live model (c ∷ cs) is ds nodes h = find-live (λ (d : Document). (d.model == model) && bytes_eq d.id (c ∷ cs)) is ds nodes h

told-live : (name : List ℕ) (nodes : List Node) (ps : List Property) → are_told_live nodes ps ≡ true → AllLive (nodes_of (unwrap_or (beside name (told_of ps)) (Nodes []))) nodes
told-live name nodes [] h = refl
told-live name nodes (q ∷ ps) h =
    let parts = and_parts (are_live nodes (nodes_of q.value)) (are_told_live nodes ps) h in
    by parts.0 (told-live name nodes ps parts.1) (bytes_eq q.name name)
  where
    by : are_live nodes (nodes_of q.value) ≡ true → AllLive (nodes_of (unwrap_or (beside name (told_of ps)) (Nodes []))) nodes
        → (b : Bool) → AllLive (nodes_of (unwrap_or (option_map (λ p. p.1) (cond b (Some (q.name, q.value)) (find (λ p. bytes_eq p.0 name) (told_of ps)))) (Nodes []))) nodes
    by one later true = one
    by one later false = later

event-live : (name : List ℕ) (nodes : List Node) (told : Option (Bor (List Property))) → is_event_live nodes told ≡ true → AllLive (nodes_of (unwrap_or (property_of name (event_of told)) (Nodes []))) nodes
event-live name nodes None h = refl
event-live name nodes (Some properties) h = told-live name nodes properties.now h

pub around-stands : (indexes : Indexes) (is : List Instance) (b : Bindings) (d : ℕ) (nodes : List Node) (ds : List (Option ℕ)) (told : Option (Bor (List Property))) → ds ≡ documents_from 0 is nodes → is_event_live nodes told ≡ true
    → AroundStands (given_with indexes is b d ds (event_of told)) nodes
around-stands indexes is b d nodes ds told e live = record {
  documents = λ model id. document-live model id is ds nodes (subst (λ l. AreThere l nodes) (sym e) (all-there 0 is nodes));
  event = λ name. event-live name nodes told live;
}

-- the documents that were found over a forest
pub documents-found : (instances found : List Instance) (nodes : List Node) (ds : List (Option ℕ)) → found ≡ instances → ds ≡ documents_from 0 found nodes → ds ≡ documents_from 0 instances nodes
documents-found instances found nodes ds i e = e ∙ ap (λ l. documents_from 0 l nodes) i

-- ---- no documents

pub no-documents : (model : ℕ) (id : List ℕ) (is : List Instance) → document_of model id (documents_by is []) ≡ None
no-documents model [] [] = refl
no-documents model [] (i ∷ is) = refl
no-documents model (c ∷ cs) [] = refl
no-documents model (c ∷ cs) (i ∷ is) = refl
