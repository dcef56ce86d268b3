-- What surrounds expressions, as it is found over a forest, is what surrounds them in the state.
use Rattle.std.proofs.Common.{◌≡◌, ℕ, suc, ◌==◌, Bool, true, false, cond, ◌&&◌, ◌||◌, List, [], ◌∷◌, ◌++◌, map, Option, Some, None, option_map, refl, sym, ap, ◌∙◌, subst, arith}
use Rattle.std.specs.Prelude.{find, filter, not, bytes_eq}
use Rattle.std.specs.List.{flat_map}
use Rattle.std.proofs.lemmas.Bool.Decides.{nat_tests}
use Rattle.xf_name.specs.Bindings.{Bindings}
use Rattle.xf_name.specs.declared.axis.Axis.TheVariants.{Child}
use Rattle.xf_def_syntax.specs.declared.form.Instance.{Instance}
use Rattle.xf_def_syntax.specs.Ordered.{numbered_from}
use Rattle.xf_def_forest.specs.declared.content.Node.{Node}
use Rattle.xf_def_forest.specs.Axis.{axis_from, axis_of}
use Rattle.xf_def_forest.specs.Changes.{root_of}
use Rattle.xf_def_forest.specs.Forest.{Forest, has_number, is_attribute}
use Rattle.xf_def_forest.specs.Visit.{Visit, visit, visits, visits_from, still_above, is_first, children_of}
use Rattle.xf_def_forest.proofs.LiveLaws.{axis-all_live, root-live}
use Rattle.xf_def_xpath.specs.Binding.{as_list}
use Rattle.xf_def_xpath.specs.Given.{Document, document_of}
use Rattle.xf_funcs.specs.Called.{called}
use Rattle.xf_def_model.specs.Rules.{scope_of}
use Rattle.xf_eval.specs.Live.{AllLive, AroundStands}
use Rattle.xf_controls.proofs.NodeLaws.{live-first}
use Rattle.xf_binds.specs.Kept.{Kept}
use Rattle.xf_controls.specs.declared.copy.ControlCopy.{ControlCopy}
use Rattle.xf_form.specs.declared.loaded.Loaded.{Loaded}
use Rattle.xf_def_machine.specs.State.{State}
use Rattle.xf_engine_state.specs.declared.flags.Flags.{Flags}
use Rattle.xf_engine_state.specs.declared.tally.Tally.{Tally}
use Rattle.xf_def_machine.specs.Surround.{document_in, document_under, document_at, documents, instances_in, bind_scope}
use Rattle.xf_engine_state.specs.Around.{document_below, documents_from, documents_by, given_by, given_in, AreThere}
use Rattle.xf_def_form.specs.Formed.{profile}
use Rattle.xf_engine_state.specs.Parts.{Chosen, standing_of}
use Rattle.xf_engine_state.specs.Standing.{state_of}

-- ---- children

found : (n : ℕ) (above xs : List Node) → has_number n xs ≡ true → (y : Visit) × (find (λ (v : Visit). v.number == n) (visits_from above xs) ≡ Some y) × (y.number ≡ n)
found n above [] h = cc h
found n above (x ∷ xs) h = by (found n (x ∷ still_above x.depth above) xs) (x.number == n) refl h
  where
    by : (has_number n xs ≡ true → (y : Visit) × (find (λ (v : Visit). v.number == n) (visits_from (x ∷ still_above x.depth above) xs) ≡ Some y) × (y.number ≡ n))
        → (b : Bool) → (x.number == n) ≡ b → (b || has_number n xs) ≡ true
        → (y : Visit) × (cond b (Some (visit above x)) (find (λ (v : Visit). v.number == n) (visits_from (x ∷ still_above x.depth above) xs)) ≡ Some y) × (y.number ≡ n)
    by later true e i = let same : x.number ≡ n = grind (arith, nat_tests, e) in (visit above x, refl, same)
    by later false e i = later i

abbrev children_on : List Visit → ℕ → List ℕ
children_on all n = map (λ (y : Visit). y.number) (filter (λ (y : Visit). is_first n y.above && not (is_attribute y.content)) all)

abbrev on_child : List Visit → Option Visit → List ℕ
on_child all None = []
on_child all (Some x) = children_on all x.number

on-axis : (all : List Visit) (n : ℕ) (o : Option Visit) → find (λ (v : Visit). v.number == n) all ≡ o → axis_of Child n all ≡ on_child all o
on-axis all n None e = ap (λ o. map (λ (x : Visit). x.number) (axis_from Child all o)) e
on-axis all n (Some x) e = ap (λ o. map (λ (x : Visit). x.number) (axis_from Child all o)) e

pub children-axis : (n : ℕ) (nodes : List Node) → has_number n nodes ≡ true → axis_of Child n (visits nodes) ≡ children_of n (visits nodes)
children-axis n nodes h =
    let (x, at, is) = found n [] nodes h in
    on-axis (visits nodes) n (Some x) at ∙ ap (children_on (visits nodes)) is

-- ---- documents

below-same : (s : State) (o : Option ℕ) → document_under s o ≡ document_below s.forest.nodes o
below-same s None = refl
below-same s (Some root) = refl

documents-from : (s : State) (place : ℕ) (is : List Instance)
    → flat_map (λ i. document_in i.1 (document_at s i.0)) (numbered_from place is) ≡ documents_by is (documents_from place is s.forest.nodes)
documents-from s place [] = refl
documents-from s place (i ∷ is) =
    ap (λ d. document_in i d ++ flat_map (λ j. document_in j.1 (document_at s j.0)) (numbered_from (suc place) is)) (below-same s (root_of place s.forest.nodes))
    ∙ ap (λ ds. document_in i (document_below s.forest.nodes (root_of place s.forest.nodes)) ++ ds) (documents-from s (suc place) is)

pub documents-same : (s : State) → documents s ≡ documents_by (instances_in s) (documents_from 0 (instances_in s) s.forest.nodes)
documents-same s = documents-from s 0 (instances_in s)

-- what the binds of a model share
pub scope-same : (chosen : Chosen) (loaded : Loaded) (forest : Forest) (model : ℕ) (table : List Kept) (flags : List Flags) (controls : List ControlCopy) (tally : Tally)
    → bind_scope profile (state_of (standing_of chosen loaded forest table flags controls tally)) model ≡ scope_of called (given_in loaded.form.tables.instances loaded.prefixes loaded.form.decimals forest) loaded.form.tables model
scope-same chosen loaded forest model table flags controls tally =
    ap (λ ds. scope_of called (record (given_in loaded.form.tables.instances loaded.prefixes loaded.form.decimals forest) { documents = ds }) loaded.form.tables model)
    (documents-same (state_of (standing_of chosen loaded forest table flags controls tally)))

-- ---- they stand

below-live : (nodes : List Node) (place : ℕ) (o : Option ℕ) → root_of place nodes ≡ o → AllLive (as_list (document_below nodes o)) nodes
below-live nodes place None e = refl
below-live nodes place (Some root) e =
    let live = children-axis root nodes (root-live place root nodes e) in
    live-first (children_of root (visits nodes)) nodes (subst (λ ns. AllLive ns nodes) live (axis-all_live Child root nodes))

pub all-there : {X : Type 0} (place : ℕ) (is : List X) (nodes : List Node) → AreThere (documents_from place is nodes) nodes
all-there place [] nodes = tt
all-there place (i ∷ is) nodes = (below-live nodes place (root_of place nodes) refl, all-there (suc place) is nodes)

abbrev found_live : (Document → Bool) → List Document → List Node → Type 0
found_live test ds nodes = AllLive (as_list (option_map (λ (d : Document). d.element) (find test ds))) nodes

find-live : (test : Document → Bool) (is : List Instance) (ds : List (Option ℕ)) (nodes : List Node) → AreThere ds nodes → found_live test (documents_by is ds) nodes
find-live test [] ds nodes h = refl
find-live test (i ∷ is) [] nodes h = refl
find-live test (i ∷ is) (None ∷ ds) nodes h = find-live test is ds nodes h.1
find-live test (i ∷ is) (Some n ∷ ds) nodes h = by (find-live test is ds nodes h.1) (test (record { model = i.model; id = i.id; element = n }))
  where
    by : found_live test (documents_by is ds) nodes
        → (b : Bool) → AllLive (as_list (option_map (λ (d : Document). d.element) (cond b (Some (record { model = i.model; id = i.id; element = n })) (find test (documents_by is ds))))) nodes
    by later true = h.0
    by later false = later

document-live : (model : ℕ) (id : List ℕ) (is : List Instance) (ds : List (Option ℕ)) (nodes : List Node) → AreThere ds nodes → AllLive (as_list (document_of model id (documents_by is ds))) nodes
document-live model [] is ds nodes h = find-live (λ (d : Document). d.model == model) is ds nodes h
document-live model (c ∷ cs) is ds nodes h = find-live (λ (d : Document). (d.model == model) && bytes_eq d.id (c ∷ cs)) is ds nodes h

pub around-stands : (is : List Instance) (b : Bindings) (d : ℕ) (nodes : List Node) (ds : List (Option ℕ)) → ds ≡ documents_from 0 is nodes → AroundStands (given_by is b d ds) nodes
around-stands is b d nodes ds e = record {
  documents = λ model id. document-live model id is ds nodes (subst (λ l. AreThere l nodes) (sym e) (all-there 0 is nodes));
  event = λ name. refl;
}

-- ---- no documents

pub no-documents : (model : ℕ) (id : List ℕ) (is : List Instance) → document_of model id (documents_by is []) ≡ None
no-documents model [] [] = refl
no-documents model [] (i ∷ is) = refl
no-documents model (c ∷ cs) [] = refl
no-documents model (c ∷ cs) (i ∷ is) = refl
