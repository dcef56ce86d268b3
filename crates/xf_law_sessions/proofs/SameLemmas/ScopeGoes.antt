-- What surrounds the expressions of a form, and the paths of nodes, go with a renumbering.
use Rattle.std.proofs.Common.{◌≡◌, ℕ, zero, suc, ◌+◌, List, [], ◌∷◌, ◌++◌, map, get_or, Option, Some, None, option_map, refl, sym, ap, ◌∙◌, subst}
use Rattle.std.specs.Prelude.{fold}
use Rattle.std.specs.List.{flat_map}
use Rattle.std.proofs.lemmas.List.{map-append}
use Rattle.xf_def_syntax.specs.declared.form.Instance.{Instance}
use Rattle.xf_def_syntax.specs.Ordered.{numbered_from}
use Rattle.xf_def_forest.specs.Changes.{root_of}
use Rattle.xf_def_forest.specs.Path.{path_of}
use Rattle.xf_def_forest.specs.Same.{IsRenumbering, renumbered}
use Rattle.xf_def_forest.specs.Visit.{visits, first_of, children_of}
use Rattle.xf_def_forest.proofs.RenumberLaws.{visits-renumbered, children_of-renumbered, path_of-renumbered}
use Rattle.xf_def_forest.proofs.RenumberChanges.{root_of-renumbered}
use Rattle.xf_def_xpath.specs.Given.{Document}
use Rattle.xf_def_xpath.specs.Same.{renumbered_document}
use Rattle.xf_def_model.specs.Pertinent.{AllOf}
use Rattle.xf_def_model.specs.Rules.{Rule, Scope, for_binds}
use Rattle.xf_def_model.specs.Same.{renumbered_scope}
use Rattle.xf_def_model.proofs.RenumberEntries.{RuleGoes, ScopeGoes, scope-goes}
use Rattle.xf_def_ui.specs.Elements.{element_at}
use Rattle.xf_def_ui.specs.Index.{Index, unset, number_of, index_of, if_named, named_indexes}
use Rattle.xf_def_ui.specs.Interface.{Interface}
use Rattle.xf_def_machine.specs.Profile.{Profile}
use Rattle.xf_def_machine.specs.State.{Model, State}
use Rattle.xf_def_machine.specs.Surround.{interface, all_in, instances_in, instance_holding, document_under, document_at, document_in, documents, given, scope, bind_scope}
use Rattle.xf_def_machine.specs.Behave.{no_model}
use Rattle.xf_def_machine.specs.Properties.{before_path, path_in}
use Rattle.xf_def_machine.specs.Same.{renumbered_model, renumbered_index}
use Rattle.xf_law_sessions.specs.Same.Going.{image}
use Rattle.xf_law_sessions.specs.Same.Behaving.{HasTables}
use Rattle.xf_law_sessions.proofs.SameLemmas.ForestGoes.{holding-goes}

pub asked-same : (f : ℕ → ℕ) (sum : ℕ) (ms : List Model)
    → fold (λ (a : ℕ) (m : Model). a + m.asked) sum (map (renumbered_model f) ms) ≡ fold (λ (a : ℕ) (m : Model). a + m.asked) sum ms
asked-same f sum [] = refl
asked-same f sum (m ∷ ms) = asked-same f (sum + m.asked) ms

first-goes : (f : ℕ → ℕ) (ns : List ℕ) → first_of (map f ns) ≡ option_map f (first_of ns)
first-goes f [] = refl
first-goes f (n ∷ ns) = refl

index-goes : (f : ℕ → ℕ) (k : ℕ) (is : List Index) → (get_or (map (renumbered_index f) is) k unset).index ≡ (get_or is k unset).index
index-goes f zero [] = refl
index-goes f (suc k) [] = refl
index-goes f zero (i ∷ is) = refl
index-goes f (suc k) (i ∷ is) = index-goes f k is

pub named-goes : (f : ℕ → ℕ) (form : Interface) (is : List Index) (rs : List ℕ)
    → flat_map (λ r. if_named (element_at form r).id (index_of form (map (renumbered_index f) is) r).index) rs
    ≡ flat_map (λ r. if_named (element_at form r).id (index_of form is r).index) rs
named-goes f form is [] = refl
named-goes f form is (r ∷ rs) =
    ap (λ k. if_named (element_at form r).id k ++ flat_map (λ q. if_named (element_at form q).id (index_of form (map (renumbered_index f) is) q).index) rs) (index-goes f (number_of form r) is)
    ∙ ap (λ l. if_named (element_at form r).id (index_of form is r).index ++ l) (named-goes f form is rs)

module _ (f : ℕ → ℕ) (same : IsRenumbering f) (second : ℕ) (s : State) where
  under-goes : (o : Option ℕ) → document_under (image f second s) (option_map f o) ≡ option_map f (document_under s o)
  under-goes None = refl
  under-goes (Some root) =
      ap (λ all. first_of (children_of (f root) all)) (visits-renumbered f same s.forest.nodes)
      ∙ ap first_of (children_of-renumbered f same root (all_in s)) ∙ first-goes f (children_of root (all_in s))

  pub document-goes : (place : ℕ) → document_at (image f second s) place ≡ option_map f (document_at s place)
  document-goes place = ap (document_under (image f second s)) (root_of-renumbered f same place s.forest.nodes) ∙ under-goes (root_of place s.forest.nodes)

  in-goes : (i : Instance) (o : Option ℕ) → document_in i (option_map f o) ≡ map (renumbered_document f) (document_in i o)
  in-goes i None = refl
  in-goes i (Some n) = refl

  all-go : (is : List (ℕ × Instance)) → flat_map (λ i. document_in i.1 (document_at (image f second s) i.0)) is ≡ map (renumbered_document f) (flat_map (λ i. document_in i.1 (document_at s i.0)) is)
  all-go [] = refl
  all-go (i ∷ is) =
      let rest = flat_map (λ (j : ℕ × Instance). document_in j.1 (document_at (image f second s) j.0)) is in
      let here_ = document_in i.1 (document_at s i.0) in
      ap (λ o. document_in i.1 o ++ rest) (document-goes i.0) ∙ ap (λ ds. ds ++ rest) (in-goes i.1 (document_at s i.0))
      ∙ ap (λ ds. map (renumbered_document f) here_ ++ ds) (all-go is)
      ∙ sym (map-append (renumbered_document f) here_ (flat_map (λ (j : ℕ × Instance). document_in j.1 (document_at s j.0)) is))

  pub scope-is : (p : Profile) (model : ℕ) → scope p (image f second s) model ≡ renumbered_scope f (scope p s model)
  scope-is p model =
      let sc = scope p s model in
      let g = given s None in
      ap {A = List Document} {B = Scope} (λ ds. record sc { given = record g { documents = ds; indexes = named_indexes (interface s) (map (renumbered_index f) s.indexes) } }) (all-go (numbered_from 0 (instances_in s)))
      ∙ ap {A = List (List ℕ × ℕ)} {B = Scope} (λ is. record sc { given = record g { documents = map (renumbered_document f) (documents s); indexes = is } }) (named-goes f (interface s) s.indexes (interface s).repeats)

  pub bind_scope-is : (p : Profile) (model : ℕ) → bind_scope p (image f second s) model ≡ renumbered_scope f (bind_scope p s model)
  bind_scope-is p model = ap for_binds (scope-is p model)

  pub path-goes : (n : ℕ) → path_in (image f second s) (f n) ≡ path_in s n
  path-goes n =
      ap (λ o. before_path s o ++ path_of (f n) (visits (map (renumbered f) s.forest.nodes))) (holding-goes f same second s n)
      ∙ ap (λ all. before_path s (instance_holding s n) ++ path_of (f n) all) (visits-renumbered f same s.forest.nodes)
      ∙ ap (λ text. before_path s (instance_holding s n) ++ text) (path_of-renumbered f same n (all_in s))

pub rules-go : (p : Profile) (f : ℕ → ℕ) → IsRenumbering f → (s : State) → HasTables s.form → (model : ℕ) → ScopeGoes f (bind_scope p s model)
rules-go p f same s tables model = subst (λ (rs : List Rule). AllOf (RuleGoes f) rs) (sym tables.1) (scope-goes f same p.functions (bind_scope p s model).given tables.0 model)

pub model-at : (f : ℕ → ℕ) (k : ℕ) (ms : List Model) → get_or (map (renumbered_model f) ms) k no_model ≡ renumbered_model f (get_or ms k no_model)
model-at f zero [] = refl
model-at f (suc k) [] = refl
model-at f zero (m ∷ ms) = refl
model-at f (suc k) (m ∷ ms) = model-at f k ms
