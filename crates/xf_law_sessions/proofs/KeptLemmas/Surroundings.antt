-- What surrounds the binds of a form, as the machine has it, is what is given over its nodes.
use Rattle.std.proofs.Common.{◌≡◌, ℕ, suc, ◌+◌, ◌<◌, ◌==◌, Bool, true, false, ◌||◌, List, [], ◌∷◌, ◌++◌, Option, Some, None, refl, sym, ap, ◌∙◌, arith}
use Rattle.std.specs.Prelude.{◌^◌, nat_lt}
use Rattle.std.specs.List.{flat_map}
use Rattle.std.proofs.lemmas.Bool.Decides.{nat_tests}
use Rattle.xf_def_syntax.specs.Ordered.{numbered_from}
use Rattle.xf_def_syntax.specs.declared.form.Instance.{Instance}
use Rattle.xf_def_syntax.specs.declared.form.Tables.{Tables}
use Rattle.xf_def_forest.specs.Changes.{root_of}
use Rattle.xf_def_forest.specs.Forest.{Forest}
use Rattle.xf_def_forest.specs.declared.content.Node.{Node}
use Rattle.xf_def_forest.specs.Visit.{has, still_above, visits_from}
use Rattle.xf_def_forest.specs.WellFormed.{are_below}
use Rattle.xf_def_forest.proofs.BackLaws.{and-true}
use Rattle.xf_def_xpath.specs.Agree.{numbers_of}
use Rattle.xf_def_xpath.specs.Given.{Document}
use Rattle.xf_def_xpath.proofs.VisitFacts.{no}
use Rattle.xf_def_model.specs.Rules.{Rule, Scope, scope_of}
use Rattle.xf_law_recalculation.proofs.AgreeLemmas.HungLaws.{hung_forest}
use Rattle.xf_law_recalculation.specs.Document.Documents.{document_of_instance, documents_at, documents_from, element_at, element_under}
use Rattle.xf_law_recalculation.specs.Held.OwnForest.{AreLow}
use Rattle.xf_law_recalculation.specs.Part.Whole.{IsPresent}
use Rattle.xf_def_machine.specs.Profile.{Profile}
use Rattle.xf_def_machine.specs.Program.{Program}
use Rattle.xf_def_machine.specs.State.{Model, State}
use Rattle.xf_def_machine.specs.Surround.{bind_scope, document_at, document_in, document_under, documents, instances_in}
use Rattle.xf_law_sessions.specs.Kept.Kept.{HasBinds, HasNodes, given_over}

-- ---- document elements

same-document : (s : State) (i : Instance) (place : ℕ) → document_in i (document_at s place) ≡ document_of_instance i (element_at s.forest.nodes place)
same-document s i place = below (root_of place s.forest.nodes)
  where
    in-document : (d : Option ℕ) → document_in i d ≡ document_of_instance i d
    in-document None = refl
    in-document (Some n) = refl

    below : (root : Option ℕ) → document_in i (document_under s root) ≡ document_of_instance i (element_under s.forest.nodes root)
    below None = refl
    below (Some root) = in-document (document_under s (Some root))

documents-from : (s : State) (place : ℕ) (is : List Instance)
    → flat_map (λ i. document_in i.1 (document_at s i.0)) (numbered_from place is) ≡ documents_from place is s.forest.nodes
documents-from s place [] = refl
documents-from s place (i ∷ is) =
    ap (λ l. l ++ flat_map (λ j. document_in j.1 (document_at s j.0)) (numbered_from (suc place) is)) (same-document s i place)
    ∙ ap (λ l. document_of_instance i (element_at s.forest.nodes place) ++ l) (documents-from s (suc place) is)

documents-are : (s : State) → documents s ≡ documents_at (instances_in s) s.forest.nodes
documents-are s = documents-from s 0 (instances_in s)

-- ---- the scope

abbrev with-given : Profile → State → ℕ → List Document → List Rule → Scope
with-given p s model ds rules = record {
  functions = p.functions;
  given = record { documents = ds; indexes = []; event = None; bindings = s.form.bindings; decimals = s.form.decimals };
  model = model;
  rules = rules;
}

pub scope-is : (p : Profile) (tables : Tables) (s : State) (model : ℕ) → HasBinds tables s.form → bind_scope p s model ≡ scope_of p.functions (given_over s.form s.forest.nodes) tables model
scope-is p tables s model h = ap (λ ds. with-given p s model ds s.form.rules) (documents-are s) ∙ ap (with-given p s model (documents_at (instances_in s) s.forest.nodes)) h

-- it is the same whatever the models keep
pub scope-beside : (p : Profile) (s : State) (models : List Model) (model : ℕ) → bind_scope p (record s { models = models }) model ≡ bind_scope p s model
scope-beside p s models model = ap (λ ds. with-given p s model ds s.form.rules) (documents-are (record s { models = models }) ∙ sym (documents-are s))

-- ---- numbers

number-below : (next k : ℕ) (above nodes : List Node) → are_below next nodes ≡ true → has k (numbers_of (visits_from above nodes)) ≡ true → nat_lt k next ≡ true
number-below next k above [] h e = no e
number-below next k above (x ∷ xs) h e = by (k == x.number) refl e (number-below next k (x ∷ still_above x.depth above) xs (and-true (nat_lt x.number next) (are_below next xs) h).1)
  where
    first : nat_lt x.number next ≡ true
    first = (and-true (nat_lt x.number next) (are_below next xs) h).0

    by : (b : Bool) → (k == x.number) ≡ b → (b || has k (numbers_of (visits_from (x ∷ still_above x.depth above) xs))) ≡ true
        → (has k (numbers_of (visits_from (x ∷ still_above x.depth above) xs)) ≡ true → nat_lt k next ≡ true) → nat_lt k next ≡ true
    by true i j later = grind (arith, nat_tests, i, first)
    by false i j later = later j

less : (k next most : ℕ) → nat_lt k next ≡ true → next < most → nat_lt k most ≡ true
less k next most h e = grind (arith, nat_tests, h, e)

pub low : (forest : Forest) → HasNodes forest → AreLow forest
low forest d k h = less k forest.next (2 ^ 128) (number-below forest.next k [] forest.nodes d.trees.below h) d.few

-- ---- all data of a form

pub present : (form : Program) (model : ℕ) (forest : Forest) → HasNodes forest → IsPresent form.instances model (given_over form forest.nodes) forest
present form model forest d = record {
  trees = d.trees;
  below = low forest d;
  hung = hung_forest forest d.trees d.hung;
  documents = λ id. refl;
  quiet = refl;
}
