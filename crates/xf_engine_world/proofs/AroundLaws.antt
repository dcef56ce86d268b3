-- What surrounds expressions, as it is found over the data, is what surrounds them in the state.
use Rattle.std.proofs.Common.{◌≡◌, ℕ, suc, List, [], ◌∷◌, ◌++◌, Option, Some, None, refl, sym, ap, ◌∙◌}
use Rattle.std.specs.List.{flat_map}
use Rattle.xf_name.specs.Bindings.{Bindings}
use Rattle.xf_def_syntax.specs.declared.form.Form.{Form}
use Rattle.xf_def_syntax.specs.declared.form.Instance.{Instance}
use Rattle.xf_def_syntax.specs.Ordered.{numbered_from}
use Rattle.xf_base.specs.Limits.{string_limit}
use Rattle.xf_def_forest.specs.Changes.{root_of}
use Rattle.xf_def_forest.specs.Forest.{Forest}
use Rattle.xf_def_forest.specs.Visit.{visits}
use Rattle.xf_store.specs.declared.call.StoreCall.{StoreCall}
use Rattle.xf_def_xpath.specs.Given.{Document, Given}
use Rattle.xf_funcs.specs.Called.{called}
use Rattle.xf_def_model.specs.Nested.{nested}
use Rattle.xf_def_model.specs.Rules.{scope_of}
use Rattle.xf_def_ui.specs.Around.{Around}
use Rattle.xf_def_ui.specs.Index.{Index, named_indexes}
use Rattle.xf_def_ui.specs.Interface.{interface_of}
use Rattle.xf_def_machine.specs.declared.note.Note.{Note}
use Rattle.xf_def_machine.specs.State.{State}
use Rattle.xf_def_machine.specs.Surround as machine
use Rattle.xf_def_machine.specs.Surround.{Told, around, document_at, document_under, documents, given, instances_in}
use Rattle.xf_def_form.specs.Formed.{profile}
use Rattle.xf_eval_context.specs.Around.{document_below, document_in, documents_by, documents_from}
use Rattle.xf_eval_context.specs.Over.{around_with}
use Rattle.xf_engine_state.specs.Standing.{Standing, state_of}

-- ---- documents

in-same : (i : Instance) (o : Option ℕ) → machine.document_in i o ≡ document_in i o
in-same i None = refl
in-same i (Some n) = refl

below-same : (s : State) (o : Option ℕ) → document_under s o ≡ document_below s.forest.nodes o
below-same s None = refl
below-same s (Some root) = refl

at-same : (s : State) (i : Instance) (place : ℕ) → machine.document_in i (document_at s place) ≡ document_in i (document_below s.forest.nodes (root_of place s.forest.nodes))
at-same s i place = ap (machine.document_in i) (below-same s (root_of place s.forest.nodes)) ∙ in-same i (document_below s.forest.nodes (root_of place s.forest.nodes))

from-same : (s : State) (place : ℕ) (is : List Instance)
    → flat_map (λ i. machine.document_in i.1 (document_at s i.0)) (numbered_from place is) ≡ documents_by is (documents_from place is s.forest.nodes)
from-same s place [] = refl
from-same s place (i ∷ is) =
    ap (λ d. d ++ flat_map (λ j. machine.document_in j.1 (document_at s j.0)) (numbered_from (suc place) is)) (at-same s i place)
    ∙ ap (λ ds. document_in i (document_below s.forest.nodes (root_of place s.forest.nodes)) ++ ds) (from-same s (suc place) is)

documents-same : (s : State) → documents s ≡ documents_by (instances_in s) (documents_from 0 (instances_in s) s.forest.nodes)
documents-same s = from-same s 0 (instances_in s)

-- ---- what is given

-- over a form and its data, with these indexes
abbrev pub surrounding : List Index → Form → Bindings → Forest → Option Told → Around
surrounding indexes form prefixes forest event = around_with (named_indexes (interface_of form) indexes) form prefixes forest event

module _ (s : Standing) (notes : List Note) (calls : List StoreCall) where
  abbrev here : State
  here = record (state_of s) { notes = notes; calls = calls }

  abbrev given_by : List Document → Option Told → Given
  given_by documents event = record (given here event) { documents = documents }

  abbrev around_by : List Document → Option Told → Around
  around_by documents event = record {
    functions = called;
    most = Some string_limit;
    given = given_by documents event;
    all = visits s.forest.nodes;
    bound = λ k. nested (Some string_limit) (scope_of called (record (given_by documents None) { indexes = [] }) s.form.tables 0) (visits s.forest.nodes) k;
  }

  around-same : (event : Option Told) → around profile here event ≡ surrounding s.indexes s.form s.prefixes s.forest event
  around-same event = ap (λ ds. around_by ds event) (documents-same here)

  -- over a form and data that are these
  pub over-same : (indexes : List Index) (form : Form) (b : Bindings) (forest : Forest) (event : Option Told) → indexes ≡ s.indexes → form ≡ s.form → b ≡ s.prefixes → forest ≡ s.forest
      → around profile here event ≡ surrounding indexes form b forest event
  over-same indexes form b forest event h e i j =
      around-same event
      ∙ ap (λ os. surrounding os s.form s.prefixes s.forest event) (sym h)
      ∙ ap (λ f. surrounding indexes f s.prefixes s.forest event) (sym e)
      ∙ ap (λ c. surrounding indexes form c s.forest event) (sym i)
      ∙ ap (λ g. surrounding indexes form b g event) (sym j)
