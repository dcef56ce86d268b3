-- What surrounds expressions over a context of the data is what surrounds them in the state.
use Rattle.std.proofs.Common.{◌≡◌, ℕ, suc, List, [], ◌∷◌, ◌++◌, Option, Some, None, refl, ap, ◌∙◌}
use Rattle.std.specs.List.{flat_map}
use Rattle.xf_def_syntax.specs.declared.form.Instance.{Instance}
use Rattle.xf_def_syntax.specs.Ordered.{numbered_from}
use Rattle.xf_base.specs.Limits.{string_limit}
use Rattle.xf_def_forest.specs.Changes.{root_of}
use Rattle.xf_def_forest.specs.Visit.{visits}
use Rattle.xf_def_xpath.specs.Given.{Document}
use Rattle.xf_funcs.specs.Called.{called}
use Rattle.xf_def_model.specs.Nested.{nested}
use Rattle.xf_def_model.specs.Rules.{scope_of}
use Rattle.xf_def_ui.specs.Around.{Around}
use Rattle.xf_def_ui.specs.Index.{named_indexes}
use Rattle.xf_def_ui.specs.Interface.{interface_of}
use Rattle.xf_eval_context.specs.Around.{document_below, document_in, documents_by, documents_from}
use Rattle.xf_eval_context.specs.Over.{around_with}
use Rattle.xf_def_machine.specs.State.{State}
use Rattle.xf_def_machine.specs.Surround as machine
use Rattle.xf_def_machine.specs.Surround.{document_at, document_under, documents, given, instances_in, quiet}
use Rattle.xf_def_form.specs.Formed.{profile}
use Rattle.xf_engine_state.specs.Standing.{Standing, state_of}

-- ---- documents

in-same : (i : Instance) (o : Option ℕ) → machine.document_in i o ≡ document_in i o
in-same i None = refl
in-same i (Some n) = refl

below-same : (s : State) (o : Option ℕ) → document_under s o ≡ document_below s.forest.nodes o
below-same s None = refl
below-same s (Some root) = refl

at-same : (s : State) (i : Instance) (place : ℕ) → machine.document_in i (document_at s place) ≡ document_in i (document_below s.forest.nodes (root_of place s.forest.nodes))
at-same s i place = ap (machine.document_in i) (below-same s (root_of place s.forest.nodes)) ∙ in-same i (document_below s.forest.nodes (root_of place s.forest.nodes))

from-same : (s : State) (place : ℕ) (is : List Instance)
    → flat_map (λ i. machine.document_in i.1 (document_at s i.0)) (numbered_from place is) ≡ documents_by is (documents_from place is s.forest.nodes)
from-same s place [] = refl
from-same s place (i ∷ is) =
    ap (λ d. d ++ flat_map (λ j. machine.document_in j.1 (document_at s j.0)) (numbered_from (suc place) is)) (at-same s i place)
    ∙ ap (λ ds. document_in i (document_below s.forest.nodes (root_of place s.forest.nodes)) ++ ds) (from-same s (suc place) is)

pub documents-given : (s : State) → documents s ≡ documents_by (instances_in s) (documents_from 0 (instances_in s) s.forest.nodes)
documents-given s = from-same s 0 (instances_in s)

-- ---- outside an event

module _ (s : Standing) where
  abbrev over_documents : List Document → Around
  over_documents ds = record {
    functions = called;
    most = Some string_limit;
    given = record (given (state_of s) None) { documents = ds };
    all = visits s.forest.nodes;
    bound = λ k. nested (Some string_limit) (scope_of called (record (given (state_of s) None) { documents = ds; indexes = []; event = None }) s.form.tables 0) (visits s.forest.nodes) k;
  }

  -- with the indexes that stand
  pub quiet-same : quiet profile (state_of s) ≡ around_with (named_indexes (interface_of s.form) s.indexes) s.form s.prefixes s.forest None
  quiet-same = ap over_documents (documents-given (state_of s))
