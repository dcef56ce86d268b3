-- What the last rebuild of a model gave stays what a rebuild gives where the model's part of the data stays, and where the shape of all data does.
use Rattle.std.proofs.Common.{◌≡◌, ℕ, List, refl, sym, ap, ◌∙◌, subst}
use Rattle.xf_def_syntax.specs.declared.form.Instance.{Instance}
use Rattle.xf_def_syntax.specs.declared.form.Tables.{Tables}
use Rattle.xf_def_forest.specs.declared.content.Node.{Node}
use Rattle.xf_def_forest.specs.Forest.{Forest}
use Rattle.xf_def_forest.specs.Shape.{shape_of}
use Rattle.xf_def_values.specs.Functions.{Functions}
use Rattle.xf_def_xpath.specs.Given.{Document, Given}
use Rattle.xf_def_model.specs.Applied.{applied_over}
use Rattle.xf_def_model.specs.Circular.{graph_over}
use Rattle.xf_def_model.specs.Entries.{edge_count}
use Rattle.xf_def_model.specs.Rules.{Scope, scope_of}
use Rattle.xf_law_recalculation.specs.Document.Documents.{documents_at}
use Rattle.xf_law_recalculation.specs.Elsewhere.Parts.{IsPart, part_of}
use Rattle.xf_law_recalculation.proofs.HeldLemmas.Named.{documents_of_part}
use Rattle.xf_law_recalculation.specs.Part.Whole.{StandsFor, with_documents}
use Rattle.xf_law_recalculation.proofs.PartLemmas.OfPart.{applied_of_part, count_of_part, graph_of_part}
use Rattle.xf_def_machine.specs.Cycles.{reported_cycle}
use Rattle.xf_def_machine.specs.Profile.{Profile}
use Rattle.xf_def_machine.specs.Program.{Program}
use Rattle.xf_def_machine.specs.State.{Model, State}
use Rattle.xf_def_machine.specs.Surround.{bind_scope}
use Rattle.xf_law_sessions.specs.Kept.Kept.{HasBinds, HasNodes, IsEntered, given_over}
use Rattle.xf_law_sessions.specs.Kept.Stays.{EnteredElsewhere, EnteredShaped, PartStays, SameForm}
use Rattle.xf_law_sessions.proofs.KeptLemmas.Documents.{documents-same}
use Rattle.xf_law_sessions.proofs.KeptLemmas.Surroundings.{present, scope-is}

-- ---- over the part

module _ (functions : Functions) (given : Given) (documents : List Document) (tables : Tables) (instances : List Instance) (model : ℕ) (part whole : Forest) (s : StandsFor instances model given documents part whole) (m : Model) where
  abbrev large : Scope
  large = scope_of functions given tables model

  abbrev over_part : Scope
  over_part = scope_of functions (with_documents documents given) tables model

  to-part : IsEntered large whole.nodes m → IsEntered over_part part.nodes m
  to-part b =
      let applies = sym (applied_of_part functions given documents tables instances model part whole s) ∙ b.entries in
      record {
        entries = applies;
        no_cycle = ap reported_cycle (sym (graph_of_part functions given documents tables instances model part whole m.entries s applies)) ∙ b.no_cycle;
        asked = b.asked ∙ count_of_part functions given documents tables instances model part whole m.entries s applies;
      }

  to-whole : IsEntered over_part part.nodes m → IsEntered large whole.nodes m
  to-whole b = record {
    entries = applied_of_part functions given documents tables instances model part whole s ∙ b.entries;
    no_cycle = ap reported_cycle (graph_of_part functions given documents tables instances model part whole m.entries s b.entries) ∙ b.no_cycle;
    asked = b.asked ∙ sym (count_of_part functions given documents tables instances model part whole m.entries s b.entries);
  }

-- ---- two data with one part

-- what stands for both
module _ (form : Program) (model : ℕ) (part before after : Forest) (h : HasNodes before) (k : HasNodes after) (first : IsPart form.instances model part before) (second : IsPart form.instances model part after) where
  pub for-before : StandsFor form.instances model (given_over form before.nodes) (documents_at form.instances before.nodes) part before
  for-before = record { is_part = first; present = present form model before h; same = λ id. refl }

  pub for-after : StandsFor form.instances model (given_over form after.nodes) (documents_at form.instances before.nodes) part after
  for-after = record { is_part = second; present = present form model after k; same = λ id. documents_of_part form.instances model part before after h.trees k.trees first second id }

elsewhere : (functions : Functions) (tables : Tables) (form : Program) (model : ℕ) (before after : Forest) (m : Model) → HasNodes before → HasNodes after → PartStays form.instances model before after
    → IsEntered (scope_of functions (given_over form before.nodes) tables model) before.nodes m → IsEntered (scope_of functions (given_over form after.nodes) tables model) after.nodes m
elsewhere functions tables form model before after m h k stays b =
    let part : Forest = record { nodes = part_of form.instances model before.nodes; next = before.next } in
    let is : IsPart form.instances model part before = record { nodes = refl } in
    let ds = documents_at form.instances before.nodes in
    to-whole functions (given_over form after.nodes) ds tables form.instances model part after (for-after form model part before after h k is (stays part is)) m
    (to-part functions (given_over form before.nodes) ds tables form.instances model part before (for-before form model part before after h k is (stays part is)) m b)

-- the scope of the second state, told by the form of the first
pub later-scope : (p : Profile) (tables : Tables) (s t : State) (model : ℕ) → SameForm tables s t → bind_scope p t model ≡ scope_of p.functions (given_over s.form t.forest.nodes) tables model
later-scope p tables s t model h =
    scope-is p tables t model (subst (HasBinds tables) (sym h.same) h.binds) ∙ ap (λ (f : Program). scope_of p.functions (given_over f t.forest.nodes) tables model) h.same

pub entered_elsewhere : EnteredElsewhere
entered_elsewhere p tables s t model m h stays b =
    subst (λ (scope : Scope). IsEntered scope t.forest.nodes m) (sym (later-scope p tables s t model h))
    (elsewhere p.functions tables s.form model s.forest t.forest m h.before h.after stays (subst (λ (scope : Scope). IsEntered scope s.forest.nodes m) (scope-is p tables s model h.binds) b))

-- ---- two data of one shape

shaped : (scope : Scope) (before after : List Node) (m : Model) → shape_of after ≡ shape_of before → IsEntered scope before m → IsEntered scope after m
shaped scope before after m e b = record {
  entries = ap (applied_over scope) e ∙ b.entries;
  no_cycle = ap (λ all. reported_cycle (graph_over scope all m.entries)) e ∙ b.no_cycle;
  asked = b.asked ∙ sym (ap (λ all. edge_count scope all m.entries) e);
}

pub entered_shaped : EnteredShaped
entered_shaped p tables s t model m h e b =
    let same : documents_at s.form.instances t.forest.nodes ≡ documents_at s.form.instances s.forest.nodes = documents-same s.form.instances s.forest t.forest h.before.trees h.after.trees h.before.hung h.after.hung e in
    let scopes : bind_scope p s model ≡ bind_scope p t model =
    scope-is p tables s model h.binds ∙ ap (λ ds. scope_of p.functions (with_documents ds (given_over s.form t.forest.nodes)) tables model) (sym same) ∙ sym (later-scope p tables s t model h) in
    subst (λ (scope : Scope). IsEntered scope t.forest.nodes m) scopes (shaped (bind_scope p s model) s.forest.nodes t.forest.nodes m e b)
