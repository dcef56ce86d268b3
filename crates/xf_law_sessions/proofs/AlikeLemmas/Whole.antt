-- The parts of rest: those that are told of each accepted event and each start, and the others.
use Rattle.std.proofs.Common.{◌≡◌, ℕ, suc, ◌+◌, List, [], ◌∷◌, length, get_or, sym, ap, ◌∙◌, subst, arith}
use Rattle.xf_def_model.specs.Pertinent.{AllOf}
use Rattle.xf_def_machine.specs.AtRest.{RestsModel}
use Rattle.xf_def_machine.specs.Behave.{model_at, no_model}
use Rattle.xf_def_machine.specs.Cycles.{counted_from}
use Rattle.xf_def_machine.specs.Profile.{Profile}
use Rattle.xf_def_machine.specs.State.{Model, State}
use Rattle.xf_law_machine.specs.Rest.Rests.{IsUnmarked}
use Rattle.xf_law_machine.proofs.RestLemmas.StepLaws.{step_rests}
use Rattle.xf_law_sessions.specs.Alike.Whole.{KeepsWhole, RestOfParts, RestByWhole, WholeLaws}

-- ---- models one by one

unmarked-from : (at : ℕ → Model) (k : ℕ) (ms : List Model) → ((i : ℕ) → at (k + i) ≡ get_or ms i no_model) → AllOf IsUnmarked ms → AllOf (λ n. IsUnmarked (at n)) (counted_from k (length ms))
unmarked-from at k [] e h = tt
unmarked-from at k (m ∷ ms) e h =
    let plain : k + 0 ≡ k = omega arith in
    let own : m ≡ at k = sym (e 0) ∙ ap at plain in
    (subst IsUnmarked own h.0, unmarked-from at (suc k) ms (λ i. let next : suc k + i ≡ k + suc i = omega arith in ap at next ∙ e (suc i)) h.1)

both-of : (P Q R : ℕ → Type 0) (ns : List ℕ) → ((n : ℕ) → P n → Q n → R n) → AllOf P ns → AllOf Q ns → AllOf R ns
both-of P Q R [] f h k = tt
both-of P Q R (n ∷ ns) f h k = (f n h.0 k.0, both-of P Q R ns f h.1 k.1)

one-model : (p : Profile) (s : State) (model : ℕ) → IsUnmarked (model_at s model) → KeepsWhole p s model → RestsModel p s model
one-model p s model u w = record {
  entries = w.entries;
  no_cycle = w.no_cycle;
  asked = w.asked;
  settled = w.settled;
  within = w.within;
  values = w.values;
  invalid = w.invalid;
  texts = u.texts;
  lists = u.lists;
}

rest_of_parts : RestOfParts
rest_of_parts p s r w = record {
  trees = w.trees;
  documents = w.documents;
  is_due = r.is_due;
  attached = r.attached;
  filled = r.filled;
  sizes = w.sizes;
  texts = r.texts;
  depths = w.depths;
  model_count = r.model_count;
  models = both-of (λ n. IsUnmarked (model_at s n)) (KeepsWhole p s) (RestsModel p s) (counted_from 0 (length s.models)) (one-model p s)
      (unmarked-from (model_at s) 0 s.models (λ i. let plain : 0 + i ≡ i = omega arith in ap (model_at s) plain) r.unmarked) w.models;
  edges = r.edges;
  placed = w.placed;
  cases = w.cases;
  controls = w.controls;
  is_fresh = r.is_fresh;
}

rest_by_whole : RestByWhole
rest_by_whole m reads ends = record {
  starts = λ bytes form f answers s posted e.
      let whole = ends.starts bytes form f answers s posted e in
      record { rest = rest_of_parts m.profile s ((step_rests m.profile).started form answers s posted (reads.filled bytes form f) e).rests whole.0; room = whole.1 };
  steps = λ bytes event answers s t posted f h e.
      rest_of_parts m.profile t
      ((step_rests m.profile).stepped event answers s t posted (reads.filled bytes s.form f) ((step_rests m.profile).of_rest s h.rest) e).rests
      (ends.steps bytes event answers s t posted f h e);
  adopted = ends.adopted;
}

pub whole_laws : WholeLaws
whole_laws = record { parts = rest_of_parts; ends = rest_by_whole }
