-- What of a state at rest is so after each accepted event, after a start, and after a run.
use Rattle.std.proofs.Common.{◌≡◌, ℕ, suc, ◌+◌, Bool, true, false, ◌||◌, List, [], ◌∷◌, codes, length, get_or, Option, Some, None, Result, Ok, Err, refl, sym, ap, ◌∙◌, subst, arith, if◌then◌else◌}
use Rattle.std.specs.List.{list_any}
use Rattle.xf_line.specs.declared.event.Event.{Event}
use Rattle.xf_store.specs.declared.answers.Answer.{Answer}
use Rattle.xf_def_forest.specs.declared.content.Node.{Node}
use Rattle.xf_def_forest.specs.Changes.{is_detached_top, in_instances}
use Rattle.xf_def_model.specs.Pertinent.{AllOf}
use Rattle.xf_def_machine.specs.Profile.{Profile}
use Rattle.xf_def_machine.specs.Program.{Program}
use Rattle.xf_def_machine.specs.State.{Model, State}
use Rattle.xf_def_machine.specs.Refusal.{Refused}
use Rattle.xf_def_machine.specs.Flow.{◌>>=◌}
use Rattle.xf_def_machine.specs.Cycles.{counted_from}
use Rattle.xf_def_machine.specs.Behave.{no_model, model_at}
use Rattle.xf_def_machine.specs.Update.{has_flag}
use Rattle.xf_def_machine.specs.Construct.{construct, first_contents}
use Rattle.xf_def_machine.specs.Step.{Posted, posted, Outcome, accepted, refused, outcome, fresh, at_end, one_more, changed_by, step}
use Rattle.xf_def_machine.specs.Start.{tell_models, readied, started, start}
use Rattle.xf_def_machine.specs.Run.{Item, line, are_those_of, if_exact, take_item, run_from, run}
use Rattle.xf_def_machine.specs.AtRest.{RestsModel, IsAtRest}
use Rattle.xf_law_machine.specs.Behaviours.Chain.{IsChained}
use Rattle.xf_law_machine.proofs.BehavioursLemmas.QuietKeeps.{is-due-none}
use Rattle.xf_law_machine.specs.Rest.Rests.{IsUnmarked, IsMarkedDue, Within, Rests, are_filled, is_filled, ChangesWithin, Steps, StepsRest, Starts, StartsRest, RunsRest, StepRests}
use Rattle.xf_law_machine.proofs.RestLemmas.Holds.{Held, held-is, held-then, held-more, held-both}
use Rattle.xf_law_machine.proofs.RestLemmas.FilledLaws.{or-parts}
use Rattle.xf_law_machine.proofs.RestLemmas.ClearLaws.{clear-instances}
use Rattle.xf_law_machine.proofs.RestLemmas.WithinLaws.{Chained, Stands, empty_text, long_text, text-stands, copy-stands, plant-stands, attach-stands, detach-stands, refresh-stands, rebuild-stands, recalculate-stands, revalidate-stands, cleared-stands, all-cleared-stands}
use Rattle.xf_law_machine.proofs.RestLemmas.EachKeeps.{KeepsEach}
use Rattle.xf_law_machine.proofs.RestLemmas.EachEvents.{models-keep, changed-keeps}
use Rattle.xf_law_machine.proofs.RestLemmas.DueLaws.{NotDue, models-told, changed-rests}
use Rattle.xf_law_machine.proofs.RestLemmas.StartLaws.{Built, constructed, first-filled}

-- ---- each change

keeps-each : (p : Profile) (form : Program) (count : ℕ) → is_filled form ≡ true → KeepsEach p (Stands p form count)
keeps-each p form count f = record {
  turns = λ left s h. record { models = h.models; nodes = h.nodes; form = h.form; accepted = h.accepted };
  notes = λ notes s h. record { models = h.models; nodes = h.nodes; form = h.form; accepted = h.accepted };
  calls = λ name asked answer s h. record { models = h.models; nodes = h.nodes; form = h.form; accepted = h.accepted };
  controls = λ list s h. record { models = h.models; nodes = h.nodes; form = h.form; accepted = h.accepted };
  indexes = λ indexes s h. record { models = h.models; nodes = h.nodes; form = h.form; accepted = h.accepted };
  case_set = λ k place s h. record { models = h.models; nodes = h.nodes; form = h.form; accepted = h.accepted };
  refresh_due = refresh-stands p form count;
  text = text-stands p form count;
  copy = copy-stands p form count;
  plant = plant-stands p form count;
  attach = attach-stands p form count;
  detach = detach-stands p form count;
  rebuild = rebuild-stands p form count;
  recalculate = recalculate-stands p form count;
  revalidate = revalidate-stands p form count;
  cleared = cleared-stands p form count;
  all_cleared = all-cleared-stands p form count;
  first = λ place s h. subst (λ (x : Program). are_filled (first_contents (construct p x) place) ≡ true) (sym h.form) (first-filled p form f place);
}

within-stands : (p : Profile) (s : State) → Within p s → Stands p s.form s.accepted s
within-stands p s h = record {
  models = record { chained = h.chained; marked = h.marked; count = h.model_count; edges = h.edges };
  nodes = record { filled = h.filled; texts = h.texts };
  form = refl;
  accepted = refl;
}

counted : (p : Profile) (form : Program) (count : ℕ) (s : State) → Stands p form count s → length s.models ≡ length s.form.model_elements
counted p form count s h = h.models.count ∙ ap (λ (f : Program). length f.model_elements) (sym h.form)

stands-within : (p : Profile) (form : Program) (count : ℕ) (s : State) → Stands p form count s → Within p s
stands-within p form count s h = record {
  chained = h.models.chained;
  marked = h.models.marked;
  model_count = counted p form count s h;
  edges = h.models.edges;
  filled = h.nodes.filled;
  texts = h.nodes.texts;
}

changed-stands : (p : Profile) (answers : List Answer) (form : Program) (count : ℕ) (event : Event) (s : State) → is_filled form ≡ true → Stands p form count s → Held (Stands p form count) (changed_by p answers event s)
changed-stands p answers form count event s f h = changed-keeps p answers (Stands p form count) (keeps-each p form count f) event s h

changes_within : (p : Profile) → ChangesWithin p
changes_within p answers event s t f h e =
    stands-within p s.form s.accepted t (held-is (Stands p s.form s.accepted) (changed_by p answers event s) t (changed-stands p answers s.form s.accepted event s f (within-stands p s h)) e)

-- ---- where nothing is due

no-recalculation : (a b c d : Bool) → (a || b || c || d) ≡ false → b ≡ false
no-recalculation true b c d h = cc
no-recalculation false true c d h = cc
no-recalculation false false c d h = refl

unmarked-where : (ms : List Model) → list_any (λ m. has_flag m.flags) ms ≡ false → AllOf IsMarkedDue ms → AllOf IsUnmarked ms
unmarked-where [] h k = tt
unmarked-where (m ∷ ms) h k =
    let parts = or-parts (has_flag m.flags) (list_any (λ x. has_flag x.flags) ms) h in
    (k.0 (no-recalculation m.flags.rebuild m.flags.recalculate m.flags.revalidate m.flags.refresh parts.0), unmarked-where ms parts.1 k.1)

none-chained : (a b c d : Bool) → (a || b || c || d) ≡ false → IsChained (record { rebuild = a; recalculate = b; revalidate = c; refresh = d })
none-chained true b c d h = cc
none-chained false true c d h = cc
none-chained false false true d h = cc
none-chained false false false true h = cc
none-chained false false false false h = record { rebuild = λ i. cc; recalculate = λ i. cc; revalidate = λ i. cc }

chained-where : (ms : List Model) → list_any (λ m. has_flag m.flags) ms ≡ false → AllOf Chained ms
chained-where [] h = tt
chained-where (m ∷ ms) h =
    let parts = or-parts (has_flag m.flags) (list_any (λ x. has_flag x.flags) ms) h in
    (none-chained m.flags.rebuild m.flags.recalculate m.flags.revalidate m.flags.refresh parts.0, chained-where ms parts.1)

marked-where : (ms : List Model) → AllOf IsUnmarked ms → AllOf IsMarkedDue ms
marked-where [] h = tt
marked-where (m ∷ ms) h = (λ i. h.0, marked-where ms h.1)

rests-stands : (p : Profile) (s : State) → Rests p s → Stands p s.form s.accepted (fresh p s)
rests-stands p s h = record {
  models = record { chained = chained-where s.models h.is_due; marked = marked-where s.models h.unmarked; count = h.model_count; edges = h.edges };
  nodes = record { filled = h.filled; texts = h.texts };
  form = refl;
  accepted = refl;
}

-- ---- at the end of an event

if-in : (b : Bool) (x : Node) (xs : List Node) → is_detached_top x ≡ b → in_instances (in_instances xs) ≡ in_instances xs
    → in_instances (if b then [] else x ∷ in_instances xs) ≡ (if b then [] else x ∷ in_instances xs)
if-in true x xs e h = refl
if-in false x xs e h = ap (λ b. if b then [] else x ∷ in_instances (in_instances xs)) e ∙ ap (λ ys. x ∷ ys) h

in-twice : (xs : List Node) → in_instances (in_instances xs) ≡ in_instances xs
in-twice [] = refl
in-twice (x ∷ xs) = if-in (is_detached_top x) x xs refl (in-twice xs)

ended : (p : Profile) (form : Program) (count : ℕ) (s : State) → Stands p form count s → NotDue s → Rests p (at_end p s)
ended p form count s h d = record {
  is_due = d;
  unmarked = unmarked-where s.models d h.models.marked;
  model_count = counted p form count s h;
  edges = h.models.edges;
  attached = in-twice s.forest.nodes;
  filled = clear-instances empty_text s.forest.nodes h.nodes.filled;
  texts = clear-instances (long_text p.bounds.limits.text) s.forest.nodes h.nodes.texts;
  is_fresh = refl;
}

outcome-held : (P : State → Type 0) (end : State → State) (r : Result State Refused) (t : State) (q : Posted)
    → Held (λ u. P (end u)) r → outcome end r ≡ accepted t q → P t
outcome-held P end (Err refusal) t q h e = cc
outcome-held P end (Ok u) t q h e = let same : end u ≡ t = cc in subst P same h

steps_rest : (p : Profile) → StepsRest p
steps_rest p event answers s t posted f h e =
    let P = Stands p s.form s.accepted in
    let r = changed_by p answers event (fresh p s) in
    outcome-held (Steps p s) (λ u. one_more (at_end p u)) r t posted
    (held-more (λ u. P u × NotDue u) (λ u. Steps p s (one_more (at_end p u))) r
    (λ u i. let n = ended p s.form s.accepted u i.0 i.1 in
    record {
      rests = record { is_due = n.is_due; unmarked = n.unmarked; model_count = n.model_count; edges = n.edges; attached = n.attached; filled = n.filled; texts = n.texts; is_fresh = refl };
      form = i.0.form;
      accepted = ap suc i.0.accepted;
    })
    (held-both P NotDue r (changed-stands p answers s.form s.accepted event (fresh p s) f (rests-stands p s h)) (changed-rests p answers event (fresh p s) h.is_due))) e

-- ---- a start

told-both : (p : Profile) (answers : List Answer) (form : Program) (name : List ℕ) (s : State) → is_filled form ≡ true → Stands p form 0 s × NotDue s
    → Held (λ t. Stands p form 0 t × NotDue t) (tell_models p answers name s)
told-both p answers form name s f h =
    held-both (Stands p form 0) NotDue (tell_models p answers name s) (models-keep p answers (Stands p form 0) (keeps-each p form 0 f) name s h.0) (models-told p answers name s h.1)

readied-both : (p : Profile) (answers : List Answer) (form : Program) (s : State) → is_filled form ≡ true → Stands p form 0 s × NotDue s
    → Held (λ t. Stands p form 0 t × NotDue t) (readied p answers s)
readied-both p answers form s f h =
    let B : State → Type 0 = λ t. Stands p form 0 t × NotDue t in
    let one = tell_models p answers (codes "xforms-model-construct") (fresh p s) in
    held-then B B (one >>= tell_models p answers (codes "xforms-model-construct-done")) (tell_models p answers (codes "xforms-ready"))
    (held-then B B one (tell_models p answers (codes "xforms-model-construct-done"))
    (told-both p answers form (codes "xforms-model-construct") (fresh p s) f
    (record { models = h.0.models; nodes = h.0.nodes; form = h.0.form; accepted = h.0.accepted }, h.1))
    (λ t i. told-both p answers form (codes "xforms-model-construct-done") t f i)) (λ t i. told-both p answers form (codes "xforms-ready") t f i)

started-both : (p : Profile) (form : Program) (answers : List Answer) → is_filled form ≡ true → Held (λ t. Stands p form 0 t × NotDue t) (started p form answers)
started-both p form answers f =
    held-then (Built p form) (λ t. Stands p form 0 t × NotDue t) (construct p form) (readied p answers) (constructed p form f)
    (λ s h. readied-both p answers form s f (h.0, is-due-none s h.1))

starts_rest : (p : Profile) → StartsRest p
starts_rest p form answers s posted f e =
    outcome-held (Starts p form) (at_end p) (started p form answers) s posted
    (held-more (λ t. Stands p form 0 t × NotDue t) (λ t. Starts p form (at_end p t)) (started p form answers)
    (λ t h. record { rests = ended p form 0 t h.0 h.1; form = h.0.form; accepted = h.0.accepted }) (started-both p form answers f)) e

-- ---- a run

abbrev Runs : Profile → State → Type 0
Runs p s = Rests p s × (is_filled s.form ≡ true)

abbrev Where : (State → Type 0) → Option State → Type 0
Where P None = Unit {0}
Where P (Some s) = P s

exact-where : (P : State → Type 0) (answers : List Answer) (o : Outcome) → ((s : State) (q : Posted) → o ≡ accepted s q → P s) → Where P (if_exact answers o)
exact-where P answers (refused why calls) k = tt
exact-where P answers (accepted s q) k = by (are_those_of q.calls answers)
  where
    by : (b : Bool) → Where P (if b then Some s else None)
    by true = k s q refl
    by false = tt

run-where : (p : Profile) (o : Option State) (items : List Item) → Where (Runs p) o → Where (Runs p) (run_from p o items)
run-where p o [] h = h
run-where p None (item ∷ items) h = tt
run-where p (Some s) (line event answers ∷ items) h =
    run-where p (take_item p s (line event answers)) items
    (exact-where (Runs p) answers (step p s event answers)
    (λ t q e. let n = steps_rest p event answers s t q h.1 h.0 e in (n.rests, subst (λ (x : Program). is_filled x ≡ true) (sym n.form) h.1)))

where-is : (P : State → Type 0) (o : Option State) (s : State) → Where P o → o ≡ Some s → P s
where-is P None s h e = cc
where-is P (Some t) s h e = let q : t ≡ s = cc in subst P q h

runs_rest : (p : Profile) → RunsRest p
runs_rest p form answers items s f e =
    (where-is (Runs p) (run p form answers items) s
    (run-where p (if_exact answers (start p form answers)) items
    (exact-where (Runs p) answers (start p form answers)
    (λ t q i. let n = starts_rest p form answers t q f i in (n.rests, subst (λ (x : Program). is_filled x ≡ true) (sym n.form) f)))) e).0

-- ---- a state at rest

counted-all : (R : Model → Type 0) (at : ℕ → Model) (k : ℕ) (ms : List Model) → ((i : ℕ) → at (k + i) ≡ get_or ms i no_model)
    → AllOf (λ n. R (at n)) (counted_from k (length ms)) → AllOf R ms
counted-all R at k [] e h = tt
counted-all R at k (m ∷ ms) e h =
    let none : k + 0 ≡ k = omega arith in
    let here_ : at k ≡ m = ap at (sym none) ∙ e 0 in
    (subst R here_ h.0, counted-all R at (suc k) ms (λ i. let next : suc k + i ≡ k + suc i = omega arith in ap at next ∙ e (suc i)) h.1)

all-more : (Q R : ℕ → Type 0) (ns : List ℕ) → ((n : ℕ) → Q n → R n) → AllOf Q ns → AllOf R ns
all-more Q R [] f h = tt
all-more Q R (n ∷ ns) f h = (f n h.0, all-more Q R ns f h.1)

of_rest : (p : Profile) (s : State) → IsAtRest p s → Rests p s
of_rest p s h = record {
  is_due = h.is_due;
  unmarked = counted-all IsUnmarked (model_at s) 0 s.models (λ i. let q : 0 + i ≡ i = omega arith in ap (model_at s) q)
      (all-more (RestsModel p s) (λ n. IsUnmarked (model_at s n)) (counted_from 0 (length s.models)) (λ n r. record { texts = r.texts; lists = r.lists }) h.models);
  model_count = h.model_count;
  edges = h.edges;
  attached = h.attached;
  filled = h.filled;
  texts = h.texts;
  is_fresh = h.is_fresh;
}

pub step_rests : StepRests
step_rests p = record {
  changed = changes_within p;
  stepped = steps_rest p;
  started = starts_rest p;
  ran = runs_rest p;
  of_rest = of_rest p;
}
