-- Each change keeps the chain of the behaviours that are due.
use Rattle.std.proofs.Common.{ℕ, zero, suc, ◌≡◌, ◌+◌, false, List, [], ◌∷◌, ◌++◌, map, filter, length, nat_lt, get_or, Option, Some, None, Result, Ok, Err, refl, subst}
use Rattle.xf_def_forest.specs.declared.fault.TreeFault.{TreeFault}
use Rattle.xf_def_forest.specs.Forest.{Forest}
use Rattle.xf_def_forest.specs.Visit.{parent_of, visits}
use Rattle.xf_def_forest.specs.Shape.{shape, shape_of}
use Rattle.xf_def_forest.specs.Limits.{passed_by_text, unless}
use Rattle.xf_def_forest.specs.Changes.{attached}
use Rattle.xf_def_forest.specs.Texts.{with_text, new_texts}
use Rattle.xf_def_model.specs.Applied.{Entry, Exception, applied}
use Rattle.xf_def_model.specs.Entries.{edge_count}
use Rattle.xf_def_model.specs.Circular.{Reader}
use Rattle.xf_def_model.specs.Pertinent.{AllOf, pertinent_count}
use Rattle.xf_def_model.specs.Settled.{Valued, calculates, settled_contents, values_over, passed}
use Rattle.xf_def_ui.specs.Index.{Index, Stop, brought_up}
use Rattle.xf_def_machine.specs.declared.limit.LimitWord.{LimitWord}
use Rattle.xf_def_machine.specs.declared.limit.LimitWord.TheVariants.{Edges, Notes}
use Rattle.xf_def_machine.specs.declared.note.Note.{Note}
use Rattle.xf_def_machine.specs.NoteLines.{notes_size}
use Rattle.xf_def_machine.specs.Profile.{Profile}
use Rattle.xf_def_machine.specs.State.{Model, State}
use Rattle.xf_def_machine.specs.Refusal.{Refused, word_of, unless_passed, if_over}
use Rattle.xf_def_machine.specs.Flow.{◌>>=◌}
use Rattle.xf_def_machine.specs.Surround.{interface, bind_scope, all_in, model_holding, quiet}
use Rattle.xf_def_machine.specs.Primitives.{spent_from, changed_at, in_model, in_some_model, all_due, texts_due, refresh_due, with_text_mark, with_list_mark, list_changed, with_forest, with_indexes, grown, grown_to, over_made, is_other_text, if_other, set_text, detach, add_note}
use Rattle.xf_def_machine.specs.Behave.{no_model, model_at, asked_by_all, rebuilt_with, unless_cycle, no_cycle, by_applied, changes_of, with_contents, recalculated_with, settled_in, evaluated_more, recalculate, is_invalid, revalidated_with, revalidate}
use Rattle.xf_def_machine.specs.Update.{with_brought}
use Rattle.xf_law_machine.specs.Behaviours.Chain.{IsChained, AreChained, ChainLaws}

abbrev Chained : Model → Type 0
Chained m = IsChained m.flags

-- ---- of one model

pub all_due-chained : (m : Model) → Chained (all_due m)
all_due-chained m = record { rebuild = λ h. refl; recalculate = λ h. refl; revalidate = λ h. refl }

pub texts_due-chained : (m : Model) → Chained (texts_due m)
texts_due-chained m = record { rebuild = λ h. refl; recalculate = λ h. refl; revalidate = λ h. refl }

pub refresh_due-chained : (m : Model) → Chained m → Chained (refresh_due m)
refresh_due-chained m c = record { rebuild = c.rebuild; recalculate = c.recalculate; revalidate = λ h. refl }

-- ---- of all models

pub changed-chained : (change : Model → Model) (k : ℕ) (ms : List Model)
    → ((m : Model) → Chained m → Chained (change m)) → AllOf Chained ms → AllOf Chained (changed_at k change ms)
changed-chained change k [] f h = h
changed-chained change zero (m ∷ ms) f h = (f m h.0, h.1)
changed-chained change (suc k) (m ∷ ms) f h = (h.0, changed-chained change k ms f h.1)

-- where the model that is changed is known
pub known-chained : (change : Model → Model) (k : ℕ) (ms : List Model)
    → (Chained (get_or ms k no_model) → Chained (change (get_or ms k no_model))) → AllOf Chained ms → AllOf Chained (changed_at k change ms)
known-chained change k [] f h = h
known-chained change zero (m ∷ ms) f h = (f h.0, h.1)
known-chained change (suc k) (m ∷ ms) f h = (h.0, known-chained change k ms f h.1)

pub some-chained : (change : Model → Model) (o : Option ℕ) (s : State)
    → ((m : Model) → Chained m → Chained (change m)) → AreChained s → AreChained (in_some_model change o s)
some-chained change None s f h = h
some-chained change (Some k) s f h = changed-chained change k s.models f h

-- ---- of a change that may be refused

abbrev fine : State → Result State Refused
fine s = Ok s

ends : {t : State} (s : State) → AreChained s → fine s ≡ Ok t → AreChained t
ends {t} s h e = let q : s ≡ t = cc in subst (λ (u : State). AreChained u) q h

spent-chained : (k : ℕ) (s t : State) → AreChained s → spent_from k s ≡ Ok t → AreChained t
spent-chained zero s t h e = cc
spent-chained (suc left) s t h e = ends (record s { turns = left }) h e

passed-chained : (words : List LimitWord) (s u t : State) → AreChained u → unless_passed s words u ≡ Ok t → AreChained t
passed-chained [] s u t h e = ends u h e
passed-chained (word ∷ words) s u t h e = cc

grown_past-chained : (words : List LimitWord) (forest : Forest) (s u t : State)
    → AreChained u → grown_to (unless_passed s words (forest, u)) ≡ Ok t → AreChained t
grown_past-chained [] forest s u t h e = ends (with_forest forest u) h e
grown_past-chained (word ∷ words) forest s u t h e = cc

grown-chained : (p : Profile) (count : ℕ) (r : Result Forest TreeFault) (s t : State)
    → AreChained s → grown_to (grown p count r s) ≡ Ok t → AreChained t
grown-chained p count (Err fault) s t h e = cc
grown-chained p count (Ok forest) s t h e = grown_past-chained (over_made p (s.made + count)) forest s (record s { made = s.made + count }) t h e

list-chained : (o : Option ℕ) (s : State) → AreChained s → AreChained (list_changed o s)
list-chained None s h = h
list-chained (Some parent) s h = some-chained _ (model_holding s parent) s (λ m c. all_due-chained (with_list_mark parent m)) h

brought-chained : (r : Result (List Index) Stop) (s t : State) → AreChained s → with_brought s r ≡ Ok t → AreChained t
brought-chained (Err stop) s t h e = cc
brought-chained (Ok indexes) s t h e = ends (with_indexes indexes s) h e

-- ---- of the behaviours

rebuilt-chained : (entries : List Entry) (asked : ℕ) (m : Model) → Chained m → Chained (rebuilt_with entries asked m)
rebuilt-chained entries asked m c = record { rebuild = λ h. cc; recalculate = c.recalculate; revalidate = c.revalidate }

cycle-chained : (before : State) (readers : List Reader) (o : Option (List ℕ)) (s t : State)
    → AreChained s → unless_cycle before readers o s ≡ Ok t → AreChained t
cycle-chained before readers None s t h e = ends s h e
cycle-chained before readers (Some places) s t h e = cc

edges-chained : (p : Profile) (model : ℕ) (entries : List Entry) (words : List LimitWord) (u t : State)
    → AreChained u → unless_passed u words u >>= no_cycle p model entries ≡ Ok t → AreChained t
edges-chained p model entries [] u t h e = cycle-chained u _ _ u t h e
edges-chained p model entries (word ∷ words) u t h e = cc

applied-chained : (p : Profile) (model : ℕ) (r : Result (List Entry) Exception) (s t : State)
    → AreChained s → by_applied p model r s ≡ Ok t → AreChained t
applied-chained p model (Err x) s t h e = cc
applied-chained p model (Ok entries) s t h e =
    let change = rebuilt_with entries (edge_count (bind_scope p s model) (shape_of s.forest.nodes) entries) in
    let after = in_model change model s in
    edges-chained p model entries (if_over (nat_lt p.edges (asked_by_all after)) Edges) after t
    (changed-chained change model s.models (rebuilt-chained entries (edge_count (bind_scope p s model) (shape_of s.forest.nodes) entries)) h) e

recalculated-chained : (values : List Valued) (m : Model) → m.flags.rebuild ≡ false → Chained m → Chained (recalculated_with values m)
recalculated-chained values m q c = record { rebuild = λ h. cc; recalculate = λ h. cc; revalidate = c.revalidate }

settled-chained : (words : List LimitWord) (s t : State) (after : State → State)
    → AreChained (after s) → unless_passed s words s >>= (λ u. Ok (after u)) ≡ Ok t → AreChained t
settled-chained [] s t after h e = ends (after s) h e
settled-chained (word ∷ words) s t after h e = cc

revalidated-chained : (ns : List ℕ) (m : Model) → m.flags.recalculate ≡ false → Chained m → Chained (revalidated_with ns m)
revalidated-chained ns m q c = record { rebuild = c.rebuild; recalculate = λ h. cc; revalidate = λ h. cc }

-- ---- all of them

text-chained : (p : Profile) (n : ℕ) (text : List ℕ) (s t : State) → AreChained s → set_text p n text s ≡ Ok t → AreChained t
text-chained p n text s t h e =
    let after = with_text n text s.forest in
    let change = λ (m : Model). texts_due (if_other (is_other_text s n text) (with_text_mark n) m) in
    grown-chained p (length (new_texts n text s.forest)) (unless (passed_by_text p.bounds.limits (length text) after.nodes) after)
    (in_some_model change (model_holding s n) s) t
    (some-chained change (model_holding s n) s (λ m c. texts_due-chained (if_other (is_other_text s n text) (with_text_mark n) m)) h) e

note-chained : (p : Profile) (note : Note) (s t : State) → AreChained s → add_note p note s ≡ Ok t → AreChained t
note-chained p note s t h e =
    let notes = s.notes ++ note ∷ [] in
    passed-chained (if_over (nat_lt p.notes (notes_size notes)) Notes) s (record s { notes = notes }) t h e

recalculate-chained : (p : Profile) (model : ℕ) (s t : State)
    → (model_at s model).flags.rebuild ≡ false → AreChained s → recalculate p model s ≡ Ok t → AreChained t
recalculate-chained p model s t q h e =
    let m = model_at s model in
    let made = length (calculates m.entries) in
    let count = pertinent_count (bind_scope p s model) (shape (all_in s)) m.entries (changes_of m) in
    let contents = settled_contents p.bounds (bind_scope p s model) m.entries (all_in s) in
    let values = values_over p.bounds (bind_scope p s model) m.entries (visits (with_contents s.forest.next contents s.forest.nodes)) in
    settled-chained (map word_of (passed p.bounds (bind_scope p s model) m.entries (all_in s)) ++ over_made p (s.made + made)) s t
    (λ u. evaluated_more made count (settled_in p model m.entries contents u))
    (known-chained (recalculated_with values) model s.models (recalculated-chained values m q) h) e

revalidate-chained : (p : Profile) (model : ℕ) (s : State) → (model_at s model).flags.recalculate ≡ false → AreChained s → AreChained (revalidate p model s)
revalidate-chained p model s q h =
    let ns = map (λ x. x.number) (filter (is_invalid p model s) (all_in s)) in
    known-chained (revalidated_with ns) model s.models (revalidated-chained ns (model_at s model) q) h

pub chain_laws : (p : Profile) → ChainLaws p
chain_laws p = record {
  spend = λ s t h e. spent-chained s.turns s t h e;
  set_text = λ n text s t h e. text-chained p n text s t h e;
  attach = λ n parent place s t h e.
      grown-chained p 0 (attached p.bounds.limits n parent place s.forest) (list_changed (Some parent) s) t (list-chained (Some parent) s h) e;
  detach = λ n s t h e. ends (detach n s) (list-chained (parent_of n (all_in s)) s h) e;
  add_note = λ note s t h e. note-chained p note s t h e;
  refresh_due = λ model s t h e. ends (in_model refresh_due model s) (changed-chained refresh_due model s.models refresh_due-chained h) e;
  reindex = λ added s t h e. brought-chained (brought_up p.passes (interface s) (quiet p s) added s.indexes) s t h e;
  rebuild = λ model s t h e. applied-chained p model (applied (bind_scope p s model) s.forest.nodes) s t h e;
  recalculate = λ model s t q h e. recalculate-chained p model s t q h e;
  revalidate = λ model s t q h e. ends (revalidate p model s) (revalidate-chained p model s q.recalculate h) e;
}
