-- States that are the same but for the numbers of nodes stay so.
use Rattle.std.proofs.Common.{ℕ, zero, suc, ◌≡◌, List, [], ◌∷◌, ◌++◌, map, nat_lt, slice_set, Result, Ok, refl, ap, ◌∙◌, subst}
use Rattle.xf_def_machine.specs.declared.limit.LimitWord.{LimitWord}
use Rattle.xf_def_machine.specs.declared.limit.LimitWord.TheVariants.{Notes}
use Rattle.xf_def_machine.specs.declared.note.Note.{Note}
use Rattle.xf_def_machine.specs.NoteLines.{notes_size}
use Rattle.xf_def_machine.specs.Profile.{Profile}
use Rattle.xf_def_machine.specs.State.{Model, State}
use Rattle.xf_def_machine.specs.Refusal.{Refused, budget, limit, unless_passed, if_over}
use Rattle.xf_def_machine.specs.Primitives.{spend, spent_from, changed_at, in_model, texts_due, refresh_due, set_case, add_note}
use Rattle.xf_def_machine.specs.Same.{IsSame, renumbered_model}
use Rattle.xf_law_machine.specs.Behaviours.Renumbered.{AreSame, KeepsSame, SameLaws}

-- ---- turns and notes

turns-same : (left : ℕ) (s t : State) → IsSame s t → IsSame (record s { turns = left }) (record t { turns = left })
turns-same left s t h = record {
  by = h.by;
  renumbers = h.renumbers;
  keeps_texts = h.keeps_texts;
  form = h.form;
  nodes = h.nodes;
  indexes = h.indexes;
  cases = h.cases;
  models = h.models;
  controls = h.controls;
  accepted = h.accepted;
  notes = h.notes;
  turns = refl;
  made = h.made;
  evaluated = h.evaluated;
  calls = h.calls;
}

spent-same : (k : ℕ) (s t : State) → IsSame s t → AreSame (spent_from k s) (spent_from k t)
spent-same zero s t h = ap (λ calls. record { why = budget; calls = calls }) h.calls
spent-same (suc left) s t h = turns-same left s t h

spend-same : KeepsSame spend
spend-same s t h = subst (λ (k : ℕ). AreSame (spent_from s.turns s) (spent_from k t)) h.turns (spent-same s.turns s t h)

notes-same : (notes : List Note) (s t : State) → IsSame s t → IsSame (record s { notes = notes }) (record t { notes = notes })
notes-same notes s t h = record {
  by = h.by;
  renumbers = h.renumbers;
  keeps_texts = h.keeps_texts;
  form = h.form;
  nodes = h.nodes;
  indexes = h.indexes;
  cases = h.cases;
  models = h.models;
  controls = h.controls;
  accepted = h.accepted;
  notes = refl;
  turns = h.turns;
  made = h.made;
  evaluated = h.evaluated;
  calls = h.calls;
}

passed-same : (words : List LimitWord) (s t u v : State) → IsSame s t → IsSame u v → AreSame (unless_passed s words u) (unless_passed t words v)
passed-same [] s t u v h k = k
passed-same (word ∷ words) s t u v h k = ap (λ calls. record { why = limit (word ∷ words); calls = calls }) h.calls

abbrev noted : Profile → List Note → State → Result State Refused
noted p notes s = unless_passed s (if_over (nat_lt p.notes (notes_size notes)) Notes) (record s { notes = notes })

note-same : (p : Profile) (note : Note) → KeepsSame (add_note p note)
note-same p note s t h =
    let notes = s.notes ++ note ∷ [] in
    subst (λ (old : List Note). AreSame (noted p notes s) (noted p (old ++ note ∷ []) t)) h.notes
    (passed-same (if_over (nat_lt p.notes (notes_size notes)) Notes) s t (record s { notes = notes }) (record t { notes = notes }) h (notes-same notes s t h))

-- ---- cases and flags

case-same : (switch place : ℕ) → KeepsSame (λ s. Ok (set_case switch place s))
case-same switch place s t h = record {
  by = h.by;
  renumbers = h.renumbers;
  keeps_texts = h.keeps_texts;
  form = h.form;
  nodes = h.nodes;
  indexes = h.indexes;
  cases = ap (λ cases. slice_set cases switch place) h.cases;
  models = h.models;
  controls = h.controls;
  accepted = h.accepted;
  notes = h.notes;
  turns = h.turns;
  made = h.made;
  evaluated = h.evaluated;
  calls = h.calls;
}

changed-map : (f change : Model → Model) (k : ℕ) (ms : List Model)
    → ((m : Model) → f (change m) ≡ change (f m)) → map f (changed_at k change ms) ≡ changed_at k change (map f ms)
changed-map f change k [] e = refl
changed-map f change zero (m ∷ ms) e = ap (λ x. x ∷ map f ms) (e m)
changed-map f change (suc k) (m ∷ ms) e = ap (λ xs. f m ∷ xs) (changed-map f change k ms e)

model-same : (change : Model → Model) (k : ℕ) (s t : State) (h : IsSame s t)
    → ((m : Model) → renumbered_model h.by (change m) ≡ change (renumbered_model h.by m)) → IsSame (in_model change k s) (in_model change k t)
model-same change k s t h e = record {
  by = h.by;
  renumbers = h.renumbers;
  keeps_texts = h.keeps_texts;
  form = h.form;
  nodes = h.nodes;
  indexes = h.indexes;
  cases = h.cases;
  models = changed-map (renumbered_model h.by) change k s.models e ∙ ap (λ ms. changed_at k change ms) h.models;
  controls = h.controls;
  accepted = h.accepted;
  notes = h.notes;
  turns = h.turns;
  made = h.made;
  evaluated = h.evaluated;
  calls = h.calls;
}

-- ---- all of them

pub same_laws : (p : Profile) → SameLaws p
same_laws p = record {
  spend = spend-same;
  add_note = note-same p;
  set_case = case-same;
  refresh_due = λ model s t h. model-same refresh_due model s t h (λ m. refl);
  texts_due = λ model s t h. model-same texts_due model s t h (λ m. refl);
}
