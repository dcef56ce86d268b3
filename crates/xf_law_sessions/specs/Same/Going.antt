-- A state and the same one with other numbers of nodes: what a change makes of the second is what it makes of the first, with other numbers.
-- One renumbering runs through an event, through the numbers too that it has given and those that it may yet give.
use Rattle.std.specs.Prelude.{ℕ, ◌≡◌, ◌+◌, ◌^◌, ◌<◌, ◌≤◌, List, map, Result, Ok, Err}
use Rattle.xf_def_forest.specs.declared.content.Content.{Content}
use Rattle.xf_def_forest.specs.Same.{IsRenumbering, KeepsTexts, renumbered}
use Rattle.xf_def_ui.specs.Index.{Index}
use Rattle.xf_def_machine.specs.declared.note.Note.{Note}
use Rattle.xf_def_machine.specs.Profile.{Profile}
use Rattle.xf_def_machine.specs.State.{State}
use Rattle.xf_def_machine.specs.Refusal.{Refused}
use Rattle.xf_def_machine.specs.Flow.{Run}
use Rattle.xf_def_machine.specs.Primitives.{spend, in_model, texts_due, refresh_due, set_text, copy, plant, attach, detach, with_indexes, set_case, add_note}
use Rattle.xf_def_machine.specs.Step.{fresh}
use Rattle.xf_def_machine.specs.Same.{renumbered_model, renumbered_index, renumbered_copy, IsSame}

-- ---- other numbers

-- an event gives the first state numbers from the one on, and the second from the other on
pub record Runs (p : Profile) (f : ℕ → ℕ) (first second : ℕ) : Type 0 where
  pub renumbers : IsRenumbering f
  pub keeps_texts : KeepsTexts f
  pub continues : (k : ℕ) → k ≤ p.made → f (first + k) ≡ second + k

-- the state with other numbers, where as many are given as nodes are made
abbrev pub image : (ℕ → ℕ) → ℕ → State → State
image f second s = record s {
  forest = record { nodes = map (renumbered f) s.forest.nodes; next = second + s.made };
  indexes = map (renumbered_index f) s.indexes;
  models = map (renumbered_model f) s.models;
  controls = map (renumbered_copy f) s.controls;
}

-- as many numbers are given as nodes are made
pub record Counts (p : Profile) (first : ℕ) (s : State) : Type 0 where
  pub next : s.forest.next ≡ first + s.made
  pub within : s.made ≤ p.made

-- ---- a change of both

abbrev pub imaged : (ℕ → ℕ) → ℕ → Result State Refused → Result State Refused
imaged f second (Ok s) = Ok (image f second s)
imaged f second (Err refusal) = Err refusal

abbrev pub CountsAfter : Profile → ℕ → Result State Refused → Type 0
CountsAfter p first (Ok s) = Counts p first s
CountsAfter p first (Err refusal) = Unit {0}

pub record GoesAt (p : Profile) (f : ℕ → ℕ) (first second : ℕ) (run other : Run) (s : State) : Type 0 where
  pub is : other (image f second s) ≡ imaged f second (run s)
  pub counts : CountsAfter p first (run s)

abbrev pub Goes : Profile → (ℕ → ℕ) → ℕ → ℕ → Run → Run → Type 0
Goes p f first second run other = (s : State) → Counts p first s → GoesAt p f first second run other s

-- where the top of a new tree is told
abbrev pub imaged_top : (ℕ → ℕ) → ℕ → Result (ℕ × State) Refused → Result (ℕ × State) Refused
imaged_top f second (Ok (top, s)) = Ok (f top, image f second s)
imaged_top f second (Err refusal) = Err refusal

abbrev pub CountsTop : Profile → ℕ → Result (ℕ × State) Refused → Type 0
CountsTop p first (Ok (top, s)) = Counts p first s
CountsTop p first (Err refusal) = Unit {0}

pub record MakesAt (p : Profile) (f : ℕ → ℕ) (first second : ℕ) (run other : State → Result (ℕ × State) Refused) (s : State) : Type 0 where
  pub is : other (image f second s) ≡ imaged_top f second (run s)
  pub counts : CountsTop p first (run s)

abbrev pub Makes : Profile → (ℕ → ℕ) → ℕ → ℕ → (State → Result (ℕ × State) Refused) → (State → Result (ℕ × State) Refused) → Type 0
Makes p f first second run other = (s : State) → Counts p first s → MakesAt p f first second run other s

-- ---- a state and its image

abbrev pub ImagesAreSame : Type 0
ImagesAreSame = (f : ℕ → ℕ) (second : ℕ) (s : State) → IsRenumbering f → KeepsTexts f → IsSame s (image f second s)

-- before an event no node is made
abbrev pub SameAreImages : Type 0
SameAreImages = (p : Profile) (s t : State) (h : IsSame s t) → fresh p t ≡ image h.by t.forest.next (fresh p s)

-- ---- the renumbering of an event

-- numbers of nodes stay below those that texts have in shapes, and the given ones below the next
pub record MayRun (p : Profile) (f : ℕ → ℕ) (first second : ℕ) : Type 0 where
  pub renumbers : IsRenumbering f
  pub keeps_texts : KeepsTexts f
  pub low : (n : ℕ) → n < 2 ^ 128 → f n < 2 ^ 128
  pub below : (n : ℕ) → n < first → f n < second
  pub first_fits : first + p.made < 2 ^ 128
  pub second_fits : second + p.made < 2 ^ 128

-- one that agrees with it on all numbers that were given
pub record Extended (p : Profile) (f : ℕ → ℕ) (first second : ℕ) : Type 0 where
  pub by : ℕ → ℕ
  pub runs : Runs p by first second
  pub agrees : (n : ℕ) → n < first → by n ≡ f n

abbrev pub Extends : Type 0
Extends = (p : Profile) (f : ℕ → ℕ) (first second : ℕ) → MayRun p f first second → Extended p f first second

-- ---- each change

pub record GoingLaws (p : Profile) (f : ℕ → ℕ) (first second : ℕ) : Type 0 where
  pub spend : Goes p f first second spend spend
  pub add_note : (note : Note) → Goes p f first second (add_note p note) (add_note p note)
  pub set_case : (switch place : ℕ) → Goes p f first second (λ s. Ok (set_case switch place s)) (λ s. Ok (set_case switch place s))
  pub indexes : (indexes : List Index) → Goes p f first second (λ s. Ok (with_indexes indexes s)) (λ s. Ok (with_indexes (map (renumbered_index f) indexes) s))
  pub refresh_due : (model : ℕ) → Goes p f first second (λ s. Ok (in_model refresh_due model s)) (λ s. Ok (in_model refresh_due model s))
  pub texts_due : (model : ℕ) → Goes p f first second (λ s. Ok (in_model texts_due model s)) (λ s. Ok (in_model texts_due model s))
  pub set_text : (n : ℕ) (text : List ℕ) → Goes p f first second (set_text p n text) (set_text p (f n) text)
  pub copy : (n : ℕ) → Makes p f first second (copy p n) (copy p (f n))
  pub plant : (contents : List (ℕ × Content)) → Makes p f first second (plant p contents) (plant p contents)
  pub attach : (n parent place : ℕ) → Goes p f first second (attach p n parent place) (attach p (f n) (f parent) place)
  pub detach : (n : ℕ) → Goes p f first second (λ s. Ok (detach n s)) (λ s. Ok (detach (f n) s))

pub record ChangeLaws : Type 0 where
  pub images : ImagesAreSame
  pub same : SameAreImages
  pub extends : Extends
  pub goes : (p : Profile) (f : ℕ → ℕ) (first second : ℕ) → Runs p f first second → GoingLaws p f first second

abbrev pub ChangesGo : Type 0
ChangesGo = ChangeLaws
