-- The changes that all changes of the form machine are made of, each told what it may rely on: what each of them keeps, an event keeps.
use Rattle.std.specs.Prelude.{ℕ, ◌≡◌, Bool, true, List, [], map, zip, Some, None, Ok}
use Rattle.xf_name.specs.declared.lit.Lit.{Lit}
use Rattle.xf_json.specs.Element.{lit_in}
use Rattle.xf_line.specs.declared.event.Event.{Event}
use Rattle.xf_store.specs.declared.answers.Answer.{Answer}
use Rattle.xf_store.specs.declared.call.Asked.{Asked}
use Rattle.xf_def_forest.specs.declared.content.Content.{Content}
use Rattle.xf_def_forest.specs.declared.content.Kind.TheVariants.{Element}
use Rattle.xf_def_forest.specs.Forest.{kind_at}
use Rattle.xf_def_forest.specs.Needs.{IsSettable}
use Rattle.xf_def_forest.specs.Plant.{contents_of}
use Rattle.xf_def_forest.specs.Planted.{lit_fault}
use Rattle.xf_law_forests.specs.Root.Roots.{IsNoRoot}
use Rattle.xf_def_model.specs.declared.asked.DeleteAsked.{DeleteAsked}
use Rattle.xf_def_model.specs.declared.asked.InsertAsked.{InsertAsked}
use Rattle.xf_def_model.specs.Places.{planned_insert}
use Rattle.xf_def_model.specs.Taken.{planned_delete}
use Rattle.xf_def_model.specs.Pertinent.{AllOf}
use Rattle.xf_def_ui.specs.Cases.{place_of_case}
use Rattle.xf_def_ui.specs.Copies.{Copy}
use Rattle.xf_def_ui.specs.Elements.{element_at}
use Rattle.xf_def_machine.specs.declared.note.Note.{Note}
use Rattle.xf_def_machine.specs.Behave.{rebuild, recalculate, revalidate}
use Rattle.xf_def_machine.specs.Choose.{switch_number, set_index}
use Rattle.xf_def_machine.specs.Construct.{construct, first_contents, replace}
use Rattle.xf_def_machine.specs.Exchange.{with_call}
use Rattle.xf_def_machine.specs.Flow.{◌>>=◌, in_turn}
use Rattle.xf_def_machine.specs.Insert.{copies_of, put_copy}
use Rattle.xf_def_machine.specs.Primitives.{detach, in_model, refresh_due, set_case, set_text}
use Rattle.xf_def_machine.specs.Profile.{Profile}
use Rattle.xf_def_machine.specs.Program.{Program}
use Rattle.xf_def_machine.specs.Start.{tell_models}
use Rattle.xf_def_machine.specs.State.{State}
use Rattle.xf_def_machine.specs.Step.{changed_by}
use Rattle.xf_def_machine.specs.Surround.{document_at}
use Rattle.xf_def_machine.specs.Update.{all_cleared, refresh_cleared, reindex, shown}
use Rattle.xf_law_machine.specs.Behaviours.Chain.{NoRebuild, NoneBefore}
use Rattle.xf_law_machine.proofs.RestLemmas.FlagLaws.{CalmAt, IsCalm}
use Rattle.xf_law_machine.proofs.RestLemmas.Holds.{Held}
use Rattle.xf_law_invariants.specs.Whole.Cases.{IsToggled}
use Rattle.xf_law_invariants.specs.Frame.Base.{AreBound, IsBase, IsNewElement}

-- the indexes were just brought up to date
pub record IsBrought (p : Profile) (s : State) : Type 0 where
  pub before : State
  pub brought : reindex p [] before ≡ Ok s

-- the changes that all others are made of
pub record KeepsEach (p : Profile) (form : Program) (first : ℕ) (P : State → Type 0) : Type 0 where
  -- no change takes another form
  pub same : (s : State) → P s → s.form ≡ form
  pub base : (s : State) → P s → IsBase p first s
  pub turns : (left : ℕ) (s : State) → P s → P (record s { turns = left })
  pub notes : (notes : List Note) (s : State) → P s → P (record s { notes = notes })
  pub calls : (name : List ℕ) (asked : Asked) (answer : Answer) (s : State) → P s → P (with_call name asked answer s)
  pub brought : (s : State) → P s → Held P (reindex p [] s)
  pub index_set : (model r n : ℕ) (s : State) → P s → Held P (set_index p model r n s)
  pub case_set : (model one parent : ℕ) (s : State) → IsToggled form one → (element_at form.interface one).parent ≡ Some parent → P s
      → P (in_model refresh_due model (set_case (switch_number (element_at form.interface parent).sort) (place_of_case form.interface parent one) s))
  -- a text is set at an attribute, or an element without element children
  pub text : (n : ℕ) (text : List ℕ) (s : State) → IsSettable n s.forest → P s → Held P (set_text p n text s)
  -- the copies that an insert made go to their places, and the indexes follow
  pub inserted : (asked : InsertAsked) (s : State) (made : List ℕ × State) → copies_of p (map (λ q. q.origin) (planned_insert s.forest.nodes asked)) s ≡ Ok made → P s
      → Held P (in_turn (put_copy p made.0) (zip (planned_insert s.forest.nodes asked) made.0) made.1 >>= reindex p made.0)
  pub deleted : (asked : DeleteAsked) (s : State) → AllOf (λ n. IsNoRoot n s.forest) asked.set → P s
      → Held P (in_turn (λ m u. Ok (detach m u)) (planned_delete s.forest.nodes asked) s)
  -- an element comes in place of another
  pub replaced : (n : ℕ) (contents : List (ℕ × Content)) (s : State) → kind_at n s.forest.nodes ≡ Some Element → IsNewElement s.form contents → P s → Held P (replace p n contents s)
  pub rebuild : (model : ℕ) (s : State) → P s → Held P (rebuild p model s)
  pub recalculate : (model : ℕ) (s : State) → NoRebuild model s → P s → Held P (recalculate p model s)
  pub revalidate : (model : ℕ) (s : State) → NoneBefore model s → P s → P (revalidate p model s)
  -- the controls are those of now
  pub cleared : (model : ℕ) (list : List Copy) (s : State) → CalmAt model s → IsBrought p s → shown p s ≡ Ok list → P s → P (refresh_cleared model (record s { controls = list }))
  pub all_cleared : (list : List Copy) (s : State) → AllOf IsCalm s.models → IsBrought p s → shown p s ≡ Ok list → P s → P (all_cleared (record s { controls = list }))
  -- the response of a store as a tree, and what a reset puts back, is an element
  pub response : (bytes : List ℕ) (lit : Lit) (s : State) → lit_in bytes ≡ Ok lit → lit_fault s.form.bindings lit ≡ None → P s → IsNewElement s.form (contents_of s.form.bindings lit 0 0)
  pub built : (place n : ℕ) (s : State) → document_at s place ≡ Some n → P s → IsNewElement s.form (first_contents (construct p s.form) place)

-- what each change keeps is so after an event from outside, where the controls bind nodes that stand: here of a test of states
abbrev pub EventsKeep : Type 0
EventsKeep = (p : Profile) (answers : List Answer) (form : Program) (first : ℕ) (test : State → Bool) → KeepsEach p form first (λ s. test s ≡ true) → (event : Event) (s t : State) → AreBound s
    → test s ≡ true → changed_by p answers event s ≡ Ok t → test t ≡ true

-- and after the events of a start
abbrev pub StartsKeep : Type 0
StartsKeep = (p : Profile) (answers : List Answer) (form : Program) (first : ℕ) (test : State → Bool) → KeepsEach p form first (λ s. test s ≡ true) → (name : List ℕ) (s t : State)
    → test s ≡ true → tell_models p answers name s ≡ Ok t → test t ≡ true

pub record FrameLaws : Type 0 where
  pub changed : EventsKeep
  pub told : StartsKeep
