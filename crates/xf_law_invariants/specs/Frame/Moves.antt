-- The changes of trees, each told what it may rely on: what each of them keeps, an insert, a delete and a replacement keep.
use Rattle.std.specs.Prelude.{ℕ, ◌≡◌, Bool, true, List, map, zip, Some, Ok}
use Rattle.xf_def_forest.specs.declared.content.Content.{Content}
use Rattle.xf_def_forest.specs.declared.content.Kind.TheVariants.{Element}
use Rattle.xf_def_forest.specs.Forest.{kind_at}
use Rattle.xf_def_forest.specs.Needs.{IsSettable}
use Rattle.xf_law_forests.specs.Root.Roots.{IsNoRoot}
use Rattle.xf_def_model.specs.declared.asked.DeleteAsked.{DeleteAsked}
use Rattle.xf_def_model.specs.declared.asked.InsertAsked.{InsertAsked}
use Rattle.xf_def_model.specs.Pertinent.{AllOf}
use Rattle.xf_def_model.specs.Places.{planned_insert}
use Rattle.xf_def_model.specs.Settled.{calculates}
use Rattle.xf_def_model.specs.Taken.{planned_delete}
use Rattle.xf_def_machine.specs.Behave.{model_at, recalculate}
use Rattle.xf_def_machine.specs.Construct.{replace}
use Rattle.xf_def_machine.specs.Flow.{in_turn}
use Rattle.xf_def_machine.specs.Insert.{copies_of, put_copy}
use Rattle.xf_def_machine.specs.Primitives.{attach, copy, detach, plant, set_text}
use Rattle.xf_def_machine.specs.Profile.{Profile}
use Rattle.xf_def_machine.specs.State.{State}
use Rattle.xf_law_machine.proofs.RestLemmas.Holds.{Held}
use Rattle.xf_law_invariants.specs.Frame.Base.{IsBase, IsNewElement}
use Rattle.xf_law_invariants.specs.Planned.Ready.{MayCut, MayJoin, MayReplace}

-- the changes of trees
pub record KeepsMoves (p : Profile) (first : ℕ) (Q : State → Type 0) : Type 0 where
  pub copies : (n : ℕ) (s : State) → IsNoRoot n s.forest → IsBase p first s → Q s → Held (λ q. IsBase p first q.1 → Q q.1) (copy p n s)
  pub plants : (contents : List (ℕ × Content)) (s : State) → IsNewElement s.form contents → IsBase p first s → Q s → Held (λ q. IsBase p first q.1 → Q q.1) (plant p contents s)
  pub cuts : (n : ℕ) (s : State) → MayCut n s.forest → IsBase p first s → Q s → IsBase p first (detach n s) → Q (detach n s)
  pub joins : (n parent place : ℕ) (s : State) → MayJoin n parent s.forest → IsBase p first s → Q s → Held (λ t. IsBase p first t → Q t) (attach p n parent place s)
  -- an element in place of a document element
  pub instead : (old top root place : ℕ) (s : State) → MayReplace old top root s.forest → IsBase p first s → Q s → Held (λ t. IsBase p first t → Q t) (attach p top root place (detach old s))

-- a test of states that is passed
abbrev pub IsPassed : (State → Bool) → State → Type 0
IsPassed test s = test s ≡ true

-- what the data are, and what is kept beside
abbrev pub Both : Profile → ℕ → (State → Bool) → State → Type 0
Both p first test s = IsBase p first s × IsPassed test s

-- the copies of an insert go to their places
abbrev pub InsertsKeep : Type 0
InsertsKeep = (p : Profile) (first : ℕ) (test : State → Bool) → KeepsMoves p first (IsPassed test) → (asked : InsertAsked) (s : State) (made : List ℕ × State)
    → copies_of p (map (λ q. q.origin) (planned_insert s.forest.nodes asked)) s ≡ Ok made → IsBase p first s → IsPassed test s
    → Held (Both p first test) (in_turn (put_copy p made.0) (zip (planned_insert s.forest.nodes asked) made.0) made.1)

abbrev pub DeletesKeep : Type 0
DeletesKeep = (p : Profile) (first : ℕ) (test : State → Bool) → KeepsMoves p first (IsPassed test) → (asked : DeleteAsked) (s : State) → AllOf (λ n. IsNoRoot n s.forest) asked.set → IsBase p first s → IsPassed test s
    → Held (Both p first test) (in_turn (λ m u. Ok (detach m u)) (planned_delete s.forest.nodes asked) s)

-- an element comes in place of another
abbrev pub ReplacesKeep : Type 0
ReplacesKeep = (p : Profile) (first : ℕ) (test : State → Bool) → KeepsMoves p first (IsPassed test) → (n : ℕ) (contents : List (ℕ × Content)) (s : State) → kind_at n s.forest.nodes ≡ Some Element
    → IsNewElement s.form contents → IsBase p first s → IsPassed test s → Held (Both p first test) (replace p n contents s)

pub record MoveLaws : Type 0 where
  pub inserts : InsertsKeep
  pub deletes : DeletesKeep
  pub replaces : ReplacesKeep

-- ---- texts

pub record DataLaws : Type 0 where
  pub text : (p : Profile) (first n : ℕ) (text : List ℕ) (s : State) → IsSettable n s.forest → IsBase p first s → Held (IsBase p first) (set_text p n text s)
  -- a recalculation whose calculates stand at nodes that may have a text
  pub recalculate : (p : Profile) (first model : ℕ) (s : State) → AllOf (λ e. IsSettable e.node s.forest) (calculates (model_at s model).entries) → IsBase p first s
      → Held (IsBase p first) (recalculate p model s)
