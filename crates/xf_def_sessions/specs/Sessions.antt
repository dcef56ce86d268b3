-- The state of a session: the form that it has by now, the state of the form machine, and what may be undone. And its data, by which it is kept.
use Rattle.std.specs.Prelude.{ℕ, suc, ◌≤◌, ◌*◌, ◌^◌, Bool, List, [], map, length, Option, option_and_then}
use Rattle.std.specs.List.{filter_map}
use Rattle.xf_def_forest.specs.declared.bare.Bare.{Bare}
use Rattle.xf_def_forest.specs.Literal.{bare_of}
use Rattle.xf_snap.specs.declared.snap.Snap.{Snap}
use Rattle.xf_def_machine.specs.Profile.{Profile}
use Rattle.xf_def_machine.specs.Program.{Program}
use Rattle.xf_def_machine.specs.State.{State}
use Rattle.xf_def_machine.specs.Surround.{instances_in, document_at}
use Rattle.xf_def_machine.specs.Cycles.{counted_from}
use Rattle.xf_def_machine.specs.AtRest.{IsAtRest}

-- what sessions are given: the profile of the form machine, the form that bytes are, and whether it asks for what was done to be undone
pub record Machine : Type 0 where
  pub profile : Profile
  pub form_in : List ℕ → Option Program
  pub keeps_past : List ℕ → Bool

-- ---- the data of a state

-- the tree of an instance's document element, with resolved names and without the numbers of nodes
abbrev pub document_tree : State → ℕ → Option Bare
document_tree s place = option_and_then (λ n. bare_of n s.forest.nodes) (document_at s place)

-- a snapshot of a state: all else that it has can be made of this again
unfoldable pub snap_of : State → Snap
snap_of s = record {
  accepted = s.accepted;
  documents = filter_map (document_tree s) (counted_from 0 (length (instances_in s)));
  indexes = map (λ i. i.index) s.indexes;
  cases = s.cases;
}

-- ---- the states of sessions

-- the numbers of its nodes are small: a start gives at most 2^34 of them, and so does each accepted event
abbrev pub HasRoom : State → Type 0
HasRoom s = s.forest.next ≤ 2 ^ 34 * suc s.accepted

-- a state to which a session may come
pub record IsSessionState (p : Profile) (s : State) : Type 0 where
  pub rest : IsAtRest p s
  pub room : HasRoom s

-- ---- a session

pub record Session : Type 0 where
  -- the bytes of its form, and how often that was changed for another
  pub form : List ℕ
  pub adoptions : ℕ
  pub state : State
  -- what may be undone, the last thing last, and what may be done again
  pub past : List Snap
  pub future : List Snap

-- what of a session is kept
pub record Kept : Type 0 where
  pub form : List ℕ
  pub adoptions : ℕ
  pub snap : Snap

abbrev pub kept_of : Session → Kept
kept_of s = record { form = s.form; adoptions = s.adoptions; snap = snap_of s.state }

-- nothing was done yet
abbrev pub fresh_session : List ℕ → ℕ → State → Session
fresh_session form adoptions state = record { form = form; adoptions = adoptions; state = state; past = []; future = [] }
