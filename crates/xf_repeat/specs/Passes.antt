-- Passes over the indexes of all repeats, as they are made in place.
use Rattle.std.specs.Prelude.{ℕ, ◌≡◌, ◌⊎◌, Bool, not, List, Option, Some, None, Result, Ok, Err}
use Rattle.xf_def_forest.specs.Visit as visit
use Rattle.xf_graph.specs.Edges as graph
use Rattle.xf_def_xpath.specs.declared.fault.EvalFault.{EvalFault}
use Rattle.xf_def_xpath.specs.declared.fault.EvalFault.TheVariants as fault
use Rattle.xf_def_xpath.specs.Setting.{◌>>=◌}
use Rattle.xf_def_ui.specs.Around.{Around}
use Rattle.xf_def_ui.specs.Index.{Index, Pass, Stop, begins_anew, index_of, long, passed, passes, rows_now, ruled, same_indexes}
use Rattle.xf_def_ui.specs.Interface.{Interface}
use Rattle.xf_repeat.specs.declared.fault.IndexFault.{IndexFault}
use Rattle.xf_repeat.specs.declared.fault.IndexFault.TheVariants.{Long, Passes, Memory}

abbrev pub stopped : EvalFault → IndexFault
stopped fault.Long = Long
stopped fault.Memory = Memory

-- the indexes are those that were brought up, or it was stopped for this cause
abbrev pub BringsUp : {X : Type 0} → Result X IndexFault → List Index → Result (List Index) Stop → Type 0
BringsUp (Ok x) indexes given = given ≡ Ok indexes
BringsUp (Err Long) indexes given = given ≡ Err long
BringsUp (Err Passes) indexes given = given ≡ Err passes
BringsUp (Err Memory) indexes given = Unit {0}

-- the indexes, and whether any is another than it was
abbrev pub moved_from : List Index → List Index → List Index × Bool
moved_from before after = (after, not (same_indexes before after))

-- ---- one repeat

-- so far a pass has come: the indexes are these, and the repeats in which those inside start anew are these, in any order
pub record IsAt (indexes : List Index) (restarted : List ℕ) (s : Pass) : Type 0 where
  pub indexed : s.indexes ≡ indexes
  pub noted : (n : ℕ) → graph.has restarted n ≡ visit.has n s.restarted

-- a repeat has its new index
abbrev pub stepped : Interface → Around → List ℕ → ℕ → Pass → Option Pass
stepped f a added r s = do
  rows ← rows_now f a s.indexes r
  Some (passed f r rows s (ruled (begins_anew f s r) rows (index_of f s.indexes r) added))

abbrev pub IsAtPass : List Index → List ℕ → Option Pass → Type 0
IsAtPass indexes restarted None = ⊥
IsAtPass indexes restarted (Some s) = IsAt indexes restarted s

-- the pass has come so far, or a string was too long
abbrev pub Steps : {X : Type 0} → Result X EvalFault → List Index → List ℕ → Option Pass → Type 0
Steps (Ok x) indexes restarted given = IsAtPass indexes restarted given
Steps (Err e) indexes restarted given = (e ≡ fault.Memory) ⊎ ((e ≡ fault.Long) × (given ≡ None))
