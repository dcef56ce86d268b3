-- A forest as it was kept and as it stands.
use Rattle.std.specs.Prelude.{ℕ, ◌≡◌, ◌<◌, ◌≤◌, false, List, [], ◌∷◌, ◌++◌, Result, Ok, Err}
use Rattle.xf_def_forest.specs.declared.fault.TreeFault.{TreeFault}
use Rattle.xf_def_forest.specs.Forest.{Forest}
use Rattle.xf_def_forest.specs.Visit.{has}
use Rattle.xf_def_forest.specs.Texts.{Keeping, Before}
use Rattle.xf_def_forest.specs.Settle.{reserved, IsFree, with_numbered_text}
use Rattle.xf_def_forest.specs.Undo.{Ledger, rolled_back}
use Rattle.xf_law_forests.specs.Rollback.Made.{Made}

pub record Draft : Type 0 where
  pub kept : Forest
  pub now : Forest
  -- the first of the numbers that were reserved, up to the next number, and those of them that were used
  pub first : ℕ
  pub used : List ℕ

-- no number is reserved
abbrev pub plain : Forest → Forest → Draft
plain kept now = record { kept = kept; now = now; first = now.next; used = [] }

-- what is kept as it stands
abbrev pub kept_as : Forest → Draft
kept_as forest = plain forest forest

-- after a change, which gives up the numbers that were reserved
abbrev pub changed : Draft → Forest → Draft
changed d forest = plain d.kept forest

-- a forest without kept texts
abbrev pub alone : Forest → Keeping
alone forest = record { forest = forest; kept = [] }

-- ---- the draft after a change of the forest, or the refusal

abbrev pub with_text : Draft → Result (Before × Keeping) TreeFault → Result Draft TreeFault
with_text d (Ok p) = Ok (changed d p.1.forest)
with_text d (Err fault) = Err fault

abbrev pub with_forest : Draft → Result Forest TreeFault → Result Draft TreeFault
with_forest d (Ok forest) = Ok (changed d forest)
with_forest d (Err fault) = Err fault

abbrev pub with_tree : Draft → Result (ℕ × Forest) TreeFault → Result (ℕ × Draft) TreeFault
with_tree d (Ok p) = Ok (p.0, changed d p.1)
with_tree d (Err fault) = Err fault

-- ---- numbers that are reserved, and texts that have them

-- so many numbers are reserved, and those that were before are given up
abbrev pub with_reserved : ℕ → Draft → Draft
with_reserved count d = record { kept = d.kept; now = reserved count d.now; first = d.now.next; used = [] }

-- a number that was reserved and not used
pub record IsUnused (number : ℕ) (d : Draft) : Type 0 where
  pub least : d.first ≤ number
  pub less : number < d.now.next
  pub unused : has number d.used ≡ false

-- with a text at a node, which has this number where it is an element's
abbrev pub with_settled : ℕ → ℕ → List ℕ → Draft → Draft
with_settled number n text d = record d { now = record d.now { nodes = with_numbered_text number n text d.now.nodes }; used = d.used ++ number ∷ [] }

-- ---- a ledger and a forest

-- what the ledger gives back, the forest, and the numbers that are reserved
abbrev pub draft_of : Ledger → Keeping → ℕ → List ℕ → Draft
draft_of l k first used = record { kept = (rolled_back l k).forest; now = k.forest; first = first; used = used }

-- all numbers that were reserved and not used are free
abbrev pub AreFree : ℕ → List ℕ → Keeping → Type 0
AreFree first used k = (m : ℕ) → first ≤ m → m < k.forest.next → has m used ≡ false → IsFree m k

-- all changes since some forest was kept are in the ledger, and what is reserved is free
pub record IsDraft (l : Ledger) (k : Keeping) (first : ℕ) (used : List ℕ) : Type 0 where
  pub start : Keeping
  pub made : Made start l k
  pub free : AreFree first used k
