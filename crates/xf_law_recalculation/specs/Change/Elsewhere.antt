-- What the instances do not see carries the whole on, and rolling back gives it of the forest that was kept.
use Rattle.std.specs.Prelude.{ℕ, ◌≡◌, ◌≤◌, ◌<◌, ◌+◌, ◌^◌, Bool, true, false, not, List, ◌∷◌, ◌++◌, nat_lt, nat_le}
use Rattle.std.specs.List.{list_all}
use Rattle.xf_def_forest.specs.declared.content.Node.{Node}
use Rattle.xf_def_forest.specs.Forest.{Forest, is_root, has_number}
use Rattle.xf_def_forest.specs.Visit.{has}
use Rattle.xf_def_forest.specs.Changes.{is_detached_top, in_instances, in_detached, detached, placed}
use Rattle.xf_def_forest.specs.Settle.{reserved, with_numbered_text}
use Rattle.xf_def_forest.specs.Texts.{Keeping, without_detached}
use Rattle.xf_def_forest.specs.Undo.{Ledger, rolled_back}
use Rattle.xf_def_forest.specs.WellFormed.{HasTrees, AreTrees}
use Rattle.xf_law_forests.specs.Rollback.Made.{Made}
use Rattle.xf_def_xpath.specs.Given.{Document}
use Rattle.xf_def_model.specs.Rules.{Scope}
use Rattle.xf_law_recalculation.specs.Change.Carried.{under, given_from, Carried, Takes}

abbrev pub ElsewhereCarried : Type 0
ElsewhereCarried = (f : ℕ → ℕ) (taken more_taken : ℕ → Bool) (texts lists : List ℕ) (scope : Scope) (documents : List Document) (forest after before : Forest) →
    in_instances after.nodes ≡ in_instances forest.nodes → Takes taken more_taken after → Carried f taken texts lists scope documents forest before → Carried f more_taken texts lists scope documents after before

-- a text, a tree that comes behind all others, one that is detached from a detached one, and one that is attached to it
abbrev pub TextElsewhereCarried : Type 0
TextElsewhereCarried = (f : ℕ → ℕ) (taken more_taken : ℕ → Bool) (texts lists : List ℕ) (scope : Scope) (documents : List Document) (number n next : ℕ) (text : List ℕ) (forest before : Forest) →
    let after : Forest = record { nodes = with_numbered_text number n text forest.nodes; next = next } in has_number n (in_instances forest.nodes) ≡ false →
    Takes taken more_taken after → Carried f taken texts lists scope documents forest before → Carried f more_taken texts lists scope documents after before

abbrev pub BehindCarried : Type 0
BehindCarried = (f : ℕ → ℕ) (taken more_taken : ℕ → Bool) (texts lists : List ℕ) (scope : Scope) (documents : List Document) (top : Node) (below : List Node) (next : ℕ) (forest before : Forest) →
    let after : Forest = record { nodes = forest.nodes ++ top ∷ below; next = next } in is_detached_top top ≡ true →
    Takes taken more_taken after → Carried f taken texts lists scope documents forest before → Carried f more_taken texts lists scope documents after before

abbrev pub DetachedElsewhereCarried : Type 0
DetachedElsewhereCarried = (f : ℕ → ℕ) (taken more_taken : ℕ → Bool) (texts lists : List ℕ) (scope : Scope) (documents : List Document) (n : ℕ) (forest before : Forest) →
    HasTrees forest → has_number n forest.nodes ≡ true → has_number n (in_instances forest.nodes) ≡ false → list_all (λ y. not (is_root y.content)) (in_detached forest.nodes) ≡ true →
    Takes taken more_taken (detached n forest) → Carried f taken texts lists scope documents forest before → Carried f more_taken texts lists scope documents (detached n forest) before

abbrev pub AttachedElsewhereCarried : Type 0
AttachedElsewhereCarried = (f : ℕ → ℕ) (taken more_taken : ℕ → Bool) (texts lists : List ℕ) (scope : Scope) (documents : List Document) (n p place : ℕ) (forest before : Forest) →
    has_number n (in_instances forest.nodes) ≡ false → has_number p (in_instances forest.nodes) ≡ false → list_all (λ y. not (is_root y.content)) (in_detached forest.nodes) ≡ true →
    Takes taken more_taken (placed n p place forest) → Carried f taken texts lists scope documents forest before → Carried f more_taken texts lists scope documents (placed n p place forest) before

-- numbers that are reserved, and those that are given up: what is taken then is below the next number
abbrev pub ReservedCarried : Type 0
ReservedCarried = (f : ℕ → ℕ) (taken : ℕ → Bool) (texts lists : List ℕ) (scope : Scope) (documents : List Document) (count : ℕ) (forest before : Forest) →
    nat_le (forest.next + count) (2 ^ 127) ≡ true → Carried f taken texts lists scope documents forest before → Carried f taken texts lists scope documents (reserved count forest) before

abbrev pub GivenUpCarried : Type 0
GivenUpCarried = (f : ℕ → ℕ) (taken : ℕ → Bool) (texts lists : List ℕ) (scope : Scope) (documents : List Document) (forest before : Forest) →
    HasTrees forest → Carried f taken texts lists scope documents forest before → Carried f (under forest.next) texts lists scope documents forest before

-- detached trees that are dropped, as where a forest is kept
abbrev pub DroppedCarried : Type 0
DroppedCarried = (f : ℕ → ℕ) (taken : ℕ → Bool) (texts lists : List ℕ) (scope : Scope) (documents : List Document) (k : Keeping) (before : Forest) →
    Carried f taken texts lists scope documents k.forest before → Carried f taken texts lists scope documents (without_detached k).forest before

-- ---- back

-- rolling back gives what was so of the forest that was kept, with the marks and the numbers that it had
abbrev pub RolledBackCarried : Type 0
RolledBackCarried = (f : ℕ → ℕ) (taken : ℕ → Bool) (texts lists : List ℕ) (scope : Scope) (documents : List Document) (start k : Keeping) (l : Ledger) (before : Forest) →
    Made start l k → AreTrees k → Carried f taken texts lists scope documents start.forest before → Carried f taken texts lists scope documents (rolled_back l k).forest before

-- ---- which numbers a call tells to be taken

-- where no number is reserved
abbrev pub UnderTakes : Type 0
UnderTakes = (taken : ℕ → Bool) (forest after : Forest) → HasTrees after → ((k : ℕ) → taken k ≡ true → nat_lt k forest.next ≡ true) → forest.next ≤ after.next → nat_le after.next (2 ^ 127) ≡ true →
    Takes taken (under after.next) after

-- where some are: those that were not used are free, as a draft of a forest says it
abbrev pub ReservedTakes : Type 0
ReservedTakes = (first : ℕ) (used more : List ℕ) (after : Forest) → HasTrees after → first ≤ after.next → nat_le after.next (2 ^ 127) ≡ true →
    ((k : ℕ) → has k used ≡ true → has k more ≡ true) → ((k : ℕ) → has k more ≡ true → nat_lt k after.next ≡ true) →
    ((k : ℕ) → first ≤ k → k < after.next → has k more ≡ false → has_number k after.nodes ≡ false) → Takes (given_from first used) (given_from first more) after

-- and one that was not is not taken
abbrev pub UnusedFree : Type 0
UnusedFree = (first number : ℕ) (used : List ℕ) → first ≤ number → has number used ≡ false → given_from first used number ≡ false
