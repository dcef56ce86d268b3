-- What the changes since a recalculation carry on, whole: the instances of now beside those of before, their document elements, and which
-- numbers are taken, so that a number that is given now is none of before.
use Rattle.std.specs.Prelude.{ℕ, ◌≡◌, ◌+◌, ◌^◌, Bool, true, ◌||◌, List, map, nat_lt, nat_le, ◌⊎◌, Some, None}
use Rattle.xf_def_forest.specs.Forest.{Forest, has_number}
use Rattle.xf_def_forest.specs.Visit.{has}
use Rattle.xf_def_forest.specs.Shape.{erased}
use Rattle.xf_def_xpath.specs.Given.{Document, document_of}
use Rattle.xf_def_xpath.specs.Asked.{list_around}
use Rattle.xf_def_xpath.specs.Agree.{numbers_of}
use Rattle.xf_def_model.specs.Rules.{Scope}
use Rattle.xf_law_recalculation.specs.Agree.Settles.{IsSolid}
use Rattle.xf_law_recalculation.specs.Marks.Instances.{standing, SameInstances}

-- the number of a node of before that moved: no node of now has it or takes it
abbrev pub set_aside : ℕ → ℕ
set_aside n = 2 ^ 127 + n

-- the numbers below the next one
abbrev pub under : ℕ → ℕ → Bool
under next k = nat_lt k next

-- those below the first that was reserved, and those that were used since
abbrev pub given_from : ℕ → List ℕ → ℕ → Bool
given_from first used k = nat_lt k first || has k used

pub record Carried (f : ℕ → ℕ) (taken : ℕ → Bool) (texts lists : List ℕ) (scope : Scope) (documents : List Document) (now before : Forest) : Type 0 where
  pub same : SameInstances f texts lists scope documents now before
  -- the number of a node of now is taken, and that of a node of before is, or is set aside
  pub nodes : (k : ℕ) → has_number k now.nodes ≡ true → taken k ≡ true
  pub was : (k : ℕ) → has k (numbers_of (standing before)) ≡ true → (taken (f k) ≡ true) ⊎ (f k ≡ set_aside k)
  -- so that the next number is new, and so is one that was reserved and not used
  pub less : (k : ℕ) → taken k ≡ true → nat_lt k now.next ≡ true
  pub few : nat_le now.next (2 ^ 127) ≡ true
  pub few_before : (k : ℕ) → has k (numbers_of (standing before)) ≡ true → nat_lt k (2 ^ 127) ≡ true
  -- a node of before that is no text has the number that it had, or is set aside
  pub solid : (k : ℕ) → IsSolid (standing before) k → (f k ≡ k) ⊎ (f k ≡ set_aside k)

-- after a change all these numbers are taken
pub record Takes (taken more : ℕ → Bool) (after : Forest) : Type 0 where
  pub keeps : (k : ℕ) → taken k ≡ true → more k ≡ true
  pub nodes : (k : ℕ) → has_number k after.nodes ≡ true → more k ≡ true
  pub less : (k : ℕ) → more k ≡ true → nat_lt k after.next ≡ true
  pub few : nat_le after.next (2 ^ 127) ≡ true

-- the document elements after a change: each stands in an instance, and is that of before the change or stands in a list that is marked; an
-- instance that has none had none
pub record Follows (lists : List ℕ) (scope later : Scope) (after : Forest) : Type 0 where
  pub model : later.model ≡ scope.model
  pub stand : (id : List ℕ) (n : ℕ) → document_of later.model id later.given.documents ≡ Some n → IsSolid (standing after) n
  pub each : (id : List ℕ) (n : ℕ) → document_of later.model id later.given.documents ≡ Some n →
      (document_of scope.model id scope.given.documents ≡ Some n) ⊎ ((m : ℕ) × (has m (list_around (map erased (standing after)) n) ≡ true) × (has m lists ≡ true))
  pub none : (id : List ℕ) → document_of later.model id later.given.documents ≡ None → document_of scope.model id scope.given.documents ≡ None
