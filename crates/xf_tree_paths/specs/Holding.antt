-- The instance in which a node stands, the numbers by which it is told, and the path of a node.
use Rattle.std.specs.Prelude.{ℕ, suc, ◌≡◌, ◌<◌, ◌==◌, false, List, take, count_by, slice_get, Option, Some, None}
use Rattle.xf_def_syntax.specs.declared.form.Instance.{Instance}
use Rattle.xf_def_forest.specs.Forest.{Forest}
use Rattle.xf_def_machine.specs.State.{State}
use Rattle.xf_def_machine.specs.Surround.{instances_in}
use Rattle.xf_def_machine.specs.Properties.{path_in}
use Rattle.xf_def_machine.specs.StateText.{is_place}

-- it is this one of so many, or none of them
abbrev pub IsAmong : ℕ → Option ℕ → Option ℕ → Type 0
IsAmong count (Some place) given = (place < count) × (given ≡ Some place)
IsAmong count None given = (place : ℕ) → place < count → is_place place given ≡ false

abbrev pub IsPath : List Instance → Forest → ℕ → List ℕ → Type 0
IsPath instances forest n path = (s : State) → instances_in s ≡ instances → s.forest ≡ forest → path ≡ path_in s n

-- ---- the numbers of an instance

abbrev pub pair_for : List Instance → ℕ → Option Instance → ℕ × ℕ
pair_for instances place None = (1, 1)
pair_for instances place (Some i) = (suc i.model, suc (count_by (λ j. j.model == i.model) (take place instances)))

abbrev pub pair_among : List Instance → ℕ → ℕ × ℕ
pair_among instances place = pair_for instances place (slice_get instances place)
