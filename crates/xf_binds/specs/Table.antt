-- What is kept of all models, each by its number.
use Rattle.std.specs.Prelude.{ℕ, Bool, List, [], ◌∷◌, map, get_or, slice_set, Option, Some, None}
use Rattle.xf_def_model.specs.declared.property.Property.{Property}
use Rattle.xf_def_model.specs.Applied.{Entry}
use Rattle.xf_binds.specs.declared.web.Asks.{Asks}
use Rattle.xf_binds.specs.Held.{Held, entries_in}
use Rattle.xf_binds.specs.Kept.{Kept, committed, no_kept, rolled_back, truth_in}

abbrev pub kept_at : List Kept → ℕ → Kept
kept_at table model = get_or table model no_kept

-- a model that is not there has none
abbrev pub held_or : Option (List Held) → List Entry
held_or None = []
held_or (Some held) = entries_in held

abbrev pub web_or : Option (List Asks) → List Asks
web_or None = []
web_or (Some web) = web

abbrev pub nodes_or : Option (List ℕ) → List ℕ
nodes_or None = []
nodes_or (Some nodes) = nodes

-- another is kept of one model
abbrev pub with_kept : List Kept → ℕ → Kept → List Kept
with_kept table model kept = slice_set table model kept

-- all as they stand, and all as they were
abbrev pub all_committed : List Kept → List Kept
all_committed table = map committed table

abbrev pub all_rolled_back : List Kept → List Kept
all_rolled_back table = map rolled_back table

abbrev pub unless_told : Option (Option Bool) → Option (Option Bool) → Option (Option Bool)
unless_told None other = other
unless_told (Some truth) other = Some truth

-- that of the first model in which the node has such an entry
abbrev pub truth_among : List Kept → Property → ℕ → Option (Option Bool)
truth_among [] p n = None
truth_among (k ∷ ks) p n = unless_told (truth_in k p n) (truth_among ks p n)

-- as a truth, where there is none the default
abbrev pub truth_told : Bool → Option (Option Bool) → Bool
truth_told default None = default
truth_told default (Some None) = default
truth_told default (Some (Some b)) = b
