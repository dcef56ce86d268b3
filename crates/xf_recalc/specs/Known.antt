-- Truths of the values of calculates that are known before the other entries are evaluated: each was found in its turn.
use Rattle.std.specs.Prelude.{ℕ, ◌≡◌, Bool, List, Option, Some, None, option_map, get_or, slice_get, if◌then◌else◌}
use Rattle.xf_base.specs.Limits.{string_limit}
use Rattle.xf_def_forest.specs.Visit.{Visit}
use Rattle.xf_def_xpath.specs.Conversions.{truth_of}
use Rattle.xf_def_model.specs.Rules.{Scope}
use Rattle.xf_def_model.specs.Applied.{Entry, is_calculate}
use Rattle.xf_def_model.specs.Entries.{value_of}
use Rattle.xf_def_model.specs.Settled.{calculates}
use Rattle.xf_recalc.specs.Turns.{truth_over}

-- by the places of the calculates among each other: what is known is the truth of the value over these visits
abbrev pub AreKnown : Scope → List Visit → List Entry → List (Option Bool) → Type 0
AreKnown scope all entries known =
    (k : ℕ) (e : Entry) (b : Bool) → slice_get (calculates entries) k ≡ Some e → get_or known k None ≡ Some b → option_map truth_of (value_of (Some string_limit) scope all e) ≡ Some b

-- what is known of an entry, where so many calculates stand before it
abbrev pub known_at : Option Entry → List (Option Bool) → ℕ → Option Bool
known_at None known k = None
known_at (Some e) known k = if is_calculate e then get_or known k None else None

-- it is the truth of that entry
abbrev pub IsKnown : Scope → List Visit → Option Entry → Option Bool → Type 0
IsKnown scope all None known = Unit {0}
IsKnown scope all (Some e) None = Unit {0}
IsKnown scope all (Some e) (Some b) = truth_over scope all e ≡ Some (Some b)
