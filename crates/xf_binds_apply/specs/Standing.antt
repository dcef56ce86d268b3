-- Where nodes stand in the node sets of a bind (XForms 1.1, section 3.3.4).
use Rattle.std.specs.Prelude.{ℕ, ◌≡◌, Bool, true, false, List, [], ◌∷◌, Option, Some, None, nat_eq}
use Rattle.std.specs.List.{flat_map}
use Rattle.indexmap.specs.IndexMap.{IndexMap, get}
use Rattle.xf_def_xpath.specs.Setting.{joined}
use Rattle.xf_def_model.specs.Applied.{standing_in}
use Rattle.xf_binds_apply.specs.declared.standings.Standing.{Standing}

abbrev pub is_more : List (ℕ × ℕ) → Bool
is_more [] = false
is_more (s ∷ ss) = true

-- the first place and size, and whether there are more
abbrev pub first_standing : List (ℕ × ℕ) → Option Standing
first_standing [] = None
first_standing (s ∷ ss) = Some (record { position = s.0; size = s.1; is_double = is_more ss })

-- that of a node that stands here once more
abbrev pub once_more : ℕ → ℕ → Option Standing → Standing
once_more position size None = record { position = position; size = size; is_double = false }
once_more position size (Some first) = record first { is_double = true }

-- these are the nodes of the sets, and where each of them stands
pub record AreStandings {S : Type 0} (nodes : List ℕ) (places : IndexMap ℕ Standing S) (sets : List (List ℕ)) : Type 0 where
  pub all : nodes ≡ joined sets
  pub each : (n : ℕ) → get nat_eq places n ≡ first_standing (flat_map (standing_in n) sets)

-- so where the sets are known
abbrev pub AreSets : {S : Type 0} → List ℕ → IndexMap ℕ Standing S → Option (List (List ℕ)) → Type 0
AreSets nodes places None = ⊥
AreSets nodes places (Some sets) = AreStandings nodes places sets
