-- Under which keys elements of a local name may stand.
use Rattle.std.specs.Prelude.{ℕ, ◌≡◌, ◌==◌, Bool, true, false, List, Option, Some, None}
use Rattle.indexmap.specs.IndexMap.{get_by_text}
use Rattle.xf_def_forest.specs.declared.content.Content.{Content}
use Rattle.xf_def_forest.specs.declared.content.Content.TheVariants.{Root, Element, Attribute, Text}
use Rattle.xf_tree_contents.specs.declared.bearers.Bearers.{Bearers}
use Rattle.xf_tree_contents.specs.declared.bearers.Bearer.{Bearer}
use Rattle.xf_tree_contents.specs.declared.bearers.Bearer.TheVariants.{Nobody, One, Anybody}

-- by what is known of a name: that no element has it, one at most, or nothing
abbrev pub may_stand : Bool → Option (Option ℕ) → ℕ → Bool
may_stand false known key = true
may_stand true None key = false
may_stand true (Some None) key = true
may_stand true (Some (Some one)) key = one == key

-- an element of this local name may stand under the key
abbrev pub may_bear : Bearers → List ℕ → ℕ → Bool
may_bear bearers local key = may_stand bearers.is_whole (get_by_text bearers.keys local) key

-- an element may stand under the key where it does
abbrev pub IsNoted : Bearers → Content → ℕ → Type 0
IsNoted bearers Root key = Unit {0}
IsNoted bearers (Element name) key = may_bear bearers name.meaning.local key ≡ true
IsNoted bearers (Attribute name text) key = Unit {0}
IsNoted bearers (Text text) key = Unit {0}

-- the key may be a bearer's
abbrev pub IsBearer : Bearer → ℕ → Type 0
IsBearer Nobody key = ⊥
IsBearer (One one) key = one ≡ key
IsBearer Anybody key = Unit {0}
