-- The entries that a change concerns by itself (XForms 1.1, appendix C): those that did not stand, the calculates of nodes that got another
-- text, and those that look at a list in which one came or went. What they read is found from the nodes.
use Rattle.std.specs.Prelude.{ℕ, ◌≡◌, Bool, false, not, ◌&&◌, ◌||◌, List, length, Option, Some, None, option_and_then, slice_get}
use Rattle.std.specs.List.{list_any}
use Rattle.xf_def_forest.specs.Visit.{has}
use Rattle.xf_def_model.specs.declared.property.Property.TheVariants.{Calculate}
use Rattle.xf_def_model.specs.Rules.{Rule}
use Rattle.xf_def_model.specs.Applied.{Entry, is_calculate}
use Rattle.xf_def_model.specs.Entries.{expression_in, is_computed}
use Rattle.xf_def_model.specs.Pertinent.{Asking, Changes, placed_in, stands_as}
use Rattle.xf_binds.specs.declared.web.Asks.{Asks}
use Rattle.xf_def_model.specs.Properties.{sets_on}
use Rattle.xf_binds.specs.Held.{passes}
use Rattle.xf_binds.specs.Kept.{Kept}
use Rattle.xf_recalc_pertinent.specs.OfTable.{changes_in}
use Rattle.xf_recalc_pertinent.specs.Places.{asks_at, is_marked}

-- whether the expression of an entry asks for its position or size
abbrev pub is_placed_in : List Rule → Entry → Bool
is_placed_in rules e = placed_in (option_and_then (λ r. expression_in r e.property) (slice_get rules e.bind))

-- an entry with what is kept of it
abbrev pub asking_with : List Rule → Entry → Asks → Asking
asking_with rules e asks = record { entry = e; is_placed = is_placed_in rules e; reads = asks.reads; looks = asks.looks }

abbrev pub is_begun_by : List Rule → Changes → Entry → Asks → Bool
is_begun_by rules changes e asks =
    not (list_any (stands_as (asking_with rules e asks)) changes.stood) || (is_calculate e && has e.node changes.texts)
    || list_any (λ n. has n changes.lists) asks.looks

abbrev pub is_begun_in : List Rule → Changes → Option Entry → Asks → Bool
is_begun_in rules changes None asks = false
is_begun_in rules changes (Some e) asks = is_computed e && is_begun_by rules changes e asks

-- the entry at a place
abbrev pub is_begun_at : List Rule → Kept → ℕ → Bool
is_begun_at rules k place = is_begun_in rules (changes_in k) (slice_get k.entries place) (asks_at k.asks place)

-- these are marked, of so many
pub record AreBegun (rules : List Rule) (kept : Kept) (marks : List Bool) : Type 0 where
  pub size : length marks ≡ length kept.entries
  pub each : (place : ℕ) → is_marked marks place ≡ is_begun_at rules kept place

-- ---- where texts alone changed

-- these are marked besides: the calculates of nodes
pub record AreCalculated (entries : List Entry) (nodes : List ℕ) (old new : List Bool) : Type 0 where
  pub size : length new ≡ length old
  pub each : (place : ℕ) → is_marked new place ≡ (list_any (λ n. passes (sets_on n Calculate) (slice_get entries place)) nodes || is_marked old place)
