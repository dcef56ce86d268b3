-- What is kept of the binds of each model from one recalculation to the next (XForms 1.1, sections 4.3.1 to 4.3.3).
use Rattle.std.specs.Prelude.{ℕ, ◌≡◌, Bool, List, [], map, filter, find, Option, Some, None, option_map, option_and_then, slice_get, if◌then◌else◌}
use Rattle.std.specs.List.{flat_map}
use Rattle.xf_def_xpath.specs.declared.value.Value.TheVariants.{Truth}
use Rattle.xf_def_xpath.specs.Conversions.{truth_of}
use Rattle.xf_def_model.specs.declared.property.Property.{Property}
use Rattle.xf_def_model.specs.Applied.{Entry}
use Rattle.xf_def_model.specs.Entries.{is_computed}
use Rattle.xf_def_model.specs.Settled.{Valued}
use Rattle.xf_def_model.specs.Pertinent.{is_same}
use Rattle.xf_def_model.specs.Properties.{sets_on}
use Rattle.xf_binds.specs.declared.web.Asks.{Asks}
use Rattle.xf_binds.specs.Held.{Held, IsOnly, entries_in, held_by}

-- entries with the truths that they had, and what each of them asks of the data
pub record Entered : Type 0 where
  pub held : List Held
  pub asks : List Asks

-- with these truths, by their places
abbrev pub told_of : List (Option Bool) → Entered → Entered
told_of truths entered = record entered { held = held_by (entries_in entered.held) truths }

-- as it was at the last commit
pub record Was : Type 0 where
  pub entries : List Entry
  pub asks : List Asks
  pub stood : List Valued
  pub invalid : List ℕ
  pub texts : List ℕ
  pub lists : List ℕ

pub record Kept : Type 0 where
  -- the entries and types that the last rebuild gave
  pub entries : List Entry
  -- what each of them asks of the data
  pub asks : List Asks
  -- the entries that stood at the last recalculation, each with the truth of its value
  pub stood : List Valued
  -- the nodes that the last revalidation found not valid
  pub invalid : List ℕ
  -- since the last recalculation: the nodes with another text, and those in whose list of attributes and children one came or went
  pub texts : List ℕ
  pub lists : List ℕ
  pub before : Was

abbrev pub no_kept : Kept
no_kept = record {
  entries = [];
  asks = [];
  stood = [];
  invalid = [];
  texts = [];
  lists = [];
  before = record { entries = []; asks = []; stood = []; invalid = []; texts = []; lists = [] };
}

-- as it stands, and as it was
abbrev pub committed : Kept → Kept
committed k = record k { before = record { entries = k.entries; asks = k.asks; stood = k.stood; invalid = k.invalid; texts = k.texts; lists = k.lists } }

abbrev pub rolled_back : Kept → Kept
rolled_back k = record {
  entries = k.before.entries;
  asks = k.before.asks;
  stood = k.before.stood;
  invalid = k.before.invalid;
  texts = k.before.texts;
  lists = k.before.lists;
  before = k.before;
}

-- ---- values

abbrev pub valued_of : Held → Valued
valued_of h = record { entry = h.entry; value = option_map Truth h.truth }

-- a type has no value
abbrev pub valued_in : List Held → List Valued
valued_in held = map valued_of (filter (λ h. is_computed h.entry) held)

-- the entries that have one
abbrev pub entries_of : List Valued → List Entry
entries_of values = map (λ v. v.entry) values

-- those that stood, where the present ones may be the same
abbrev pub stood_of : List Held → Option (List Held) → List Held
stood_of present None = present
stood_of present (Some stood) = stood

-- after a recalculation: the present entries stood, with these truths by their places, and nothing is marked
abbrev pub recalculated : List (Option Bool) → Kept → Kept
recalculated truths k = record k { stood = valued_in (held_by k.entries truths); texts = []; lists = [] }

-- the value that an entry had, where it stood; its position and size do not count
abbrev pub value_from : List Valued → Entry → Valued
value_from stood e = record { entry = e; value = option_and_then (λ v. v.value) (find (λ v. is_same e v.entry) stood) }

-- of the present entries: those that came with a rebuild have none yet
abbrev pub values_of : Kept → List Valued
values_of k = map (value_from k.stood) (filter is_computed k.entries)

-- of all models
abbrev pub values_in : List Kept → List Valued
values_in table = flat_map values_of table

-- ---- the truth of one property of one node: None where the node has no such entry, Some None where that has no value yet

abbrev pub truth_from : List Valued → Entry → Option Bool
truth_from stood e = option_map truth_of (value_from stood e).value

abbrev pub truth_in : Kept → Property → ℕ → Option (Option Bool)
truth_in k p n = option_map (truth_from k.stood) (find (sets_on n p) k.entries)

-- ---- the truth of the entry at a place: a type has none

abbrev pub truth_if : List Valued → Entry → Option Bool
truth_if stood e = if is_computed e then truth_from stood e else None

abbrev pub truth_at : Kept → ℕ → Option Bool
truth_at k place = option_and_then (truth_if k.stood) (slice_get k.entries place)

-- no entry before it sets the same property of the same node, and one at most of those that stood is the same
pub record IsAlone (k : Kept) (e : Entry) : Type 0 where
  pub first : find (sets_on e.node e.property) k.entries ≡ Some e
  pub only : (found : Option Entry) × IsOnly (entries_of k.stood) e found
