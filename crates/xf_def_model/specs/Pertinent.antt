-- What a recalculation evaluates (XForms 1.1, section 4.3.2 and appendix C): the entries that a change since the last one may concern, and
-- those that read what a calculate among them gives; no others.
use Rattle.std.specs.Prelude.{ℕ, zero, suc, ◌≡◌, Bool, true, not, ◌&&◌, ◌||◌, List, [], ◌∷◌, map, filter, length, Option, Some, None, ◌==◌}
use Rattle.std.specs.List.{list_any}
use Rattle.xf_def_forest.specs.Visit.{Visit, has}
use Rattle.xf_def_model.specs.Rules.{Computed, Scope}
use Rattle.xf_def_model.specs.Applied.{Entry, is_calculate, sets_same}
use Rattle.xf_def_model.specs.Entries.{is_computed, expression_of, reads_of, looks_of, touches}

-- what happened since the last recalculation
pub record Changes : Type 0 where
  -- the nodes that have another text
  pub texts : List ℕ
  -- the nodes in whose list, of attributes and children, one came or went
  pub lists : List ℕ
  -- the entries that stood then
  pub stood : List Entry

-- an entry with what it reads and looks at
pub record Asking : Type 0 where
  pub entry : Entry
  pub is_placed : Bool
  pub reads : List ℕ
  pub looks : List ℕ

abbrev pub placed_in : Option Computed → Bool
placed_in None = Bool.false
placed_in (Some x) = x.is_placed

abbrev pub asking : Scope → List Visit → Entry → Asking
asking scope all e = record { entry = e; is_placed = placed_in (expression_of scope e); reads = reads_of scope all e; looks = looks_of scope all e }

-- over the visits of a shape
abbrev pub askings : Scope → List Visit → List Entry → List Asking
askings scope all entries = map (asking scope all) (filter is_computed entries)

-- ---- what a change concerns

-- the same attribute of the same bind for the same node
abbrev pub is_same : Entry → Entry → Bool
is_same e other = sets_same e other && (e.bind == other.bind)

-- it stood, at the same place where it asks for that
abbrev pub stands_as : Asking → Entry → Bool
stands_as a old = is_same a.entry old && (not a.is_placed || ((a.entry.position == old.position) && (a.entry.size == old.size)))

abbrev pub reads_any : List Visit → Asking → List ℕ → Bool
reads_any all a ns = list_any (touches all a.reads) ns

abbrev pub is_begun : List Visit → Changes → Asking → Bool
is_begun all changes a =
    not (list_any (stands_as a) changes.stood)
    || reads_any all a changes.texts
    || (is_calculate a.entry && has a.entry.node changes.texts)
    || list_any (λ n. has n changes.lists) a.looks

-- ---- and what follows

abbrev pub calculated_in : List Asking → List ℕ
calculated_in wave = map (λ a. a.entry.node) (filter (λ a. is_calculate a.entry) wave)

-- a change concerns it, or it reads what a calculate of the wave gives
abbrev pub follows : List Visit → Changes → List Asking → Asking → Bool
follows all changes wave a = is_begun all changes a || reads_any all a (calculated_in wave)

abbrev pub next_wave : List Visit → Changes → List Asking → List Asking → List Asking
next_wave all changes asked wave = filter (follows all changes wave) asked

abbrev pub waves : List Visit → Changes → List Asking → ℕ → List Asking → List Asking
waves all changes asked zero wave = wave
waves all changes asked (suc k) wave = waves all changes asked k (next_wave all changes asked wave)

-- as many waves as there are entries
abbrev pub pertinent_of : List Visit → Changes → List Asking → List Asking
pertinent_of all changes asked = waves all changes asked (length asked) []

abbrev pub pertinent : Scope → List Visit → List Entry → Changes → List Entry
pertinent scope all entries changes = map (λ a. a.entry) (pertinent_of all changes (askings scope all entries))

-- how many are evaluated
abbrev pub pertinent_count : Scope → List Visit → List Entry → Changes → ℕ
pertinent_count scope all entries changes = length (pertinent scope all entries changes)

-- ---- what makes them the least

-- the fact holds of each
abbrev pub AllOf : {X : Type 0} → (X → Type 0) → List X → Type 0
AllOf P [] = Unit {0}
AllOf P (x ∷ xs) = P x × AllOf P xs

-- a set of entries that holds what a change concerns, and what reads what a calculate in it gives
abbrev pub IsClosed : List Visit → Changes → List Asking → (Asking → Bool) → Type 0
IsClosed all changes asked set = AllOf (λ a. follows all changes (filter set asked) a ≡ true → set a ≡ true) asked

-- one that is pertinent
abbrev pub is_pertinent : List Visit → Changes → List Asking → Asking → Bool
is_pertinent all changes asked a = follows all changes (pertinent_of all changes asked) a
