-- What a ledger keeps beside its entries, so that a filling need not look through them.
use Rattle.std.specs.Prelude.{ℕ, ◌≡◌, ◌≤◌, Bool, true, false, List, [], ◌∷◌, drop, None, is_some, nat_eq}
use Rattle.std.specs.List.{list_any, list_all}
use Rattle.indexmap.specs.IndexMap.{IndexMap, get, spare}
use Rattle.xf_def_forest.specs.Undo as undo
use Rattle.xf_def_forest.specs.Undo.{is_set_of}
use Rattle.xf_undo.specs.declared.entry.Entry.{Entry}
use Rattle.xf_undo.specs.Entries.{entry_of, entries_of, text_noted}

-- the text of this node was set
abbrev pub has_set : ℕ → List Entry → Bool
has_set n entries = list_any (λ e. is_set_of n (entry_of e)) entries

-- no tree moved
abbrev pub is_quiet : undo.Entry → Bool
is_quiet (undo.noted change) = true
is_quiet (undo.set n before) = true
is_quiet e = false

abbrev pub are_quiet : List Entry → Bool
are_quiet entries = list_all (λ e. is_quiet (entry_of e)) entries

-- the first of these is the note of a text
abbrev pub begins_noted : List undo.Entry → Bool
begins_noted [] = false
begins_noted (e ∷ es) = is_some (text_noted e)

-- a node without a seat has no set text
abbrev pub IsListed : {S : Type 0} → List Entry → IndexMap ℕ ℕ S → Type 0
IsListed entries seats = (n : ℕ) → get nat_eq seats n ≡ None → has_set n entries ≡ false

-- besides, no tree moved from a place on, and a noted text has room for its seat
pub record IsIndexed {S : Type 0} (entries : List Entry) (seats : IndexMap ℕ ℕ S) (still : ℕ) : Type 0 where
  pub listed : IsListed entries seats
  pub quiet : are_quiet (drop still entries) ≡ true
  pub room : begins_noted (entries_of entries) ≡ true → 1 ≤ spare seats
