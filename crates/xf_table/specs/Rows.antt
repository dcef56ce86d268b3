-- Tables of names: what a row holds, when names rise, and which code stands beside a name.
use Rattle.std.specs.Prelude.{ℕ, suc, Bool, true, ◌&&◌, ◌==◌, if◌then◌else◌, List, [], ◌∷◌, map, bytes_eq, Option, Some, None}
use Rattle.std.specs.Ordering.{nat_cmp, is_lt}
use Rattle.std.specs.Cmp.Lexicographic.{slice_cmp}
use Rattle.xf_table.specs.declared.row.Row.{Row}

-- what a row says
pub record Entry : Type 0 where
  pub name : List ℕ
  pub code : ℕ
  pub least : ℕ
  pub most : ℕ
  pub marks : ℕ

abbrev pub entry_of : Row → Entry
entry_of row = record { name = row.name.now; code = row.code; least = row.least; most = row.most; marks = row.marks }

abbrev pub entries_of : List Row → List Entry
entries_of = map entry_of

-- by bytes, the name is below that of the first entry
abbrev pub is_below_first : Entry → List Entry → Bool
is_below_first entry [] = true
is_below_first entry (next ∷ entries) = is_lt (slice_cmp nat_cmp entry.name next.name)

-- each name is below the next
abbrev pub rises : List Entry → Bool
rises [] = true
rises (entry ∷ entries) = is_below_first entry entries && rises entries

-- the code beside a name, none where no entry has it
abbrev pub code_of : List ℕ → List Entry → Option ℕ
code_of name [] = None
code_of name (entry ∷ entries) = if bytes_eq entry.name name then Some entry.code else code_of name entries

-- from this place on, each code is the place of its entry
abbrev pub counts_from : ℕ → List Entry → Bool
counts_from place [] = true
counts_from place (entry ∷ entries) = (entry.code == place) && counts_from (suc place) entries
