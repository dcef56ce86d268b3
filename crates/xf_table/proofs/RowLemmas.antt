-- Names that rise, by place, and what that says of a look-up.
use Rattle.std.proofs.Common.{◌≡◌, ℕ, zero, suc, ◌+◌, ◌<◌, ◌≤◌, Bool, true, false, ◌&&◌, ◌==◌, if◌then◌else◌, List, [], ◌∷◌, length, get_or, Some, None, refl, sym, ◌∙◌, ap, arith, inl, inr}
use Rattle.std.proofs.lemmas.Bool.Decides.{nat_tests}
use Rattle.std.proofs.lemmas.Map.Text.{is_eq-slice_cmp}
use Rattle.std.proofs.lemmas.Bool.{cases_lt}
use Rattle.std.specs.declared.cmp.Ordering.{Ordering}
use Rattle.std.specs.declared.cmp.Ordering.TheVariants.{Less, Equal, Greater}
use Rattle.std.specs.Ordering.{nat_cmp, is_lt, is_eq, ordering_reverse}
use Rattle.std.specs.Cmp.Lexicographic.{slice_cmp, nat_list_cmp_total}
use Rattle.xf_table.specs.declared.row.Row.{Row}
use Rattle.xf_table.specs.Rows.{Entry, entries_of, rises, code_of, counts_from}
use Rattle.xf_table.specs.Places.{name_at, code_at}

abbrev compared : List ℕ → List ℕ → Ordering
compared = slice_cmp nat_cmp

pub name_at-entries_of : (rows : List Row) (place : ℕ) (other : Row) → other.name.now ≡ [] → (get_or rows place other).name.now ≡ name_at (entries_of rows) place
name_at-entries_of [] place other h = h
name_at-entries_of (row ∷ rows) zero other h = refl
name_at-entries_of (row ∷ rows) (suc place) other h = name_at-entries_of rows place other h

pub code_at-entries_of : (rows : List Row) (place : ℕ) (other : Row) → other.code ≡ 0 → (get_or rows place other).code ≡ code_at (entries_of rows) place
code_at-entries_of [] place other h = h
code_at-entries_of (row ∷ rows) zero other h = refl
code_at-entries_of (row ∷ rows) (suc place) other h = code_at-entries_of rows place other h

pub length-entries_of : (rows : List Row) → length (entries_of rows) ≡ length rows
length-entries_of [] = refl
length-entries_of (row ∷ rows) = ap (λ n. suc n) (length-entries_of rows)

and_left : (a b : Bool) → (a && b) ≡ true → a ≡ true
and_left true b h = refl
and_left false b h = h

and_right : (a b : Bool) → (a && b) ≡ true → b ≡ true
and_right true b h = h
and_right false b h = absurd (cc)

from_is_lt : (o : Ordering) → is_lt o ≡ true → o ≡ Less
from_is_lt Less h = refl
from_is_lt Equal h = absurd (cc)
from_is_lt Greater h = absurd (cc)

-- a name that rises is below each name after it
first_below : (entry : Entry) (entries : List Entry) (k : ℕ) → rises (entry ∷ entries) ≡ true → k < length entries → compared entry.name (name_at entries k) ≡ Less
first_below entry [] k h l = absurd (omega arith)
first_below entry (next ∷ entries) zero h l = from_is_lt (compared entry.name next.name) (and_left _ _ h)
first_below entry (next ∷ entries) (suc k) h l =
    nat_list_cmp_total.trans entry.name next.name (name_at entries k)
    (from_is_lt (compared entry.name next.name) (and_left _ _ h))
    (first_below next entries k (and_right _ _ h) (omega arith))

pub rising : (entries : List Entry) (i j : ℕ) → rises entries ≡ true → i < j → j < length entries → compared (name_at entries i) (name_at entries j) ≡ Less
rising [] i j h less l = absurd (omega arith)
rising (entry ∷ entries) i zero h less l = absurd (omega arith)
rising (entry ∷ entries) zero (suc j) h less l = first_below entry entries j h (omega arith)
rising (entry ∷ entries) (suc i) (suc j) h less l = rising entries i j (and_right _ _ h) (omega arith) (omega arith)

-- where a place is below the name or is it, all before it are below
pub below_with : (entries : List Entry) (name : List ℕ) (place : ℕ) → rises entries ≡ true → place < length entries → compared (name_at entries place) name ≡ Less → (k : ℕ) → k < place + 1 → compared (name_at entries k) name ≡ Less
below_with entries name place h l less k m = elim (cases_lt k place) as (λ _. compared (name_at entries k) name ≡ Less) [
  | inl a ↦ nat_list_cmp_total.trans (name_at entries k) (name_at entries place) name (rising entries k place h a l) less
  | inr b ↦ let same : k ≡ place = omega arith in ap (λ i. compared (name_at entries i) name) same ∙ less
]

-- where a place is above the name, all after it are above
pub above_with : (entries : List Entry) (name : List ℕ) (place : ℕ) → rises entries ≡ true → compared (name_at entries place) name ≡ Greater → (k : ℕ) → place ≤ k → k < length entries → compared (name_at entries k) name ≡ Greater
above_with entries name place h greater k m l = elim (cases_lt place k) as (λ _. compared (name_at entries k) name ≡ Greater) [
  | inl a ↦
      let here : compared name (name_at entries place) ≡ Less = nat_list_cmp_total.antisymm name (name_at entries place) ∙ ap ordering_reverse greater in
      nat_list_cmp_total.antisymm (name_at entries k) name
      ∙ ap ordering_reverse (nat_list_cmp_total.trans name (name_at entries place) (name_at entries k) here (rising entries place k h a l))
  | inr b ↦ let same : k ≡ place = omega arith in ap (λ i. compared (name_at entries i) name) same ∙ greater
]

-- where a place has the name, all before it are below
pub below_same : (entries : List Entry) (name : List ℕ) (place : ℕ) → rises entries ≡ true → place < length entries → compared (name_at entries place) name ≡ Equal → (k : ℕ) → k < place → compared (name_at entries k) name ≡ Less
below_same entries name place h l same k m =
    nat_list_cmp_total.antisymm (name_at entries k) name
    ∙ ap ordering_reverse (sym (nat_list_cmp_total.congr (name_at entries place) name (name_at entries k) same))
    ∙ sym (nat_list_cmp_total.antisymm (name_at entries k) (name_at entries place))
    ∙ rising entries k place h m l

pub found_at : (entries : List Entry) (name : List ℕ) (place : ℕ) → place < length entries → ((k : ℕ) → k < place → compared (name_at entries k) name ≡ Less) → compared (name_at entries place) name ≡ Equal → code_of name entries ≡ Some (code_at entries place)
found_at [] name place l before here = absurd (omega arith)
found_at (entry ∷ entries) name zero l before here =
    ap (λ b. if b then Some entry.code else code_of name entries) (sym (is_eq-slice_cmp entry.name name) ∙ ap is_eq here)
found_at (entry ∷ entries) name (suc place) l before here =
    ap (λ b. if b then Some entry.code else code_of name entries) (sym (is_eq-slice_cmp entry.name name) ∙ ap is_eq (before 0 (omega arith)))
    ∙ found_at entries name place (omega arith) (λ k m. before (suc k) (omega arith)) here

pub found_nowhere : (entries : List Entry) (name : List ℕ) → ((k : ℕ) → k < length entries → is_eq (compared (name_at entries k) name) ≡ false) → code_of name entries ≡ None
found_nowhere [] name other = refl
found_nowhere (entry ∷ entries) name other =
    ap (λ b. if b then Some entry.code else code_of name entries) (sym (is_eq-slice_cmp entry.name name) ∙ other 0 (omega arith))
    ∙ found_nowhere entries name (λ k m. other (suc k) (omega arith))

-- below up to a place, and above from it on, is nowhere
pub found_between : (entries : List Entry) (name : List ℕ) (low high : ℕ) → high ≤ low → ((k : ℕ) → k < low → compared (name_at entries k) name ≡ Less) → ((k : ℕ) → high ≤ k → k < length entries → compared (name_at entries k) name ≡ Greater) → code_of name entries ≡ None
found_between entries name low high h below above =
    found_nowhere entries name (λ k l. elim (cases_lt k low) as (λ _. is_eq (compared (name_at entries k) name) ≡ false)
    [ inl a ↦ ap is_eq (below k a) | inr b ↦ ap is_eq (above k (omega arith) l) ])

same_from_eqb : (a b : ℕ) → (a == b) ≡ true → a ≡ b
same_from_eqb a b h = grind (arith, nat_tests)

pub code_at-counts_from : (entries : List Entry) (start place : ℕ) → counts_from start entries ≡ true → place < length entries → code_at entries place ≡ start + place
code_at-counts_from [] start place h l = absurd (omega arith)
code_at-counts_from (entry ∷ entries) start zero h l = let e : entry.code ≡ start = same_from_eqb entry.code start (and_left (entry.code == start) (counts_from (suc start) entries) h) in omega (arith, e)
code_at-counts_from (entry ∷ entries) start (suc place) h l =
    let inside : place < length entries = omega arith in
    let e : code_at entries place ≡ suc start + place = code_at-counts_from entries (suc start) place (and_right (entry.code == start) (counts_from (suc start) entries) h) inside in
    omega (arith, e)
