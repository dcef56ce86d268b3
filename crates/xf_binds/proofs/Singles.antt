-- No property of a node is set twice: what that says of one entry.
use Rattle.std.proofs.Common.{◌≡◌, ℕ, zero, suc, Bool, true, false, cond, ◌&&◌, List, [], ◌∷◌, find, Option, Some, None, option_map, slice_get, nat_eq, ◌==◌, refl, sym, ap, ◌∙◌, arith}
use Rattle.std.specs.Prelude.{option_and_then}
use Rattle.std.proofs.lemmas.Bool.{eqb-true}
use Rattle.std.proofs.lemmas.Bool.Decides.{nat_tests}
use Rattle.std.proofs.lemmas.Option.{slice_get-map}
use Rattle.indexmap.specs.IndexMap.{IndexMap, get}
use Rattle.xf_def_model.specs.declared.property.Property.{Property}
use Rattle.xf_def_model.specs.declared.property.Property.TheVariants.{Kind, Calculate, Relevant, Readonly, Required, Constraint}
use Rattle.xf_def_model.specs.Applied as applied
use Rattle.xf_def_model.specs.Applied.{is_property}
use Rattle.xf_def_model.specs.Entries.{is_computed}
use Rattle.xf_def_model.specs.Properties.{sets_on}
use Rattle.xf_binds.specs.declared.entry.Item.{Item}
use Rattle.xf_binds.specs.declared.entry.Seats.{Seats}
use Rattle.xf_binds.specs.Held.{AreSingle, Held, IsOnly, IsSeated, entries_in, held_of, held_on, holds, is_seat, passes, place_on, seat_in}
use Rattle.xf_binds.specs.Kept.{Kept, IsAlone, entries_of, truth_at, truth_from, truth_if, truth_in}
use Rattle.xf_binds.proofs.Finds.{false-true}
use Rattle.xf_binds.proofs.Onlys.{only-else, only-none, only-then}
use Rattle.xf_binds.proofs.Seats.{seat-place}

self-same : (n : ℕ) → (n == n) ≡ true
self-same n = grind (arith, nat_tests)

property-self : (p : Property) → is_property p p ≡ true
property-self Kind = refl
property-self Calculate = refl
property-self Relevant = refl
property-self Readonly = refl
property-self Required = refl
property-self Constraint = refl

-- an entry sets its own property of its own node
pub sets-self : (e : applied.Entry) → sets_on e.node e.property e ≡ true
sets-self e = ap (λ b. b && is_property e.property e.property) (self-same e.node) ∙ property-self e.property

-- ---- seats

pub seat-is : (o : Option ℕ) (i : ℕ) → is_seat o i ≡ true → o ≡ Some i
seat-is None i h = false-true h
seat-is (Some j) i h = ap Some (eqb-true j i h)

-- where one place passes, it is the seat
pub likely-seat : (n : ℕ) (p : Property) (held : List Held) (o : Option ℕ) (j : ℕ) → ((i : ℕ) → is_seat o i ≡ passes (held_on n p) (slice_get held i)) → passes (held_on n p) (slice_get held j) ≡ true
    → (i : ℕ) → is_seat (Some j) i ≡ passes (held_on n p) (slice_get held i)
likely-seat n p held o j h on i = ap (λ s. is_seat s i) (sym (seat-is o j (h j ∙ on))) ∙ h i

pub likely-item : {S : Type 0} (items : List Item) (held : List Held) (seats : IndexMap ℕ Seats S) (n : ℕ) (p : Property) (j : ℕ) (o : Option Item) (b : Bool) → holds items ≡ held → IsSeated (holds items) seats
    → o ≡ slice_get items j → b ≡ passes (held_on n p) (option_map held_of o) → b ≡ true → (i : ℕ) → is_seat (Some j) i ≡ passes (held_on n p) (slice_get held i)
likely-item items held seats n p j o b view seated is on holds_so i =
    likely-seat n p (holds items) (seat_in (get nat_eq seats n) p) j (seated n p)
    (ap (passes (held_on n p)) (slice_get-map held_of items j) ∙ ap (λ x. passes (held_on n p) (option_map held_of x)) (sym is) ∙ sym on ∙ holds_so) i
    ∙ ap (λ l. passes (held_on n p) (slice_get l i)) view

-- ---- all entries

module _ {S : Type 0} (held : List Held) (seats : IndexMap ℕ Seats S) (seated : IsSeated held seats) where
  pub single-seated : AreSingle (entries_in held)
  single-seated place e h = by (slice_get held place) refl (sym (slice_get-map (λ (x : Held). x.entry) held place) ∙ h)
    where
      by : (o : Option Held) → slice_get held place ≡ o → option_map (λ (x : Held). x.entry) o ≡ Some e → place_on (entries_in held) e.node e.property ≡ Some place
      by None g k = cc k
      by (Some x) g k =
          let same : x.entry ≡ e = cc k in
          let on : held_on e.node e.property x ≡ true = ap (sets_on e.node e.property) same ∙ sets-self e in
          let seat : seat_in (get nat_eq seats e.node) e.property ≡ Some place = seat-is (seat_in (get nat_eq seats e.node) e.property) place (seated e.node e.property place ∙ ap (passes (held_on e.node e.property)) g ∙ on) in
          sym (seat-place e.node e.property held (seat_in (get nat_eq seats e.node) e.property) (seated e.node e.property)) ∙ seat

  pub only-seated : (e : applied.Entry) → (found : Option applied.Entry) × IsOnly (entries_in held) e found
  only-seated e = by (seat_in (get nat_eq seats e.node) e.property) refl
    where
      seat : Option ℕ
      seat = seat_in (get nat_eq seats e.node) e.property

      at : (j : ℕ) → seat ≡ Some j → (o : Option Held) → slice_get held j ≡ o → (found : Option applied.Entry) × IsOnly (entries_in held) e found
      at j s None g = false-true (ap (passes (held_on e.node e.property)) (sym g) ∙ sym (seated e.node e.property j) ∙ ap (λ o. is_seat o j) s ∙ self-same j)
      at j s (Some x) g = of (e.bind == x.entry.bind) refl
        where
          of : (b : Bool) → (e.bind == x.entry.bind) ≡ b → (found : Option applied.Entry) × IsOnly (entries_in held) e found
          of true b = (Some x.entry, only-then e held seat (seated e.node e.property) j x s g b)
          of false b = (None, only-else e held seat (seated e.node e.property) j x s g b)

      by : (o : Option ℕ) → seat ≡ o → (found : Option applied.Entry) × IsOnly (entries_in held) e found
      by None s = (None, only-none e held seat (seated e.node e.property) s)
      by (Some j) s = at j s (slice_get held j) refl

-- ---- found by the place

pub place-find : (es : List applied.Entry) (n : ℕ) (p : Property) (i : ℕ) → place_on es n p ≡ Some i → find (sets_on n p) es ≡ slice_get es i
place-find [] n p i h = cc h
place-find (e ∷ es) n p i h = by (sets_on n p e) (place_on es n p) (λ j g. place-find es n p j g) i h
  where
    by : (b : Bool) (o : Option ℕ) → ((j : ℕ) → o ≡ Some j → find (sets_on n p) es ≡ slice_get es j) → (i : ℕ) → cond b (Some 0) (option_map suc o) ≡ Some i
        → cond b (Some e) (find (sets_on n p) es) ≡ slice_get (e ∷ es) i
    by true o rest zero k = refl
    by true o rest (suc i) k = cc k
    by false None rest i k = cc k
    by false (Some j) rest zero k = cc k
    by false (Some j) rest (suc i) k = rest i (let same : j ≡ i = cc k in ap Some same)

pub place-none : (es : List applied.Entry) (n : ℕ) (p : Property) → place_on es n p ≡ None → find (sets_on n p) es ≡ None
place-none [] n p h = refl
place-none (e ∷ es) n p h = by (sets_on n p e) (place_on es n p) (place-none es n p) h
  where
    by : (b : Bool) (o : Option ℕ) → (o ≡ None → find (sets_on n p) es ≡ None) → cond b (Some 0) (option_map suc o) ≡ None → cond b (Some e) (find (sets_on n p) es) ≡ None
    by true o rest k = cc k
    by false None rest k = rest refl
    by false (Some j) rest k = cc k

pub first-single : (es : List applied.Entry) → AreSingle es → (place : ℕ) (e : applied.Entry) → slice_get es place ≡ Some e → find (sets_on e.node e.property) es ≡ Some e
first-single es single place e h = place-find es e.node e.property place (single place e h) ∙ h

-- ---- what is kept

pub alone : (k : Kept) → AreSingle k.entries → ((e : applied.Entry) → is_computed e ≡ true → (found : Option applied.Entry) × IsOnly (entries_of k.stood) e found)
    → (place : ℕ) (e : applied.Entry) → slice_get k.entries place ≡ Some e → is_computed e ≡ true → IsAlone k e
alone k single only place e h c = record { first = first-single k.entries single place e h; only = only e c }

pub truth-there : (k : Kept) (place : ℕ) (e : applied.Entry) (t : Option Bool) → Some e ≡ slice_get k.entries place → is_computed e ≡ true → t ≡ truth_from k.stood e → t ≡ truth_at k place
truth-there k place e t h c is = is ∙ ap (λ b. cond b (truth_from k.stood e) None) (sym c) ∙ ap (option_and_then (truth_if k.stood)) h

pub truth-type : (k : Kept) (place : ℕ) (e : applied.Entry) → Some e ≡ slice_get k.entries place → is_computed e ≡ false → None ≡ truth_at k place
truth-type k place e h c = ap (λ b. cond b (truth_from k.stood e) None) (sym c) ∙ ap (option_and_then (truth_if k.stood)) h

pub truth-nowhere : (k : Kept) (place : ℕ) → None ≡ slice_get k.entries place → None ≡ truth_at k place
truth-nowhere k place h = ap (option_and_then (truth_if k.stood)) h

pub truth-placed : (k : Kept) (n : ℕ) (p : Property) (place : ℕ) (e : applied.Entry) (t : Option Bool) → Some place ≡ place_on k.entries n p → Some e ≡ slice_get k.entries place → t ≡ truth_from k.stood e
    → Some t ≡ truth_in k p n
truth-placed k n p place e t at here is = ap Some is ∙ ap (option_map (truth_from k.stood)) (here ∙ sym (place-find k.entries n p place (sym at)))
