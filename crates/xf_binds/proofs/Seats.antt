-- The seat of a property is the place of its entry.
use Rattle.std.proofs.Common.{◌≡◌, ℕ, zero, suc, Bool, true, false, cond, List, [], ◌∷◌, Option, Some, None, option_map, slice_get, ◌==◌, refl, sym, ap, ◌∙◌, arith}
use Rattle.std.proofs.lemmas.Bool.{eqb-true}
use Rattle.std.proofs.lemmas.Bool.Decides.{nat_tests}
use Rattle.xf_def_model.specs.declared.property.Property.{Property}
use Rattle.xf_binds.specs.Held.{Held, entries_in, held_on, is_seat, passes, place_on}
use Rattle.xf_binds.proofs.Finds.{false-true}

self-same : (n : ℕ) → (n == n) ≡ true
self-same n = grind (arith, nat_tests)

one-less : (j i : ℕ) → (j == i) ≡ (suc j == suc i)
one-less j i = grind (arith, nat_tests)

here : (o : Option ℕ) → is_seat o 0 ≡ true → o ≡ Some 0
here None h = false-true h
here (Some j) h = ap Some (eqb-true j 0 h)

later : (o : Option ℕ) (held : List Held) (n : ℕ) (p : Property) → is_seat o 0 ≡ false
    → ((i : ℕ) → is_seat o (suc i) ≡ passes (held_on n p) (slice_get held i))
    → ((q : Option ℕ) → ((i : ℕ) → is_seat q i ≡ passes (held_on n p) (slice_get held i)) → q ≡ place_on (entries_in held) n p)
    → o ≡ option_map suc (place_on (entries_in held) n p)
later None held n p h rest so = ap (option_map suc) (so None rest)
later (Some zero) held n p h rest so = false-true (sym h ∙ self-same 0)
later (Some (suc j)) held n p h rest so = ap (option_map suc) (so (Some j) (λ i. one-less j i ∙ rest i))

pub seat-place : (n : ℕ) (p : Property) (held : List Held) (o : Option ℕ) → ((i : ℕ) → is_seat o i ≡ passes (held_on n p) (slice_get held i)) → o ≡ place_on (entries_in held) n p
seat-place n p [] None h = refl
seat-place n p [] (Some j) h = false-true (sym (h j) ∙ self-same j)
seat-place n p (x ∷ xs) o h = by (held_on n p x) (h 0) (seat-place n p xs)
  where
    by : (b : Bool) → is_seat o 0 ≡ b → ((q : Option ℕ) → ((i : ℕ) → is_seat q i ≡ passes (held_on n p) (slice_get xs i)) → q ≡ place_on (entries_in xs) n p)
        → o ≡ cond b (Some 0) (option_map suc (place_on (entries_in xs) n p))
    by true e so = here o e
    by false e so = later o xs n p e (λ i. h (suc i)) so
