-- A property that no entry sets.
use Rattle.std.specs.List.{list_any}
use Rattle.std.proofs.Common.{◌≡◌, ℕ, zero, suc, Bool, true, false, cond, ◌&&◌, ◌||◌, ◌==◌, List, [], ◌∷◌, find, Option, Some, None, option_map, is_some, slice_get, refl, sym, ap, ◌∙◌}
use Rattle.xf_def_model.specs.declared.property.Property.{Property}
use Rattle.xf_def_model.specs.Applied as applied
use Rattle.xf_def_model.specs.Applied.{is_property}
use Rattle.xf_def_model.specs.Properties.{sets_on}
use Rattle.xf_binds.specs.declared.entry.Seats.{Seats}
use Rattle.xf_binds.specs.Held.{AreSet, Held, entries_in, held_on, is_set, passes, place_on, seat_of}
use Rattle.xf_binds.specs.Kept.{Kept, truth_from, truth_in}
use Rattle.xf_binds.specs.Table.{truth_among, unless_told}

pub sets-is : (held view : List Held) (last : Seats) (p : Property) (o : Option ℕ) (b : Bool) → held ≡ view → AreSet held last → o ≡ seat_of last p → b ≡ is_some o
    → b ≡ is_set p (entries_in view)
sets-is held view last p o b same h seat is = is ∙ ap is_some seat ∙ h p ∙ ap (λ l. is_set p (entries_in l)) same

-- no entry sets it on a node
pub set-on-none : (p : Property) (es : List applied.Entry) → is_set p es ≡ false → (n : ℕ) → find (sets_on n p) es ≡ None
set-on-none p [] h n = refl
set-on-none p (e ∷ es) h n = by (e.node == n) (is_property e.property p) h (λ free. set-on-none p es free n)
  where
    by : (a b : Bool) → (b || is_set p es) ≡ false → (is_set p es ≡ false → find (sets_on n p) es ≡ None) → cond (a && b) (Some e) (find (sets_on n p) es) ≡ None
    by a true free rest = cc free
    by true false free rest = rest free
    by false false free rest = rest free

-- nor does one at a place
pub unset-at : (held : List Held) (last : Seats) (n : ℕ) (p : Property) (i : ℕ) → AreSet held last → seat_of last p ≡ None → passes (held_on n p) (slice_get held i) ≡ false
unset-at held last n p i h free = at held i (sym (h p) ∙ ap is_some free)
  where
    at : (xs : List Held) (j : ℕ) → is_set p (entries_in xs) ≡ false → passes (held_on n p) (slice_get xs j) ≡ false
    at [] j none = refl
    at (x ∷ xs) zero none = by (x.entry.node == n) (is_property x.entry.property p) none
      where
        by : (a b : Bool) → (b || is_set p (entries_in xs)) ≡ false → (a && b) ≡ false
        by a true set = cc set
        by true false set = refl
        by false false set = refl
    at (x ∷ xs) (suc j) none = at xs j (by (is_property x.entry.property p) none)
      where
        by : (b : Bool) → (b || is_set p (entries_in xs)) ≡ false → is_set p (entries_in xs) ≡ false
        by true set = cc set
        by false set = set

pub place-found : (es : List applied.Entry) (n : ℕ) (p : Property) → is_some (place_on es n p) ≡ is_some (find (sets_on n p) es)
place-found [] n p = refl
place-found (e ∷ es) n p = by (sets_on n p e) (place-found es n p)
  where
    later : (o : Option ℕ) → is_some (option_map suc o) ≡ is_some o
    later None = refl
    later (Some i) = refl

    by : (b : Bool) → is_some (place_on es n p) ≡ is_some (find (sets_on n p) es) → is_some (cond b (Some 0) (option_map suc (place_on es n p))) ≡ is_some (cond b (Some e) (find (sets_on n p) es))
    by true rest = refl
    by false rest = later (place_on es n p) ∙ rest

pub told-found : (k : Kept) (p : Property) (n : ℕ) → is_some (find (sets_on n p) k.entries) ≡ is_some (truth_in k p n)
told-found k p n = by (find (sets_on n p) k.entries)
  where
    by : (o : Option applied.Entry) → is_some o ≡ is_some (option_map (truth_from k.stood) o)
    by None = refl
    by (Some e) = refl

-- where no model's entry sets it, none tells a truth of a node
pub set-among-none : (ks : List Kept) (p : Property) → list_any (λ (k : Kept). is_set p k.entries) ks ≡ false → (n : ℕ) → truth_among ks p n ≡ None
set-among-none [] p h n = refl
set-among-none (k ∷ ks) p h n = by (is_set p k.entries) refl h (λ free. set-among-none ks p free n)
  where
    by : (b : Bool) → is_set p k.entries ≡ b → (b || list_any (λ (other : Kept). is_set p other.entries) ks) ≡ false
        → (list_any (λ (other : Kept). is_set p other.entries) ks ≡ false → truth_among ks p n ≡ None) → unless_told (truth_in k p n) (truth_among ks p n) ≡ None
    by true set free rest = cc free
    by false set free rest = ap (λ o. unless_told (option_map (truth_from k.stood) o) (truth_among ks p n)) (set-on-none p k.entries set n) ∙ rest free
