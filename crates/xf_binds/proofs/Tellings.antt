-- Entries that get truths by their places.
use Rattle.std.proofs.Common.{◌≡◌, ◌==◌, ℕ, zero, suc, ◌+◌, ◌<◌, ◌≤◌, Bool, true, false, cond, option_and_then, List, [], ◌∷◌, ◌++◌, map, take, drop, length, get_or, Option, Some, None, option_map, slice_get, refl, sym, ap, ◌∙◌, arith, append_assoc}
use Rattle.std.proofs.lemmas.List.{map-append, at_drop_more, at_drop_all, take_all, drop-set-lt}
use Rattle.std.proofs.Math.ListN.{set}
use Rattle.std.proofs.Math.Seq.{take-suc-set}
use Rattle.std.proofs.lemmas.Option.{slice_get-map, slice_get_read}
use Rattle.indexmap.specs.IndexMap.{IndexMap}
use Rattle.xf_def_model.specs.declared.property.Property.{Property}
use Rattle.xf_def_model.specs.Applied as applied
use Rattle.xf_def_model.specs.Properties.{sets_on}
use Rattle.xf_binds.specs.declared.entry.Item.{Item}
use Rattle.xf_binds.specs.declared.entry.Seats.{Seats}
use Rattle.xf_def_model.specs.Entries.{is_computed}
use Rattle.xf_binds.specs.Held.{AreSet, Held, IsSeated, entries_in, entry_of, held_by, held_of, held_on, holds, is_seat, is_set, passes}
use Rattle.xf_binds.specs.Kept.{truth_from, valued_in}
use Rattle.xf_binds.proofs.Items.{seat-there}
use Rattle.xf_binds.proofs.Places.{same-none, same-some}
use Rattle.xf_binds.proofs.Truths.{truth-stood}

-- ---- one after the other

held-first : (e : applied.Entry) (es : List applied.Entry) (ts : List (Option Bool)) → held_by (e ∷ es) ts ≡ record { entry = e; truth = get_or ts 0 None } ∷ held_by es (drop 1 ts)
held-first e es [] = refl
held-first e es (t ∷ ts) = refl

first-dropped : (ts : List (Option Bool)) (i : ℕ) → get_or (drop i ts) 0 None ≡ get_or ts i None
first-dropped [] zero = refl
first-dropped [] (suc i) = refl
first-dropped (t ∷ ts) zero = refl
first-dropped (t ∷ ts) (suc i) = first-dropped ts i

next-dropped : (ts : List (Option Bool)) (i : ℕ) → drop 1 (drop i ts) ≡ drop (suc i) ts
next-dropped [] zero = refl
next-dropped [] (suc i) = refl
next-dropped (t ∷ ts) zero = refl
next-dropped (t ∷ ts) (suc i) = next-dropped ts i

one-dropped : (ts : List (Option Bool)) (i : ℕ) → drop 1 (drop i ts) ≡ drop (i + 1) ts
one-dropped ts i = next-dropped ts i ∙ ap (λ j. drop j ts) (let e : suc i ≡ i + 1 = omega arith in e)

-- items told up to a place, and those that are left
abbrev pub told_to : List Item → List (Option Bool) → ℕ → List Held
told_to items truths i = holds (take i items) ++ held_by (entries_in (holds (drop i items))) (drop i truths)

append-none : {X : Type 0} (xs : List X) → xs ++ [] ≡ xs
append-none [] = refl
append-none (x ∷ xs) = ap (λ l. x ∷ l) (append-none xs)

pub told-next : (items : List Item) (truths : List (Option Bool)) (i : ℕ) (d : Item) (t : Option Bool) → i < length items → t ≡ get_or truths i None
    → told_to (set items i (record { entry = (get_or items i d).entry; truth = t })) truths (i + 1) ≡ told_to items truths i
told-next items truths i d t l e =
    let item : Item = get_or items i d in
    let x : Item = record { entry = item.entry; truth = t } in
    let rest : List Held = held_by (entries_in (holds (drop (i + 1) items))) (drop (i + 1) truths) in
    ap (λ j. holds (take j (set items i x)) ++ held_by (entries_in (holds (drop (i + 1) (set items i x)))) (drop (i + 1) truths)) (let more : i + 1 ≡ suc i = omega arith in more)
    ∙ ap (λ l. holds l ++ held_by (entries_in (holds (drop (i + 1) (set items i x)))) (drop (i + 1) truths)) (take-suc-set items i x l)
    ∙ ap (λ l. holds (take i items ++ x ∷ []) ++ held_by (entries_in (holds l)) (drop (i + 1) truths)) (drop-set-lt (i + 1) items i x (omega arith))
    ∙ ap (λ l. l ++ rest) (map-append held_of (take i items) (x ∷ []))
    ∙ append_assoc (holds (take i items)) (held_of x ∷ []) rest
    ∙ sym (ap (λ l. holds (take i items) ++ l) (
    at_drop_more (λ l. held_by (entries_in (holds l)) (drop i truths)) items i d l
    ∙ held-first (entry_of item.entry) (entries_in (holds (drop (i + 1) items))) (drop i truths)
    ∙ ap (λ o. record { entry = entry_of item.entry; truth = o } ∷ held_by (entries_in (holds (drop (i + 1) items))) (drop 1 (drop i truths))) (first-dropped truths i ∙ sym e)
    ∙ ap (λ ts. held_of x ∷ held_by (entries_in (holds (drop (i + 1) items))) ts) (one-dropped truths i)))

pub told-end : (items : List Item) (truths : List (Option Bool)) (i : ℕ) → length items ≤ i → holds items ≡ told_to items truths i
told-end items truths i l =
    sym (ap (λ l. holds l ++ held_by (entries_in (holds (drop i items))) (drop i truths)) (take_all i items l)
    ∙ ap (λ l. holds items ++ l) (at_drop_all (λ l. held_by (entries_in (holds l)) (drop i truths)) items i l) ∙ append-none (holds items))

-- ---- what stays

pub entries-told : (es : List applied.Entry) (ts : List (Option Bool)) → entries_in (held_by es ts) ≡ es
entries-told [] ts = refl
entries-told (e ∷ es) [] = ap (λ l. e ∷ l) (entries-told es [])
entries-told (e ∷ es) (t ∷ ts) = ap (λ l. e ∷ l) (entries-told es ts)

passes-entry : (n : ℕ) (p : Property) (held : List Held) (i : ℕ) → passes (held_on n p) (slice_get held i) ≡ passes (sets_on n p) (slice_get (entries_in held) i)
passes-entry n p held i = by (slice_get held i) ∙ ap (passes (sets_on n p)) (sym (slice_get-map (λ (h : Held). h.entry) held i))
  where
    by : (o : Option Held) → passes (held_on n p) o ≡ passes (sets_on n p) (option_map (λ (h : Held). h.entry) o)
    by None = refl
    by (Some h) = refl

-- seats go by entries alone
pub seated-told : {S : Type 0} (held told : List Held) (seats : IndexMap ℕ Seats S) → entries_in told ≡ entries_in held → IsSeated held seats → IsSeated told seats
seated-told held told seats e s n p i = s n p i ∙ passes-entry n p held i ∙ ap (λ l. passes (sets_on n p) (slice_get l i)) (sym e) ∙ sym (passes-entry n p told i)

pub set-told : (held told : List Held) (last : Seats) → entries_in told ≡ entries_in held → AreSet held last → AreSet told last
set-told held told last e s = λ p. s p ∙ ap (is_set p) (sym e)

-- ---- all models, one after the other

abbrev pub mapped_to : {X : Type 0} → (X → X) → List X → ℕ → List X
mapped_to f xs i = take i xs ++ map f (drop i xs)

pub mapped-next : {X : Type 0} (f : X → X) (xs : List X) (i : ℕ) (d : X) → i < length xs → mapped_to f (set xs i (f (get_or xs i d))) (i + 1) ≡ mapped_to f xs i
mapped-next f xs i d l =
    ap (λ j. take j (set xs i (f (get_or xs i d))) ++ map f (drop (i + 1) (set xs i (f (get_or xs i d))))) (let more : i + 1 ≡ suc i = omega arith in more)
    ∙ ap (λ l. l ++ map f (drop (i + 1) (set xs i (f (get_or xs i d))))) (take-suc-set xs i (f (get_or xs i d)) l)
    ∙ ap (λ l. (take i xs ++ f (get_or xs i d) ∷ []) ++ map f l) (drop-set-lt (i + 1) xs i (f (get_or xs i d)) (omega arith))
    ∙ append_assoc (take i xs) (f (get_or xs i d) ∷ []) (map f (drop (i + 1) xs))
    ∙ sym (ap (λ l. take i xs ++ l) (at_drop_more (map f) xs i d l))

pub mapped-end : {X : Type 0} (f : X → X) (xs : List X) (i : ℕ) → length xs ≤ i → xs ≡ mapped_to f xs i
mapped-end f xs i l = sym (ap (λ l. l ++ map f (drop i xs)) (take_all i xs l) ∙ ap (λ l. xs ++ l) (at_drop_all (map f) xs i l) ∙ append-none xs)

-- ---- marks

pub take-twice : (k : ℕ) (ns : List ℕ) → take k (take k ns) ≡ take k ns
take-twice zero ns = refl
take-twice (suc k) [] = refl
take-twice (suc k) (n ∷ ns) = ap (λ l. n ∷ l) (take-twice k ns)

pub take-kept : (k : ℕ) (ns ms : List ℕ) → k ≤ length ns → take k (ns ++ ms) ≡ take k ns
take-kept zero ns ms l = refl
take-kept (suc k) [] ms l = absurd (omega arith)
take-kept (suc k) (n ∷ ns) ms l = ap (λ l. n ∷ l) (take-kept k ns ms (omega arith))

-- ---- one among those that are told

slice-told : (es : List applied.Entry) (ts : List (Option Bool)) (j : ℕ) → slice_get (held_by es ts) j ≡ option_map (λ e. record { entry = e; truth = get_or ts j None }) (slice_get es j)
slice-told [] ts j = refl
slice-told (e ∷ es) [] zero = refl
slice-told (e ∷ es) [] (suc j) = slice-told es [] j
slice-told (e ∷ es) (t ∷ ts) zero = refl
slice-told (e ∷ es) (t ∷ ts) (suc j) = slice-told es ts j

abbrev Seat : List Held → applied.Entry → Option ℕ → Type 0
Seat held e seat = (i : ℕ) → is_seat seat i ≡ passes (held_on e.node e.property) (slice_get held i)

seat-told : (held : List Held) (ts : List (Option Bool)) (e : applied.Entry) (seat : Option ℕ) → Seat held e seat → Seat (held_by (entries_in held) ts) e seat
seat-told held ts e seat s i =
    s i ∙ passes-entry e.node e.property held i ∙ ap (λ l. passes (sets_on e.node e.property) (slice_get l i)) (sym (entries-told (entries_in held) ts)) ∙ sym (passes-entry e.node e.property (held_by (entries_in held) ts) i)

module _ (items : List Item) (held : List Held) (ts : List (Option Bool)) (e : applied.Entry) (seat : Option ℕ) (computed : is_computed e ≡ true) (s : Seat held e seat) where
  abbrev told : List Held
  told = held_by (entries_in held) ts

  pub told-none : seat ≡ None → None ≡ truth_from (valued_in told) e
  told-none n = sym (truth-stood told e computed ∙ ap (option_and_then (λ (h : Held). h.truth)) (same-none e told seat (seat-told held ts e seat s) n))

  module _ (j : ℕ) (item : Item) (view : holds items ≡ held) (some : seat ≡ Some j) (is : item ≡ get_or items j item) where
    abbrev here : Held
    here = record { entry = entry_of item.entry; truth = get_or ts j None }

    there : slice_get told j ≡ Some here
    there =
        slice-told (entries_in held) ts j
        ∙ ap (option_map (λ e. record { entry = e; truth = get_or ts j None }))
        (slice_get-map (λ (h : Held). h.entry) held j ∙ ap (option_map (λ (h : Held). h.entry)) (ap (λ l. slice_get l j) (sym view) ∙ slice_get-map held_of items j
        ∙ ap (option_map held_of) (slice_get_read items (length items) j item refl (seat-there items held e.node e.property seat j view s some) is)))

    found : (b : Bool) → (e.bind == item.entry.bind) ≡ b → truth_from (valued_in told) e ≡ option_and_then (λ (h : Held). h.truth) (cond b (Some here) None)
    found b h =
        truth-stood told e computed
        ∙ ap (option_and_then (λ (h : Held). h.truth)) (same-some e told seat j here (seat-told held ts e seat s) some there ∙ ap (λ c. cond c (Some here) None) h)

    pub told-then : (e.bind == item.entry.bind) ≡ true → get_or ts j None ≡ truth_from (valued_in told) e
    told-then h = sym (found true h)

    pub told-else : (e.bind == item.entry.bind) ≡ false → None ≡ truth_from (valued_in told) e
    told-else h = sym (found false h)
