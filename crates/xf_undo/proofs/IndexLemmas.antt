-- What a ledger keeps beside its entries stays true as these come and go.
use Rattle.std.proofs.Common.{◌≡◌, ℕ, zero, suc, Bool, true, false, cond, ◌&&◌, ◌||◌, List, [], ◌∷◌, ◌++◌, length, map, take, drop, get_or, Option, Some, None, nat_eq, refl, sym, ap, ◌∙◌, subst, inl, inr, append_assoc, arith}
use Rattle.std.specs.Prelude.{◌≤◌, ◌<◌, reverse, is_some}
use Rattle.std.specs.List.{list_any, list_all}
use Rattle.std.proofs.lemmas.Bool.{cases_Bool}
use Rattle.std.proofs.lemmas.List.{reverse-append}
use Rattle.std.specs.Map.{lookup}
use Rattle.indexmap.specs.IndexMap.{IndexMap, get, spare, IsUnchanged, Updates}
use Rattle.xf_def_forest.specs.Texts.{Keeping}
use Rattle.xf_def_forest.specs.Undo as undo
use Rattle.xf_def_forest.specs.Undo.{is_set_of, is_of_child, is_known}
use Rattle.xf_def_forest.proofs.BackLaws.{and-true, or-false, false-true}
use Rattle.xf_undo.specs.declared.entry.Entry.{Entry}
use Rattle.xf_undo.specs.Entries.{entry_of, entries_of, text_noted, placed_entry, attached_entry}
use Rattle.xf_undo.specs.Index.{has_set, is_quiet, are_quiet, begins_noted, IsListed, IsIndexed}

map-append : {A B : Type 0} (f : A → B) (xs ys : List A) → map f (xs ++ ys) ≡ map f xs ++ map f ys
map-append f [] ys = refl
map-append f (x ∷ xs) ys = ap (λ l. f x ∷ l) (map-append f xs ys)

-- the last entry comes first
pub entries-last : (es : List Entry) (e : Entry) → entries_of (es ++ e ∷ []) ≡ entry_of e ∷ entries_of es
entries-last es e = ap reverse (map-append entry_of es (e ∷ [])) ∙ reverse-append (map entry_of es) (entry_of e ∷ [])

set-last : (n : ℕ) (es : List Entry) (e : Entry) → has_set n (es ++ e ∷ []) ≡ (has_set n es || is_set_of n (entry_of e))
set-last n [] e = or-none (is_set_of n (entry_of e))
  where
    or-none : (b : Bool) → (b || false) ≡ b
    or-none true = refl
    or-none false = refl
set-last n (x ∷ xs) e = ap (λ b. is_set_of n (entry_of x) || b) (set-last n xs e) ∙ assoc (is_set_of n (entry_of x)) (has_set n xs) (is_set_of n (entry_of e))
  where
    assoc : (a b c : Bool) → (a || (b || c)) ≡ ((a || b) || c)
    assoc true b c = refl
    assoc false b c = refl

both : (a b : Bool) → a ≡ true → b ≡ true → (a && b) ≡ true
both true b e f = f
both false b e f = e

quiet-all : (es : List Entry) (e : Entry) → are_quiet es ≡ true → is_quiet (entry_of e) ≡ true → are_quiet (es ++ e ∷ []) ≡ true
quiet-all [] e h q = both (is_quiet (entry_of e)) true q refl
quiet-all (x ∷ xs) e h q = let parts = and-true (is_quiet (entry_of x)) (are_quiet xs) h in both (is_quiet (entry_of x)) (are_quiet (xs ++ e ∷ [])) parts.0 (quiet-all xs e parts.1 q)

quiet-last : (still : ℕ) (es : List Entry) (e : Entry) → are_quiet (drop still es) ≡ true → is_quiet (entry_of e) ≡ true → are_quiet (drop still (es ++ e ∷ [])) ≡ true
quiet-last zero es e h q = quiet-all es e h q
quiet-last (suc still) [] e h q = nothing still
  where
    nothing : (n : ℕ) → are_quiet (drop n []) ≡ true
    nothing zero = refl
    nothing (suc n) = refl
quiet-last (suc still) (x ∷ xs) e h q = quiet-last still xs e h q

quiet-front : (still : ℕ) (es : List Entry) (e : Entry) → are_quiet (drop still (es ++ e ∷ [])) ≡ true → are_quiet (drop still es) ≡ true
quiet-front zero es e h = front es h
  where
    front : (es : List Entry) → are_quiet (es ++ e ∷ []) ≡ true → are_quiet es ≡ true
    front [] h = refl
    front (x ∷ xs) h = let parts = and-true (is_quiet (entry_of x)) (are_quiet (xs ++ e ∷ [])) h in both (is_quiet (entry_of x)) (are_quiet xs) parts.0 (front xs parts.1)
quiet-front (suc still) [] e h = refl
quiet-front (suc still) (x ∷ xs) e h = quiet-front still xs e h

drop-all : (es : List Entry) → drop (length es) es ≡ []
drop-all [] = refl
drop-all (x ∷ xs) = drop-all xs

-- ---- what is known

pub not-known : (n : ℕ) (k : Keeping) (es : List undo.Entry) → list_any (is_set_of n) es ≡ false → is_known n k es ≡ false
not-known n k [] h = refl
not-known n k (e ∷ es) h =
    let parts = or-false (is_set_of n e) (list_any (is_set_of n) es) h in
    by (is_of_child n k e) parts.0 (not-known n k es parts.1)
  where
    by : (b : Bool) → is_set_of n e ≡ false → is_known n k es ≡ false → cond b false (is_set_of n e || is_known n k es) ≡ false
    by true f g = refl
    by false f g = rw (f, g) refl

reverse-cons : {A : Type 0} (x : A) (xs : List A) → reverse (x ∷ xs) ≡ reverse xs ++ x ∷ []
reverse-cons x xs = reverse-append (x ∷ []) xs

all-last : (es : List undo.Entry) (e : undo.Entry) → list_all is_quiet es ≡ true → is_quiet e ≡ true → list_all is_quiet (es ++ e ∷ []) ≡ true
all-last [] e h q = both (is_quiet e) true q refl
all-last (x ∷ xs) e h q = let parts = and-true (is_quiet x) (list_all is_quiet xs) h in both (is_quiet x) (list_all is_quiet (xs ++ e ∷ [])) parts.0 (all-last xs e parts.1 q)

quiet-reversed : (es : List Entry) → are_quiet es ≡ true → list_all is_quiet (entries_of es) ≡ true
quiet-reversed [] h = refl
quiet-reversed (e ∷ es) h =
    let parts = and-true (is_quiet (entry_of e)) (are_quiet es) h in
    subst (λ l. list_all is_quiet l ≡ true) (sym (reverse-cons (entry_of e) (map entry_of es))) (all-last (entries_of es) (entry_of e) (quiet-reversed es parts.1) parts.0)

quiet-child : (n : ℕ) (k : Keeping) (e : undo.Entry) → is_quiet e ≡ true → is_of_child n k e ≡ false
quiet-child n k (undo.noted change) q = refl
quiet-child n k (undo.set m before) q = refl
quiet-child n k (undo.joined m) q = absurd (false-true q)
quiet-child n k (undo.cut m parent place) q = absurd (false-true q)

set-child : (n : ℕ) (k : Keeping) (e : undo.Entry) → is_set_of n e ≡ true → is_of_child n k e ≡ false
set-child n k (undo.noted change) q = refl
set-child n k (undo.set m before) q = refl
set-child n k (undo.joined m) q = absurd (false-true q)
set-child n k (undo.cut m parent place) q = absurd (false-true q)

known-behind : (n : ℕ) (k : Keeping) (xs : List undo.Entry) (e : undo.Entry) (ys : List undo.Entry) → list_all is_quiet xs ≡ true → is_set_of n e ≡ true → is_known n k (xs ++ e ∷ ys) ≡ true
known-behind n k [] e ys h s = rw (set-child n k e s, s) refl
known-behind n k (x ∷ xs) e ys h s =
    let parts = and-true (is_quiet x) (list_all is_quiet xs) h in
    rw (quiet-child n k x parts.0, known-behind n k xs e ys parts.1 s) (or-true (is_set_of n x))
  where
    or-true : (b : Bool) → (b || true) ≡ true
    or-true true = refl
    or-true false = refl

quiet-drop : (still : ℕ) (es : List Entry) → are_quiet es ≡ true → are_quiet (drop still es) ≡ true
quiet-drop zero es h = h
quiet-drop (suc still) [] h = refl
quiet-drop (suc still) (x ∷ xs) h = quiet-drop still xs (and-true (is_quiet (entry_of x)) (are_quiet xs) h).1

quiet-further : (still at : ℕ) (es : List Entry) → still ≤ at → are_quiet (drop still es) ≡ true → are_quiet (drop at es) ≡ true
quiet-further zero at es le h = quiet-drop at es h
quiet-further (suc still) zero es le h = absurd (omega (arith, le))
quiet-further (suc still) (suc at) [] le h = refl
quiet-further (suc still) (suc at) (x ∷ xs) le h = quiet-further still at xs (omega (arith, le)) h

known-from : (n : ℕ) (k : Keeping) (bs later : List Entry) (e : Entry) → are_quiet later ≡ true → is_set_of n (entry_of e) ≡ true → is_known n k (entries_of (bs ++ e ∷ later)) ≡ true
known-from n k bs later e h s =
    subst (λ l. is_known n k l ≡ true)
    (sym (ap reverse (map-append entry_of bs (e ∷ later)) ∙ reverse-append (map entry_of bs) (map entry_of (e ∷ later)) ∙ ap (λ l. l ++ entries_of bs) (reverse-cons (entry_of e) (map entry_of later)) ∙ append_assoc (entries_of later) (entry_of e ∷ []) (entries_of bs)))
    (known-behind n k (entries_of later) (entry_of e) (entries_of bs) (quiet-reversed later h) s)

parted : (at : ℕ) (es : List Entry) (e : Entry) → at < length es → e ≡ get_or es at e → es ≡ take at es ++ e ∷ drop (suc at) es
parted at [] e less h = absurd (omega (arith, less))
parted zero (x ∷ xs) e less h = ap (λ y. y ∷ xs) (sym h)
parted (suc at) (x ∷ xs) e less h = ap (λ l. x ∷ l) (parted at xs e (omega (arith, less)) h)

-- where no tree moved from a place on, a set text that stands there is known
pub known-at : (n : ℕ) (k : Keeping) (still at : ℕ) (es : List Entry) (e : Entry) → still ≤ at → at < length es → are_quiet (drop still es) ≡ true → e ≡ get_or es at e → is_set_of n (entry_of e) ≡ true
    → is_known n k (entries_of es) ≡ true
known-at n k still at es e le less quiet at_is s =
    subst (λ l. is_known n k (entries_of l) ≡ true) (sym (parted at es e less at_is)) (known-from n k (take at es) (drop (suc at) es) e (quiet-further still (suc at) es (omega (arith, le)) quiet) s)

any-reversed : (n : ℕ) (es : List Entry) → list_any (is_set_of n) (entries_of es) ≡ has_set n es
any-reversed n [] = refl
any-reversed n (e ∷ es) = ap (list_any (is_set_of n)) (reverse-cons (entry_of e) (map entry_of es)) ∙ last (entries_of es) ∙ turned (list_any (is_set_of n) (entries_of es)) (is_set_of n (entry_of e)) ∙ ap (λ b. is_set_of n (entry_of e) || b) (any-reversed n es)
  where
    last : (l : List undo.Entry) → list_any (is_set_of n) (l ++ entry_of e ∷ []) ≡ (list_any (is_set_of n) l || is_set_of n (entry_of e))
    last [] = or-none (is_set_of n (entry_of e))
      where
        or-none : (b : Bool) → (b || false) ≡ b
        or-none true = refl
        or-none false = refl
    last (x ∷ xs) = ap (λ b. is_set_of n x || b) (last xs) ∙ assoc (is_set_of n x) (list_any (is_set_of n) xs) (is_set_of n (entry_of e))
      where
        assoc : (a b c : Bool) → (a || (b || c)) ≡ ((a || b) || c)
        assoc true b c = refl
        assoc false b c = refl

    turned : (a b : Bool) → (a || b) ≡ (b || a)
    turned true true = refl
    turned true false = refl
    turned false true = refl
    turned false false = refl

-- a node without a seat is not known
pub unlisted : {S : Type 0} (n : ℕ) (k : Keeping) (es : List Entry) (seats : IndexMap ℕ ℕ S) → IsListed es seats → get nat_eq seats n ≡ None → is_known n k (entries_of es) ≡ false
unlisted n k es seats listed h = not-known n k (entries_of es) (any-reversed n es ∙ listed n h)

-- ---- what is kept beside

begins-last : (es : List Entry) (e : Entry) → begins_noted (entries_of (es ++ e ∷ [])) ≡ is_some (text_noted (entry_of e))
begins-last es e = ap begins_noted (entries-last es e)

same-get : {S : Type 0} (before after : IndexMap ℕ ℕ S) → IsUnchanged before after → (n : ℕ) → get nat_eq after n ≡ get nat_eq before n
same-get before after e n = ap (lookup (nat_eq n)) e

-- a change is noted
pub indexed-noted : {S : Type 0} (es : List Entry) (e : Entry) (seats after : IndexMap ℕ ℕ S) (still : ℕ) (change : undo.Change) → IsIndexed es seats still → IsUnchanged seats after → 1 ≤ spare after
    → entry_of e ≡ undo.noted change → IsIndexed (es ++ e ∷ []) after still
indexed-noted es e seats after still change i same room is = record {
  listed = λ n h. set-last n es e ∙ ap (λ x. has_set n es || is_set_of n x) is ∙ or-none (has_set n es) ∙ i.listed n (sym (same-get seats after same n) ∙ h);
  quiet = quiet-last still es e i.quiet (ap is_quiet is);
  room = λ h. room;
}
  where
    or-none : (b : Bool) → (b || false) ≡ b
    or-none true = refl
    or-none false = refl

-- the last entry is filled in
pub indexed-filled : {S : Type 0} (es : List Entry) (e e2 : Entry) (seats : IndexMap ℕ ℕ S) (still : ℕ) → IsIndexed (es ++ e ∷ []) seats still
    → ((n : ℕ) → is_set_of n (entry_of e2) ≡ is_set_of n (entry_of e)) → (is_some (text_noted (entry_of e2)) ≡ true → is_some (text_noted (entry_of e)) ≡ true)
    → IsIndexed (es ++ e2 ∷ []) seats (length (es ++ e2 ∷ []))
indexed-filled es e e2 seats still i sets noted_ = record {
  listed = λ n h. set-last n es e2 ∙ ap (λ b. has_set n es || b) (sets n) ∙ sym (set-last n es e) ∙ i.listed n h;
  quiet = ap are_quiet (drop-all (es ++ e2 ∷ []));
  room = λ h. i.room (begins-last es e ∙ noted_ (sym (begins-last es e2) ∙ h));
}

pub placed-set : (n parent place : ℕ) (e : undo.Entry) → is_set_of n (placed_entry parent place e) ≡ is_set_of n e
placed-set n parent place (undo.noted (undo.of_text m)) = refl
placed-set n parent place (undo.noted (undo.of_attach m)) = refl
placed-set n parent place (undo.noted (undo.of_detach m)) = refl
placed-set n parent place (undo.set m before) = refl
placed-set n parent place (undo.joined m) = refl
placed-set n parent place (undo.cut m above at) = refl

pub placed-noted : (parent place : ℕ) (e : undo.Entry) → is_some (text_noted (placed_entry parent place e)) ≡ true → is_some (text_noted e) ≡ true
placed-noted parent place (undo.noted (undo.of_text m)) h = h
placed-noted parent place (undo.noted (undo.of_attach m)) h = h
placed-noted parent place (undo.noted (undo.of_detach m)) h = absurd (false-true h)
placed-noted parent place (undo.set m before) h = h
placed-noted parent place (undo.joined m) h = h
placed-noted parent place (undo.cut m above at) h = h

pub attached-set : (n : ℕ) (e : undo.Entry) → is_set_of n (attached_entry e) ≡ is_set_of n e
attached-set n (undo.noted (undo.of_text m)) = refl
attached-set n (undo.noted (undo.of_attach m)) = refl
attached-set n (undo.noted (undo.of_detach m)) = refl
attached-set n (undo.set m before) = refl
attached-set n (undo.joined m) = refl
attached-set n (undo.cut m above at) = refl

pub attached-noted : (e : undo.Entry) → is_some (text_noted (attached_entry e)) ≡ true → is_some (text_noted e) ≡ true
attached-noted (undo.noted (undo.of_text m)) h = h
attached-noted (undo.noted (undo.of_attach m)) h = absurd (false-true h)
attached-noted (undo.noted (undo.of_detach m)) h = h
attached-noted (undo.set m before) h = h
attached-noted (undo.joined m) h = h
attached-noted (undo.cut m above at) h = h

-- the last entry, the note of a text, goes
pub indexed-front : {S : Type 0} (es : List Entry) (e : Entry) (seats : IndexMap ℕ ℕ S) (still : ℕ) → IsIndexed (es ++ e ∷ []) seats still → is_some (text_noted (entry_of e)) ≡ true → IsIndexed es seats still
indexed-front es e seats still i is = record {
  listed = λ n h. (or-false (has_set n es) (is_set_of n (entry_of e)) (sym (set-last n es e) ∙ i.listed n h)).0;
  quiet = quiet-front still es e i.quiet;
  room = λ h. i.room (begins-last es e ∙ is);
}

-- and the set text comes in its place
pub indexed-set : {S : Type 0} (es : List Entry) (e e2 : Entry) (seats after : IndexMap ℕ ℕ S) (still n at : ℕ) (before : _) → IsIndexed (es ++ e ∷ []) seats still → is_some (text_noted (entry_of e)) ≡ true
    → Updates nat_eq seats after n (Some at) → entry_of e2 ≡ undo.set n before → IsIndexed (es ++ e2 ∷ []) after still
indexed-set es e e2 seats after still n at before i noted_ updates is =
    let front = indexed-front es e seats still i noted_ in
    record {
      listed = λ m h. elim (cases_Bool (nat_eq n m)) [
        | inl f ↦ absurd (some-none (sym (updates.0 m ∙ rw f refl) ∙ h))
        | inr f ↦ set-last m es e2 ∙ ap (λ x. has_set m es || is_set_of m x) is ∙ ap (λ b. b || nat_eq n m) (front.listed m (sym (updates.0 m ∙ rw f refl) ∙ h)) ∙ f
      ];
      quiet = quiet-last still es e2 front.quiet (ap is_quiet is);
      room = λ h. absurd (false-true (sym (begins-last es e2 ∙ ap (λ x. is_some (text_noted x)) is) ∙ h));
    }
  where
    some-none : ◌≡◌ {A = Option ℕ} (Some at) None → ⊥
    some-none g = cc g
