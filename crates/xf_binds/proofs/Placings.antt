-- The calculate of a node with its place among the calculates, by the place of its entry.
use Rattle.std.proofs.Common.{◌≡◌, ℕ, zero, suc, ◌+◌, ◌<◌, ◌≤◌, ◌==◌, Bool, true, false, cond, ◌&&◌, List, [], ◌∷◌, ◌++◌, map, length, take, Option, Some, None, option_map, slice_get, refl, sym, ap, ◌∙◌, arith}
use Rattle.std.proofs.lemmas.Bool.{eqb-true}
use Rattle.std.proofs.lemmas.List.{append-nil, append_assoc}
use Rattle.xf_def_xpath.proofs.VisitFacts.{none-some, some-same}
use Rattle.xf_def_model.specs.declared.property.Property.TheVariants.{Calculate}
use Rattle.xf_def_model.specs.Applied.{Entry, is_calculate, is_property}
use Rattle.xf_def_model.specs.Pertinent.{AllOf}
use Rattle.xf_def_model.specs.Properties.{sets_on}
use Rattle.xf_def_model.specs.Settled.{calculates}
use Rattle.xf_binds.specs.Held.{place_on}
use Rattle.xf_binds.specs.Placed.{Placed, is_calculate_at, place_after, placed_at, placed_from, placed_on, places_from}
use Rattle.xf_binds.proofs.Finds.{false-true}

-- ---- by the place of its entry

placed-later : (e : Entry) (k j : ℕ) (es : List Entry) (places : List ℕ) (o : Option ℕ) (found : List Placed) → option_map suc o ≡ Some j →
    ((i : ℕ) → o ≡ Some i → placed_at (slice_get es i) (slice_get places i) ≡ found) → placed_at (slice_get (e ∷ es) j) (slice_get (k ∷ places) j) ≡ found
placed-later e k j es places None found h later = none-some h
placed-later e k j es places (Some i) found h later = ap (λ m. placed_at (slice_get (e ∷ es) m) (slice_get (k ∷ places) m)) (sym (some-same h)) ∙ later i refl

pub placed-some : (k : ℕ) (es : List Entry) (n j : ℕ) → place_on es n Calculate ≡ Some j → placed_at (slice_get es j) (slice_get (places_from k es) j) ≡ placed_from k es n
placed-some k [] n j h = none-some h
placed-some k (e ∷ es) n j h = by (sets_on n Calculate e) h (placed-some (place_after k e) es n)
  where
    by : (b : Bool) → cond b (Some 0) (option_map suc (place_on es n Calculate)) ≡ Some j →
        ((i : ℕ) → place_on es n Calculate ≡ Some i → placed_at (slice_get es i) (slice_get (places_from (place_after k e) es) i) ≡ placed_from (place_after k e) es n) →
        placed_at (slice_get (e ∷ es) j) (slice_get (places_from k (e ∷ es)) j) ≡ cond b (record { entry = e; place = k } ∷ []) (placed_from (place_after k e) es n)
    by true i later = ap (λ m. placed_at (slice_get (e ∷ es) m) (slice_get (places_from k (e ∷ es)) m)) (sym (some-same i))
    by false i later = placed-later e k j es (places_from (place_after k e) es) (place_on es n Calculate) (placed_from (place_after k e) es n) i later

pub placed-none : (k : ℕ) (es : List Entry) (n : ℕ) → place_on es n Calculate ≡ None → placed_from k es n ≡ []
placed-none k [] n h = refl
placed-none k (e ∷ es) n h = by (sets_on n Calculate e) h (placed-none (place_after k e) es n)
  where
    none : (o : Option ℕ) → option_map suc o ≡ None → o ≡ None
    none None i = refl
    none (Some j) i = none-some (sym i)

    by : (b : Bool) → cond b (Some 0) (option_map suc (place_on es n Calculate)) ≡ None → (place_on es n Calculate ≡ None → placed_from (place_after k e) es n ≡ []) →
        cond b (record { entry = e; place = k } ∷ []) (placed_from (place_after k e) es n) ≡ []
    by true i later = none-some (sym i)
    by false i later = later (none (place_on es n Calculate) i)

-- ---- entry by entry

places-suc : (k i : ℕ) (es : List Entry) → i < length es → places_from k (take (suc i) es) ≡ places_from k (take i es) ++ (k + length (calculates (take i es))) ∷ []
places-suc k i [] less = absurd (omega (arith, less))
places-suc k zero (e ∷ es) less = ap (λ n. n ∷ []) (let same : k ≡ k + 0 = omega arith in same)
places-suc k (suc i) (e ∷ es) less =
    ap (λ l. k ∷ l) (places-suc (place_after k e) i es (omega (arith, less)))
    ∙ ap (λ n. k ∷ places_from (place_after k e) (take i es) ++ n ∷ []) (by (is_calculate e))
  where
    by : (b : Bool) → cond b (suc k) k + length (calculates (take i es)) ≡ k + length (cond b (e ∷ calculates (take i es)) (calculates (take i es)))
    by true = (let n = length (calculates (take i es)) in omega arith)
    by false = refl

pub places-next : (i : ℕ) (es : List Entry) → i < length es → places_from 0 (take (i + 1) es) ≡ places_from 0 (take i es) ++ length (calculates (take i es)) ∷ []
places-next i es less =
    ap (λ j. places_from 0 (take j es)) (let same : i + 1 ≡ suc i = omega arith in same)
    ∙ places-suc 0 i es less
    ∙ ap (λ n. places_from 0 (take i es) ++ n ∷ []) (let same : 0 + length (calculates (take i es)) ≡ length (calculates (take i es)) = omega arith in same)

-- ---- how many calculates there are

abbrev pub one_if : Bool → ℕ
one_if true = 1
one_if false = 0

pub plus-none : (n : ℕ) → n + 0 ≡ n
plus-none n = omega arith

more-if : (b : Bool) (n : ℕ) → suc n + one_if b ≡ suc (n + one_if b)
more-if b n = let m = one_if b in omega arith

counted-suc : (es : List Entry) (k : ℕ) → length (calculates (take (suc k) es)) ≡ length (calculates (take k es)) + one_if (is_calculate_at (slice_get es k))
counted-suc [] zero = refl
counted-suc [] (suc k) = refl
counted-suc (e ∷ es) zero = by (is_calculate e)
  where
    by : (b : Bool) → length (cond b (e ∷ []) []) ≡ 0 + one_if b
    by true = refl
    by false = refl
counted-suc (e ∷ es) (suc k) = by (is_calculate e) (counted-suc es k)
  where
    by : (b : Bool) → length (calculates (take (suc k) es)) ≡ length (calculates (take k es)) + one_if (is_calculate_at (slice_get es k))
        → length (cond b (e ∷ calculates (take (suc k) es)) (calculates (take (suc k) es))) ≡ length (cond b (e ∷ calculates (take k es)) (calculates (take k es))) + one_if (is_calculate_at (slice_get es k))
    by true h = ap suc h ∙ sym (more-if (is_calculate_at (slice_get es k)) (length (calculates (take k es))))
    by false h = h

pub counted : (es : List Entry) (k : ℕ) → length (calculates (take (k + 1) es)) ≡ length (calculates (take k es)) + one_if (is_calculate_at (slice_get es k))
counted es k = ap (λ j. length (calculates (take j es))) (let same : k + 1 ≡ suc k = omega arith in same) ∙ counted-suc es k

-- ---- node by node

on-suc : (entries : List Entry) (i : ℕ) (ns : List ℕ) (n : ℕ) → slice_get ns i ≡ Some n → placed_on entries (take (suc i) ns) ≡ placed_on entries (take i ns) ++ placed_from 0 entries n
on-suc entries i [] n h = none-some h
on-suc entries zero (m ∷ ms) n h = append-nil (placed_from 0 entries m) ∙ ap (placed_from 0 entries) (some-same h)
on-suc entries (suc i) (m ∷ ms) n h =
    ap (λ l. placed_from 0 entries m ++ l) (on-suc entries i ms n h) ∙ sym (append_assoc (placed_from 0 entries m) (placed_on entries (take i ms)) (placed_from 0 entries n))

pub on-next : (entries : List Entry) (i : ℕ) (ns : List ℕ) (n : ℕ) → slice_get ns i ≡ Some n → placed_on entries (take (i + 1) ns) ≡ placed_on entries (take i ns) ++ placed_from 0 entries n
on-next entries i ns n h = ap (λ j. placed_on entries (take j ns)) (let same : i + 1 ≡ suc i = omega arith in same) ∙ on-suc entries i ns n h

pub placed-nowhere : (o : Option Entry) → placed_at o None ≡ []
placed-nowhere None = refl
placed-nowhere (Some e) = refl

pub got-past : {X : Type 0} (xs : List X) (k : ℕ) → length xs ≤ k → slice_get xs k ≡ None
got-past [] k h = refl
got-past (x ∷ xs) zero h = absurd (omega (arith, h))
got-past (x ∷ xs) (suc k) h = got-past xs k (omega (arith, h))

-- ---- its seat

-- what is found of a node stands on it
pub node-at : (es : List Entry) (n i : ℕ) → place_on es n Calculate ≡ Some i → (e : Entry) → slice_get es i ≡ Some e → e.node ≡ n
node-at [] n i h e g = none-some h
node-at (x ∷ xs) n i h e g = by (sets_on n Calculate x) refl (place_on xs n Calculate) (λ j k f t. node-at xs n j k f t) i h g
  where
    node : (b : Bool) → (x.node == n) ≡ b → (b && is_property x.property Calculate) ≡ true → x.node ≡ n
    node true j k = eqb-true x.node n j
    node false j k = false-true k

    by : (b : Bool) → sets_on n Calculate x ≡ b → (o : Option ℕ) → ((j : ℕ) → o ≡ Some j → (f : Entry) → slice_get xs j ≡ Some f → f.node ≡ n) → (i : ℕ) → cond b (Some 0) (option_map suc o) ≡ Some i
        → slice_get (x ∷ xs) i ≡ Some e → e.node ≡ n
    by true s o rest zero k t = ap (λ (f : Entry). f.node) (sym (some-same t)) ∙ node (x.node == n) refl s
    by true s o rest (suc i) k t = cc k
    by false s None rest i k t = none-some k
    by false s (Some j) rest zero k t = cc k
    by false s (Some j) rest (suc i) k t = rest i (let same : j ≡ i = cc k in ap Some same) e t

pub seat-kept : (es : List Entry) (n i : ℕ) → place_on es n Calculate ≡ Some i → (e : Entry) → slice_get es i ≡ Some e → place_on es e.node Calculate ≡ Some i
seat-kept es n i h e g = ap (λ m. place_on es m Calculate) (node-at es n i h e g) ∙ h

pub all-more : {X : Type 0} (P : X → Type 0) (xs : List X) (x : X) → AllOf P xs → P x → AllOf P (xs ++ x ∷ [])
all-more P [] x h p = (p, tt)
all-more P (y ∷ ys) x h p = (h.0, all-more P ys x h.1 p)
