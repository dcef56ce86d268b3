-- Texts that are taken out of the kept ones, looked for from the end.
use Rattle.std.proofs.Common.{◌≡◌, ℕ, zero, suc, ◌+◌, ◌<◌, ◌≤◌, ◌==◌, ◌||◌, if◌then◌else◌, Bool, true, false, List, [], ◌∷◌, ◌++◌, map, length, take, drop, get_or, set, refl, sym, ap, ◌∙◌, subst, inl, inr, arith, length-set}
use Rattle.std.specs.Prelude.{filter, ◌⊎◌}
use Rattle.std.proofs.lemmas.Bool.{cases_Bool}
use Rattle.std.proofs.lemmas.List.{take-append-drop, map-append, take_more, take_more_set, drop-set-lt, drop-set}
use Rattle.std.proofs.lemmas.List.Folds.{list_any-append}
use Rattle.std.proofs.lemmas.List.Elements.{filter-append}
use Rattle.slab.specs.Slab.{Slab, get}
use Rattle.xf_def_forest.specs.declared.node.NodeId.{NodeId}
use Rattle.xf_def_forest.specs.Visit.{has}
use Rattle.xf_tree_rows.proofs.RowLemmas.{split-at}
use Rattle.xf_tree_contents.specs.Slot.{Slot}
use Rattle.xf_tree_contents.specs.Keys.{kept_of, number_in, kept_times}
use Rattle.xf_tree_contents.proofs.AlikeLemmas.{eq-true}
use Rattle.xf_tree_contents.proofs.FreeLemmas.{same-key, kept_times-append}
use Rattle.xf_tree_walks.proofs.NodeLemmas.{eq-false}
use Rattle.xf_tree_changes.specs.Texts.{numbers_in, numbers_of, is_wanted, is_left, no_text, moved_text}

-- ---- numbers moved

or-turned : (a b t : Bool) → (b || (t || a)) ≡ (a || (t || b))
or-turned true true t = refl
or-turned true false true = refl
or-turned true false false = refl
or-turned false true true = refl
or-turned false true false = refl
or-turned false false t = refl

or-none : (b : Bool) → (b || false) ≡ b
or-none true = refl
or-none false = refl

pub has-append : (n : ℕ) (xs ys : List ℕ) → has n (xs ++ ys) ≡ (has n xs || has n ys)
has-append n xs ys = list_any-append (λ (m : ℕ). n == m) xs ys

has-last : (n : ℕ) (xs : List ℕ) (y : ℕ) → has n (xs ++ (y ∷ [])) ≡ (has n xs || (n == y))
has-last n xs y = has-append n xs (y ∷ []) ∙ ap (λ b. has n xs || b) (or-none (n == y))

-- the two numbers at these places change theirs
swapped-has : (n : ℕ) (xs : List ℕ) (p j : ℕ) → p ≤ j → j < length xs → has n (take (j + 1) (set (set xs p (get_or xs j 0)) j (get_or xs p 0))) ≡ has n (take (j + 1) xs)
swapped-has n [] p j h l = absurd (omega arith)
swapped-has n (x ∷ xs) zero zero h l = refl
swapped-has n (x ∷ xs) zero (suc j) h l =
    let b = get_or xs j 0 in
    let inside : j < length xs = omega arith in
    let e : suc j + 1 ≡ suc (j + 1) = omega arith in
    let one = take_more_set xs j x inside in
    let two = take_more xs j 0 inside in
    ap (λ k. has n (take k (b ∷ set xs j x))) e
    ∙ ap (λ l. (n == b) || has n l) one ∙ ap (λ t. (n == b) || t) (has-last n (take j xs) x)
    ∙ or-turned (n == x) (n == b) (has n (take j xs))
    ∙ sym (ap (λ k. has n (take k (x ∷ xs))) e ∙ ap (λ l. (n == x) || has n l) two ∙ ap (λ t. (n == x) || t) (has-last n (take j xs) b))
swapped-has n (x ∷ xs) (suc p) zero h l = absurd (omega arith)
swapped-has n (x ∷ xs) (suc p) (suc j) h l =
    let e : suc j + 1 ≡ suc (j + 1) = omega arith in
    ap (λ k. has n (take k (x ∷ set (set xs p (get_or xs j 0)) j (get_or xs p 0)))) e
    ∙ ap (λ b. (n == x) || b) (swapped-has n xs p j (omega arith) (omega arith))
    ∙ sym (ap (λ k. has n (take k (x ∷ xs))) e)

numbers-set : (xs : List NodeId) (i : ℕ) (y : NodeId) → numbers_in (set xs i y) ≡ set (numbers_in xs) i y.number
numbers-set [] i y = refl
numbers-set (x ∷ xs) zero y = refl
numbers-set (x ∷ xs) (suc i) y = ap (λ l. x.number ∷ l) (numbers-set xs i y)

number-at : (xs : List NodeId) (i : ℕ) → get_or (numbers_in xs) i 0 ≡ (get_or xs i no_text).number
number-at [] i = refl
number-at (x ∷ xs) zero = refl
number-at (x ∷ xs) (suc i) = number-at xs i

take-numbers : (k : ℕ) (xs : List NodeId) → numbers_in (take k xs) ≡ take k (numbers_in xs)
take-numbers zero xs = refl
take-numbers (suc k) [] = refl
take-numbers (suc k) (x ∷ xs) = ap (λ l. x.number ∷ l) (take-numbers k xs)

pub moved-has : (n : ℕ) (xs : List NodeId) (p j key : ℕ) → p ≤ j → j < length xs → has n (numbers_in (take (j + 1) (moved_text p j key xs))) ≡ has n (numbers_in (take (j + 1) xs))
moved-has n xs p j key h l =
    let x = get_or xs p no_text in
    let y = get_or xs j no_text in
    let long : j < length (numbers_in xs) = subst (λ k. j < k) (sym (numbers-length xs)) l in
    let moved : numbers_in (moved_text p j key xs) ≡ set (set (numbers_in xs) p (get_or (numbers_in xs) j 0)) j (get_or (numbers_in xs) p 0) =
    numbers-set (set xs p y) j (record { number = x.number; place = key }) ∙ ap (λ l. set l j x.number) (numbers-set xs p y)
    ∙ ap (λ k. set (set (numbers_in xs) p k) j x.number) (sym (number-at xs j)) ∙ ap (λ k. set (set (numbers_in xs) p (get_or (numbers_in xs) j 0)) j k) (sym (number-at xs p)) in
    ap (has n) (take-numbers (j + 1) (moved_text p j key xs)) ∙ ap (λ l. has n (take (j + 1) l)) moved ∙ swapped-has n (numbers_in xs) p j h long ∙ ap (has n) (sym (take-numbers (j + 1) xs))
  where
    numbers-length : (xs : List NodeId) → length (numbers_in xs) ≡ length xs
    numbers-length [] = refl
    numbers-length (x ∷ xs) = ap suc (numbers-length xs)

-- where the loop is, the last of those left has come to stand first among the ones found
pub moved-drop : (xs : List NodeId) (p j key : ℕ) → p ≤ j → j < length xs → drop j (moved_text p j key xs) ≡ record { number = (get_or xs p no_text).number; place = key } ∷ drop (j + 1) xs
moved-drop xs p j key h l =
    let y = get_or xs j no_text in
    let long : j < length (set xs p y) = omega (arith, length-set xs p y) in
    let small : p < j + 1 = omega arith in
    drop-set (set xs p y) j (record { number = (get_or xs p no_text).number; place = key }) long ∙ ap (λ l. record { number = (get_or xs p no_text).number; place = key } ∷ l) (drop-set-lt (j + 1) xs p y small)

pub has-at : (xs : List NodeId) (p k : ℕ) → p < k → p < length xs → has (get_or xs p no_text).number (numbers_in (take k xs)) ≡ true
has-at [] p k h l = absurd (omega arith)
has-at (x ∷ xs) zero zero h l = absurd (omega arith)
has-at (x ∷ xs) zero (suc k) h l = rw (eq-true x.number x.number refl) refl
has-at (x ∷ xs) (suc p) zero h l = absurd (omega arith)
has-at (x ∷ xs) (suc p) (suc k) h l = ap (λ b. ((get_or xs p no_text).number == x.number) || b) (has-at xs p k (omega arith) (omega arith)) ∙ or-true ((get_or xs p no_text).number == x.number)
  where
    or-true : (b : Bool) → (b || true) ≡ true
    or-true true = refl
    or-true false = refl

pub split-has : (n : ℕ) (xs : List NodeId) (j : ℕ) → has n (numbers_in xs) ≡ (has n (numbers_in (take j xs)) || has n (numbers_in (drop j xs)))
split-has n xs j =
    ap (λ l. has n (numbers_in l)) (sym (take-append-drop j xs)) ∙ ap (has n) (map-append (λ (x : NodeId). x.number) (take j xs) (drop j xs)) ∙ has-append n (numbers_in (take j xs)) (numbers_in (drop j xs))

pub moved-all : (n : ℕ) (xs : List NodeId) (p j key : ℕ) → p ≤ j → j < length xs → has n (numbers_in (moved_text p j key xs)) ≡ has n (numbers_in xs)
moved-all n xs p j key h l =
    let ys = moved_text p j key xs in
    let y = get_or xs j no_text in
    let small : p < j + 1 = omega arith in
    let last : j < j + 1 = omega arith in
    let rest : drop (j + 1) ys ≡ drop (j + 1) xs = drop-set-lt (j + 1) (set xs p y) j (record { number = (get_or xs p no_text).number; place = key }) last ∙ drop-set-lt (j + 1) xs p y small in
    split-has n ys (j + 1) ∙ ap (λ b. b || has n (numbers_in (drop (j + 1) ys))) (moved-has n xs p j key h l)
    ∙ ap (λ r. has n (numbers_in (take (j + 1) xs)) || has n (numbers_in r)) rest ∙ sym (split-has n xs (j + 1))

pub moved-length : (xs : List NodeId) (p j key : ℕ) → length (moved_text p j key xs) ≡ length xs
moved-length xs p j key = length-set (set xs p (get_or xs j no_text)) j (record { number = (get_or xs p no_text).number; place = key }) ∙ length-set xs p (get_or xs j no_text)

-- ---- numbers that are not among these

pub absent-numbers : (s : Slab Slot) (n : ℕ) (p : ℕ → Bool) (keys : List ℕ) → kept_times n (map (kept_of s) keys) ≡ 0 → has n (numbers_of s (filter p keys)) ≡ false
absent-numbers s n p [] none = refl
absent-numbers s n p (k ∷ ks) none =
    elim (same-key (number_in (get s k)) n) [
      | inl ne ↦
          let i = absent-numbers s n p ks (omega arith) in
          let other = eq-false n (number_in (get s k)) (λ e. ne (sym e)) in
          elim (cases_Bool (p k)) [ inl e ↦ rw e (rw other i) | inr e ↦ rw e i ]
      | inr e ↦ absurd (let one = ap {B = ℕ} (λ b. if b then 1 else 0) (eq-true (number_in (get s k)) n e) in omega arith)
    ]

pub front-none : (s : Slab Slot) (ns keys : List ℕ) → ((n : ℕ) → 1 ≤ kept_times n (map (kept_of s) keys) → has n ns ≡ false)
    → (filter (is_wanted s ns) keys ≡ []) × (filter (is_left s ns) keys ≡ keys)
front-none s ns [] none = (refl, refl)
front-none s ns (k ∷ ks) none =
    let one = ap {B = ℕ} (λ b. if b then 1 else 0) (eq-true (number_in (get s k)) (number_in (get s k)) refl) in
    let here : has (number_in (get s k)) ns ≡ false = none (number_in (get s k)) (omega arith) in
    let i = front-none s ns ks (λ n some. none n (omega arith)) in
    (rw here i.0, rw here (ap (λ l. k ∷ l) i.1))

pub times-parts : (s : Slab Slot) (n at : ℕ) (keys : List ℕ) → kept_times n (map (kept_of s) keys) ≡ kept_times n (map (kept_of s) (take at keys)) + kept_times n (map (kept_of s) (drop at keys))
times-parts s n at keys =
    ap (λ l. kept_times n (map (kept_of s) l)) (sym (take-append-drop at keys)) ∙ ap (kept_times n) (map-append (kept_of s) (take at keys) (drop at keys))
    ∙ kept_times-append n (map (kept_of s) (take at keys)) (map (kept_of s) (drop at keys))

module _ (s : Slab Slot) (keys ns : List ℕ) (apart : (n : ℕ) → kept_times n (map (kept_of s) keys) ≤ 1) where
  -- a key whose number is not among these behind it
  pub behind-none : (i : ℕ) → i < length keys → has (number_in (get s (get_or keys i 0))) (numbers_of s (filter (is_wanted s ns) (drop (i + 1) keys))) ≡ false
  behind-none i h =
      let k = get_or keys i 0 in
      let n = number_in (get s k) in
      let split = ap (λ l. kept_times n (map (kept_of s) l)) (split-at i keys 0 h) in
      let one = ap {B = ℕ} (λ b. if b then 1 else 0) (eq-true n n refl) in
      absent-numbers s n (is_wanted s ns) (drop (i + 1) keys) (omega (arith, times-parts s n i keys, apart n))

  pub wanted-step : (i : ℕ) → i < length keys → has (number_in (get s (get_or keys i 0))) ns ≡ true
      → (filter (is_wanted s ns) (drop i keys) ≡ get_or keys i 0 ∷ filter (is_wanted s ns) (drop (i + 1) keys)) × (filter (is_left s ns) (drop i keys) ≡ filter (is_left s ns) (drop (i + 1) keys))
  wanted-step i h e = (ap (filter (is_wanted s ns)) (split-at i keys 0 h) ∙ rw e refl, ap (filter (is_left s ns)) (split-at i keys 0 h) ∙ rw e refl)

  pub left-step : (i : ℕ) → i < length keys → has (number_in (get s (get_or keys i 0))) ns ≡ false
      → (filter (is_wanted s ns) (drop i keys) ≡ filter (is_wanted s ns) (drop (i + 1) keys)) × (filter (is_left s ns) (drop i keys) ≡ get_or keys i 0 ∷ filter (is_left s ns) (drop (i + 1) keys))
  left-step i h e = (ap (filter (is_wanted s ns)) (split-at i keys 0 h) ∙ rw e refl, ap (filter (is_left s ns)) (split-at i keys 0 h) ∙ rw e refl)

  -- all wanted are found, or all keys are seen
  pub seen-all : (at : ℕ) → (at ≡ 0) ⊎ ((n : ℕ) → has n ns ≡ has n (numbers_of s (filter (is_wanted s ns) (drop at keys))))
      → (filter (is_wanted s ns) keys ≡ filter (is_wanted s ns) (drop at keys)) × (filter (is_left s ns) keys ≡ take at keys ++ filter (is_left s ns) (drop at keys))
  seen-all at (inl e) = (
    ap (λ k. filter (is_wanted s ns) (drop k keys)) (sym e),
    ap (λ k. take k keys ++ filter (is_left s ns) (drop k keys)) (sym e),
  )
  seen-all at (inr all) =
      let none = front-none s ns (take at keys) (λ n some. all n ∙ absent-numbers s n (is_wanted s ns) (drop at keys) (omega (arith, times-parts s n at keys, apart n))) in
      let split : (p : ℕ → Bool) → filter p keys ≡ filter p (take at keys) ++ filter p (drop at keys) = λ p. ap (filter p) (sym (take-append-drop at keys)) ∙ filter-append p (take at keys) (drop at keys) in (
        split (is_wanted s ns) ∙ ap (λ l. l ++ filter (is_wanted s ns) (drop at keys)) none.0,
        split (is_left s ns) ∙ ap (λ l. l ++ filter (is_left s ns) (drop at keys)) none.1,
      )
