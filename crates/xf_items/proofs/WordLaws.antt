-- The words of a text, by its parts between white space.
use Rattle.std.proofs.Common.{◌≡◌, ℕ, ◌+◌, ◌-◌, ◌<◌, ◌≤◌, Bool, true, false, not, cond, ◌&&◌, ◌||◌, List, [], ◌∷◌, ◌++◌, length, take, drop, get_or, refl, sym, ap, ◌∙◌, append_assoc, append-nil, arith, length-drop}
use Rattle.std.specs.Prelude.{filter}
use Rattle.std.specs.List.{list_all, list_any, slice_split, onto_first}
use Rattle.std.proofs.lemmas.List.{take_all, take_more, drop_all, drop_more, get_or-drop}
use Rattle.xf_num.specs.Written.{is_space, is_empty}
use Rattle.xf_def_ui.specs.Items.{has_value, words}
use Rattle.xf_def_ui.specs.declared.answers.Item.{Item}
use Rattle.xf_items.specs.Words.{is_other, is_word, parts_after}

-- ---- parts

abbrev begun : List ℕ → List (List ℕ) → List (List ℕ)
begun part [] = part ∷ []
begun part (p ∷ ps) = (part ++ p) ∷ ps

begun-more : (part : List ℕ) (c : ℕ) (ps : List (List ℕ)) → begun (part ++ c ∷ []) ps ≡ begun part (onto_first c ps)
begun-more part c [] = refl
begun-more part c (p ∷ ps) = ap (λ l. l ∷ ps) (append_assoc part (c ∷ []) p)

parts-begun : (part xs : List ℕ) → parts_after part xs ≡ begun part (slice_split is_space xs)
parts-begun part [] = ap (λ l. l ∷ []) (sym (append-nil part))
parts-begun part (c ∷ cs) = by (is_space c) (parts-begun [] cs) (parts-begun (part ++ c ∷ []) cs)
  where
    none : (ps : List (List ℕ)) → begun [] ps ≡ ps → (part ∷ begun [] ps) ≡ begun part ([] ∷ ps)
    none ps e = ap (λ l. part ∷ l) e ∙ ap (λ l. l ∷ ps) (sym (append-nil part))

    split-begun : (xs : List ℕ) → begun [] (slice_split is_space xs) ≡ slice_split is_space xs
    split-begun [] = refl
    split-begun (d ∷ ds) = of (is_space d) (slice_split is_space ds)
      where
        of : (b : Bool) (ps : List (List ℕ)) → begun [] (cond b ([] ∷ ps) (onto_first d ps)) ≡ cond b ([] ∷ ps) (onto_first d ps)
        of true ps = refl
        of false [] = refl
        of false (p ∷ ps) = refl

    by : (b : Bool) → parts_after [] cs ≡ begun [] (slice_split is_space cs) → parts_after (part ++ c ∷ []) cs ≡ begun (part ++ c ∷ []) (slice_split is_space cs)
        → cond b (part ∷ parts_after [] cs) (parts_after (part ++ c ∷ []) cs) ≡ begun part (cond b ([] ∷ slice_split is_space cs) (onto_first c (slice_split is_space cs)))
    by true h k = ap (λ l. part ∷ l) h ∙ none (slice_split is_space cs) (split-begun cs)
    by false h k = k ∙ begun-more part c (slice_split is_space cs)

any-kept : (word : List ℕ → Bool) (ps : List (List ℕ)) → list_any word (filter (λ p. not (is_empty p)) ps) ≡ list_any (is_word word) ps
any-kept word [] = refl
any-kept word (p ∷ ps) = by (not (is_empty p)) (any-kept word ps)
  where
    by : (b : Bool) → list_any word (filter (λ p. not (is_empty p)) ps) ≡ list_any (is_word word) ps
        → list_any word (cond b (p ∷ filter (λ p. not (is_empty p)) ps) (filter (λ p. not (is_empty p)) ps)) ≡ ((b && word p) || list_any (is_word word) ps)
    by true h = ap (λ b. word p || b) h
    by false h = h

pub words-are : (word : List ℕ → Bool) (value : List ℕ) → list_any word (words value) ≡ list_any (is_word word) (parts_after [] value)
words-are word value = any-kept word (slice_split is_space value) ∙ sym (ap (list_any (is_word word)) (parts-begun [] value ∙ begun-none (slice_split is_space value) (split-some value)))
  where
    split-some : (xs : List ℕ) → begun [] (slice_split is_space xs) ≡ slice_split is_space xs
    split-some [] = refl
    split-some (d ∷ ds) = of (is_space d) (slice_split is_space ds)
      where
        of : (b : Bool) (ps : List (List ℕ)) → begun [] (cond b ([] ∷ ps) (onto_first d ps)) ≡ cond b ([] ∷ ps) (onto_first d ps)
        of true ps = refl
        of false [] = refl
        of false (p ∷ ps) = refl

    begun-none : (ps : List (List ℕ)) → begun [] ps ≡ ps → begun [] ps ≡ ps
    begun-none ps e = e

-- ---- one byte more

abbrev pub part_to : List ℕ → ℕ → ℕ → List ℕ
part_to value start at = take (at - start) (drop start value)

part-more : (value : List ℕ) (start at : ℕ) → start ≤ at → at < length value → part_to value start (at + 1) ≡ part_to value start at ++ get_or value at 0 ∷ []
part-more value start at h l =
    let next : at + 1 - start ≡ (at - start) + 1 = omega arith in
    let within : at - start < length (drop start value) = omega (arith, length-drop start value) in
    let place : start + (at - start) ≡ at = omega arith in
    ap (λ k. take k (drop start value)) next ∙ take_more (drop start value) (at - start) 0 within
    ∙ ap (λ c. part_to value start at ++ c ∷ []) (get_or-drop start value (at - start) 0 ∙ ap (λ k. get_or value k 0) place)

parts-at : (value part : List ℕ) (at : ℕ) → at < length value → parts_after part (drop at value) ≡ cond (is_space (get_or value at 0)) (part ∷ parts_after [] (drop (at + 1) value)) (parts_after (part ++ get_or value at 0 ∷ []) (drop (at + 1) value))
parts-at value part at l = ap (parts_after part) (drop_more value at 0 l)

-- a part that ends here
pub at-space : (word : List ℕ → Bool) (value : List ℕ) (start at : ℕ) → at < length value → is_space (get_or value at 0) ≡ true
    → list_any (is_word word) (parts_after (part_to value start at) (drop at value)) ≡ (is_word word (part_to value start at) || list_any (is_word word) (parts_after (part_to value (at + 1) (at + 1)) (drop (at + 1) value)))
at-space word value start at l s =
    let none : at + 1 - (at + 1) ≡ 0 = omega arith in
    ap (list_any (is_word word)) (parts-at value (part_to value start at) at l ∙ ap (λ b. cond b (part_to value start at ∷ parts_after [] (drop (at + 1) value)) (parts_after (part_to value start at ++ get_or value at 0 ∷ []) (drop (at + 1) value))) s)
    ∙ ap (λ p. is_word word (part_to value start at) || list_any (is_word word) (parts_after p (drop (at + 1) value))) (sym (ap (λ k. take k (drop (at + 1) value)) none ∙ nothing (drop (at + 1) value)))
  where
    nothing : (xs : List ℕ) → take 0 xs ≡ []
    nothing [] = refl
    nothing (x ∷ xs) = refl

-- a part that goes on
pub within-part : (word : List ℕ → Bool) (value : List ℕ) (start at : ℕ) → start ≤ at → at < length value → is_space (get_or value at 0) ≡ false
    → list_any (is_word word) (parts_after (part_to value start at) (drop at value)) ≡ list_any (is_word word) (parts_after (part_to value start (at + 1)) (drop (at + 1) value))
within-part word value start at h l s =
    ap (list_any (is_word word)) (parts-at value (part_to value start at) at l
    ∙ ap (λ b. cond b (part_to value start at ∷ parts_after [] (drop (at + 1) value)) (parts_after (part_to value start at ++ get_or value at 0 ∷ []) (drop (at + 1) value))) s
    ∙ ap (λ p. parts_after p (drop (at + 1) value)) (sym (part-more value start at h l)))

-- at the beginning, and at the end
pub at-start : (word : List ℕ → Bool) (value : List ℕ) → list_any (is_word word) (parts_after (part_to value 0 0) (drop 0 value)) ≡ list_any (is_word word) (parts_after [] value)
at-start word [] = refl
at-start word (x ∷ xs) = refl

or-none : (b : Bool) → (b || false) ≡ b
or-none true = refl
or-none false = refl

pub at-end : (word : List ℕ → Bool) (value : List ℕ) (start at : ℕ) → start ≤ at → at ≡ length value → list_any (is_word word) (parts_after (part_to value start at) (drop at value)) ≡ is_word word (drop start value)
at-end word value start at h e =
    ap (λ l. list_any (is_word word) (parts_after (part_to value start at) l)) (drop_all at value (omega arith))
    ∙ or-none (is_word word (part_to value start at))
    ∙ ap (is_word word) (take_all (at - start) (drop start value) (omega (arith, length-drop start value)))

-- what a slice from a place on is
pub whole-rest : (xs : List ℕ) (k : ℕ) → take (length xs - k) (drop k xs) ≡ drop k xs
whole-rest xs k = take_all (length xs - k) (drop k xs) (omega (arith, length-drop k xs))

-- ---- all words

not-or : (b c : Bool) → not (not b || c) ≡ (b && not c)
not-or true c = refl
not-or false c = refl

none-other : (test : List ℕ → Bool) (ws : List (List ℕ)) → not (list_any (λ w. not (test w)) ws) ≡ list_all test ws
none-other test [] = refl
none-other test (w ∷ ws) = not-or (test w) (list_any (λ w. not (test w)) ws) ∙ ap (λ b. test w && b) (none-other test ws)

pub all-values : (items : List Item) (text : List ℕ) → not (list_any (is_other items) (words text)) ≡ list_all (has_value items) (words text)
all-values items text = none-other (has_value items) (words text)
