-- What the laws of expressions ask of the functions of plain values: a call within a limit gives what it gives without one, without a
-- limit each call gives something, and three functions give truths.
use Rattle.std.proofs.Common.{◌≡◌, ℕ, Bool, true, false, nat_lt, if◌then◌else◌, List, [], length, Option, Some, None, refl, ap, ◌∙◌, bytes_eq, codes}
use Rattle.std.specs.Prelude.{is_some}
use Rattle.std.specs.List.{flat_map}
use Rattle.xf_def_values.specs.declared.plain.Plain.{Plain}
use Rattle.xf_def_values.specs.declared.plain.Plain.TheVariants.{Text, Truth}
use Rattle.xf_def_values.specs.Bounded.{◌>>=◌, capped}
use Rattle.xf_def_values.specs.Conversions.{text_in}
use Rattle.xf_table.specs.Contents.{function_entries}
use Rattle.xf_table.specs.Places.{name_at}
use Rattle.xf_funcs.specs.Given.{string_at}
use Rattle.xf_funcs.specs.Searching.{begins_with, contains, is_true_text}
use Rattle.xf_funcs.specs.Translate.{translated}
use Rattle.xf_funcs.specs.Called.{of_one, of_two, concat_of, substring_called, translate_of, by_texts, by_strings, by_dates, by_name, called}

-- what the first gives, the second gives too
abbrev Extends : {A : Type 0} → Option A → Option A → Type 0
Extends m n = (x : _) → m ≡ Some x → n ≡ Some x

same : {A : Type 0} (m : Option A) → Extends m m
same m x h = h

choice : {A : Type 0} (b : Bool) (m n m' n' : Option A) → Extends m m' → Extends n n' → Extends (if b then m else n) (if b then m' else n')
choice true m n m' n' h k = h
choice false m n m' n' h k = k

kept : (b : Bool) (bytes : List ℕ) → Extends (if b then None else Some bytes) (Some bytes)
kept true bytes x h = absurd (cc)
kept false bytes x h = h

strings : (most : Option ℕ) (bytes : List ℕ) → Extends (capped most bytes) (capped None bytes)
strings None bytes = same (Some bytes)
strings (Some most) bytes = kept (nat_lt most (length bytes)) bytes

onward : {A B : Type 0} (m m' : Option A) (k k' : A → Option B) → Extends m m' → ((a : A) → Extends (k a) (k' a)) → Extends (m >>= k) (m' >>= k')
onward None m' k k' h i x e = absurd (cc)
onward (Some a) m' k k' h i x e = ap (λ m. m >>= k') (h a refl) ∙ i a x e

module _ (most : Option ℕ) (d : ℕ) (given : List Plain) where
  argument : (at : ℕ) → Extends (string_at most d given at) (string_at None d given at)
  argument at = strings most _

  one : (made : List ℕ → Plain) → Extends (of_one most d given made) (of_one None d given made)
  one made = onward (string_at most d given 0) (string_at None d given 0) _ _ (argument 0) (λ string. same (Some (made string)))

  two : (made : List ℕ → List ℕ → Plain) → Extends (of_two most d given made) (of_two None d given made)
  two made =
      onward (string_at most d given 0) (string_at None d given 0) _ _ (argument 0) (λ left.
      onward (string_at most d given 1) (string_at None d given 1) _ _ (argument 1) (λ right. same (Some (made left right))))

  joined : Extends (concat_of most d given) (concat_of None d given)
  joined = onward (capped most (flat_map (text_in d) given)) (capped None (flat_map (text_in d) given)) _ _ (strings most (flat_map (text_in d) given)) (λ bytes. same (Some (Text bytes)))

  part : Extends (substring_called most d given) (substring_called None d given)
  part = onward (string_at most d given 0) (string_at None d given 0) _ _ (argument 0) (λ string. same (Some _))

  images : Extends (translate_of most d given) (translate_of None d given)
  images =
      onward (string_at most d given 0) (string_at None d given 0) _ _ (argument 0) (λ string.
      onward (string_at most d given 1) (string_at None d given 1) _ _ (argument 1) (λ from.
      onward (string_at most d given 2) (string_at None d given 2) _ _ (argument 2) (λ to.
      onward (capped most (translated string from to)) (capped None (translated string from to)) _ _ (strings most (translated string from to)) (λ bytes. same (Some (Text bytes))))))

  texts : (name : List ℕ) → Extends (by_texts most d name given) (by_texts None d name given)
  texts name =
      choice (bytes_eq name (codes "concat")) _ _ _ _ joined
      (choice (bytes_eq name (codes "substring")) _ _ _ _ part
      (choice (bytes_eq name (codes "substring-before")) _ _ _ _ (two _)
      (choice (bytes_eq name (codes "substring-after")) _ _ _ _ (two _)
      (choice (bytes_eq name (codes "normalize-space")) _ _ _ _ (one _)
      (choice (bytes_eq name (codes "translate")) _ _ _ _ images
      (choice (bytes_eq name (codes "property")) _ _ _ _ (one _) (same (Some (Text [])))))))))

  asked : (name : List ℕ) → Extends (by_strings most d name given) (by_strings None d name given)
  asked name =
      choice (bytes_eq name (codes "string-length")) _ _ _ _ (one _)
      (choice (bytes_eq name (codes "contains")) _ _ _ _ (two _)
      (choice (bytes_eq name (codes "starts-with")) _ _ _ _ (two _)
      (choice (bytes_eq name (codes "compare")) _ _ _ _ (two _)
      (choice (bytes_eq name (codes "boolean-from-string")) _ _ _ _ (one _) (texts name)))))

  dates : (name : List ℕ) → Extends (by_dates most d name given) (by_dates None d name given)
  dates name =
      choice (bytes_eq name (codes "days-from-date")) _ _ _ _ (one _)
      (choice (bytes_eq name (codes "days-to-date")) _ _ _ _ (same _)
      (choice (bytes_eq name (codes "seconds-from-dateTime")) _ _ _ _ (one _)
      (choice (bytes_eq name (codes "seconds-to-dateTime")) _ _ _ _ (same _)
      (choice (bytes_eq name (codes "months")) _ _ _ _ (one _)
      (choice (bytes_eq name (codes "seconds")) _ _ _ _ (one _) (asked name))))))

  names : (name : List ℕ) → Extends (by_name most d name given) (by_name None d name given)
  names name =
      choice (bytes_eq name (codes "round")) _ _ _ _ (same _)
      (choice (bytes_eq name (codes "floor")) _ _ _ _ (same _)
      (choice (bytes_eq name (codes "ceiling")) _ _ _ _ (same _)
      (choice (bytes_eq name (codes "power")) _ _ _ _ (same _) (dates name))))

-- a call within a limit gives what it gives without one
pub within_a_limit : (most : Option ℕ) (d code : ℕ) (given : List Plain) (value : Plain) → called most d code given ≡ Some value → called None d code given ≡ Some value
within_a_limit most d code given = names most d given (name_at function_entries code)

-- ---- without a limit

some-of : (b : Bool) (m n : Option Plain) → is_some m ≡ true → is_some n ≡ true → is_some (if b then m else n) ≡ true
some-of true m n h k = h
some-of false m n h k = k

-- each call gives something
pub without_a_limit : (d code : ℕ) (given : List Plain) → is_some (called None d code given) ≡ true
without_a_limit d code given = of-name (name_at function_entries code)
  where
    of-texts : (name : List ℕ) → is_some (by_texts None d name given) ≡ true
    of-texts name =
        some-of (bytes_eq name (codes "concat")) _ _ refl
        (some-of (bytes_eq name (codes "substring")) _ _ refl
        (some-of (bytes_eq name (codes "substring-before")) _ _ refl
        (some-of (bytes_eq name (codes "substring-after")) _ _ refl
        (some-of (bytes_eq name (codes "normalize-space")) _ _ refl
        (some-of (bytes_eq name (codes "translate")) _ _ refl
        (some-of (bytes_eq name (codes "property")) _ _ refl refl))))))

    of-strings : (name : List ℕ) → is_some (by_strings None d name given) ≡ true
    of-strings name =
        some-of (bytes_eq name (codes "string-length")) _ _ refl
        (some-of (bytes_eq name (codes "contains")) _ _ refl
        (some-of (bytes_eq name (codes "starts-with")) _ _ refl
        (some-of (bytes_eq name (codes "compare")) _ _ refl
        (some-of (bytes_eq name (codes "boolean-from-string")) _ _ refl (of-texts name)))))

    of-dates : (name : List ℕ) → is_some (by_dates None d name given) ≡ true
    of-dates name =
        some-of (bytes_eq name (codes "days-from-date")) _ _ refl
        (some-of (bytes_eq name (codes "days-to-date")) _ _ refl
        (some-of (bytes_eq name (codes "seconds-from-dateTime")) _ _ refl
        (some-of (bytes_eq name (codes "seconds-to-dateTime")) _ _ refl
        (some-of (bytes_eq name (codes "months")) _ _ refl
        (some-of (bytes_eq name (codes "seconds")) _ _ refl (of-strings name))))))

    of-name : (name : List ℕ) → is_some (by_name None d name given) ≡ true
    of-name name =
        some-of (bytes_eq name (codes "round")) _ _ refl
        (some-of (bytes_eq name (codes "floor")) _ _ refl
        (some-of (bytes_eq name (codes "ceiling")) _ _ refl
        (some-of (bytes_eq name (codes "power")) _ _ refl (of-dates name))))

-- ---- functions that give truths

abbrev pub IsTruth : Plain → Type 0
IsTruth p = (b : Bool) × (p ≡ Truth b)

truth-of : (m : Option (List ℕ)) (made : List ℕ → Bool) (p : Plain) → (m >>= λ string. Some (Truth (made string))) ≡ Some p → IsTruth p
truth-of None made p h = absurd (cc)
truth-of (Some string) made p h = (made string, cc)

truth-of_two : (m n : Option (List ℕ)) (made : List ℕ → List ℕ → Bool) (p : Plain) → (m >>= λ left. n >>= λ right. Some (Truth (made left right))) ≡ Some p → IsTruth p
truth-of_two None n made p h = absurd (cc)
truth-of_two (Some left) n made p h = truth-of n (made left) p h

pub boolean-from-string_gives_truths : (most : Option ℕ) (d : ℕ) (given : List Plain) (value : Plain) → called most d 2 given ≡ Some value → IsTruth value
unfolding function_entries
boolean-from-string_gives_truths most d given value h = truth-of (string_at most d given 0) is_true_text value h

pub contains_gives_truths : (most : Option ℕ) (d : ℕ) (given : List Plain) (value : Plain) → called most d 7 given ≡ Some value → IsTruth value
unfolding function_entries
contains_gives_truths most d given value h = truth-of_two (string_at most d given 0) (string_at most d given 1) contains value h

pub starts-with_gives_truths : (most : Option ℕ) (d : ℕ) (given : List Plain) (value : Plain) → called most d 36 given ≡ Some value → IsTruth value
unfolding function_entries
starts-with_gives_truths most d given value h = truth-of_two (string_at most d given 0) (string_at most d given 1) begins_with value h
