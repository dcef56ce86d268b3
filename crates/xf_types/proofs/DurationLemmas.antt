-- The texts that are put together of parts, as a reader passes their parts one after the other.
use Rattle.std.proofs.Common.{◌≡◌, ℕ, Bool, true, false, ◌&&◌, ◌||◌, not, ◌==◌, if◌then◌else◌, List, [], ◌∷◌, map, codes, refl, sym, ◌∙◌, ap, arith}
use Rattle.std.specs.Prelude.{bytes_eq}
use Rattle.std.specs.List.{list_all, list_any}
use Rattle.std.proofs.lemmas.Bool.Decides.{nat_tests}
use Rattle.xf_num.specs.Written.{is_digit, is_empty, after_digits}
use Rattle.xf_types.specs.Shapes.{starts_with_digit}
use Rattle.xf_types.specs.Durations.{cuts, is_joined, may_be, is_byte, is_digits, is_part, is_seconds, are_parts, are_some_parts, is_time_of_day, is_signed}
use Rattle.xf_types.specs.Behind.{begins_with, past_first, past_part, past_fraction, past_seconds, past_parts, is_time_parts, is_rest_of_parts, is_parts, past_minus, is_passed}

abbrev Kind : Type 0
Kind = List ℕ → Bool

-- a text cut in two
abbrev Cut : Type 0
Cut = List ℕ × List ℕ

-- ---- tests

or_false : (a : Bool) → (a || false) ≡ a
or_false true = refl
or_false false = refl

and_false : (a : Bool) → (a && false) ≡ false
and_false true = refl
and_false false = refl

and_first : (a b c : Bool) → ((a || b) && c) ≡ ((a && c) || (b && c))
and_first true true true = refl
and_first true true false = refl
and_first true false true = refl
and_first true false false = refl
and_first false b c = refl

four : (a b c d : Bool) → ((a || b) || (c || d)) ≡ ((a || c) || (b || d))
four true b c d = refl
four false true true d = refl
four false true false d = refl
four false false true d = refl
four false false false d = refl

and_both : (a b c : Bool) → ((a && b) && c) ≡ (a && (b && c))
and_both true b c = refl
and_both false b c = refl

regroup : (a b c x y : Bool) → (((a && b) && c) || ((a && x) || y)) ≡ ((a && ((b && c) || x)) || y)
regroup false b c x y = refl
regroup true true true x y = refl
regroup true true false x y = refl
regroup true false c x y = refl

-- ---- joined texts, by their first byte

abbrev joined : Kind → Kind → List ℕ → Bool
joined first second [] = first [] && second []
joined first second (c ∷ text) = (first [] && second (c ∷ text)) || joined (λ t. first (c ∷ t)) second text

shifted : (first second : Kind) (c : ℕ) (all : List Cut) → list_any (λ (p : Cut). first p.0 && second p.1) (map (λ (p : Cut). (c ∷ p.0, p.1)) all) ≡ list_any (λ (p : Cut). first (c ∷ p.0) && second p.1) all
shifted first second c [] = refl
shifted first second c (p ∷ all) = ap (λ x. (first (c ∷ p.0) && second p.1) || x) (shifted first second c all)

by_byte : (first second : Kind) (text : List ℕ) → is_joined first second text ≡ joined first second text
by_byte first second [] = or_false (first [] && second [])
by_byte first second (c ∷ text) =
    ap (λ x. (first [] && second (c ∷ text)) || x) (shifted first second c (cuts text) ∙ by_byte (λ t. first (c ∷ t)) second text)

alike : (first other second next : Kind) → ((t : List ℕ) → first t ≡ other t) → ((t : List ℕ) → second t ≡ next t) → (text : List ℕ) → joined first second text ≡ joined other next text
alike first other second next h k [] = ap (λ x. x && second []) (h []) ∙ ap (λ x. other [] && x) (k [])
alike first other second next h k (c ∷ text) =
    ap (λ x. (x && second (c ∷ text)) || joined (λ t. first (c ∷ t)) second text) (h [])
    ∙ ap (λ x. (other [] && x) || joined (λ t. first (c ∷ t)) second text) (k (c ∷ text))
    ∙ ap (λ x. (other [] && next (c ∷ text)) || x) (alike (λ t. first (c ∷ t)) (λ t. other (c ∷ t)) second next (λ t. h (c ∷ t)) k text)

-- nothing in front
none : (second : Kind) (text : List ℕ) → joined (λ t. false) second text ≡ false
none second [] = refl
none second (c ∷ text) = none second text

after_nothing : (second : Kind) (text : List ℕ) → joined is_empty second text ≡ second text
after_nothing second [] = refl
after_nothing second (c ∷ text) = ap (λ x. second (c ∷ text) || x) (none second text) ∙ or_false (second (c ∷ text))

either : (first other second : Kind) (text : List ℕ) → joined (λ t. first t || other t) second text ≡ (joined first second text || joined other second text)
either first other second [] = and_first (first []) (other []) (second [])
either first other second (c ∷ text) =
    ap (λ x. x || joined (λ t. first (c ∷ t) || other (c ∷ t)) second text) (and_first (first []) (other []) (second (c ∷ text)))
    ∙ ap (λ x. ((first [] && second (c ∷ text)) || (other [] && second (c ∷ text))) || x) (either (λ t. first (c ∷ t)) (λ t. other (c ∷ t)) second text)
    ∙ four (first [] && second (c ∷ text)) (other [] && second (c ∷ text)) (joined (λ t. first (c ∷ t)) second text) (joined (λ t. other (c ∷ t)) second text)

optional : (first second : Kind) (text : List ℕ) → joined (may_be first) second text ≡ (second text || joined first second text)
optional first second text = either is_empty first second text ∙ ap (λ x. x || joined first second text) (after_nothing second text)

constant : (b : Bool) (second third : Kind) (text : List ℕ) → joined (λ t. b && second t) third text ≡ (b && joined second third text)
constant true second third text = refl
constant false second third text = none third text

-- three texts are joined in either order
in_order : (first second third : Kind) (text : List ℕ) → joined (joined first second) third text ≡ joined first (joined second third) text
in_order first second third [] = and_both (first []) (second []) (third [])
in_order first second third (c ∷ text) =
    ap (λ x. ((first [] && second []) && third (c ∷ text)) || x) (
    either (λ t. first [] && second (c ∷ t)) (joined (λ t. first (c ∷ t)) second) third text
    ∙ ap (λ x. x || joined (joined (λ t. first (c ∷ t)) second) third text) (constant (first []) (λ t. second (c ∷ t)) third text)
    ∙ ap (λ x. (first [] && joined (λ t. second (c ∷ t)) third text) || x) (in_order (λ t. first (c ∷ t)) second third text))
    ∙ regroup (first []) (second []) (third (c ∷ text)) (joined (λ t. second (c ∷ t)) third text) (joined (λ t. first (c ∷ t)) (joined second third) text)

-- ---- behind a byte, and behind digits

is_nothing : (text : List ℕ) → bytes_eq text [] ≡ is_empty text
is_nothing [] = refl
is_nothing (c ∷ text) = refl

same : (second : Kind) (text : List ℕ) → second text ≡ second text
same second text = refl

after_byte : (byte : ℕ) (second : Kind) (text : List ℕ) → joined (is_byte byte) second text ≡ (begins_with byte text && second (past_first text))
after_byte byte second [] = refl
after_byte byte second (c ∷ text) =
    elim (c == byte) as (λ b. joined (λ t. b && bytes_eq t []) second text ≡ (b && second text)) [
      | true ↦ alike (λ t. bytes_eq t []) is_empty second second is_nothing (same second) text ∙ after_nothing second text
      | false ↦ none second text
    ]

-- no text of this kind begins with a digit
abbrev NoDigits : Kind → Type 0
NoDigits kind = (c : ℕ) (text : List ℕ) → is_digit c ≡ true → kind (c ∷ text) ≡ false

after_more_digits : (second : Kind) → NoDigits second → (text : List ℕ) → joined (list_all is_digit) second text ≡ second (after_digits text)
after_more_digits second deaf [] = refl
after_more_digits second deaf (c ∷ text) =
    let digit : is_digit c ≡ true → (second (c ∷ text) || joined (list_all is_digit) second text) ≡ second (after_digits text) =
    λ h. ap (λ x. x || joined (list_all is_digit) second text) (deaf c text h) ∙ after_more_digits second deaf text in
    (elim (is_digit c) as (λ b. ((b ≡ true) → (second (c ∷ text) || joined (list_all is_digit) second text) ≡ second (after_digits text)) → (second (c ∷ text) || joined (λ t. b && list_all is_digit t) second text) ≡ second (if b then after_digits text else c ∷ text)) [
      | true ↦ (λ k. k refl)
      | false ↦ (λ k. ap (λ x. second (c ∷ text) || x) (none second text) ∙ or_false (second (c ∷ text)))
    ])
    digit

behind_digits : (second : Kind) → NoDigits second → (text : List ℕ) → joined is_digits second text ≡ (starts_with_digit text && second (after_digits text))
behind_digits second deaf [] = refl
behind_digits second deaf (c ∷ text) =
    elim (is_digit c) as (λ b. joined (λ t. b && list_all is_digit t) second text ≡ (b && second (if b then after_digits text else c ∷ text)))
    [ true ↦ after_more_digits second deaf text | false ↦ none second text ]

other_byte : (c byte : ℕ) → is_digit c ≡ true → is_digit byte ≡ false → (c == byte) ≡ false
other_byte c byte h k = grind (arith, nat_tests)

no_digits_byte : (byte : ℕ) (second : Kind) → is_digit byte ≡ false → NoDigits (joined (is_byte byte) second)
no_digits_byte byte second h c text k = after_byte byte second (c ∷ text) ∙ ap (λ x. x && second text) (other_byte c byte k h)

behind_part : (letter : ℕ) (second : Kind) → is_digit letter ≡ false → (text : List ℕ) → joined (is_part letter) second text ≡ (starts_with_digit text && (begins_with letter (after_digits text) && second (past_first (after_digits text))))
behind_part letter second h text =
    alike (is_part letter) (joined is_digits (is_byte letter)) second second (by_byte is_digits (is_byte letter)) (same second) text
    ∙ in_order is_digits (is_byte letter) second text
    ∙ behind_digits (joined (is_byte letter) second) (no_digits_byte letter second h) text
    ∙ ap (λ x. starts_with_digit text && x) (after_byte letter second (after_digits text))

-- ---- parts passed one after the other

-- the text begins with digits and this letter
abbrev has_part : ℕ → List ℕ → Bool
has_part letter text = starts_with_digit text && begins_with letter (after_digits text)

-- no text of this kind begins with digits and this letter
abbrev Lacks : ℕ → Kind → Type 0
Lacks letter kind = (text : List ℕ) → has_part letter text ≡ true → kind text ≡ false

-- a part that is there is passed, since what stands behind it could not begin so
passed_part : (letter : ℕ) (second : Kind) → is_digit letter ≡ false → Lacks letter second → (text : List ℕ) → is_joined (may_be (is_part letter)) second text ≡ second (past_part letter text)
passed_part letter second h lacks text =
    let there : has_part letter text ≡ true → second text ≡ false = lacks text in
    by_byte (may_be (is_part letter)) second text
    ∙ optional (is_part letter) second text
    ∙ ap (λ x. second text || x) (behind_part letter second h text ∙ sym (and_both (starts_with_digit text) (begins_with letter (after_digits text)) (second (past_first (after_digits text)))))
    ∙ (elim (has_part letter text) as (λ b. ((b ≡ true) → second text ≡ false) → (second text || (b && second (past_first (after_digits text)))) ≡ second (if b then past_first (after_digits text) else text))
    [ true ↦ (λ k. ap (λ x. x || second (past_first (after_digits text))) (k refl)) | false ↦ (λ k. or_false (second text)) ])
    there

-- two letters do not stand at one place
two_bytes : (c letter other : ℕ) → (other == letter) ≡ false → (c == letter) ≡ true → (c == other) ≡ false
two_bytes c letter other h k = grind (arith, nat_tests)

two_letters : (letter other : ℕ) → (other == letter) ≡ false → (text : List ℕ) → begins_with letter text ≡ true → begins_with other text ≡ false
two_letters letter other h [] k = refl
two_letters letter other h (c ∷ text) k = two_bytes c letter other h k

-- the second half of two tests
second_half : (a b : Bool) → (a && b) ≡ true → b ≡ true
second_half true b h = h
second_half false b h = absurd (cc)

not_there : (a b : Bool) → b ≡ false → (a && b) ≡ false
not_there a b h = ap (λ x. a && x) h ∙ and_false a

-- the other part is not passed where this one is there
past_other : (letter other : ℕ) → (other == letter) ≡ false → (text : List ℕ) → has_part letter text ≡ true → past_part other text ≡ text
past_other letter other h text k =
    ap (λ b. if b then past_first (after_digits text) else text)
    (not_there (starts_with_digit text) (begins_with other (after_digits text))
    (two_letters letter other h (after_digits text) (second_half (starts_with_digit text) (begins_with letter (after_digits text)) k)))

-- a list of parts without this letter lacks it, where what stands behind them does
lacks_more : (letter other : ℕ) (second : Kind) → is_digit other ≡ false → (other == letter) ≡ false → Lacks letter second → Lacks other second → Lacks letter (is_joined (may_be (is_part other)) second)
lacks_more letter other second d h lacks lacks_other text k =
    passed_part other second d lacks_other text ∙ ap second (past_other letter other h text k) ∙ lacks text k

-- ---- seconds

no_digits_letter : (byte : ℕ) → is_digit byte ≡ false → NoDigits (is_byte byte)
no_digits_letter byte h c text k = ap (λ x. x && bytes_eq text []) (other_byte c byte k h)

abbrev fraction : Kind
fraction = is_joined (is_byte 46) is_digits

-- a point, digits and then `S`
abbrev pointed : Kind
pointed text = begins_with 46 text && (starts_with_digit (past_first text) && is_byte 83 (after_digits (past_first text)))

behind_fraction : (text : List ℕ) → joined (may_be fraction) (is_byte 83) text ≡ (is_byte 83 text || pointed text)
behind_fraction text =
    optional fraction (is_byte 83) text
    ∙ ap (λ x. is_byte 83 text || x) (
    alike fraction (joined (is_byte 46) is_digits) (is_byte 83) (is_byte 83) (by_byte (is_byte 46) is_digits) (same (is_byte 83)) text
    ∙ in_order (is_byte 46) is_digits (is_byte 83) text
    ∙ after_byte 46 (joined is_digits (is_byte 83)) text
    ∙ ap (λ x. begins_with 46 text && x) (behind_digits (is_byte 83) (no_digits_letter 83 refl) (past_first text)))

no_digits_fraction : NoDigits (joined (may_be fraction) (is_byte 83))
no_digits_fraction c text h =
    behind_fraction (c ∷ text)
    ∙ ap (λ x. x || pointed (c ∷ text)) (no_digits_letter 83 refl c text h)
    ∙ ap (λ x. x && (starts_with_digit text && is_byte 83 (after_digits text))) (other_byte c 46 h refl)

-- `S` alone, behind a fraction where there is one
no_point : (c : ℕ) (text : List ℕ) → (c == 46) ≡ true → is_byte 83 (c ∷ text) ≡ false
no_point c text h = ap (λ x. x && bytes_eq text []) (two_bytes c 46 83 refl h)

past_point : (text : List ℕ) → (is_byte 83 text || pointed text) ≡ is_byte 83 (past_fraction text)
past_point [] = refl
past_point (c ∷ text) =
    let point : (c == 46) ≡ true → is_byte 83 (c ∷ text) ≡ false = no_point c text in
    (elim (c == 46) as (λ b. ((b ≡ true) → is_byte 83 (c ∷ text) ≡ false) → (is_byte 83 (c ∷ text) || (b && (starts_with_digit text && is_byte 83 (after_digits text)))) ≡ is_byte 83 (if b && starts_with_digit text then after_digits text else c ∷ text)) [
      | true ↦ (λ k. elim (starts_with_digit text) as (λ d. (is_byte 83 (c ∷ text) || (d && is_byte 83 (after_digits text))) ≡ is_byte 83 (if d then after_digits text else c ∷ text))
          [ true ↦ ap (λ x. x || is_byte 83 (after_digits text)) (k refl) | false ↦ or_false (is_byte 83 (c ∷ text)) ])
      | false ↦ (λ k. or_false (is_byte 83 (c ∷ text)))
    ])
    point

seconds_are : (text : List ℕ) → is_seconds text ≡ (starts_with_digit text && is_byte 83 (past_fraction (after_digits text)))
seconds_are text =
    by_byte (is_joined is_digits (may_be fraction)) (is_byte 83) text
    ∙ alike (is_joined is_digits (may_be fraction)) (joined is_digits (may_be fraction)) (is_byte 83) (is_byte 83) (by_byte is_digits (may_be fraction)) (same (is_byte 83)) text
    ∙ in_order is_digits (may_be fraction) (is_byte 83) text
    ∙ behind_digits (joined (may_be fraction) (is_byte 83)) no_digits_fraction text
    ∙ ap (λ x. starts_with_digit text && x) (behind_fraction (after_digits text) ∙ past_point (after_digits text))

letter_alone : (byte : ℕ) (text : List ℕ) → is_byte byte text ≡ (begins_with byte text && is_empty (past_first text))
letter_alone byte [] = refl
letter_alone byte (c ∷ text) = ap (λ x. (c == byte) && x) (is_nothing text)

-- nothing is left behind the seconds
one_left : (a b e : Bool) (text rest : List ℕ) → (a ≡ true → is_empty text ≡ false) → e ≡ is_empty (past_first rest) → (is_empty text || (a && (b && e))) ≡ is_empty (if a && b then past_first rest else text)
one_left true true e text rest h k = ap (λ x. x || e) (h refl) ∙ k
one_left true false e text rest h k = or_false (is_empty text)
one_left false b e text rest h k = or_false (is_empty text)

not_empty : (text : List ℕ) → starts_with_digit text ≡ true → is_empty text ≡ false
not_empty [] h = absurd (cc)
not_empty (c ∷ text) h = refl

passed_seconds : (text : List ℕ) → may_be is_seconds text ≡ is_empty (past_seconds text)
passed_seconds text =
    let rest = past_fraction (after_digits text) in
    ap (λ x. is_empty text || x) (seconds_are text ∙ ap (λ x. starts_with_digit text && x) (letter_alone 83 rest))
    ∙ one_left (starts_with_digit text) (begins_with 83 rest) (is_empty (past_first rest)) text rest (not_empty text) refl

first_half : (a b : Bool) → (a && b) ≡ true → a ≡ true
first_half true b h = refl
first_half false b h = h

-- behind digits and a letter that is no `S` there are no seconds
no_seconds_at : (letter : ℕ) (rest : List ℕ) → (46 == letter) ≡ false → (83 == letter) ≡ false → begins_with letter rest ≡ true → is_byte 83 (past_fraction rest) ≡ false
no_seconds_at letter rest h k begins =
    sym (past_point rest)
    ∙ ap (λ x. x || pointed rest) (letter_alone 83 rest ∙ ap (λ x. x && is_empty (past_first rest)) (two_letters letter 83 k rest begins))
    ∙ ap (λ x. x && (starts_with_digit (past_first rest) && is_byte 83 (after_digits (past_first rest)))) (two_letters letter 46 h rest begins)

lacks_seconds : (letter : ℕ) → (46 == letter) ≡ false → (83 == letter) ≡ false → Lacks letter (may_be is_seconds)
lacks_seconds letter h k text there =
    let starts = first_half (starts_with_digit text) (begins_with letter (after_digits text)) there in
    let begins = second_half (starts_with_digit text) (begins_with letter (after_digits text)) there in
    ap (λ x. x || is_seconds text) (not_empty text starts)
    ∙ seconds_are text
    ∙ not_there (starts_with_digit text) (is_byte 83 (past_fraction (after_digits text))) (no_seconds_at letter (after_digits text) h k begins)

-- ---- times and whole durations

passed_time : (text : List ℕ) → are_some_parts (codes "HM") (may_be is_seconds) text ≡ is_time_parts text
passed_time text =
    ap (λ x. not (is_empty text) && x) (
    passed_part 72 (is_joined (may_be (is_part 77)) (may_be is_seconds)) refl
    (lacks_more 72 77 (may_be is_seconds) refl refl (lacks_seconds 72 refl refl) (lacks_seconds 77 refl refl)) text
    ∙ passed_part 77 (may_be is_seconds) refl (lacks_seconds 77 refl refl) (past_part 72 text)
    ∙ passed_seconds (past_parts (codes "HM") text))

abbrev rest_of : Bool → Kind
rest_of true = may_be is_time_of_day
rest_of false = is_empty

time_behind : (text : List ℕ) → is_time_of_day text ≡ (begins_with 84 text && is_time_parts (past_first text))
time_behind text =
    by_byte (is_byte 84) (are_some_parts (codes "HM") (may_be is_seconds)) text
    ∙ after_byte 84 (are_some_parts (codes "HM") (may_be is_seconds)) text
    ∙ ap (λ x. begins_with 84 text && x) (passed_time (past_first text))

passed_rest : (times : Bool) (text : List ℕ) → rest_of times text ≡ is_rest_of_parts times text
passed_rest true [] = refl
passed_rest true (c ∷ text) = time_behind (c ∷ text)
passed_rest false [] = refl
passed_rest false (c ∷ text) = refl

no_digit_first : (times : Bool) (text : List ℕ) → starts_with_digit text ≡ true → is_rest_of_parts times text ≡ false
no_digit_first times [] h = absurd (cc)
no_digit_first false (c ∷ text) h = refl
no_digit_first true (c ∷ text) h = ap (λ x. x && is_time_parts text) (other_byte c 84 h refl)

lacks_rest : (times : Bool) (letter : ℕ) → Lacks letter (rest_of times)
lacks_rest times letter text there =
    passed_rest times text ∙ no_digit_first times text (first_half (starts_with_digit text) (begins_with letter (after_digits text)) there)

-- these parts are passed, and what is left is of this kind
abbrev Passes : List ℕ → Bool → Type 0
Passes letters times = (text : List ℕ) → are_parts letters (rest_of times) text ≡ is_rest_of_parts times (past_parts letters text)

minus_first : (parts : Kind) (text : List ℕ) → is_joined (may_be (is_byte 45)) (is_joined (is_byte 80) parts) text ≡ (begins_with 80 (past_minus text) && parts (past_first (past_minus text)))
minus_first parts [] = refl
minus_first parts (c ∷ text) =
    let after : Kind = λ t. begins_with 80 t && parts (past_first t) in
    let behind : (t : List ℕ) → is_joined (is_byte 80) parts t ≡ after t = λ t. by_byte (is_byte 80) parts t ∙ after_byte 80 parts t in
    let minus : (c == 45) ≡ true → after (c ∷ text) ≡ false =
    λ h. ap (λ x. x && parts text) (two_bytes c 45 80 refl h) in
    by_byte (may_be (is_byte 45)) (is_joined (is_byte 80) parts) (c ∷ text)
    ∙ alike (may_be (is_byte 45)) (may_be (is_byte 45)) (is_joined (is_byte 80) parts) after (same (may_be (is_byte 45))) behind (c ∷ text)
    ∙ optional (is_byte 45) after (c ∷ text)
    ∙ ap (λ x. after (c ∷ text) || x) (after_byte 45 after (c ∷ text))
    ∙ (elim (c == 45) as (λ b. ((b ≡ true) → after (c ∷ text) ≡ false) → (after (c ∷ text) || (b && after text)) ≡ after (if b then text else c ∷ text))
    [ true ↦ (λ k. ap (λ x. x || after text) (k refl)) | false ↦ (λ k. or_false (after (c ∷ text))) ])
    minus

passed_all : (letters : List ℕ) (times : Bool) → Passes letters times → (text : List ℕ) → is_signed letters (rest_of times) text ≡ is_passed letters times text
passed_all letters times passes text =
    let parts = past_first (past_minus text) in
    minus_first (are_some_parts letters (rest_of times)) text
    ∙ ap (λ x. begins_with 80 (past_minus text) && (not (is_empty parts) && x)) (passes parts)

passes_two : (first second : ℕ) (times : Bool) → is_digit first ≡ false → is_digit second ≡ false → (second == first) ≡ false → Passes (first ∷ second ∷ []) times
passes_two first second times h k e text =
    passed_part first (is_joined (may_be (is_part second)) (rest_of times)) h
    (lacks_more first second (rest_of times) k e (lacks_rest times first) (lacks_rest times second)) text
    ∙ passed_part second (rest_of times) k (lacks_rest times second) (past_part first text)
    ∙ passed_rest times (past_part second (past_part first text))

passes_day : Passes (codes "D") true
passes_day text = passed_part 68 (rest_of true) refl (lacks_rest true 68) text ∙ passed_rest true (past_part 68 text)

passes_dates : Passes (codes "YMD") true
passes_dates text =
    let days : Kind = is_joined (may_be (is_part 68)) (rest_of true) in
    let lacks_days : (letter : ℕ) → (68 == letter) ≡ false → Lacks letter days =
    λ letter h. lacks_more letter 68 (rest_of true) refl h (lacks_rest true letter) (lacks_rest true 68) in
    passed_part 89 (is_joined (may_be (is_part 77)) days) refl
    (lacks_more 89 77 days refl refl (lacks_days 89 refl) (lacks_days 77 refl)) text
    ∙ passed_part 77 days refl (lacks_days 77 refl) (past_part 89 text)
    ∙ passes_day (past_part 77 (past_part 89 text))

pub duration_passed : (text : List ℕ) → is_signed (codes "YMD") (may_be is_time_of_day) text ≡ is_passed (codes "YMD") true text
duration_passed = passed_all (codes "YMD") true passes_dates

pub day_time_passed : (text : List ℕ) → is_signed (codes "D") (may_be is_time_of_day) text ≡ is_passed (codes "D") true text
day_time_passed = passed_all (codes "D") true passes_day

pub year_month_passed : (text : List ℕ) → is_signed (codes "YM") is_empty text ≡ is_passed (codes "YM") false text
year_month_passed = passed_all (codes "YM") false (passes_two 89 77 false refl refl refl)
