-- The characters of texts that end, and the tokens of what stands behind some of them.
use Rattle.std.proofs.Common.{◌≡◌, ◌||◌, ◌==◌, ℕ, zero, suc, ◌+◌, ◌-◌, ◌≤◌, Bool, true, false, List, [], ◌∷◌, ◌++◌, length, take, drop, if◌then◌else◌, Some, None, refl, sym, ap, ◌∙◌, arith, length-append, append_assoc}
use Rattle.std.specs.Prelude.{Option, encode_utf8_all}
use Rattle.std.specs.Char.{len_utf8}
use Rattle.std.specs.Str.{chars, IsUtf8, IsCharBoundary}
use Rattle.std.proofs.lemmas.Str.{chars-nil, encodes-chars, encodes-append, length-encode, IsCharBoundary-at_seam}
use Rattle.std.proofs.Math.Seq.{take-append_seam, drop-append_seam}
use lib.Utf8.{encode}
use Rattle.xf_num.specs.Written.{is_space, is_digit, after_digits}
use Rattle.xf_name.specs.Part.{begins_part, continues_part}
use Rattle.xf_path.specs.declared.token.Kind.{Kind}
use Rattle.xf_path.specs.declared.token.Kind.TheVariants as k
use Rattle.xf_path.specs.Tokens.{Token, after_space, after_part, after_point, kind_at_colon, kind_before, kind_of_name, name_on, name_from, after_quote, literal_by, literal_from, dot_from, sign_of, with_equal, doubled, pair_of, sign_by, sign_from, token_from, tokens_from}
use Rattle.xf_path.specs.Reading.{after_next}
use Rattle.xf_path.specs.Left.{tokens_at}
use Rattle.xf_path.specs.Cursor.{behind}

pub chars-empty : (bs : List ℕ) → length bs ≡ 0 → chars bs ≡ []
chars-empty [] none = chars-nil
chars-empty (b ∷ bs) none = absurd (omega (arith, none))

-- ---- what a token leaves is an end of what stood there

abbrev pub Ends : List ℕ → List ℕ → Type 0
Ends whole end = (front : List ℕ) × (whole ≡ front ++ end)

all_of : (cs : List ℕ) → Ends cs cs
all_of cs = ([], refl)

behind_one : (c : ℕ) (cs end : List ℕ) → Ends cs end → Ends (c ∷ cs) end
behind_one c cs end h = (c ∷ h.0, ap (λ rest. c ∷ rest) h.1)

behind_end : (cs middle end : List ℕ) → Ends cs middle → Ends middle end → Ends cs end
behind_end cs middle end h k = (h.0 ++ k.0, h.1 ∙ ap (λ rest. h.0 ++ rest) k.1 ∙ sym (append_assoc h.0 k.0 end))

chosen : {A : Type 0} (P : A → Type 0) (b : Bool) (x y : A) → P x → P y → P (if b then x else y)
chosen P true x y h k = h
chosen P false x y h k = k

digits_end : (cs : List ℕ) → Ends cs (after_digits cs)
digits_end [] = all_of []
digits_end (c ∷ cs) = chosen (Ends (c ∷ cs)) (is_digit c) (after_digits cs) (c ∷ cs) (behind_one c cs (after_digits cs) (digits_end cs)) (all_of (c ∷ cs))

part_ends : (cs : List ℕ) → Ends cs (after_part cs)
part_ends [] = all_of []
part_ends (c ∷ cs) = chosen (Ends (c ∷ cs)) (continues_part c) (after_part cs) (c ∷ cs) (behind_one c cs (after_part cs) (part_ends cs)) (all_of (c ∷ cs))

point_ends : (cs : List ℕ) → Ends cs (after_point cs)
point_ends [] = all_of []
point_ends (c ∷ cs) = chosen (Ends (c ∷ cs)) (c == 46) (after_digits cs) (c ∷ cs) (behind_one c cs (after_digits cs) (digits_end cs)) (all_of (c ∷ cs))

-- a kind and what is left: no end of the text, and an end of what stood there
pub record Cuts (cs : List ℕ) (found : Kind × List ℕ) : Type 0 where
  pub ends : Ends cs found.1
  pub is_token : (later : List Token) → behind found.0 later ≡ later

abbrev IsToken : Kind → Type 0
IsToken kind = (later : List Token) → behind kind later ≡ later

colon_is_token : (cs : List ℕ) → IsToken (kind_at_colon cs)
colon_is_token [] = λ later. refl
colon_is_token (c ∷ cs) = chosen IsToken (c == 58) k.AxisName k.Name (λ later. refl) (λ later. refl)

before_is_token : (cs : List ℕ) → IsToken (kind_before cs)
before_is_token [] = λ later. refl
before_is_token (c ∷ cs) = chosen IsToken (c == 40) k.Called _ (λ later. refl) (chosen IsToken (c == 58) (kind_at_colon cs) k.Name (colon_is_token cs) (λ later. refl))

name_is_token : (cs : List ℕ) → IsToken (kind_of_name cs)
unfolding kind_of_name
name_is_token cs = before_is_token (after_space cs)

name_on_cuts : (c : ℕ) (cs : List ℕ) → Cuts (c ∷ cs) (name_on (c ∷ cs) cs)
name_on_cuts c [] = record { ends = all_of (c ∷ []); is_token = name_is_token (c ∷ []) }
name_on_cuts c (d ∷ cs) =
    chosen (Cuts (c ∷ d ∷ cs)) (begins_part d) (kind_of_name (after_part cs), after_part cs) _
    (record { ends = behind_one c (d ∷ cs) _ (behind_one d cs _ (part_ends cs)); is_token = name_is_token (after_part cs) })
    (chosen (Cuts (c ∷ d ∷ cs)) (d == 42) (k.SpaceStar, cs) (kind_of_name (c ∷ d ∷ cs), c ∷ d ∷ cs)
    (record { ends = behind_one c (d ∷ cs) _ (behind_one d cs _ (all_of cs)); is_token = λ later. refl })
    (record { ends = all_of (c ∷ d ∷ cs); is_token = name_is_token (c ∷ d ∷ cs) }))

name_cuts : (cs : List ℕ) → Cuts cs (name_from cs)
name_cuts [] = record { ends = all_of []; is_token = name_is_token [] }
name_cuts (c ∷ cs) =
    chosen (Cuts (c ∷ cs)) (c == 58) (name_on (c ∷ cs) cs) (kind_of_name (c ∷ cs), c ∷ cs) (name_on_cuts c cs) (record { ends = all_of (c ∷ cs); is_token = name_is_token (c ∷ cs) })

dot_cuts : (cs : List ℕ) → Cuts cs (dot_from cs)
dot_cuts [] = record { ends = all_of []; is_token = λ later. refl }
dot_cuts (c ∷ cs) =
    chosen (Cuts (c ∷ cs)) (c == 46) (k.DotDot, cs) _
    (record { ends = behind_one c cs _ (all_of cs); is_token = λ later. refl })
    (chosen (Cuts (c ∷ cs)) (is_digit c) (k.Number, after_digits cs) (k.Dot, c ∷ cs)
    (record { ends = behind_one c cs _ (digits_end cs); is_token = λ later. refl })
    (record { ends = all_of (c ∷ cs); is_token = λ later. refl }))

-- what is found, if anything, is an end
abbrev EndsIf : List ℕ → Option (List ℕ) → Type 0
EndsIf cs None = Ends cs cs
EndsIf cs (Some after) = Ends cs after

behind_one_if : (c : ℕ) (cs : List ℕ) (found : Option (List ℕ)) → EndsIf cs found → EndsIf (c ∷ cs) found
behind_one_if c cs None h = all_of (c ∷ cs)
behind_one_if c cs (Some after) h = behind_one c cs after h

quote_ends : (quote : ℕ) (cs : List ℕ) → EndsIf cs (after_quote quote cs)
quote_ends quote [] = all_of []
quote_ends quote (c ∷ cs) =
    chosen (EndsIf (c ∷ cs)) (c == quote) (Some cs) (after_quote quote cs) (behind_one c cs cs (all_of cs)) (behind_one_if c cs (after_quote quote cs) (quote_ends quote cs))

literal_cuts_by : (cs : List ℕ) (found : Option (List ℕ)) → EndsIf cs found → Cuts cs (literal_by cs found)
literal_cuts_by cs None h = record { ends = h; is_token = λ later. refl }
literal_cuts_by cs (Some after) h = record { ends = h; is_token = λ later. refl }

sign_is_token : (c : ℕ) → IsToken (sign_of c)
sign_is_token c =
    chosen IsToken (c == 40) k.Open _ (λ later. refl)
    (chosen IsToken (c == 41) k.Close _ (λ later. refl)
    (chosen IsToken (c == 91) k.OpenSquare _ (λ later. refl)
    (chosen IsToken (c == 93) k.CloseSquare _ (λ later. refl)
    (chosen IsToken (c == 42) k.Star _ (λ later. refl)
    (chosen IsToken (c == 43) k.Plus _ (λ later. refl)
    (chosen IsToken (c == 45) k.Minus _ (λ later. refl)
    (chosen IsToken (c == 44) k.Comma _ (λ later. refl)
    (chosen IsToken (c == 47) k.Slash _ (λ later. refl)
    (chosen IsToken (c == 60) k.Less _ (λ later. refl)
    (chosen IsToken (c == 61) k.Equal _ (λ later. refl)
    (chosen IsToken (c == 62) k.Greater _ (λ later. refl)
    (chosen IsToken (c == 64) k.At _ (λ later. refl)
    (chosen IsToken (c == 124) k.Bar k.Other (λ later. refl) (λ later. refl))))))))))))))

-- where a kind is found, it is no end
abbrev IsTokenIf : Option Kind → Type 0
IsTokenIf None = IsToken k.Other
IsTokenIf (Some kind) = IsToken kind

equal_is_token : (c : ℕ) → IsTokenIf (with_equal c)
equal_is_token c =
    chosen IsTokenIf (c == 33) (Some k.NotEqual) _ (λ later. refl)
    (chosen IsTokenIf (c == 60) (Some k.LessOrEqual) _ (λ later. refl)
    (chosen IsTokenIf (c == 62) (Some k.GreaterOrEqual) None (λ later. refl) (λ later. refl)))

doubled_is_token : (c : ℕ) → IsTokenIf (doubled c)
doubled_is_token c =
    chosen IsTokenIf (c == 47) (Some k.SlashSlash) _ (λ later. refl) (chosen IsTokenIf (c == 58) (Some k.ColonColon) None (λ later. refl) (λ later. refl))

pair_is_token : (c d : ℕ) → IsTokenIf (pair_of c d)
pair_is_token c d =
    chosen IsTokenIf (d == 61) (with_equal c) _ (equal_is_token c) (chosen IsTokenIf (d == c) (doubled c) None (doubled_is_token c) (λ later. refl))

sign_cuts_by : (c d : ℕ) (cs : List ℕ) (found : Option Kind) → IsTokenIf found → Cuts (d ∷ cs) (sign_by c d cs found)
sign_cuts_by c d cs None h = record { ends = all_of (d ∷ cs); is_token = sign_is_token c }
sign_cuts_by c d cs (Some kind) h = record { ends = behind_one d cs cs (all_of cs); is_token = h }

sign_cuts : (c : ℕ) (cs : List ℕ) → Cuts cs (sign_from c cs)
sign_cuts c [] = record { ends = all_of []; is_token = sign_is_token c }
sign_cuts c (d ∷ cs) = sign_cuts_by c d cs (pair_of c d) (pair_is_token c d)

-- a token's kind and what is left behind it
pub token_cuts : (c : ℕ) (cs : List ℕ) → Cuts cs (token_from c cs)
token_cuts c cs =
    chosen (Cuts cs) (is_digit c) (k.Number, after_point (after_digits cs)) _
    (record { ends = behind_end cs _ _ (digits_end cs) (point_ends (after_digits cs)); is_token = λ later. refl })
    (chosen (Cuts cs) (c == 46) (dot_from cs) _ (dot_cuts cs)
    (chosen (Cuts cs) (begins_part c) (name_from (after_part cs)) _
    (let name = name_cuts (after_part cs) in record { ends = behind_end cs _ _ (part_ends cs) name.ends; is_token = name.is_token })
    (chosen (Cuts cs) ((c == 34) || (c == 39)) (literal_from c cs) (sign_from c cs) (literal_cuts_by cs (after_quote c cs) (quote_ends c cs)) (sign_cuts c cs))))

-- ---- bytes

pub bytes_more : (c : ℕ) (cs : List ℕ) → length (encode_utf8_all (c ∷ cs)) ≡ len_utf8 c + length (encode_utf8_all cs)
bytes_more c cs = length-append (encode c) (encode_utf8_all cs) ∙ ap (λ n. n + length (encode_utf8_all cs)) (length-encode c)

-- the characters that belong to the token before are passed over
skips : (front cs : List ℕ) (place : ℕ) → tokens_from (length front) place (front ++ cs) ≡ tokens_from 0 (place + length (encode_utf8_all front)) cs
skips [] cs place = ap (λ p. tokens_from 0 p cs) (omega arith)
skips (c ∷ front) cs place =
    let more = bytes_more c front in
    skips front cs (place + len_utf8 c) ∙ ap (λ p. tokens_from 0 p cs) (omega (arith, more))

-- ---- white space

pub record Spaces (cs : List ℕ) : Type 0 where
  pub front : List ℕ
  pub is : cs ≡ front ++ after_space cs
  pub passed : (place : ℕ) → tokens_from 0 place cs ≡ tokens_from 0 (place + length (encode_utf8_all front)) (after_space cs)

spaces_by : (b : Bool) (c : ℕ) (cs : List ℕ) → is_space c ≡ b → Spaces cs → Spaces (c ∷ cs)
spaces_by true c cs h s = record {
  front = c ∷ s.front;
  is = rw h (ap (λ rest. c ∷ rest) s.is);
  passed = λ place. let more = bytes_more c s.front in rw h (s.passed (place + len_utf8 c) ∙ ap (λ p. tokens_from 0 p (after_space cs)) (omega (arith, more)));
}
spaces_by false c cs h s = record {
  front = [];
  is = rw h refl;
  passed = λ place.
      let none : place ≡ place + length (encode_utf8_all []) = omega arith in
      let stays : after_space (c ∷ cs) ≡ c ∷ cs = rw h refl in
      ap (λ p. tokens_from 0 p (c ∷ cs)) none ∙ ap (tokens_from 0 (place + length (encode_utf8_all []))) (sym stays);
}

pub spaces : (cs : List ℕ) → Spaces cs
spaces [] = record { front = []; is = refl; passed = λ place. ap (λ p. tokens_from 0 p []) (omega arith) }
spaces (c ∷ cs) = spaces_by (is_space c) c cs refl (spaces cs)

no_space_by : (b : Bool) (d : ℕ) (cs : List ℕ) (c : ℕ) (ds : List ℕ) → is_space d ≡ b → (after_space cs ≡ c ∷ ds → is_space c ≡ false) → after_space (d ∷ cs) ≡ c ∷ ds → is_space c ≡ false
no_space_by true d cs c ds h before e = before (rw h at e)
no_space_by false d cs c ds h before e =
    let same : d ∷ cs ≡ c ∷ ds = rw h at e in
    let first : d ≡ c = cc in
    ap is_space (sym first) ∙ h

pub no_space : (cs : List ℕ) (c : ℕ) (ds : List ℕ) → after_space cs ≡ c ∷ ds → is_space c ≡ false
no_space [] c ds e = absurd (cc)
no_space (d ∷ cs) c ds e = no_space_by (is_space d) d cs c ds refl (no_space cs c ds) e

-- ---- texts

-- a text whose characters end with those of another ends with the other
text_ends : (bs ds front : List ℕ) → IsUtf8 bs → IsUtf8 ds → chars bs ≡ front ++ chars ds → bs ≡ encode_utf8_all front ++ ds
text_ends bs ds front utf8 utf8_end e =
    sym (encodes-chars bs utf8) ∙ ap encode_utf8_all e ∙ encodes-append front (chars ds) ∙ ap (λ t. encode_utf8_all front ++ t) (encodes-chars ds utf8_end)

-- white space before the first token changes nothing
pub record PassesSpace (text rest : List ℕ) : Type 0 where
  pub shorter : length rest ≤ length text
  pub same : (end : ℕ) → length text ≤ end → tokens_at end text ≡ tokens_at end rest

pub space_passed : (text rest : List ℕ) → IsUtf8 text → IsUtf8 rest → chars rest ≡ after_space (chars text) → PassesSpace text rest
space_passed text rest utf8 utf8_rest e =
    let s = spaces (chars text) in
    let split = text_ends text rest s.front utf8 utf8_rest (s.is ∙ ap (λ t. s.front ++ t) (sym e)) in
    let sizes : length text ≡ length (encode_utf8_all s.front) + length rest = ap length split ∙ length-append (encode_utf8_all s.front) rest in
    record {
      shorter = omega (arith, sizes);
      same = λ end within.
          let at : end - length text + length (encode_utf8_all s.front) ≡ end - length rest = omega (arith, sizes, within) in
          s.passed (end - length text) ∙ ap (λ p. tokens_from 0 p (after_space (chars text))) at ∙ ap (tokens_from 0 (end - length rest)) (sym e);
    }

pub end_cut : (end : ℕ) (text rest : List ℕ) → IsUtf8 text → IsUtf8 rest → chars rest ≡ after_space (chars text) → chars rest ≡ [] → length text ≤ end → tokens_at end text ≡ record { kind = k.End; place = end - length rest; text = rest } ∷ []
end_cut end text rest utf8 utf8_rest e none within =
    let passes = space_passed text rest utf8 utf8_rest e in
    let empty : rest ≡ [] = sym (encodes-chars rest utf8_rest) ∙ ap encode_utf8_all none in
    passes.same end within ∙ ap (tokens_from 0 (end - length rest)) none ∙ ap (λ t. record { kind = k.End; place = end - length rest; text = t } ∷ []) (sym empty)

pub record TokenCut (text rest : List ℕ) (kind : Kind) : Type 0 where
  pub shorter : length rest ≤ length text
  pub boundary : IsCharBoundary text (length text - length rest)
  pub behind : drop (length text - length rest) text ≡ rest
  pub is_token : IsToken kind
  pub tokens : (end : ℕ) → length text ≤ end → tokens_at end text ≡ record { kind = kind; place = end - length text; text = take (length text - length rest) text } ∷ tokens_at end rest

-- the text of a token and what is behind it, by the token's characters
tokens_by : (place c : ℕ) (cs front after : List ℕ) → cs ≡ front ++ after → (token_from c cs).1 ≡ after → is_space c ≡ false
    → tokens_from 0 place (c ∷ cs) ≡ record { kind = (token_from c cs).0; place = place; text = encode_utf8_all (c ∷ front) } ∷ tokens_from 0 (place + length (encode_utf8_all (c ∷ front))) after
tokens_by place c cs front after split found other =
    let count : length cs - length (token_from c cs).1 ≡ length front = rw (found, split) (let sizes = length-append front after in omega (arith, sizes)) in
    let more = bytes_more c front in
    let first : tokens_from 0 place (c ∷ cs) ≡ record { kind = (token_from c cs).0; place = place; text = encode_utf8_all (c ∷ take (length cs - length (token_from c cs).1) cs) } ∷ tokens_from (length cs - length (token_from c cs).1) (place + len_utf8 c) cs = rw other refl in
    let taken : take (length front) cs ≡ front = ap (take (length front)) split ∙ take-append_seam front after in
    let later : tokens_from (length front) (place + len_utf8 c) cs ≡ tokens_from 0 (place + length (encode_utf8_all (c ∷ front))) after =
    ap (tokens_from (length front) (place + len_utf8 c)) split ∙ skips front after (place + len_utf8 c) ∙ ap (λ p. tokens_from 0 p after) (omega (arith, more)) in
    first
    ∙ ap (λ n. record { kind = (token_from c cs).0; place = place; text = encode_utf8_all (c ∷ take n cs) } ∷ tokens_from n (place + len_utf8 c) cs) count
    ∙ ap (λ t. record { kind = (token_from c cs).0; place = place; text = encode_utf8_all (c ∷ t) } ∷ tokens_from (length front) (place + len_utf8 c) cs) taken
    ∙ ap (λ ts. record { kind = (token_from c cs).0; place = place; text = encode_utf8_all (c ∷ front) } ∷ ts) later

pub token_cut : (text later rest : List ℕ) (c : ℕ) (kind : Kind) → IsUtf8 text → IsUtf8 rest → chars text ≡ c ∷ chars later → is_space c ≡ false → (kind, chars rest) ≡ token_from c (chars later) → TokenCut text rest kind
token_cut text later rest c kind utf8 utf8_rest begins other found =
    let cuts = token_cuts c (chars later) in
    let after : (token_from c (chars later)).1 ≡ chars rest = ap (λ p. p.1) (sym found) in
    let is_kind : (token_from c (chars later)).0 ≡ kind = ap (λ p. p.0) (sym found) in
    let front = cuts.ends.0 in
    let chars_split : chars later ≡ front ++ chars rest = cuts.ends.1 ∙ ap (λ t. front ++ t) after in
    let split : text ≡ encode_utf8_all (c ∷ front) ++ rest = text_ends text rest (c ∷ front) utf8 utf8_rest (begins ∙ ap (λ t. c ∷ t) chars_split) in
    let sizes : length text ≡ length (encode_utf8_all (c ∷ front)) + length rest = ap length split ∙ length-append (encode_utf8_all (c ∷ front)) rest in
    let size : length (encode_utf8_all (c ∷ front)) ≡ length text - length rest = omega (arith, sizes) in
    let spelled : take (length text - length rest) text ≡ encode_utf8_all (c ∷ front) =
    ap (λ n. take n text) (sym size) ∙ ap (take (length (encode_utf8_all (c ∷ front)))) split ∙ take-append_seam (encode_utf8_all (c ∷ front)) rest in
    record {
      shorter = omega (arith, sizes);
      boundary = rw (sym size) (IsCharBoundary-at_seam text (encode_utf8_all (c ∷ front)) rest split utf8_rest);
      behind = ap (λ n. drop n text) (sym size) ∙ ap (drop (length (encode_utf8_all (c ∷ front)))) split ∙ drop-append_seam (encode_utf8_all (c ∷ front)) rest;
      is_token = λ ts. ap (λ kind. behind kind ts) (sym is_kind) ∙ cuts.is_token ts;
      tokens = λ end within.
          let at : end - length text + length (encode_utf8_all (c ∷ front)) ≡ end - length rest = omega (arith, sizes, within) in
          ap (tokens_from 0 (end - length text)) begins
          ∙ tokens_by (end - length text) c (chars later) front (chars rest) chars_split after other
          ∙ ap (λ kind. record { kind = kind; place = end - length text; text = encode_utf8_all (c ∷ front) } ∷ tokens_from 0 (end - length text + length (encode_utf8_all (c ∷ front))) (chars rest)) is_kind
          ∙ ap (λ t. record { kind = kind; place = end - length text; text = t } ∷ tokens_from 0 (end - length text + length (encode_utf8_all (c ∷ front))) (chars rest)) (sym spelled)
          ∙ ap (λ p. record { kind = kind; place = end - length text; text = take (length text - length rest) text } ∷ tokens_from 0 p (chars rest)) at;
    }

-- the same of a text that white space begins, as the code splits it
pub record TextCut (whole text rest : List ℕ) (kind : Kind) : Type 0 where
  pub within : length text ≤ length whole
  pub shorter : length rest ≤ length text
  pub boundary : IsCharBoundary text (length text - length rest)
  pub left : (end : ℕ) (front back : List ℕ) → length whole ≤ end → front ≡ take (length text - length rest) text → back ≡ drop (length text - length rest) text
      → record { kind = kind; place = end - length text; text = front } ∷ behind kind (tokens_at end back) ≡ tokens_at end whole

pub text_cut : (whole text later rest : List ℕ) (c : ℕ) (kind : Kind) → IsUtf8 whole → IsUtf8 text → IsUtf8 rest → chars text ≡ after_space (chars whole) → chars text ≡ c ∷ chars later → (kind, chars rest) ≡ token_from c (chars later) → TextCut whole text rest kind
text_cut whole text later rest c kind utf8_whole utf8 utf8_rest passed begins found =
    let space = space_passed whole text utf8_whole utf8 passed in
    let cut = token_cut text later rest c kind utf8 utf8_rest begins (no_space (chars whole) c (chars later) (sym passed ∙ begins)) found in
    record {
      within = space.shorter;
      shorter = cut.shorter;
      boundary = cut.boundary;
      left = λ end front back within is_front is_back.
          let inside : length text ≤ end = omega (arith, within, space.shorter) in
          ap (λ t. record { kind = kind; place = end - length text; text = t } ∷ behind kind (tokens_at end back)) is_front
          ∙ ap (λ ts. record { kind = kind; place = end - length text; text = take (length text - length rest) text } ∷ ts) (cut.is_token (tokens_at end back) ∙ ap (tokens_at end) (is_back ∙ cut.behind))
          ∙ sym (cut.tokens end inside)
          ∙ sym (space.same end within);
    }

-- ---- what is left behind a token

-- a text has a token at least, its end
tokens_more : (t : Token) (skipped place : ℕ) (cs : List ℕ) → after_next (t ∷ tokens_from skipped place cs) ≡ tokens_from skipped place cs
tokens_more t skipped place [] = refl
tokens_more t (suc skipped) place (c ∷ cs) = tokens_more t skipped (place + len_utf8 c) cs
tokens_more t zero place (c ∷ cs) =
    chosen (λ ts. after_next (t ∷ ts) ≡ ts) (is_space c) (tokens_from 0 (place + len_utf8 c) cs) _ (tokens_more t 0 (place + len_utf8 c) cs) refl

pub goes_on : (t : Token) (end : ℕ) (text : List ℕ) → after_next (t ∷ tokens_at end text) ≡ tokens_at end text
goes_on t end text = tokens_more t 0 (end - length text) (chars text)
