-- Texts cut between characters.
use Rattle.std.proofs.Common.{◌≡◌, ℕ, ◌-◌, ◌+◌, ◌≤◌, List, [], ◌++◌, length, take, drop, sym, ap, ◌∙◌, arith, length-append, take-append-drop}
use Rattle.std.specs.Prelude.{IsUtf8, IsCharBoundary, chars, encode_utf8_all}
use Rattle.std.proofs.lemmas.Str.{encodes-chars, encodes-append, IsCharBoundary-at_seam}
use Rattle.std.proofs.Math.Seq.{take-append_seam, drop-nil}

-- the bytes of the characters of a text are the text, in two parts
pub split_at : (text : List ℕ) (count : ℕ) → IsUtf8 text → encode_utf8_all (take count (chars text)) ++ encode_utf8_all (drop count (chars text)) ≡ text
split_at text count u =
    sym (encodes-append (take count (chars text)) (drop count (chars text))) ∙ ap encode_utf8_all (take-append-drop count (chars text)) ∙ encodes-chars text u

-- what is left where so many characters were passed
pub past_all : (text rest : List ℕ) (count left : ℕ) → encode_utf8_all (chars rest) ≡ rest → drop left (chars rest) ≡ drop count (chars text) → left ≡ 0 → rest ≡ encode_utf8_all (drop count (chars text))
past_all text rest count left u h none = sym u ∙ ap encode_utf8_all (ap (λ n. drop n (chars rest)) (sym none) ∙ h)

-- what is left where there were too few
pub past_few : (text rest : List ℕ) (count left : ℕ) → chars rest ≡ [] → rest ≡ [] → drop left (chars rest) ≡ drop count (chars text) → rest ≡ encode_utf8_all (drop count (chars text))
past_few text rest count left e f h = f ∙ ap encode_utf8_all (sym (drop-nil left) ∙ ap (drop left) (sym e) ∙ h)

-- a text before the rest that stands behind some characters
pub record Front (text rest : List ℕ) (count : ℕ) : Type 0 where
  pub fits : length rest ≤ length text
  pub boundary : IsCharBoundary text (length text - length rest)
  pub value : take (length text - length rest) text ≡ encode_utf8_all (take count (chars text))

pub front_of : (text rest : List ℕ) (count : ℕ) → IsUtf8 text → IsUtf8 rest → rest ≡ encode_utf8_all (drop count (chars text)) → Front text rest count
front_of text rest count u v e =
    let front = encode_utf8_all (take count (chars text)) in
    let whole : text ≡ front ++ rest = sym (split_at text count u) ∙ ap (λ t. front ++ t) (sym e) in
    let size : length text ≡ length front + length rest = ap length whole ∙ length-append front rest in
    let at : length front ≡ length text - length rest = omega arith in
    record {
      fits = omega arith;
      boundary = rw at at (IsCharBoundary-at_seam text front rest whole v);
      value = ap (λ n. take n text) (sym at) ∙ ap (take (length front)) whole ∙ take-append_seam front rest;
    }
