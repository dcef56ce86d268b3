-- The first place of a part in a text, by its bytes and by its characters.
use Rattle.std.proofs.Common.{◌≡◌, ℕ, suc, ◌+◌, ◌<◌, ◌≤◌, Bool, true, false, if◌then◌else◌, nat_eq, List, [], ◌∷◌, ◌++◌, length, take, drop, Some, None, option_map, is_some, refl, sym, ap, ◌∙◌, arith, length-append, length-drop, take-append-drop, length-take-le, MatchBool}
use Rattle.std.specs.List.{starts_with}
use Rattle.std.specs.Prelude.{IsUtf8, chars, encode_utf8_all}
use Rattle.std.specs.Str.Pattern.{FindsText, LacksTextAt, FindsTextPrefix, HasMatch, HasPrefixMatch, SplitsAroundMatch}
use Rattle.std.proofs.lemmas.Str.{encodes-chars, encodes-append, length-le-encodes, chars-append, IsUtf8-append, IsUtf8-drop, IsUtf8-take, IsCharBoundary-from_drop}
use Rattle.std.proofs.lemmas.Slice.Eq.{bytes_eq-Decides}
use Rattle.std.proofs.Math.Seq.{take-append_seam, drop-append_seam}
use Rattle.std.proofs.lemmas.List.{take-append-le}
use Rattle.std.proofs.lemmas.Bool.{false≢true}
use Rattle.xf_funcs.specs.Searching.{begins_with, around, front_of, rest_of, contains, before, after}
use Rattle.xf_funcs.proofs.TextLemmas.{split_at}

-- ---- a list that begins with another

pub begins : (part rest : List ℕ) → starts_with nat_eq (part ++ rest) part ≡ true
begins part rest = (bytes_eq-Decides part (take (length part) (part ++ rest))).1 (sym (take-append_seam part rest))

pub begins_so : (text part : List ℕ) → starts_with nat_eq text part ≡ true → text ≡ part ++ drop (length part) text
begins_so text part h =
    sym (take-append-drop (length part) text) ∙ ap (λ t. t ++ drop (length part) text) (sym ((bytes_eq-Decides part (take (length part) text)).0 h))

is_false : (b : Bool) → (b ≡ true → ⊥) → b ≡ false
is_false true h = absurd (h refl)
is_false false h = refl

-- ---- the first place, by characters

-- the part stands at no place below this one
NoneBelow : List ℕ → List ℕ → ℕ → Type 0
NoneBelow part text n = (i : ℕ) → i < n → starts_with nat_eq (drop i text) part ≡ false

-- where the text begins with the part
around_here : (part text rest : List ℕ) → text ≡ part ++ rest → around part text ≡ Some ([], rest)
around_here [] [] rest e = ap (λ t. Some ([], t)) e
around_here (p ∷ part) [] rest e = absurd (cc)
around_here part (c ∷ text) rest e =
    let yes : starts_with nat_eq (c ∷ text) part ≡ true = ap (λ t. starts_with nat_eq t part) e ∙ begins part rest in
    ap (λ b. if b then Some ([], drop (length part) (c ∷ text)) else option_map (λ p. (c ∷ p.0, p.1)) (around part text)) yes
    ∙ ap (λ t. Some ([], t)) (ap (drop (length part)) e ∙ drop-append_seam part rest)

pub around_first : (part front rest : List ℕ) → ((i : ℕ) → i < length front → starts_with nat_eq (drop i (front ++ (part ++ rest))) part ≡ false) → around part (front ++ (part ++ rest)) ≡ Some (front, rest)
around_first part [] rest none = around_here part (part ++ rest) rest refl
around_first part (c ∷ front) rest none =
    let text = front ++ (part ++ rest) in
    ap (λ b. if b then Some ([], drop (length part) (c ∷ text)) else option_map (λ p. (c ∷ p.0, p.1)) (around part text)) (none 0 (omega arith))
    ∙ ap (option_map (λ p. (c ∷ p.0, p.1))) (around_first part front rest (λ i h. none (suc i) (omega arith)))

pub around_none : (part text : List ℕ) → ((i : ℕ) → i ≤ length text → starts_with nat_eq (drop i text) part ≡ false) → around part text ≡ None
around_none [] [] none = absurd (false≢true (sym (none 0 (omega arith))))
around_none (p ∷ part) [] none = refl
around_none part (c ∷ text) none =
    ap (λ b. if b then Some ([], drop (length part) (c ∷ text)) else option_map (λ p. (c ∷ p.0, p.1)) (around part text)) (none 0 (omega arith))
    ∙ ap (option_map (λ p. (c ∷ p.0, p.1))) (around_none part text (λ i h. none (suc i) (omega arith)))

-- ---- the first place, by bytes

-- where the part stands at a place, by characters, it stands at the place of its first byte
stands : (text part : List ℕ) (i : ℕ) → IsUtf8 text → IsUtf8 part → starts_with nat_eq (drop i (chars text)) (chars part) ≡ true → drop (length (encode_utf8_all (take i (chars text)))) text ≡ part ++ encode_utf8_all (drop (length (chars part)) (drop i (chars text)))
stands text part i u v h =
    let front = encode_utf8_all (take i (chars text)) in
    let back = drop i (chars text) in
    let rest = drop (length (chars part)) back in
    ap (drop (length front)) (sym (split_at text i u)) ∙ drop-append_seam front (encode_utf8_all back)
    ∙ ap encode_utf8_all (begins_so back (chars part) h) ∙ encodes-append (chars part) rest ∙ ap (λ t. t ++ encode_utf8_all rest) (encodes-chars part v)

-- the bytes before a character end before those of the text do
shorter : (cs : List ℕ) (i : ℕ) → i < length cs → length (encode_utf8_all (take i cs)) < length (encode_utf8_all cs)
shorter cs i h =
    omega (arith, ap (λ t. length (encode_utf8_all t)) (take-append-drop i cs), ap length (encodes-append (take i cs) (drop i cs)), length-append (encode_utf8_all (take i cs)) (encode_utf8_all (drop i cs)), length-le-encodes (drop i cs), length-drop i cs)

pub missed : (text part : List ℕ) → IsUtf8 text → IsUtf8 part → FindsText part text None → around (chars part) (chars text) ≡ None
missed text part u v lacks =
    around_none (chars part) (chars text)
    (λ i h. is_false (starts_with nat_eq (drop i (chars text)) (chars part))
    (λ k. lacks (length (encode_utf8_all (take i (chars text)))) (omega (arith, ap length (split_at text i u), length-append (encode_utf8_all (take i (chars text))) (encode_utf8_all (drop i (chars text))))) (encode_utf8_all (drop (length (chars part)) (drop i (chars text)))) (stands text part i u v k)))

found : (text part front back : List ℕ) → IsUtf8 text → IsUtf8 part → IsUtf8 front → IsUtf8 back → text ≡ front ++ (part ++ back) → ((i : ℕ) → i < length front → LacksTextAt part text i) → around (chars part) (chars text) ≡ Some (chars front, chars back)
found text part front back u v w x e lacks =
    let cut : chars text ≡ chars front ++ (chars part ++ chars back) =
    ap chars e ∙ chars-append front (part ++ back) w ∙ ap (λ t. chars front ++ t) (chars-append part back v) in
    let before : (i : ℕ) → i < length (chars front) → length (encode_utf8_all (take i (chars text))) < length front =
    λ i h. let n = shorter (chars front) i h in
    let same : take i (chars text) ≡ take i (chars front) = ap (take i) cut ∙ take-append-le i (chars front) (chars part ++ chars back) (omega arith) in
    omega (arith, ap (λ t. length (encode_utf8_all t)) same, ap length (encodes-chars front w), n) in
    ap (around (chars part)) cut
    ∙ around_first (chars part) (chars front) (chars back)
    (λ i h. is_false (starts_with nat_eq (drop i (chars front ++ (chars part ++ chars back))) (chars part))
    (λ k. lacks (length (encode_utf8_all (take i (chars text)))) (before i h) (encode_utf8_all (drop (length (chars part)) (drop i (chars text)))) (stands text part i u v (ap (λ t. starts_with nat_eq (drop i t) (chars part)) cut ∙ k))))

-- the parts of a text around a place of the part
pub record Cut (text part : List ℕ) (i j : ℕ) : Type 0 where
  pub before : IsUtf8 (take i text)
  pub after : IsUtf8 (drop j text)
  pub parts : around (chars part) (chars text) ≡ Some (chars (take i text), chars (drop j text))

pub cut_at : (text part : List ℕ) (i j : ℕ) → IsUtf8 text → IsUtf8 part → FindsText part text (Some (i, j)) → Cut text part i j
cut_at text part i j u v h =
    let at = h.1 in
    let fits : i + length part ≤ length text = at.after.0 in
    let back : IsUtf8 (drop j text) = rw at.ends (IsUtf8-drop text (i + length part) u at.after) in
    let rest : IsUtf8 (drop i text) = rw at.split (IsUtf8-append part (drop j text) v back) in
    let front : IsUtf8 (take i text) = IsUtf8-take text i u (IsCharBoundary-from_drop text i (omega arith) rest) in
    let size : length (take i text) ≡ i = length-take-le i text (omega arith) in
    record {
      before = front;
      after = back;
      parts = found text part (take i text) (drop j text) u v front back (sym (take-append-drop i text) ∙ ap (λ t. take i text ++ t) at.split) (λ k l. h.0 k (omega arith));
    }

-- ---- what the calls answer

pub contains_by : (text part : List ℕ) (r : Bool) → IsUtf8 text → IsUtf8 part → MatchBool r (HasMatch (FindsText part) text) (FindsText part text None) → r ≡ contains text part
contains_by text part true u v h = sym (ap is_some (cut_at text part h.0 h.1 u v h.2).parts)
contains_by text part false u v h = sym (ap is_some (missed text part u v h))

pub before_by : (text part front back : List ℕ) → IsUtf8 text → IsUtf8 part → SplitsAroundMatch (FindsText part) text front back → front ≡ before text part
before_by text part front back u v h =
    let c = cut_at text part h.0 h.1 u v h.2 in
    h.3 ∙ sym (encodes-chars (take h.0 text) c.before) ∙ sym (ap (λ p. encode_utf8_all (front_of p)) c.parts)

pub after_by : (text part front back : List ℕ) → IsUtf8 text → IsUtf8 part → SplitsAroundMatch (FindsText part) text front back → back ≡ after text part
after_by text part front back u v h =
    let c = cut_at text part h.0 h.1 u v h.2 in
    h.4 ∙ sym (encodes-chars (drop h.1 text) c.after) ∙ sym (ap (λ p. encode_utf8_all (rest_of p)) c.parts)

pub before_none : (text part : List ℕ) → IsUtf8 text → IsUtf8 part → FindsText part text None → [] ≡ before text part
before_none text part u v h = sym (ap (λ p. encode_utf8_all (front_of p)) (missed text part u v h))

pub after_none : (text part : List ℕ) → IsUtf8 text → IsUtf8 part → FindsText part text None → [] ≡ after text part
after_none text part u v h = sym (ap (λ p. encode_utf8_all (rest_of p)) (missed text part u v h))

pub begins_by : (text front : List ℕ) (r : Bool) → IsUtf8 text → IsUtf8 front → MatchBool r (HasPrefixMatch (FindsTextPrefix front) text) (FindsTextPrefix front text None) → r ≡ begins_with text front
begins_by text front true u v h =
    let k = h.0 in
    let split : text ≡ front ++ drop k text = h.1.1 in
    let cut : chars text ≡ chars front ++ chars (drop k text) = ap chars split ∙ chars-append front (drop k text) v in
    sym (ap (λ t. starts_with nat_eq t (chars front)) cut ∙ begins (chars front) (chars (drop k text)))
begins_by text front false u v h =
    sym (is_false (begins_with text front) (λ k. h (encode_utf8_all (drop (length (chars front)) (chars text))) (stands text front 0 u v k)))
