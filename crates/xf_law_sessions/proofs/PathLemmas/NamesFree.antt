-- A part of a name has no byte that paths have beside names.
use Rattle.std.proofs.Common.{◌≡◌, ℕ, suc, ◌<◌, ◌≤◌, ◌==◌, Bool, true, false, not, ◌&&◌, ◌||◌, List, [], ◌∷◌, ◌++◌, length, get_or, refl, sym, ap, ◌∙◌, append-nil, inl, inr, arith}
use Rattle.std.specs.Prelude.{◌⊎◌}
use Rattle.std.specs.List.{list_any, list_all}
use Rattle.std.specs.Str.{chars, IsUtf8}
use Rattle.std.proofs.lemmas.Bool.{cases_lt, eqb-true}
use Rattle.std.proofs.lemmas.Bool.Decides.{nat_tests}
use Rattle.std.proofs.lemmas.Str.{chars-encodes, encode_ascii, inside_one}
use lib.Utf8.{encode, encodes}
use Rattle.ucd_derived.specs.Binary.{is_xid_start, is_xid_continue}
use Rattle.ucd_derived.specs.XidStartRanges.{xid_start_ranges}
use Rattle.ucd_derived.specs.XidContinueRanges.{xid_continue_ranges}
use Rattle.ucd_table.specs.Rows.{in_ranges}
use Rattle.xf_name.specs.Part.{begins_part, continues_part, is_part_of, is_part}
use Rattle.xf_def_forest.specs.Forest.{written_with}
use Rattle.xf_def_forest.proofs.BackLaws.{and-true}
use Rattle.xf_def_xpath.proofs.VisitFacts.{no}
use Rattle.xf_law_sessions.specs.Path.Paths.{is_path_byte, NamesFree}

none-continue : ((continues_part 40 || continues_part 47) || (continues_part 64 || continues_part 91)) ≡ false
unfolding is_xid_continue in_ranges xid_continue_ranges
none-continue = refl

none-begin : ((begins_part 40 || begins_part 47) || (begins_part 64 || begins_part 91)) ≡ false
unfolding is_xid_start in_ranges xid_start_ranges
none-begin = refl

-- a test that none of the four passes
module _ (test : ℕ → Bool) (none : ((test 40 || test 47) || (test 64 || test 91)) ≡ false) where
  no-path_byte : (c : ℕ) → test c ≡ true → is_path_byte c ≡ false
  no-path_byte c h = by (c == 40) refl (c == 47) refl (c == 64) refl (c == 91) refl
    where
      at : (k : ℕ) → (c == k) ≡ true → test k ≡ true
      at k e = ap test (sym (eqb-true c k e)) ∙ h

      first : (p q r s : Bool) → p ≡ true → ((p || q) || (r || s)) ≡ true
      first true q r s i = refl
      first false q r s i = no i

      second : (p q r s : Bool) → q ≡ true → ((p || q) || (r || s)) ≡ true
      second true q r s i = refl
      second false true r s i = refl
      second false false r s i = no i

      third : (p q r s : Bool) → r ≡ true → ((p || q) || (r || s)) ≡ true
      third true q r s i = refl
      third false true r s i = refl
      third false false true s i = refl
      third false false false s i = no i

      fourth : (p q r s : Bool) → s ≡ true → ((p || q) || (r || s)) ≡ true
      fourth true q r s i = refl
      fourth false true r s i = refl
      fourth false false true s i = refl
      fourth false false false s i = i

      by : (p : Bool) → (c == 40) ≡ p → (q : Bool) → (c == 47) ≡ q → (r : Bool) → (c == 64) ≡ r → (s : Bool) → (c == 91) ≡ s → (((c == 40) || (c == 47)) || (c == 64) || (c == 91)) ≡ false
      by true e q f r g s i = no (sym none ∙ first (test 40) (test 47) (test 64) (test 91) (at 40 e))
      by p e true f r g s i = no (sym none ∙ second (test 40) (test 47) (test 64) (test 91) (at 47 f))
      by p e q f true g s i = no (sym none ∙ third (test 40) (test 47) (test 64) (test 91) (at 64 g))
      by p e q f r g true i = no (sym none ∙ fourth (test 40) (test 47) (test 64) (test 91) (at 91 i))
      by false e false f false g false i = grind (arith, nat_tests, e, f, g, i)

any-append : (xs ys : List ℕ) → list_any is_path_byte xs ≡ false → list_any is_path_byte ys ≡ false → list_any is_path_byte (xs ++ ys) ≡ false
any-append [] ys h k = k
any-append (x ∷ xs) ys h k = by (is_path_byte x) h (any-append xs ys)
  where
    by : (b : Bool) → (b || list_any is_path_byte xs) ≡ false → (list_any is_path_byte xs ≡ false → list_any is_path_byte ys ≡ false → list_any is_path_byte (xs ++ ys) ≡ false) → (b || list_any is_path_byte (xs ++ ys)) ≡ false
    by true i f = i
    by false i f = f i k

high-free : (xs : List ℕ) → ((k : ℕ) → k < length xs → 128 ≤ get_or xs k 0) → list_any is_path_byte xs ≡ false
high-free [] h = refl
high-free (x ∷ xs) h =
    let high : 128 ≤ x = h 0 (omega arith) in
    let one : is_path_byte x ≡ false = grind (arith, nat_tests, high) in
    ap (λ b. b || list_any is_path_byte xs) one ∙ high-free xs (λ k below. h (suc k) (omega arith))

char-free : (c : ℕ) → is_path_byte c ≡ false → list_any is_path_byte (encode c) ≡ false
char-free c e = elim (cases_lt c 128) [
  | inl small ↦ ap (list_any is_path_byte) (encode_ascii c small) ∙ ap (λ b. b || false) e
  | inr big ↦
      high-free (encode c) (λ k below. elim (cases_lt (get_or (encode c) k 0) 128) [
        | inl low ↦ absurd (omega (arith, inside_one c [] (encode c) k (sym (append-nil _)) below low))
        | inr h ↦ h
      ])
]

chars-free : (cs : List ℕ) → list_all continues_part cs ≡ true → list_any is_path_byte (encodes cs) ≡ false
chars-free [] h = refl
chars-free (c ∷ cs) h =
    let parts = and-true (continues_part c) (list_all continues_part cs) h in
    any-append (encode c) (encodes cs) (char-free c (no-path_byte continues_part none-continue c parts.0)) (chars-free cs parts.1)

spelled-free : (cs : List ℕ) → is_part_of cs ≡ true → list_any is_path_byte (encodes cs) ≡ false
spelled-free [] h = refl
spelled-free (c ∷ cs) h =
    let parts = and-true (begins_part c) (list_all continues_part cs) h in
    any-append (encode c) (encodes cs) (char-free c (no-path_byte begins_part none-begin c parts.0)) (chars-free cs parts.1)

part-free : (name : List ℕ) → IsUtf8 name → is_part name ≡ true → list_any is_path_byte name ≡ false
part-free name u h =
    let cs = u.0 in
    let are : chars name ≡ cs = ap chars (sym u.1.1) ∙ chars-encodes cs u.1.0 in
    ap (list_any is_path_byte) (sym u.1.1) ∙ spelled-free cs (ap is_part_of (sym are) ∙ (and-true _ (is_part_of (chars name)) h).1)

-- a part has a byte
nothing-part : is_part [] ≡ false
unfolding chars
nothing-part = refl

more-than_none : (k : ℕ) → (suc k == 0) ≡ false
more-than_none k = grind (arith, nat_tests)

part-filled : (name : List ℕ) → is_part name ≡ true → (length name == 0) ≡ false
part-filled [] h = no (sym nothing-part ∙ h)
part-filled (b ∷ bs) h = more-than_none (length bs)

pub names_free : NamesFree
names_free name text u v local prefix = (by name.prefix u prefix, other name.prefix u prefix)
  where
    plain : list_any is_path_byte name.meaning.local ≡ false
    plain = part-free name.meaning.local v local

    colon : list_any is_path_byte (58 ∷ name.meaning.local) ≡ false
    colon = plain

    free : (p : List ℕ) → IsUtf8 p → (p ≡ []) ⊎ (is_part p ≡ true) → list_any is_path_byte (written_with p name.meaning.local) ≡ false
    free [] w h = plain
    free (c ∷ cs) w (inl h) = none h
      where
        none : c ∷ cs ≡ [] → list_any is_path_byte (written_with (c ∷ cs) name.meaning.local) ≡ false
        none e = cc e
    free (c ∷ cs) w (inr h) = any-append (c ∷ cs) (58 ∷ name.meaning.local) (part-free (c ∷ cs) w h) colon

    filled : (p : List ℕ) → (length (written_with p name.meaning.local) == 0) ≡ false
    filled [] = part-filled name.meaning.local local
    filled (c ∷ cs) = more-than_none (length (cs ++ 58 ∷ name.meaning.local))

    other : (p : List ℕ) → IsUtf8 p → (p ≡ []) ⊎ (is_part p ≡ true) → not (list_any is_path_byte (written_with p name.meaning.local)) ≡ true
    other p w h = ap not (free p w h)

    by : (p : List ℕ) → IsUtf8 p → (p ≡ []) ⊎ (is_part p ≡ true) → (not (length (written_with p name.meaning.local) == 0) && not (list_any is_path_byte (written_with p name.meaning.local))) ≡ true
    by p w h = ap (λ b. not b && not (list_any is_path_byte (written_with p name.meaning.local))) (filled p) ∙ other p w h
