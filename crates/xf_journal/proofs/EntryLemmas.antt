-- Entries are read as they were written.
use Rattle.std.proofs.Common.{take, drop, length-append, ◌≡◌, ◌≤◌, ◌<◌, ℕ, zero, suc, ◌+◌, ◌-◌, ◌*◌, ◌^◌, List, [], ◌∷◌, ◌++◌, length, Option, Some, None, refl, sym, ◌∙◌, ap, arith, append_assoc}
use Rattle.std.proofs.lemmas.Bool.{leb-true, le-leb, and_parts, and_from}
use Rattle.std.proofs.lemmas.List.{take_at, drop_at, drop_all}
use Rattle.std.specs.Option.{option_map, unwrap_or}
use Rattle.std.specs.List.{flat_map, list_all}
use Rattle.std.specs.Prelude.{Bool, true, false, ◌&&◌, nat_le, if◌then◌else◌}
use Rattle.std.specs.Option.{option_and_then}
use Rattle.xf_store.specs.Replies.{is_short}
use Rattle.xf_base.specs.Limits.{line_limit, found_limit}
use Rattle.xf_store.specs.declared.answers.Answer.{Answer}
use Rattle.xf_store.specs.declared.answers.Answer.TheVariants as answer
use Rattle.xf_journal.specs.declared.entry.Accepted.{Accepted}
use Rattle.xf_journal.specs.Entry.{answer_bytes, answers_bytes, body_bytes, entry_bytes, is_within, written_bytes, spelled, IsEntry, found_in, answer_in, these_answers, answers_in, body_in, entry_in, size_at}
use Rattle.xf_journal.specs.Numbers.{four, from_four}
use Rattle.xf_journal.proofs.NumberLemmas.{length-four, from_four-four}

map_both : (items : List Answer) (a : Answer) (o : Option (List Answer)) → option_map (λ (more : List Answer). (items ++ a ∷ []) ++ more) o ≡ option_map (λ (more : List Answer). items ++ more) (option_map (λ (more : List Answer). a ∷ more) o)
map_both items a None = refl
map_both items a (Some more) = ap Some (append_assoc items (a ∷ []) more)

-- one answer more was read
pub answers_on : (items : List Answer) (a : Answer) (left : ℕ) (rest behind : List ℕ) → 0 < left → answer_in rest ≡ Some (a, behind)
    → option_map (λ (more : List Answer). (items ++ a ∷ []) ++ more) (these_answers (left - 1) behind) ≡ option_map (λ (more : List Answer). items ++ more) (these_answers left rest)
answers_on items a zero rest behind some is = absurd (omega arith)
answers_on items a (suc left) rest behind some is =
    let one : suc left - 1 ≡ left = omega arith in
    ap (λ (k : ℕ). option_map (λ (more : List Answer). (items ++ a ∷ []) ++ more) (these_answers k behind)) one
    ∙ map_both items a (these_answers left behind)
    ∙ ap (λ (o : Option (Answer × List ℕ)). option_map (λ (more : List Answer). items ++ more) (option_and_then (λ (first : Answer × List ℕ). option_map (λ (answers : List Answer). first.0 ∷ answers) (these_answers left first.1)) o)) (sym is)

length-answer_bytes : (a : Answer) → is_short a ≡ true → length (answer_bytes a) ≤ 2 ^ 21
length-answer_bytes answer.PutDone short = omega arith
length-answer_bytes answer.Failed short = omega arith
length-answer_bytes (answer.Found bytes) short =
    let within : length bytes ≤ 2 ^ 20 = leb-true (length bytes) (2 ^ 20) short in
    omega (arith, within, length-append (2 ∷ four (length bytes)) bytes, length-four (length bytes))
length-answer_bytes answer.Absent short = omega arith
length-answer_bytes answer.TooLong short = omega arith

length-all : (answers : List Answer) → list_all is_short answers ≡ true → length (flat_map answer_bytes answers) ≤ length answers * 2 ^ 21
length-all [] short = omega arith
length-all (a ∷ answers) short =
    let both = and_parts (is_short a) (list_all is_short answers) short in
    omega (arith, length-append (answer_bytes a) (flat_map answer_bytes answers), length-answer_bytes a both.0, length-all answers both.1)

-- an entry's bytes are less than 2^26
pub length-body_bytes : (line : List ℕ) (answers : List Answer) → is_within line answers ≡ true → length (body_bytes line answers) ≤ 2 ^ 26
length-body_bytes line answers within =
    let front = and_parts (nat_le (length line) 65536 && nat_le (length answers) 16) (list_all is_short answers) within in
    let sizes = and_parts (nat_le (length line) 65536) (nat_le (length answers) 16) front.0 in
    let line_size : length line ≤ 65536 = leb-true (length line) 65536 sizes.0 in
    let few : length answers ≤ 16 = leb-true (length answers) 16 sizes.1 in
    omega (arith, line_size, few, length-all answers front.1, length-four (length line), length-append (four (length line) ++ line) (answers_bytes answers), length-append (four (length line)) line)

abbrev accepted : List ℕ → List Answer → Accepted
accepted line answers = record { line = line; answers = answers }

pub if_true : {X : Type 0} → (b : Bool) (x y : X) → b ≡ true → (if b then x else y) ≡ x
if_true true x y is = refl
if_true false x y is = cc

and_three : (a b c : Bool) → a ≡ true → b ≡ true → c ≡ true → (a && b && c) ≡ true
and_three a b c first second third = and_from (a && b) c (and_from a b first second) third

-- a list behind its length
drop_four : (n : ℕ) (rest : List ℕ) → drop 4 (four n ++ rest) ≡ rest
drop_four n rest = drop_at (four n) rest 4 (length-four n)

pub take_exactly : (xs ys : List ℕ) → take (length xs) (xs ++ ys) ≡ xs
take_exactly xs ys = take_at xs ys (length xs) refl

pub drop_exactly : (xs ys : List ℕ) → drop (length xs) (xs ++ ys) ≡ ys
drop_exactly xs ys = drop_at xs ys (length xs) refl

pub drop_sum : (m n : ℕ) (xs : List ℕ) → drop (m + n) xs ≡ drop n (drop m xs)
drop_sum zero n xs = let one : 0 + n ≡ n = omega arith in ap (λ (k : ℕ). drop k xs) one
drop_sum (suc m) n [] = drop_all (suc m + n) [] (omega arith) ∙ sym (drop_all n [] (omega arith))
drop_sum (suc m) n (x ∷ xs) =
    let one : suc m + n ≡ suc (m + n) = omega arith in
    ap (λ (k : ℕ). drop k (x ∷ xs)) one ∙ drop_sum m n xs

found_written : (bytes rest : List ℕ) → length bytes ≤ 2 ^ 20 → found_in (four (length bytes) ++ bytes ++ rest) ≡ Some (answer.Found bytes, rest)
found_written bytes rest within =
    let n = length bytes in
    let all = four n ++ bytes ++ rest in
    let split : all ≡ four n ++ (bytes ++ rest) = append_assoc (four n) bytes rest in
    let number : from_four all ≡ n = ap from_four split ∙ from_four-four n (bytes ++ rest) (omega (arith, within)) in
    let size : length all ≡ 4 + n + length rest = omega (arith, length-append (four n ++ bytes) rest, length-append (four n) bytes, length-four n) in
    let front : drop 4 all ≡ bytes ++ rest = ap (λ (l : List ℕ). drop 4 l) split ∙ drop_four n (bytes ++ rest) in
    let whole : drop (4 + n) all ≡ rest = drop_sum 4 n all ∙ ap (λ (l : List ℕ). drop n l) front ∙ drop_exactly bytes rest in
    let taken : take n (drop 4 all) ≡ bytes = ap (λ (l : List ℕ). take n l) front ∙ take_exactly bytes rest in
    let test : (nat_le 4 (length all) && nat_le (from_four all) found_limit && nat_le (4 + from_four all) (length all)) ≡ true =
    and_three _ _ _ (le-leb 4 (length all) (omega (arith, size))) (le-leb (from_four all) (2 ^ 20) (omega (arith, number, within))) (le-leb (4 + from_four all) (length all) (omega (arith, number, size))) in
    if_true _ (Some (answer.Found (take (from_four all) (drop 4 all)), drop (4 + from_four all) all)) None test
    ∙ ap (λ (k : ℕ). Some (answer.Found (take k (drop 4 all)), drop (4 + k) all)) number
    ∙ (λ i. Some (answer.Found (taken i), whole i))

answer_written : (a : Answer) (rest : List ℕ) → is_short a ≡ true → answer_in (answer_bytes a ++ rest) ≡ Some (a, rest)
answer_written answer.PutDone rest short = refl
answer_written answer.Failed rest short = refl
answer_written (answer.Found bytes) rest short = found_written bytes rest (leb-true (length bytes) (2 ^ 20) short)
answer_written answer.Absent rest short = refl
answer_written answer.TooLong rest short = refl

answers_written : (answers : List Answer) → list_all is_short answers ≡ true → these_answers (length answers) (flat_map answer_bytes answers) ≡ Some answers
answers_written [] short = refl
answers_written (a ∷ answers) short =
    let both = and_parts (is_short a) (list_all is_short answers) short in
    ap (λ (o : Option (Answer × List ℕ)). option_and_then (λ (first : Answer × List ℕ). option_map (λ (more : List Answer). first.0 ∷ more) (these_answers (length answers) first.1)) o) (answer_written a (flat_map answer_bytes answers) both.0)
    ∙ ap (λ (o : Option (List Answer)). option_map (λ (more : List Answer). a ∷ more) o) (answers_written answers both.1)

module _ (line : List ℕ) (answers : List Answer) (within : is_within line answers ≡ true) where
  sizes : (length line ≤ 65536) × (length answers ≤ 16) × (list_all is_short answers ≡ true)
  sizes =
      let front = and_parts (nat_le (length line) 65536 && nat_le (length answers) 16) (list_all is_short answers) within in
      let both = and_parts (nat_le (length line) 65536) (nat_le (length answers) 16) front.0 in
      (leb-true (length line) 65536 both.0, leb-true (length answers) 16 both.1, front.1)

  -- answers are read as they were written
  pub all_written : answers_in (answers_bytes answers) ≡ Some answers
  all_written =
      if_true (nat_le (length answers) 16) (these_answers (length answers) (flat_map answer_bytes answers)) None (le-leb (length answers) 16 sizes.1) ∙ answers_written answers sizes.2

  body_written : body_in (body_bytes line answers) ≡ Some (record { line = line; answers = answers })
  body_written =
      let m = length line in
      let body = body_bytes line answers in
      let split : body ≡ four m ++ (line ++ answers_bytes answers) = append_assoc (four m) line (answers_bytes answers) in
      let number : from_four body ≡ m = ap from_four split ∙ from_four-four m (line ++ answers_bytes answers) (omega (arith, sizes.0)) in
      let size : length body ≡ 4 + m + length (answers_bytes answers) = omega (arith, length-append (four m ++ line) (answers_bytes answers), length-append (four m) line, length-four m) in
      let front : drop 4 body ≡ line ++ answers_bytes answers = ap (λ (l : List ℕ). drop 4 l) split ∙ drop_four m (line ++ answers_bytes answers) in
      let behind : drop (4 + m) body ≡ answers_bytes answers = drop_sum 4 m body ∙ ap (λ (l : List ℕ). drop m l) front ∙ drop_exactly line (answers_bytes answers) in
      let taken : take m (drop 4 body) ≡ line = ap (λ (l : List ℕ). take m l) front ∙ take_exactly line (answers_bytes answers) in
      let test : (nat_le 4 (length body) && nat_le (from_four body) line_limit && nat_le (4 + from_four body) (length body)) ≡ true =
      and_three _ _ _ (le-leb 4 (length body) (omega (arith, size))) (le-leb (from_four body) 65536 (omega (arith, number, sizes.0))) (le-leb (4 + from_four body) (length body) (omega (arith, number, size))) in
      if_true _ (option_map (λ (read : List Answer). accepted (take (from_four body) (drop 4 body)) read) (answers_in (drop (4 + from_four body) body))) None test
      ∙ ap (λ (k : ℕ). option_map (λ (read : List Answer). accepted (take k (drop 4 body)) read) (answers_in (drop (4 + k) body))) number
      ∙ (λ i. option_map (λ (read : List Answer). accepted (taken i) read) (answers_in (behind i)))
      ∙ ap (λ (o : Option (List Answer)). option_map (λ (read : List Answer). accepted line read) o) all_written

  -- an entry is read as it was written, whatever stands behind it
  pub size_written : (more : List ℕ) → size_at (entry_bytes line answers ++ more) ≡ length (entry_bytes line answers)
  size_written more =
      let n = length (body_bytes line answers) in
      let split : entry_bytes line answers ++ more ≡ four n ++ (body_bytes line answers ++ more) = append_assoc (four n) (body_bytes line answers) more in
      let number : from_four (entry_bytes line answers ++ more) ≡ n = ap from_four split ∙ from_four-four n (body_bytes line answers ++ more) (omega (arith, length-body_bytes line answers within)) in
      omega (arith, number, length-append (four n) (body_bytes line answers), length-four n)

  pub entry_written : (more : List ℕ) → entry_in (entry_bytes line answers ++ more) ≡ Some (record { line = line; answers = answers })
  entry_written more =
      let body = body_bytes line answers in
      let n = length body in
      let all = entry_bytes line answers ++ more in
      let split : all ≡ four n ++ (body ++ more) = append_assoc (four n) body more in
      let number : from_four all ≡ n = ap from_four split ∙ from_four-four n (body ++ more) (omega (arith, length-body_bytes line answers within)) in
      let size : length all ≡ 4 + n + length more = omega (arith, length-append (four n ++ body) more, length-append (four n) body, length-four n) in
      let front : drop 4 all ≡ body ++ more = ap (λ (l : List ℕ). drop 4 l) split ∙ drop_four n (body ++ more) in
      let taken : take n (drop 4 all) ≡ body = ap (λ (l : List ℕ). take n l) front ∙ take_exactly body more in
      let test : (nat_le 4 (length all) && nat_le (size_at all) (length all)) ≡ true =
      and_from _ _ (le-leb 4 (length all) (omega (arith, size))) (le-leb (size_at all) (length all) (omega (arith, number, size))) in
      if_true _ (body_in (take (from_four all) (drop 4 all))) None test
      ∙ ap (λ (k : ℕ). body_in (take k (drop 4 all))) number
      ∙ ap body_in taken
      ∙ body_written

  -- the bytes as they are written spell the entry
  pub spelled_written : (bytes : List ℕ) → bytes ≡ written_bytes line answers → spelled bytes ≡ record { line = line; answers = answers }
  spelled_written bytes same = ap spelled same ∙ ap (λ (o : Option Accepted). unwrap_or o (record { line = []; answers = [] })) (entry_written (0 ∷ []))

  pub is_entry : (bytes : List ℕ) → bytes ≡ written_bytes line answers → IsEntry bytes
  is_entry bytes same =
      let told = spelled_written bytes same in
      record {
        as_written = same ∙ sym (ap (λ (entry : Accepted). written_bytes entry.line entry.answers) told);
        within = ap (λ (entry : Accepted). is_within entry.line entry.answers) told ∙ within;
      }
