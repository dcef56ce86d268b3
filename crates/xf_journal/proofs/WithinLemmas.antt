-- What is read as an entry has at most what an entry may have.
use Rattle.std.proofs.Common.{take, drop, length, length-take, ◌≡◌, ◌≤◌, ℕ, zero, suc, ◌+◌, ◌^◌, List, [], ◌∷◌, Option, Some, None, refl, ◌∙◌, ap, arith}
use Rattle.std.proofs.lemmas.Bool.{leb-true, le-leb, and_parts, and_from}
use Rattle.std.specs.Option.{option_map, option_and_then}
use Rattle.std.specs.List.{list_all}
use Rattle.std.specs.Prelude.{Bool, true, false, ◌&&◌, ◌==◌, nat_le, if◌then◌else◌}
use Rattle.xf_store.specs.Replies.{is_short}
use Rattle.xf_base.specs.Limits.{line_limit, found_limit, answer_limit}
use Rattle.xf_store.specs.declared.answers.Answer.{Answer}
use Rattle.xf_store.specs.declared.answers.Answer.TheVariants as answer
use Rattle.xf_journal.specs.declared.entry.Accepted.{Accepted}
use Rattle.xf_journal.specs.declared.read.Entries.{Entries}
use Rattle.xf_journal.specs.Numbers.{from_four}
use Rattle.xf_journal.specs.Entry.{is_within, are_within, found_in, answer_in, these_answers, answers_in, body_in, entry_in, size_at}
use Rattle.xf_journal.specs.Held.{Tail, entries_from, after_gate}
use Rattle.xf_journal.specs.Scanned.{tail_of}

-- one answer is short
abbrev FrontShort : Option (Answer × List ℕ) → Type 0
FrontShort None = Unit {0}
FrontShort (Some first) = is_short first.0 ≡ true

either_front : (b : Bool) (x y : Option (Answer × List ℕ)) → FrontShort x → FrontShort y → FrontShort (if b then x else y)
either_front true x y p q = p
either_front false x y p q = q

front_where : (b : Bool) (x : Answer × List ℕ) → (b ≡ true → is_short x.0 ≡ true) → FrontShort (if b then Some x else None)
front_where true x h = h refl
front_where false x h = tt

found_short : (bytes : List ℕ) → FrontShort (found_in bytes)
found_short bytes =
    let n = from_four bytes in
    front_where (nat_le 4 (length bytes) && nat_le n found_limit && nat_le (4 + n) (length bytes)) (answer.Found (take n (drop 4 bytes)), drop (4 + n) bytes)
    (λ tested.
    let front = and_parts (nat_le 4 (length bytes) && nat_le n found_limit) (nat_le (4 + n) (length bytes)) tested in
    let both = and_parts (nat_le 4 (length bytes)) (nat_le n found_limit) front.0 in
    let within : n ≤ 2 ^ 20 = leb-true n (2 ^ 20) both.1 in
    le-leb (length (take n (drop 4 bytes))) (2 ^ 20) (omega (arith, within, length-take n (drop 4 bytes))))

answer_short : (bytes : List ℕ) → FrontShort (answer_in bytes)
answer_short [] = tt
answer_short (kind ∷ bytes) =
    either_front (kind == 0) _ _ refl
    (either_front (kind == 1) _ _ refl (either_front (kind == 2) _ _ (found_short bytes) (either_front (kind == 3) _ _ refl (either_front (kind == 4) _ _ refl tt))))

-- so many answers, all of them short
abbrev AllShort : ℕ → Option (List Answer) → Type 0
AllShort n None = Unit {0}
AllShort n (Some answers) = (length answers ≡ n) × (list_all is_short answers ≡ true)

one_more : (n : ℕ) (first : Answer × List ℕ) (rest : Option (List Answer)) → is_short first.0 ≡ true → AllShort n rest → AllShort (suc n) (option_map (λ (answers : List Answer). first.0 ∷ answers) rest)
one_more n first None short rest = tt
one_more n first (Some answers) short rest = (ap suc rest.0, and_from (is_short first.0) (list_all is_short answers) short rest.1)

one_step : (n : ℕ) (front : Option (Answer × List ℕ)) → FrontShort front → ((bytes : List ℕ) → AllShort n (these_answers n bytes))
    → AllShort (suc n) (option_and_then (λ (first : Answer × List ℕ). option_map (λ (answers : List Answer). first.0 ∷ answers) (these_answers n first.1)) front)
one_step n None short rest = tt
one_step n (Some first) short rest = one_more n first (these_answers n first.1) short (rest first.1)

these_short : (n : ℕ) (bytes : List ℕ) → AllShort n (these_answers n bytes)
these_short zero [] = (refl, refl)
these_short zero (byte ∷ bytes) = tt
these_short (suc n) bytes = one_step n (answer_in bytes) (answer_short bytes) (these_short n)

-- as many answers as an entry may have, all of them short
abbrev pub AnswersWithin : Option (List Answer) → Type 0
AnswersWithin None = Unit {0}
AnswersWithin (Some answers) = (nat_le (length answers) answer_limit ≡ true) × (list_all is_short answers ≡ true)

counted : (n : ℕ) (answers : Option (List Answer)) → nat_le n answer_limit ≡ true → AllShort n answers → AnswersWithin answers
counted n None few all = tt
counted n (Some answers) few all = (ap (λ (k : ℕ). nat_le k answer_limit) all.0 ∙ few, all.1)

answers_where : (b : Bool) (n : ℕ) (answers : Option (List Answer)) → (b ≡ true → nat_le n answer_limit ≡ true) → AllShort n answers → AnswersWithin (if b then answers else None)
answers_where true n answers few all = counted n answers (few refl) all
answers_where false n answers few all = tt

-- so are those that are read
pub answers_within : (bytes : List ℕ) → AnswersWithin (answers_in bytes)
answers_within [] = tt
answers_within (count ∷ bytes) = answers_where (nat_le count answer_limit) count (these_answers count bytes) (λ few. few) (these_short count bytes)

-- one entry is within its limits
abbrev EntryWithin : Option Accepted → Type 0
EntryWithin None = Unit {0}
EntryWithin (Some entry) = is_within entry.line entry.answers ≡ true

with_line : (line : List ℕ) (answers : Option (List Answer)) → nat_le (length line) line_limit ≡ true → AnswersWithin answers → EntryWithin (option_map (λ (read : List Answer). record { line = line; answers = read }) answers)
with_line line None short all = tt
with_line line (Some answers) short all =
    and_from (nat_le (length line) line_limit && nat_le (length answers) answer_limit) (list_all is_short answers) (and_from (nat_le (length line) line_limit) (nat_le (length answers) answer_limit) short all.0) all.1

entry_where : (b : Bool) (entry : Option Accepted) → (b ≡ true → EntryWithin entry) → EntryWithin (if b then entry else None)
entry_where true entry h = h refl
entry_where false entry h = tt

body_within : (body : List ℕ) → EntryWithin (body_in body)
body_within body =
    let n = from_four body in
    entry_where (nat_le 4 (length body) && nat_le n line_limit && nat_le (4 + n) (length body)) _
    (λ tested.
    let front = and_parts (nat_le 4 (length body) && nat_le n line_limit) (nat_le (4 + n) (length body)) tested in
    let both = and_parts (nat_le 4 (length body)) (nat_le n line_limit) front.0 in
    let within : n ≤ 65536 = leb-true n 65536 both.1 in
    with_line (take n (drop 4 body)) (answers_in (drop (4 + n) body)) (le-leb (length (take n (drop 4 body))) 65536 (omega (arith, within, length-take n (drop 4 body)))) (answers_within (drop (4 + n) body)))

entry_within : (bytes : List ℕ) → EntryWithin (entry_in bytes)
entry_within bytes = entry_where (nat_le 4 (length bytes) && nat_le (size_at bytes) (length bytes)) (body_in (take (from_four bytes) (drop 4 bytes))) (λ tested. body_within (take (from_four bytes) (drop 4 bytes)))

before_within : (at : ℕ) (entry : Option Accepted) (rest : Tail) → EntryWithin entry → are_within rest.entries ≡ true → are_within (after_gate at entry rest).entries ≡ true
before_within at None rest one more = refl
before_within at (Some entry) rest one more = and_from (is_within entry.line entry.answers) (are_within rest.entries) one more

gate_within : (b : Bool) (at : ℕ) (entry : Option Accepted) (rest : Tail) → EntryWithin entry → are_within rest.entries ≡ true → are_within (if b then after_gate at entry rest else record { entries = []; gate = at; cut = None }).entries ≡ true
gate_within true at entry rest one more = before_within at entry rest one more
gate_within false at entry rest one more = refl

entries_within : (pass at : ℕ) (bytes : List ℕ) → are_within (entries_from pass at bytes).entries ≡ true
entries_within pass at [] = refl
entries_within (suc pass) at (byte ∷ bytes) = entries_within pass (suc at) bytes
entries_within zero at (gate ∷ bytes) = gate_within (gate == 1) at (entry_in bytes) (entries_from (size_at bytes) (suc at) bytes) (entry_within bytes) (entries_within (size_at bytes) (suc at) bytes)

-- so are those that a scan reads
pub tail_within : (entries : Entries) (at : ℕ) (bytes : List ℕ) → tail_of entries ≡ entries_from 0 at bytes → are_within entries.items.items ≡ true
tail_within entries at bytes same = ap (λ (tail : Tail). are_within tail.entries) same ∙ entries_within 0 at bytes
