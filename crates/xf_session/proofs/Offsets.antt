-- Entries take the bytes that they were read of.
use Rattle.std.proofs.Common.{take, drop, length, length-take, length-drop, length-append, ◌≡◌, ◌≤◌, ℕ, zero, suc, ◌+◌, ◌*◌, ◌^◌, List, [], ◌∷◌, ◌++◌, Option, Some, None, Ok, refl, sym, subst, arith}
use Rattle.std.proofs.lemmas.List.Sums.{sum_by-cons}
use Rattle.std.proofs.lemmas.Bool.{leb-true, le-leb, and_parts}
use Rattle.std.specs.Prelude.{Bool, true, false, ◌&&◌, ◌==◌, nat_le, if◌then◌else◌}
use Rattle.std.specs.Option.{option_map, option_and_then}
use Rattle.std.specs.List.{flat_map, list_all}
use Rattle.xf_base.specs.Limits.{line_limit, found_limit, answer_limit}
use Rattle.xf_disk.specs.Image.{Image, in_slot}
use Rattle.xf_disk.specs.declared.slot.Slot.{Slot}
use Rattle.xf_store.specs.Replies.{is_short}
use Rattle.xf_store.specs.declared.answers.Answer.{Answer}
use Rattle.xf_store.specs.declared.answers.Answer.TheVariants as answer
use Rattle.xf_journal.specs.declared.entry.Accepted.{Accepted}
use Rattle.xf_journal.specs.declared.journal.Journal.{Journal}
use Rattle.xf_journal.specs.Numbers.{four, from_four}
use Rattle.xf_journal.specs.Entry.{answer_bytes, answers_bytes, body_bytes, entry_bytes, written_bytes, is_within, found_in, answer_in, these_answers, answers_in, body_in, entry_in, size_at}
use Rattle.xf_journal.specs.Held.{Log, Tail, held, entries_from, after_gate}
use Rattle.xf_journal.specs.Layout.{entries_at}
use Rattle.xf_journal.specs.Scanned.{IsAtRest}
use Rattle.xf_journal.proofs.HeldLemmas.{in_use_of}
use Rattle.xf_journal.proofs.SlotLemmas.{reads_of, stem_of}
use Rattle.xf_journal.proofs.TailLemmas.{entry_within}
use Rattle.xf_session.specs.Replaying.{taken_bytes}

pub length-four : (n : ℕ) → length (four n) ≡ 4
unfolding four
length-four n = refl

-- ---- answers

-- one answer with what is behind it
abbrev FrontFits : ℕ → Option (Answer × List ℕ) → Type 0
FrontFits n None = Unit {0}
FrontFits n (Some front) = length (answer_bytes front.0) + length front.1 ≤ n

either_fits : (b : Bool) (n : ℕ) (x y : Option (Answer × List ℕ)) → FrontFits n x → FrontFits n y → FrontFits n (if b then x else y)
either_fits true n x y p q = p
either_fits false n x y p q = q

fits_where : (b : Bool) (n : ℕ) (x : Answer × List ℕ) → (b ≡ true → length (answer_bytes x.0) + length x.1 ≤ n) → FrontFits n (if b then Some x else None)
fits_where true n x h = h refl
fits_where false n x h = tt

found_fits : (bytes : List ℕ) → FrontFits (suc (length bytes)) (found_in bytes)
found_fits bytes =
    let n = from_four bytes in
    fits_where (nat_le 4 (length bytes) && nat_le n found_limit && nat_le (4 + n) (length bytes)) (suc (length bytes)) (answer.Found (take n (drop 4 bytes)), drop (4 + n) bytes)
    (λ tested.
    let both = and_parts (nat_le 4 (length bytes) && nat_le n found_limit) (nat_le (4 + n) (length bytes)) tested in
    let within : 4 + n ≤ length bytes = leb-true (4 + n) (length bytes) both.1 in
    let found = take n (drop 4 bytes) in
    omega (arith, within, length-take n (drop 4 bytes), length-drop 4 bytes, length-drop (4 + n) bytes, length-append (2 ∷ four (length found)) found, length-four (length found)))

answer_fits : (bytes : List ℕ) → FrontFits (length bytes) (answer_in bytes)
answer_fits [] = tt
answer_fits (kind ∷ bytes) =
    let n = suc (length bytes) in
    either_fits (kind == 0) n _ _ (omega arith)
    (either_fits (kind == 1) n _ _ (omega arith) (either_fits (kind == 2) n _ _ (found_fits bytes) (either_fits (kind == 3) n _ _ (omega arith) (either_fits (kind == 4) n _ _ (omega arith) tt))))

abbrev AllFit : ℕ → Option (List Answer) → Type 0
AllFit n None = Unit {0}
AllFit n (Some answers) = length (flat_map answer_bytes answers) ≤ n

one_more : (n : ℕ) (first : Answer × List ℕ) (rest : Option (List Answer)) → length (answer_bytes first.0) + length first.1 ≤ n → AllFit (length first.1) rest
    → AllFit n (option_map (λ (answers : List Answer). first.0 ∷ answers) rest)
one_more n first None fits rest = tt
one_more n first (Some answers) fits rest = omega (arith, fits, rest, length-append (answer_bytes first.0) (flat_map answer_bytes answers))

one_step : (n left : ℕ) (front : Option (Answer × List ℕ)) → FrontFits n front → ((bytes : List ℕ) → AllFit (length bytes) (these_answers left bytes))
    → AllFit n (option_and_then (λ (first : Answer × List ℕ). option_map (λ (answers : List Answer). first.0 ∷ answers) (these_answers left first.1)) front)
one_step n left None fits rest = tt
one_step n left (Some first) fits rest = one_more n first (these_answers left first.1) fits (rest first.1)

these_fit : (left : ℕ) (bytes : List ℕ) → AllFit (length bytes) (these_answers left bytes)
these_fit zero [] = omega arith
these_fit zero (byte ∷ bytes) = tt
these_fit (suc left) bytes = one_step (length bytes) left (answer_in bytes) (answer_fits bytes) (these_fit left)

-- ---- entries

-- with the line behind which they stand
abbrev EntryFits : ℕ → Option Accepted → Type 0
EntryFits n None = Unit {0}
EntryFits n (Some entry) = length (written_bytes entry.line entry.answers) ≤ n + 5

pub written_length : (line : List ℕ) (answers : List Answer) → length (written_bytes line answers) ≡ length line + 10 + length (flat_map answer_bytes answers)
written_length line answers =
    let body = body_bytes line answers in
    omega (
      arith,
      length-four (length line),
      length-four (length body),
      length-append (four (length line) ++ line) (answers_bytes answers),
      length-append (four (length line)) line,
      length-append (four (length body)) body,
      length-append (entry_bytes line answers) (0 ∷ []),
    )

entry_where : (b : Bool) (n : ℕ) (entry : Option Accepted) → (b ≡ true → EntryFits n entry) → EntryFits n (if b then entry else None)
entry_where true n entry h = h refl
entry_where false n entry h = tt

answers_where : (b : Bool) (n : ℕ) (answers : Option (List Answer)) → AllFit n answers → AllFit n (if b then answers else None)
answers_where true n answers all = all
answers_where false n answers all = tt

-- behind their number
abbrev NumberedFit : ℕ → Option (List Answer) → Type 0
NumberedFit n None = Unit {0}
NumberedFit n (Some answers) = suc (length (flat_map answer_bytes answers)) ≤ n

numbered : (n : ℕ) (answers : Option (List Answer)) → AllFit n answers → NumberedFit (suc n) answers
numbered n None all = tt
numbered n (Some answers) all = omega (arith, all)

answers_fit : (bytes : List ℕ) → NumberedFit (length bytes) (answers_in bytes)
answers_fit [] = tt
answers_fit (count ∷ bytes) = numbered (length bytes) (answers_in (count ∷ bytes)) (answers_where (nat_le count answer_limit) (length bytes) (these_answers count bytes) (these_fit count bytes))

behind_line : (line : List ℕ) (n rest : ℕ) (answers : Option (List Answer)) → NumberedFit rest answers → length line + 4 + rest ≤ n
    → EntryFits n (option_map (λ (read : List Answer). record { line = line; answers = read }) answers)
behind_line line n rest None all fits = tt
behind_line line n rest (Some answers) all fits = omega (arith, all, fits, written_length line answers)

body_fits : (body : List ℕ) → EntryFits (length body) (body_in body)
body_fits body =
    let n = from_four body in
    entry_where (nat_le 4 (length body) && nat_le n line_limit && nat_le (4 + n) (length body)) (length body) _
    (λ tested.
    let both = and_parts (nat_le 4 (length body) && nat_le n line_limit) (nat_le (4 + n) (length body)) tested in
    let within : 4 + n ≤ length body = leb-true (4 + n) (length body) both.1 in
    behind_line (take n (drop 4 body)) (length body) (length (drop (4 + n) body)) (answers_in (drop (4 + n) body)) (answers_fit (drop (4 + n) body))
    (omega (arith, within, length-take n (drop 4 body), length-drop 4 body, length-drop (4 + n) body)))

grows : (n m : ℕ) (entry : Option Accepted) → n ≤ m → EntryFits n entry → EntryFits m entry
grows n m None le fits = tt
grows n m (Some entry) le fits = omega (arith, le, fits)

entry_fits : (bytes : List ℕ) → EntryFits (from_four bytes) (entry_in bytes)
entry_fits bytes =
    let n = from_four bytes in
    entry_where (nat_le 4 (length bytes) && nat_le (size_at bytes) (length bytes)) n (body_in (take n (drop 4 bytes)))
    (λ tested. grows (length (take n (drop 4 bytes))) n (body_in (take n (drop 4 bytes))) (omega (arith, length-take n (drop 4 bytes))) (body_fits (take n (drop 4 bytes))))

-- ---- a slot

pub taken-cons : (entry : Accepted) (entries : List Accepted) → taken_bytes (entry ∷ entries) ≡ length (written_bytes entry.line entry.answers) + taken_bytes entries
taken-cons entry entries = sum_by-cons (λ (e : Accepted). length (written_bytes e.line e.answers)) entry entries

abbrev TailFits : ℕ → Tail → Type 0
TailFits at tail = at + taken_bytes tail.entries ≤ tail.gate

after_fits : (at : ℕ) (bytes : List ℕ) (entry : Option Accepted) (tail : Tail) → entry_in bytes ≡ entry → EntryFits (from_four bytes) entry
    → (size_at bytes ≤ length bytes → TailFits (suc at + size_at bytes) tail) → TailFits at (after_gate at entry tail)
after_fits at bytes None tail is fits rest = omega arith
after_fits at bytes (Some entry) tail is fits rest =
    let behind = rest (entry_within bytes entry is) in
    let sum : taken_bytes (after_gate at (Some entry) tail).entries ≡ length (written_bytes entry.line entry.answers) + taken_bytes tail.entries = taken-cons entry tail.entries in
    let gate : (after_gate at (Some entry) tail).gate ≡ tail.gate = refl in
    omega (arith, fits, behind, sum, gate)

gate_fits : (b : Bool) (at : ℕ) (bytes : List ℕ) (tail : Tail) → EntryFits (from_four bytes) (entry_in bytes) → (size_at bytes ≤ length bytes → TailFits (suc at + size_at bytes) tail)
    → TailFits at (if b then after_gate at (entry_in bytes) tail else record { entries = []; gate = at; cut = None })
gate_fits true at bytes tail fits rest = after_fits at bytes (entry_in bytes) tail refl fits rest
gate_fits false at bytes tail fits rest = omega arith

entries_fit : (pass at : ℕ) (bytes : List ℕ) → pass ≤ length bytes → TailFits (at + pass) (entries_from pass at bytes)
entries_fit pass at [] le = omega (arith, le)
entries_fit (suc pass) at (byte ∷ bytes) le =
    let rest = entries_fit pass (suc at) bytes (omega (arith, le)) in
    omega (arith, rest)
entries_fit zero at (gate ∷ bytes) le =
    let here = gate_fits (gate == 1) at bytes (entries_from (size_at bytes) (suc at) bytes) (entry_fits bytes) (λ within. entries_fit (size_at bytes) (suc at) bytes within) in
    omega (arith, here)

-- the entries stand before the gate that ends them
pub taken_fit : (image : Image) (log : Log) → held image ≡ Ok (Some log) → taken_bytes log.kept.entries ≤ log.gate
taken_fit image log is =
    let u = in_use_of image log is in
    let bytes = in_slot u.slot image in
    let r = reads_of u.slot bytes log u.read in
    let e = entries_at r.format bytes in
    let fits = entries_fit 0 e (drop e bytes) (omega arith) in
    subst (λ (l : Log). taken_bytes l.kept.entries ≤ l.gate) r.log_is (omega (arith, fits))

-- the bytes in use stand in the slot
pub used_stands : {D : Type 0} (seen : D → Image) (may_leave : D → Image → Type 0) (journal : Journal) (log : Log) (disk : D) → IsAtRest seen may_leave journal log disk
    → journal.used ≤ length (in_slot journal.slot (seen disk))
used_stands seen may_leave journal log disk rest =
    let u = in_use_of (seen disk) log rest.holds in
    let stem = stem_of u.slot (in_slot u.slot (seen disk)) log u.read rest.whole in
    let long : log.gate + 1 ≤ length (in_slot u.slot (seen disk)) = omega (arith, stem.long) in
    subst (λ (j : Journal). j.used ≤ length (in_slot j.slot (seen disk))) (sym rest.in_hand) (subst (λ (slot : Slot). log.gate + 1 ≤ length (in_slot slot (seen disk))) (sym stem.own) long)

-- ---- sizes

answer-size : (a : Answer) → is_short a ≡ true → length (answer_bytes a) ≤ 2 ^ 20 + 5
answer-size answer.PutDone short = omega arith
answer-size answer.Failed short = omega arith
answer-size (answer.Found bytes) short =
    let within : length bytes ≤ 2 ^ 20 = leb-true (length bytes) (2 ^ 20) short in
    omega (arith, within, length-append (2 ∷ four (length bytes)) bytes, length-four (length bytes))
answer-size answer.Absent short = omega arith
answer-size answer.TooLong short = omega arith

all-size : (answers : List Answer) → list_all is_short answers ≡ true → length (flat_map answer_bytes answers) ≤ length answers * (2 ^ 20 + 5)
all-size [] short = omega arith
all-size (a ∷ answers) short =
    let both = and_parts (is_short a) (list_all is_short answers) short in
    omega (arith, length-append (answer_bytes a) (flat_map answer_bytes answers), answer-size a both.0, all-size answers both.1)

-- the answers of an entry
pub answers-size : (line : List ℕ) (answers : List Answer) → is_within line answers ≡ true → (length line ≤ 65536) × (length answers ≤ 16) × (length (flat_map answer_bytes answers) ≤ 16 * (2 ^ 20 + 5))
answers-size line answers within =
    let front = and_parts (nat_le (length line) 65536 && nat_le (length answers) 16) (list_all is_short answers) within in
    let sizes = and_parts (nat_le (length line) 65536) (nat_le (length answers) 16) front.0 in
    let few : length answers ≤ 16 = leb-true (length answers) 16 sizes.1 in
    let all = all-size answers front.1 in
    (leb-true (length line) 65536 sizes.0, few, omega (arith, few, all))

-- far less than a slot has room for
pub written-size : (line : List ℕ) (answers : List Answer) → is_within line answers ≡ true → length (written_bytes line answers) ≤ 2 ^ 25
written-size line answers within =
    let sizes = answers-size line answers within in
    omega (arith, sizes.0, sizes.2, written_length line answers)

-- an entry with a line of the stream and answers that an entry may have
pub both-within : (line : List ℕ) (answers : List Answer) → length line ≤ 65536 → is_within [] answers ≡ true → is_within line answers ≡ true
both-within line answers h k = by (nat_le (length line) 65536) (le-leb (length line) 65536 h) k
  where
    by : (b : Bool) → b ≡ true → (nat_le 0 65536 && nat_le (length answers) 16 && list_all is_short answers) ≡ true → (b && nat_le (length answers) 16 && list_all is_short answers) ≡ true
    by true e i = i
    by false e i = cc

pub taken-less : (i : ℕ) (answers : List Answer) → length (flat_map answer_bytes (take i answers)) ≤ length (flat_map answer_bytes answers)
taken-less zero answers = omega arith
taken-less (suc i) [] = omega arith
taken-less (suc i) (a ∷ answers) =
    omega (arith, taken-less i answers, length-append (answer_bytes a) (flat_map answer_bytes (take i answers)), length-append (answer_bytes a) (flat_map answer_bytes answers))
