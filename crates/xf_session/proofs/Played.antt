-- What entries that are played again come to.
use Rattle.std.proofs.Common.{length, length-drop, take, drop, zero, suc, ◌≡◌, ◌≤◌, ◌<◌, ℕ, ◌+◌, ◌-◌, List, [], ◌∷◌, Option, Some, None, Result, Ok, Err, refl, sym, ap, ◌∙◌, subst, arith}
use Rattle.std.specs.Prelude.{Bool, true, false, ◌&&◌, if◌then◌else◌, IfOk}
use Rattle.std.proofs.lemmas.Bool.{and_from}
use Rattle.std.proofs.lemmas.List.{take_all}
use Rattle.xf_disk.specs.declared.slot.Slot.{Slot}
use Rattle.xf_store.specs.declared.answers.Answer.{Answer}
use Rattle.xf_store.specs.declared.call.StoreCall.{StoreCall}
use Rattle.xf_store.specs.Called.{Called, Told}
use Rattle.xf_store.specs.Replay.{Covers}
use Rattle.xf_journal.specs.declared.entry.Accepted.{Accepted}
use Rattle.xf_journal.specs.declared.image.Scanned.{Scanned}
use Rattle.xf_journal.specs.Entry.{written_bytes, is_within, are_within}
use Rattle.xf_journal.specs.Held.{Log}
use Rattle.xf_journal.specs.Scanned.{scanned_of}
use Rattle.xf_def_machine.specs.declared.refusal.Refusal.{Refusal}
use Rattle.xf_def_machine.specs.Profile.{Profile}
use Rattle.xf_def_machine.specs.Program.{Program}
use Rattle.xf_def_machine.specs.State.{State}
use Rattle.xf_def_machine.specs.Refusal as machine
use Rattle.xf_def_machine.specs.Construct.{construct}
use Rattle.xf_def_machine.specs.Flow.{◌>>=◌}
use Rattle.xf_def_machine.specs.Replies.{answers_in}
use Rattle.xf_def_machine.specs.Run.{same_answer, are_those_of, if_exact}
use Rattle.xf_def_machine.specs.Start.{readied, start}
use Rattle.xf_def_machine.specs.Step.{Posted, Outcome, accepted, refused, outcome, at_end}
use Rattle.xf_def_form.specs.Formed.{profile}
use Rattle.xf_def_sessions.specs.Sessions.{fresh_session}
use Rattle.xf_def_sessions.specs.Images.{item_of}
use Rattle.xf_def_sessions.specs.Opening.{Opened, damaged, at_cut, state_after, then_entries, replayed, first_gate, base_offset}
use Rattle.xf_actions.specs.declared.fault.EventFault.{EventFault}
use Rattle.xf_actions.specs.declared.fault.EventFault.TheVariants as processor_fault
use Rattle.xf_session.specs.Processing.{IsAccepted, IsPosted, IsRefusedAfter, IsStarted, started}
use Rattle.xf_session.proofs.Offsets.{taken-cons}
use Rattle.xf_session.specs.Opening.{opening_from}
use Rattle.xf_session.specs.Replaying.{same_answers, where_same, then_played, played, taken_bytes}

-- ---- answers

pub those_same : (calls : List StoreCall) (answers : List Answer) → are_those_of calls answers ≡ same_answers (answers_in calls) answers
those_same [] [] = refl
those_same [] (answer ∷ answers) = refl
those_same (call ∷ calls) [] = refl
those_same (call ∷ calls) (answer ∷ answers) = ap (λ (b : Bool). same_answer call.answer answer && b) (those_same calls answers)

-- both are empty, or differ there
pub one-apart : (answer other : Answer) (answers others : List Answer) (given kept : List Answer) → given ≡ answer ∷ answers → kept ≡ other ∷ others → same_answer answer other ≡ false → same_answers given kept ≡ false
one-apart answer other answers others given kept e k apart = (λ i. same_answers (e i) (k i)) ∙ ap (λ (b : Bool). b && same_answers answers others) apart

pub one-same : (answer other : Answer) (answers others : List Answer) (given kept : List Answer) → given ≡ answer ∷ answers → kept ≡ other ∷ others → same_answer answer other ≡ true
    → same_answers given kept ≡ same_answers answers others
one-same answer other answers others given kept e k same = (λ i. same_answers (e i) (k i)) ∙ ap (λ (b : Bool). b && same_answers answers others) same

-- what the calls made are covered by, where the answers to come were told
pub covered : (answers : List Answer) (last : Told) (made : List StoreCall) → Called (None, Some answers) last [] made → Covers answers made
covered answers last made called = subst (Covers answers) (sym called.grown) called.answers.0

-- an accepted event is exact where its calls got these answers
pub exact_accepted : (answers : List Answer) (given : Outcome) (t : State) (made : List StoreCall) (posted : Posted) → IsAccepted given t made posted
    → if_exact answers given ≡ where_same (answers_in made) answers t
exact_accepted answers given t made posted h =
    ap (if_exact answers) h.is ∙ ap (λ (b : Bool). if b then Some t else None) (ap (λ (calls : List StoreCall). are_those_of calls answers) h.calls ∙ those_same made answers)

-- a refused one is none
pub refused_none : (answers : List Answer) (refusal : Refusal) (made : List StoreCall) (given : Outcome) → IsRefusedAfter refusal made given → if_exact answers given ≡ None
refused_none answers refusal made (accepted t posted) h = absurd h
refused_none answers refusal made (refused why calls) h = refl

pub where-true : (given kept : List Answer) (s : State) → same_answers given kept ≡ true → where_same given kept s ≡ Some s
where-true given kept s h = ap (λ (b : Bool). if b then Some s else None) h

pub where-false : (given kept : List Answer) (s : State) → same_answers given kept ≡ false → where_same given kept s ≡ None
where-false given kept s h = ap (λ (b : Bool). if b then Some s else None) h

pub where-is : (given kept : List Answer) (s : State) (b : Bool) → same_answers given kept ≡ b → where_same given kept s ≡ (if b then Some s else None)
where-is given kept s b h = ap (λ (b : Bool). if b then Some s else None) h

-- ---- the start

-- construction comes before it
pub start_is : (program : Program) (first : State) (answers : List Answer) → construct profile program ≡ Ok first → start profile program answers ≡ started first answers
start_is program first answers built = ap (λ (r : Result State machine.Refused). outcome (at_end profile) (r >>= readied profile answers)) built

-- ---- entries

-- where the entries end
abbrev ended : Log → List Accepted → ℕ → State → Opened
ended log [] at s = at_cut log.kept.slot log.cut (fresh_session log.kept.form log.kept.adoptions s)
ended log (entry ∷ entries) at s = damaged log.kept.slot at

pair : {A B : Type 0} (a c : A) (b d : B) → ◌≡◌ {A = A × B} (a, b) (c, d) → (a ≡ c) × (b ≡ d)
pair {A} {B} a c b d h = (ap (λ (p : A × B). p.0) h, ap (λ (p : A × B). p.1) h)

here : (log : Log) (at n : ℕ) (s t : State) (entry : Accepted) (entries left : List Accepted) → ◌≡◌ {A = State × List Accepted} (s, entry ∷ entries) (t, left) → taken_bytes (entry ∷ entries) ≡ n
    → damaged log.kept.slot at ≡ ended log left (at + n - taken_bytes left) t
here log at n s t entry entries left e size =
    let same : taken_bytes (entry ∷ entries) ≡ taken_bytes left = ap taken_bytes (pair s t (entry ∷ entries) left e).1 in
    let offset : at ≡ at + n - taken_bytes left = omega (arith, size, same) in
    ap (damaged log.kept.slot) offset ∙ ap (λ (l : List Accepted). ended log l (at + n - taken_bytes left) t) (pair s t (entry ∷ entries) left e).1

abbrev Replays : Profile → Log → List Accepted → ℕ → List Accepted → State → State → Type 0
Replays p log entries at left s t = played p s entries ≡ (t, left) → replayed p log entries at s ≡ ended log left (at + taken_bytes entries - taken_bytes left) t

replays-on : (p : Profile) (log : Log) (entry : Accepted) (entries : List Accepted) (at : ℕ) (s t : State) (left : List Accepted) (o : Option State)
    → ((u : State) → Replays p log entries (at + length (written_bytes entry.line entry.answers)) left u t)
    → then_played s (entry ∷ entries) (λ u. played p u entries) o ≡ (t, left)
    → then_entries log at (replayed p log entries (at + length (written_bytes entry.line entry.answers))) o ≡ ended log left (at + taken_bytes (entry ∷ entries) - taken_bytes left) t
replays-on p log entry entries at s t left None rest h = here log at (taken_bytes (entry ∷ entries)) s t entry entries left h refl
replays-on p log entry entries at s t left (Some u) rest h =
    let size = length (written_bytes entry.line entry.answers) in
    let sum : taken_bytes (entry ∷ entries) ≡ size + taken_bytes entries = taken-cons entry entries in
    let sums : at + size + taken_bytes entries - taken_bytes left ≡ at + taken_bytes (entry ∷ entries) - taken_bytes left = omega (arith, sum) in
    rest u h ∙ ap (λ (n : ℕ). ended log left n t) sums

pub replays : (p : Profile) (log : Log) (entries : List Accepted) (at : ℕ) (s t : State) (left : List Accepted) → Replays p log entries at left s t
replays p log [] at s t left e =
    let both = pair s t [] left e in
    ap (ended log [] (at + taken_bytes [] - taken_bytes left)) both.0 ∙ ap (λ (l : List Accepted). ended log l (at + taken_bytes [] - taken_bytes left) t) both.1
replays p log (entry ∷ entries) at s t left e =
    replays-on p log entry entries at s t left (state_after p s (item_of entry)) (λ u. replays p log entries (at + length (written_bytes entry.line entry.answers)) u t left) e

-- ---- one entry

pub taken-on : (p : Profile) (s t : State) (entry : Accepted) (entries : List Accepted) → state_after p s (item_of entry) ≡ Some t → played p s (entry ∷ entries) ≡ played p t entries
taken-on p s t entry entries h = ap (then_played s (entry ∷ entries) (λ u. played p u entries)) h

pub not-taken : (p : Profile) (s : State) (entry : Accepted) (entries : List Accepted) → state_after p s (item_of entry) ≡ None → played p s (entry ∷ entries) ≡ (s, entry ∷ entries)
not-taken p s entry entries h = ap (then_played s (entry ∷ entries) (λ u. played p u entries)) h

-- ---- the whole

-- the slots open by what is pending: where the start did not get exactly the answers of the base
pub base-damaged : (log : Log) (given kept : List Answer) (s : State) → same_answers given kept ≡ false → opening_from profile log (where_same given kept s) ≡ damaged log.kept.slot (base_offset log)
base-damaged log given kept s h = ap (opening_from profile log) (where-false given kept s h)

pub entries-opened : (log : Log) (given kept : List Answer) (s t : State) (left : List Accepted) → same_answers given kept ≡ true → taken_bytes log.kept.entries ≤ log.gate
    → played profile s log.kept.entries ≡ (t, left) → opening_from profile log (where_same given kept s) ≡ ended log left (log.gate - taken_bytes left) t
entries-opened log given kept s t left h fits e =
    let offset : first_gate log + taken_bytes log.kept.entries - taken_bytes left ≡ log.gate - taken_bytes left = omega (arith, fits) in
    ap (opening_from profile log) (where-true given kept s h)
    ∙ replays profile log log.kept.entries (first_gate log) s t left e
    ∙ ap (λ (n : ℕ). ended log left n t) offset

-- at the gate of the first that is not taken
pub entry-damaged : (log : Log) (given kept : List Answer) (s t : State) (left : List Accepted) → same_answers given kept ≡ true → taken_bytes log.kept.entries ≤ log.gate
    → played profile s log.kept.entries ≡ (t, left) → 0 < length left → opening_from profile log (where_same given kept s) ≡ damaged log.kept.slot (log.gate - taken_bytes left)
entry-damaged log given kept s t [] h fits e some = absurd (omega (arith, some))
entry-damaged log given kept s t (entry ∷ left) h fits e some = entries-opened log given kept s t (entry ∷ left) h fits e

-- all were taken
pub all-opened : (log : Log) (given kept : List Answer) (s t : State) (left : List Accepted) → same_answers given kept ≡ true → taken_bytes log.kept.entries ≤ log.gate
    → played profile s log.kept.entries ≡ (t, left) → length left ≡ 0 → opening_from profile log (where_same given kept s) ≡ at_cut log.kept.slot log.cut (fresh_session log.kept.form log.kept.adoptions t)
all-opened log given kept s t [] h fits e none = entries-opened log given kept s t [] h fits e
all-opened log given kept s t (entry ∷ left) h fits e none = absurd (omega (arith, none))

-- ---- a reopening

-- what was read, in the words of the journal
pub left-damaged : (log : Log) (scanned : Scanned) (given kept : List Answer) (s mid t : State) (entries : List Accepted) (count gate at : ℕ) (slot : Slot) → scanned ≡ scanned_of log
    → taken_bytes log.kept.entries ≤ log.gate → same_answers given kept ≡ true → mid ≡ s → entries ≡ scanned.entries → played profile mid entries ≡ (t, drop count entries) → count < length entries
    → gate ≡ scanned.journal.used - 1 → at ≡ gate - taken_bytes (take (length entries - count) (drop count entries)) → slot ≡ scanned.journal.slot
    → opening_from profile log (where_same given kept s) ≡ damaged slot at
left-damaged log scanned given kept s mid t entries count gate at slot is fits same started read e some gate_is at_is slot_is =
    let all : entries ≡ log.kept.entries = read ∙ ap (λ (x : Scanned). x.entries) is in
    let from_start : played profile s log.kept.entries ≡ (t, drop count entries) = (λ i. played profile (sym started i) (sym all i)) ∙ e in
    let left : 0 < length (drop count entries) = omega (arith, some, length-drop count entries) in
    let used : scanned.journal.used ≡ log.gate + 1 = ap (λ (x : Scanned). x.journal.used) is in
    let whole : take (length entries - count) (drop count entries) ≡ drop count entries = take_all (length entries - count) (drop count entries) (omega (arith, length-drop count entries)) in
    let size = ap taken_bytes whole in
    let offset : log.gate - taken_bytes (drop count entries) ≡ at = omega (arith, used, gate_is, at_is, size) in
    let place : log.kept.slot ≡ slot = sym (slot_is ∙ ap (λ (x : Scanned). x.journal.slot) is) in
    entry-damaged log given kept s t (drop count entries) same fits from_start left ∙ (λ i. damaged (place i) (offset i))

pub all-replayed : (log : Log) (scanned : Scanned) (given kept : List Answer) (s mid t : State) (entries : List Accepted) (count : ℕ) → scanned ≡ scanned_of log
    → taken_bytes log.kept.entries ≤ log.gate → same_answers given kept ≡ true → mid ≡ s → entries ≡ scanned.entries → played profile mid entries ≡ (t, drop count entries) → length entries ≤ count
    → opening_from profile log (where_same given kept s) ≡ at_cut log.kept.slot scanned.cut (fresh_session log.kept.form log.kept.adoptions t)
all-replayed log scanned given kept s mid t entries count is fits same started read e all_taken =
    let all : entries ≡ log.kept.entries = read ∙ ap (λ (x : Scanned). x.entries) is in
    let from_start : played profile s log.kept.entries ≡ (t, drop count entries) = (λ i. played profile (sym started i) (sym all i)) ∙ e in
    let none : length (drop count entries) ≡ 0 = omega (arith, all_taken, length-drop count entries) in
    all-opened log given kept s t (drop count entries) same fits from_start none
    ∙ ap (λ (o : Option ℕ). at_cut log.kept.slot o (fresh_session log.kept.form log.kept.adoptions t)) (sym (ap (λ (x : Scanned). x.cut) is))

-- those from one on are within their limits too
kept-where : (a b : Bool) → (a && b) ≡ true → (a ≡ true) × (b ≡ true)
kept-where true b h = (refl, h)
kept-where false b h = cc

within-drop : (n : ℕ) (entries : List Accepted) → are_within entries ≡ true → are_within (drop n entries) ≡ true
within-drop zero entries h = h
within-drop (suc n) [] h = refl
within-drop (suc n) (entry ∷ entries) h = within-drop n entries (kept-where (is_within entry.line entry.answers) (are_within entries) h).1

within-take : (n : ℕ) (entries : List Accepted) → are_within entries ≡ true → are_within (take n entries) ≡ true
within-take zero entries h = refl
within-take (suc n) [] h = refl
within-take (suc n) (entry ∷ entries) h =
    let both = kept-where (is_within entry.line entry.answers) (are_within entries) h in
    and_from (is_within entry.line entry.answers) (are_within (take n entries)) both.0 (within-take n entries both.1)

pub left-within : (n m : ℕ) (entries : List Accepted) → are_within entries ≡ true → are_within (take n (drop m entries)) ≡ true
left-within n m entries h = within-take n (drop m entries) (within-drop m entries h)

-- ---- an event

pub play-kept : {E : Type 0} (result : Result Bool E) (answers : List Answer) (given : Outcome) (t final : State) (made calls : List StoreCall) (posted : Posted) → IsAccepted given t made posted → calls ≡ made
    → IfOk result (λ is_kept. same_answers (answers_in calls) answers ≡ is_kept) → IfOk result (λ is_kept. is_kept ≡ true → final ≡ t)
    → IfOk result (λ is_taken. if_exact answers given ≡ (if is_taken then Some final else None))
play-kept (Ok true) answers given t final made calls posted h same exact back =
    exact_accepted answers given t made posted h ∙ where-true (answers_in made) answers t (ap (λ c. same_answers (answers_in c) answers) (sym same) ∙ exact) ∙ ap Some (sym (back refl))
play-kept (Ok false) answers given t final made calls posted h same exact back =
    exact_accepted answers given t made posted h ∙ where-false (answers_in made) answers t (ap (λ c. same_answers (answers_in c) answers) (sym same) ∙ exact)
play-kept (Err fault) answers given t final made calls posted h same exact back = tt

pub play-refused : (fault : EventFault) (refusal : Refusal) (answers : List Answer) (before after : State) (made : List StoreCall) (old new : List ℕ) (given : Outcome) → fault ≡ processor_fault.Refused refusal
    → IsPosted (Err fault) before after made old new given → if_exact answers given ≡ None
play-refused (processor_fault.Refused r) refusal answers before after made old new given e h = refused_none answers r made given h.0
play-refused processor_fault.Memory refusal answers before after made old new given e h = absurd (no-refusal refusal e)
  where
    no-refusal : (refusal : Refusal) → processor_fault.Memory ≡ processor_fault.Refused refusal → ⊥
    no-refusal refusal e = cc

-- ---- the start again

pub start-kept : {P : Type 0} (state : P → State) (program : Program) (first : State) (answers : List Answer) (p : P) (made calls : List StoreCall) (old new : List ℕ) → construct profile program ≡ Ok first → calls ≡ made
    → IsStarted state (Ok p) made old new (started first answers) → where_same (answers_in calls) answers (state p) ≡ if_exact answers (start profile program answers)
start-kept state program first answers p made calls old new built same h =
    ap (λ c. where_same (answers_in c) answers (state p)) same
    ∙ sym (ap (if_exact answers) (start_is program first answers built) ∙ exact_accepted answers (started first answers) (state p) made h.0 h.1)

pub start-refused : {P : Type 0} (state : P → State) (program : Program) (first : State) (answers : List Answer) (fault : EventFault) (refusal : Refusal) (made : List StoreCall) (old new : List ℕ)
    → construct profile program ≡ Ok first → fault ≡ processor_fault.Refused refusal → IsStarted state (Err fault) made old new (started first answers) → if_exact answers (start profile program answers) ≡ None
start-refused state program first answers (processor_fault.Refused r) refusal made old new built e h =
    ap (if_exact answers) (start_is program first answers built) ∙ refused_none answers r made (started first answers) h
start-refused state program first answers processor_fault.Memory refusal made old new built e h = absurd (no-refusal refusal e)
  where
    no-refusal : (refusal : Refusal) → processor_fault.Memory ≡ processor_fault.Refused refusal → ⊥
    no-refusal refusal e = cc
