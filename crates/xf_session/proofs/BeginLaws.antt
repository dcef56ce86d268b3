-- How a session is opened and begun.
use Rattle.std.proofs.Common.{ℕ, ◌≡◌, ◌≤◌, ◌⊎◌, inl, inr, Bool, true, false, List, [], Option, Some, None, Result, Ok, Err, refl, sym, ap, ◌∙◌, subst}
use Rattle.std.specs.Prelude.{IsTrue, IfOk}
use Rattle.xf_disk.specs.Image.{Image}
use Rattle.xf_disk.specs.Crash.{IsSettled, LeavesAll, LeavesOnly}
use Rattle.xf_store.specs.declared.answers.Answer.{Answer}
use Rattle.xf_store.specs.declared.call.StoreCall.{StoreCall}
use Rattle.xf_store.specs.Called.{Told}
use Rattle.xf_journal.specs.declared.fault.JournalFault.{JournalFault}
use Rattle.xf_journal.specs.declared.fault.JournalFault.TheVariants as journal
use Rattle.xf_journal.specs.declared.image.Scanned.{Scanned}
use Rattle.xf_journal.specs.Held.{Log, held}
use Rattle.xf_journal.specs.Moments.{OnlyLooks, IsOutside, HasDiskCause}
use Rattle.xf_journal.specs.Scanned.{journal_of, new_log, scanned_of, scan_of}
use Rattle.xf_disk.specs.declared.slot.Slot.TheVariants.{A}
use Rattle.xf_def_machine.specs.Program.{Program}
use Rattle.xf_def_machine.specs.State.{State}
use Rattle.xf_def_machine.specs.Replies.{answers_in}
use Rattle.xf_def_machine.specs.Start.{start}
use Rattle.xf_def_machine.specs.Step.{Outcome}
use Rattle.xf_def_form.specs.Formed.{profile}
use Rattle.xf_def_sessions.specs.Sessions as history
use Rattle.xf_def_sessions.specs.Sessions.{fresh_session}
use Rattle.xf_def_sessions.specs.Runs.{Item}
use Rattle.xf_def_sessions.specs.Images.{StandsForNone}
use Rattle.xf_def_sessions.specs.Opening.{Opened, opened, no_session, other_form, damaged}
use Rattle.xf_def_sessions.specs.Usual.{usual}
use Rattle.xf_session.specs.declared.fault.OpenFault.{OpenFault}
use Rattle.xf_session.specs.declared.fault.OpenFault.TheVariants.{Refused, OtherForm, Damaged, NoSession, DiskFault, Memory}
use Rattle.xf_session.specs.declared.looking.Found.{Found}
use Rattle.xf_session.specs.declared.session.Session.{Session}
use Rattle.xf_session.specs.Faults.{of_journal}
use Rattle.xf_session.specs.Opening.{start_with, opening_from, opening_form, adoptions_offset, counts_wrongly, opening_counted, opening_held, opening, damaged_by}
use Rattle.xf_session.specs.Replaying.{IsFound, IsFoundCounted, IsOfReading, IsOfLooking, Looks, HasOpenCause, Reopens, start_image, taken_bytes}
use Rattle.xf_journal.specs.declared.journal.Journal.{Journal}
use Rattle.xf_session.specs.Keeping.{Keeps, KeepsOne, KeepsNoItem, IsSession, IsAtDisk, Rests, RestsAs}
use Rattle.xf_session.specs.Beginning.{IsBuilt, IsOpened, Resumes, Begins, KeepsOnGoing, StartsOnce, IsInHand, ResumesIn, BeginsIn, HasStarted, StartsIn}
use Rattle.xf_session.proofs.Offsets.{taken_fit}
use Rattle.xf_session.proofs.Keeps.{keeps-opens, widened, runs-on}
use Rattle.xf_session.proofs.PostLaws.{silent}

-- ---- what is found

pub fault-looks : (bytes : List ℕ) (r : Result (Option Log) JournalFault) (fault : JournalFault) → IsOutside fault ⊎ (scan_of r ≡ Err fault) → Looks bytes r (Err (of_journal fault))
fault-looks bytes (Err f) journal.DiskFault h = tt
fault-looks bytes (Ok None) journal.DiskFault h = tt
fault-looks bytes (Ok (Some log)) journal.DiskFault h = tt
fault-looks bytes (Err f) journal.Memory h = tt
fault-looks bytes (Ok None) journal.Memory h = tt
fault-looks bytes (Ok (Some log)) journal.Memory h = tt
fault-looks bytes r (journal.Damaged slot at) (inl h) = absurd h
fault-looks bytes (Err f) (journal.Damaged slot at) (inr h) = cc
fault-looks bytes (Ok None) (journal.Damaged slot at) (inr h) = cc
fault-looks bytes (Ok (Some log)) (journal.Damaged slot at) (inr h) = cc

pub none-looks : (bytes : List ℕ) (r : Result (Option Log) JournalFault) → scan_of r ≡ Ok None → Looks bytes r (Ok None)
none-looks bytes (Err f) h = cc
none-looks bytes (Ok None) h = tt
none-looks bytes (Ok (Some log)) h = cc

some-same : (log : Log) (scanned : Scanned) → scan_of (Ok (Some log)) ≡ Ok (Some scanned) → scanned ≡ scanned_of log
some-same log scanned h = cc

pub found-looks : (bytes : List ℕ) (r : Result (Option Log) JournalFault) (scanned : Scanned) (found : Found) → scan_of r ≡ Ok (Some scanned)
    → ((log : Log) → scanned ≡ scanned_of log → IsFound bytes log (Ok found)) → Looks bytes r (Ok (Some found))
found-looks bytes (Err f) scanned found h is = cc
found-looks bytes (Ok None) scanned found h is = cc
found-looks bytes (Ok (Some log)) scanned found h is = is log (some-same log scanned h)

pub not-found-looks : (bytes : List ℕ) (r : Result (Option Log) JournalFault) (scanned : Scanned) (fault : OpenFault) → scan_of r ≡ Ok (Some scanned)
    → ((log : Log) → scanned ≡ scanned_of log → IsFound bytes log (Err fault)) → Looks bytes r (Err fault)
not-found-looks bytes (Err f) scanned fault h is = cc
not-found-looks bytes (Ok None) scanned fault h is = cc
not-found-looks bytes (Ok (Some log)) scanned (Refused refusal) h is = is log (some-same log scanned h)
not-found-looks bytes (Ok (Some log)) scanned (OtherForm at) h is = is log (some-same log scanned h)
not-found-looks bytes (Ok (Some log)) scanned (Damaged slot at) h is = is log (some-same log scanned h)
not-found-looks bytes (Ok (Some log)) scanned NoSession h is = is log (some-same log scanned h)
not-found-looks bytes (Ok (Some log)) scanned DiskFault h is = tt
not-found-looks bytes (Ok (Some log)) scanned Memory h is = tt

pub none-held : (bytes : List ℕ) (r : Result (Option Log) JournalFault) → Looks bytes r (Ok None) → r ≡ Ok None
none-held bytes (Err f) h = absurd h
none-held bytes (Ok None) h = refl
none-held bytes (Ok (Some log)) h = absurd h

-- what was found, where the count of adoptions is right
found-right : (bytes : List ℕ) (log : Log) (found : Found) (b : Bool) → counts_wrongly log ≡ b → IsFoundCounted b bytes log (Ok found) → (counts_wrongly log ≡ false) × IsFoundCounted false bytes log (Ok found)
found-right bytes log found true e h = absurd h
found-right bytes log found false e h = (e, h)

held-log : (bytes : List ℕ) (r : Result (Option Log) JournalFault) (found : Found) → Looks bytes r (Ok (Some found)) → (log : Log) × (r ≡ Ok (Some log)) × (found.scanned ≡ scanned_of log)
held-log bytes (Err f) found h = absurd h
held-log bytes (Ok None) found h = absurd h
held-log bytes (Ok (Some log)) found h = (log, refl, (found-right bytes log found (counts_wrongly log) refl h).1.0)

-- the journal that was read is at rest
pub rest-opened : {P D : Type 0} (tells : D → Bool) (seen : D → Image) (may_leave : D → Image → Type 0) (moment : D → ℕ) (left_since : D → ℕ → Image → Type 0) (bytes : List ℕ) (old new : D) (session : Session P) (found : Found)
    → OnlyLooks tells seen may_leave moment left_since old new → Looks bytes (held (seen old)) (Ok (Some found))
    → IsSettled (seen new) (may_leave new) → session.journal ≡ Some found.scanned.journal → found.scanned.cut ≡ None → IsAtDisk seen may_leave session new
rest-opened tells seen may_leave moment left_since bytes old new session found looks is settled journal cut = λ whole.
    let r = held-log bytes (held (seen old)) found is in
    subst (λ (j : Option Journal). Rests seen may_leave j new) (sym journal) (
      r.0,
      record {
        holds = ap held looks.same_seen ∙ r.1;
        whole = sym (ap (λ (x : Scanned). x.cut) r.2) ∙ cut;
        in_hand = ap (λ (x : Scanned). x.journal) r.2;
        settled = settled;
      },
    )

-- ---- faults

-- a fault of the slots is what opening gives
abbrev pub FaultIs : Opened → OpenFault → Type 0
FaultIs found (Refused refusal) = ⊥
FaultIs found (OtherForm at) = found ≡ other_form at
FaultIs found (Damaged slot at) = found ≡ damaged slot at
FaultIs found NoSession = ⊥
FaultIs found DiskFault = Unit {0}
FaultIs found Memory = Unit {0}

-- of a journal, by whether the count of adoptions is right
found-fault : (bytes : List ℕ) (program : Program) (log : Log) (b : Bool) (fault : OpenFault) → IsFoundCounted b bytes log (Err fault) → FaultIs (opening_counted profile bytes program log b) fault
found-fault bytes program log true (Refused refusal) h = absurd h
found-fault bytes program log true (OtherForm at) h = absurd h
found-fault bytes program log true (Damaged slot at) h = λ i. damaged (sym h.0 i) (sym h.1 i)
found-fault bytes program log true NoSession h = absurd h
found-fault bytes program log true DiskFault h = absurd h
found-fault bytes program log true Memory h = tt
found-fault bytes program log false (Refused refusal) h = absurd h
found-fault bytes program log false (OtherForm at) h = ap (opening_form profile program log) h
found-fault bytes program log false (Damaged slot at) h =
    ap (opening_form profile program log) h.0 ∙ ap (λ o. opening_from profile log (start_with profile program o)) h.1
    ∙ (λ i. damaged (sym h.2 i) (sym h.3 i))
found-fault bytes program log false NoSession h = absurd h
found-fault bytes program log false DiskFault h = absurd h
found-fault bytes program log false Memory h = tt

looks-fault-held : (bytes : List ℕ) (program : Program) (r : Result (Option Log) JournalFault) (fault : OpenFault) → Looks bytes r (Err fault) → FaultIs (opening_held profile bytes program r) fault
looks-fault-held bytes program (Err f) (Refused refusal) h = absurd h
looks-fault-held bytes program (Err f) (OtherForm at) h = absurd h
looks-fault-held bytes program (Err f) (Damaged slot at) h = ap damaged_by h
looks-fault-held bytes program (Err f) NoSession h = absurd h
looks-fault-held bytes program (Ok None) (Refused refusal) h = absurd h
looks-fault-held bytes program (Ok None) (OtherForm at) h = absurd h
looks-fault-held bytes program (Ok None) (Damaged slot at) h = absurd h
looks-fault-held bytes program (Ok None) NoSession h = absurd h
looks-fault-held bytes program (Ok (Some log)) (Refused refusal) h = found-fault bytes program log (counts_wrongly log) (Refused refusal) h
looks-fault-held bytes program (Ok (Some log)) (OtherForm at) h = found-fault bytes program log (counts_wrongly log) (OtherForm at) h
looks-fault-held bytes program (Ok (Some log)) (Damaged slot at) h = found-fault bytes program log (counts_wrongly log) (Damaged slot at) h
looks-fault-held bytes program (Ok (Some log)) NoSession h = found-fault bytes program log (counts_wrongly log) NoSession h
looks-fault-held bytes program r DiskFault h = tt
looks-fault-held bytes program r Memory h = tt

reopens-fault : {T : Type 0} (state : T → State) (found : Opened) (fault : OpenFault) → Reopens state found (Err fault) → FaultIs found fault
reopens-fault state found (Refused refusal) h = absurd h
reopens-fault state found (OtherForm at) h = h
reopens-fault state found (Damaged slot at) h = h
reopens-fault state found NoSession h = absurd h
reopens-fault state found DiskFault h = tt
reopens-fault state found Memory h = tt

-- of a fault in reading, where nothing is told of the disk
any-fault : (fault : OpenFault) → IsOfLooking fault → (found : Opened) × FaultIs found fault
any-fault (Refused refusal) is = absurd is
any-fault (OtherForm at) is = (other_form at, refl)
any-fault (Damaged slot at) is = (damaged slot at, refl)
any-fault NoSession is = absurd is
any-fault DiskFault is = (no_session, tt)
any-fault Memory is = (no_session, tt)

resume-fault : {P : Type 0} (state : P → State) (found : Opened) (fault : OpenFault) → FaultIs found fault → Resumes state found (Err fault)
resume-fault state found (Refused refusal) h = absurd h
resume-fault state found (OtherForm at) h = h
resume-fault state found (Damaged slot at) h = h
resume-fault state found NoSession h = absurd h
resume-fault state found DiskFault h = tt
resume-fault state found Memory h = tt

begin-fault : {P : Type 0} (state : P → State) (found : Opened) (fault : OpenFault) (text : List ℕ) (given : Outcome) → FaultIs found fault → Begins state found (Err fault) [] text text given
begin-fault state found (Refused refusal) text given h = absurd h
begin-fault state found (OtherForm at) text given h = (h, record { calls = refl; text = refl })
begin-fault state found (Damaged slot at) text given h = (h, record { calls = refl; text = refl })
begin-fault state found NoSession text given h = absurd h
begin-fault state found DiskFault text given h = tt
begin-fault state found Memory text given h = tt

-- ---- causes

pub open-cause : {T : Type 0} (before now : ℕ) (fault : JournalFault) → HasDiskCause {T = T} before now (Err fault) → HasOpenCause {T = T} before now (Err (of_journal fault))
open-cause before now journal.DiskFault h = record { later = h.later; failed = λ e. h.failed refl }
open-cause before now (journal.Damaged slot at) h = record { later = h.later; failed = λ e. cc }
open-cause before now journal.Memory h = record { later = h.later; failed = λ e. cc }

reading-cause : {T : Type 0} (before now : ℕ) (fault : OpenFault) → before ≤ now → IsOfReading fault → HasOpenCause {T = T} before now (Err fault)
reading-cause before now (Refused refusal) le h = absurd h
reading-cause before now (OtherForm at) le h = record { later = le; failed = λ e. cc }
reading-cause before now (Damaged slot at) le h = record { later = le; failed = λ e. cc }
reading-cause before now NoSession le h = absurd h
reading-cause before now DiskFault le h = absurd h
reading-cause before now Memory le h = record { later = le; failed = λ e. cc }

-- a reading that is behind the calls of the disk
pub not-found-cause : {T U : Type 0} (before now : ℕ) (result : Result T JournalFault) (fault : OpenFault) → HasDiskCause before now result → IsOfReading fault → HasOpenCause {T = U} before now (Err fault)
not-found-cause {T} {U} before now result fault h is = reading-cause {T = U} before now fault h.later is

-- a reopening is no call of the disk
pub reopen-cause : {P T : Type 0} (before now : ℕ) (result : Result T OpenFault) (fault : OpenFault) → HasOpenCause before now result → IsOfReading fault → HasOpenCause {T = P} before now (Err fault)
reopen-cause {P} {T} before now result fault h is = reading-cause {T = P} before now fault h.later is

-- a fault is the same of whatever would have been opened
pub other-cause : {P T : Type 0} (before now : ℕ) (fault : OpenFault) → HasOpenCause {T = T} before now (Err fault) → HasOpenCause {T = P} before now (Err fault)
other-cause before now (Refused refusal) h = record { later = h.later; failed = λ e. cc }
other-cause before now (OtherForm at) h = record { later = h.later; failed = λ e. cc }
other-cause before now (Damaged slot at) h = record { later = h.later; failed = λ e. cc }
other-cause before now NoSession h = record { later = h.later; failed = λ e. cc }
other-cause before now DiskFault h = record { later = h.later; failed = λ e. h.failed refl }
other-cause before now Memory h = record { later = h.later; failed = λ e. cc }

-- a fault of reading alone is one of looking
pub looking-of : (fault : OpenFault) → IsOfReading fault → IsOfLooking fault
looking-of (Refused refusal) h = absurd h
looking-of (OtherForm at) h = tt
looking-of (Damaged slot at) h = tt
looking-of NoSession h = absurd h
looking-of DiskFault h = tt
looking-of Memory h = tt

-- ---- by what is found

module _ {P D : Type 0} (state : P → State) (tells : D → Bool) (seen : D → Image) (may_leave : D → Image → Type 0) (moment : D → ℕ) (left_since : D → ℕ → Image → Type 0)
    (seen_may_stand : (disk : D) → IsTrue (tells disk) → may_leave disk (seen disk)) (bytes : List ℕ) (program : Program) where
  -- what opening gives, where the disk tells, and else something
  abbrev FoundBy : D → (Opened → Type 0) → Type 0
  FoundBy old Q = (found : Opened) × (IsTrue (tells old) → found ≡ opening profile bytes program (seen old)) × Q found

  found-by : (old : D) (Q : Opened → Type 0) → (IsTrue (tells old) → Q (opening profile bytes program (seen old))) → (found : Opened) × Q found → FoundBy old Q
  found-by old Q by any = cases (tells old) refl
    where
      no-both : (b : Bool) → b ≡ true → b ≡ false → ⊥
      no-both b t f = cc

      cases : (b : Bool) → tells old ≡ b → FoundBy old Q
      cases true e = (opening profile bytes program (seen old), (λ told. refl), by e)
      cases false e = (any.0, (λ told. absurd (no-both (tells old) told e)), any.1)

  -- slots of which a session was read
  record Read (image : Image) (found : Found) : Type 0 where
    log : Log
    holds : held image ≡ Ok (Some log)
    scanned : found.scanned ≡ scanned_of log
    is : opening profile bytes program image ≡ opening_from profile log (start_with profile program (Some found.answers))

  read-held : (image : Image) (found : Found) (r : Result (Option Log) JournalFault) → held image ≡ r → Looks bytes r (Ok (Some found)) → Read image found
  read-held image found (Err f) e h = absurd h
  read-held image found (Ok None) e h = absurd h
  read-held image found (Ok (Some log)) e h =
      let right = found-right bytes log found (counts_wrongly log) refl h in
      record {
        log = log;
        holds = e;
        scanned = right.1.0;
        is = ap (opening_held profile bytes program) e ∙ ap (opening_counted profile bytes program log) right.0 ∙ ap (opening_form profile program log) right.1.1
            ∙ ap (λ o. opening_from profile log (start_with profile program o)) right.1.2;
      }

  -- ---- only looked

  looked : (old new : D) (Q : Image → Type 0) → OnlyLooks tells seen may_leave moment left_since old new → LeavesAll (may_leave old) Q → LeavesOnly moment left_since old new Q
  looked old new Q looks all = widened moment left_since old new (may_leave old) Q looks.each_moment all

  -- what a read gives might have been left before
  left-seen : (old new : D) → OnlyLooks tells seen may_leave moment left_since old new → IsTrue (tells old) → may_leave old (seen old)
  left-seen old new looks told = seen_may_stand old told

  -- ---- a session that was opened

  -- by what it was read
  record Opening (old new : D) (session : Session P) : Type 0 where
    looks : OnlyLooks tells seen may_leave moment left_since old new
    log : Log
    holds : held (seen old) ≡ Ok (Some log)
    journal : session.journal ≡ Some (journal_of log)
    settled : IsSettled (seen new) (may_leave new)
    s : history.Session
    opens : opening profile bytes program (seen old) ≡ opened s
    same : state session.processor ≡ s.state
    whole : session.is_broken ≡ false

  one-log : (a b : Log) (r : Result (Option Log) JournalFault) → r ≡ Ok (Some a) → r ≡ Ok (Some b) → a ≡ b
  one-log a b r h k = cc

  one-opened : (a b : history.Session) (found : Opened) → found ≡ opened a → found ≡ opened b → a ≡ b
  one-opened a b found h k = cc

  is-session : (old new : D) (session : Session P) (answers : List Answer) (items : List Item) → usual.form_in bytes ≡ Some program → Opening old new session → Keeps bytes answers items (seen old)
      → IsSession state seen may_leave bytes answers items session new
  is-session old new session answers items form o keeps =
      let log = keeps.1.0 in
      let one : o.log ≡ log = one-log o.log log (held (seen old)) o.holds keeps.1.1 in
      let last : o.s ≡ fresh_session bytes 0 keeps.0.state = one-opened o.s (fresh_session bytes 0 keeps.0.state) (opening profile bytes program (seen old)) o.opens (keeps-opens bytes program answers items keeps.0 (seen old) form keeps.1) in (
        keeps.0,
        record {
          log = log;
          rest = subst (λ (j : Option Journal). RestsAs seen may_leave j log new) (sym o.journal)
              (record { holds = ap held o.looks.same_seen ∙ keeps.1.1; whole = keeps.1.2.whole; in_hand = ap journal_of one; settled = o.settled });
          keeps = keeps.1.2;
          same = o.same ∙ ap (λ (x : history.Session). x.state) last;
          whole = o.whole;
        },
      )

  opened-on : (E : Type 0) (old new : D) (session : Session P) → usual.form_in bytes ≡ Some program → IsTrue (tells old) → Opening old new session
      → KeepsOnGoing {P = P} {D = D} {E = E} state seen may_leave moment left_since bytes (Ok session) old new
  opened-on E old new session form told o = λ answers items others all. (looked old new (KeepsOne bytes answers items others) o.looks all, by answers items others (all (seen old) (seen_may_stand old told)))
    where
      by : (answers : List Answer) (items others : List Item) → KeepsOne bytes answers items others (seen old)
          → IsSession state seen may_leave bytes answers items session new ⊎ IsSession state seen may_leave bytes answers others session new
      by answers items others (inl h) = inl (is-session old new session answers items form o h)
      by answers items others (inr h) = inr (is-session old new session answers others form o h)

  not-none : (log : Log) (r : Result (Option Log) JournalFault) → r ≡ Ok (Some log) → r ≡ Ok None → ⊥
  not-none log r h k = cc

  opened-once : (E : Type 0) (old new : D) (session : Session P) → usual.form_in bytes ≡ Some program → IsTrue (tells old) → Opening old new session
      → StartsOnce {P = P} {D = D} {E = E} state seen may_leave moment left_since bytes (Ok session) old new
  opened-once E old new session form told o = λ all. (looked old new (KeepsNoItem bytes) o.looks all, by (all (seen old) (seen_may_stand old told)))
    where
      by : KeepsNoItem bytes (seen old) → (answers : List Answer) × IsSession state seen may_leave bytes answers [] session new
      by (inl none) = absurd (not-none o.log (held (seen old)) o.holds none)
      by (inr h) = (h.0, is-session old new session h.0 [] form o h.1)

  -- ---- none was opened

  fault-on : {E : Type 0} (fault : E) (old new : D) → OnlyLooks tells seen may_leave moment left_since old new → KeepsOnGoing {P = P} {D = D} {E = E} state seen may_leave moment left_since bytes (Err fault) old new
  fault-on fault old new looks = λ answers items others all. (looked old new (KeepsOne bytes answers items others) looks all, tt)

  fault-once : {E : Type 0} (fault : E) (old new : D) → OnlyLooks tells seen may_leave moment left_since old new → StartsOnce {P = P} {D = D} {E = E} state seen may_leave moment left_since bytes (Err fault) old new
  fault-once fault old new looks = λ all. (looked old new (KeepsNoItem bytes) looks all, tt)

  -- ---- the parts of an opening

  -- what was read and reopened, where the disk tells
  reopening : (old new : D) (session : Session P) (found : Found) (s : history.Session) (r : Read (seen old) found) → OnlyLooks tells seen may_leave moment left_since old new
      → IsSettled (seen new) (may_leave new) → session.journal ≡ Some found.scanned.journal → session.is_broken ≡ false
      → opening_from profile r.log (start_with profile program (Some found.answers)) ≡ opened s → state session.processor ≡ s.state → Opening old new session
  reopening old new session found s r looks settled journal whole opens same = record {
    looks = looks;
    log = r.log;
    holds = r.holds;
    journal = journal ∙ ap (λ (x : Scanned). Some x.journal) r.scanned;
    settled = settled;
    s = s;
    opens = r.is ∙ opens;
    same = same;
    whole = whole;
  }

  -- what reopening says of each log, once it is read
  abbrev Reopened : Found → Result P OpenFault → Type 0
  Reopened found result = (log : Log) → found.scanned ≡ scanned_of log → taken_bytes log.kept.entries ≤ log.gate → Reopens state (opening_from profile log (start_with profile program (Some found.answers))) result

  reopened-by : (old : D) (found : Found) (result : Result P OpenFault) → Reopened found result → (r : Read (seen old) found) → Reopens state (opening_from profile r.log (start_with profile program (Some found.answers))) result
  reopened-by old found result reopens r = reopens r.log r.scanned (taken_fit (seen old) r.log r.holds)

  -- ---- the session that was opened

  opening-of : (old new : D) (session : Session P) (p : P) (found : Found) → OnlyLooks tells seen may_leave moment left_since old new → Looks bytes (held (seen old)) (Ok (Some found))
      → IsSettled (seen new) (may_leave new) → Reopened found (Ok p) → session.processor ≡ p → session.journal ≡ Some found.scanned.journal → session.is_broken ≡ false → Opening old new session
  opening-of old new session p found looks is settled reopens processor journal whole =
      let r = read-held (seen old) found (held (seen old)) refl is in
      let found_is = reopened-by old found (Ok p) reopens r in
      reopening old new session found found_is.0 r looks settled journal whole found_is.1 (ap state processor ∙ found_is.2)

  found-opened : (old new : D) (session : Session P) → (IsTrue (tells old) → Opening old new session) → FoundBy old (λ found. IsOpened state found session)
  found-opened old new session by =
      found-by old (λ found. IsOpened state found session) (λ told. let o = by told in (o.s, o.opens, o.same))
      (opened (fresh_session bytes 0 (state session.processor)), (fresh_session bytes 0 (state session.processor), refl, refl))

  pub looks-fault : (old : D) (fault : OpenFault) → Looks bytes (held (seen old)) (Err fault) → FaultIs (opening profile bytes program (seen old)) fault
  looks-fault old fault h = looks-fault-held bytes program (held (seen old)) fault h

  pub reopens-not : (old : D) (found : Found) (fault : OpenFault) → Looks bytes (held (seen old)) (Ok (Some found)) → Reopened found (Err fault) → FaultIs (opening profile bytes program (seen old)) fault
  reopens-not old found fault is reopens =
      let r = read-held (seen old) found (held (seen old)) refl is in
      subst (λ o. FaultIs o fault) (sym r.is) (reopens-fault state (opening_from profile r.log (start_with profile program (Some found.answers))) fault (reopened-by old found (Err fault) reopens r))

  -- ---- resume

  pub resumed : (first : State) (old new : D) (session : Session P) (p : P) (found : Found) → IsBuilt bytes program first → OnlyLooks tells seen may_leave moment left_since old new
      → (IsTrue (tells old) → Looks bytes (held (seen old)) (Ok (Some found))) → (IsTrue (tells old) → IsSettled (seen new) (may_leave new)) → Reopened found (Ok p)
      → session.processor ≡ p → session.journal ≡ Some found.scanned.journal → session.is_broken ≡ false
      → ResumesIn state tells seen may_leave moment left_since bytes program (Ok session) old new
  resumed first old new session p found built looks is settled reopens processor journal whole =
      let o : IsTrue (tells old) → Opening old new session = λ told. opening-of old new session p found looks (is told) (settled told) reopens processor journal whole in
      let by = found-opened old new session o in
      record {
        found = by.0;
        told = by.1;
        is = by.2;
        on = λ told. opened-on OpenFault old new session built.form told (o told);
        once = λ told. opened-once OpenFault old new session built.form told (o told);
      }

  pub not-resumed : (old new : D) (fault : OpenFault) → IsOfLooking fault → OnlyLooks tells seen may_leave moment left_since old new → (IsTrue (tells old) → FaultIs (opening profile bytes program (seen old)) fault)
      → ResumesIn state tells seen may_leave moment left_since bytes program (Err fault) old new
  not-resumed old new fault only looks is =
      let any = any-fault fault only in
      let by = found-by old (λ found. Resumes state found (Err fault)) (λ told. resume-fault state (opening profile bytes program (seen old)) fault (is told)) (any.0, resume-fault state any.0 fault any.1) in
      record {
        found = by.0;
        told = by.1;
        is = by.2;
        on = λ told. fault-on fault old new looks;
        once = λ told. fault-once fault old new looks;
      }

  pub not-resumed-as : (result : Result (Session P) OpenFault) (old new : D) (fault : OpenFault) → result ≡ Err fault → IsOfLooking fault → OnlyLooks tells seen may_leave moment left_since old new
      → (IsTrue (tells old) → FaultIs (opening profile bytes program (seen old)) fault) → ResumesIn state tells seen may_leave moment left_since bytes program result old new
  not-resumed-as result old new fault e only looks is = subst (λ r. ResumesIn state tells seen may_leave moment left_since bytes program r old new) (sym e) (not-resumed old new fault only looks is)

  pub none-resumed : (old new : D) → OnlyLooks tells seen may_leave moment left_since old new → (IsTrue (tells old) → Looks bytes (held (seen old)) (Ok None))
      → ResumesIn state tells seen may_leave moment left_since bytes program (Err NoSession) old new
  none-resumed old new looks is =
      let by = found-by old (λ found. found ≡ no_session) (λ told. ap (opening_held profile bytes program) (none-held bytes (held (seen old)) (is told))) (no_session, refl) in
      record {
        found = by.0;
        told = by.1;
        is = by.2;
        on = λ told. fault-on NoSession old new looks;
        once = λ told. fault-once NoSession old new looks;
      }

  -- ---- begin

  pub reopened-begins : (first : State) (old new : D) (session : Session P) (p : P) (found : Found) (told_store : Told) (text : List ℕ) → IsBuilt bytes program first
      → OnlyLooks tells seen may_leave moment left_since old new
      → (IsTrue (tells old) → Looks bytes (held (seen old)) (Ok (Some found))) → (IsTrue (tells old) → IsSettled (seen new) (may_leave new)) → Reopened found (Ok p)
      → session.processor ≡ p → session.journal ≡ Some found.scanned.journal → session.is_broken ≡ false
      → BeginsIn state tells seen may_leave moment left_since bytes program (Ok session) told_store told_store text text old new
  reopened-begins first old new session p found told_store text built looks is settled reopens processor journal whole =
      let o : IsTrue (tells old) → Opening old new session = λ told. opening-of old new session p found looks (is told) (settled told) reopens processor journal whole in
      let by = found-opened old new session o in
      record {
        made = [];
        called = silent told_store;
        own = tt;
        found = by.0;
        told = by.1;
        is = λ answers covers. inl (by.2, record { calls = refl; text = refl });
        used = λ told. let i = o told in (i.log, (i.journal, inl (i.s, by.1 told ∙ i.opens, i.holds)));
        on = λ told. opened-on OpenFault old new session built.form told (o told);
        once = λ told. opened-once OpenFault old new session built.form told (o told);
      }

  pub not-begun : (old new : D) (fault : OpenFault) (told_store : Told) (text : List ℕ) → IsOfLooking fault → OnlyLooks tells seen may_leave moment left_since old new
      → (IsTrue (tells old) → FaultIs (opening profile bytes program (seen old)) fault)
      → BeginsIn state tells seen may_leave moment left_since bytes program (Err fault) told_store told_store text text old new
  not-begun old new fault told_store text only looks is =
      let by = found-by old (λ found. FaultIs found fault) is (any-fault fault only) in
      record {
        made = [];
        called = silent told_store;
        own = tt;
        found = by.0;
        told = by.1;
        is = λ answers covers. begin-fault state by.0 fault text (start profile program answers) by.2;
        used = λ told. tt;
        on = λ told. fault-on fault old new looks;
        once = λ told. fault-once fault old new looks;
      }

  pub not-begun-as : (result : Result (Session P) OpenFault) (old new : D) (fault : OpenFault) (told_store : Told) (text : List ℕ) → result ≡ Err fault → IsOfLooking fault → OnlyLooks tells seen may_leave moment left_since old new
      → (IsTrue (tells old) → FaultIs (opening profile bytes program (seen old)) fault)
      → BeginsIn state tells seen may_leave moment left_since bytes program result told_store told_store text text old new
  not-begun-as result old new fault told_store text e only looks is =
      subst (λ r. BeginsIn state tells seen may_leave moment left_since bytes program r told_store told_store text text old new) (sym e) (not-begun old new fault told_store text only looks is)

  started-begins : (found : Opened) (result : Result (Session P) OpenFault) (made : List StoreCall) (old_text new_text : List ℕ) (given : Outcome) → found ≡ no_session
      → HasStarted state result made old_text new_text given → Begins state found result made old_text new_text given
  started-begins found (Ok session) made old_text new_text given none h = inr (record { none = none; posted = h.0; is = h.1; text = h.2 })
  started-begins found (Err (Refused refusal)) made old_text new_text given none h = (none, h)
  started-begins found (Err (OtherForm at)) made old_text new_text given none h = absurd h
  started-begins found (Err (Damaged slot at)) made old_text new_text given none h = absurd h
  started-begins found (Err NoSession) made old_text new_text given none h = absurd h
  started-begins found (Err DiskFault) made old_text new_text given none h = tt
  started-begins found (Err Memory) made old_text new_text given none h = tt

  -- no list of items is kept where the slots hold none
  no-items : (answers : List Answer) (items others : List Item) (image : Image) → held image ≡ Ok None → KeepsOne bytes answers items others image → ⊥
  no-items answers items others image none (inl h) = not-none h.1.0 (held image) h.1.1 none
  no-items answers items others image none (inr h) = not-none h.1.0 (held image) h.1.1 none

  on-session : (result : Result (Session P) OpenFault) (answers : List Answer) (new : D) → IfOk result (λ session. IsSession state seen may_leave bytes answers [] session new)
      → IfOk result (λ session. (answers : List Answer) × IsSession state seen may_leave bytes answers [] session new)
  on-session (Ok session) answers new h = (answers, h)
  on-session (Err fault) answers new h = tt

  new-hand : (result : Result (Session P) OpenFault) (image : Image) (found : Opened) (answers : List Answer) → found ≡ no_session
      → IfOk result (λ session. session.journal ≡ Some (journal_of (new_log A 1 (start_image bytes answers))))
      → IfOk result (λ session. (log : Log) × IsInHand image bytes answers found session.journal log)
  new-hand (Ok session) image found answers none is = (new_log A 1 (start_image bytes answers), (is, inr (none, refl)))
  new-hand (Err fault) image found answers none is = tt

  pub new-begins : (old mid new : D) (result : Result (Session P) OpenFault) (first last : Told) (old_text new_text : List ℕ) → OnlyLooks tells seen may_leave moment left_since old mid
      → (IsTrue (tells old) → Looks bytes (held (seen old)) (Ok None)) → (IsTrue (tells old) → IsSettled (seen mid) (may_leave mid))
      → StartsIn state tells seen may_leave moment left_since bytes program result first last old_text new_text mid new
      → BeginsIn state tells seen may_leave moment left_since bytes program result first last old_text new_text old new
  new-begins old mid new result first last old_text new_text looks is settled starts =
      let none : IsTrue (tells old) → StandsForNone (seen old) = λ told. none-held bytes (held (seen old)) (is told) in
      let none_mid : IsTrue (tells old) → StandsForNone (seen mid) = λ told. ap held looks.same_seen ∙ none told in
      let told_mid : IsTrue (tells old) → IsTrue (tells mid) = λ told. subst IsTrue (sym looks.same_told) told in
      let by = found-by old (λ found. found ≡ no_session) (λ told. ap (opening_held profile bytes program) (none told)) (no_session, refl) in
      record {
        made = starts.made;
        called = starts.called;
        own = starts.own;
        found = by.0;
        told = by.1;
        is = λ answers covers. started-begins by.0 result starts.made old_text new_text (start profile program answers) by.2 (starts.is answers covers);
        used = λ told. new-hand result (seen old) by.0 (answers_in starts.made) by.2 (starts.used (told_mid told) (none_mid told) (settled told));
        on = λ told. λ answers items others all. absurd (no-items answers items others (seen old) (none told) (all (seen old) (seen_may_stand old told)));
        once = λ told. λ all. (
          runs-on moment left_since old mid new (KeepsNoItem bytes) (looked old mid (KeepsNoItem bytes) looks all) (starts.goes (told_mid told) (none_mid told) (settled told)),
          on-session result (answers_in starts.made) new (starts.begun (told_mid told) (none_mid told) (settled told)),
        );
      }
