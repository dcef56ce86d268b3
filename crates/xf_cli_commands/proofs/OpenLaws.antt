-- What comes of opening the slots, by what a session is opened or begun with.
use Rattle.std.proofs.Common.{ℕ, ◌≡◌, ◌≤◌, ◌⊎◌, ◌∙◌, ◌+◌, IsTrue, Bool, List, [], ◌∷◌, ◌++◌, drop, Option, Some, None, Result, Ok, Err, refl, ap, sym, subst, inl, inr, append-nil}
use Rattle.std.specs.Prelude.{IsSome, String, string_bytes}
use Rattle.std.specs.declared.alloc.Global.{Global}
use Rattle.std.specs.List.{list_any}
use Rattle.xf_disk.specs.Image.{Image}
use Rattle.xf_disk.specs.declared.slot.Slot.{Slot}
use Rattle.xf_disk.specs.declared.slot.Slot.TheVariants.{A}
use Rattle.xf_journal.specs.declared.journal.Journal.{Journal}
use Rattle.xf_journal.specs.Held.{Log, held}
use Rattle.xf_journal.specs.Scanned.{journal_of, new_log}
use Rattle.xf_store.specs.declared.answers.Answer.{Answer}
use Rattle.xf_store.specs.declared.call.StoreCall.{StoreCall}
use Rattle.xf_store.specs.Replies.{has_failed}
use Rattle.xf_store.specs.Called.{Called, Told, ListsAll, UsesAll}
use Rattle.xf_def_machine.specs.Program.{Program}
use Rattle.xf_def_machine.specs.State.{State}
use Rattle.xf_def_machine.specs.ControlText.{state_text}
use Rattle.xf_def_machine.specs.FormReplies.{ready_text}
use Rattle.xf_def_machine.specs.Replies.{answers_in, note_lines}
use Rattle.xf_def_machine.specs.Start.{start}
use Rattle.xf_def_machine.specs.StateText.{line_of}
use Rattle.xf_def_machine.specs.Told as meaning
use Rattle.xf_def_machine.specs.declared.refusal.Refusal.{Refusal}
use Rattle.xf_def_form.specs.Formed.{profile}
use Rattle.xf_def_sessions.specs.Runs.{Item}
use Rattle.xf_def_sessions.specs.Opening.{Opened, opened, no_session, other_form, damaged}
use Rattle.xf_session.specs.declared.fault.OpenFault.{OpenFault}
use Rattle.xf_session.specs.declared.fault.OpenFault.TheVariants as fault
use Rattle.xf_session.specs.declared.session.Session.{Session}
use Rattle.xf_session.specs.Beginning.{BeginsIn, ResumesIn, IsOpened, IsSilent, IsNew, IsInHand, Spares}
use Rattle.xf_session.specs.Keeping.{KeepsOne, KeepsNoItem, used_in}
use Rattle.xf_session.specs.Opening.{opening}
use Rattle.xf_session.specs.Replaying.{start_image}
use Rattle.xf_cli_commands.specs.declared.opening.Opened as ours
use Rattle.xf_cli_commands.specs.declared.opening.Opened.TheVariants as outset
use Rattle.xf_cli_commands.specs.declared.status.Command.TheVariants.{Run, Show}
use Rattle.xf_cli_commands.specs.declared.status.SessionFault.{SessionFault}
use Rattle.xf_cli_commands.specs.declared.status.SessionFault.TheVariants as session_fault
use Rattle.xf_cli_commands.specs.Course.{Course, set_out}
use Rattle.xf_cli_commands.specs.Device.{Device, Tells, IsLookedAt, device_of, first_image, AtFirst, AtEachMoment}
use Rattle.xf_cli_commands.specs.Finish.{IsNotOpened}
use Rattle.xf_cli_commands.specs.Forms.{HoldNone, IsStartRefused}
use Rattle.xf_cli_commands.specs.Kept.{Views}
use Rattle.xf_cli_commands.specs.Opening.{IsOpen, IsReady, OpensSo, ReopensSo, IsLineFor}
use Rattle.xf_cli_commands.specs.Outside.{Stored, IsCalled, IsUncalled, stored_of}
use Rattle.xf_cli_commands.specs.Sessions.{Begins, IsFound, IsBegun, IsShown, IsWhy, Opening}
use Rattle.xf_cli_commands.specs.Statuses.{session_line}
use Rattle.xf_cli_commands.specs.Stops.{IsAsBefore, IsNext}
use Rattle.xf_cli_commands.proofs.ReplyLaws.{start_refused}

-- ---- a store of which no call was made tells what it told

nothing-grown : (made : List StoreCall) → [] ≡ [] ++ made → made ≡ []
nothing-grown made e = sym e

none-failed : IsTrue (list_any (λ (c : StoreCall). has_failed c.answer) []) → ⊥
none-failed h = cc

lists-nothing : (a b : Option (List StoreCall)) → ListsAll a b [] → b ≡ a
lists-nothing None b h = h
lists-nothing (Some calls) None h = absurd (none-failed h)
lists-nothing (Some calls) (Some more) h = ap Some (h ∙ append-nil calls)

uses-nothing : (a b : Option (List Answer)) → UsesAll a b [] → b ≡ a
uses-nothing None b h = h
uses-nothing (Some left) b h = h.1

pub uncalled-so : (a b : Told) (made : List StoreCall) → Called a b [] made → made ≡ [] → b ≡ a
uncalled-so a b made h e =
    let none : h.made ≡ [] = nothing-grown h.made (sym e ∙ h.grown) in
    let calls = lists-nothing a.0 b.0 (subst (λ (m : List StoreCall). ListsAll a.0 b.0 m) none h.calls) in
    let answers = uses-nothing a.1 b.1 (subst (λ (m : List StoreCall). UsesAll a.1 b.1 m) none h.answers) in
    ap (λ x. (x, b.1)) calls ∙ ap (λ y. (a.0, y)) answers

-- ---- how far it is

same-start : (s : State) (t : State) (used : ℕ) (log : Log) (hand : Option Journal) → t ≡ s → used_in hand ≡ used → hand ≡ Some (journal_of log) → set_out t used ≡ set_out s (log.gate + 1)
same-start s t used log hand e u is = ap (λ x. set_out x used) e ∙ ap (λ n. set_out s n) (sym u ∙ ap used_in is)

-- what opening gives is one thing
not_both : {X : Type 0} (s : _) (found : Opened) → found ≡ opened s → found ≡ no_session → X
not_both s found e f = absurd (cc)

module _ {P D : Type 0} (state : P → State) (kept_by : P → Option State) (tells : D → Bool) (seen : D → Image) (may_leave : D → Image → Type 0) (moment : D → ℕ) (left_since : D → ℕ → Image → Type 0) (faults : D → ℕ) (old mid : D) where
  abbrev device : Device
  device = device_of tells seen may_leave moment left_since faults old mid

  abbrev Begun : List ℕ → Program → Result (Session P) OpenFault → Told → Told → List ℕ → List ℕ → Type 0
  Begun form program result first last old_text new_text = BeginsIn state tells seen may_leave moment left_since form program result first last old_text new_text old mid

  abbrev Resumed : List ℕ → Program → Result (Session P) OpenFault → Type 0
  Resumed form program result = ResumesIn state tells seen may_leave moment left_since form program result old mid

  abbrev begins-as : List ℕ → Program → Session P → Told → Told → List ℕ → Type 0
  begins-as form program session first last notes = Begins form program (seen old) first (set_out (state session.processor) (used_in session.journal)) last notes

  found-so : (form : List ℕ) (program : Program) (session : Session P) (first last : Told) (old_text new_text : List ℕ) → (h : Begun form program (Ok session) first last old_text new_text)
      → old_text ≡ [] → IsTrue (tells old) → IsOpened state h.found session → IsSilent h.made old_text new_text
      → ((log : Log) × IsInHand (seen old) form (answers_in h.made) h.found session.journal log) → begins-as form program session first last new_text
  found-so form program session first last old_text new_text h empty told is silent (log, (hand, inl slots)) = inl (record {
    session = is.0;
    opens = sym (h.told told) ∙ is.1;
    log = log;
    holds = slots.2;
    first_is = same-start is.0.state (state session.processor) (used_in session.journal) log session.journal is.2 refl hand;
    uncalled = uncalled-so first last h.made h.called silent.calls;
    silent = silent.text ∙ empty;
  })
  found-so form program session first last old_text new_text h empty told is silent (log, (hand, inr fresh)) = not_both is.0 h.found is.1 fresh.0

  new-so : (form : List ℕ) (program : Program) (session : Session P) (first last : Told) (old_text new_text : List ℕ) → (h : Begun form program (Ok session) first last old_text new_text)
      → old_text ≡ [] → IsTrue (tells old) → IsNew state h.found session h.made old_text new_text (start profile program (answers_in h.made))
      → ((log : Log) × IsInHand (seen old) form (answers_in h.made) h.found session.journal log) → begins-as form program session first last new_text
  new-so form program session first last old_text new_text h empty told is (log, (hand, inl slots)) = not_both slots.0 h.found slots.1 is.none
  new-so form program session first last old_text new_text h empty told is (log, (hand, inr fresh)) =
      let s = state session.processor in
      let same : log ≡ new_log A 1 (start_image form (answers_in is.posted.calls)) =
      fresh.1 ∙ ap (λ (calls : List StoreCall). new_log A 1 (start_image form (answers_in calls))) (sym is.is.calls) in
      inr (record {
        none = sym (h.told told) ∙ is.none;
        posted = is.posted;
        starts = record { made = h.made; called = h.called; is = is.is };
        notes_are = is.text ∙ ap (λ (t : List ℕ). t ++ note_lines is.posted.notes) empty;
        first_is = same-start s s (used_in session.journal) (new_log A 1 (start_image form (answers_in is.posted.calls))) session.journal refl refl (hand ∙ ap (λ (l : Log). Some (journal_of l)) same);
      })

  begins-so : (form : List ℕ) (program : Program) (session : Session P) (first last : Told) (old_text new_text : List ℕ) → (h : Begun form program (Ok session) first last old_text new_text)
      → old_text ≡ [] → IsTrue (tells old)
      → (IsOpened state h.found session × IsSilent h.made old_text new_text) ⊎ IsNew state h.found session h.made old_text new_text (start profile program (answers_in h.made))
      → begins-as form program session first last new_text
  begins-so form program session first last old_text new_text h empty told (inl is) =
      found-so form program session first last old_text new_text h empty told is.0 is.1 (h.used told)
  begins-so form program session first last old_text new_text h empty told (inr is) = new-so form program session first last old_text new_text h empty told is (h.used told)

  pub is_open : (form : List ℕ) (program : Program) (session : Session P) (first last : Told) (old_text new_text : List ℕ) → Begun form program (Ok session) first last old_text new_text
      → old_text ≡ [] → tells mid ≡ tells old → IsSome session.journal → IsTrue (tells old) → IsOpen state form program device (stored_of first last) session new_text
  is_open form program session first last old_text new_text h empty same kept told = record {
    begins = begins-so form program session first last old_text new_text h empty told (h.is (answers_in h.made) h.own);
    ready = record { on = λ answers items next at-first. h.on told answers items next at-first; once = λ at-first. h.once told at-first; tells = same };
    kept = kept;
  }

  -- ---- why it is not

  pub is_refused : (form : List ℕ) (program : Program) (refusal : Refusal) (first last : Told) (old_text new_text line : List ℕ)
      → Begun form program (Err (fault.Refused refusal)) first last old_text new_text → line ≡ line_of (ready_text (meaning.told refusal)) → IsLookedAt device
      → IsStartRefused (start profile program) (stored_of first last) line × HoldNone form program device × IsLookedAt device
  is_refused form program refusal first last old_text new_text line h e looks =
      let is = h.is (answers_in h.made) h.own in (
        record { made = h.made; called = h.called; refused = start_refused refusal h.made (start profile program (answers_in h.made)) line is.1 e },
        (λ told. sym (h.told told) ∙ is.0),
        looks,
      )

  pub is_other : (form : List ℕ) (program : Program) (at : ℕ) (first last : Told) (old_text new_text line : List ℕ) → Begun form program (Err (fault.OtherForm at)) first last old_text new_text
      → line ≡ session_line (session_fault.OtherForm at) → IsLookedAt device → IsNotOpened Run form program device line × IsUncalled (stored_of first last) × IsLookedAt device
  is_other form program at first last old_text new_text line h e looks =
      let is = h.is (answers_in h.made) h.own in
      ((session_fault.OtherForm at, tt, e, λ told. sym (h.told told) ∙ is.0), uncalled-so first last h.made h.called is.1.calls, looks)

  pub is_damaged : (form : List ℕ) (program : Program) (slot : Slot) (at : ℕ) (first last : Told) (old_text new_text line : List ℕ)
      → Begun form program (Err (fault.Damaged slot at)) first last old_text new_text → line ≡ session_line (session_fault.Damaged slot at) → IsLookedAt device
      → IsNotOpened Run form program device line × IsUncalled (stored_of first last) × IsLookedAt device
  is_damaged form program slot at first last old_text new_text line h e looks =
      let is = h.is (answers_in h.made) h.own in
      ((session_fault.Damaged slot at, tt, e, λ told. sym (h.told told) ∙ is.0), uncalled-so first last h.made h.called is.1.calls, looks)

  pub is_failed : (form : List ℕ) (program : Program) (result : Result (Session P) OpenFault) (first last : Told) (old_text new_text : List ℕ) → Begun form program result first last old_text new_text
      → IsCalled (stored_of first last) × (Tells device → IsAsBefore device form)
  is_failed form program result first last old_text new_text h = (
    (h.made, h.called),
    λ told. record { session = λ answers items next is-next at-first. (h.on told answers items next at-first).0; fresh = λ at-first. (h.once told at-first).0 },
  )

  pub is_called : (form : List ℕ) (program : Program) (result : Result (Session P) OpenFault) (first last : Told) (old_text new_text : List ℕ) → Begun form program result first last old_text new_text
      → IsCalled (stored_of first last)
  is_called form program result first last old_text new_text h = (h.made, h.called)

  -- ---- by the fault that is given

  abbrev OpensFor : List ℕ → Program → Told → Told → ours.Opened P → Type 0
  OpensFor form program first last r = OpensSo state form program device (stored_of first last) r

  abbrev SparesSo : OpenFault → Type 0
  SparesSo f = Spares {P = Session P} (Err f) (IsLookedAt device)

  other-by : (form : List ℕ) (program : Program) (at : ℕ) (first last : Told) (old_text new_text : List ℕ) (r : ours.Opened P) → Begun form program (Err (fault.OtherForm at)) first last old_text new_text
      → IsLookedAt device → IsLineFor (session_fault.OtherForm at) r → OpensFor form program first last r
  other-by form program at first last old_text new_text (outset.NotOpened line) h looks e = is_other form program at first last old_text new_text (string_bytes line) h e looks
  other-by form program at first last old_text new_text outset.NoRoom h looks e = (is_called form program (Err (fault.OtherForm at)) first last old_text new_text h, looks)
  other-by form program at first last old_text new_text (outset.Session k notes) h looks e = absurd e
  other-by form program at first last old_text new_text (outset.Refused line) h looks e = absurd e
  other-by form program at first last old_text new_text outset.DiskFailed h looks e = absurd e

  pub opens_other : (form : List ℕ) (program : Program) (at : ℕ) (f : OpenFault) (first last : Told) (old_text new_text : List ℕ) (r : ours.Opened P) → f ≡ fault.OtherForm at
      → Begun form program (Err f) first last old_text new_text → SparesSo f → IsLineFor (session_fault.OtherForm at) r → OpensFor form program first last r
  opens_other form program at f first last old_text new_text r is h looks e =
      other-by form program at first last old_text new_text r (subst (λ x. Begun form program (Err x) first last old_text new_text) is h) (subst SparesSo is looks) e

  damaged-by : (form : List ℕ) (program : Program) (slot : Slot) (at : ℕ) (first last : Told) (old_text new_text : List ℕ) (r : ours.Opened P)
      → Begun form program (Err (fault.Damaged slot at)) first last old_text new_text → IsLookedAt device → IsLineFor (session_fault.Damaged slot at) r → OpensFor form program first last r
  damaged-by form program slot at first last old_text new_text (outset.NotOpened line) h looks e = is_damaged form program slot at first last old_text new_text (string_bytes line) h e looks
  damaged-by form program slot at first last old_text new_text outset.NoRoom h looks e = (is_called form program (Err (fault.Damaged slot at)) first last old_text new_text h, looks)
  damaged-by form program slot at first last old_text new_text (outset.Session k notes) h looks e = absurd e
  damaged-by form program slot at first last old_text new_text (outset.Refused line) h looks e = absurd e
  damaged-by form program slot at first last old_text new_text outset.DiskFailed h looks e = absurd e

  pub opens_damaged : (form : List ℕ) (program : Program) (slot : Slot) (at : ℕ) (f : OpenFault) (first last : Told) (old_text new_text : List ℕ) (r : ours.Opened P)
      → f ≡ fault.Damaged slot at → Begun form program (Err f) first last old_text new_text → SparesSo f → IsLineFor (session_fault.Damaged slot at) r → OpensFor form program first last r
  opens_damaged form program slot at f first last old_text new_text r is h looks e =
      damaged-by form program slot at first last old_text new_text r (subst (λ x. Begun form program (Err x) first last old_text new_text) is h) (subst SparesSo is looks) e

  pub opens_refused : (form : List ℕ) (program : Program) (refusal : Refusal) (f : OpenFault) (first last : Told) (old_text new_text line : List ℕ) → f ≡ fault.Refused refusal
      → Begun form program (Err f) first last old_text new_text → SparesSo f → line ≡ line_of (ready_text (meaning.told refusal))
      → IsStartRefused (start profile program) (stored_of first last) line × HoldNone form program device × IsLookedAt device
  opens_refused form program refusal f first last old_text new_text line is h looks e =
      is_refused form program refusal first last old_text new_text line (subst (λ x. Begun form program (Err x) first last old_text new_text) is h) e (subst SparesSo is looks)

  pub opens_no_room : (form : List ℕ) (program : Program) (refusal : Refusal) (f : OpenFault) (first last : Told) (old_text new_text : List ℕ) → f ≡ fault.Refused refusal
      → Begun form program (Err f) first last old_text new_text → SparesSo f → IsCalled (stored_of first last) × IsLookedAt device
  opens_no_room form program refusal f first last old_text new_text is h looks = (is_called form program (Err f) first last old_text new_text h, subst SparesSo is looks)

  pub opens_memory : (form : List ℕ) (program : Program) (f : OpenFault) (first last : Told) (old_text new_text : List ℕ) → f ≡ fault.Memory
      → Begun form program (Err f) first last old_text new_text → SparesSo f → IsCalled (stored_of first last) × IsLookedAt device
  opens_memory form program f first last old_text new_text is h looks = (is_called form program (Err f) first last old_text new_text h, subst SparesSo is looks)

  -- where the slots hold no session one begins
  pub opens_none : {X : Type 0} (form : List ℕ) (program : Program) (f : OpenFault) (first last : Told) (old_text new_text : List ℕ) → f ≡ fault.NoSession
      → Begun form program (Err f) first last old_text new_text → X
  opens_none form program f first last old_text new_text is h =
      let k = subst (λ x. Begun form program (Err x) first last old_text new_text) is h in
      absurd (k.is (answers_in k.made) k.own)

  abbrev ReopensFor : List ℕ → Program → ours.Opened P → Type 0
  ReopensFor form program r = ReopensSo state kept_by form program device r

  reopens-by : (form : List ℕ) (program : Program) (why : SessionFault) (r : ours.Opened P) → IsLookedAt device → ((line : List ℕ) → line ≡ session_line why → IsNotOpened Show form program device line)
      → IsLineFor why r → ReopensFor form program r
  reopens-by form program why (outset.NotOpened line) looks h e = (h (string_bytes line) e, looks)
  reopens-by form program why outset.NoRoom looks h e = looks
  reopens-by form program why (outset.Session k notes) looks h e = absurd e
  reopens-by form program why (outset.Refused line) looks h e = absurd e
  reopens-by form program why outset.DiskFailed looks h e = absurd e

  -- ---- a session that is opened alone

  pub shows_so : (form : List ℕ) (program : Program) (session : Session P) → Resumed form program (Ok session)
      → Tells device → Opening device (λ o. (text : List ℕ) → text ≡ state_text profile (state session.processor) → IsShown text o) form program
  shows_so form program session h told =
      let is = h.is in
      subst (λ o. (text : List ℕ) → text ≡ state_text profile (state session.processor) → IsShown text o) (sym is.1 ∙ h.told told)
      (λ text e. e ∙ ap (state_text profile) is.2)

  pub resumes_other : (form : List ℕ) (program : Program) (at : ℕ) (line : List ℕ) → Resumed form program (Err (fault.OtherForm at))
      → line ≡ session_line (session_fault.OtherForm at) → IsNotOpened Show form program device line
  resumes_other form program at line h e = (session_fault.OtherForm at, tt, e, λ told. sym (h.told told) ∙ h.is)

  pub resumes_damaged : (form : List ℕ) (program : Program) (slot : Slot) (at : ℕ) (line : List ℕ) → Resumed form program (Err (fault.Damaged slot at))
      → line ≡ session_line (session_fault.Damaged slot at) → IsNotOpened Show form program device line
  resumes_damaged form program slot at line h e = (session_fault.Damaged slot at, tt, e, λ told. sym (h.told told) ∙ h.is)

  pub resumes_none : (form : List ℕ) (program : Program) (line : List ℕ) → Resumed form program (Err fault.NoSession)
      → line ≡ session_line session_fault.NoSession → IsNotOpened Show form program device line
  resumes_none form program line h e = (session_fault.NoSession, tt, e, λ told. sym (h.told told) ∙ h.is)

  -- and where a session is only opened no form is started
  pub reopens_never : {X : Type 0} (form : List ℕ) (program : Program) (refusal : Refusal) (f : OpenFault) → f ≡ fault.Refused refusal → Resumed form program (Err f) → X
  reopens_never form program refusal f is h = let k = subst (λ x. Resumed form program (Err x)) is h in absurd k.is

  pub reopens_other : (form : List ℕ) (program : Program) (at : ℕ) (f : OpenFault) (r : ours.Opened P) → f ≡ fault.OtherForm at → Resumed form program (Err f) → IsLookedAt device
      → IsLineFor (session_fault.OtherForm at) r → ReopensFor form program r
  reopens_other form program at f r is h looks e =
      reopens-by form program (session_fault.OtherForm at) r looks (λ line same. resumes_other form program at line (subst (λ x. Resumed form program (Err x)) is h) same) e

  pub reopens_damaged : (form : List ℕ) (program : Program) (slot : Slot) (at : ℕ) (f : OpenFault) (r : ours.Opened P) → f ≡ fault.Damaged slot at → Resumed form program (Err f)
      → IsLookedAt device → IsLineFor (session_fault.Damaged slot at) r → ReopensFor form program r
  reopens_damaged form program slot at f r is h looks e =
      reopens-by form program (session_fault.Damaged slot at) r looks (λ line same. resumes_damaged form program slot at line (subst (λ x. Resumed form program (Err x)) is h) same) e

  pub reopens_none : (form : List ℕ) (program : Program) (f : OpenFault) (r : ours.Opened P) → f ≡ fault.NoSession → Resumed form program (Err f) → IsLookedAt device
      → IsLineFor session_fault.NoSession r → ReopensFor form program r
  reopens_none form program f r is h looks e =
      reopens-by form program session_fault.NoSession r looks (λ line same. resumes_none form program line (subst (λ x. Resumed form program (Err x)) is h) same) e
