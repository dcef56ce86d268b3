-- How a session begins.
use Rattle.std.proofs.Common.{ℕ, ◌≡◌, inl, inr, Bool, true, false, List, [], Option, Some, None, Result, Ok, Err, sym, ap, ◌∙◌, subst, le_refl}
use Rattle.std.specs.Prelude.{IsTrue, IfErr, IfOk}
use Rattle.xf_disk.specs.Image.{Image}
use Rattle.xf_disk.specs.declared.slot.Slot.TheVariants.{A}
use Rattle.xf_disk.specs.Crash.{IsSettled, LeavesOnly}
use Rattle.xf_store.specs.declared.answers.Answer.{Answer}
use Rattle.xf_store.specs.declared.call.StoreCall.{StoreCall}
use Rattle.xf_store.specs.Called.{Told}
use Rattle.xf_journal.specs.declared.image.Image as written
use Rattle.xf_journal.specs.declared.journal.Journal.{Journal}
use Rattle.xf_journal.specs.Entry.{is_within}
use Rattle.xf_journal.specs.Held.{held}
use Rattle.xf_journal.specs.Scanned.{IsAtRest, IsReady, HoldsOldOr, journal_of, new_log}
use Rattle.xf_def_machine.specs.Program.{Program}
use Rattle.xf_def_machine.specs.declared.refusal.Refusal.{Refusal}
use Rattle.xf_def_machine.specs.State.{State}
use Rattle.xf_def_machine.specs.Replies.{answers_in}
use Rattle.xf_def_machine.specs.Run.{if_exact}
use Rattle.xf_def_machine.specs.Start.{start}
use Rattle.xf_def_machine.specs.Step.{Outcome}
use Rattle.xf_def_form.specs.Formed.{profile}
use Rattle.xf_def_sessions.specs.Sessions.{fresh_session}
use Rattle.xf_def_sessions.specs.Images.{StandsForNone}
use Rattle.xf_session.specs.declared.fault.OpenFault.{OpenFault}
use Rattle.xf_session.specs.declared.fault.OpenFault.TheVariants as begin
use Rattle.xf_actions.specs.declared.fault.EventFault.{EventFault}
use Rattle.xf_actions.specs.declared.fault.EventFault.TheVariants as event
use Rattle.xf_session.specs.declared.session.Session.{Session}
use Rattle.xf_session.specs.Faults.{of_start}
use Rattle.xf_session.specs.Processing.{IsAccepted, IsStarted, Starts, StartsAlone, started}
use Rattle.xf_session.specs.Replaying.{HasOpenCause, start_image}
use Rattle.xf_session.specs.Keeping.{LogKeeps, KeepsNoItem, IsSession, IsAtDisk, Rests, RestsAs}
use Rattle.xf_session.specs.Beginning.{IsBuilt, IsOfKeeping, HasStarted, HoldsOldOrFirst, IsFirst, IsFirstIn, StartsIn, Spares}
use Rattle.xf_session.proofs.Played.{start_is, exact_accepted, where-true}
use Rattle.xf_session.proofs.PostLaws.{all-same}
use Rattle.xf_session.proofs.Keeps.{begun-keeps, ready, widened, stays}

module _ {D : Type 0} (seen : D → Image) (may_leave : D → Image → Type 0) (moment : D → ℕ) (left_since : D → ℕ → Image → Type 0)
    (only_now : (disk : D) (image : Image) → left_since disk (moment disk) image → may_leave disk image) (form : List ℕ) (answers : List Answer) where
  -- nothing was written
  pub unwritten : (adoptions : ℕ) (disk : D) → IsReady seen may_leave A 1 adoptions disk → LeavesOnly moment left_since disk disk (HoldsOldOrFirst (seen disk) form answers)
  unwritten adoptions disk h = stays moment left_since may_leave only_now disk (HoldsOldOrFirst (seen disk) form answers) (λ image left. inl (ap held (h.settled image left)))

  -- the first journal was written, or not yet
  pub written-first : (image : written.Image) (old new : D) → image ≡ start_image form answers → IsTrue (is_within [] answers) → IsReady seen may_leave A 1 0 old
      → (IsReady seen may_leave A 1 image.adoptions old → LeavesOnly moment left_since old new (HoldsOldOr (seen old) (new_log A 1 image))) → LeavesOnly moment left_since old new (HoldsOldOrFirst (seen old) form answers)
  written-first image old new is within h leaves =
      let ready = subst (λ (i : written.Image). IsReady seen may_leave A 1 i.adoptions old) (sym is) h in
      widened moment left_since old new (HoldsOldOr (seen old) (new_log A 1 image)) (HoldsOldOrFirst (seen old) form answers) (leaves ready) by
    where
      by : (at : Image) → HoldsOldOr (seen old) (new_log A 1 image) at → HoldsOldOrFirst (seen old) form answers at
      by at (inl e) = inl e
      by at (inr e) = inr (within, e ∙ ap (λ (i : written.Image). Ok (Some (new_log A 1 i))) is)

  pub first-rests : (image : written.Image) (old new : D) (first : Journal) → image ≡ start_image form answers → IsTrue (is_within [] answers) → IsReady seen may_leave A 1 0 old
      → (IsReady seen may_leave A 1 image.adoptions old → IsAtRest seen may_leave first (new_log A 1 image) new) → IsFirst seen may_leave form answers first new
  first-rests image old new first is within h rests = record {
    rest = subst (λ (i : written.Image). IsAtRest seen may_leave first (new_log A 1 i) new) is (rests (subst (λ (i : written.Image). IsReady seen may_leave A 1 i.adoptions old) (sym is) h));
    within = within;
  }

-- ---- the start

module _ {P D : Type 0} (state : P → State) (kept_by : P → Option State) (calls_of : P → List StoreCall) (tells : D → Bool) (seen : D → Image) (may_leave : D → Image → Type 0) (moment : D → ℕ)
    (left_since : D → ℕ → Image → Type 0) (only_now : (disk : D) (image : Image) → left_since disk (moment disk) image → may_leave disk image) (bytes : List ℕ) (program : Program) (first : State)
    (built : IsBuilt bytes program first) where
  -- it is refused
  refused-is : (fault : EventFault) (made : List StoreCall) (old new : List ℕ) (given other : Outcome) → given ≡ other → IsStarted state (Err fault) made old new other
      → HasStarted state (Err (of_start fault)) made old new given
  refused-is (event.Refused refusal) made old new given other e h = subst (λ o. HasStarted state (Err (begin.Refused refusal)) made old new o) (sym e) h
  refused-is event.Memory made old new given other e h = tt

  pub not-started : (result : Result (Session P) OpenFault) (fault : EventFault) (told last : Told) (old_text new_text : List ℕ) (disk : D) → result ≡ Err (of_start fault)
      → Starts state kept_by calls_of (Err fault) first told last old_text new_text
      → StartsIn state tells seen may_leave moment left_since bytes program result told last old_text new_text disk disk
  not-started result fault told last old_text new_text disk e h =
      subst (λ r. StartsIn state tells seen may_leave moment left_since bytes program r told last old_text new_text disk disk) (sym e)
      (record {
        made = h.made;
        called = h.called;
        own = h.own;
        is = λ answers covers. refused-is fault h.made old_text new_text (start profile program answers) (started first answers) (start_is program first answers built.built) (h.is answers covers);
        goes = λ is_told none settled. stays moment left_since may_leave only_now disk (KeepsNoItem bytes) (λ image left. inl (ap held (settled image left) ∙ none));
        begun = λ is_told none settled. tt;
        used = λ is_told none settled. tt;
      })

  -- it is accepted
  accepted-is : (result : Result (Session P) OpenFault) (p : P) (made : List StoreCall) (old new : List ℕ) (given other : Outcome) → given ≡ other
      → IfOk result (λ session. state session.processor ≡ state p) → IfErr result IsOfKeeping → IsStarted state (Ok p) made old new other → HasStarted state result made old new given
  accepted-is (Ok session) p made old new given other e same only h = (
    h.0,
    subst (λ o. IsAccepted o (state session.processor) made h.0) (sym e) (subst (λ x. IsAccepted other x made h.0) (sym same) h.1),
    h.2,
  )
  accepted-is (Err (begin.Refused refusal)) p made old new given other e same only h = absurd only
  accepted-is (Err (begin.OtherForm at)) p made old new given other e same only h = absurd only
  accepted-is (Err (begin.Damaged slot at)) p made old new given other e same only h = absurd only
  accepted-is (Err begin.NoSession) p made old new given other e same only h = absurd only
  accepted-is (Err begin.DiskFault) p made old new given other e same only h = tt
  accepted-is (Err begin.Memory) p made old new given other e same only h = tt

  -- the session that has only started
  log-keeps : (p : P) (made : List StoreCall) (old new : List ℕ) → calls_of p ≡ made → IsStarted state (Ok p) made old new (started first (answers_in made)) → IsTrue (is_within [] (answers_in (calls_of p)))
      → LogKeeps bytes (answers_in made) [] (fresh_session bytes 0 (state p)) (new_log A 1 (start_image bytes (answers_in made)))
  log-keeps p made old new calls h within =
      begun-keeps bytes program (answers_in made) (state p) built.form (subst (λ (c : List StoreCall). is_within [] (answers_in c) ≡ true) calls within)
      (ap (if_exact (answers_in made)) (start_is program first (answers_in made) built.built) ∙ exact_accepted (answers_in made) (started first (answers_in made)) (state p) made h.0 h.1
      ∙ where-true (answers_in made) (answers_in made) (state p) (all-same (answers_in made)))

  -- the journal in hand, and what it began with
  first-in : (journal : Option Journal) (answers : List Answer) (new : D) → IsFirstIn seen may_leave bytes answers journal new
      → RestsAs seen may_leave journal (new_log A 1 (start_image bytes answers)) new × IsTrue (is_within [] answers)
  first-in None answers new is = absurd is
  first-in (Some journal) answers new is = (is.rest, is.within)

  begun-session : (result : Result (Session P) OpenFault) (p : P) (made : List StoreCall) (old_text new_text : List ℕ) (new : D) → calls_of p ≡ made
      → IsStarted state (Ok p) made old_text new_text (started first (answers_in made)) → IfOk result (λ session. state session.processor ≡ state p) → IfOk result (λ session. session.is_broken ≡ false)
      → IfOk result (λ session. IsFirstIn seen may_leave bytes (answers_in (calls_of p)) session.journal new)
      → IfOk result (λ session. IsSession state seen may_leave bytes (answers_in made) [] session new)
  begun-session (Ok session) p made old_text new_text new calls h same whole is =
      let first = first-in session.journal (answers_in (calls_of p)) new is in (
        fresh_session bytes 0 (state p),
        record {
          log = new_log A 1 (start_image bytes (answers_in made));
          rest = subst (λ (c : List StoreCall). RestsAs seen may_leave session.journal (new_log A 1 (start_image bytes (answers_in c))) new) calls first.0;
          keeps = log-keeps p made old_text new_text calls h first.1;
          same = same;
          whole = whole;
        },
      )
  begun-session (Err fault) p made old_text new_text new calls h same whole is = tt

  hand-is : (journal : Option Journal) (answers : List Answer) (new : D) → IsFirstIn seen may_leave bytes answers journal new
      → journal ≡ Some (journal_of (new_log A 1 (start_image bytes answers)))
  hand-is None answers new is = absurd is
  hand-is (Some journal) answers new is = ap Some is.rest.in_hand

  in-hand : (result : Result (Session P) OpenFault) (p : P) (made : List StoreCall) (new : D) → calls_of p ≡ made → IfOk result (λ session. IsFirstIn seen may_leave bytes (answers_in (calls_of p)) session.journal new)
      → IfOk result (λ session. session.journal ≡ Some (journal_of (new_log A 1 (start_image bytes (answers_in made)))))
  in-hand (Ok session) p made new calls is =
      hand-is session.journal (answers_in (calls_of p)) new is ∙ ap (λ (c : List StoreCall). Some (journal_of (new_log A 1 (start_image bytes (answers_in c))))) calls
  in-hand (Err fault) p made new calls is = tt

  pub has-started : (result : Result (Session P) OpenFault) (p : P) (told last : Told) (old_text new_text : List ℕ) (old new : D) → Starts state kept_by calls_of (Ok p) first told last old_text new_text
      → IfOk result (λ session. state session.processor ≡ state p) → IfErr result IsOfKeeping → IfOk result (λ session. session.is_broken ≡ false)
      → (IsTrue (tells old) → IsReady seen may_leave A 1 0 old → LeavesOnly moment left_since old new (HoldsOldOrFirst (seen old) bytes (answers_in (calls_of p))))
      → (IsTrue (tells old) → IsReady seen may_leave A 1 0 old → IfOk result (λ session. IsFirstIn seen may_leave bytes (answers_in (calls_of p)) session.journal new))
      → StartsIn state tells seen may_leave moment left_since bytes program result told last old_text new_text old new
  has-started result p told last old_text new_text old new h same only whole leaves rests = record {
    made = h.made;
    called = h.called;
    own = h.own;
    is = λ answers covers. accepted-is result p h.made old_text new_text (start profile program answers) (started first answers) (start_is program first answers built.built) same only (h.is answers covers);
    goes = λ is_told none settled.
        widened moment left_since old new (HoldsOldOrFirst (seen old) bytes (answers_in (calls_of p))) (KeepsNoItem bytes) (leaves is_told (ready seen may_leave old none settled)) (by none);
    begun = λ is_told none settled. begun-session result p h.made old_text new_text new h.pending.1 (h.is (answers_in h.made) h.own) same whole (rests is_told (ready seen may_leave old none settled));
    used = λ is_told none settled. in-hand result p h.made new h.pending.1 (rests is_told (ready seen may_leave old none settled));
  }
    where
      by : StandsForNone (seen old) → (image : Image) → HoldsOldOrFirst (seen old) bytes (answers_in (calls_of p)) image → KeepsNoItem bytes image
      by none image (inl e) = inl (e ∙ none)
      by none image (inr e) = inr (
        answers_in h.made,
        (
          fresh_session bytes 0 (state p),
          (
            new_log A 1 (start_image bytes (answers_in h.made)),
            e.1 ∙ ap (λ (c : List StoreCall). Ok (Some (new_log A 1 (start_image bytes (answers_in c))))) h.pending.1,
            log-keeps p h.made old_text new_text h.pending.1 (h.is (answers_in h.made) h.own) e.0,
          ),
        ),
      )

-- ---- a session that nothing keeps

alone-err : {P : Type 0} (state : P → State) (fault : EventFault) (made : List StoreCall) (old new : List ℕ) (given : Outcome) → IsStarted state (Err fault) made old new given
    → IsStarted (λ (session : Session P). state session.processor) (Err fault) made old new given
alone-err state (event.Refused refusal) made old new given h = h
alone-err state event.Memory made old new given h = tt

pub alone-refused : {P : Type 0} (state : P → State) (kept_by : P → Option State) (calls_of : P → List StoreCall) (result : Result (Session P) EventFault) (fault : EventFault) (first : State) (told last : Told)
    (old new : List ℕ) → result ≡ Err fault → Starts state kept_by calls_of (Err fault) first told last old new
    → StartsAlone (λ (session : Session P). state session.processor) result first told last old new
alone-refused {P} state kept_by calls_of result fault first told last old new e h =
    subst (λ r. StartsAlone (λ (session : Session P). state session.processor) r first told last old new) (sym e)
    (record { made = h.made; called = h.called; own = h.own; is = λ answers covers. alone-err state fault h.made old new (started first answers) (h.is answers covers) })

pub alone-started : {P : Type 0} (state : P → State) (kept_by : P → Option State) (calls_of : P → List StoreCall) (session : Session P) (p final : P) (first : State) (told last : Told) (old new : List ℕ)
    → Starts state kept_by calls_of (Ok p) first told last old new → state final ≡ state p → session.processor ≡ final
    → StartsAlone (λ (session : Session P). state session.processor) (Ok session) first told last old new
alone-started state kept_by calls_of session p final first told last old new h same e = record {
  made = h.made;
  called = h.called;
  own = h.own;
  is = λ answers covers.
      let is = h.is answers covers in
      (is.0, subst (λ x. IsAccepted (started first answers) x h.made is.0) (sym (ap state e ∙ same)) is.1, is.2);
}

-- ---- where it stands

first-rests-in : {D : Type 0} (seen : D → Image) (may_leave : D → Image → Type 0) (form : List ℕ) (answers : List Answer) (journal : Option Journal) (new : D)
    → IsFirstIn seen may_leave form answers journal new → Rests seen may_leave journal new
first-rests-in seen may_leave form answers None new is = absurd is
first-rests-in seen may_leave form answers (Some journal) new is = (new_log A 1 (start_image form answers), is.rest)

pub first-at-disk : {P D : Type 0} (seen : D → Image) (may_leave : D → Image → Type 0) (form : List ℕ) (answers : List Answer) (result : Result (Session P) OpenFault) (old new : D)
    → (IsReady seen may_leave A 1 0 old → IfOk result (λ session. IsFirstIn seen may_leave form answers session.journal new)) → StandsForNone (seen old) → IsSettled (seen old) (may_leave old)
    → IfOk result (λ session. IsAtDisk seen may_leave session new)
first-at-disk seen may_leave form answers (Ok session) old new is none settled = λ whole. first-rests-in seen may_leave form answers session.journal new (is (ready seen may_leave old none settled))
first-at-disk seen may_leave form answers (Err fault) old new is none settled = tt

-- ---- a start that is refused

one-fault : {T : Type 0} (a b : OpenFault) → ◌≡◌ {A = Result T OpenFault} (Err a) (Err b) → a ≡ b
one-fault a b e = cc

pub event-cause : {T : Type 0} (n : ℕ) (fault : EventFault) (r : OpenFault) → r ≡ of_start fault → HasOpenCause {T = T} n n (Err r)
event-cause n (event.Refused refusal) r e = record { later = le_refl n; failed = λ f. absurd (not-disk refusal r e (one-fault r begin.DiskFault f)) }
  where
    not-disk : (refusal : Refusal) (r : OpenFault) → r ≡ begin.Refused refusal → r ≡ begin.DiskFault → ⊥
    not-disk refusal r e f = cc
event-cause n event.Memory r e = record { later = le_refl n; failed = λ f. absurd (not-memory r e (one-fault r begin.DiskFault f)) }
  where
    not-memory : (r : OpenFault) → r ≡ begin.Memory → r ≡ begin.DiskFault → ⊥
    not-memory r e f = cc

pub event-spares : (T : Type 0) (fault : EventFault) (r : OpenFault) (fact : Type 0) → r ≡ of_start fault → fact → Spares {P = T} (Err r) fact
event-spares T fault r fact e h = subst (λ (x : OpenFault). Spares {P = T} (Err x) fact) (sym e) (by fault h)
  where
    by : (fault : EventFault) → fact → Spares {P = T} (Err (of_start fault)) fact
    by (event.Refused refusal) h = h
    by event.Memory h = h
