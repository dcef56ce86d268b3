-- What an event makes of a session.
use Rattle.std.proofs.Common.{ℕ, ◌≡◌, ◌≤◌, ◌<◌, length, arith, inl, Bool, true, false, ◌&&◌, List, [], ◌∷◌, ◌++◌, Option, Some, None, Result, Ok, Err, refl, sym, ap, ◌∙◌, subst}
use Rattle.std.specs.Prelude.{nat_lt, option_map, IsSome, IsTrue, IsErr, IsErrAnd}
use Rattle.std.proofs.lemmas.Bool.Decides.{nat_tests}
use Rattle.std.proofs.lemmas.Slice.Eq.{bytes_eq-Decides}
use Rattle.std.proofs.lemmas.List.{append-nil}
use Rattle.xf_base.specs.Limits.{used_limit}
use Rattle.xf_disk.specs.Image.{Image}
use Rattle.xf_disk.specs.Crash.{LeavesOnly}
use Rattle.xf_line.specs.declared.event.Event.{Event}
use Rattle.xf_line.specs.declared.event.Asked.TheVariants as asked
use Rattle.xf_line.specs.Line.{asked_by}
use Rattle.xf_store.specs.declared.answers.Answer.{Answer}
use Rattle.xf_store.specs.declared.answers.Answer.TheVariants.{PutDone, Failed, Found, Absent, TooLong}
use Rattle.xf_store.specs.declared.call.StoreCall.{StoreCall}
use Rattle.xf_store.specs.Called.{Called, Told, ListsAll, UsesAll}
use Rattle.xf_journal.specs.declared.journal.Journal.{Journal}
use Rattle.xf_journal.specs.Entry.{written_bytes}
use Rattle.xf_journal.specs.Held.{Log}
use Rattle.xf_journal.specs.Scanned.{HoldsEither, with_accepted}
use Rattle.xf_def_machine.specs.State.{State}
use Rattle.xf_def_machine.specs.Replies.{answers_in, ok_text}
use Rattle.xf_def_machine.specs.Run.{same_answer, if_exact}
use Rattle.xf_def_machine.specs.Step.{Outcome, Posted, step}
use Rattle.xf_def_form.specs.Formed.{profile}
use Rattle.xf_def_sessions.specs.Sessions as history
use Rattle.xf_def_sessions.specs.History.{after_event}
use Rattle.xf_def_sessions.specs.Runs.{Item, line, after_line}
use Rattle.xf_def_sessions.specs.Usual.{usual}
use Rattle.xf_actions.specs.declared.fault.EventFault.{EventFault}
use Rattle.xf_actions.specs.declared.fault.EventFault.TheVariants as processor_fault
use Rattle.xf_session.specs.declared.fault.PostFault.{PostFault}
use Rattle.xf_session.specs.declared.fault.PostFault.TheVariants as session_fault
use Rattle.xf_session.specs.declared.session.Session.{Session}
use Rattle.xf_session.specs.Faults.{of_event}
use Rattle.xf_session.specs.Processing.{IsAccepted, IsPosted, Posts}
use Rattle.xf_session.specs.Replaying.{same_answers}
use Rattle.xf_session.specs.Keeping.{IsAtDisk, Rests, RestsAs, used_in, LogKeeps, IsSession, KeepsOne}
use Rattle.xf_session.specs.Posting.{Stays, KeepsAs, GrowsBy, IsTried, IsUnchanged, IsAnswered, IsKept, After, GoesOn, PostsIn}
use Rattle.xf_session.proofs.Played.{exact_accepted, where-true}
use Rattle.xf_session.proofs.Keeps.{appended-keeps, either-keeps, rests-keep, widened, stays}

-- ---- answers

same-itself : (a : Answer) → same_answer a a ≡ true
same-itself PutDone = refl
same-itself Failed = refl
same-itself (Found bytes) = (bytes_eq-Decides bytes bytes).1 refl
same-itself Absent = refl
same-itself TooLong = refl

both : (a b : Bool) → a ≡ true → b ≡ true → (a && b) ≡ true
both a b h k = cc

pub all-same : (answers : List Answer) → same_answers answers answers ≡ true
all-same [] = refl
all-same (answer ∷ answers) = both (same_answer answer answer) (same_answers answers answers) (same-itself answer) (all-same answers)

-- the run takes an event that was accepted in the state that it came to
run-takes : (last : history.Session) (event : Event) (s t : State) (made : List StoreCall) (posted : Posted) → s ≡ last.state → IsAccepted (step profile s event (answers_in made)) t made posted
    → after_line usual last event (answers_in made) ≡ Some (after_event usual last t)
run-takes last event s t made posted same h =
    ap (λ (x : State). option_map (after_event usual last) (if_exact (answers_in made) (step profile x event (answers_in made)))) (sym same)
    ∙ ap (option_map (after_event usual last)) (exact_accepted (answers_in made) (step profile s event (answers_in made)) t made posted h ∙ where-true (answers_in made) (answers_in made) t (all-same (answers_in made)))

-- the answer is the one that a fault makes
pub err-is : {T F : Type 0} (r : Result T F) (fault : F) → IsErr r → IsErrAnd r (λ given. given ≡ fault) → r ≡ Err fault
err-is (Ok x) fault h k = cc
err-is (Err x) fault h k = ap Err k

-- whether there is room
pub full-is : (used : ℕ) (b : Bool) → b ≡ nat_lt used_limit used → b ≡ true → used_limit < used
full-is used b e t = let over : nat_lt used_limit used ≡ true = sym e ∙ t in grind (arith, nat_tests, over)

pub room-is : (used : ℕ) (b : Bool) → b ≡ nat_lt used_limit used → b ≡ false → used ≤ used_limit
room-is used b e f = let over : nat_lt used_limit used ≡ false = sym e ∙ f in grind (arith, nat_tests, over)

-- ---- no call of the store

lists-none : (calls : Option (List StoreCall)) → ListsAll calls calls []
lists-none None = refl
lists-none (Some calls) = sym (append-nil calls)

uses-none : (left : Option (List Answer)) → UsesAll left left []
uses-none None = refl
uses-none (Some left) = (tt, refl)

pub silent : (told : Told) → Called told told [] []
silent told = record { made = []; grown = refl; calls = lists-none told.0; answers = uses-none told.1 }

-- ---- a session

module _ {P D : Type 0} (state : P → State) (kept_by : P → Option State) (calls_of : P → List StoreCall) (tells : D → Bool) (seen : D → Image) (may_leave : D → Image → Type 0)
    (moment : D → ℕ) (left_since : D → ℕ → Image → Type 0) (only_now : (disk : D) (image : Image) → left_since disk (moment disk) image → may_leave disk image) where
  abbrev Is : List ℕ → List Answer → List Item → Session P → D → Type 0
  Is bytes answers items s disk = IsSession state seen may_leave bytes answers items s disk

  -- each image keeps what the session took
  still : (bytes : List ℕ) (answers : List Answer) (items others : List Item) (s : Session P) (disk : D) → Is bytes answers items s disk
      → LeavesOnly moment left_since disk disk (KeepsOne bytes answers items others)
  still bytes answers items others s disk h =
      stays moment left_since may_leave only_now disk (KeepsOne bytes answers items others)
      (λ image left. inl (rests-keep seen may_leave bytes answers items h.0 s.journal h.1.log disk h.1.rest h.1.keeps image left))

  -- another that is in the same state, with the same journal
  same-session : (bytes : List ℕ) (answers : List Answer) (items : List Item) (s t : Session P) (disk : D) → IsUnchanged state s t → Is bytes answers items s disk → Is bytes answers items t disk
  same-session bytes answers items s t disk same h = (
    h.0,
    record {
      log = h.1.log;
      rest = subst (λ (j : Option Journal). RestsAs seen may_leave j h.1.log disk) (sym same.journal) h.1.rest;
      keeps = h.1.keeps;
      same = same.same ∙ h.1.same;
      whole = same.whole ∙ h.1.whole;
    },
  )

  unchanged-goes : (fault : PostFault) (s t : Session P) (text : List ℕ) (event : Event) (given : List Answer) (disk : D) → (fault ≡ session_fault.DiskFault → ⊥) → IsUnchanged state s t
      → GoesOn state seen may_leave moment left_since s text event given (Err fault) t disk disk
  unchanged-goes fault s t text event given disk other same = λ bytes answers items is h. record {
    each_moment = still bytes answers items (items ++ line event given ∷ []) s disk h;
    after = by fault other bytes answers items (same-session bytes answers items s t disk same h);
  }
    where
      by : (fault : PostFault) → (fault ≡ session_fault.DiskFault → ⊥) → (bytes : List ℕ) (answers : List Answer) (items : List Item) → Is bytes answers items t disk
          → After state seen may_leave bytes answers items (line event given) (Err fault) t disk
      by (session_fault.Refused refusal) other bytes answers items h = h
      by session_fault.NotBuilt other bytes answers items h = h
      by session_fault.DiskFault other bytes answers items h = absurd (other refl)
      by session_fault.Broken other bytes answers items h = h
      by session_fault.Memory other bytes answers items h = h

  itself : (s : Session P) → IsUnchanged state s s
  itself s = record { same = refl; journal = refl; whole = refl }

  -- no call of the disk was made
  keeps-still : (fault : PostFault) (journal : Option Journal) (disk : D) → (fault ≡ session_fault.DiskFault → ⊥) → KeepsAs journal (Err fault) journal disk disk
  keeps-still fault None disk other = (refl, refl, λ e. other (one-fault fault session_fault.DiskFault e))
    where
      one-fault : (a b : PostFault) → ◌≡◌ {A = Result Unit PostFault} (Err a) (Err b) → a ≡ b
      one-fault a b e = cc
  keeps-still fault (Some journal) disk other = refl

  -- an earlier call failed
  pub broken : (s : Session P) (text : List ℕ) (event : Event) (told : Told) (written : List ℕ) (given : List Answer → Outcome) (disk : D) → s.is_broken ≡ true
      → PostsIn state tells seen may_leave moment left_since s text event (Err session_fault.Broken) s told told written written given disk disk
  broken s text event told written given disk h = record {
    made = [];
    called = silent told;
    own = tt;
    is = λ answers covers. (h, record { same = refl; calls = refl });
    still = refl;
    keeps = keeps-still session_fault.Broken s.journal disk (λ e. cc);
    grows = λ is_told. tt;
    goes = λ is_told. unchanged-goes session_fault.Broken s s text event [] disk (λ e. cc) (itself s);
  }

  -- the slot has no room for it
  pub full : (s : Session P) (text : List ℕ) (event : Event) (told : Told) (written : List ℕ) (given : List Answer → Outcome) (disk : D) → s.is_broken ≡ false → used_limit < used_in s.journal
      → PostsIn state tells seen may_leave moment left_since s text event (Err session_fault.NotBuilt) s told told written written given disk disk
  full s text event told written given disk whole much = record {
    made = [];
    called = silent told;
    own = tt;
    is = λ answers covers. (whole, much, record { same = refl; calls = refl });
    still = refl;
    keeps = keeps-still session_fault.NotBuilt s.journal disk (λ e. cc);
    grows = λ is_told. tt;
    goes = λ is_told. unchanged-goes session_fault.NotBuilt s s text event [] disk (λ e. cc) (itself s);
  }

  -- who runs the form does not take it
  not-taken-is : (fault : EventFault) (s : Session P) (p : P) (made : List StoreCall) (old new : List ℕ) (given : Outcome) → IsTried s
      → IsPosted (Err fault) (state s.processor) (state p) made old new given → IsAnswered state (Err (of_event fault)) s (record s { processor = p }) made old new given
  not-taken-is (processor_fault.Refused refusal) s p made old new given tried h = (tried, h.0, record { same = h.1; journal = refl; whole = refl })
  not-taken-is processor_fault.Memory s p made old new given tried h = (tried, record { same = h; journal = refl; whole = refl })

  not-taken-same : (fault : EventFault) (before after : State) (made : List StoreCall) (old new : List ℕ) (given : Outcome) → IsPosted (Err fault) before after made old new given → after ≡ before
  not-taken-same (processor_fault.Refused refusal) before after made old new given h = h.1
  not-taken-same processor_fault.Memory before after made old new given h = h

  not-disk : (fault : EventFault) → of_event fault ≡ session_fault.DiskFault → ⊥
  not-disk (processor_fault.Refused refusal) e = cc
  not-disk processor_fault.Memory e = cc

  not-taken-still : (fault : EventFault) (disk : D) → Stays (Err (of_event fault)) disk disk
  not-taken-still (processor_fault.Refused refusal) disk = refl
  not-taken-still processor_fault.Memory disk = refl

  pub not-taken : (fault : EventFault) (s : Session P) (p : P) (text : List ℕ) (event : Event) (first last : Told) (calls : List StoreCall) (old new : List ℕ) (disk : D) → IsTried s
      → Posts (Err fault) (state s.processor) (state p) calls first last old new (step profile (state s.processor) event)
      → PostsIn state tells seen may_leave moment left_since s text event (Err (of_event fault)) (record s { processor = p }) first last old new (step profile (state s.processor) event) disk disk
  not-taken fault s p text event first last calls old new disk tried h = record {
    made = h.made;
    called = h.called;
    own = h.own;
    is = λ answers covers. not-taken-is fault s p h.made old new (step profile (state s.processor) event answers) tried (h.is answers covers);
    still = not-taken-still fault disk;
    keeps = keeps-still (of_event fault) s.journal disk (not-disk fault);
    grows = λ is_told. tt;
    goes = λ is_told. unchanged-goes (of_event fault) s (record s { processor = p }) text event (answers_in h.made) disk (not-disk fault)
        (record {
          same = not-taken-same fault (state s.processor) (state p) h.made old new (step profile (state s.processor) event (answers_in h.made)) (h.is (answers_in h.made) h.own);
          journal = refl;
          whole = refl;
        });
  }

  pub not-taken-as : (result : Result Unit PostFault) (fault : EventFault) (s : Session P) (p : P) (text : List ℕ) (event : Event) (first last : Told) (calls : List StoreCall) (old new : List ℕ) (disk : D) → IsTried s
      → result ≡ Err (of_event fault) → Posts (Err fault) (state s.processor) (state p) calls first last old new (step profile (state s.processor) event)
      → PostsIn state tells seen may_leave moment left_since s text event result (record s { processor = p }) first last old new (step profile (state s.processor) event) disk disk
  not-taken-as result fault s p text event first last calls old new disk tried e h =
      subst (λ r. PostsIn state tells seen may_leave moment left_since s text event r (record s { processor = p }) first last old new (step profile (state s.processor) event) disk disk) (sym e)
      (not-taken fault s p text event first last calls old new disk tried h)

  -- ---- it is taken

  -- the run takes it, and the journal with it keeps one item more
  record Taken (bytes : List ℕ) (answers : List Answer) (items : List Item) (text : List ℕ) (event : Event) (given : List Answer) (log : Log) (t : State) : Type 0 where
    next : history.Session
    same : t ≡ next.state
    keeps : LogKeeps bytes answers (items ++ line event given ∷ []) next (with_accepted log text given)

  taken : (bytes : List ℕ) (answers : List Answer) (items : List Item) (text : List ℕ) (event : Event) (made : List StoreCall) (s : Session P) (t : State) (posted : Posted) (disk : D) (h : Is bytes answers items s disk)
      → asked_by text ≡ Ok (asked.Event event) → IsAccepted (step profile (state s.processor) event (answers_in made)) t made posted
      → Taken bytes answers items text event (answers_in made) h.1.log t
  taken bytes answers items text event made s t posted disk h is accepted = record {
    next = after_event usual h.0 t;
    same = refl;
    keeps = appended-keeps bytes answers items h.0 (after_event usual h.0 t) h.1.log text event (answers_in made) h.1.keeps is
        (run-takes h.0 event (state s.processor) t made posted h.1.same accepted);
  }

  -- what the keeping of the event leaves at each moment
  abbrev Appends : Session P → List ℕ → List Answer → D → D → Type 0
  Appends s text given old new = (log : Log) → RestsAs seen may_leave s.journal log old → LeavesOnly moment left_since old new (HoldsEither log (with_accepted log text given))

  moments : (bytes : List ℕ) (answers : List Answer) (items : List Item) (text : List ℕ) (event : Event) (given : List Answer) (s : Session P) (t : State) (old new : D) (h : Is bytes answers items s old)
      → Taken bytes answers items text event given h.1.log t → Appends s text given old new → LeavesOnly moment left_since old new (KeepsOne bytes answers items (items ++ line event given ∷ []))
  moments bytes answers items text event given s t old new h more appends =
      widened moment left_since old new (HoldsEither h.1.log (with_accepted h.1.log text given)) (KeepsOne bytes answers items (items ++ line event given ∷ [])) (appends h.1.log h.1.rest)
      (either-keeps bytes answers items (items ++ line event given ∷ []) h.0 more.next h.1.log (with_accepted h.1.log text given) h.1.keeps more.keeps)

  -- the slot takes the entry
  grown : (j k : Option Journal) (text : List ℕ) (given : List Answer) (old new : D) → Rests seen may_leave j old
      → ((log : Log) → RestsAs seen may_leave j log old → RestsAs seen may_leave k (with_accepted log text given) new) → GrowsBy j k (length (written_bytes text given))
  grown None k text given old new was now = tt
  grown (Some journal) None text given old new was now = absurd (now was.0 was.1)
  grown (Some journal) (Some next) text given old new was now =
      let before_used = ap (λ (j : Journal). j.used) was.1.in_hand in
      let after_used = ap (λ (j : Journal). j.used) (now was.0 was.1).in_hand in
      omega (arith, before_used, after_used)

  -- it is kept
  pub kept : (s mid : Session P) (p final : P) (text : List ℕ) (event : Event) (first last : Told) (old_text new_text : List ℕ) (old new : D) → IsTried s
      → (h : Posts (Ok tt) (state s.processor) (state p) (calls_of p) first last old_text new_text (step profile (state s.processor) event))
      → (IsTrue (tells old) → Appends (record s { processor = p }) text (answers_in (calls_of p)) old new)
      → (IsTrue (tells old) → (log : Log) → RestsAs seen may_leave s.journal log old → RestsAs seen may_leave mid.journal (with_accepted log text (answers_in (calls_of p))) new)
      → IsKept (record s { processor = p }) (Ok tt) mid old new → KeepsAs s.journal (Ok tt) mid.journal old new → state final ≡ state mid.processor → (IsTrue (tells old) → IsAtDisk seen may_leave s old)
      → PostsIn state tells seen may_leave moment left_since s text event (Ok tt) (record mid { processor = final }) first last old_text new_text (step profile (state s.processor) event) old new
  kept s mid p final text event first last old_text new_text old new tried h appends done is_kept keeps same at_disk = record {
    made = h.made;
    called = h.called;
    own = h.own;
    is = λ answers covers.
        let posted = h.is answers covers in (
          tried,
          whole,
          (
            posted.0,
            subst (λ (x : State). IsAccepted (step profile (state s.processor) event answers) x h.made posted.0) (sym state_is) posted.1,
            subst (λ (x : State). new_text ≡ old_text ++ ok_text true x posted.0) (sym state_is) posted.2,
          ),
        );
    still = tt;
    keeps = keeps;
    grows = λ is_told.
        subst (λ g. GrowsBy s.journal mid.journal (length (written_bytes text g))) given
        (grown s.journal mid.journal text (answers_in (calls_of p)) old new (at_disk is_told tried.whole) (done is_told));
    goes = λ is_told. λ bytes answers items is i.
        let posted = h.is (answers_in h.made) h.own in
        let more = taken bytes answers items text event h.made s (state p) posted.0 old i is posted.1 in
        record {
          each_moment = moments bytes answers items text event (answers_in h.made) s (state p) old new i more (subst (λ g. Appends s text g old new) given (appends is_told));
          after = (
            more.next,
            record {
              log = with_accepted i.1.log text (answers_in h.made);
              rest = subst (λ g. RestsAs seen may_leave mid.journal (with_accepted i.1.log text g) new) given (done is_told i.1.log i.1.rest);
              keeps = more.keeps;
              same = state_is ∙ more.same;
              whole = whole;
            },
          );
        };
  }
    where
      given : answers_in (calls_of p) ≡ answers_in h.made
      given = ap answers_in (h.pending refl)

      state_is : state final ≡ state p
      state_is = same ∙ ap (λ (x : Session P). state x.processor) is_kept

      whole : mid.is_broken ≡ false
      whole = ap (λ (x : Session P). x.is_broken) is_kept ∙ tried.whole

  -- it is taken back
  back-is : (fault : PostFault) (s mid : Session P) (p final : P) (made : List StoreCall) (old_text new_text : List ℕ) (given : Outcome) (old new : D) → IsTried s → (t : State) (posted : Posted) → IsAccepted given t made posted
      → IsKept (record s { processor = p }) (Err fault) mid old new → state final ≡ state s.processor → IsAnswered state (Err fault) s (record mid { processor = final }) made old_text new_text given
  back-is (session_fault.Refused refusal) s mid p final made old_text new_text given old new tried t posted took k e = absurd k
  back-is session_fault.NotBuilt s mid p final made old_text new_text given old new tried t posted took k e = absurd k
  back-is session_fault.DiskFault s mid p final made old_text new_text given old new tried t posted took k e = (tried, e, ap (λ (x : Session P). x.is_broken) k, (t, posted, took))
  back-is session_fault.Broken s mid p final made old_text new_text given old new tried t posted took k e = absurd k
  back-is session_fault.Memory s mid p final made old_text new_text given old new tried t posted took k e =
      (tried, record { same = e; journal = ap (λ (x : Session P). x.journal) k.0; whole = ap (λ (x : Session P). x.is_broken) k.0 })

  back-after : (fault : PostFault) (s mid : Session P) (p final : P) (bytes : List ℕ) (answers : List Answer) (items : List Item) (item : Item) (old new : D)
      → IsKept (record s { processor = p }) (Err fault) mid old new → state final ≡ state s.processor → Is bytes answers items s old
      → After state seen may_leave bytes answers items item (Err fault) (record mid { processor = final }) new
  back-after (session_fault.Refused refusal) s mid p final bytes answers items item old new k e h = absurd k
  back-after session_fault.NotBuilt s mid p final bytes answers items item old new k e h = absurd k
  back-after session_fault.DiskFault s mid p final bytes answers items item old new k e h = ap (λ (x : Session P). x.is_broken) k
  back-after session_fault.Broken s mid p final bytes answers items item old new k e h = absurd k
  back-after session_fault.Memory s mid p final bytes answers items item old new k e h =
      subst (λ (d : D). Is bytes answers items (record mid { processor = final }) d) (sym k.1)
      (same-session bytes answers items s (record mid { processor = final }) old
      (record { same = e; journal = ap (λ (x : Session P). x.journal) k.0; whole = ap (λ (x : Session P). x.is_broken) k.0 }) h)

  kept-processor : (fault : PostFault) (s mid : Session P) (old new : D) → IsKept s (Err fault) mid old new → mid.processor ≡ s.processor
  kept-processor (session_fault.Refused refusal) s mid old new k = absurd k
  kept-processor session_fault.NotBuilt s mid old new k = absurd k
  kept-processor session_fault.DiskFault s mid old new k = ap (λ (x : Session P). x.processor) k
  kept-processor session_fault.Broken s mid old new k = absurd k
  kept-processor session_fault.Memory s mid old new k = ap (λ (x : Session P). x.processor) k.0

  back-still : (fault : PostFault) (s mid : Session P) (old new : D) → IsKept s (Err fault) mid old new → Stays (Err fault) old new
  back-still (session_fault.Refused refusal) s mid old new k = absurd k
  back-still session_fault.NotBuilt s mid old new k = absurd k
  back-still session_fault.DiskFault s mid old new k = tt
  back-still session_fault.Broken s mid old new k = absurd k
  back-still session_fault.Memory s mid old new k = k.1

  some-one : (x y : State) → Some x ≡ Some y → x ≡ y
  some-one x y i = cc

  pub taken-back : (fault : PostFault) (s mid : Session P) (p final : P) (text : List ℕ) (event : Event) (first last : Told) (old_text new_text : List ℕ) (old new : D) → IsTried s
      → (h : Posts (Ok tt) (state s.processor) (state p) (calls_of p) first last old_text new_text (step profile (state s.processor) event))
      → kept_by p ≡ Some (state s.processor)
      → (IsTrue (tells old) → Appends (record s { processor = p }) text (answers_in (calls_of p)) old new)
      → IsKept (record s { processor = p }) (Err fault) mid old new → KeepsAs s.journal (Err fault) mid.journal old new → kept_by mid.processor ≡ Some (state final)
      → PostsIn state tells seen may_leave moment left_since s text event (Err fault) (record mid { processor = final }) first last old_text new_text (step profile (state s.processor) event) old new
  taken-back fault s mid p final text event first last old_text new_text old new tried h pending appends is_kept keeps back = record {
    made = h.made;
    called = h.called;
    own = h.own;
    is = λ answers covers.
        let posted = h.is answers covers in
        back-is fault s mid p final h.made old_text new_text (step profile (state s.processor) event answers) old new tried (state p) posted.0 posted.1 is_kept same;
    still = back-still fault (record s { processor = p }) mid old new is_kept;
    keeps = keeps;
    grows = λ is_told. tt;
    goes = λ is_told. λ bytes answers items is i.
        let posted = h.is (answers_in h.made) h.own in
        let more = taken bytes answers items text event h.made s (state p) posted.0 old i is posted.1 in
        record {
          each_moment = moments bytes answers items text event (answers_in h.made) s (state p) old new i more (subst (λ g. Appends s text g old new) given (appends is_told));
          after = back-after fault s mid p final bytes answers items (line event (answers_in h.made)) old new is_kept same i;
        };
  }
    where
      given : answers_in (calls_of p) ≡ answers_in h.made
      given = ap answers_in (h.pending refl)

      same : state final ≡ state s.processor
      same = some-one (state final) (state s.processor) (sym back ∙ ap kept_by (kept-processor fault (record s { processor = p }) mid old new is_kept) ∙ pending)

  -- ---- where it stands on the disk

  pub rest-of : (fault : PostFault) (s mid : Session P) (p final : P) (old new : D) → IsKept (record s { processor = p }) (Err fault) mid old new → IsAtDisk seen may_leave s old
      → IsAtDisk seen may_leave (record mid { processor = final }) new
  rest-of (session_fault.Refused refusal) s mid p final old new k h = absurd k
  rest-of session_fault.NotBuilt s mid p final old new k h = absurd k
  rest-of session_fault.DiskFault s mid p final old new k h = λ whole. absurd (no-both mid.is_broken (ap (λ (x : Session P). x.is_broken) k) whole)
    where
      no-both : (b : Bool) → b ≡ true → b ≡ false → ⊥
      no-both b t f = cc
  rest-of session_fault.Broken s mid p final old new k h = absurd k
  rest-of session_fault.Memory s mid p final old new k h = λ whole.
      let was = h (sym (ap (λ (x : Session P). x.is_broken) k.0) ∙ whole) in
      subst (λ (d : D). Rests seen may_leave mid.journal d) (sym k.1) (subst (λ (j : Option Journal). Rests seen may_leave j old) (sym (ap (λ (x : Session P). x.journal) k.0)) was)

  rests-on : (j k : Option Journal) (text : List ℕ) (given : List Answer) (old new : D) → Rests seen may_leave j old
      → ((log : Log) → RestsAs seen may_leave j log old → RestsAs seen may_leave k (with_accepted log text given) new) → KeepsAs j (Ok tt) k old new → Rests seen may_leave k new
  rests-on None k text given old new was now keeps = subst (λ (j : Option Journal). Rests seen may_leave j new) (sym keeps.0) tt
  rests-on (Some journal) None text given old new was now keeps = tt
  rests-on (Some journal) (Some next) text given old new was now keeps = (with_accepted was.0 text given, now was.0 was.1)

  pub rest-kept : (s mid : Session P) (final : P) (text : List ℕ) (given : List Answer) (old new : D) → IsTried s → IsAtDisk seen may_leave s old
      → ((log : Log) → RestsAs seen may_leave s.journal log old → RestsAs seen may_leave mid.journal (with_accepted log text given) new) → KeepsAs s.journal (Ok tt) mid.journal old new
      → IsAtDisk seen may_leave (record mid { processor = final }) new
  rest-kept s mid final text given old new tried h now keeps = λ whole. rests-on s.journal mid.journal text given old new (h tried.whole) now keeps
