-- What a line makes of a session that is kept, by what its event came to.
use Rattle.std.proofs.Common.{ℕ, ◌≡◌, ◌≤◌, ◌<◌, ◌⊎◌, ◌∙◌, Bool, true, false, IsTrue, List, [], ◌∷◌, ◌++◌, map, ◌+◌, length, nat_lt, Option, Some, None, Result, Ok, Err, refl, ap, sym, subst, inl, inr, arith, append-nil}
use Rattle.std.specs.Prelude.{Contains, IsSome}
use Rattle.std.proofs.lemmas.Bool.Decides.{nat_tests}
use Rattle.std.specs.List.{list_all}
use Rattle.xf_base.specs.Limits.{line_limit, used_limit}
use Rattle.xf_disk.specs.Image.{Image}
use Rattle.xf_disk.specs.Crash.{LeavesAll, LeavesOnly}
use Rattle.xf_journal.specs.declared.journal.Journal.{Journal}
use Rattle.xf_journal.specs.Entry.{written_bytes}
use Rattle.xf_line.specs.declared.event.Asked.TheVariants as asked
use Rattle.xf_line.specs.declared.event.Event.{Event}
use Rattle.xf_line.specs.Line.{asked_by}
use Rattle.xf_store.specs.declared.answers.Answer.{Answer}
use Rattle.xf_store.specs.declared.call.StoreCall.{StoreCall}
use Rattle.xf_store.specs.Called.{Called, Told}
use Rattle.xf_store.proofs.CalledLaws.{called-none}
use Rattle.xf_def_machine.specs.State.{State}
use Rattle.xf_def_machine.specs.ControlText.{state_text}
use Rattle.xf_def_machine.specs.StateText.{line_of}
use Rattle.xf_def_machine.specs.Replies.{Reply, without_event, answers_in, is_blank, ok_text, refusal_texts, reply, reply_outcome}
use Rattle.xf_def_machine.specs.Step as machine
use Rattle.xf_def_machine.specs.Step.{Outcome, Posted, accepted, refused, step}
use Rattle.xf_def_machine.specs.declared.refusal.Refusal.{Refusal}
use Rattle.xf_def_form.specs.Formed.{profile}
use Rattle.xf_def_sessions.specs.Runs.{Item, line}
use Rattle.xf_report.specs.Refusals.{refusal_text}
use Rattle.xf_report.proofs.AnswerLaws.{tells-text}
use Rattle.xf_session.specs.declared.fault.PostFault.{PostFault}
use Rattle.xf_session.specs.declared.fault.PostFault.TheVariants as fault
use Rattle.xf_cli_stream.specs.declared.answering.AnswerFault.TheVariants as lines
use Rattle.xf_session.specs.declared.session.Session.{Session}
use Rattle.xf_session.specs.Processing as processing
use Rattle.xf_session.specs.Posting.{GrowsBy, KeepsAs, PostsIn}
use Rattle.xf_session.specs.Keeping.{Keeps, KeepsOne, IsSession, used_in}
use Rattle.xf_session.proofs.Keeps.{rests-keep}
use Rattle.xf_cli_commands.specs.Course.{Course, event_in, after_outcome, after_event, where_full, not_built_reply, IsReplied, Replies, TakesEvent, Takes, Lacks, IsAccepted, FailsAt}
use Rattle.xf_cli_commands.specs.Finish.{IsSaid}
use Rattle.xf_cli_commands.specs.Kept.{Views, At, course_of, Comes, TakesMore, LeavesEither, LineAnswers, Lacking, Failing, LineTried, TryLacking, AnswersBy, LeavesBy}
use Rattle.xf_cli_commands.specs.Replies.{Gives, IsReply}
use Rattle.xf_cli_commands.proofs.LineReads.{reply_to, event_of}
use Rattle.xf_cli_commands.proofs.Moments.{still}
use Rattle.xf_cli_commands.proofs.ReplyLaws.{only, contains_line, accepted-reply, asked_reply, refused-reply, said_reply, show_reply}

-- ---- replies

-- without a call of the store and without an event
replies-quietly : (c : Course) (text_line text : List ℕ) → ((answers : List Answer) → reply profile true c.state answers text_line ≡ without_event c.state (text ∷ [])) → event_in text_line ≡ None
    → Takes c text_line text c
replies-quietly c text_line text says none =
    let replied : IsReplied c text_line text [] = record {
      calls = ap (λ (r : Reply). r.calls) (says []);
      told = subst (λ (r : Reply). Contains r.texts text) (sym (says [])) (only text);
    } in
    let same : c ≡ after_event c text_line [] (event_in text_line) = sym (ap (λ e. after_event c text_line [] e) none) in
    subst (λ e. TakesEvent c text_line e text c) (sym none) ([], replied, same)

-- of an event that was tried
replies-tried : (c d : Course) (text_line text : List ℕ) (event : Event) (own : List StoreCall) → event_in text_line ≡ Some event → c.used ≤ used_limit → IsReplied c text_line text own
    → d ≡ after_outcome c text_line event (answers_in own) (step profile c.state event (answers_in own)) → Takes c text_line text d
replies-tried c d text_line text event own e room replied same =
    let there : d ≡ after_event c text_line (answers_in own) (event_in text_line) = same ∙ sym (ap (λ x. after_event c text_line (answers_in own) x) e) in
    let not_full : nat_lt used_limit c.used ≡ false = grind (arith, nat_tests, room) in
    subst (λ x. TakesEvent c text_line x text d) (sym e)
    (subst (λ b. where_full b ((text ≡ not_built_reply) × (d ≡ c)) (Replies c text_line text d)) (sym not_full) (own, replied, there))

replied-accepted : (c : Course) (text_line text : List ℕ) (event : Event) (own : List StoreCall) (s : State) (posted : Posted)
    → reply profile true c.state (answers_in own) text_line ≡ reply_outcome true c.state (step profile c.state event (answers_in own))
    → step profile c.state event (answers_in own) ≡ accepted s posted → posted.calls ≡ own → text ≡ ok_text true s posted → IsReplied c text_line text own
replied-accepted c text_line text event own s posted reads is calls told =
    let all = reads ∙ ap (reply_outcome true c.state) is in record {
      calls = ap (λ (r : Reply). r.calls) all ∙ calls;
      told = subst (λ (r : Reply). Contains r.texts text) (sym all) (subst (λ t. Contains (ok_text true s posted ∷ []) t) (sym told) (only (ok_text true s posted)));
    }

replied-refused : (c : Course) (text_line text : List ℕ) (refusal : Refusal) (own : List StoreCall) (o : Outcome)
    → reply profile true c.state (answers_in own) text_line ≡ reply_outcome true c.state o → processing.IsRefusedAfter refusal own o → text ≡ line_of (refusal_text refusal)
    → IsReplied c text_line text own
replied-refused c text_line text refusal own (accepted s posted) reads h told = absurd h
replied-refused c text_line text refusal own (refused why calls) reads h told = record {
  calls = ap (λ (r : Reply). r.calls) reads ∙ h.1;
  told = subst (λ (r : Reply). Contains r.texts text) (sym reads) (subst (λ t. Contains (map line_of (refusal_texts why)) t) (sym told) (contains_line refusal why h.0));
}

refused-calls : (c : Course) (text_line : List ℕ) (event : Event) (answers : List Answer) (refusal : Refusal) (own : List StoreCall) (o : Outcome) → processing.IsRefusedAfter refusal own o
    → record c { calls = c.calls ++ own } ≡ after_outcome c text_line event answers o
refused-calls c text_line event answers refusal own (accepted s posted) h = absurd h
refused-calls c text_line event answers refusal own (refused why calls) h = ap (λ (l : List StoreCall). record c { calls = c.calls ++ l }) (sym h.1)

-- the line asks for the event
pub record Asks (text_line : List ℕ) (event : Event) : Type 0 where
  pub asked : asked_by text_line ≡ Ok (asked.Event event)
  pub reads : (s : State) (answers : List Answer) → reply profile true s answers text_line ≡ reply_outcome true s (step profile s event answers)
  pub event_is : event_in text_line ≡ Some event

-- a line that is read so
pub asks_for : (text_line : List ℕ) (event : Event) → length text_line ≤ line_limit → asked_by text_line ≡ Ok (asked.Event event) → list_all is_blank text_line ≡ false → Asks text_line event
asks_for text_line event short a blank = record {
  asked = a;
  reads = λ s answers. reply_to s answers text_line (Ok (asked.Event event)) short blank a;
  event_is = event_of text_line (Ok (asked.Event event)) short blank a;
}

broken_not : {X : Type 0} (b : Bool) → b ≡ true → b ≡ false → X
broken_not b e f = absurd (cc)

module _ {P D : Type 0} (views : Views P D)
    (only_now : (disk : D) (image : Image) → views.left_since disk (views.moment disk) image → views.may_leave disk image) where
  abbrev Is : List ℕ → List Answer → List Item → At P D → Type 0
  Is form answers items at = IsSession views.state views.seen views.may_leave form answers items at.0 at.1.1

  keeps-all : (form : List ℕ) (answers : List Answer) (items : List Item) (at : At P D) → Is form answers items at → LeavesAll (views.may_leave at.1.1) (Keeps form answers items)
  keeps-all form answers items at is = rests-keep views.seen views.may_leave form answers items is.0 at.0.journal is.1.log at.1.1 is.1.rest is.1.keeps

  -- nothing was taken, and no call of the disk was made
  takes-nothing : (first last : At P D) → last.1.1 ≡ first.1.1
      → (IsTrue (views.tells first.1.1) → (form : List ℕ) (answers : List Answer) (items : List Item) → Is form answers items first → Is form answers items last) → TakesMore views first last []
  takes-nothing first last same goes told form answers items is =
      let here : LeavesOnly views.moment views.left_since first.1.1 first.1.1 (KeepsOne form answers items (items ++ [])) =
      still views.moment views.left_since views.may_leave only_now first.1.1 (KeepsOne form answers items (items ++ [])) (λ image left. inl (keeps-all form answers items first is image left)) in (
        subst (λ (d : D). LeavesOnly views.moment views.left_since first.1.1 d (KeepsOne form answers items (items ++ []))) (sym same) here,
        subst (λ (l : List Item). Is form answers l last) (sym (append-nil items)) (goes told form answers items is),
      )

  -- nothing was done
  comes-nowhere : (at : At P D) → Comes views at at (course_of views at.0)
  comes-nowhere at = record { state = refl; called = called-none at.1.0 []; tells = refl; used = λ told. refl }

  nothing-taken : (at : At P D) → TakesMore views at at []
  nothing-taken at = takes-nothing at at refl (λ told form answers items is. is)

  said_quietly : (at : At P D) (text_line text : List ℕ)
      → ((answers : List Answer) → reply profile true (views.state at.0.processor) answers text_line ≡ without_event (views.state at.0.processor) (text ∷ [])) → event_in text_line ≡ None
      → LineAnswers views at text_line text at
  said_quietly at text_line text says none = record {
    after = course_of views at.0;
    takes = replies-quietly (course_of views at.0) text_line text says none;
    comes = comes-nowhere at;
    goes = nothing-taken at;
  }

  said : (at : At P D) (text_line text : List ℕ) → IsSaid text_line text → LineAnswers views at text_line text at
  said at text_line text h = said_quietly at text_line text (λ answers. h.reply_is (views.state at.0.processor) answers) h.no_event

  show_line : (at : At P D) (text_line text : List ℕ) → (asked_by text_line ≡ Ok asked.Show) × (length text_line ≤ line_limit) × (list_all is_blank text_line ≡ false)
      → text ≡ state_text profile (views.state at.0.processor) → LineAnswers views at text_line text at
  show_line at text_line text reads told =
      let s = views.state at.0.processor in
      said_quietly at text_line text
      (λ answers. reply_to s answers text_line (Ok asked.Show) reads.1 reads.2 reads.0 ∙ ap (λ t. without_event s (t ∷ [])) (sym told))
      (event_of text_line (Ok asked.Show) reads.1 reads.2 reads.0)

  lacking-here : (at : At P D) → Lacking views at at
  lacking-here at = record { after = course_of views at.0; lacks = ([], refl); comes = comes-nowhere at; goes = nothing-taken at }

  -- ---- an event

  abbrev Posts : At P D → List ℕ → Event → Result Unit PostFault → At P D → List ℕ → List ℕ → Type 0
  Posts first text_line event result last old new =
      PostsIn views.state views.tells views.seen views.may_leave views.moment views.left_since first.0 text_line event result last.0 first.1.0 last.1.0 old new
      (step profile (views.state first.0.processor) event) first.1.1 last.1.1

  grows-used : (j k : Option Journal) (journal : Journal) (n : ℕ) → j ≡ Some journal → GrowsBy j k n → used_in k ≡ used_in j + n
  grows-used j k journal n is h = subst (λ x. GrowsBy x k n → used_in k ≡ used_in x + n) (sym is) (λ g. g) h

  accepted_line : (first last : At P D) (journal : Journal) (text_line : List ℕ) (event : Event) (old new : List ℕ) → first.0.journal ≡ Some journal → Asks text_line event → views.tells last.1.1 ≡ views.tells first.1.1 → old ≡ []
      → Posts first text_line event (Ok tt) last old new → LineAnswers views first text_line new last
  accepted_line first last journal text_line event old new in_hand asks tells empty h =
      let is = h.is (answers_in h.made) h.own in
      let posted : Posted = is.2.0 in
      let s = views.state last.0.processor in
      let c = course_of views first.0 in
      let d : Course = after_outcome c text_line event (answers_in h.made) (accepted s posted) in
      let told : new ≡ ok_text true s posted = is.2.2 ∙ ap (λ t. t ++ ok_text true s posted) empty in record {
        after = d;
        takes = replies-tried c d text_line new event h.made asks.event_is is.0.room
            (replied-accepted c text_line new event h.made s posted (asks.reads c.state (answers_in h.made)) is.2.1.is is.2.1.calls told)
            (ap (λ (o : Outcome). after_outcome c text_line event (answers_in h.made) o) (sym is.2.1.is));
        comes = record {
          state = refl;
          called = subst (λ (l : List StoreCall). Called first.1.0 last.1.0 [] l) (sym is.2.1.calls) h.called;
          tells = tells;
          used = λ told. sym (grows-used first.0.journal last.0.journal journal (length (written_bytes text_line (answers_in h.made))) in_hand (h.grows told));
        };
        goes = λ told form answers items is. let w = h.goes told form answers items asks.asked is in (w.each_moment, w.after);
      }

  refused_line : (first last : At P D) (text_line text : List ℕ) (event : Event) (refusal : Refusal) (old new : List ℕ) → Asks text_line event
      → text ≡ line_of (refusal_text refusal) → Posts first text_line event (Err (fault.Refused refusal)) last old new → LineAnswers views first text_line text last
  refused_line first last text_line text event refusal old new asks told h =
      let is = h.is (answers_in h.made) h.own in
      let c = course_of views first.0 in
      let o = step profile c.state event (answers_in h.made) in record {
        after = record c { calls = h.made };
        takes = replies-tried c (record c { calls = h.made }) text_line text event h.made asks.event_is is.0.room
            (replied-refused c text_line text refusal h.made o (asks.reads c.state (answers_in h.made)) is.1 told)
            (refused-calls c text_line event (answers_in h.made) refusal h.made o is.1);
        comes = record { state = sym is.2.same; called = h.called; tells = ap views.tells h.still; used = λ told. sym (ap used_in is.2.journal) };
        goes = takes-nothing first last h.still (λ told form answers items is. (h.goes told form answers items asks.asked is).after);
      }

  refused_lacking : (first last : At P D) (text_line : List ℕ) (event : Event) (refusal : Refusal) (old new : List ℕ) → Asks text_line event
      → Posts first text_line event (Err (fault.Refused refusal)) last old new → Lacking views first last
  refused_lacking first last text_line event refusal old new asks h =
      let is = h.is (answers_in h.made) h.own in
      let c = course_of views first.0 in record {
        after = record c { calls = h.made };
        lacks = (h.made, refl);
        comes = record { state = sym is.2.same; called = h.called; tells = ap views.tells h.still; used = λ told. sym (ap used_in is.2.journal) };
        goes = takes-nothing first last h.still (λ told form answers items is. (h.goes told form answers items asks.asked is).after);
      }

  memory_lacking : (first last : At P D) (text_line : List ℕ) (event : Event) (old new : List ℕ) → Asks text_line event
      → Posts first text_line event (Err fault.Memory) last old new → Lacking views first last
  memory_lacking first last text_line event old new asks h =
      let is = h.is (answers_in h.made) h.own in
      let c = course_of views first.0 in record {
        after = record c { calls = h.made };
        lacks = (h.made, refl);
        comes = record { state = sym is.1.same; called = h.called; tells = ap views.tells h.still; used = λ told. sym (ap used_in is.1.journal) };
        goes = takes-nothing first last h.still (λ told form answers items is. (h.goes told form answers items asks.asked is).after);
      }

  -- no room in the slot: everything is as it was
  same-at : (first last : At P D) (made : List StoreCall) → last.0 ≡ first.0 → made ≡ [] → Called first.1.0 last.1.0 [] made → last.1.1 ≡ first.1.1 → Comes views first last (course_of views first.0)
  same-at first last made same none called disk = record {
    state = ap (λ (s : Session P). views.state s.processor) (sym same);
    called = subst (λ (l : List StoreCall). Called first.1.0 last.1.0 [] l) none called;
    tells = ap views.tells disk;
    used = λ told. sym (ap (λ (s : Session P). used_in s.journal) same);
  }

  full : (c : Course) → used_limit < c.used → nat_lt used_limit c.used ≡ true
  full c h = grind (arith, nat_tests, h)

  full_line : (first last : At P D) (text_line text : List ℕ) (event : Event) (old new : List ℕ) → Asks text_line event → text ≡ not_built_reply
      → Posts first text_line event (Err fault.NotBuilt) last old new → LineAnswers views first text_line text last
  full_line first last text_line text event old new asks told h =
      let is = h.is (answers_in h.made) h.own in
      let c = course_of views first.0 in record {
        after = c;
        takes = subst (λ x. TakesEvent c text_line x text c) (sym asks.event_is)
            (subst (λ b. where_full b ((text ≡ not_built_reply) × (c ≡ c)) (Replies c text_line text c)) (sym (full c is.1)) (told, refl));
        comes = same-at first last h.made is.2.same is.2.calls h.called h.still;
        goes = takes-nothing first last h.still (λ told form answers items is. (h.goes told form answers items asks.asked is).after);
      }

  full_lacking : (first last : At P D) (text_line : List ℕ) (event : Event) (old new : List ℕ) → Asks text_line event
      → Posts first text_line event (Err fault.NotBuilt) last old new → Lacking views first last
  full_lacking first last text_line event old new asks h =
      let is = h.is (answers_in h.made) h.own in record {
        after = course_of views first.0;
        lacks = ([], refl);
        comes = same-at first last h.made is.2.same is.2.calls h.called h.still;
        goes = takes-nothing first last h.still (λ told form answers items is. (h.goes told form answers items asks.asked is).after);
      }

  accepted-calls : (o : Outcome) (s : State) (posted : Posted) (made : List StoreCall) → processing.IsAccepted o s made posted → IsAccepted o made
  accepted-calls o s posted made h = subst (λ (x : Outcome). IsAccepted x made) (sym h.is) h.calls

  failed_line : (first last : At P D) (text_line : List ℕ) (event : Event) (old new : List ℕ) → Asks text_line event
      → Posts first text_line event (Err fault.DiskFault) last old new → Failing views first text_line last
  failed_line first last text_line event old new asks h =
      let is = h.is (answers_in h.made) h.own in
      let c = course_of views first.0 in
      let d : Course = record c { calls = h.made; in_flight = line event (answers_in h.made) ∷ [] } in record {
        after = d;
        fails = subst (λ x. FailsAt c x d) (sym asks.event_is) (h.made, accepted-calls (step profile c.state event (answers_in h.made)) is.3.0 is.3.1 h.made is.3.2, refl);
        called = h.called;
        goes = λ told form answers items is. (h.goes told form answers items asks.asked is).each_moment;
      }

  -- ---- by the fault that is given

  -- a session that is whole stays so, but for a fault of the disk
  pub whole_after : (first last : At P D) (text_line : List ℕ) (event : Event) (old new : List ℕ) → Posts first text_line event (Ok tt) last old new → last.0.is_broken ≡ false
  whole_after first last text_line event old new h = let is = h.is (answers_in h.made) h.own in is.1

  pub whole_refused : (first last : At P D) (text_line : List ℕ) (event : Event) (refusal : Refusal) (f : PostFault) (old new : List ℕ) → f ≡ fault.Refused refusal → first.0.is_broken ≡ false
      → Posts first text_line event (Err f) last old new → last.0.is_broken ≡ false
  whole_refused first last text_line event refusal f old new same whole h =
      let k = subst (λ x. Posts first text_line event (Err x) last old new) same h in
      let is = k.is (answers_in k.made) k.own in
      is.2.whole ∙ whole

  pub whole_full : (first last : At P D) (text_line : List ℕ) (event : Event) (f : PostFault) (old new : List ℕ) → f ≡ fault.NotBuilt → first.0.is_broken ≡ false
      → Posts first text_line event (Err f) last old new → last.0.is_broken ≡ false
  whole_full first last text_line event f old new same whole h =
      let k = subst (λ x. Posts first text_line event (Err x) last old new) same h in
      let is = k.is (answers_in k.made) k.own in
      ap (λ (s : Session P). s.is_broken) is.2.same ∙ whole

  -- ---- whatever keeps the session

  -- what keeps nothing goes on so, and what keeps too
  unkept : (first last : At P D) (text_line : List ℕ) (event : Event) (result : Result Unit PostFault) (old new : List ℕ) → first.0.journal ≡ None → Posts first text_line event result last old new
      → (last.0.journal ≡ None) × (last.1.1 ≡ first.1.1) × (result ≡ Err fault.DiskFault → ⊥)
  unkept first last text_line event result old new is h = subst (λ j. KeepsAs j result last.0.journal first.1.1 last.1.1) is h.keeps

  goes-kept : (first last : At P D) (journal : Journal) (text_line : List ℕ) (event : Event) (result : Result Unit PostFault) (old new : List ℕ) → first.0.journal ≡ Some journal
      → Posts first text_line event result last old new → IsSome last.0.journal
  goes-kept first last journal text_line event result old new is h = subst (λ j. KeepsAs j result last.0.journal first.1.1 last.1.1) is h.keeps

  stays-kept : (at : At P D) (journal : Journal) → at.0.journal ≡ Some journal → IsSome at.0.journal
  stays-kept at journal is = subst (λ (j : Option Journal). IsSome j) (sym is) refl

  pub said_by : (j : Option Journal) (at : At P D) (text_line text : List ℕ) → at.0.journal ≡ j → IsSaid text_line text → AnswersBy views j at text_line text at
  said_by None at text_line text is h = record { replied = said_reply (views.state at.0.processor) text_line text at.1.0 h; unkept = is }
  said_by (Some journal) at text_line text is h = (said at text_line text h, stays-kept at journal is)

  pub show_by : (j : Option Journal) (at : At P D) (text_line text : List ℕ) → at.0.journal ≡ j
      → (asked_by text_line ≡ Ok asked.Show) × (length text_line ≤ line_limit) × (list_all is_blank text_line ≡ false) → text ≡ state_text profile (views.state at.0.processor)
      → AnswersBy views j at text_line text at
  show_by None at text_line text is reads told =
      let s = views.state at.0.processor in
      record { replied = asked_reply s s text_line text asked.Show at.1.0 at.1.0 reads (show_reply s at.1.0 text told); unkept = is }
  show_by (Some journal) at text_line text is reads told = (show_line at text_line text reads told, stays-kept at journal is)

  pub lacking_by : (j : Option Journal) (at : At P D) (text_line : List ℕ) → at.0.journal ≡ j → LeavesBy views j lines.Memory at text_line at
  lacking_by None at text_line is = record { same = refl; made = []; called = called-none at.1.0 []; unkept = is }
  lacking_by (Some journal) at text_line is = (lacking-here at, stays-kept at journal is)

  pub accepted_by : (j : Option Journal) (first last : At P D) (text_line : List ℕ) (event : Event) (old new : List ℕ) → first.0.journal ≡ j → Asks text_line event
      → views.tells last.1.1 ≡ views.tells first.1.1 → old ≡ [] → Posts first text_line event (Ok tt) last old new → AnswersBy views j first text_line new last
  accepted_by None first last text_line event old new is asks tells empty h =
      let answered = h.is (answers_in h.made) h.own in
      let s = views.state first.0.processor in
      let t = views.state last.0.processor in
      let posted : Posted = answered.2.0 in
      let told : new ≡ ok_text true t posted = answered.2.2 ∙ ap (λ o. o ++ ok_text true t posted) empty in record {
        replied = record {
          made = h.made;
          called = h.called;
          gives = subst (λ r. Gives r new t h.made) (sym (asks.reads s (answers_in h.made))) (accepted-reply s t h.made posted new (step profile s event (answers_in h.made)) answered.2.1 told);
        };
        unkept = (unkept first last text_line event (Ok tt) old new is h).0;
      }
  accepted_by (Some journal) first last text_line event old new is asks tells empty h =
      (accepted_line first last journal text_line event old new is asks tells empty h, goes-kept first last journal text_line event (Ok tt) old new is h)

  refused-by : (j : Option Journal) (first last : At P D) (text_line text : List ℕ) (event : Event) (refusal : Refusal) (old new : List ℕ) → first.0.journal ≡ j → Asks text_line event
      → text ≡ line_of (refusal_text refusal) → Posts first text_line event (Err (fault.Refused refusal)) last old new → AnswersBy views j first text_line text last
  refused-by None first last text_line text event refusal old new is asks told h =
      let answered = h.is (answers_in h.made) h.own in
      let s = views.state first.0.processor in
      let o = step profile s event (answers_in h.made) in record {
        replied = record {
          made = h.made;
          called = h.called;
          gives = subst (λ r. Gives r text (views.state last.0.processor) h.made) (sym (asks.reads s (answers_in h.made)))
              (subst (λ u. Gives (reply_outcome true s o) text u h.made) (sym answered.2.same)
              (subst (λ x. Gives (reply_outcome true s o) x s h.made) (sym told) (refused-reply s refusal h.made o answered.1)));
        };
        unkept = (unkept first last text_line event (Err (fault.Refused refusal)) old new is h).0;
      }
  refused-by (Some journal) first last text_line text event refusal old new is asks told h =
      (refused_line first last text_line text event refusal old new asks told h, goes-kept first last journal text_line event (Err (fault.Refused refusal)) old new is h)

  pub refused_by : (j : Option Journal) (first last : At P D) (text_line text : List ℕ) (event : Event) (refusal : Refusal) (f : PostFault) (old new : List ℕ) → first.0.journal ≡ j → Asks text_line event
      → text ≡ line_of (refusal_text refusal) → f ≡ fault.Refused refusal → Posts first text_line event (Err f) last old new → AnswersBy views j first text_line text last
  refused_by j first last text_line text event refusal f old new is asks told same h =
      refused-by j first last text_line text event refusal old new is asks told (subst (λ x. Posts first text_line event (Err x) last old new) same h)

  refused-lacking-by : (j : Option Journal) (first last : At P D) (text_line : List ℕ) (event : Event) (refusal : Refusal) (old new : List ℕ) → first.0.journal ≡ j → Asks text_line event
      → Posts first text_line event (Err (fault.Refused refusal)) last old new → LeavesBy views j lines.Memory first text_line last
  refused-lacking-by None first last text_line event refusal old new is asks h =
      let answered = h.is (answers_in h.made) h.own in
      record { same = answered.2.same; made = h.made; called = h.called; unkept = (unkept first last text_line event (Err (fault.Refused refusal)) old new is h).0 }
  refused-lacking-by (Some journal) first last text_line event refusal old new is asks h =
      (refused_lacking first last text_line event refusal old new asks h, goes-kept first last journal text_line event (Err (fault.Refused refusal)) old new is h)

  pub refused_lacking_by : (j : Option Journal) (first last : At P D) (text_line : List ℕ) (event : Event) (refusal : Refusal) (f : PostFault) (old new : List ℕ) → first.0.journal ≡ j → Asks text_line event
      → f ≡ fault.Refused refusal → Posts first text_line event (Err f) last old new → LeavesBy views j lines.Memory first text_line last
  refused_lacking_by j first last text_line event refusal f old new is asks same h =
      refused-lacking-by j first last text_line event refusal old new is asks (subst (λ x. Posts first text_line event (Err x) last old new) same h)

  -- what keeps nothing is never full
  never-full : {X : Type 0} (first last : At P D) (text_line : List ℕ) (event : Event) (old new : List ℕ) → first.0.journal ≡ None → Posts first text_line event (Err fault.NotBuilt) last old new → X
  never-full first last text_line event old new is h =
      let answered = h.is (answers_in h.made) h.own in
      let none : used_in first.0.journal ≡ 0 = ap used_in is in
      absurd (omega (arith, none, answered.1))

  full-by : (j : Option Journal) (first last : At P D) (text_line text : List ℕ) (event : Event) (old new : List ℕ) → first.0.journal ≡ j → Asks text_line event
      → text ≡ not_built_reply → Posts first text_line event (Err fault.NotBuilt) last old new → AnswersBy views j first text_line text last
  full-by None first last text_line text event old new is asks told h = never-full first last text_line event old new is h
  full-by (Some journal) first last text_line text event old new is asks told h =
      (full_line first last text_line text event old new asks told h, goes-kept first last journal text_line event (Err fault.NotBuilt) old new is h)

  pub full_by : (j : Option Journal) (first last : At P D) (text_line text : List ℕ) (event : Event) (f : PostFault) (old new : List ℕ) → first.0.journal ≡ j → Asks text_line event
      → text ≡ not_built_reply → f ≡ fault.NotBuilt → Posts first text_line event (Err f) last old new → AnswersBy views j first text_line text last
  full_by j first last text_line text event f old new is asks told same h =
      full-by j first last text_line text event old new is asks told (subst (λ x. Posts first text_line event (Err x) last old new) same h)

  full-lacking-by : (j : Option Journal) (first last : At P D) (text_line : List ℕ) (event : Event) (old new : List ℕ) → first.0.journal ≡ j → Asks text_line event
      → Posts first text_line event (Err fault.NotBuilt) last old new → LeavesBy views j lines.Memory first text_line last
  full-lacking-by None first last text_line event old new is asks h = never-full first last text_line event old new is h
  full-lacking-by (Some journal) first last text_line event old new is asks h =
      (full_lacking first last text_line event old new asks h, goes-kept first last journal text_line event (Err fault.NotBuilt) old new is h)

  pub full_lacking_by : (j : Option Journal) (first last : At P D) (text_line : List ℕ) (event : Event) (f : PostFault) (old new : List ℕ) → first.0.journal ≡ j → Asks text_line event
      → f ≡ fault.NotBuilt → Posts first text_line event (Err f) last old new → LeavesBy views j lines.Memory first text_line last
  full_lacking_by j first last text_line event f old new is asks same h =
      full-lacking-by j first last text_line event old new is asks (subst (λ x. Posts first text_line event (Err x) last old new) same h)

  failed-by : (j : Option Journal) (first last : At P D) (text_line : List ℕ) (event : Event) (old new : List ℕ) → first.0.journal ≡ j → Asks text_line event
      → Posts first text_line event (Err fault.DiskFault) last old new → LeavesBy views j lines.Disk first text_line last
  failed-by None first last text_line event old new is asks h = absurd ((unkept first last text_line event (Err fault.DiskFault) old new is h).2 refl)
  failed-by (Some journal) first last text_line event old new is asks h = failed_line first last text_line event old new asks h

  pub failed_by : (j : Option Journal) (first last : At P D) (text_line : List ℕ) (event : Event) (f : PostFault) (old new : List ℕ) → first.0.journal ≡ j → Asks text_line event
      → f ≡ fault.DiskFault → Posts first text_line event (Err f) last old new → LeavesBy views j lines.Disk first text_line last
  failed_by j first last text_line event f old new is asks same h =
      failed-by j first last text_line event old new is asks (subst (λ x. Posts first text_line event (Err x) last old new) same h)

  memory-by : (j : Option Journal) (first last : At P D) (text_line : List ℕ) (event : Event) (old new : List ℕ) → first.0.journal ≡ j → Asks text_line event
      → Posts first text_line event (Err fault.Memory) last old new → LeavesBy views j lines.Memory first text_line last
  memory-by None first last text_line event old new is asks h =
      let answered = h.is (answers_in h.made) h.own in
      record { same = answered.1.same; made = h.made; called = h.called; unkept = (unkept first last text_line event (Err fault.Memory) old new is h).0 }
  memory-by (Some journal) first last text_line event old new is asks h =
      (memory_lacking first last text_line event old new asks h, goes-kept first last journal text_line event (Err fault.Memory) old new is h)

  pub memory_by : (j : Option Journal) (first last : At P D) (text_line : List ℕ) (event : Event) (f : PostFault) (old new : List ℕ) → first.0.journal ≡ j → Asks text_line event
      → f ≡ fault.Memory → Posts first text_line event (Err f) last old new → LeavesBy views j lines.Memory first text_line last
  memory_by j first last text_line event f old new is asks same h =
      memory-by j first last text_line event old new is asks (subst (λ x. Posts first text_line event (Err x) last old new) same h)

  -- an earlier call failed: but then no line was asked
  pub not_broken : {X : Type 0} (first last : At P D) (text_line : List ℕ) (event : Event) (f : PostFault) (old new : List ℕ) → f ≡ fault.Broken → first.0.is_broken ≡ false
      → Posts first text_line event (Err f) last old new → X
  not_broken first last text_line event f old new same whole h =
      let k = subst (λ x. Posts first text_line event (Err x) last old new) same h in
      let is = k.is (answers_in k.made) k.own in
      broken_not first.0.is_broken is.0 whole
