-- How far a session that is kept has come with its lines, and what is on the disk then.
use Rattle.std.proofs.Common.{◌≡◌, ◌≤◌, ◌⊎◌, ◌∙◌, ℕ, IsTrue, List, [], ◌∷◌, ◌++◌, Option, Some, None, refl, ap, sym, subst, inl, inr, append-nil, append_assoc}
use Rattle.xf_disk.specs.Image.{Image}
use Rattle.xf_disk.specs.Crash.{LeavesAll, LeavesOnly}
use Rattle.xf_store.specs.declared.answers.Answer.{Answer}
use Rattle.xf_store.specs.declared.call.StoreCall.{StoreCall}
use Rattle.xf_store.specs.Called.{Called, Told}
use Rattle.xf_store.proofs.CalledLaws.{called-none, called-on}
use Rattle.xf_cli_stream.specs.declared.answering.AnswerFault.TheVariants as fault
use Rattle.xf_def_machine.specs.State.{State}
use Rattle.xf_def_machine.specs.Written.{IsFront}
use Rattle.xf_def_sessions.specs.Sessions as history
use Rattle.xf_def_sessions.specs.Runs.{Item, Ran}
use Rattle.xf_def_sessions.specs.Usual.{usual}
use Rattle.xf_session.specs.declared.session.Session.{Session}
use Rattle.xf_session.specs.Keeping.{Keeps, KeepsOne, IsSession, used_in}
use Rattle.xf_session.proofs.Keeps.{rests-keep}
use Rattle.xf_cli_commands.specs.Course.{Course, set_out, event_in, Takes, Lacks, FailsAt}
use Rattle.xf_cli_commands.specs.Kept.{Views, At, course_of, Comes, TakesMore, LeavesEither, LineAnswers, Lacking, Failing}
use Rattle.xf_cli_commands.specs.Stops.{KeepsFront}
use Rattle.xf_cli_commands.proofs.CourseLaws.{behind, fresh, takes-behind, lacks-behind, fails-behind, quiet}
use Rattle.xf_cli_commands.proofs.Moments.{wider, then, at_last, still}

-- calls that follow one another
onto : (a b : Told) (own more : List StoreCall) → Called a b [] more → Called a b own (own ++ more)
onto a b own more h = record { made = h.made; grown = ap (λ calls. own ++ calls) h.grown; calls = h.calls; answers = h.answers }

pub both_called : (a b c : Told) (own more : List StoreCall) → Called a b [] own → Called b c [] more → Called a c [] (own ++ more)
both_called a b c own more h k = called-on a b c [] own (own ++ more) h (onto b c own more k)

-- ---- items

front-nil : (xs : List Item) → IsFront [] xs
front-nil xs = (xs, refl)

front-on : (front xs ys : List Item) → IsFront front xs → IsFront front (xs ++ ys)
front-on front xs ys h = (h.0 ++ ys, ap (λ l. l ++ ys) h.1 ∙ append_assoc front h.0 ys)

front-whole : (xs : List Item) → IsFront xs xs
front-whole xs = ([], sym (append-nil xs))

keeps_longer : (form : List ℕ) (answers : List Answer) (items more next : List Item) (image : Image) → KeepsFront form answers items more image → KeepsFront form answers items (more ++ next) image
keeps_longer form answers items more next image h = (h.0, front-on h.0 more next h.1, h.2)

-- with some items behind, or with more of them
keeps_some : (form : List ℕ) (answers : List Answer) (items some more : List Item) (image : Image) → KeepsOne form answers (items ++ some) ((items ++ some) ++ more) image
    → KeepsFront form answers items (some ++ more) image
keeps_some form answers items some more image (inl h) = (some, (more, refl), h)
keeps_some form answers items some more image (inr h) =
    (some ++ more, front-whole (some ++ more), subst (λ (l : List Item). Keeps form answers l image) (append_assoc items some more) h)

module _ {P D : Type 0} (views : Views P D)
    (counts_now : (disk : D) (t : ℕ) (image : Image) → t ≤ views.moment disk → views.may_leave disk image → views.left_since disk t image)
    (only_now : (disk : D) (image : Image) → views.left_since disk (views.moment disk) image → views.may_leave disk image) where
  abbrev Is : List ℕ → List Answer → List Item → At P D → Type 0
  Is form answers items at = IsSession views.state views.seen views.may_leave form answers items at.0 at.1.1

  abbrev Only : At P D → At P D → (Image → Type 0) → Type 0
  Only old new Q = LeavesOnly views.moment views.left_since old.1.1 new.1.1 Q

  -- what a session of these items comes to with the items of a course
  pub record Stands (form : List ℕ) (answers : List Answer) (items : List Item) (first at : At P D) (c : Course) : Type 0 where
    pub each_moment : Only first at (KeepsFront form answers items (c.items ++ c.in_flight))
    pub left : LeavesAll (views.may_leave at.1.1) (KeepsOne form answers (items ++ c.items) (items ++ (c.items ++ c.in_flight)))
    pub end : history.Session
    pub ran : Ran usual form answers (items ++ c.items) end
    pub state : end.state ≡ c.state

  abbrev pub Gone : At P D → At P D → Course → Type 0
  Gone first at c = (form : List ℕ) (answers : List Answer) (items : List Item) → Is form answers items first → Stands form answers items first at c

  -- a session of items before the lines has taken these more, and no image lacks what it has taken
  abbrev pub HasGone : At P D → At P D → List Item → Type 0
  HasGone first at more =
      (form : List ℕ) (answers : List Answer) (items : List Item) → Is form answers items first
      → Only first at (KeepsFront form answers items more) × Is form answers (items ++ more) at

  pub record Reaches (first at : At P D) (c : Course) : Type 0 where
    pub state : views.state at.0.processor ≡ c.state
    pub used : used_in at.0.journal ≡ c.used
    pub tells : IsTrue (views.tells at.1.1)
    pub called : Called first.1.0 at.1.0 [] c.calls
    pub steady : c.in_flight ≡ []
    pub goes : HasGone first at c.items

  -- the disk failed at the last event
  pub record Breaks (first at : At P D) (c : Course) : Type 0 where
    pub called : Called first.1.0 at.1.0 [] c.calls
    pub gone : Gone first at c

  -- ---- a session at rest

  -- what a crash leaves of it
  keeps-all : (form : List ℕ) (answers : List Answer) (items : List Item) (at : At P D) → Is form answers items at → LeavesAll (views.may_leave at.1.1) (Keeps form answers items)
  keeps-all form answers items at is = rests-keep views.seen views.may_leave form answers items is.0 at.0.journal is.1.log at.1.1 is.1.rest is.1.keeps

  -- where nothing is in flight
  stands-of : (form : List ℕ) (answers : List Answer) (items : List Item) (first at : At P D) (c : Course) → Reaches first at c → Is form answers items first → Stands form answers items first at c
  stands-of form answers items first at c h is =
      let gone = h.goes form answers items is in
      let same : c.items ≡ c.items ++ c.in_flight = sym (ap (λ (l : List Item). c.items ++ l) h.steady ∙ append-nil c.items) in record {
        each_moment = subst (λ (l : List Item). Only first at (KeepsFront form answers items l)) same gone.0;
        left = λ image left. inl (keeps-all form answers (items ++ c.items) at gone.1 image left);
        end = gone.1.0;
        ran = gone.1.1.keeps.start.ran;
        state = sym gone.1.1.same ∙ h.state;
      }

  pub gone : (first at : At P D) (c : Course) → Reaches first at c → Gone first at c
  gone first at c h = λ form answers items is. stands-of form answers items first at c h is

  -- ---- one line more

  same-course : (at : At P D) (c : Course) → views.state at.0.processor ≡ c.state → used_in at.0.journal ≡ c.used → course_of views at.0 ≡ fresh c
  same-course at c s u = ap (λ (t : State). set_out t (used_in at.0.journal)) s ∙ ap (λ n. set_out c.state n) u

  gone-on : (first at next : At P D) (some more : List Item) → IsTrue (views.tells at.1.1) → HasGone first at some → TakesMore views at next more → HasGone first next (some ++ more)
  gone-on first at next some more tells h k = λ form answers items is.
      let before = h form answers items is in
      let after = k tells form answers (items ++ some) before.1 in (
        then views.moment views.left_since first.1.1 at.1.1 next.1.1 (KeepsFront form answers items (some ++ more))
            (wider views.moment views.left_since first.1.1 at.1.1 (KeepsFront form answers items some) (KeepsFront form answers items (some ++ more)) before.0
            (keeps_longer form answers items some more))
            (wider views.moment views.left_since at.1.1 next.1.1 (KeepsOne form answers (items ++ some) ((items ++ some) ++ more)) (KeepsFront form answers items (some ++ more)) after.0
            (keeps_some form answers items some more)),
        subst (λ (l : List Item). Is form answers l next) (append_assoc items some more) after.1,
      )

  told-on : (first last : At P D) → views.tells last.1.1 ≡ views.tells first.1.1 → IsTrue (views.tells first.1.1) → IsTrue (views.tells last.1.1)
  told-on first last e h = e ∙ h

  pub answers-on : (first at next : At P D) (c : Course) (line text : List ℕ) → Reaches first at c → LineAnswers views at line text next
      → (d : Course) × Reaches first next d × Takes c line text d
  answers-on first at next c line text h k =
      let same = same-course at c h.state h.used in
      let takes : Takes (fresh c) line text k.after = subst (λ (x : Course). Takes x line text k.after) same k.takes in (
        behind c k.after,
        record {
          state = sym k.comes.state;
          used = sym (k.comes.used h.tells);
          tells = told-on at next k.comes.tells h.tells;
          called = both_called first.1.0 at.1.0 next.1.0 c.calls k.after.calls h.called k.comes.called;
          steady = quiet c.state c.used line text k.after takes;
          goes = gone-on first at next c.items k.after.items h.tells h.goes k.goes;
        },
        takes-behind c line text k.after h.steady takes,
      )

  no-items : (c d : Course) → Lacks (fresh c) d → d.items ≡ []
  no-items c d h = ap (λ (x : Course). x.items) h.1

  no-flight : (c d : Course) → Lacks (fresh c) d → d.in_flight ≡ []
  no-flight c d h = ap (λ (x : Course). x.in_flight) h.1

  pub lacks-on : (first at next : At P D) (c : Course) (line : List ℕ) → Reaches first at c → Lacking views at next
      → (d : Course) × Reaches first next d × Lacks c d
  lacks-on first at next c line h k =
      let same = same-course at c h.state h.used in
      let lacks : Lacks (fresh c) k.after = subst (λ (x : Course). Lacks x k.after) same k.lacks in
      let more : TakesMore views at next k.after.items = subst (λ (l : List Item). TakesMore views at next l) (sym (no-items c k.after lacks)) k.goes in (
        behind c k.after,
        record {
          state = sym k.comes.state;
          used = sym (k.comes.used h.tells);
          tells = told-on at next k.comes.tells h.tells;
          called = both_called first.1.0 at.1.0 next.1.0 c.calls k.after.calls h.called k.comes.called;
          steady = no-flight c k.after lacks;
          goes = gone-on first at next c.items k.after.items h.tells h.goes more;
        },
        lacks-behind c k.after h.steady lacks,
      )

  fails-items : (c d : Course) (line : List ℕ) → FailsAt (fresh c) (event_in line) d → d.items ≡ []
  fails-items c d line h = by-event (event_in line) h
    where
      by-event : (event : _) → FailsAt (fresh c) event d → d.items ≡ []
      by-event None h = absurd h
      by-event (Some event) h = ap (λ (x : Course). x.items) h.2

  -- an event in flight behind a session at rest
  breaks-of : (form : List ℕ) (answers : List Answer) (items : List Item) (first at next : At P D) (c : Course) (flight : List Item) → Reaches first at c → LeavesEither views at next flight
      → Is form answers items first
      → Only first next (KeepsFront form answers items (c.items ++ flight))
      × LeavesAll (views.may_leave next.1.1) (KeepsOne form answers (items ++ c.items) (items ++ (c.items ++ flight)))
      × ((end : history.Session) × Ran usual form answers (items ++ c.items) end × (end.state ≡ c.state))
  breaks-of form answers items first at next c flight h k is =
      let before = h.goes form answers items is in
      let after = k h.tells form answers (items ++ c.items) before.1 in (
        then views.moment views.left_since first.1.1 at.1.1 next.1.1 (KeepsFront form answers items (c.items ++ flight))
            (wider views.moment views.left_since first.1.1 at.1.1 (KeepsFront form answers items c.items) (KeepsFront form answers items (c.items ++ flight)) before.0
            (keeps_longer form answers items c.items flight))
            (wider views.moment views.left_since at.1.1 next.1.1 (KeepsOne form answers (items ++ c.items) ((items ++ c.items) ++ flight)) (KeepsFront form answers items (c.items ++ flight)) after
            (keeps_some form answers items c.items flight)),
        subst (λ (l : List Item). LeavesAll (views.may_leave next.1.1) (KeepsOne form answers (items ++ c.items) l)) (append_assoc items c.items flight)
            (at_last views.moment views.left_since views.may_leave counts_now at.1.1 next.1.1 (KeepsOne form answers (items ++ c.items) ((items ++ c.items) ++ flight)) after),
        (before.1.0, before.1.1.keeps.start.ran, sym before.1.1.same ∙ h.state),
      )

  breaks-at : (first at next : At P D) (c d : Course) → Reaches first at c → LeavesEither views at next d.in_flight → d.items ≡ c.items → d.state ≡ c.state → Gone first next d
  breaks-at first at next c d h k items-are state-is = λ form answers items is.
      let all = breaks-of form answers items first at next c d.in_flight h k is in record {
        each_moment = subst (λ (l : List Item). Only first next (KeepsFront form answers items (l ++ d.in_flight))) (sym items-are) all.0;
        left = subst (λ (l : List Item). LeavesAll (views.may_leave next.1.1) (KeepsOne form answers (items ++ l) (items ++ (l ++ d.in_flight)))) (sym items-are) all.1;
        end = all.2.0;
        ran = subst (λ (l : List Item). Ran usual form answers (items ++ l) all.2.0) (sym items-are) all.2.1;
        state = all.2.2 ∙ sym state-is;
      }

  fails-state : (c d : Course) (line : List ℕ) → FailsAt (fresh c) (event_in line) d → d.state ≡ c.state
  fails-state c d line h = by-event (event_in line) h
    where
      by-event : (event : _) → FailsAt (fresh c) event d → d.state ≡ c.state
      by-event None h = absurd h
      by-event (Some event) h = ap (λ (x : Course). x.state) h.2

  pub fails-on : (first at next : At P D) (c : Course) (line : List ℕ) → Reaches first at c → Failing views at line next
      → (d : Course) × Breaks first next d × FailsAt c (event_in line) d
  fails-on first at next c line h k =
      let same = same-course at c h.state h.used in
      let fails : FailsAt (fresh c) (event_in line) k.after = subst (λ (x : Course). FailsAt x (event_in line) k.after) same k.fails in
      let items-are = ap (λ (l : List Item). c.items ++ l) (fails-items c k.after line fails) ∙ append-nil c.items in (
        behind c k.after,
        record {
          called = both_called first.1.0 at.1.0 next.1.0 c.calls k.after.calls h.called k.called;
          gone = breaks-at first at next c (behind c k.after) h k.goes items-are (fails-state c k.after line fails);
        },
        fails-behind c line k.after fails,
      )

  -- before any line
  begun-with : (form : List ℕ) (answers : List Answer) (items : List Item) (first : At P D) → Is form answers items first
      → Only first first (KeepsFront form answers items []) × Is form answers (items ++ []) first
  begun-with form answers items first is =
      let same : items ≡ items ++ [] = sym (append-nil items) in (
        still views.moment views.left_since views.may_leave only_now first.1.1 (KeepsFront form answers items [])
            (λ image left. ([], front-nil [], subst (λ (l : List Item). Keeps form answers l image) same (keeps-all form answers items first is image left))),
        subst (λ (l : List Item). Is form answers l first) same is,
      )

  pub set-off : (first : At P D) → IsTrue (views.tells first.1.1) → Reaches first first (course_of views first.0)
  set-off first tells = record {
    state = refl;
    used = refl;
    tells = tells;
    called = called-none first.1.0 [];
    steady = refl;
    goes = λ form answers items is. begun-with form answers items first is;
  }
