-- A session that is was-opened answers its lines: so a run over the slots goes.
use Rattle.std.proofs.Common.{ℕ, ◌≡◌, ◌≤◌, ◌⊎◌, ◌∙◌, IsTrue, true, false, List, [], ◌++◌, Option, Some, None, refl, ap, sym, subst, inl, inr}
use Rattle.std.specs.Prelude.{IsSome}
use Rattle.xf_journal.specs.declared.journal.Journal.{Journal}
use Rattle.std.specs.declared.option.Option.{Option as Known}
use Rattle.std.specs.Io.KnownBytes.{Appends}
use Rattle.std.proofs.KnownBytes.{Appends-trans}
use Rattle.xf_io.specs.Front.{AppendsFront}
use Rattle.xf_disk.specs.Image.{Image}
use Rattle.xf_disk.specs.Crash.{LeavesOnly}
use Rattle.xf_cli_stream.specs.Answering.{Answered}
use Rattle.xf_cli_stream.specs.Answers as lines
use Rattle.xf_cli_stream.specs.declared.answering.AnswerFault.{AnswerFault}
use Rattle.xf_cli_stream.specs.declared.answering.AnswerFault.TheVariants as fault
use Rattle.xf_cli_stream.specs.declared.lines.Ending.{Ending}
use Rattle.xf_cli_stream.specs.declared.lines.Ending.TheVariants as ending
use Rattle.xf_store.specs.declared.answers.Answer.{Answer}
use Rattle.xf_store.specs.Called.{Called, Told}
use Rattle.xf_def_machine.specs.Program.{Program}
use Rattle.xf_def_sessions.specs.Runs.{Item}
use Rattle.xf_session.specs.declared.session.Session.{Session}
use Rattle.xf_session.specs.Keeping.{KeepsOne, KeepsNoItem, IsSession}
use Rattle.xf_cli_commands.specs.Course.{Course, set_out, Takes, Lacks, FailsAt, event_in}
use Rattle.xf_cli_commands.specs.Device.{Device, Tells, AtFirst, AtEachMoment, device_of}
use Rattle.xf_cli_commands.specs.Kept.{Views, At, course_of, LineAnswers, Lacking, Failing, AnswersBy, LeavesBy, SessionAnswers, SessionLeaves}
use Rattle.xf_cli_commands.specs.Sessions.{Leaves}
use Rattle.xf_cli_commands.specs.Stops.{GoesOn, GoesOnFrom, GoesOnFresh, IsKept, KeepsFront, IsNext}
use Rattle.xf_cli_commands.proofs.Moments.{wider, then}
use Rattle.xf_cli_commands.proofs.Reaching.{Reaches, Breaks, Gone, Stands, gone, answers-on, lacks-on, fails-on, set-off}
use Rattle.xf_cli_commands.proofs.Steps as steps

no-some : {X : Type 0} → false ≡ true → X
no-some e = cc

module _ {P D : Type 0} (views : Views P D) (faults : D → ℕ)
    (counts_now : (disk : D) (t : ℕ) (image : Image) → t ≤ views.moment disk → views.may_leave disk image → views.left_since disk t image)
    (only_now : (disk : D) (image : Image) → views.left_since disk (views.moment disk) image → views.may_leave disk image) where
  -- the disk as the run is given it, and as it leaves it
  abbrev between : D → D → Device
  between old new = device_of views.tells views.seen views.may_leave views.moment views.left_since faults old new

  -- the session in hand once the slots are opened, by what was on the disk
  pub record HasOpened (form : List ℕ) (old : D) (first : At P D) : Type 0 where
    pub on : (answers : List Answer) (items next : List Item) → AtFirst (between old first.1.1) (KeepsOne form answers items next)
        → AtEachMoment (between old first.1.1) (KeepsOne form answers items next)
        × (IsSession views.state views.seen views.may_leave form answers items first.0 first.1.1
        ⊎ IsSession views.state views.seen views.may_leave form answers next first.0 first.1.1)
    pub once : AtFirst (between old first.1.1) (KeepsNoItem form) → AtEachMoment (between old first.1.1) (KeepsNoItem form)
        × ((answers : List Answer) × IsSession views.state views.seen views.may_leave form answers [] first.0 first.1.1)

  abbrev Has : At P D → At P D → Course → Type 0
  Has first last c = Gone views counts_now only_now first last c

  -- ---- what stands on the disk

  goes-on : (form : List ℕ) (old : D) (first last : At P D) (c : Course) (answers : List Answer) (items : List Item) (was : Image → Type 0)
      → AtEachMoment (between old first.1.1) was → Has first last c → IsSession views.state views.seen views.may_leave form answers items first.0 first.1.1
      → GoesOn (between old last.1.1) was form answers items c
  goes-on form old first last c answers items was before h is =
      let s = h form answers items is in
      let more = KeepsFront form answers items (c.items ++ c.in_flight) in
      let either : Image → Type 0 = λ image. was image ⊎ more image in record {
        each_moment = then views.moment views.left_since old first.1.1 last.1.1 either
            (wider views.moment views.left_since old first.1.1 was either before (λ image w. inl w))
            (wider views.moment views.left_since first.1.1 last.1.1 more either s.each_moment (λ image m. inr m));
        left = s.left;
        end = s.end;
        ran = s.ran;
        state = s.state;
      }

  kept-from : (form : List ℕ) (old : D) (first last : At P D) (c : Course) → HasOpened form old first → Has first last c → GoesOnFrom (between old last.1.1) form c
  kept-from form old first last c was-opened h answers items next is-next at-first = from (was-opened.on answers items next at-first)
    where
      from : AtEachMoment (between old first.1.1) (KeepsOne form answers items next)
          × (IsSession views.state views.seen views.may_leave form answers items first.0 first.1.1
          ⊎ IsSession views.state views.seen views.may_leave form answers next first.0 first.1.1)
          → (found : List Item) × ((found ≡ items) ⊎ (found ≡ next)) × GoesOn (between old last.1.1) (KeepsOne form answers items next) form answers found c
      from (before, inl is) = (items, inl refl, goes-on form old first last c answers items (KeepsOne form answers items next) before h is)
      from (before, inr is) = (next, inr refl, goes-on form old first last c answers next (KeepsOne form answers items next) before h is)

  kept-fresh : (form : List ℕ) (old : D) (first last : At P D) (c : Course) → HasOpened form old first → Has first last c → GoesOnFresh (between old last.1.1) form c
  kept-fresh form old first last c was-opened h at-first =
      let o = was-opened.once at-first in (o.1.0, goes-on form old first last c o.1.0 [] (KeepsNoItem form) o.0 h o.1.1)

  kept : (form : List ℕ) (old : D) (first last : At P D) (c : Course) → HasOpened form old first → Has first last c → IsKept (between old last.1.1) form c
  kept form old first last c was-opened h = record { session = kept-from form old first last c was-opened h; fresh = kept-fresh form old first last c was-opened h }

  -- ---- the lines

  abbrev Fine : At P D → At P D → Course → Type 0
  Fine first a c = Reaches views counts_now only_now first a c

  abbrev Failed : At P D → At P D → Course → Type 0
  Failed first a c = Breaks views counts_now only_now first a c

  -- a session that is kept
  kept-answers : (j : Option Journal) (at : At P D) (line text : List ℕ) (next : At P D) → IsSome j → AnswersBy views j at line text next → LineAnswers views at line text next × IsSome next.0.journal
  kept-answers None at line text next is h = no-some is
  kept-answers (Some journal) at line text next is h = h

  kept-lacks : (j : Option Journal) (at : At P D) (line : List ℕ) (next : At P D) → IsSome j → LeavesBy views j fault.Memory at line next → Lacking views at next × IsSome next.0.journal
  kept-lacks None at line next is h = no-some is
  kept-lacks (Some journal) at line next is h = h

  kept-fails : (j : Option Journal) (at : At P D) (line : List ℕ) (next : At P D) → IsSome j → LeavesBy views j fault.Disk at line next → Failing views at line next
  kept-fails None at line next is h = absurd h
  kept-fails (Some journal) at line next is h = h

  -- who answers has a session
  module _ {K : Type 0} (session_of : K → Session P) where
    abbrev seen : K × (Told × D) → At P D
    seen a = (session_of a.0, a.1)

    abbrev answers : lines.Replies (K × (Told × D))
    answers a line text next = SessionAnswers views (seen a) line text (seen next)

    abbrev leaves : lines.Leaves (K × (Told × D))
    leaves f a line next = SessionLeaves views f (seen a) line (seen next)

    -- so far it has come, and it is kept
    abbrev FineKept : At P D → At P D → Course → Type 0
    FineKept first a c = Fine first a c × IsSome a.0.journal

    line-answers : (first : At P D) (a : K × (Told × D)) (c : Course) (line text : List ℕ) (next : K × (Told × D)) → FineKept first (seen a) c → answers a line text next
        → (d : Course) × FineKept first (seen next) d × Takes c line text d
    line-answers first a c line text next h k =
        let w = kept-answers (session_of a.0).journal (seen a) line text (seen next) h.1 k in
        let r = answers-on views counts_now only_now first (seen a) (seen next) c line text h.0 w.0 in (r.0, (r.1, w.1), r.2)

    line-lacks : (first : At P D) (a : K × (Told × D)) (c : Course) (line : List ℕ) (next : K × (Told × D)) → FineKept first (seen a) c → leaves fault.Memory a line next
        → (d : Course) × FineKept first (seen next) d × Leaves fault.Memory c line d
    line-lacks first a c line next h k =
        let w = kept-lacks (session_of a.0).journal (seen a) line (seen next) h.1 k in
        let r = lacks-on views counts_now only_now first (seen a) (seen next) c line h.0 w.0 in (r.0, (r.1, w.1), r.2)

    line-fails : (first : At P D) (a : K × (Told × D)) (c : Course) (line : List ℕ) (next : K × (Told × D)) → FineKept first (seen a) c → leaves fault.Disk a line next
        → (d : Course) × Failed first (seen next) d × Leaves fault.Disk c line d
    line-fails first a c line next h k = fails-on views counts_now only_now first (seen a) (seen next) c line h.0 (kept-fails (session_of a.0).journal (seen a) line (seen next) h.1 k)

    abbrev Ended : Ending → At P D → K × (Told × D) → Course → Type 0
    Ended e first a c = steps.Ends answers leaves Takes Leaves (λ a c. FineKept first (seen a) c) (λ a c. Failed first (seen a) c) (line-answers first) (line-lacks first) (line-fails first) e a c

    ended : (e : Ending) (first : At P D) (last : K × (Told × D)) (c : Course) → Ended e first last c → Called first.1.0 last.1.0 [] c.calls × Has first (seen last) c
    ended ending.Done first last c h = (h.0.called, gone views counts_now only_now first (seen last) c h.0)
    ended ending.ReadFault first last c h = (h.0.called, gone views counts_now only_now first (seen last) c h.0)
    ended ending.SinkFault first last c h = (h.0.called, gone views counts_now only_now first (seen last) c h.0)
    ended ending.TooMuch first last c h = (h.0.called, gone views counts_now only_now first (seen last) c h.0)
    ended ending.DiskFault first last c h = (h.called, h.gone)
    ended ending.Memory first last c h = (h.0.called, gone views counts_now only_now first (seen last) c h.0)

    -- all of them
    pub record Went (form : List ℕ) (old : D) (first last : K × (Told × D)) (e : Ending) (events left text : List ℕ) : Type 0 where
      pub end : Course
      pub replied : lines.Answers Takes Leaves e (course_of views (session_of first.0)) events left text end
      pub called : Called first.1.0 last.1.0 [] end.calls
      pub is_kept : IsKept (between old last.1.1) form end

    pub went : (form : List ℕ) (old : D) (first last : K × (Told × D)) (e : Ending) (events left text : List ℕ) → HasOpened form old (seen first) → IsSome (session_of first.0).journal → IsTrue (views.tells first.1.1)
        → lines.Answers answers leaves e first events left text last → Went form old first last e events left text
    went form old first last e events left text was-opened is-kept tells h =
        let start = course_of views (session_of first.0) in
        let begun = set-off views counts_now only_now (seen first) tells in
        let r = steps.answers answers leaves Takes Leaves (λ a c. FineKept (seen first) (seen a) c) (λ a c. Failed (seen first) (seen a) c)
        (line-answers (seen first)) (line-lacks (seen first)) (line-fails (seen first)) e first start events left text last (begun, is-kept) h in
        let told = ended e (seen first) last r.0 r.1 in
        record { end = r.0; replied = r.2; called = told.0; is_kept = kept form old (seen first) (seen last) r.0 was-opened told.1 }

  -- the sink failed before any line
  pub not_gone : (form : List ℕ) (old : D) (first : At P D) → HasOpened form old first → IsTrue (views.tells first.1.1) → IsKept (between old first.1.1) form (course_of views first.0)
  not_gone form old first was-opened tells =
      kept form old first first (course_of views first.0) was-opened (gone views counts_now only_now first first (course_of views first.0) (set-off views counts_now only_now first tells))
