-- What a line makes of a session: of one that is kept on a disk, and of one that nothing keeps.
use Rattle.std.specs.Prelude.{ℕ, ◌≡◌, Bool, false, IsSome, IsTrue, List, [], ◌++◌, Option, Some, None}
use Rattle.xf_cli_stream.specs.declared.answering.AnswerFault.{AnswerFault}
use Rattle.xf_cli_stream.specs.declared.answering.AnswerFault.TheVariants as fault
use Rattle.xf_disk.specs.Image.{Image}
use Rattle.xf_disk.specs.Crash.{LeavesOnly}
use Rattle.xf_store.specs.declared.answers.Answer.{Answer}
use Rattle.xf_store.specs.declared.call.StoreCall.{StoreCall}
use Rattle.xf_store.specs.Called.{Called, Told}
use Rattle.xf_journal.specs.declared.journal.Journal.{Journal}
use Rattle.xf_def_machine.specs.State.{State}
use Rattle.xf_def_sessions.specs.Runs.{Item}
use Rattle.xf_session.specs.declared.session.Session.{Session}
use Rattle.xf_session.specs.Keeping.{IsAtDisk, IsSession, KeepsOne, used_in}
use Rattle.xf_cli_commands.specs.Course.{Course, set_out, Takes, Lacks, FailsAt, event_in}
use Rattle.xf_cli_commands.specs.Replies.{IsReply}

-- what is known of who runs the form, and of disks of one kind
pub record Views (P D : Type 0) : Type 1 where
  pub state : P → State
  pub tells : D → Bool
  pub seen : D → Image
  pub may_leave : D → Image → Type 0
  pub moment : D → ℕ
  pub left_since : D → ℕ → Image → Type 0

abbrev pub views_of : {P D : Type 0} → (P → State) → (D → Bool) → (D → Image) → (D → Image → Type 0) → (D → ℕ) → (D → ℕ → Image → Type 0) → Views P D
views_of state tells seen may_leave moment left_since =
    record { state = state; tells = tells; seen = seen; may_leave = may_leave; moment = moment; left_since = left_since }

-- a session, what the store tells, and the disk
abbrev pub At : Type 0 → Type 0 → Type 0
At P D = Session P × (Told × D)

abbrev pub course_of : {P D : Type 0} → Views P D → Session P → Course
course_of views s = set_out (views.state s.processor) (used_in s.journal)

-- between two lines nothing is pending, and where the disk tells the journal in hand is that of the slots
pub record StandsBetween {P D : Type 0} (views : Views P D) (kept : P → Option State) (s : Session P) (disk : D) : Type 0 where
  pub idle : kept s.processor ≡ None
  pub whole : s.is_broken ≡ false
  pub rest : IsTrue (views.tells disk) → IsAtDisk views.seen views.may_leave s disk

-- from one to the other it came so far, with these calls of the store
pub record Comes {P D : Type 0} (views : Views P D) (first last : At P D) (after : Course) : Type 0 where
  pub state : after.state ≡ views.state last.0.processor
  pub called : Called first.1.0 last.1.0 [] after.calls
  pub tells : views.tells last.1.1 ≡ views.tells first.1.1
  pub used : IsTrue (views.tells first.1.1) → after.used ≡ used_in last.0.journal

-- the session of these items takes more; a crash within leaves it with the more or without
abbrev pub TakesMore : {P D : Type 0} → Views P D → At P D → At P D → List Item → Type 0
TakesMore views first last more =
    IsTrue (views.tells first.1.1) → (form : List ℕ) (answers : List Answer) (items : List Item)
    → IsSession views.state views.seen views.may_leave form answers items first.0 first.1.1
    → LeavesOnly views.moment views.left_since first.1.1 last.1.1 (KeepsOne form answers items (items ++ more))
    × IsSession views.state views.seen views.may_leave form answers (items ++ more) last.0 last.1.1

-- a crash leaves it with the event in flight or without
abbrev pub LeavesEither : {P D : Type 0} → Views P D → At P D → At P D → List Item → Type 0
LeavesEither views first last flight =
    IsTrue (views.tells first.1.1) → (form : List ℕ) (answers : List Answer) (items : List Item)
    → IsSession views.state views.seen views.may_leave form answers items first.0 first.1.1
    → LeavesOnly views.moment views.left_since first.1.1 last.1.1 (KeepsOne form answers items (items ++ flight))

-- this is written for the line
pub record LineAnswers {P D : Type 0} (views : Views P D) (first : At P D) (line text : List ℕ) (last : At P D) : Type 0 where
  pub after : Course
  pub takes : Takes (course_of views first.0) line text after
  pub comes : Comes views first last after
  pub goes : TakesMore views first last after.items

-- and where there is no reply
pub record Lacking {P D : Type 0} (views : Views P D) (first last : At P D) : Type 0 where
  pub after : Course
  pub lacks : Lacks (course_of views first.0) after
  pub comes : Comes views first last after
  pub goes : TakesMore views first last []

pub record Failing {P D : Type 0} (views : Views P D) (first : At P D) (line : List ℕ) (last : At P D) : Type 0 where
  pub after : Course
  pub fails : FailsAt (course_of views first.0) (event_in line) after
  pub called : Called first.1.0 last.1.0 [] after.calls
  pub goes : LeavesEither views first last after.in_flight

-- ---- where nothing keeps it

-- the form machine's reply is written for the line
pub record LineTried {P D : Type 0} (views : Views P D) (first : At P D) (line text : List ℕ) (last : At P D) : Type 0 where
  pub replied : IsReply (views.state first.0.processor) line text (views.state last.0.processor) first.1.0 last.1.0
  pub unkept : last.0.journal ≡ None

-- and where there is no reply
pub record TryLacking {P D : Type 0} (views : Views P D) (first last : At P D) : Type 0 where
  pub same : views.state last.0.processor ≡ views.state first.0.processor
  pub made : List StoreCall
  pub called : Called first.1.0 last.1.0 [] made
  pub unkept : last.0.journal ≡ None

-- ---- whatever keeps it

abbrev pub AnswersBy : {P D : Type 0} → Views P D → Option Journal → At P D → List ℕ → List ℕ → At P D → Type 0
AnswersBy views None first line text last = LineTried views first line text last
AnswersBy views (Some journal) first line text last = LineAnswers views first line text last × IsSome last.0.journal

abbrev pub SessionAnswers : {P D : Type 0} → Views P D → At P D → List ℕ → List ℕ → At P D → Type 0
SessionAnswers views first line text last = AnswersBy views first.0.journal first line text last

abbrev pub LeavesBy : {P D : Type 0} → Views P D → Option Journal → AnswerFault → At P D → List ℕ → At P D → Type 0
LeavesBy views None fault.Memory first line last = TryLacking views first last
LeavesBy views None fault.Disk first line last = ⊥
LeavesBy views (Some journal) fault.Memory first line last = Lacking views first last × IsSome last.0.journal
LeavesBy views (Some journal) fault.Disk first line last = Failing views first line last

abbrev pub SessionLeaves : {P D : Type 0} → Views P D → AnswerFault → At P D → List ℕ → At P D → Type 0
SessionLeaves views fault first line last = LeavesBy views first.0.journal fault first line last
