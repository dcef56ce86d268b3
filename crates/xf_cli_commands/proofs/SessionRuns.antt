-- A run over the slots, from the opening to the end of its lines.
use Rattle.std.proofs.Common.{ℕ, ◌≡◌, ◌≤◌, ◌⊎◌, ◌∙◌, IsTrue, Bool, List, [], ◌++◌, Some, None, refl, ap, sym, subst, inl, inr}
use Rattle.std.specs.declared.option.Option.{Option as Known}
use Rattle.std.specs.Io.KnownBytes.{Appends}
use Rattle.std.proofs.KnownBytes.{Appends-trans}
use Rattle.xf_disk.specs.Image.{Image}
use Rattle.xf_io.specs.Front.{AppendsFront}
use Rattle.xf_cli_stream.specs.Answering.{Answered}
use Rattle.xf_cli_stream.specs.Answers as lines
use Rattle.xf_cli_stream.specs.declared.lines.Ending.{Ending}
use Rattle.xf_cli_stream.specs.declared.lines.Ending.TheVariants as ending
use Rattle.xf_store.specs.Called.{Called, Told}
use Rattle.xf_def_machine.specs.Program.{Program}
use Rattle.xf_session.specs.declared.session.Session.{Session}
use Rattle.xf_def_machine.specs.State.{State}
use Rattle.xf_session.specs.Keeping.{used_in}
use Rattle.xf_cli_commands.specs.declared.line_session.LineSession.{LineSession}
use Rattle.xf_cli_commands.specs.Course.{Course, set_out}
use Rattle.xf_cli_commands.specs.Device.{Device, Tells, IsUnused, device_of, first_image}
use Rattle.xf_cli_commands.specs.Finish.{AnswersBehind, Objects, RunsAndAnswers}
use Rattle.xf_cli_commands.specs.Kept.{Views, SessionAnswers, SessionLeaves, views_of}
use Rattle.xf_cli_commands.specs.Opening.{IsOpen}
use Rattle.xf_cli_commands.specs.Outside.{Object, IsUntouched, stored_of}
use Rattle.xf_cli_commands.specs.Sessions.{AnswersSo, AnswersTold, Begins, Goes, RunsOver}
use Rattle.xf_cli_commands.specs.Stops.{IsKept}
use Rattle.xf_cli_commands.proofs.RunLaws as runs
use Rattle.xf_cli_commands.proofs.RunLaws.{HasOpened}

module _ {P D : Type 0} (state : P → State) (tells : D → Bool) (seen : D → Image) (may_leave : D → Image → Type 0) (moment : D → ℕ) (left_since : D → ℕ → Image → Type 0) (faults : D → ℕ)
    (counts_now : (disk : D) (t : ℕ) (image : Image) → t ≤ moment disk → may_leave disk image → left_since disk t image)
    (only_now : (disk : D) (image : Image) → left_since disk (moment disk) image → may_leave disk image) where
  abbrev views : Views P D
  views = views_of state tells seen may_leave moment left_since

  abbrev device : D → D → Device
  device old new = device_of tells seen may_leave moment left_since faults old new

  abbrev session_of : LineSession P → Session P
  session_of k = k.session

  abbrev answers : lines.Replies (LineSession P × (Told × D))
  answers first line text last = SessionAnswers views (first.0.session, first.1) line text (last.0.session, last.1)

  abbrev leaves : lines.Leaves (LineSession P × (Told × D))
  leaves f first line last = SessionLeaves views f (first.0.session, first.1) line (last.0.session, last.1)

  -- what opening left
  has-opened : (form : List ℕ) (program : Program) (k : LineSession P) (notes : List ℕ) (t0 t1 : Told) (old mid : D) → IsOpen state form program (device old mid) (stored_of t0 t1) k.session notes
      → HasOpened views faults counts_now only_now form old (k.session, (t1, mid))
  has-opened form program k notes t0 t1 old mid h = record { on = λ answers items next at-first. h.ready.on answers items next at-first; once = λ at-first. h.ready.once at-first }

  abbrev first-of : LineSession P → Course
  first-of k = set_out (state k.session.processor) (used_in k.session.journal)

  goes-told : (form : List ℕ) (program : Program) (k last : LineSession P) (notes text : List ℕ) (e : Ending) (t0 t1 t2 : Told) (old mid new : D) (before after : Known (List ℕ))
      → IsOpen state form program (device old mid) (stored_of t0 t1) k.session notes → IsTrue (tells old) → lines.AnswersKnown answers leaves e (k, (t1, mid)) before after text (last, (t2, new))
      → AnswersTold notes e (first-of k) t1 t2 before after (notes ++ text) form (device old new)
  goes-told form program k last notes text e t0 t1 t2 old mid new None after h told known = (text, refl)
  goes-told form program k last notes text e t0 t1 t2 old mid new (Some events) None h told known = absurd known
  goes-told form program k last notes text e t0 t1 t2 old mid new (Some events) (Some left) h told known =
      let w = runs.went views faults counts_now only_now session_of form old (k, (t1, mid)) (last, (t2, new)) e events left text
      (has-opened form program k notes t0 t1 old mid h) h.kept (h.ready.tells ∙ told) known in
      record { text = text; wrote = refl; last = w.end; answers = w.replied; called = w.called; kept = w.is_kept }

  abbrev given : Object → Object → Told → Told → D → D → Objects
  given events out t0 t2 old new = record { events = events; out = out; store = stored_of t0 t2; disk = device old new }

  pub runs_so : (form : List ℕ) (program : Program) (k : LineSession P) (notes seen_notes : List ℕ) (e : Ending) (t0 t1 t2 : Told) (old mid new : D) (events out : Object)
      → (IsTrue (tells old) → IsOpen state form program (device old mid) (stored_of t0 t1) k.session notes) → seen_notes ≡ notes
      → AnswersBehind answers leaves seen_notes e (k, (t1, mid)) (t2, new) events out → RunsAndAnswers form program e (given events out t0 t2 old new)
  runs_so form program k notes seen_notes e t0 t1 t2 old mid new events out h same (inl b) = (
    notes ++ b.3.0,
    subst (λ (n : List ℕ). Appends out.before out.after (n ++ b.3.0)) same (Appends-trans out.before b.1 out.after seen_notes b.3.0 b.2 b.3.2),
    λ told. record {
      first = first-of k;
      told = t1;
      notes = notes;
      begins = (h told).begins;
      goes = inl (goes-told form program k b.0 notes b.3.0 e t0 t1 t2 old mid new events.before events.after (h told) told b.3.1);
    },
  )
  runs_so form program k notes seen_notes e t0 t1 t2 old mid new events out h same (inr b) = (
    b.2.0,
    b.2.3,
    λ told. record {
      first = first-of k;
      told = t1;
      notes = notes;
      begins = (h told).begins;
      goes = inr (record {
        ends = b.0;
        unread = b.1;
        front = (b.2.1, sym same ∙ b.2.2);
        uncalled = ap (λ (x : Told × D). x.0) b.3;
        kept = subst (λ (d : D). IsKept (device old d) form (first-of k)) (sym (ap (λ (x : Told × D). x.1) b.3))
            (runs.not_gone views faults counts_now only_now form old (k.session, (t1, mid)) (has-opened form program k notes t0 t1 old mid (h told)) ((h told).ready.tells ∙ told));
      });
    },
  )
