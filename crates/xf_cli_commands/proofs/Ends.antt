-- How a whole run ends.
use Rattle.std.proofs.Common.{◌≡◌, ◌⊎◌, ℕ, List, [], ◌++◌, string_bytes, None, Result, Ok, Err, Contains, refl, ap, sym, ◌∙◌, subst, inl, inr}
use Rattle.std.specs.declared.option.Option.{Option}
use Rattle.std.specs.Io.KnownBytes.{Appends}
use Rattle.std.proofs.KnownBytes.{Appends-nil, Appends-trans}
use Rattle.std.specs.Prelude.{String}
use Rattle.std.specs.declared.alloc.Global.{Global}
use Rattle.xf_base.specs.Faults.{Rose}
use Rattle.xf_io.specs.Front.{AppendsFront}
use Rattle.xf_cli_stream.specs.Answering.{Answered}
use Rattle.xf_cli_stream.specs.declared.lines.Ending.{Ending}
use Rattle.xf_cli_stream.specs.declared.lines.Ending.TheVariants as ending
use Rattle.xf_cli_stream.specs.Out.{IsSteady}
use Rattle.xf_form.specs.declared.fault.FormFault.TheVariants as fault
use Rattle.xf_form.specs.declared.loaded.Loaded.{Loaded}
use Rattle.xf_form.specs.Loading.{loaded_in}
use Rattle.xf_def_sessions.specs.Usual.{loaded_program}
use Rattle.xf_session.specs.Beginning.{IsBuilt}
use Rattle.xf_store.specs.declared.answers.Answer.{Answer}
use Rattle.xf_store.specs.Called.{Called, Told}
use Rattle.xf_store.proofs.CalledLaws.{called-none}
use Rattle.xf_def_machine.specs.Program.{Program}
use Rattle.xf_def_machine.specs.State.{State}
use Rattle.xf_def_machine.specs.Refusal.{Refused}
use Rattle.xf_def_machine.specs.Flow.{◌>>=◌}
use Rattle.xf_def_machine.specs.Construct.{construct}
use Rattle.xf_def_machine.specs.FormReplies.{construct_texts}
use Rattle.xf_def_machine.specs.Start.{start, readied}
use Rattle.xf_def_machine.specs.Step.{Posted, Outcome, outcome, at_end}
use Rattle.xf_def_machine.specs.Replies.{answers_in, note_lines}
use Rattle.xf_def_form.specs.Formed.{program_in, profile}
use Rattle.xf_session.specs.Processing.{started, IsAccepted}
use Rattle.xf_session.specs.Constructing.{Constructs}
use Rattle.xf_session.specs.declared.forms.FormFault.{FormFault}
use Rattle.xf_session.specs.declared.forms.FormFault.TheVariants as forms
use Rattle.xf_cli_commands.specs.declared.form.Reading.TheVariants as reading
use Rattle.xf_cli_commands.specs.declared.status.Command.{Command}
use Rattle.xf_cli_commands.specs.declared.status.Command.TheVariants.{Run, Try, Show, Check}
use Rattle.xf_cli_commands.specs.declared.status.SessionFault.{SessionFault}
use Rattle.xf_cli_commands.specs.declared.status.Status.{Status}
use Rattle.xf_cli_commands.specs.declared.status.Status.TheVariants as status
use Rattle.xf_cli_commands.specs.Device.{Device, Tells, IsUnused, IsLookedAt, HasFailed}
use Rattle.xf_cli_commands.specs.Outside.{Object, Outside, Stored, HasRisen, IsCalled, IsFormRead, IsUncalled, IsUntouched}
use Rattle.xf_cli_commands.specs.Answered.{AnswersTold, AnswersUpTo}
use Rattle.xf_cli_commands.specs.Forms.{Give, RefusesStart, RefusesProgram, RefusesBytes, IsAcceptable, FromForm, RefusesWith, StartsSo, IsStartRefused}
use Rattle.xf_cli_commands.specs.Sessions.{WithForm, RunsOver, Opening, IsShown, IsWhy}
use Rattle.xf_cli_commands.specs.Statuses.{Spells, AppendsLine, status_line, refusal_line}
use Rattle.xf_cli_commands.specs.Stops.{IsAsBefore}
use Rattle.xf_cli_commands.specs.Written.{CallsFor, Spares, FailsSo, HasCauseIn, Writes, Ends}
use Rattle.xf_cli_commands.specs.Kept.{Views, SessionAnswers, SessionLeaves, StandsBetween}
use Rattle.xf_cli_commands.specs.Opening.{IsAlone}
use Rattle.xf_session.specs.declared.session.Session.{Session}
use Rattle.xf_session.specs.Keeping.{Rests}
use Rattle.xf_journal.specs.declared.journal.Journal.{Journal}
use Rattle.xf_disk.specs.Image.{Image}
use Rattle.xf_cli_commands.specs.declared.line_session.LineSession.{LineSession}
use Rattle.xf_cli_commands.specs.Finish.{GivesForm, GivesReading, IsLineOf, IsSteadyAt, Finishes, Runs, Objects, IsIdle, IsQuietly, AnswersBehind, AnsweredBehind, StartedAndAnswered, TriesForm, RunsSession, ShowsSession, Shows, IsShownBy, IsConstructed, FailsLoaded, RunsLoaded, RunsBytes, IsLoaded, IsNotLoaded, IsOutOfRoom}
use Rattle.xf_cli_commands.proofs.FormBytes.{gives, gives_form}
use Rattle.xf_cli_commands.proofs.ReplyLaws.{construct_refused}
use Rattle.xf_cli_commands.proofs.Replied.{told_so}
use Rattle.xf_cli_commands.proofs.TryRuns.{tried-known}

-- ---- a form that is constructed, and started

start-same : (program : Program) (s : State) (answers : List Answer) → construct profile program ≡ Ok s → start profile program answers ≡ started s answers
start-same program s answers e =
    ap (λ (r : Result State Refused). outcome (at_end profile) (r >>= readied profile answers)) e

starts-same : (program : Program) (s : State) (before : Told) (first : State × Told) (posted : Posted) → construct profile program ≡ Ok s
    → StartsSo (started s) before first posted → StartsSo (start profile program) before first posted
starts-same program s before first posted e h = record {
  made = h.made;
  called = h.called;
  is = subst (λ o. IsAccepted o first.0 h.made posted) (sym (start-same program s (answers_in h.made) e)) h.is;
}

refused-same : (program : Program) (s : State) (store : Stored) (line : List ℕ) → construct profile program ≡ Ok s → IsStartRefused (started s) store line
    → IsStartRefused (start profile program) store line
refused-same program s store line e h = record {
  made = h.made;
  called = h.called;
  refused = subst (λ o. RefusesWith o h.made line) (sym (start-same program s (answers_in h.made) e)) h.refused;
}

-- no call of the store was made
pub uncalled_so : (store : Stored) → IsUncalled store → IsCalled store
uncalled_so store h = ([], subst (λ (t : Told). Called store.before t [] []) (sym h) (called-none store.before []))

-- without slots
tried : (l : Loaded) (bytes : List ℕ) (c : State) (s : Status) (o : Objects) → IsUnused o.disk → construct profile (program_in l) ≡ Ok c
    → TriesForm c o.events o.out o.store s → RunsLoaded Try l bytes o s
tried l bytes c (status.Refused line) o unused e h =
    (h.0, inr (subst (λ r. RefusesStart r (start profile (program_in l)) o.store (string_bytes line)) (sym e) (refused-same (program_in l) c o.store (string_bytes line) e h.1)), unused)
tried l bytes c status.NoRoom o unused e h = (h.0, h.1, unused)
tried l bytes c (status.Answered ending) o unused e h =
    inl (refl, (h.0.0, h.0.1, starts-same (program_in l) c o.store.before h.0.0 h.0.1 e h.0.2, h.0.3), unused, h.1)
tried l bytes c status.Checked o unused e h = absurd h
tried l bytes c status.Usage o unused e h = absurd h
tried l bytes c status.Unread o unused e h = absurd h
tried l bytes c status.DiskFailed o unused e h = absurd h
tried l bytes c (status.NotOpened line) o unused e h = absurd h
tried l bytes c status.Shown o unused e h = absurd h
tried l bytes c status.NotShown o unused e h = absurd h

pub tried_by : (command : Command) (l : Loaded) (bytes : List ℕ) (c : State) (s : Status) (o : Objects) → command ≡ Try → IsUnused o.disk
    → construct profile (program_in l) ≡ Ok c → TriesForm c o.events o.out o.store s → RunsLoaded command l bytes o s
tried_by command l bytes c s o is unused e h = subst (λ k. RunsLoaded k l bytes o s) (sym is) (tried l bytes c s o unused e h)

-- over the slots
ran : (l : Loaded) (bytes : List ℕ) (c : State) (s : Status) (o : Objects) → construct profile (program_in l) ≡ Ok c → RunsSession bytes (program_in l) o s → RunsLoaded Run l bytes o s
ran l bytes c (status.Refused line) o e h =
    (h.0, inr (subst (λ r. RefusesStart r (start profile (program_in l)) o.store (string_bytes line)) (sym e) h.1, h.2), h.3)
ran l bytes c status.NoRoom o e h = (h.0, h.1, h.2)
ran l bytes c status.DiskFailed o e h = (h.0, h.1, (h.2, (c, e), h.3))
ran l bytes c (status.NotOpened line) o e h = (h.0, h.1, (c, e), h.2, h.3)
ran l bytes c (status.Answered ending) o e h = inr (refl, (c, e), h)
ran l bytes c status.Checked o e h = absurd h
ran l bytes c status.Usage o e h = absurd h
ran l bytes c status.Unread o e h = absurd h
ran l bytes c status.Shown o e h = absurd h
ran l bytes c status.NotShown o e h = absurd h

pub ran_by : (command : Command) (l : Loaded) (bytes : List ℕ) (c : State) (s : Status) (o : Objects) → command ≡ Run → construct profile (program_in l) ≡ Ok c
    → RunsSession bytes (program_in l) o s → RunsLoaded command l bytes o s
ran_by command l bytes c s o is e h = subst (λ k. RunsLoaded k l bytes o s) (sym is) (ran l bytes c s o e h)

-- a state that is written, or a front of it
pub shows_by : (form : List ℕ) (program : Program) (disk : Device) (out : Object) (text : List ℕ) (s : Status) → IsShownBy text out s → (Tells disk → Opening disk (IsShown text) form program)
    → IsLookedAt disk → ShowsSession form program disk out s
shows_by form program disk out text status.Shown h opens looks = ((text, opens, h), looks)
shows_by form program disk out text status.NotShown h opens looks = ((text, opens, h), looks)
shows_by form program disk out text status.NoRoom h opens looks = (h, looks)
shows_by form program disk out text status.DiskFailed h opens looks = absurd h
shows_by form program disk out text (status.NotOpened line) h opens looks = absurd h
shows_by form program disk out text (status.Refused line) h opens looks = absurd h
shows_by form program disk out text (status.Answered e) h opens looks = absurd h
shows_by form program disk out text status.Checked h opens looks = absurd h
shows_by form program disk out text status.Usage h opens looks = absurd h
shows_by form program disk out text status.Unread h opens looks = absurd h

-- a run over the slots shows nothing, and one that shows answers no line
pub not_shown : {X : Type 0} (form : List ℕ) (program : Program) (o : Objects) (s : Status) → RunsSession form program o s → s ≡ status.NotShown → X
not_shown form program o s h e = absurd (subst (λ x. RunsSession form program o x) e h)

pub not_answered : {X : Type 0} (form : List ℕ) (program : Program) (disk : Device) (out : Object) (s : Status) (e : Ending) → ShowsSession form program disk out s → s ≡ status.Answered e → X
not_answered form program disk out s e h is = absurd (subst (λ x. ShowsSession form program disk out x) is h)

-- the state alone
shown : (l : Loaded) (bytes : List ℕ) (c : State) (s : Status) (o : Objects) → construct profile (program_in l) ≡ Ok c → IsUntouched o.events → IsUncalled o.store
    → ShowsSession bytes (program_in l) o.disk o.out s → RunsLoaded Show l bytes o s
shown l bytes c status.NoRoom o e unread uncalled h = (record { unread = unread; unwritten = h.0 }, uncalled, h.1)
shown l bytes c status.DiskFailed o e unread uncalled h = (record { unread = unread; unwritten = h.0 }, uncalled, (h.1, h.2))
shown l bytes c (status.NotOpened line) o e unread uncalled h = (record { unread = unread; unwritten = h.0 }, h.1, (c, e), uncalled, h.2)
shown l bytes c status.Shown o e unread uncalled h = (refl, (c, e), h, unread, uncalled)
shown l bytes c status.NotShown o e unread uncalled h = (refl, (c, e), h, unread, uncalled)
shown l bytes c (status.Refused line) o e unread uncalled h = absurd h
shown l bytes c (status.Answered ending) o e unread uncalled h = absurd h
shown l bytes c status.Checked o e unread uncalled h = absurd h
shown l bytes c status.Usage o e unread uncalled h = absurd h
shown l bytes c status.Unread o e unread uncalled h = absurd h

pub shown_by : (command : Command) (l : Loaded) (bytes : List ℕ) (c : State) (s : Status) (o : Objects) → command ≡ Show → construct profile (program_in l) ≡ Ok c
    → IsUntouched o.events → IsUncalled o.store → ShowsSession bytes (program_in l) o.disk o.out s → RunsLoaded command l bytes o s
shown_by command l bytes c s o is e unread uncalled h = subst (λ k. RunsLoaded k l bytes o s) (sym is) (shown l bytes c s o e unread uncalled h)

-- the form is what the bytes give, and constructed
pub built_of : (bytes : List ℕ) (l : Loaded) (s : State) → loaded_in bytes ≡ Ok l → construct profile (program_in l) ≡ Ok s → IsBuilt bytes (program_in l) s
built_of bytes l s e built = record { form = ap loaded_program e; built = built }

-- nothing of the slots was looked at
spared : (command : Command) (disk : Device) → IsUnused disk → IsLookedAt disk → Spares command disk
spared Run disk unused looks = looks
spared Try disk unused looks = unused
spared Show disk unused looks = looks
spared Check disk unused looks = unused

-- no call of the store
calls-for : (command : Command) (store : Stored) → IsUncalled store → CallsFor command store
calls-for Run store h = uncalled_so store h
calls-for Try store h = uncalled_so store h
calls-for Show store h = h
calls-for Check store h = h

quiet-of : (o : Objects) → IsIdle o → IsQuietly o.events o.out
quiet-of o idle = record { unread = idle.unread; unwritten = idle.unwritten.bytes }

refused_by : (command : Command) (l : Loaded) (bytes : List ℕ) (store : Stored) (disk : Device) (line : List ℕ) → Contains (construct_texts (construct profile (program_in l))) line
    → IsUncalled store → RefusesProgram command bytes (program_in l) store disk line
refused_by Run l bytes store disk line h k = inl (h, k)
refused_by Try l bytes store disk line h k = inl (h, k)
refused_by Show l bytes store disk line h k = (h, k)
refused_by Check l bytes store disk line h k = (h, k)

-- the construction of the form that the bytes give is refused
not-built : (line : String Global) (command : Command) (l : Loaded) (bytes : List ℕ) (o : Objects) → Contains (construct_texts (construct profile (program_in l))) (string_bytes line) → IsIdle o
    → RunsLoaded command l bytes o (status.Refused line)
not-built line command l bytes o h idle = (quiet-of o idle, refused_by command l bytes o.store o.disk (string_bytes line) h idle.uncalled, spared command o.disk idle.unused idle.looks)

-- no form is made of the bytes
pub runs_not_made : (line : String Global) (command : Command) (bytes : List ℕ) (o : Objects) (f : FormFault) {C : Type 0} (first : C → State) → Constructs first bytes (Err f)
    → IsLineOf f (string_bytes line) → IsIdle o → RunsBytes command bytes o (status.Refused line)
runs_not_made line command bytes o (forms.NotForm number place) first h is idle =
    inr (inl (record { number = number; place = place; given = h; line = line; is = refl; told = is; idle = idle }))
runs_not_made line command bytes o (forms.Refused why) first h is idle =
    inl (record {
      l = h.0;
      given = h.1;
      runs = not-built line command h.0 bytes o (construct_refused why (construct profile (program_in h.0)) (string_bytes line) h.2 is) idle;
    })
runs_not_made line command bytes o forms.Memory first h is idle = absurd is

pub runs_no_room : (command : Command) (bytes : List ℕ) (o : Objects) → IsIdle o → RunsBytes command bytes o status.NoRoom
runs_no_room command bytes o idle = inr (inr (record { is = refl; idle = idle }))

-- the bytes give a form that is constructed
pub runs_built : (s : Status) (command : Command) (bytes : List ℕ) (o : Objects) {C : Type 0} (first : C → State) (c : C) → Constructs first bytes (Ok c)
    → ((l : Loaded) → loaded_in bytes ≡ Ok l → construct profile (program_in l) ≡ Ok (first c) → RunsLoaded command l bytes o s) → RunsBytes command bytes o s
runs_built s command bytes o first c h runs = inl (record { l = h.0; given = h.1; runs = runs h.0 h.1 h.2 })

-- ---- the run over a form

-- how the lines ended, where they were answered
abbrev pub ending_or : Ending → Status → Ending
ending_or other (status.Answered e) = e
ending_or other status.Usage = other
ending_or other (status.Refused line) = other
ending_or other status.Checked = other
ending_or other status.Unread = other
ending_or other status.DiskFailed = other
ending_or other (status.NotOpened line) = other
ending_or other status.Shown = other
ending_or other status.NotShown = other
ending_or other status.NoRoom = other

-- the notes were written, and then the answers to the lines; or the sink failed at the notes
pub behind : {P D : Type 0} (views : Views P D) (notes : List ℕ) (e : Ending) (k : LineSession P) (told later : Told) (old new : D) (events out : Object) → k.session.journal ≡ None
    → AnswersBehind (λ a line text b. SessionAnswers views (a.0.session, a.1) line text (b.0.session, b.1)) (λ f a line b. SessionLeaves views f (a.0.session, a.1) line (b.0.session, b.1)) notes e (k, (told, old)) (later, new) events out
    → AnsweredBehind notes e (views.state k.session.processor, told) later events out
behind {P} {D} views notes e k told later old new events out unkept (inl h) =
    let t = tried-known views e (k, (told, old)) (h.0, (later, new)) events.before events.after h.3.0 unkept h.3.1 in (
      notes ++ h.3.0,
      inl (subst (λ x. AnswersTold notes e (views.state k.session.processor, told) x events.before events.after (notes ++ h.3.0)) t.1
          (told_so notes e (views.state k.session.processor, told) t.0 events.before events.after h.3.0 t.2)),
      Appends-trans out.before h.1 out.after notes h.3.0 h.2 h.3.2,
    )
behind {P} {D} views notes e k told later old new events out unkept (inr h) = (h.2.0, inr (h.0, h.1, (h.2.1, h.2.2), ap (λ (x : Told × D). x.0) h.3), h.2.3)

-- of a start that is accepted
pub answered_so : (given : List Answer → Outcome) (s : State) (mid : Told) (store : Stored) (notes text : List ℕ) (e : Ending) (events out : Object)
    → ((posted : Posted) × StartsSo given store.before (s, mid) posted × (text ≡ note_lines posted.notes)) → notes ≡ text
    → AnsweredBehind notes e (s, mid) store.after events out → StartedAndAnswered given e events out store
answered_so given s mid store notes text e events out h is k =
    ((s, mid), h.0, h.1, subst (λ n. AnsweredBehind n e (s, mid) store.after events out) (is ∙ h.2) k)

from_form : (form : Option (List ℕ)) (l : Loaded) (before : Told) (first : State × Told) (posted : Posted) (holds : List ℕ → State × Told → Type 0) → Give form (Ok l)
    → StartsSo (start profile (program_in l)) before first posted → holds (note_lines posted.notes) first → FromForm form before holds
from_form form l before first posted holds is a h = (l, first, posted, is, a, h)

-- the bytes that were read give the form
abbrev given : (form : Option (List ℕ)) (l : Loaded) (bytes : List ℕ) → GivesForm form l bytes → Give form (Ok l)
given form l bytes h = record { bytes = bytes; of = h.0; give = h.1 }

with_form : (form : Option (List ℕ)) (l : Loaded) (bytes : List ℕ) (disk : Device) (holds : List ℕ → Program → Type 0) → GivesForm form l bytes → IsConstructed l
    → (Tells disk → holds bytes (program_in l)) → WithForm form disk holds
with_form form l bytes disk holds is built h = (l, built.0, given form l bytes is, built.1, h)

fails : (command : Command) (form : Option (List ℕ)) (l : Loaded) (bytes : List ℕ) (disk : Device) → GivesForm form l bytes → FailsLoaded command l bytes disk → FailsSo command form disk
fails Run form l bytes disk is h = (h.0, with_form form l bytes disk (λ b program. IsAsBefore disk b) is h.1 h.2)
fails Try form l bytes disk is h = absurd h
fails Show form l bytes disk is h = h
fails Check form l bytes disk is h = absurd h

cause_of : (e : Ending) (outside : Outside) → (status.Answered e ≡ status.Answered ending.ReadFault → HasRisen outside.events)
    → (status.Answered e ≡ status.Answered ending.SinkFault → HasRisen outside.out) → (status.Answered e ≡ status.Answered ending.DiskFault → HasFailed outside.disk)
    → IsSteady e outside.out.first_faults outside.out.faults → HasCauseIn e outside outside.out.faults
cause_of ending.Done outside read written kept steady = steady
cause_of ending.ReadFault outside read written kept steady = (read refl, steady)
cause_of ending.SinkFault outside read written kept steady = written refl
cause_of ending.DiskFault outside read written kept steady = (kept refl, steady)
cause_of ending.TooMuch outside read written kept steady = steady
cause_of ending.Memory outside read written kept steady = steady

unwritten : (out : Object) → out.after ≡ out.before → Appends out.before out.after []
unwritten out e = subst (λ x. Appends out.before x []) (sym e) (Appends-nil out.before)

spells-as : (words : List (List ℕ)) (command other : Command) → Spells words command → command ≡ other → Spells words other
spells-as words command other h e = subst (λ c. Spells words c) e h

-- what the run is given beside the words and the form
abbrev objects : Outside → Objects
objects outside = record { events = outside.events; out = outside.out; store = outside.store; disk = outside.disk }

runs_loaded : (s : Status) (command : Command) (l : Loaded) (bytes : List ℕ) (outside : Outside) → Spells outside.words command → IsFormRead outside → GivesForm outside.form.before l bytes
    → RunsLoaded command l bytes (objects outside) s
    → (s ≡ status.Answered ending.ReadFault → HasRisen outside.events) → (s ≡ status.Answered ending.SinkFault → HasRisen outside.out)
    → (s ≡ status.NotShown → HasRisen outside.out) → (s ≡ status.Answered ending.DiskFault → HasFailed outside.disk)
    → IsSteadyAt s outside.out.first_faults outside.out.faults → Runs s outside
runs_loaded (status.Answered e) command l bytes outside spells taken is (inl h) read written unshown kept steady =
    let form = from_form outside.form.before l outside.store.before h.1.0 h.1.1 (λ notes first. AnswersUpTo notes e first outside.store.after outside.events h.1.3.0) (given outside.form.before l bytes is) h.1.2 h.1.3.1 in
    (h.1.3.0, (taken, inl (spells-as outside.words command Try spells h.0, form, h.2, h.3), cause_of e outside read written kept steady), h.1.3.2)
runs_loaded (status.Answered e) command l bytes outside spells taken is (inr h) read written unshown kept steady =
    (h.2.0, (taken, inr (spells-as outside.words command Run spells h.0, with_form outside.form.before l bytes outside.disk (λ form program. RunsOver form program e outside.events outside.store outside.disk h.2.0) is h.1 h.2.2), cause_of e outside read written kept steady), h.2.1)
runs_loaded (status.Refused line) command l bytes outside spells taken is h read written unshown kept steady =
    ([], (command, (spells, taken, h.0.unread, (refl, steady)), (Ok l, given outside.form.before l bytes is, h.1), h.2), unwritten outside.out h.0.unwritten)
runs_loaded status.Checked command l bytes outside spells taken is h read written unshown kept steady =
    ([], ((spells-as outside.words command Check spells h.1, taken, h.0.unread, (refl, steady)), (l, h.2.0, given outside.form.before l bytes is, h.2.1), h.3, h.4), unwritten outside.out h.0.unwritten)
runs_loaded status.NoRoom command l bytes outside spells taken is h read written unshown kept steady =
    ([], (command, (spells, taken, h.0.unread, (refl, steady)), h.1, h.2), unwritten outside.out h.0.unwritten)
runs_loaded status.DiskFailed command l bytes outside spells taken is h read written unshown kept steady =
    ([], (command, (spells, taken, h.0.unread, (refl, steady)), h.1, fails command outside.form.before l bytes outside.disk is h.2), unwritten outside.out h.0.unwritten)
runs_loaded (status.NotOpened line) command l bytes outside spells taken is h read written unshown kept steady =
    ([], (command, h.1.0, h.1.1, h.1.2, (spells, taken, h.0.unread, (refl, steady)), h.3, h.4, with_form outside.form.before l bytes outside.disk (Opening outside.disk (IsWhy h.1.0)) is h.2 h.1.3), unwritten outside.out h.0.unwritten)
runs_loaded status.Shown command l bytes outside spells taken is h read written unshown kept steady =
    let s = h.2.0 in
    (s.0, ((spells-as outside.words command Show spells h.0, taken, h.3, h.4, h.2.1, s.0, with_form outside.form.before l bytes outside.disk (Opening outside.disk (IsShown s.0)) is h.1 s.1, refl), steady), s.2)
runs_loaded status.NotShown command l bytes outside spells taken is h read written unshown kept steady =
    let s = h.2.0 in
    (s.2.0, ((spells-as outside.words command Show spells h.0, taken, h.3, h.4, h.2.1, s.0, with_form outside.form.before l bytes outside.disk (Opening outside.disk (IsShown s.0)) is h.1 s.1, (s.2.1, s.2.2)), unshown refl), s.2.3)
runs_loaded status.Usage command l bytes outside spells taken is h read written unshown kept steady = absurd h
runs_loaded status.Unread command l bytes outside spells taken is h read written unshown kept steady = absurd h

-- ---- a form that is not loaded

refuses-bytes : (command : Command) (form : Option (List ℕ)) (store : Stored) (disk : Device) (number : ℕ) (place line : List ℕ) → Give form (Err (fault.Refused number place))
    → line ≡ refusal_line number place → IsUncalled store → RefusesBytes command form store disk line
refuses-bytes command form store disk number place line is e uncalled = (Err (fault.Refused number place), is, (e, uncalled))

runs_refused : (line : String Global) (command : Command) (number : ℕ) (place : List ℕ) (outside : Outside) → Spells outside.words command → IsFormRead outside
    → Give outside.form.before (Err (fault.Refused number place)) → string_bytes line ≡ refusal_line number place → IsUntouched outside.events → IsUntouched outside.out → IsUncalled outside.store
    → IsUnused outside.disk → IsLookedAt outside.disk → Runs (status.Refused line) outside
runs_refused line command number place outside spells taken is h unread unwrote uncalled unused looks = (
  [],
  (
    command,
    (spells, taken, unread, (refl, unwrote.faults)),
    refuses-bytes command outside.form.before outside.store outside.disk number place (string_bytes line) is h uncalled,
    spared command outside.disk unused looks,
  ),
  unwritten outside.out unwrote.bytes,
)

-- no memory for the form
pub runs_out : (command : Command) (outside : Outside) → Spells outside.words command → IsFormRead outside → IsUntouched outside.events → IsUntouched outside.out → IsUncalled outside.store
    → IsUnused outside.disk → IsLookedAt outside.disk → Runs status.NoRoom outside
runs_out command outside spells taken unread unwrote uncalled unused looks =
    ([], (command, (spells, taken, unread, (refl, unwrote.faults)), calls-for command outside.store uncalled, spared command outside.disk unused looks), unwritten outside.out unwrote.bytes)

-- the bytes were read, and the run comes to this over them
pub runs_bytes : (s : Status) (command : Command) (bytes : List ℕ) (outside : Outside) → Spells outside.words command → IsFormRead outside → GivesReading outside.form.before outside.form.after (reading.All bytes)
    → RunsBytes command bytes (objects outside) s
    → (s ≡ status.Answered ending.ReadFault → HasRisen outside.events) → (s ≡ status.Answered ending.SinkFault → HasRisen outside.out)
    → (s ≡ status.NotShown → HasRisen outside.out) → (s ≡ status.Answered ending.DiskFault → HasFailed outside.disk)
    → IsSteadyAt s outside.out.first_faults outside.out.faults → Runs s outside
runs_bytes s command bytes outside spells taken read (inl h) risen written unshown kept steady =
    runs_loaded s command h.l bytes outside spells taken (gives_form outside.form.before outside.form.after bytes bytes h.l read refl h.given) h.runs risen written unshown kept steady
runs_bytes s command bytes outside spells taken read (inr (inl h)) risen written unshown kept steady =
    subst (λ x. Runs x outside) (sym h.is)
    (runs_refused h.line command h.number h.place outside spells taken (gives outside.form.before outside.form.after bytes (Err (fault.Refused h.number h.place)) read.0 read.1 h.given) h.told
    h.idle.unread h.idle.unwritten h.idle.uncalled h.idle.unused h.idle.looks)
runs_bytes s command bytes outside spells taken read (inr (inr h)) risen written unshown kept steady =
    subst (λ x. Runs x outside) (sym h.is) (runs_out command outside spells taken h.idle.unread h.idle.unwritten h.idle.uncalled h.idle.unused h.idle.looks)

-- ---- the line for the status

-- the same run, with what the sink took and counted afterwards
abbrev later : Outside → Option (List ℕ) → ℕ → Outside
later outside after faults = record outside { out = record outside.out { after = after; faults = faults } }

cause_later : (e : Ending) (outside : Outside) (after : Option (List ℕ)) (faults before : ℕ) → HasCauseIn e outside before → HasCauseIn e (later outside after faults) before
cause_later ending.Done outside after faults before h = h
cause_later ending.ReadFault outside after faults before h = h
cause_later ending.SinkFault outside after faults before h = h
cause_later ending.DiskFault outside after faults before h = h
cause_later ending.TooMuch outside after faults before h = h
cause_later ending.Memory outside after faults before h = h

writes_later : (s : Status) (outside : Outside) (after : Option (List ℕ)) (faults before : ℕ) (written : List ℕ) → Writes s outside before written → Writes s (later outside after faults) before written
writes_later status.Usage outside after faults before written h = h
writes_later (status.Refused line) outside after faults before written h = h
writes_later status.Checked outside after faults before written h = h
writes_later status.Unread outside after faults before written h = h
writes_later status.NoRoom outside after faults before written h = h
writes_later status.DiskFailed outside after faults before written h = h
writes_later (status.NotOpened line) outside after faults before written h = h
writes_later status.Shown outside after faults before written h = h
writes_later status.NotShown outside after faults before written h = h
writes_later (status.Answered e) outside after faults before written h = (h.0, h.1, cause_later e outside after faults before h.2)

-- the sink as the line for the status finds it, and leaves it
abbrev at_line : Object → Option (List ℕ) → ℕ → Object
at_line out after faults = record { before = out.after; after = after; first_faults = out.faults; faults = faults }

says_line : (out : Object) (after : Option (List ℕ)) (faults : ℕ) (written line : List ℕ) → Appends out.before out.after written → AppendsLine (at_line out after faults) out.faults [] line
    → AppendsLine (record out { after = after; faults = faults }) out.faults written line
says_line out after faults written line wrote (inl whole) = inl (Appends-trans out.before out.after after written line wrote whole.0, whole.1)
says_line out after faults written line wrote (inr cut) = inr (record {
  some = cut.some;
  failed = cut.failed;
  front = cut.front;
  is_front = cut.is_front;
  appended = Appends-trans out.before out.after after written cut.front wrote cut.appended;
})

pub finishes : (s : Status) (number : ℕ) (outside : Outside) (after : Option (List ℕ)) (faults : ℕ) → Runs s outside → Finishes s number (at_line outside.out after faults)
    → Ends number (later outside after faults)
finishes s number outside after faults runs told =
    (s, told.0, (runs.0, outside.out.faults, writes_later s outside after faults outside.out.faults runs.0 runs.1, says_line outside.out after faults runs.0 (status_line s) runs.2 told.1))

-- ---- a session that nothing keeps

rests-nowhere : {D : Type 0} (seen : D → Image) (may_leave : D → Image → Type 0) (j : Option Journal) (disk : D) → j ≡ None → Rests seen may_leave j disk
rests-nowhere seen may_leave j disk is = subst (λ x. Rests seen may_leave x disk) (sym is) tt

pub alone-stands : {P D : Type 0} (views : Views P D) (kept : P → Option State) (session : Session P) (disk : D) → IsAlone kept session → StandsBetween views kept session disk
alone-stands views kept session disk h = record { idle = h.idle; whole = h.whole; rest = λ told whole. rests-nowhere views.seen views.may_leave session.journal disk h.unkept }
