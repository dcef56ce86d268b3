-- Each item of a session counts as one accepted event.
use Rattle.std.proofs.Common.{ℕ, suc, ◌+◌, ◌≡◌, Bool, true, false, if◌then◌else◌, List, [], ◌∷◌, length, Option, Some, None, Result, Ok, Err, refl, sym, ap, ◌∙◌, subst, arith}
use Rattle.std.specs.Prelude.{bytes_eq}
use Rattle.xf_line.specs.declared.event.Event.{Event}
use Rattle.xf_store.specs.declared.answers.Answer.{Answer}
use Rattle.xf_snap.specs.declared.snap.Snap.{Snap}
use Rattle.xf_def_machine.specs.Program.{Program}
use Rattle.xf_def_machine.specs.State.{State}
use Rattle.xf_def_machine.specs.Refusal.{Refused}
use Rattle.xf_def_machine.specs.Construct.{construct}
use Rattle.xf_def_machine.specs.Start.{start}
use Rattle.xf_def_machine.specs.Step.{step, at_end}
use Rattle.xf_def_machine.specs.Run.{if_exact}
use Rattle.xf_law_machine.proofs.RestLemmas.StepLaws.{step_rests}
use Rattle.xf_def_sessions.specs.Sessions.{Machine, Session, snap_of, fresh_session}
use Rattle.xf_def_machine.specs.Carried.{Document, NoFit, adopted_by, adopted_over, carried}
use Rattle.xf_def_sessions.specs.History.{after_event, IsBack}
use Rattle.xf_def_sessions.specs.Runs.{Item, line, adopt, undo, redo, began_with, after_line, session_with, adopted_form, adopted_some, after_adopt, Accepts, Goes}
use Rattle.xf_def_sessions.specs.Counts.{FormsAreFilled, RunsCount}
use Rattle.xf_def_sessions.proofs.RunLaws.{mapped}
use Rattle.xf_def_sessions.proofs.StepCounts.{step-counts, exact-is}

-- the state has the form that the bytes are
abbrev pub HasForm : Machine → Session → Type 0
HasForm m s = m.form_in s.form ≡ Some s.state.form

-- one item more, of the form that the bytes are
pub record IsOneMore (m : Machine) (s t : Session) : Type 0 where
  pub count : t.state.accepted ≡ suc s.state.accepted
  pub form : HasForm m t

-- ---- an event

pub line-more : (m : Machine) (s t : Session) (event : Event) (given : List Answer) → FormsAreFilled m → HasForm m s → after_line m s event given ≡ Some t → IsOneMore m s t
line-more m s t event given f h e =
    let found = mapped (after_event m s) (if_exact given (step m.profile s.state event given)) t e in
    let made = exact-is given (step m.profile s.state event given) found.0 found.1 in
    let stays = step-counts m.profile event given s.state found.0 made.0 (f s.form s.state.form h) made.1 in
    subst (IsOneMore m s) found.2 (record { count = stays.count_stays; form = h ∙ ap Some (sym stays.form_stays) })

-- ---- an adoption

session-is : (s t : Session) (bytes : List ℕ) (state : State) → session_with s bytes (Ok state) ≡ Some t → fresh_session bytes (suc s.adoptions) state ≡ t
session-is s t bytes state e = cc

adopted-more : (m : Machine) (s t : Session) (bytes : List ℕ) (form : Program) (r : Result State Refused) → m.form_in bytes ≡ Some form
    → session_with s bytes (adopted_by m.profile s.state form r) ≡ Some t → IsOneMore m s t
adopted-more m s t bytes form (Err refusal) h e = cc
adopted-more m s t bytes form (Ok u) h e =
    subst (IsOneMore m s) (session-is s t bytes (record (at_end m.profile u) { form = form; accepted = suc s.state.accepted }) e) (record { count = refl; form = h })

over-more : (m : Machine) (s t : Session) (bytes : List ℕ) (form : Program) (r : Result (List Document) NoFit) → m.form_in bytes ≡ Some form
    → session_with s bytes (adopted_over m.profile s.state form r) ≡ Some t → IsOneMore m s t
over-more m s t bytes form (Err fault) h e = cc
over-more m s t bytes form (Ok documents) h e = adopted-more m s t bytes form (construct m.profile (record form { documents = documents })) h e

form-more : (m : Machine) (s t : Session) (bytes : List ℕ) (form : Program) (r : Result State Refused) → m.form_in bytes ≡ Some form
    → adopted_form m s bytes form r ≡ Some t → IsOneMore m s t
form-more m s t bytes form (Err refusal) h e = cc
form-more m s t bytes form (Ok first) h e = over-more m s t bytes form (carried s.state form) h e

some-more : (m : Machine) (s t : Session) (bytes : List ℕ) (o : Option Program) → m.form_in bytes ≡ o → adopted_some m s bytes o ≡ Some t → IsOneMore m s t
some-more m s t bytes None h e = cc
some-more m s t bytes (Some form) h e = form-more m s t bytes form (construct m.profile form) h e

adopt-more : (m : Machine) (s t : Session) (bytes : List ℕ) → after_adopt m s bytes ≡ Some t → IsOneMore m s t
adopt-more m s t bytes e = by (bytes_eq bytes s.form) e
  where
    by : (b : Bool) → (if b then None else adopted_some m s bytes (m.form_in bytes)) ≡ Some t → IsOneMore m s t
    by true e = cc
    by false e = some-more m s t bytes (m.form_in bytes) refl e

-- ---- an undo

back-more : (m : Machine) (s t : Session) (kept : Snap) → HasForm m s → IsBack m.profile s.state kept t.state → t.form ≡ s.form → IsOneMore m s t
unfolding snap_of
back-more m s t kept h back e = record {
  count = ap (λ (x : Snap). x.accepted) back.snap;
  form = ap m.form_in e ∙ h ∙ ap Some (sym back.form);
}

-- ---- runs

pub accepts-more : (m : Machine) (s t : Session) (item : Item) → FormsAreFilled m → HasForm m s → Accepts m s item t → IsOneMore m s t
accepts-more m s t (line event given) f h e = line-more m s t event given f h e
accepts-more m s t (adopt bytes) f h e = adopt-more m s t bytes e
accepts-more m s t undo f h e = back-more m s t e.back h e.state e.form
accepts-more m s t redo f h e = back-more m s t e.back h e.state e.form

pub goes-counts : (m : Machine) (items : List Item) (s t : Session) → FormsAreFilled m → HasForm m s → Goes m s items t
    → (t.state.accepted ≡ length items + s.state.accepted) × HasForm m t
goes-counts m [] s t f h e = let same = ap (λ (x : Session). x.state.accepted) (sym e) in (omega (arith, same), subst (HasForm m) e h)
goes-counts m (item ∷ items) s t f h e =
    let more = accepts-more m s e.0 item f h e.1 in
    let rest = goes-counts m items e.0 t f more.form e.2 in
    let first = rest.0 in let second = more.count in
    (omega (arith, first, second), rest.1)

begun-counts : (m : Machine) (bytes : List ℕ) (answers : List Answer) (o : Option Program) (first : Session) → FormsAreFilled m → m.form_in bytes ≡ o
    → began_with m bytes answers o ≡ Some first → (first.state.accepted ≡ 0) × HasForm m first
begun-counts m bytes answers None first f h e = cc
begun-counts m bytes answers (Some form) first f h e =
    let found = mapped (fresh_session bytes 0) (if_exact answers (start m.profile form answers)) first e in
    let made = exact-is answers (start m.profile form answers) found.0 found.1 in
    let starts = (step_rests m.profile).started form answers found.0 made.0 (f bytes form h) made.1 in
    subst (λ (s : Session). (s.state.accepted ≡ 0) × HasForm m s) found.2 (starts.accepted, h ∙ ap Some (sym starts.form))

pub runs_count : RunsCount
runs_count m bytes answers items last f h =
    let first = begun-counts m bytes answers (m.form_in bytes) h.first f refl h.begun in
    let rest = goes-counts m items h.first last f first.1 h.goes in
    let all = rest.0 in let none = first.0 in
    record { accepted = omega (arith, all, none); form = rest.1 }
