-- A session comes to states at rest alone.
use Rattle.std.proofs.Common.{ℕ, ◌+◌, ◌<◌, ◌^◌, ◌≡◌, Bool, true, false, if◌then◌else◌, List, [], ◌∷◌, length, Option, Some, None, Result, Ok, Err, refl, sym, ap, ◌∙◌, subst, arith}
use Rattle.std.specs.Prelude.{bytes_eq}
use Rattle.xf_line.specs.declared.event.Event.{Event}
use Rattle.xf_store.specs.declared.answers.Answer.{Answer}
use Rattle.xf_def_machine.specs.Profile.{Profile}
use Rattle.xf_def_machine.specs.Program.{Program}
use Rattle.xf_def_machine.specs.State.{State}
use Rattle.xf_def_machine.specs.Refusal.{Refused}
use Rattle.xf_def_machine.specs.Construct.{construct}
use Rattle.xf_def_machine.specs.Start.{start}
use Rattle.xf_def_machine.specs.Step.{Posted, Outcome, accepted, refused, step}
use Rattle.xf_def_machine.specs.Run.{are_those_of, if_exact}
use Rattle.xf_snap.specs.declared.snap.Snap.{Snap}
use Rattle.xf_def_sessions.specs.Sessions.{Machine, IsSessionState, Session, snap_of, fresh_session}
use Rattle.xf_def_machine.specs.Carried.{AdoptFault, adopted}
use Rattle.xf_def_sessions.specs.History.{after_event}
use Rattle.xf_def_sessions.specs.Runs.{Item, line, adopt, undo, redo, began_with, began, after_line, session_with, adopted_form, adopted_some, after_adopt, Accepts, Goes}
use Rattle.xf_def_sessions.specs.Counts.{FormsAreFilled}
use Rattle.xf_def_sessions.specs.Alike.{AreAlike, EndAlike, GoesAlike}
use Rattle.xf_def_sessions.specs.Finding.{RunsRest}
use Rattle.xf_def_sessions.proofs.RunLaws.{mapped}
use Rattle.xf_def_sessions.proofs.StepCounts.{exact-is}
use Rattle.xf_def_sessions.proofs.Counted.{HasForm, accepts-more, runs_count}

pub alike-itself : (p : Profile) (s : State) → IsSessionState p s → AreAlike p s s
alike-itself p s h = record { one = h; other = h; form = refl; snap = refl }

-- as many events were accepted
pub accepted-alike : (p : Profile) (s t : State) → AreAlike p s t → s.accepted ≡ t.accepted
unfolding snap_of
accepted-alike p s t a = ap (λ (x : Snap). x.accepted) a.snap

-- ---- the start

-- a session begins with the state of a start
pub record IsBegun (m : Machine) (bytes : List ℕ) (answers : List Answer) (first : Session) : Type 0 where
  pub program : Program
  pub read : m.form_in bytes ≡ Some program
  pub started : if_exact answers (start m.profile program answers) ≡ Some first.state
  pub form : first.form ≡ bytes
  pub adoptions : first.adoptions ≡ 0

begun-with : (m : Machine) (bytes : List ℕ) (answers : List Answer) (o : Option Program) (first : Session) → m.form_in bytes ≡ o → began_with m bytes answers o ≡ Some first
    → IsBegun m bytes answers first
begun-with m bytes answers None first h e = cc
begun-with m bytes answers (Some program) first h e =
    let found = mapped (fresh_session bytes 0) (if_exact answers (start m.profile program answers)) first e in
    record {
      program = program;
      read = h;
      started = found.1 ∙ ap (λ (s : Session). Some s.state) found.2;
      form = ap (λ (s : Session). s.form) (sym found.2);
      adoptions = ap (λ (s : Session). s.adoptions) (sym found.2);
    }

pub is-begun : (m : Machine) (bytes : List ℕ) (answers : List Answer) (first : Session) → began m bytes answers ≡ Some first → IsBegun m bytes answers first
is-begun m bytes answers first e = begun-with m bytes answers (m.form_in bytes) first refl e

pub begun-rests : (m : Machine) (bytes : List ℕ) (answers : List Answer) (first : Session) → GoesAlike m → IsBegun m bytes answers first → IsSessionState m.profile first.state
begun-rests m bytes answers first laws h =
    let made = exact-is answers (start m.profile h.program answers) first.state h.started in
    laws.starts bytes h.program h.read answers first.state made.0 made.1

-- ---- an event

-- what ends alike with an event that was accepted with exactly these answers was so itself
pub exact-alike : (p : Profile) (given : List Answer) (o : Outcome) (t : State) (q : Posted) → EndAlike p o (accepted t q) → if_exact given (accepted t q) ≡ Some t
    → (r : State) × (if_exact given o ≡ Some r) × AreAlike p r t
exact-alike p given (refused why calls) t q h e = absurd h
exact-alike p given (accepted r other) t q h e = by (are_those_of other.calls given) (ap (λ (x : Posted). if_exact given (accepted t x)) h.1 ∙ e)
  where
    by : (b : Bool) → (if b then Some t else None) ≡ Some t → (x : State) × ((if b then Some r else None) ≡ Some x) × AreAlike p x t
    by true k = (r, refl, h.0)
    by false k = cc

-- an event over a state that cannot be told apart from that of the session
pub line-alike : (m : Machine) (s t : Session) (event : Event) (given : List Answer) (found : State) → GoesAlike m → HasForm m s → s.state.accepted < 2 ^ 62
    → after_line m s event given ≡ Some t → AreAlike m.profile found s.state → (r : State) × (if_exact given (step m.profile found event given) ≡ Some r) × AreAlike m.profile r t.state
line-alike m s t event given found laws h few e alike =
    let p = m.profile in
    let made = mapped (after_event m s) (if_exact given (step p s.state event given)) t e in
    let was = exact-is given (step p s.state event given) made.0 made.1 in
    let same : made.0 ≡ t.state = ap (λ (x : Session). x.state) made.2 in
    let count = accepted-alike p found s.state alike in
    let both = laws.steps s.form found s.state (h ∙ ap Some (sym alike.form)) alike (omega (arith, count, few)) event given in
    let after = exact-alike p given (step p found event given) made.0 was.0 (subst (EndAlike p (step p found event given)) was.1 both)
    (ap (if_exact given) (sym was.1) ∙ made.1) in
    (after.0, after.1, subst (AreAlike p after.0) same after.2)

line-rests : (m : Machine) (s t : Session) (event : Event) (given : List Answer) → GoesAlike m → HasForm m s → s.state.accepted < 2 ^ 62 → IsSessionState m.profile s.state
    → after_line m s event given ≡ Some t → IsSessionState m.profile t.state
line-rests m s t event given laws h few rest e = (line-alike m s t event given s.state laws h few e (alike-itself m.profile s.state rest)).2.other

-- ---- an adoption

result-rests : (m : Machine) (s t : Session) (bytes : List ℕ) (r : Result State AdoptFault) → ((state : State) → r ≡ Ok state → IsSessionState m.profile state)
    → session_with s bytes r ≡ Some t → IsSessionState m.profile t.state
result-rests m s t bytes (Err fault) k e = cc
result-rests m s t bytes (Ok state) k e =
    let same : state ≡ t.state = ap state_of e in subst (IsSessionState m.profile) same (k state refl)
  where
    state_of : Option Session → State
    state_of None = state
    state_of (Some x) = x.state

form-rests : (m : Machine) (s t : Session) (bytes : List ℕ) (form : Program) (r : Result State Refused) → GoesAlike m → m.form_in bytes ≡ Some form → IsSessionState m.profile s.state
    → adopted_form m s bytes form r ≡ Some t → IsSessionState m.profile t.state
form-rests m s t bytes form (Err refusal) laws h rest e = cc
form-rests m s t bytes form (Ok first) laws h rest e =
    result-rests m s t bytes (adopted m.profile s.state form) (λ state is. laws.adopted_rests bytes form h s.state state rest is) e

some-rests : (m : Machine) (s t : Session) (bytes : List ℕ) (o : Option Program) → GoesAlike m → m.form_in bytes ≡ o → IsSessionState m.profile s.state
    → adopted_some m s bytes o ≡ Some t → IsSessionState m.profile t.state
some-rests m s t bytes None laws h rest e = cc
some-rests m s t bytes (Some form) laws h rest e = form-rests m s t bytes form (construct m.profile form) laws h rest e

adopt-rests : (m : Machine) (s t : Session) (bytes : List ℕ) → GoesAlike m → IsSessionState m.profile s.state → after_adopt m s bytes ≡ Some t → IsSessionState m.profile t.state
adopt-rests m s t bytes laws rest e = by (bytes_eq bytes s.form) e
  where
    by : (b : Bool) → (if b then None else adopted_some m s bytes (m.form_in bytes)) ≡ Some t → IsSessionState m.profile t.state
    by true e = cc
    by false e = some-rests m s t bytes (m.form_in bytes) laws refl rest e

-- ---- runs

accepts-rests : (m : Machine) (s t : Session) (item : Item) → GoesAlike m → HasForm m s → s.state.accepted < 2 ^ 62 → IsSessionState m.profile s.state → Accepts m s item t
    → IsSessionState m.profile t.state
accepts-rests m s t (line event given) laws h few rest e = line-rests m s t event given laws h few rest e
accepts-rests m s t (adopt bytes) laws h few rest e = adopt-rests m s t bytes laws rest e
accepts-rests m s t undo laws h few rest e = e.state.stands
accepts-rests m s t redo laws h few rest e = e.state.stands

goes-rests : (m : Machine) (items : List Item) (s t : Session) → FormsAreFilled m → GoesAlike m → HasForm m s → length items + s.state.accepted < 2 ^ 62
    → IsSessionState m.profile s.state → Goes m s items t → IsSessionState m.profile t.state
goes-rests m [] s t f laws h few rest e = subst (λ (x : Session). IsSessionState m.profile x.state) e rest
goes-rests m (item ∷ items) s t f laws h few rest e =
    let more = accepts-more m s e.0 item f h e.1 in
    let one = more.count in
    let now : s.state.accepted < 2 ^ 62 = omega (arith, few) in
    let later : length items + e.0.state.accepted < 2 ^ 62 = omega (arith, few, one) in
    goes-rests m items e.0 t f laws more.form later (accepts-rests m s e.0 item laws h now rest e.1) e.2

pub begun-form : (m : Machine) (bytes : List ℕ) (answers : List Answer) (first : Session) → FormsAreFilled m → began m bytes answers ≡ Some first → HasForm m first
begun-form m bytes answers first f e = (runs_count m bytes answers [] first f (record { first = first; begun = e; goes = refl })).form

-- no event is accepted yet
pub begun-count : (m : Machine) (bytes : List ℕ) (answers : List Answer) (first : Session) → FormsAreFilled m → began m bytes answers ≡ Some first → first.state.accepted ≡ 0
begun-count m bytes answers first f e = (runs_count m bytes answers [] first f (record { first = first; begun = e; goes = refl })).accepted

pub runs_rest : RunsRest
runs_rest m bytes answers items last f laws few h =
    let none = begun-count m bytes answers h.first f h.begun in
    let all : length items + h.first.state.accepted < 2 ^ 62 = omega (arith, few, none) in
    goes-rests m items h.first last f laws (begun-form m bytes answers h.first f h.begun) all
    (begun-rests m bytes answers h.first laws (is-begun m bytes answers h.first h.begun)) h.goes
