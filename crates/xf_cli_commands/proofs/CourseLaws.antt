-- How far lines bring a session goes by its state and the bytes in use: what came before stands in front.
use Rattle.std.proofs.Common.{◌≡◌, ◌+◌, ◌∙◌, ℕ, Bool, true, false, List, [], ◌∷◌, ◌++◌, length, nat_lt, Option, Some, None, refl, ap, sym, append-nil}
use Rattle.xf_line.specs.declared.event.Event.{Event}
use Rattle.xf_store.specs.declared.answers.Answer.{Answer}
use Rattle.xf_store.specs.declared.call.StoreCall.{StoreCall}
use Rattle.xf_def_machine.specs.State.{State}
use Rattle.xf_def_machine.specs.Step.{Outcome, accepted, refused, step}
use Rattle.xf_def_machine.specs.Replies.{answers_in}
use Rattle.xf_def_form.specs.Formed.{profile}
use Rattle.xf_def_sessions.specs.Runs.{Item}
use Rattle.xf_base.specs.Limits.{used_limit}
use Rattle.xf_cli_commands.specs.Course.{Course, set_out, event_in, after_outcome, after_event, IsReplied, Replies, TakesEvent, Takes, Lacks, IsAccepted, FailsAt, not_built_reply, where_full}

-- what came of lines, behind what came before
abbrev pub behind : Course → Course → Course
behind c d = record { state = d.state; used = d.used; items = c.items ++ d.items; calls = c.calls ++ d.calls; in_flight = d.in_flight }

abbrev pub fresh : Course → Course
fresh c = set_out c.state c.used

abbrev of : State → ℕ → List Item → List StoreCall → List Item → Course
of state used items calls in_flight = record { state = state; used = used; items = items; calls = calls; in_flight = in_flight }

same-course : (state : State) (used : ℕ) (items others : List Item) (calls more : List StoreCall) (flight next : List Item) → items ≡ others → calls ≡ more → flight ≡ next
    → of state used items calls flight ≡ of state used others more next
same-course state used items others calls more flight next a b c =
    ap (λ (x : List Item). of state used x calls flight) a ∙ ap (λ (x : List StoreCall). of state used others x flight) b ∙ ap (λ (x : List Item). of state used others more x) c

-- nothing came of them
pub behind-nothing : (c : Course) → c.in_flight ≡ [] → behind c (fresh c) ≡ c
behind-nothing c none = same-course c.state c.used (c.items ++ []) c.items (c.calls ++ []) c.calls [] c.in_flight (append-nil c.items) (append-nil c.calls) (sym none)

behind-outcome : (c : Course) (line : List ℕ) (event : Event) (answers : List Answer) (o : Outcome) → c.in_flight ≡ []
    → behind c (after_outcome (fresh c) line event answers o) ≡ after_outcome c line event answers o
behind-outcome c line event answers (accepted s posted) none = same-course _ _ _ _ _ _ [] c.in_flight refl refl (sym none)
behind-outcome c line event answers (refused why calls) none =
    same-course c.state c.used (c.items ++ []) c.items (c.calls ++ calls) (c.calls ++ calls) [] c.in_flight (append-nil c.items) refl (sym none)

behind-event : (c : Course) (line : List ℕ) (answers : List Answer) (event : Option Event) → c.in_flight ≡ []
    → behind c (after_event (fresh c) line answers event) ≡ after_event c line answers event
behind-event c line answers None none = behind-nothing c none
behind-event c line answers (Some event) none = behind-outcome c line event answers (step profile c.state event answers) none

replies-behind : (c : Course) (line text : List ℕ) (d : Course) → c.in_flight ≡ [] → Replies (fresh c) line text d → Replies c line text (behind c d)
replies-behind c line text d none h =
    (h.0, record { calls = h.1.calls; told = h.1.told }, ap (behind c) h.2 ∙ behind-event c line (answers_in h.0) (event_in line) none)

takes-event : (c : Course) (line : List ℕ) (event : Option Event) (text : List ℕ) (d : Course) → c.in_flight ≡ [] → TakesEvent (fresh c) line event text d → TakesEvent c line event text (behind c d)
takes-event c line None text d none h = replies-behind c line text d none h
takes-event c line (Some event) text d none h = by-full (nat_lt used_limit c.used) h
  where
    by-full : (full : Bool) → where_full full ((text ≡ not_built_reply) × (d ≡ fresh c)) (Replies (fresh c) line text d)
        → where_full full ((text ≡ not_built_reply) × (behind c d ≡ c)) (Replies c line text (behind c d))
    by-full true h = (h.0, ap (behind c) h.1 ∙ behind-nothing c none)
    by-full false h = replies-behind c line text d none h

pub takes-behind : (c : Course) (line text : List ℕ) (d : Course) → c.in_flight ≡ [] → Takes (fresh c) line text d → Takes c line text (behind c d)
takes-behind c line text d none h = takes-event c line (event_in line) text d none h

pub lacks-behind : (c d : Course) → c.in_flight ≡ [] → Lacks (fresh c) d → Lacks c (behind c d)
lacks-behind c d none h =
    (h.0, ap (behind c) h.1 ∙ same-course c.state c.used (c.items ++ []) c.items (c.calls ++ h.0) (c.calls ++ h.0) [] c.in_flight (append-nil c.items) refl (sym none))

fails-event : (c : Course) (event : Option Event) (d : Course) → FailsAt (fresh c) event d → FailsAt c event (behind c d)
fails-event c None d h = absurd h
fails-event c (Some event) d h =
    (h.0, h.1, ap (behind c) h.2 ∙ same-course c.state c.used (c.items ++ []) c.items (c.calls ++ h.0) (c.calls ++ h.0) _ _ (append-nil c.items) refl refl)

pub fails-behind : (c : Course) (line : List ℕ) (d : Course) → FailsAt (fresh c) (event_in line) d → FailsAt c (event_in line) (behind c d)
fails-behind c line d h = fails-event c (event_in line) d h

-- ---- nothing is in flight behind a reply

quiet-outcome : (s : State) (used : ℕ) (line : List ℕ) (event : Event) (answers : List Answer) (o : Outcome) → (after_outcome (set_out s used) line event answers o).in_flight ≡ []
quiet-outcome s used line event answers (accepted t posted) = refl
quiet-outcome s used line event answers (refused why calls) = refl

quiet-event : (s : State) (used : ℕ) (line : List ℕ) (answers : List Answer) (event : Option Event) → (after_event (set_out s used) line answers event).in_flight ≡ []
quiet-event s used line answers None = refl
quiet-event s used line answers (Some event) = quiet-outcome s used line event answers (step profile s event answers)

quiet-reply : (s : State) (used : ℕ) (line text : List ℕ) (d : Course) → Replies (set_out s used) line text d → d.in_flight ≡ []
quiet-reply s used line text d h = ap (λ (c : Course). c.in_flight) h.2 ∙ quiet-event s used line (answers_in h.0) (event_in line)

quiet-by : (s : State) (used : ℕ) (line : List ℕ) (event : Option Event) (text : List ℕ) (d : Course) → TakesEvent (set_out s used) line event text d → d.in_flight ≡ []
quiet-by s used line None text d h = quiet-reply s used line text d h
quiet-by s used line (Some event) text d h = by-full (nat_lt used_limit used) h
  where
    by-full : (full : Bool) → where_full full ((text ≡ not_built_reply) × (d ≡ set_out s used)) (Replies (set_out s used) line text d) → d.in_flight ≡ []
    by-full true h = ap (λ (c : Course). c.in_flight) h.1
    by-full false h = quiet-reply s used line text d h

pub quiet : (s : State) (used : ℕ) (line text : List ℕ) (d : Course) → Takes (set_out s used) line text d → d.in_flight ≡ []
quiet s used line text d h = quiet-by s used line (event_in line) text d h
