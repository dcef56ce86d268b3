-- Dispatch and actions, step by step: what each step of the machine gives, once the steps before it are done.
use Rattle.std.proofs.Common.{ℕ, zero, suc, ◌≡◌, ◌-◌, ◌<◌, List, Bool, true, false, Option, Some, None, is_some, option_map, Result, Ok, refl, ap, sym, ◌∙◌, arith}
use Rattle.std.proofs.lemmas.Option.{none-some}
use Rattle.xf_store.specs.declared.answers.Answer.{Answer}
use Rattle.xf_store.specs.declared.call.StoreCall.{StoreCall}
use Rattle.xf_def_xpath.specs.Setting.{Meaning, Focus}
use Rattle.xf_def_ui.specs.Context.{Context, context_of}
use Rattle.xf_def_ui.specs.Named.{handler_rows}
use Rattle.xf_def_ui.specs.Calls.{calls}
use Rattle.xf_def_ui.specs.declared.answers.CallList.{CallList}
use Rattle.xf_def_ui.specs.Elements.{actions_in}
use Rattle.xf_def_machine.specs.Program.{Work, Act}
use Rattle.xf_def_machine.specs.Program as work
use Rattle.xf_def_machine.specs.Profile.{Profile}
use Rattle.xf_def_machine.specs.State.{State}
use Rattle.xf_def_machine.specs.Refusal.{Refusal, Refused, budget, depth, refused, or_long}
use Rattle.xf_def_machine.specs.Flow.{Run, ◌>>=◌, when, where_some, in_turn}
use Rattle.xf_def_machine.specs.Surround.{interface, quiet}
use Rattle.xf_def_machine.specs.Primitives.{spend}
use Rattle.xf_def_machine.specs.Events.{Fired, Tell}
use Rattle.xf_def_machine.specs.Acting.{Acting, act_at, acting, acting_in, acting_with, truth_for}
use Rattle.xf_def_machine.specs.Act.{if_true, while_true, repeated, done_by, begun, act_within}
use Rattle.xf_def_machine.specs.Update.{is_due, rounds, round, update}
use Rattle.xf_def_machine.specs.Dispatch.{Further, handle, after_all, handled, dispatch}
use Rattle.xf_actions.specs.Performs.{Refuses}
use Rattle.xf_actions.specs.Parts.{work_in, condition_in, repetition_in, is_block, holds, once_done, acted}
use Rattle.xf_actions.specs.Changed.{changed}
use Rattle.xf_actions.specs.Told.{told, round_begun}
use Rattle.xf_actions.proofs.Flow.{fine, bind-assoc, refuses-then, same-refuses}
use Rattle.xf_actions.proofs.Telling.{round-told}
use Rattle.xf_actions.proofs.Works.{work-told}

true-false : true ≡ false → ⊥
true-false h = cc

-- a refusal that is told as it is
pub refuses-depth : (X : Type 0) (told : Option Refusal) (s : State) → told ≡ Some depth → Refuses {X = X} told s.calls (refused depth s)
unfolding Refuses
refuses-depth X told s e = rw e (refl, refl)

pub refuses-budget : (X : Type 0) (told : Option Refusal) (s : State) → told ≡ Some budget → Refuses {X = X} told s.calls (refused budget s)
unfolding Refuses
refuses-budget X told s e = rw e (refl, refl)

-- ---- dispatch

pub dispatch-stops : (p : Profile) (answers : List Answer) (d : ℕ) (is_idle : Bool) (e : Fired) (s : State) (told : Option Refusal) (calls : List StoreCall)
    → Refuses told calls (spend s) → Refuses told calls (dispatch p answers d is_idle e s)
dispatch-stops p answers zero is_idle e s told calls h = refuses-then told calls (spend s) _ h
dispatch-stops p answers (suc d) is_idle e s told calls h = refuses-then told calls (spend s) _ h

pub dispatch-too_deep : (p : Profile) (answers : List Answer) (d : ℕ) (is_idle : Bool) (e : Fired) (s t : State)
    → d ≡ 0 → spend s ≡ Ok t → dispatch p answers d is_idle e s ≡ refused depth t
dispatch-too_deep p answers zero is_idle e s t h q = ap (λ r. r >>= refused depth) q
dispatch-too_deep p answers (suc d) is_idle e s t h q = absurd (omega arith)

pub dispatch-begins : (p : Profile) (answers : List Answer) (d : ℕ) (is_idle : Bool) (e : Fired) (s t : State)
    → 0 < d → spend s ≡ Ok t → dispatch p answers d is_idle e s ≡ handled p answers (dispatch p answers (d - 1)) is_idle e t
dispatch-begins p answers zero is_idle e s t h q = absurd (omega arith)
dispatch-begins p answers (suc d) is_idle e s t h q =
    ap (λ r. r >>= handled p answers (dispatch p answers d) is_idle e) q
    ∙ ap (λ k. handled p answers (dispatch p answers k) is_idle e t) (let k : d ≡ suc d - 1 = omega arith in k)

-- the handlers are known
pub handled-by : (p : Profile) (answers : List Answer) (further : Further) (is_idle : Bool) (e : Fired) (t : State) (called : CallList)
    → fine (calls (interface t) e.event) ≡ Ok called
    → handled p answers further is_idle e t ≡ in_turn (handle p further is_idle e) called.handlers t >>= when called.with_default (after_all p answers further is_idle e)
handled-by p answers further is_idle e t called h =
    let q : calls (interface t) e.event ≡ called = cc in
    ap (λ (c : CallList). in_turn (handle p further is_idle e) c.handlers t >>= when c.with_default (after_all p answers further is_idle e)) q

pub dispatch-handles : (p : Profile) (answers : List Answer) (d : ℕ) (is_idle : Bool) (e : Fired) (s t : State) (called : CallList)
    → 0 < d → spend s ≡ Ok t → fine (calls (interface t) e.event) ≡ Ok called
    → dispatch p answers d is_idle e s
    ≡ in_turn (handle p (dispatch p answers (d - 1)) is_idle e) called.handlers t >>= when called.with_default (after_all p answers (dispatch p answers (d - 1)) is_idle e)
dispatch-handles p answers d is_idle e s t called h q r =
    dispatch-begins p answers d is_idle e s t h q ∙ handled-by p answers (dispatch p answers (d - 1)) is_idle e t called r

pub dispatch-after : (p : Profile) (answers : List Answer) (d : ℕ) (is_idle : Bool) (e : Fired) (s t u : State) (called : CallList)
    → 0 < d → spend s ≡ Ok t → fine (calls (interface t) e.event) ≡ Ok called
    → in_turn (handle p (dispatch p answers (d - 1)) is_idle e) called.handlers t ≡ Ok u
    → dispatch p answers d is_idle e s ≡ when called.with_default (after_all p answers (dispatch p answers (d - 1)) is_idle e) u
dispatch-after p answers d is_idle e s t u called h q r k =
    dispatch-handles p answers d is_idle e s t called h q r ∙ ap (λ g. g >>= when called.with_default (after_all p answers (dispatch p answers (d - 1)) is_idle e)) k

-- ---- an action begins

none-idle : {X : Type 0} (o : Option X) (run : X → Run) (s : State) → is_some o ≡ false → where_some o run s ≡ Ok s
none-idle None run s h = refl
none-idle (Some x) run s h = absurd (true-false h)

pub act-none : (left : ℕ) (p : Profile) (tell : Tell) (e : Fired) (n : ℕ) (s : State)
    → is_some (act_at s n) ≡ false → act_within left p tell e n s ≡ Ok s
act-none zero p tell e n s h = refl
act-none (suc left) p tell e n s h = none-idle (act_at s n) _ s h

abbrev acting_at : Fired → ℕ → List ℕ → ℕ → Focus → Acting
acting_at e n rows model c = record { element = n; rows = rows; model = model; focus = c; told = e.told }

-- the element that is about to act is the one that was asked for
with-element : (e : Fired) (n : ℕ) (rows : List ℕ) (model : ℕ) (focus : Option Focus) (x : Acting)
    → acting_with e n rows (record { model = model; focus = focus }) ≡ Some x → x.element ≡ n
with-element e n rows model None x h = absurd (none-some x h)
with-element e n rows model (Some c) x h =
    let q : acting_at e n rows model c ≡ x = cc in sym (ap (λ y. y.element) q)

in-element : (e : Fired) (n : ℕ) (s : State) (rows : List ℕ) (o : Option Context) (x : Acting)
    → or_long s o >>= (λ c. Ok (acting_with e n rows c)) ≡ Ok (Some x) → x.element ≡ n
in-element e n s rows None x h = cc
in-element e n s rows (Some c) x h = with-element e n rows c.model c.focus x cc

rows-element : (p : Profile) (e : Fired) (n : ℕ) (s : State) (o : Option (List ℕ)) (x : Acting)
    → acting_in p e n s o ≡ Ok (Some x) → x.element ≡ n
rows-element p e n s None x h = cc
rows-element p e n s (Some rows) x h = in-element e n s rows (context_of (interface s) (quiet p s) rows n) x h

pub acting-element : (p : Profile) (e : Fired) (n : ℕ) (s : State) (x : Acting) → acting p e n s ≡ Ok (Some x) → x.element ≡ n
acting-element p e n s x h = rows-element p e n s (handler_rows (interface s) s.indexes e.event.target e.rows n) x h

-- ---- an action acts

abbrev acts_with : Profile → Tell → (ℕ → Run) → Act → State → Option Acting → Result State Refused
acts_with p tell inner a s one = where_some one (λ x. repeated p x a.repetition (if_true p x a.condition (done_by p tell inner x a.work))) s

some-stops : (p : Profile) (tell : Tell) (e : Fired) (inner : ℕ → Run) (n : ℕ) (o : Option Act) (s : State) (told : Option Refusal) (calls : List StoreCall)
    → is_some o ≡ true → Refuses told calls (acting p e n s) → Refuses told calls (where_some o (begun p tell e inner n) s)
some-stops p tell e inner n None s told calls h r = absurd (true-false (sym h))
some-stops p tell e inner n (Some a) s told calls h r = refuses-then told calls (acting p e n s) (acts_with p tell inner a s) r

some-idle : (p : Profile) (tell : Tell) (e : Fired) (inner : ℕ → Run) (n : ℕ) (o : Option Act) (s : State)
    → acting p e n s ≡ Ok None → where_some o (begun p tell e inner n) s ≡ Ok s
some-idle p tell e inner n None s h = refl
some-idle p tell e inner n (Some a) s h = ap (λ r. r >>= acts_with p tell inner a s) h

some-acts : (p : Profile) (tell : Tell) (e : Fired) (inner : ℕ → Run) (n : ℕ) (o : Option Act) (x : Acting) (s : State)
    → is_some o ≡ true → acting p e n s ≡ Ok (Some x) → where_some o (begun p tell e inner n) s ≡ acted p tell inner x o s
unfolding acted once_done
some-acts p tell e inner n None x s k h = absurd (true-false (sym k))
some-acts p tell e inner n (Some a) x s k h = ap (λ r. r >>= acts_with p tell inner a s) h

pub act-stops : (left : ℕ) (p : Profile) (tell : Tell) (e : Fired) (n : ℕ) (s : State) (told : Option Refusal) (calls : List StoreCall)
    → 0 < left → is_some (act_at s n) ≡ true → Refuses told calls (acting p e n s) → Refuses told calls (act_within left p tell e n s)
act-stops zero p tell e n s told calls h o r = absurd (omega arith)
act-stops (suc left) p tell e n s told calls h o r = some-stops p tell e (act_within left p tell e) n (act_at s n) s told calls o r

pub act-idle : (left : ℕ) (p : Profile) (tell : Tell) (e : Fired) (n : ℕ) (s : State)
    → acting p e n s ≡ Ok None → act_within left p tell e n s ≡ Ok s
act-idle zero p tell e n s h = refl
act-idle (suc left) p tell e n s h = some-idle p tell e (act_within left p tell e) n (act_at s n) s h

pub act-acts : (left : ℕ) (p : Profile) (tell : Tell) (e : Fired) (n : ℕ) (x : Acting) (s : State)
    → 0 < left → is_some (act_at s n) ≡ true → acting p e n s ≡ Ok (Some x)
    → act_within left p tell e n s ≡ acted p tell (act_within (left - 1) p tell e) x (act_at s x.element) s
act-acts zero p tell e n x s h k q = absurd (omega arith)
act-acts (suc left) p tell e n x s h k q =
    some-acts p tell e (act_within left p tell e) n (act_at s n) x s k q
    ∙ ap (λ k. acted p tell (act_within left p tell e) x (act_at s k) s) (sym (acting-element p e n s x q))
    ∙ ap (λ k. acted p tell (act_within k p tell e) x (act_at s x.element) s) (let k : left ≡ suc left - 1 = omega arith in k)

pub act-acts-by : {A : Type 0} (left : ℕ) (p : Profile) (tell : Tell) (e : Fired) (n : ℕ) (f : A → Acting) (o : Option A) (a : A) (s : State)
    → 0 < left → is_some (act_at s n) ≡ true → acting p e n s ≡ Ok (option_map f o) → o ≡ Some a
    → act_within left p tell e n s ≡ acted p tell (act_within (left - 1) p tell e) (f a) (act_at s (f a).element) s
act-acts-by left p tell e n f o a s h k q is = act-acts left p tell e n (f a) s h k (q ∙ ap (λ x. fine (option_map f x)) is)

-- ---- `if`

if_true-holds : (p : Profile) (x : Acting) (o : Option Meaning) (once : Run) (s : State)
    → if_true p x o once s ≡ holds p x o s >>= λ b. when b once s
if_true-holds p x None once s = refl
if_true-holds p x (Some m) once s = refl

abbrev work_if : Profile → Tell → (ℕ → Run) → Acting → Option Act → State → Bool → Result State Refused
work_if p tell inner x o s b = when b (done_by p tell inner x (work_in o)) s

pub once-holds : (p : Profile) (tell : Tell) (inner : ℕ → Run) (x : Acting) (o : Option Act) (s : State)
    → once_done p tell inner x o s ≡ holds p x (condition_in o) s >>= work_if p tell inner x o s
unfolding once_done
once-holds p tell inner x o s = if_true-holds p x (condition_in o) _ s

-- ---- `while`

repeated-once : (p : Profile) (x : Acting) (m : Option Meaning) (once : Run) (s : State) → is_some m ≡ false → repeated p x m once s ≡ once s
repeated-once p x None once s h = refl
repeated-once p x (Some m) once s h = absurd (true-false h)

pub acted-once : (p : Profile) (tell : Tell) (inner : ℕ → Run) (x : Acting) (o : Option Act) (s : State)
    → is_some (repetition_in o) ≡ false → acted p tell inner x o s ≡ once_done p tell inner x o s
unfolding acted
acted-once p tell inner x o s h = repeated-once p x (repetition_in o) (once_done p tell inner x o) s h

-- so many tests at most
unfoldable pub tested : ℕ → Profile → Acting → Option Meaning → Run → Run
tested left p x None once s = once s
tested left p x (Some test) once s = while_true left p x test once s

repeated-tested : (p : Profile) (x : Acting) (m : Option Meaning) (once : Run) (s : State)
    → is_some m ≡ true → repeated p x m once s ≡ tested (suc s.turns) p x m once s
unfolding tested
repeated-tested p x None once s h = absurd (true-false (sym h))
repeated-tested p x (Some m) once s h = refl

pub acted-tested : (p : Profile) (tell : Tell) (inner : ℕ → Run) (x : Acting) (o : Option Act) (s : State)
    → is_some (repetition_in o) ≡ true → acted p tell inner x o s ≡ tested (suc s.turns) p x (repetition_in o) (once_done p tell inner x o) s
unfolding acted
acted-tested p tell inner x o s h = repeated-tested p x (repetition_in o) (once_done p tell inner x o) s h

pub tested-end : (left : ℕ) (p : Profile) (x : Acting) (o : Option Meaning) (once : Run) (s : State)
    → left ≡ 0 → is_some o ≡ true → tested left p x o once s ≡ refused budget s
unfolding tested
tested-end zero p x (Some m) once s h q = refl
tested-end (suc left) p x (Some m) once s h q = absurd (omega arith)
tested-end left p x None once s h q = absurd (true-false (sym q))

-- a test: its turn is refused
pub tested-stops : (left : ℕ) (p : Profile) (x : Acting) (o : Option Meaning) (once : Run) (s : State) (told : Option Refusal) (calls : List StoreCall)
    → 0 < left → is_some o ≡ true → Refuses told calls (spend s) → Refuses told calls (tested left p x o once s)
unfolding tested
tested-stops zero p x o once s told calls h q r = absurd (omega arith)
tested-stops (suc left) p x (Some m) once s told calls h q r = refuses-then told calls (spend s) _ r
tested-stops (suc left) p x None once s told calls h q r = absurd (true-false (sym q))

-- its turn is spent
pub tested-spent : (left : ℕ) (p : Profile) (x : Acting) (o : Option Meaning) (once : Run) (s t : State)
    → 0 < left → is_some o ≡ true → spend s ≡ Ok t
    → tested left p x o once s ≡ holds p x o t >>= λ b. when b (λ u. once u >>= tested (left - 1) p x o once) t
unfolding tested
tested-spent zero p x o once s t h q e = absurd (omega arith)
tested-spent (suc left) p x (Some m) once s t h q e =
    ap (λ r. r >>= λ t. truth_for p x t m >>= λ b. when b (λ u. once u >>= while_true left p x m once) t) e
    ∙ ap (λ k. truth_for p x t m >>= λ b. when b (λ u. once u >>= while_true k p x m once) t) (let k : left ≡ suc left - 1 = omega arith in k)
tested-spent (suc left) p x None once s t h q e = absurd (true-false (sym q))

-- ---- updates

pub when-false : (b : Bool) (run : Run) (s : State) → b ≡ false → when b run s ≡ Ok s
when-false false run s h = refl
when-false true run s h = absurd (true-false h)

pub when-true : (b : Bool) (run : Run) (s : State) → b ≡ true → when b run s ≡ run s
when-true true run s h = refl
when-true false run s h = absurd (true-false (sym h))

pub rounds-end : (left : ℕ) (once : Run) (s : State) → left ≡ 0 → rounds left once s ≡ refused budget s
rounds-end zero once s h = refl
rounds-end (suc left) once s h = absurd (omega arith)

pub rounds-rest : (left : ℕ) (once : Run) (s : State) → 0 < left → is_due s ≡ false → rounds left once s ≡ Ok s
rounds-rest zero once s h q = absurd (omega arith)
rounds-rest (suc left) once s h q = when-false (is_due s) (λ t. spend t >>= once >>= rounds left once) s q

pub rounds-begin : (left : ℕ) (p : Profile) (tell : Tell) (s : State) → 0 < left → is_due s ≡ true
    → rounds left (round p tell) s ≡ round_begun p s >>= λ w. told tell w >>= rounds (left - 1) (round p tell)
rounds-begin zero p tell s h q = absurd (omega arith)
rounds-begin (suc left) p tell s h q =
    when-true (is_due s) (λ t. spend t >>= round p tell >>= rounds left (round p tell)) s q
    ∙ ap (λ r. r >>= rounds left (round p tell)) (round-told p tell s)
    ∙ bind-assoc (round_begun p s) (told tell) (rounds left (round p tell))
    ∙ ap (λ k. round_begun p s >>= λ w. told tell w >>= rounds k (round p tell)) (let k : left ≡ suc left - 1 = omega arith in k)

-- a round: where it begins, and where its events are told
abbrev rounds_after : ℕ → Profile → Tell → List Fired × State → Result State Refused
rounds_after left p tell w = told tell w >>= rounds (left - 1) (round p tell)

pub rounds-stop : (left : ℕ) (p : Profile) (tell : Tell) (s : State) (why : Option Refusal) (calls : List StoreCall)
    → 0 < left → is_due s ≡ true → Refuses why calls (round_begun p s) → Refuses why calls (rounds left (round p tell) s)
rounds-stop left p tell s why calls h q r =
    same-refuses why calls _ _ (rounds-begin left p tell s h q) (refuses-then why calls (round_begun p s) (rounds_after left p tell) r)

pub rounds-told : (left : ℕ) (p : Profile) (tell : Tell) (s t : State) (events : List Fired)
    → 0 < left → is_due s ≡ true → round_begun p s ≡ Ok (events, t)
    → rounds left (round p tell) s ≡ in_turn tell events t >>= rounds (left - 1) (round p tell)
rounds-told left p tell s t events h q e = rounds-begin left p tell s h q ∙ ap (λ r. r >>= rounds_after left p tell) e

pub rounds-next : (left : ℕ) (p : Profile) (tell : Tell) (s t u : State) (events : List Fired)
    → 0 < left → is_due s ≡ true → round_begun p s ≡ Ok (events, t) → in_turn tell events t ≡ Ok u
    → rounds left (round p tell) s ≡ rounds (left - 1) (round p tell) u
rounds-next left p tell s t u events h q e k =
    rounds-told left p tell s t events h q e ∙ ap (λ r. r >>= rounds (left - 1) (round p tell)) k

pub rounds-told_stop : (left : ℕ) (p : Profile) (tell : Tell) (s t : State) (events : List Fired) (why : Option Refusal) (calls : List StoreCall)
    → 0 < left → is_due s ≡ true → round_begun p s ≡ Ok (events, t) → Refuses why calls (in_turn tell events t)
    → Refuses why calls (rounds left (round p tell) s)
rounds-told_stop left p tell s t events why calls h q e r =
    same-refuses why calls _ _ (rounds-told left p tell s t events h q e)
    (refuses-then why calls (in_turn tell events t) (rounds (left - 1) (round p tell)) r)

-- ---- a test of a `while`, and the work after it

abbrev test_after : ℕ → Profile → Acting → Option Meaning → Run → State → Bool → Result State Refused
test_after left p x o once t b = when b (λ u. once u >>= tested (left - 1) p x o once) t

pub tested-unread : (left : ℕ) (p : Profile) (x : Acting) (o : Option Meaning) (once : Run) (s t : State) (why : Option Refusal) (calls : List StoreCall)
    → 0 < left → is_some o ≡ true → spend s ≡ Ok t → Refuses why calls (holds p x o t) → Refuses why calls (tested left p x o once s)
tested-unread left p x o once s t why calls h q e r =
    same-refuses why calls _ _ (tested-spent left p x o once s t h q e) (refuses-then why calls (holds p x o t) (test_after left p x o once t) r)

pub tested-done : (left : ℕ) (p : Profile) (x : Acting) (o : Option Meaning) (once : Run) (s t : State)
    → 0 < left → is_some o ≡ true → spend s ≡ Ok t → holds p x o t ≡ Ok false → tested left p x o once s ≡ Ok t
tested-done left p x o once s t h q e k = tested-spent left p x o once s t h q e ∙ ap (λ r. r >>= test_after left p x o once t) k

tested-worked : (left : ℕ) (p : Profile) (x : Acting) (o : Option Meaning) (once : Run) (s t : State)
    → 0 < left → is_some o ≡ true → spend s ≡ Ok t → holds p x o t ≡ Ok true → tested left p x o once s ≡ once t >>= tested (left - 1) p x o once
tested-worked left p x o once s t h q e k = tested-spent left p x o once s t h q e ∙ ap (λ r. r >>= test_after left p x o once t) k

pub tested-next : (left : ℕ) (p : Profile) (x : Acting) (o : Option Meaning) (once : Run) (s t u : State)
    → 0 < left → is_some o ≡ true → spend s ≡ Ok t → holds p x o t ≡ Ok true → once t ≡ Ok u
    → tested left p x o once s ≡ tested (left - 1) p x o once u
tested-next left p x o once s t u h q e k m = tested-worked left p x o once s t h q e k ∙ ap (λ r. r >>= tested (left - 1) p x o once) m

pub tested-work_stops : (left : ℕ) (p : Profile) (x : Acting) (o : Option Meaning) (once : Run) (s t : State) (why : Option Refusal) (calls : List StoreCall)
    → 0 < left → is_some o ≡ true → spend s ≡ Ok t → holds p x o t ≡ Ok true → Refuses why calls (once t)
    → Refuses why calls (tested left p x o once s)
tested-work_stops left p x o once s t why calls h q e k r =
    same-refuses why calls _ _ (tested-worked left p x o once s t h q e k) (refuses-then why calls (once t) (tested (left - 1) p x o once) r)

-- ---- the work of an action once

pub once-unread : (p : Profile) (tell : Tell) (inner : ℕ → Run) (x : Acting) (o : Option Act) (s : State) (why : Option Refusal) (calls : List StoreCall)
    → Refuses why calls (holds p x (condition_in o) s) → Refuses why calls (once_done p tell inner x o s)
once-unread p tell inner x o s why calls r =
    same-refuses why calls _ _ (once-holds p tell inner x o s)
    (refuses-then why calls (holds p x (condition_in o) s) (work_if p tell inner x o s) r)

pub once-idle : (p : Profile) (tell : Tell) (inner : ℕ → Run) (x : Acting) (o : Option Act) (s : State)
    → holds p x (condition_in o) s ≡ Ok false → once_done p tell inner x o s ≡ Ok s
once-idle p tell inner x o s e = once-holds p tell inner x o s ∙ ap (λ r. r >>= work_if p tell inner x o s) e

pub once-works : (p : Profile) (tell : Tell) (inner : ℕ → Run) (x : Acting) (o : Option Act) (s : State)
    → holds p x (condition_in o) s ≡ Ok true → once_done p tell inner x o s ≡ done_by p tell inner x (work_in o) s
once-works p tell inner x o s e = once-holds p tell inner x o s ∙ ap (λ r. r >>= work_if p tell inner x o s) e

block-works : (p : Profile) (tell : Tell) (inner : ℕ → Run) (x : Acting) (w : Work) (s : State)
    → is_block w ≡ true → done_by p tell inner x w s ≡ in_turn inner (actions_in (interface s) x.element) s
block-works p tell inner x work.all_in_it s h = refl
block-works p tell inner x (work.set_value value) s h = absurd (true-false (sym h))
block-works p tell inner x (work.insert w) s h = absurd (true-false (sym h))
block-works p tell inner x (work.delete w) s h = absurd (true-false (sym h))
block-works p tell inner x (work.set_index k m) s h = absurd (true-false (sym h))
block-works p tell inner x (work.toggle one) s h = absurd (true-false (sym h))
block-works p tell inner x (work.set_focus n) s h = absurd (true-false (sym h))
block-works p tell inner x (work.dispatch w) s h = absurd (true-false (sym h))
block-works p tell inner x (work.send target) s h = absurd (true-false (sym h))
block-works p tell inner x (work.load resource) s h = absurd (true-false (sym h))
block-works p tell inner x work.message s h = absurd (true-false (sym h))
block-works p tell inner x (work.on_model name) s h = absurd (true-false (sym h))

pub once-block : (p : Profile) (tell : Tell) (inner : ℕ → Run) (x : Acting) (o : Option Act) (s : State)
    → holds p x (condition_in o) s ≡ Ok true → is_block (work_in o) ≡ true
    → once_done p tell inner x o s ≡ in_turn inner (actions_in (interface s) x.element) s
once-block p tell inner x o s e k = once-works p tell inner x o s e ∙ block-works p tell inner x (work_in o) s k

-- any other work
pub once-changes : (p : Profile) (tell : Tell) (inner : ℕ → Run) (x : Acting) (o : Option Act) (s : State)
    → holds p x (condition_in o) s ≡ Ok true → is_block (work_in o) ≡ false
    → once_done p tell inner x o s ≡ changed p x (work_in o) s >>= told tell
once-changes p tell inner x o s e k = once-works p tell inner x o s e ∙ work-told p tell inner x (work_in o) s k

-- ---- the same, with what was read

pub once-idle-by : (p : Profile) (tell : Tell) (inner : ℕ → Run) (x : Acting) (o : Option Act) (s : State) (b : Bool)
    → holds p x (condition_in o) s ≡ Ok b → b ≡ false → once_done p tell inner x o s ≡ Ok s
once-idle-by p tell inner x o s b h q = once-idle p tell inner x o s (h ∙ ap (λ v. fine v) q)

pub once-block-by : (p : Profile) (tell : Tell) (inner : ℕ → Run) (x : Acting) (o : Option Act) (s : State) (b : Bool) (parts : List ℕ)
    → holds p x (condition_in o) s ≡ Ok b → b ≡ true → is_block (work_in o) ≡ true → fine (actions_in (interface s) x.element) ≡ Ok parts
    → once_done p tell inner x o s ≡ in_turn inner parts s
once-block-by p tell inner x o s b parts h q k read =
    let same : actions_in (interface s) x.element ≡ parts = cc in
    once-block p tell inner x o s (h ∙ ap (λ v. fine v) q) k ∙ ap (λ ns. in_turn inner ns s) same

pub once-changes-stop : (p : Profile) (tell : Tell) (inner : ℕ → Run) (x : Acting) (o : Option Act) (s : State) (b : Bool) (why : Option Refusal) (calls : List StoreCall)
    → holds p x (condition_in o) s ≡ Ok b → b ≡ true → is_block (work_in o) ≡ false → Refuses why calls (changed p x (work_in o) s)
    → Refuses why calls (once_done p tell inner x o s)
once-changes-stop p tell inner x o s b why calls h q k r =
    same-refuses why calls _ _ (once-changes p tell inner x o s (h ∙ ap (λ v. fine v) q) k) (refuses-then why calls (changed p x (work_in o) s) (told tell) r)

pub once-changed : (p : Profile) (tell : Tell) (inner : ℕ → Run) (x : Acting) (o : Option Act) (s t : State) (b : Bool) (events : List Fired)
    → holds p x (condition_in o) s ≡ Ok b → b ≡ true → is_block (work_in o) ≡ false → changed p x (work_in o) s ≡ Ok (events, t)
    → once_done p tell inner x o s ≡ in_turn tell events t
once-changed p tell inner x o s t b events h q k e =
    once-changes p tell inner x o s (h ∙ ap (λ v. fine v) q) k ∙ ap (λ r. r >>= told tell) e

-- a loop of tests begins
pub acted-begins : (p : Profile) (tell : Tell) (inner : ℕ → Run) (x : Acting) (o : Option Act) (s : State) (most : ℕ)
    → is_some (repetition_in o) ≡ true → suc s.turns ≡ most
    → acted p tell inner x o s ≡ tested most p x (repetition_in o) (once_done p tell inner x o) s
acted-begins p tell inner x o s most h k =
    acted-tested p tell inner x o s h ∙ ap (λ n. tested n p x (repetition_in o) (once_done p tell inner x o) s) k

pub update-begins : (p : Profile) (tell : Tell) (s : State) (most : ℕ) → suc s.turns ≡ most → update p tell s ≡ rounds most (round p tell) s
update-begins p tell s most k = ap (λ n. rounds n (round p tell) s) k
