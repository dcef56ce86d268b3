-- Setvalue and message as works.
use Rattle.std.proofs.Common.{ℕ, ◌≡◌, List, Bool, true, false, not, Option, Some, None, Result, Ok, Err, refl, sym}
use Rattle.xf_store.specs.declared.call.StoreCall.{StoreCall}
use Rattle.xf_def_machine.specs.Program.{Work}
use Rattle.xf_def_machine.specs.Program as work
use Rattle.xf_def_machine.specs.Profile.{Profile}
use Rattle.xf_def_machine.specs.State.{State}
use Rattle.xf_def_forest.specs.Shape.{has_elements}
use Rattle.xf_def_xpath.specs.Setting.{Meaning}
use Rattle.xf_def_ui.specs.Context.{inside}
use Rattle.xf_def_machine.specs.declared.note.Note.TheVariants.{Message}
use Rattle.xf_def_machine.specs.Refusal.{Refusal, Refused, binding, refused, or_long}
use Rattle.xf_def_machine.specs.Flow.{Run, ◌>>=◌, when, where_some}
use Rattle.xf_def_machine.specs.Surround.{interface, quiet, all_in}
use Rattle.xf_def_machine.specs.Primitives.{set_text, add_note}
use Rattle.xf_def_machine.specs.Properties.{readonly_in, path_in}
use Rattle.xf_def_machine.specs.Acting.{Acting}
use Rattle.xf_def_machine.specs.SetValue.{set_value, set_open, unless_parent, value_asked}
use Rattle.xf_def_machine.specs.Telling.{message}
use Rattle.xf_actions.specs.declared.work.Doing.TheVariants.{Sets, Speaks}
use Rattle.xf_actions.specs.Performs.{Refuses, RefusedAs}
use Rattle.xf_actions.specs.Parts.{value_of_work}
use Rattle.xf_actions.specs.Texts.{bound_for, message_text, settable}
use Rattle.xf_actions.specs.Told.{untold}
use Rattle.xf_actions.specs.Changed.{changed, doing_of}
use Rattle.xf_actions.proofs.Flow.{fine, bind-assoc, refuses-then, refuses-any, same-refuses}

-- which work it is that sets, or speaks
pub sets-work : (p : Profile) (x : Acting) (w : Work) (s : State) → doing_of w ≡ Sets → changed p x w s ≡ untold (set_value p x (value_of_work w) s)
sets-work p x (work.set_value value) s h = refl
sets-work p x work.message s h = cc
sets-work p x work.all_in_it s h = cc
sets-work p x (work.insert w) s h = cc
sets-work p x (work.delete w) s h = cc
sets-work p x (work.set_index k m) s h = cc
sets-work p x (work.toggle one) s h = cc
sets-work p x (work.set_focus n) s h = cc
sets-work p x (work.dispatch w) s h = cc
sets-work p x (work.send target) s h = cc
sets-work p x (work.load resource) s h = cc
sets-work p x (work.on_model name) s h = cc

pub speaks-work : (p : Profile) (x : Acting) (w : Work) (s : State) → doing_of w ≡ Speaks → changed p x w s ≡ untold (message p x s)
speaks-work p x work.message s h = refl
speaks-work p x (work.set_value value) s h = cc
speaks-work p x work.all_in_it s h = cc
speaks-work p x (work.insert w) s h = cc
speaks-work p x (work.delete w) s h = cc
speaks-work p x (work.set_index k m) s h = cc
speaks-work p x (work.toggle one) s h = cc
speaks-work p x (work.set_focus n) s h = cc
speaks-work p x (work.dispatch w) s h = cc
speaks-work p x (work.send target) s h = cc
speaks-work p x (work.load resource) s h = cc
speaks-work p x (work.on_model name) s h = cc

refused-untold : (why : Refusal) (calls : List StoreCall) (r : Result State Refused) → RefusedAs why calls r → RefusedAs why calls (untold r)
refused-untold why calls (Err refusal) h = h
refused-untold why calls (Ok s) h = absurd h

pub refuses-untold : (why : Option Refusal) (calls : List StoreCall) (r : Result State Refused) → Refuses why calls r → Refuses why calls (untold r)
unfolding Refuses
refuses-untold None calls r h = tt
refuses-untold (Some why) calls r h = refused-untold why calls r h

-- ---- a message

pub message-stops : (p : Profile) (x : Acting) (s : State) (why : Option Refusal) (calls : List StoreCall)
    → Refuses why calls (message_text p x s) → Refuses why calls (message p x s)
message-stops p x s why calls r =
    same-refuses why calls (message p x s) (message_text p x s >>= λ text. add_note p (Message text) s)
    (sym (bind-assoc (or_long s (inside (interface s) (quiet p s) x.rows x.element)) _ (λ text. add_note p (Message text) s)))
    (refuses-then why calls (message_text p x s) (λ text. add_note p (Message text) s) r)

-- ---- a setvalue

pub set_value-stops : (p : Profile) (x : Acting) (value : Option Meaning) (s : State) (why : Option Refusal) (calls : List StoreCall)
    → Refuses why calls (bound_for p x s) → Refuses why calls (set_value p x value s)
set_value-stops p x value s why calls r =
    refuses-then why calls (bound_for p x s) (λ bound. where_some bound (λ n t. when (not (readonly_in t n)) (set_open p x value n) t) s) r

refused-fine : (why : Refusal) (s : State) → refused why s ≡ fine s → ⊥
refused-fine why s h = cc

unless-stops : (b : Bool) (n : ℕ) (run : Run) (s : State) (why : Option Refusal) (calls : List StoreCall)
    → Refuses why calls (unless_parent b n (λ t. Ok t) s) → Refuses why calls (unless_parent b n run s)
unless-stops true n run s why calls r = r
unless-stops false n run s why calls r = refuses-any why calls s (run s) r

unless-runs : (b : Bool) (n : ℕ) (run : Run) (s : State) (why : Option Refusal) (calls : List StoreCall)
    → unless_parent b n (λ t. Ok t) s ≡ Ok s → Refuses why calls (run s) → Refuses why calls (unless_parent b n run s)
unless-runs true n run s why calls h r = absurd (refused-fine (binding (path_in s n)) s h)
unless-runs false n run s why calls h r = r

pub set_open-stops : (p : Profile) (x : Acting) (value : Option Meaning) (n : ℕ) (s : State) (why : Option Refusal) (calls : List StoreCall)
    → Refuses why calls (settable n s) → Refuses why calls (set_open p x value n s)
set_open-stops p x value n s why calls r =
    unless-stops (has_elements (all_in s) n) n (λ t. value_asked p x t n value >>= λ text. set_text p n text t) s why calls r

pub set_open-unread : (p : Profile) (x : Acting) (value : Option Meaning) (n : ℕ) (s : State) (why : Option Refusal) (calls : List StoreCall)
    → settable n s ≡ Ok s → Refuses why calls (value_asked p x s n value) → Refuses why calls (set_open p x value n s)
set_open-unread p x value n s why calls h r =
    unless-runs (has_elements (all_in s) n) n (λ t. value_asked p x t n value >>= λ text. set_text p n text t) s why calls h
    (refuses-then why calls (value_asked p x s n value) (λ text. set_text p n text s) r)

-- ---- as works

pub sets-stops : (p : Profile) (x : Acting) (w : Work) (s : State) (why : Option Refusal) (calls : List StoreCall)
    → doing_of w ≡ Sets → Refuses why calls (set_value p x (value_of_work w) s) → Refuses why calls (changed p x w s)
sets-stops p x w s why calls h r =
    same-refuses why calls _ _ (sets-work p x w s h) (refuses-untold why calls (set_value p x (value_of_work w) s) r)

pub speaks-stops : (p : Profile) (x : Acting) (w : Work) (s : State) (why : Option Refusal) (calls : List StoreCall)
    → doing_of w ≡ Speaks → Refuses why calls (message p x s) → Refuses why calls (changed p x w s)
speaks-stops p x w s why calls h r = same-refuses why calls _ _ (speaks-work p x w s h) (refuses-untold why calls (message p x s) r)
