-- Which work it is, by its kind: what is then changed.
use Rattle.std.proofs.Common.{ℕ, ◌≡◌, List, [], Option, Some, None, option_map, Ok, refl, ap, sym, ◌∙◌, get_or}
use Rattle.xf_store.specs.declared.call.StoreCall.{StoreCall}
use Rattle.xf_def_xpath.specs.Setting.{Meaning}
use Rattle.xf_def_machine.specs.Program.{Work}
use Rattle.xf_def_machine.specs.Program as work
use Rattle.xf_def_machine.specs.Profile.{Profile}
use Rattle.xf_def_machine.specs.State.{State}
use Rattle.xf_def_machine.specs.Refusal.{Refusal}
use Rattle.xf_def_machine.specs.Flow.{Run, ◌>>=◌, where_some}
use Rattle.xf_def_machine.specs.Surround.{interface}
use Rattle.xf_def_machine.specs.Acting.{Acting, binding_of, whole_for}
use Rattle.xf_def_machine.specs.Primitives.{add_note}
use Rattle.xf_def_machine.specs.Events.{fired}
use Rattle.xf_def_machine.specs.declared.note.Note.TheVariants.{Load}
use Rattle.xf_def_syntax.specs.declared.action.DispatchWork.{DispatchWork}
use Rattle.xf_def_machine.specs.Choose.{named_copy, not_below_zero, set_index, act_index}
use Rattle.xf_def_machine.specs.Telling.{loaded_text, load, focus}
use Rattle.xf_actions.specs.declared.work.Doing.TheVariants.{Loads, Indexes, Focuses}
use Rattle.xf_actions.specs.Performs.{Refuses}
use Rattle.xf_actions.specs.Parts.{index_of_work, resource_of_work}
use Rattle.xf_actions.specs.Chosen.{index_asked, index_chosen}
use Rattle.xf_actions.specs.Told.{untold, where_told, tells}
use Rattle.xf_actions.specs.Changed.{dispatched, on_model, only_tells, changed, doing_of}
use Rattle.xf_actions.proofs.Flow.{fine, bind-assoc, refuses-then, same-refuses}
use Rattle.xf_actions.proofs.Doings.{refuses-untold}

-- ---- a setindex

where-same : {X : Type 0} (o : Option X) (f g : X → Run) (s : State) → ((x : X) (t : State) → f x t ≡ g x t) → where_some o f s ≡ where_some o g s
where-same None f g s e = refl
where-same (Some x) f g s e = e x s

index-same : (p : Profile) (x : Acting) (k : ℕ) (m : Meaning) (s : State) → act_index p x k m s ≡ index_chosen p x k (Some m) s
index-same p x k m s =
    where-same (named_copy s (get_or (interface s).repeats k 0)) _ _ s
    (λ rows t. sym (bind-assoc (whole_for p x t x.focus m) (λ number. Ok (option_map not_below_zero number)) (λ index. where_some index (set_index p x.model (get_or (interface s).repeats k 0)) t)))

-- it is asked for after the copy is found
pub index-unread : (p : Profile) (x : Acting) (k r : ℕ) (m : Option Meaning) (s : State) (copy : Option (List ℕ)) (rows : List ℕ) (why : Option Refusal) (calls : List StoreCall)
    → r ≡ get_or (interface s).repeats k 0 → fine (named_copy s r) ≡ Ok copy → copy ≡ Some rows
    → Refuses why calls (index_asked p x m s) → Refuses why calls (index_chosen p x k m s)
index-unread p x k r m s copy rows why calls is h e q =
    let next = λ (index : Option ℕ). where_some index (set_index p x.model (get_or (interface s).repeats k 0)) s in
    let once = λ (row : List ℕ) (t : State). index_asked p x m t >>= λ index. where_some index (set_index p x.model (get_or (interface s).repeats k 0)) t in
    let found : named_copy s r ≡ Some rows = cc in
    same-refuses why calls _ _ (ap (λ (o : Option (List ℕ)). where_some o once s) (ap (named_copy s) (sym is) ∙ found))
    (refuses-then why calls (index_asked p x m s) next q)

pub asked-unread : (p : Profile) (x : Acting) (m : Meaning) (o : Option Meaning) (s : State) (why : Option Refusal) (calls : List StoreCall)
    → o ≡ Some m → Refuses why calls (whole_for p x s x.focus m) → Refuses why calls (index_asked p x o s)
asked-unread p x m o s why calls e r =
    same-refuses why calls _ _ (ap (λ (i : Option Meaning). index_asked p x i s) e)
    (refuses-then why calls (whole_for p x s x.focus m) (λ number. Ok (option_map not_below_zero number)) r)

-- ---- a load, a dispatch, an event to the model

pub load-stops : (p : Profile) (x : Acting) (resource : List ℕ) (s : State) (why : Option Refusal) (calls : List StoreCall)
    → Refuses why calls (loaded_text p x resource s (binding_of x s)) → Refuses why calls (load p x resource s)
load-stops p x resource s why calls r = refuses-then why calls (loaded_text p x resource s (binding_of x s)) (λ text. add_note p (Load text) s) r

pub dispatched-some : (w : DispatchWork) (s : State) (copy : Option (List ℕ)) (rows : List ℕ)
    → fine (named_copy s w.target) ≡ Ok copy → copy ≡ Some rows
    → dispatched w s ≡ fine (tells (fired w.name w.bubbles w.is_cancelable [] w.target rows) s)
dispatched-some w s copy rows h e =
    let found : named_copy s w.target ≡ Some rows = cc in
    ap (λ (o : Option (List ℕ)). where_told o (λ row t. Ok (tells (fired w.name w.bubbles w.is_cancelable [] w.target row) t)) s) found

pub model-tells : (name : List ℕ) (model : ℕ) (w : Work) (s : State) → w ≡ work.on_model name → only_tells model w s ≡ on_model name model s
model-tells name model w s e = ap (λ v. only_tells model v s) e

-- ---- by their kinds

pub loads-work : (p : Profile) (x : Acting) (w : Work) (s : State) → doing_of w ≡ Loads → changed p x w s ≡ untold (load p x (resource_of_work w) s)
loads-work p x work.all_in_it s h = cc
loads-work p x (work.set_value value) s h = cc
loads-work p x work.message s h = cc
loads-work p x (work.insert w) s h = cc
loads-work p x (work.delete w) s h = cc
loads-work p x (work.set_index k m) s h = cc
loads-work p x (work.toggle one) s h = cc
loads-work p x (work.set_focus n) s h = cc
loads-work p x (work.dispatch w) s h = cc
loads-work p x (work.send target) s h = cc
loads-work p x (work.load resource) s h = refl
loads-work p x (work.on_model name) s h = cc

pub indexes-work : (p : Profile) (x : Acting) (w : Work) (r : ℕ) (s : State) → doing_of w ≡ Indexes r → changed p x w s ≡ untold (index_chosen p x r (index_of_work w) s)
indexes-work p x work.all_in_it r s h = cc
indexes-work p x (work.set_value value) r s h = cc
indexes-work p x work.message r s h = cc
indexes-work p x (work.insert w) r s h = cc
indexes-work p x (work.delete w) r s h = cc
indexes-work p x (work.set_index k m) r s h = let e : k ≡ r = cc in ap (λ j. untold (act_index p x j m s)) e ∙ ap untold (index-same p x r m s)
indexes-work p x (work.toggle one) r s h = cc
indexes-work p x (work.set_focus n) r s h = cc
indexes-work p x (work.dispatch w) r s h = cc
indexes-work p x (work.send target) r s h = cc
indexes-work p x (work.load resource) r s h = cc
indexes-work p x (work.on_model name) r s h = cc

pub focuses-work : (p : Profile) (x : Acting) (w : Work) (r : ℕ) (s : State) → doing_of w ≡ Focuses r → changed p x w s ≡ untold (focus p r s)
focuses-work p x work.all_in_it r s h = cc
focuses-work p x (work.set_value value) r s h = cc
focuses-work p x work.message r s h = cc
focuses-work p x (work.insert w) r s h = cc
focuses-work p x (work.delete w) r s h = cc
focuses-work p x (work.set_index k m) r s h = cc
focuses-work p x (work.toggle one) r s h = cc
focuses-work p x (work.set_focus n) r s h = let e : n ≡ r = cc in ap (λ j. untold (focus p j s)) e
focuses-work p x (work.dispatch w) r s h = cc
focuses-work p x (work.send target) r s h = cc
focuses-work p x (work.load resource) r s h = cc
focuses-work p x (work.on_model name) r s h = cc

-- ---- refusals

pub loads-stops : (p : Profile) (x : Acting) (w : Work) (s : State) (why : Option Refusal) (calls : List StoreCall)
    → doing_of w ≡ Loads → Refuses why calls (load p x (resource_of_work w) s) → Refuses why calls (changed p x w s)
loads-stops p x w s why calls h r =
    same-refuses why calls _ _ (loads-work p x w s h) (refuses-untold why calls (load p x (resource_of_work w) s) r)

pub indexes-stops : (p : Profile) (x : Acting) (w : Work) (k : ℕ) (s : State) (why : Option Refusal) (calls : List StoreCall)
    → doing_of w ≡ Indexes k → Refuses why calls (index_chosen p x k (index_of_work w) s) → Refuses why calls (changed p x w s)
indexes-stops p x w k s why calls h r =
    same-refuses why calls _ _ (indexes-work p x w k s h) (refuses-untold why calls (index_chosen p x k (index_of_work w) s) r)

pub focuses-stops : (p : Profile) (x : Acting) (w : Work) (n : ℕ) (s : State) (why : Option Refusal) (calls : List StoreCall)
    → doing_of w ≡ Focuses n → Refuses why calls (focus p n s) → Refuses why calls (changed p x w s)
focuses-stops p x w n s why calls h r = same-refuses why calls _ _ (focuses-work p x w n s h) (refuses-untold why calls (focus p n s) r)
