-- What the events from outside do, step by step.
use Rattle.std.proofs.Common.{codes, ℕ, ◌≡◌, Bool, true, false, List, [], Option, Some, Result, Ok, Err, refl, ap, ◌∙◌, not}
use Rattle.xf_line.specs.declared.event.Event.TheVariants.{Set, Activate, Index, Send, Dispatch, Reset}
use Rattle.xf_store.specs.declared.answers.Answer.{Answer}
use Rattle.xf_store.specs.declared.call.StoreCall.{StoreCall}
use Rattle.xf_def_ui.specs.Copies.{Copy}
use Rattle.xf_def_ui.specs.Elements.{element_at}
use Rattle.xf_def_ui.specs.Index.{rows_now}
use Rattle.xf_def_machine.specs.Choose.{named_copy, set_index}
use Rattle.xf_def_machine.specs.Events.{Fired, fired, plainly}
use Rattle.xf_def_machine.specs.State.{State}
use Rattle.xf_def_machine.specs.Refusal.{Refusal, Refused, bad_index, disabled, readonly, not_an_item, or_long}
use Rattle.xf_def_machine.specs.Flow.{Run, ◌>>=◌, where_some}
use Rattle.xf_def_machine.specs.SetValue.{unless_parent}
use Rattle.xf_def_machine.specs.Surround.{interface, quiet}
use Rattle.xf_def_machine.specs.Targets.{copy_named, element_named, model_around, or_no_target, take_rows, takes_text, unless}
use Rattle.xf_def_machine.specs.Step.{activate, changed_by, index, is_row, model_named, set, set_bound, settle, tell, to_element, try_set}
use Rattle.xf_actions.specs.Performs.{Refuses}
use Rattle.xf_actions.proofs.Flow.{refuses-any, refuses-then, same-refuses}
use Rattle.xf_def_form.specs.Formed.{profile}
use Rattle.xf_engine.specs.declared.naming.Wanted.{Wanted}
use Rattle.xf_engine.specs.declared.naming.Wanted.TheVariants.{Entry, Trigger, Repeat, Submission, Any}
use Rattle.xf_engine.specs.Naming.{wanted_in}
use Rattle.xf_engine_machine.specs.Tried.{activation_tried, index_tried, node_tried}
use Rattle.xf_engine.proofs.Then.{then-next}

-- ---- what an event names

abbrev target_of : Wanted → List ℕ → State → Result ℕ Refused
target_of wanted id s = or_no_target s (element_named s (wanted_in wanted s) id)

set-tried : (a b k : Bool) (s : State) (bound : Option ℕ) (take : Run) (next : Option ℕ → Run) (last : Run)
    → unless a disabled s >>= unless b readonly >>= unless k not_an_item >>= take >>= next bound >>= last
    ≡ unless a disabled s >>= unless b readonly >>= unless k not_an_item >>= (λ t. Ok bound) >>= (λ node. take s >>= next node >>= last)
set-tried true b k s bound take next last = refl
set-tried false true k s bound take next last = refl
set-tried false false true s bound take next last = refl
set-tried false false false s bound take next last = refl

-- ---- the text of a node

-- what may not be set is not set
pub parent-refuses : (b : Bool) (n : ℕ) (next : Run) (s : State) (why : Option Refusal) (calls : List StoreCall)
    → Refuses why calls (unless_parent b n (λ t. Ok t) s) → Refuses why calls (unless_parent b n next s)
parent-refuses true n next s why calls r = r
parent-refuses false n next s why calls r = refuses-any why calls s (next s) r

pub parent-allows : (b : Bool) (n : ℕ) (next : Run) (s : State) → unless_parent b n (λ t. Ok t) s ≡ Ok s → unless_parent b n next s ≡ next s
parent-allows true n next s h = cc
parent-allows false n next s h = refl

activate-tried : (a : Bool) (s : State) (take settled : Run) (last : Fired → Run) (e : Fired)
    → unless a disabled s >>= take >>= settled >>= last e ≡ unless a disabled s >>= (λ t. Ok e) >>= (λ x. take s >>= settled >>= last x)
activate-tried true s take settled last e = refl
activate-tried false s take settled last e = refl

-- ---- an index is set

index-some : (g : Result (List ℕ) Refused) (tried : List ℕ → Result State Refused) (next last : Run)
    → g >>= (λ rows. tried rows >>= next >>= last) ≡ (g >>= λ rows. tried rows) >>= next >>= last
index-some (Err r) tried next last = refl
index-some (Ok rows) tried next last = refl

-- ---- an event at hand, and one at a copy in the indexed rows

-- one that is made as it is asked for
abbrev fine : {X : Type 0} → X → Result X Refused
fine x = Ok x

module _ (answers : List Answer) where
  -- ---- a text is set

  -- what is done with the node that is found
  abbrev set_at : ℕ → List ℕ → List ℕ → State → Option ℕ → Result State Refused
  set_at n rows text s node = take_rows profile n rows s >>= set_bound profile text node >>= settle profile answers

  set-some : (g : Result Copy Refused) (n : ℕ) (rows text : List ℕ) (s : State)
      → g >>= (λ c. try_set n c text s >>= take_rows profile n rows >>= set_bound profile text c.node >>= settle profile answers)
      ≡ g >>= (λ c. try_set n c text s >>= λ t. Ok c.node) >>= set_at n rows text s
  set-some (Err r) n rows text s = refl
  set-some (Ok c) n rows text s =
      set-tried (not c.enabled) (not c.readwrite) (not (takes_text (element_at (interface s) n).sort c text)) s c.node (take_rows profile n rows) (set_bound profile text) (settle profile answers)

  set-is : (n : ℕ) (rows text : List ℕ) (s : State) → set profile answers n rows text s ≡ node_tried profile n rows text s >>= set_at n rows text s
  set-is n rows text s = set-some (copy_named profile s n rows) n rows text s

  pub set-unnamed : (s : State) (id rows text : List ℕ) (why : Option Refusal) (calls : List StoreCall)
      → Refuses why calls (target_of Entry id s) → Refuses why calls (changed_by profile answers (Set id rows text) s)
  set-unnamed s id rows text why calls r = refuses-then why calls (target_of Entry id s) (λ n. set profile answers n rows text s) r

  set-named : (s : State) (id rows text : List ℕ) (n : ℕ) → target_of Entry id s ≡ Ok n
      → changed_by profile answers (Set id rows text) s ≡ node_tried profile n rows text s >>= set_at n rows text s
  set-named s id rows text n e = then-next (target_of Entry id s) (λ m. set profile answers m rows text s) n e ∙ set-is n rows text s

  pub set-untried : (s : State) (id rows text : List ℕ) (n : ℕ) (why : Option Refusal) (calls : List StoreCall) → target_of Entry id s ≡ Ok n
      → Refuses why calls (node_tried profile n rows text s) → Refuses why calls (changed_by profile answers (Set id rows text) s)
  set-untried s id rows text n why calls e r =
      same-refuses why calls _ _ (set-named s id rows text n e) (refuses-then why calls (node_tried profile n rows text s) (set_at n rows text s) r)

  set-found : (s : State) (id rows text : List ℕ) (n : ℕ) (node : Option ℕ) → target_of Entry id s ≡ Ok n → node_tried profile n rows text s ≡ Ok node
      → changed_by profile answers (Set id rows text) s ≡ set_at n rows text s node
  set-found s id rows text n node e k = set-named s id rows text n e ∙ then-next (node_tried profile n rows text s) (set_at n rows text s) node k

  pub set-untaken : (s : State) (id rows text : List ℕ) (n : ℕ) (node : Option ℕ) (why : Option Refusal) (calls : List StoreCall)
      → target_of Entry id s ≡ Ok n → node_tried profile n rows text s ≡ Ok node → Refuses why calls (take_rows profile n rows s)
      → Refuses why calls (changed_by profile answers (Set id rows text) s)
  set-untaken s id rows text n node why calls e k r =
      same-refuses why calls _ _ (set-found s id rows text n node e k)
      (refuses-then why calls (take_rows profile n rows s >>= set_bound profile text node) (settle profile answers)
      (refuses-then why calls (take_rows profile n rows s) (set_bound profile text node) r))

  set-taken : (s t : State) (id rows text : List ℕ) (n : ℕ) (node : Option ℕ) → target_of Entry id s ≡ Ok n → node_tried profile n rows text s ≡ Ok node
      → take_rows profile n rows s ≡ Ok t → changed_by profile answers (Set id rows text) s ≡ set_bound profile text node t >>= settle profile answers
  set-taken s t id rows text n node e k b =
      set-found s id rows text n node e k ∙ ap (λ r. r >>= set_bound profile text node >>= settle profile answers) b

  pub set-unset : (s t : State) (id rows text : List ℕ) (n : ℕ) (node : Option ℕ) (why : Option Refusal) (calls : List StoreCall)
      → target_of Entry id s ≡ Ok n → node_tried profile n rows text s ≡ Ok node → take_rows profile n rows s ≡ Ok t
      → Refuses why calls (set_bound profile text node t) → Refuses why calls (changed_by profile answers (Set id rows text) s)
  set-unset s t id rows text n node why calls e k b r =
      same-refuses why calls _ _ (set-taken s t id rows text n node e k b) (refuses-then why calls (set_bound profile text node t) (settle profile answers) r)

  pub set-settles : (s t u : State) (id rows text : List ℕ) (n : ℕ) (node : Option ℕ) → target_of Entry id s ≡ Ok n
      → node_tried profile n rows text s ≡ Ok node → take_rows profile n rows s ≡ Ok t → set_bound profile text node t ≡ Ok u
      → changed_by profile answers (Set id rows text) s ≡ settle profile answers u
  set-settles s t u id rows text n node e k b j =
      set-taken s t id rows text n node e k b ∙ then-next (set_bound profile text node t) (settle profile answers) u j

  -- ---- a trigger is activated

  -- what is done with the event that is made
  abbrev activate_by : ℕ → List ℕ → State → Fired → Result State Refused
  activate_by n rows s e = take_rows profile n rows s >>= settle profile answers >>= tell profile answers e

  activate-some : (g : Result Copy Refused) (n : ℕ) (rows : List ℕ) (s : State)
      → g >>= (λ c. unless (not c.enabled) disabled s >>= take_rows profile n rows >>= settle profile answers >>= tell profile answers (plainly (codes "DOMActivate") n c.rows))
      ≡ g >>= (λ c. unless (not c.enabled) disabled s >>= λ t. Ok (plainly (codes "DOMActivate") n c.rows)) >>= activate_by n rows s
  activate-some (Err r) n rows s = refl
  activate-some (Ok c) n rows s =
      activate-tried (not c.enabled) s (take_rows profile n rows) (settle profile answers) (tell profile answers) (plainly (codes "DOMActivate") n c.rows)

  activate-is : (n : ℕ) (rows : List ℕ) (s : State) → activate profile answers n rows s ≡ activation_tried profile n rows s >>= activate_by n rows s
  activate-is n rows s = activate-some (copy_named profile s n rows) n rows s

  pub activate-unnamed : (s : State) (id rows : List ℕ) (why : Option Refusal) (calls : List StoreCall)
      → Refuses why calls (target_of Trigger id s) → Refuses why calls (changed_by profile answers (Activate id rows) s)
  activate-unnamed s id rows why calls r = refuses-then why calls (target_of Trigger id s) (λ n. activate profile answers n rows s) r

  activate-named : (s : State) (id rows : List ℕ) (n : ℕ) → target_of Trigger id s ≡ Ok n
      → changed_by profile answers (Activate id rows) s ≡ activation_tried profile n rows s >>= activate_by n rows s
  activate-named s id rows n e = then-next (target_of Trigger id s) (λ m. activate profile answers m rows s) n e ∙ activate-is n rows s

  pub activate-untried : (s : State) (id rows : List ℕ) (n : ℕ) (why : Option Refusal) (calls : List StoreCall) → target_of Trigger id s ≡ Ok n
      → Refuses why calls (activation_tried profile n rows s) → Refuses why calls (changed_by profile answers (Activate id rows) s)
  activate-untried s id rows n why calls e r =
      same-refuses why calls _ _ (activate-named s id rows n e) (refuses-then why calls (activation_tried profile n rows s) (activate_by n rows s) r)

  activate-found : (s : State) (id rows : List ℕ) (n : ℕ) (x : Fired) → target_of Trigger id s ≡ Ok n → activation_tried profile n rows s ≡ Ok x
      → changed_by profile answers (Activate id rows) s ≡ activate_by n rows s x
  activate-found s id rows n x e k = activate-named s id rows n e ∙ then-next (activation_tried profile n rows s) (activate_by n rows s) x k

  pub activate-untaken : (s : State) (id rows : List ℕ) (n : ℕ) (x : Fired) (why : Option Refusal) (calls : List StoreCall) → target_of Trigger id s ≡ Ok n
      → activation_tried profile n rows s ≡ Ok x → Refuses why calls (take_rows profile n rows s)
      → Refuses why calls (changed_by profile answers (Activate id rows) s)
  activate-untaken s id rows n x why calls e k r =
      same-refuses why calls _ _ (activate-found s id rows n x e k)
      (refuses-then why calls (take_rows profile n rows s >>= settle profile answers) (tell profile answers x)
      (refuses-then why calls (take_rows profile n rows s) (settle profile answers) r))

  activate-taken : (s t : State) (id rows : List ℕ) (n : ℕ) (x : Fired) → target_of Trigger id s ≡ Ok n → activation_tried profile n rows s ≡ Ok x
      → take_rows profile n rows s ≡ Ok t → changed_by profile answers (Activate id rows) s ≡ settle profile answers t >>= tell profile answers x
  activate-taken s t id rows n x e k b = activate-found s id rows n x e k ∙ ap (λ r. r >>= settle profile answers >>= tell profile answers x) b

  pub activate-unsettled : (s t : State) (id rows : List ℕ) (n : ℕ) (x : Fired) (why : Option Refusal) (calls : List StoreCall)
      → target_of Trigger id s ≡ Ok n → activation_tried profile n rows s ≡ Ok x → take_rows profile n rows s ≡ Ok t
      → Refuses why calls (settle profile answers t) → Refuses why calls (changed_by profile answers (Activate id rows) s)
  activate-unsettled s t id rows n x why calls e k b r =
      same-refuses why calls _ _ (activate-taken s t id rows n x e k b) (refuses-then why calls (settle profile answers t) (tell profile answers x) r)

  pub activate-tells : (s t u : State) (id rows : List ℕ) (n : ℕ) (x : Fired) → target_of Trigger id s ≡ Ok n → activation_tried profile n rows s ≡ Ok x
      → take_rows profile n rows s ≡ Ok t → settle profile answers t ≡ Ok u → changed_by profile answers (Activate id rows) s ≡ tell profile answers x u
  activate-tells s t u id rows n x e k b j = activate-taken s t id rows n x e k b ∙ then-next (settle profile answers t) (tell profile answers x) u j

  index-is : (r k : ℕ) (s : State)
      → index profile answers r k s ≡ index_tried profile r k s >>= set_index profile (model_around (interface s) r) r k >>= settle profile answers
  index-is r k s =
      index-some (or_long s (rows_now (interface s) (quiet profile s) s.indexes r)) (λ rows. unless (not (is_row rows k)) bad_index s)
      (set_index profile (model_around (interface s) r) r k) (settle profile answers)

  pub index-unnamed : (s : State) (id : List ℕ) (k : ℕ) (why : Option Refusal) (calls : List StoreCall)
      → Refuses why calls (target_of Repeat id s) → Refuses why calls (changed_by profile answers (Index id k) s)
  index-unnamed s id k why calls q = refuses-then why calls (target_of Repeat id s) (λ r. index profile answers r k s) q

  index-named : (s : State) (id : List ℕ) (k r : ℕ) → target_of Repeat id s ≡ Ok r
      → changed_by profile answers (Index id k) s ≡ index_tried profile r k s >>= set_index profile (model_around (interface s) r) r k >>= settle profile answers
  index-named s id k r e = then-next (target_of Repeat id s) (λ m. index profile answers m k s) r e ∙ index-is r k s

  pub index-untried : (s : State) (id : List ℕ) (k r : ℕ) (why : Option Refusal) (calls : List StoreCall) → target_of Repeat id s ≡ Ok r
      → Refuses why calls (index_tried profile r k s) → Refuses why calls (changed_by profile answers (Index id k) s)
  index-untried s id k r why calls e q =
      let model = model_around (interface s) r in
      same-refuses why calls _ _ (index-named s id k r e)
      (refuses-then why calls (index_tried profile r k s >>= set_index profile model r k) (settle profile answers)
      (refuses-then why calls (index_tried profile r k s) (set_index profile model r k) q))

  index-tried : (s : State) (id : List ℕ) (k r model : ℕ) → target_of Repeat id s ≡ Ok r → index_tried profile r k s ≡ Ok s
      → model_around (interface s) r ≡ model → changed_by profile answers (Index id k) s ≡ set_index profile model r k s >>= settle profile answers
  index-tried s id k r model e t m =
      index-named s id k r e
      ∙ ap (λ g. g >>= set_index profile (model_around (interface s) r) r k >>= settle profile answers) t
      ∙ ap (λ n. set_index profile n r k s >>= settle profile answers) m

  pub index-unset : (s : State) (id : List ℕ) (k r model : ℕ) (why : Option Refusal) (calls : List StoreCall) → target_of Repeat id s ≡ Ok r
      → index_tried profile r k s ≡ Ok s → model_around (interface s) r ≡ model → Refuses why calls (set_index profile model r k s)
      → Refuses why calls (changed_by profile answers (Index id k) s)
  index-unset s id k r model why calls e t m q =
      same-refuses why calls _ _ (index-tried s id k r model e t m) (refuses-then why calls (set_index profile model r k s) (settle profile answers) q)

  pub index-settles : (s u : State) (id : List ℕ) (k r model : ℕ) → target_of Repeat id s ≡ Ok r → index_tried profile r k s ≡ Ok s
      → model_around (interface s) r ≡ model → set_index profile model r k s ≡ Ok u → changed_by profile answers (Index id k) s ≡ settle profile answers u
  index-settles s u id k r model e t m j = index-tried s id k r model e t m ∙ then-next (set_index profile model r k s) (settle profile answers) u j

  -- ---- an event is dispatched

  pub dispatch-unnamed : (s : State) (name id : List ℕ) (why : Option Refusal) (calls : List StoreCall)
      → Refuses why calls (target_of Any id s) → Refuses why calls (changed_by profile answers (Dispatch name id) s)
  dispatch-unnamed s name id why calls r = refuses-then why calls (target_of Any id s) (λ n. to_element profile answers name n s) r

  pub dispatch-tells : (s : State) (name id : List ℕ) (n : ℕ) → target_of Any id s ≡ Ok n → changed_by profile answers (Dispatch name id) s ≡ to_element profile answers name n s
  dispatch-tells s name id n e = then-next (target_of Any id s) (λ m. to_element profile answers name m s) n e

  -- ---- a submission begins

  pub send-unnamed : (s : State) (id : List ℕ) (why : Option Refusal) (calls : List StoreCall)
      → Refuses why calls (target_of Submission id s) → Refuses why calls (changed_by profile answers (Send id) s)
  send-unnamed s id why calls r = refuses-then why calls (target_of Submission id s) (λ n. to_element profile answers (codes "xforms-submit") n s) r

  pub send-tells : (s : State) (id : List ℕ) (n : ℕ) → target_of Submission id s ≡ Ok n
      → changed_by profile answers (Send id) s ≡ to_element profile answers (codes "xforms-submit") n s
  send-tells s id n e = then-next (target_of Submission id s) (λ m. to_element profile answers (codes "xforms-submit") m s) n e

  -- ---- a model is reset

  pub reset-unnamed : (s : State) (id : List ℕ) (why : Option Refusal) (calls : List StoreCall)
      → Refuses why calls (or_no_target s (model_named s id)) → Refuses why calls (changed_by profile answers (Reset id) s)
  reset-unnamed s id why calls r = refuses-then why calls (or_no_target s (model_named s id)) (λ n. to_element profile answers (codes "xforms-reset") n s) r

  pub reset-tells : (s : State) (id : List ℕ) (n : ℕ) → or_no_target s (model_named s id) ≡ Ok n
      → changed_by profile answers (Reset id) s ≡ to_element profile answers (codes "xforms-reset") n s
  reset-tells s id n e = then-next (or_no_target s (model_named s id)) (λ m. to_element profile answers (codes "xforms-reset") m s) n e

  pub told-as : (e made : Fired) (s : State) → fine e ≡ Ok made → tell profile answers e s ≡ tell profile answers made s
  told-as e made s h = let same : e ≡ made = cc in ap (λ (x : Fired). tell profile answers x s) same

  abbrev tells_in : List ℕ → ℕ → List ℕ → Run
  tells_in name n rows t = tell profile answers (fired name true true [] n rows) t

  pub told-in : (s : State) (name : List ℕ) (n : ℕ) (o : Option (List ℕ)) (rows : List ℕ) (made : Fired) → fine (named_copy s n) ≡ Ok o → o ≡ Some rows
      → fine (fired name true true [] n rows) ≡ Ok made → to_element profile answers name n s ≡ tell profile answers made s
  told-in s name n o rows made h is q =
      let found : named_copy s n ≡ o = cc in
      ap (λ o. where_some o (tells_in name n) s) (found ∙ is) ∙ told-as (fired name true true [] n rows) made s q
