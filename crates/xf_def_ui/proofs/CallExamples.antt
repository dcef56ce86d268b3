-- Which handlers an event calls.
use Rattle.std.proofs.Common.{◌≡◌, ℕ, true, false, List, [], ◌∷◌, map, Some, None, refl, codes}
use Rattle.xf_def_syntax.specs.declared.action.Handler.{Handler}
use Rattle.xf_def_syntax.specs.declared.action.Phase.TheVariants.{Capture, Default}
use Rattle.xf_def_ui.specs.declared.answers.CallList.{CallList}
use Rattle.xf_def_ui.specs.Interface.{Interface}
use Rattle.xf_def_ui.specs.Interface as sort
use Rattle.xf_def_ui.specs.Calls.{Event, calls}
use Rattle.xf_def_ui.specs.Examples
use Rattle.xf_def_ui.specs.Examples.{inside, handler, stopping, cancelling, only_at}

-- the root 0 holds a host element 1, which holds a trigger 2; from 3 on stand the handlers
abbrev form : List Handler → Interface
form hs = Examples.interface
    (Examples.top (1 ∷ []) ∷ inside 0 (2 ∷ []) sort.host ∷ inside 1 [] sort.field ∷ map (λ h. inside 0 [] (sort.action (Some h))) hs) [] []

abbrev activate : Event
activate = record { name = codes "DOMActivate"; target = 2; bubbles = true; is_cancelable = true }

abbrev called : List Handler → CallList
called hs = calls (form hs) activate

abbrev capture : ℕ → Handler
capture n = handler (codes "DOMActivate") n Capture

abbrev default : ℕ → Handler
default n = handler (codes "DOMActivate") n Default

abbrev these : List ℕ → CallList
these ns = record { handlers = ns; with_default = true }

abbrev without_default : List ℕ → CallList
without_default ns = record { handlers = ns; with_default = false }

-- down to the parent by capture, then the target, then up: not in the order of the form, and through host elements
down_and_up : called (default 0 ∷ default 1 ∷ default 2 ∷ capture 1 ∷ capture 0 ∷ []) ≡ these (7 ∷ 6 ∷ 5 ∷ 4 ∷ 3 ∷ [])
down_and_up = refl

in_document_order_at_one_observer : called (default 2 ∷ default 1 ∷ default 2 ∷ []) ≡ these (3 ∷ 5 ∷ 4 ∷ [])
in_document_order_at_one_observer = refl

no_capture_at_the_target : called (capture 2 ∷ default 2 ∷ []) ≡ these (4 ∷ [])
no_capture_at_the_target = refl

-- two capture handlers of the root, of which the first stops: the other one is still called, the trigger's is not, and the default follows
a_stop_lets_the_same_observer : called (stopping (capture 0) ∷ capture 0 ∷ default 2 ∷ []) ≡ these (3 ∷ 4 ∷ [])
a_stop_lets_the_same_observer = refl

a_stop_at_the_target : called (default 2 ∷ stopping (default 2) ∷ default 2 ∷ default 1 ∷ []) ≡ these (3 ∷ 4 ∷ 5 ∷ [])
a_stop_at_the_target = refl

a_stop_on_the_way_up : called (stopping (default 1) ∷ default 0 ∷ default 1 ∷ []) ≡ these (3 ∷ 5 ∷ [])
a_stop_on_the_way_up = refl

a_cancel : called (cancelling (default 1) ∷ default 0 ∷ []) ≡ without_default (3 ∷ 4 ∷ [])
a_cancel = refl

a_cancel_that_is_not_reached : called (stopping (default 2) ∷ cancelling (default 1) ∷ []) ≡ these (3 ∷ [])
a_cancel_that_is_not_reached = refl

a_cancel_behind_a_stop_at_one_observer : called (stopping (default 2) ∷ cancelling (default 2) ∷ []) ≡ without_default (3 ∷ 4 ∷ [])
a_cancel_behind_a_stop_at_one_observer = refl

a_cancel_of_what_is_not_cancelable : calls (form (cancelling (default 2) ∷ [])) (record activate { is_cancelable = false }) ≡ these (3 ∷ [])
a_cancel_of_what_is_not_cancelable = refl

without_bubbling : calls (form (capture 0 ∷ default 2 ∷ default 1 ∷ [])) (record activate { bubbles = false }) ≡ these (3 ∷ 4 ∷ [])
without_bubbling = refl

another_event : called (handler (codes "DOMFocusIn") 2 Default ∷ []) ≡ these []
another_event = refl

-- a handler of the root that is called for events at the host element alone
of_another_target : called (only_at 1 (default 0) ∷ only_at 2 (default 0) ∷ []) ≡ these (4 ∷ [])
of_another_target = refl

at_the_root : calls (form (capture 0 ∷ default 0 ∷ default 2 ∷ [])) (record activate { target = 0 }) ≡ these (4 ∷ [])
at_the_root = refl

-- an action without an observer is called by nothing
without_an_observer : called (record (default 0) { observer = None } ∷ []) ≡ these []
without_an_observer = refl
