-- A refusal that is told is one that the machine gives.
use Rattle.std.proofs.Common.{suc, ◌≡◌, Bool, true, false, List, [], ◌∷◌, Result, Ok, Err, refl, ap, sym, ◌∙◌, arith, subst, inl, inr}
use Rattle.std.specs.Prelude.{Contains}
use Rattle.xf_def_machine.specs.declared.limit.LimitWord.{LimitWord}
use Rattle.xf_def_machine.specs.declared.refusal.Refusal.{Refusal}
use Rattle.xf_def_machine.specs.declared.refusal.Refusal.TheVariants.{NoSuchTarget, Disabled, ReadOnly, NotAnItem, BadIndex, PropertyTwice, CalculateOnParent, Binding, Circular, Limit, Budget, Depth, Sends}
use Rattle.xf_def_machine.specs.Refusal as machine
use Rattle.xf_def_machine.specs.Refusal.{Refused}
use Rattle.xf_def_machine.specs.Told.{Tells, told}
use Rattle.xf_actions.specs.Performs.{Among, IsTold, RefusedAs, Refuses}
use Rattle.xf_def_machine.specs.State.{State}
use Rattle.xf_store.specs.declared.call.StoreCall.{StoreCall}
use Rattle.xf_actions.specs.declared.fault.EventFault.TheVariants as fault
use Rattle.xf_actions.specs.Fault.{means}
use Rattle.xf_engine.specs.Handled.{IsStopped}

among-contains : (w : LimitWord) (words : List LimitWord) → Among w words → Contains words w
among-contains w [] h = absurd h
among-contains w (x ∷ xs) (inl e) = (0, omega arith, sym e)
among-contains w (x ∷ xs) (inr h) = let k = among-contains w xs h in let lt = k.1 in (suc k.0, omega arith, k.2)

-- ---- one that is no limit

abbrev is_limit : machine.Refusal → Bool
is_limit (machine.limit words) = true
is_limit why = false

other-why : (r why : machine.Refusal) → IsTold r why → is_limit r ≡ false → why ≡ r
other-why r machine.no_target h k = sym h
other-why r machine.disabled h k = sym h
other-why r machine.readonly h k = sym h
other-why r machine.not_an_item h k = sym h
other-why r machine.bad_index h k = sym h
other-why r (machine.twice path) h k = sym h
other-why r (machine.on_parent path) h k = sym h
other-why r (machine.binding path) h k = sym h
other-why r (machine.circular paths) h k = sym h
other-why r (machine.limit words) h k = absurd (let e : is_limit r ≡ true = ap is_limit h.2 in let c : true ≡ false = sym e ∙ k in cc)
other-why r machine.budget h k = sym h
other-why r machine.depth h k = sym h
other-why r machine.sends h k = sym h

-- ---- a limit

no-limit : {X : Type 0} (words : List LimitWord) (why : machine.Refusal) → machine.limit words ≡ why → is_limit why ≡ false → X
no-limit words why e h = absurd (let c : true ≡ false = ap is_limit e ∙ h in cc)

limit-why : (word : LimitWord) (why : machine.Refusal) → IsTold (machine.limit (word ∷ [])) why → Tells (Limit word) why
limit-why word machine.no_target h = no-limit _ _ h refl
limit-why word machine.disabled h = no-limit _ _ h refl
limit-why word machine.readonly h = no-limit _ _ h refl
limit-why word machine.not_an_item h = no-limit _ _ h refl
limit-why word machine.bad_index h = no-limit _ _ h refl
limit-why word (machine.twice path) h = no-limit _ _ h refl
limit-why word (machine.on_parent path) h = no-limit _ _ h refl
limit-why word (machine.binding path) h = no-limit _ _ h refl
limit-why word (machine.circular paths) h = no-limit _ _ h refl
limit-why word (machine.limit words) h =
    let e : machine.limit (word ∷ []) ≡ machine.limit (h.0 ∷ []) = h.2 in
    let same : word ≡ h.0 = cc in
    (words, refl, subst (λ w. Contains words w) (sym same) (among-contains h.0 words h.1))
limit-why word machine.budget h = no-limit _ _ h refl
limit-why word machine.depth h = no-limit _ _ h refl
limit-why word machine.sends h = no-limit _ _ h refl

-- ---- any

tells : (refusal : Refusal) (why : machine.Refusal) → IsTold (told refusal) why → Tells refusal why
tells (Limit word) why h = limit-why word why h
tells NoSuchTarget why h = other-why _ why h refl
tells Disabled why h = other-why _ why h refl
tells ReadOnly why h = other-why _ why h refl
tells NotAnItem why h = other-why _ why h refl
tells BadIndex why h = other-why _ why h refl
tells (PropertyTwice path) why h = other-why _ why h refl
tells (CalculateOnParent path) why h = other-why _ why h refl
tells (Binding path) why h = other-why _ why h refl
tells (Circular paths) why h = other-why _ why h refl
tells Budget why h = other-why _ why h refl
tells Depth why h = other-why _ why h refl
tells Sends why h = other-why _ why h refl

refused-as : (refusal : Refusal) (made : List StoreCall) (given : Result State Refused) → RefusedAs (told refusal) made given → IsStopped refusal made given
refused-as refusal made (Ok t) h = absurd h
refused-as refusal made (Err r) h = (tells refusal r.why h.0, h.1)

-- what a fault of an event tells
pub refused-for : (refusal : Refusal) (made : List StoreCall) (given : Result State Refused) → Refuses (means (fault.Refused refusal)) made given → IsStopped refusal made given
unfolding Refuses
refused-for refusal made given h = refused-as refusal made given h
