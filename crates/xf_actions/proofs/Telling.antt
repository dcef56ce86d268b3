-- Each change of the machine that tells events is what is done before, and then the events told one after the other.
use Rattle.std.proofs.Common.{◌≡◌, List, [], ◌∷◌, map, Bool, true, false, Option, Some, None, Result, Ok, Err, refl, sym, ◌∙◌}
use Rattle.xf_def_machine.specs.Profile.{Profile}
use Rattle.xf_def_machine.specs.State.{State}
use Rattle.xf_def_machine.specs.Refusal.{Refused}
use Rattle.xf_def_machine.specs.Flow.{Run, ◌>>=◌, when, where_some, in_turn}
use Rattle.xf_def_machine.specs.Primitives.{spend}
use Rattle.xf_def_machine.specs.Update.{reindex, shown, refresh, round, is_refresh_due, all_cleared}
use Rattle.xf_def_machine.specs.Events.{Fired, Tell}
use Rattle.xf_actions.specs.Told.{Telling, told, refreshed, refreshed_if, all_behaved, round_begun, untold, where_told, tells}
use Rattle.xf_actions.proofs.Flow.{bind-assoc, then-same, then-ok}

-- ---- lists of events

pub in_turn-map : {X : Type 0} (tell : Tell) (f : X → Fired) (xs : List X) (s : State)
    → in_turn (λ x. tell (f x)) xs s ≡ in_turn tell (map f xs) s
in_turn-map tell f [] s = refl
in_turn-map tell f (x ∷ xs) s = then-same (tell (f x) s) _ _ (in_turn-map tell f xs)

pub untold-told : (tell : Tell) (r : Result State Refused) → r ≡ untold r >>= told tell
untold-told tell (Err refusal) = refl
untold-told tell (Ok s) = refl

pub where-told : {X : Type 0} (tell : Tell) (run : X → Run) (change : X → Telling) (o : Option X) (s : State)
    → ((x : X) (t : State) → run x t ≡ change x t >>= told tell) → where_some o run s ≡ where_told o change s >>= told tell
where-told tell run change None s e = refl
where-told tell run change (Some x) s e = e x s

-- one event
pub one-told : (tell : Tell) (e : Fired) (s : State) → tell e s ≡ told tell (tells e s)
one-told tell e s = sym (then-ok (tell e s))

-- two events
pub two-told : (tell : Tell) (e f : Fired) (s : State) → tell e s >>= tell f ≡ told tell (e ∷ f ∷ [], s)
two-told tell e f s = then-same (tell e s) _ _ (one-told tell f)

-- ---- refreshes and rounds

pub refresh-told : (p : Profile) (cleared : State → State) (tell : Tell) (s : State)
    → refresh p cleared tell s ≡ refreshed p cleared s >>= told tell
refresh-told p cleared tell s =
    then-same (reindex p [] s) _ _ (λ t. then-same (shown p t) _ _ (λ list. in_turn-map tell _ _ _) ∙ sym (bind-assoc (shown p t) _ (told tell)))
    ∙ sym (bind-assoc (reindex p [] s) _ (told tell))

pub refresh_if-told : (b : Bool) (p : Profile) (tell : Tell) (s : State)
    → when b (refresh p all_cleared tell) s ≡ refreshed_if b p s >>= told tell
refresh_if-told false p tell s = refl
refresh_if-told true p tell s = refresh-told p all_cleared tell s

pub round-told : (p : Profile) (tell : Tell) (s : State) → spend s >>= round p tell ≡ round_begun p s >>= told tell
round-told p tell s =
    then-same (spend s) _ _ (λ u. then-same (all_behaved p u) _ _ (λ t. refresh_if-told (is_refresh_due t) p tell t))
    ∙ sym (bind-assoc (spend s >>= all_behaved p) _ (told tell) ∙ bind-assoc (spend s) (all_behaved p) _)
