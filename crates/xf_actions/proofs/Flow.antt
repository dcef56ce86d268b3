-- How one change follows another, and what a refusal of the first means for both.
use Rattle.std.proofs.Common.{ℕ, ◌≡◌, ◌+◌, ◌<◌, ◌≤◌, List, [], ◌∷◌, length, map, drop, get_or, Option, Some, None, Result, Ok, Err, refl, ap, sym, ◌∙◌, subst}
use Rattle.std.proofs.lemmas.List.{at_drop_more, at_drop_all, get_or-map, length-map}
use Rattle.std.specs.Result.{IsErrAnd}
use Rattle.xf_store.specs.declared.call.StoreCall.{StoreCall}
use Rattle.xf_def_machine.specs.Refusal.{Refusal, Refused}
use Rattle.xf_def_machine.specs.State.{State}
use Rattle.xf_def_machine.specs.Flow.{Run, ◌>>=◌, in_turn}
use Rattle.xf_actions.specs.Performs.{Refuses, RefusedAs, Runs, Makes, Leaves, Reads}

-- what is done, as a result that could be refused
abbrev pub fine : {X : Type 0} → X → Result X Refused
fine x = Ok x

pub bind-assoc : {A B C : Type 0} (g : Result A Refused) (f : A → Result B Refused) (h : B → Result C Refused)
    → (g >>= f) >>= h ≡ g >>= (λ x. f x >>= h)
bind-assoc (Err r) f h = refl
bind-assoc (Ok x) f h = refl

pub refused-then : {A B : Type 0} (told : Refusal) (calls : List StoreCall) (g : Result A Refused) (next : A → Result B Refused)
    → RefusedAs told calls g → RefusedAs told calls (g >>= next)
refused-then told calls (Err r) next h = h
refused-then told calls (Ok x) next h = absurd h

-- what refuses the first refuses both
pub refuses-then : {A B : Type 0} (told : Option Refusal) (calls : List StoreCall) (g : Result A Refused) (next : A → Result B Refused)
    → Refuses told calls g → Refuses told calls (g >>= next)
unfolding Refuses
refuses-then None calls g next h = tt
refuses-then (Some told) calls g next h = refused-then told calls g next h

-- where the first is done, the rest begins in the state that it left
pub in_turn-next : {X : Type 0} (run : X → Run) (x : X) (xs : List X) (s t : State)
    → run x s ≡ Ok t → in_turn run (x ∷ xs) s ≡ in_turn run xs t
in_turn-next run x xs s t e = ap (λ r. r >>= in_turn run xs) e

-- the rest counts at the states where it begins
pub then-same : {A B : Type 0} (g : Result A Refused) (h k : A → Result B Refused) → ((x : A) → h x ≡ k x) → g >>= h ≡ g >>= k
then-same (Err r) h k e = refl
then-same (Ok x) h k e = e x

pub then-ok : {A : Type 0} (g : Result A Refused) → g >>= (λ x. Ok x) ≡ g
then-ok (Err r) = refl
then-ok (Ok x) = refl

-- ---- a loop over a list: what is left of it from here gives what the whole list gives

pub in_turn-step : {X : Type 0} (run : X → Run) (xs : List X) (i : ℕ) (d : X) (s t : State)
    → i < length xs → run (get_or xs i d) s ≡ Ok t → in_turn run (drop i xs) s ≡ in_turn run (drop (i + 1) xs) t
in_turn-step run xs i d s t h e = at_drop_more (λ ys. in_turn run ys s) xs i d h ∙ in_turn-next run (get_or xs i d) (drop (i + 1) xs) s t e

pub in_turn-stop : {X : Type 0} (run : X → Run) (xs : List X) (i : ℕ) (d : X) (s : State) (told : Option Refusal) (calls : List StoreCall)
    → i < length xs → Refuses told calls (run (get_or xs i d) s) → Refuses told calls (in_turn run (drop i xs) s)
in_turn-stop run xs i d s told calls h r =
    rw (at_drop_more (λ ys. in_turn run ys s) xs i d h) (refuses-then told calls (run (get_or xs i d) s) (in_turn run (drop (i + 1) xs)) r)

-- ---- the same in other words

pub same-refuses : {X : Type 0} (told : Option Refusal) (calls : List StoreCall) (g h : Result X Refused)
    → g ≡ h → Refuses told calls h → Refuses told calls g
same-refuses told calls g h e r = subst (λ (k : Result _ Refused). Refuses told calls k) (sym e) r

pub same-runs : {F T : Type 0} (means : F → Option Refusal) (new : State) (r : Result T F) (g h : Result State Refused)
    → g ≡ h → Runs means new r h → Runs means new r g
same-runs means new r g h e q = subst (λ (k : Result State Refused). Runs means new r k) (sym e) q

-- what cannot be refused is refused for want of memory alone
pub refuses-any : {X Y : Type 0} (told : Option Refusal) (calls : List StoreCall) (x : X) (g : Result Y Refused)
    → Refuses {X = X} told calls (Ok x) → Refuses told calls g
unfolding Refuses
refuses-any None calls x g h = tt
refuses-any (Some told) calls x g h = absurd h

-- want of memory is refused by nothing
pub refuses-none : {X : Type 0} (told : Option Refusal) (calls : List StoreCall) (g : Result X Refused) → told ≡ None → Refuses told calls g
unfolding Refuses
refuses-none None calls g h = tt
refuses-none (Some why) calls g h = cc

-- what a call passes on by `?`
pub stopped : {F T : Type 0} (means : F → Option Refusal) (new : State) (r : Result T F) (e : F) (given : Result State Refused)
    → IsErrAnd r (λ y. y ≡ e) → Refuses (means e) new.calls given → Runs means new r given
stopped means new (Ok x) e given is q = absurd is
stopped means new (Err y) e given is q = subst (λ f. Refuses (means f) new.calls given) (sym is) q

pub makes-stopped : {F T X : Type 0} (means : F → Option Refusal) (view : T → X) (new : State) (r : Result T F) (e : F) (given : Result (X × State) Refused)
    → IsErrAnd r (λ y. y ≡ e) → Refuses (means e) new.calls given → Makes means view new r given
makes-stopped means view new (Ok x) e given is q = absurd is
makes-stopped means view new (Err y) e given is q = subst (λ f. Refuses (means f) new.calls given) (sym is) q

pub leaves-stopped : {F T X : Type 0} (means : F → Option Refusal) (view : T → X) (new : State) (r : Result T F) (e : F) (given : Result X Refused)
    → IsErrAnd r (λ y. y ≡ e) → Refuses (means e) new.calls given → Leaves means view new r given
leaves-stopped means view new (Ok x) e given is q = absurd is
leaves-stopped means view new (Err y) e given is q = subst (λ f. Refuses (means f) new.calls given) (sym is) q

pub same-leaves : {F T X : Type 0} (means : F → Option Refusal) (view : T → X) (new : State) (r : Result T F) (g h : Result X Refused)
    → g ≡ h → Leaves means view new r h → Leaves means view new r g
same-leaves means view new r g h e q = subst (λ (k : Result _ Refused). Leaves means view new r k) (sym e) q

pub reads-stopped : {F T X : Type 0} (means : F → Option Refusal) (view : T → X) (now : State) (r : Result T F) (e : F) (given : Result X Refused)
    → IsErrAnd r (λ y. y ≡ e) → Refuses (means e) now.calls given → Reads means view now r given
reads-stopped means view now (Ok x) e given is q = absurd is
reads-stopped means view now (Err y) e given is q = subst (λ f. Refuses (means f) now.calls given) (sym is) q

pub same-reads : {F T X : Type 0} (means : F → Option Refusal) (view : T → X) (now : State) (r : Result T F) (g h : Result X Refused)
    → g ≡ h → Reads means view now r h → Reads means view now r g
same-reads means view now r g h e q = subst (λ (k : Result _ Refused). Reads means view now r k) (sym e) q

-- one that is read stands alone, in the state that is there
pub one-read : {F T X : Type 0} (means : F → Option Refusal) (view : T → List X) (now : State) (r : Result T F) (e f : X)
    → Reads means view now r (Ok (f ∷ [])) → fine e ≡ Ok f → Reads {X = List X × State} means (λ l. (view l, now)) now r (Ok (e ∷ [], now))
one-read means view now (Ok l) e f q h =
    let same : e ≡ f = cc in
    let list : (f ∷ []) ≡ view l = cc in
    ap (λ (k : List _). fine (k, now)) (ap (λ y. y ∷ []) same ∙ list)
one-read means view now (Err fault) e f q h = refuses-any (means fault) now.calls (f ∷ []) (Ok (e ∷ [], now)) q

pub one-made : {F T X : Type 0} (means : F → Option Refusal) (view : T → List X) (now : State) (r : Result T F) (e f : X)
    → Reads means view now r (Ok (f ∷ [])) → fine e ≡ Ok f → Makes means view now r (Ok (e ∷ [], now))
one-made means view now (Ok l) e f q h = one-read means view now (Ok l) e f q h
one-made means view now (Err fault) e f q h = one-read means view now (Err fault) e f q h

-- ---- the same loop, over what a list stands for

pub told-step : {A X : Type 0} (run : X → Run) (f : A → X) (xs : List A) (i : ℕ) (x : A) (s t : State)
    → i < length xs → x ≡ get_or xs i x → run (f x) s ≡ Ok t → in_turn run (drop i (map f xs)) s ≡ in_turn run (drop (i + 1) (map f xs)) t
told-step run f xs i x s t h is e =
    in_turn-step run (map f xs) i (f x) s t (rw (length-map xs f) h)
    (ap (λ y. run y s) (get_or-map f xs i x (f x) h ∙ ap f (sym is)) ∙ e)

pub told-stop : {A X : Type 0} (run : X → Run) (f : A → X) (xs : List A) (i : ℕ) (x : A) (s : State) (told : Option Refusal) (calls : List StoreCall)
    → i < length xs → x ≡ get_or xs i x → Refuses told calls (run (f x) s) → Refuses told calls (in_turn run (drop i (map f xs)) s)
told-stop run f xs i x s told calls h is r =
    in_turn-stop run (map f xs) i (f x) s told calls (rw (length-map xs f) h)
    (same-refuses told calls _ _ (ap (λ y. run y s) (get_or-map f xs i x (f x) h ∙ ap f (sym is))) r)

-- nothing is left

pub in_turn-end : {X : Type 0} (run : X → Run) (xs : List X) (i : ℕ) (s : State) → length xs ≤ i → in_turn run (drop i xs) s ≡ Ok s
in_turn-end run xs i s h = at_drop_all (λ ys. in_turn run ys s) xs i h

pub told-end : {A X : Type 0} (run : X → Run) (f : A → X) (xs : List A) (i : ℕ) (s : State) → length xs ≤ i → in_turn run (drop i (map f xs)) s ≡ Ok s
told-end run f xs i s h = in_turn-end run (map f xs) i s (rw (length-map xs f) h)
