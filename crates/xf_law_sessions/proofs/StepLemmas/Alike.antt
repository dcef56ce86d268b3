-- What a change makes of a state and of the same state with other numbers, and how such changes follow one another.
use Rattle.std.proofs.Common.{◌≡◌, ℕ, Bool, true, false, List, [], ◌∷◌, map, Option, Some, None, option_map, Result, Ok, Err, refl, ap, ◌∙◌, if◌then◌else◌}
use Rattle.xf_store.specs.declared.answers.Answer.{Answer}
use Rattle.xf_def_machine.specs.Profile.{Profile}
use Rattle.xf_def_machine.specs.State.{State}
use Rattle.xf_def_machine.specs.Refusal.{Refusal, Refused, refused, or_long}
use Rattle.xf_def_machine.specs.Flow.{Run, ◌>>=◌, when, where_some, in_turn}
use Rattle.xf_law_sessions.specs.Same.Going.{Runs, image, Counts, imaged, CountsAfter, GoesAt}
use Rattle.xf_law_machine.proofs.RestLemmas.Holds.{Held}
use Rattle.xf_law_sessions.specs.Step.Steps.{IsOfForm}

-- a renumbering, through the numbers from these on, in an event over these answers of the store
pub record Two : Type 0 where
  pub p : Profile
  pub answers : List Answer
  pub f : ℕ → ℕ
  pub first : ℕ
  pub second : ℕ
  pub runs : Runs p f first second

module _ (e : Two) where
  abbrev pub other : State → State
  other s = image e.f e.second s

  pub record Fits (s : State) : Type 0 where
    pub counts : Counts e.p e.first s
    pub form : IsOfForm s.form

  pub record Alike (x y : Result State Refused) : Type 0 where
    pub is : y ≡ imaged e.f e.second x
    pub fits : Held Fits x

  abbrev pub Goes : Run → Run → Type 0
  Goes run run_too = (s : State) → Fits s → Alike (run s) (run_too (other s))

  -- what is evaluated of both
  abbrev pub mapped : {X Y : Type 0} → (X → Y) → Result X Refused → Result Y Refused
  mapped g (Ok x) = Ok (g x)
  mapped g (Err refusal) = Err refusal

  pub long-mapped : {X Y : Type 0} (g : X → Y) (s : State) (o : Option X) → or_long (other s) (option_map g o) ≡ mapped g (or_long s o)
  long-mapped g s None = refl
  long-mapped g s (Some x) = refl

  pub long-same : {X : Type 0} (s : State) (o : Option X) → or_long (other s) o ≡ or_long s o
  long-same s None = refl
  long-same s (Some x) = refl

  -- ---- one after the other

  pub fine : (s t : State) → t ≡ other s → Fits s → Alike (Ok s) (Ok t)
  fine s t q h = record { is = ap Ok q; fits = h }

  pub none : (why : Refusal) (s : State) → Alike (refused why s) (refused why (other s))
  none why s = record { is = refl; fits = tt }

  pub same-alike : (x y z : Result State Refused) → z ≡ y → Alike x y → Alike x z
  same-alike x y z q h = record { is = q ∙ h.is; fits = h.fits }

  pub then-alike : (x y : Result State Refused) (next next_too : Run) → Alike x y → Goes next next_too → Alike (x >>= next) (y >>= next_too)
  then-alike (Err refusal) y next next_too h k = record { is = ap (λ z. z >>= next_too) h.is; fits = tt }
  then-alike (Ok t) y next next_too h k = let m = k t h.fits in record { is = ap (λ z. z >>= next_too) h.is ∙ m.is; fits = m.fits }

  pub eval-alike : {X Y : Type 0} (g : X → Y) (x : Result X Refused) (y : Result Y Refused) (next : X → Result State Refused) (next_too : Y → Result State Refused)
      → y ≡ mapped g x → ((a : X) → Alike (next a) (next_too (g a))) → Alike (x >>= next) (y >>= next_too)
  eval-alike g (Err refusal) y next next_too q k = record { is = ap (λ z. z >>= next_too) q; fits = tt }
  eval-alike g (Ok a) y next next_too q k = let m = k a in record { is = ap (λ z. z >>= next_too) q ∙ m.is; fits = m.fits }

  pub kept-alike : {X : Type 0} (x y : Result X Refused) (next next_too : X → Result State Refused) → y ≡ x → ((a : X) → Alike (next a) (next_too a)) → Alike (x >>= next) (y >>= next_too)
  kept-alike (Err refusal) y next next_too q k = record { is = ap (λ z. z >>= next_too) q; fits = tt }
  kept-alike (Ok a) y next next_too q k = let m = k a in record { is = ap (λ z. z >>= next_too) q ∙ m.is; fits = m.fits }

  pub when-alike : (b c : Bool) (run run_too : Run) (s : State) → c ≡ b → Fits s → Alike (run s) (run_too (other s)) → Alike (when b run s) (when c run_too (other s))
  when-alike false c run run_too s q h k = record { is = ap (λ d. when d run_too (other s)) q; fits = h }
  when-alike true c run run_too s q h k = record { is = ap (λ d. when d run_too (other s)) q ∙ k.is; fits = k.fits }

  pub some-alike : {X Y : Type 0} (g : X → Y) (o : Option X) (o_too : Option Y) (run : X → Run) (run_too : Y → Run) (s : State)
      → o_too ≡ option_map g o → Fits s → ((a : X) → Alike (run a s) (run_too (g a) (other s))) → Alike (where_some o run s) (where_some o_too run_too (other s))
  some-alike g None o_too run run_too s q h k = record { is = ap (λ z. where_some z run_too (other s)) q; fits = h }
  some-alike g (Some a) o_too run run_too s q h k = let m = k a in record { is = ap (λ z. where_some z run_too (other s)) q ∙ m.is; fits = m.fits }

  pub kept-some : {X : Type 0} (o : Option X) (run run_too : X → Run) (s : State)
      → Fits s → ((a : X) → Alike (run a s) (run_too a (other s))) → Alike (where_some o run s) (where_some o run_too (other s))
  kept-some None run run_too s h k = record { is = refl; fits = h }
  kept-some (Some a) run run_too s h k = k a

  pub turn-alike : {X Y : Type 0} (g : X → Y) (run : X → Run) (run_too : Y → Run) (xs : List X) → ((a : X) → Goes (run a) (run_too (g a)))
      → (s : State) → Fits s → Alike (in_turn run xs s) (in_turn run_too (map g xs) (other s))
  turn-alike g run run_too [] k s h = record { is = refl; fits = h }
  turn-alike g run run_too (x ∷ xs) k s h = then-alike (run x s) (run_too (g x) (other s)) (in_turn run xs) (in_turn run_too (map g xs)) (k x s h) (turn-alike g run run_too xs k)

  pub kept-turn : {X : Type 0} (run run_too : X → Run) (xs : List X) → ((a : X) → Goes (run a) (run_too a)) → (s : State) → Fits s → Alike (in_turn run xs s) (in_turn run_too xs (other s))
  kept-turn run run_too [] k s h = record { is = refl; fits = h }
  kept-turn run run_too (x ∷ xs) k s h = then-alike (run x s) (run_too x (other s)) (in_turn run xs) (in_turn run_too xs) (k x s h) (kept-turn run run_too xs k)

  pub if-alike : (b c : Bool) (x x_too y y_too : Result State Refused) → c ≡ b → Alike x x_too → Alike y y_too → Alike (if b then x else y) (if c then x_too else y_too)
  if-alike true c x x_too y y_too q h k = record { is = ap (λ d. if d then x_too else y_too) q ∙ h.is; fits = h.fits }
  if-alike false c x x_too y y_too q h k = record { is = ap (λ d. if d then x_too else y_too) q ∙ k.is; fits = k.fits }

  -- ---- from the law of one change

  both-held : (x : Result State Refused) → CountsAfter e.p e.first x → Held (λ t. IsOfForm t.form) x → Held Fits x
  both-held (Err refusal) c k = tt
  both-held (Ok t) c k = record { counts = c; form = k }

  pub law-alike : (run run_too : Run) (s : State) → GoesAt e.p e.f e.first e.second run run_too s → Held (λ t. IsOfForm t.form) (run s) → Alike (run s) (run_too (other s))
  law-alike run run_too s g k = record { is = g.is; fits = both-held (run s) g.counts k }
