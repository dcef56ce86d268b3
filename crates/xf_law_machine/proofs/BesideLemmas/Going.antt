-- How changes that do not look at notes and calls follow one another.
use Rattle.std.proofs.Common.{◌≡◌, Bool, true, false, List, [], ◌∷◌, Option, Some, None, Result, Ok, Err, refl, ap, sym, ◌∙◌}
use Rattle.xf_def_machine.specs.declared.limit.LimitWord.{LimitWord}
use Rattle.xf_def_machine.specs.State.{State}
use Rattle.xf_def_machine.specs.Refusal.{Refused, or_long, unless_passed}
use Rattle.xf_def_machine.specs.Flow.{Run, ◌>>=◌, when, where_some, in_turn}
use Rattle.xf_law_machine.specs.Beside.Beside.{Beside, beside, beside_of, besides, read_beside, made_beside, GoesBeside, MakesBeside, ReadsBeside, SameBeside}
use Rattle.xf_law_machine.specs.Beside.Laws.{LeavesBeside}

-- ---- of changes

pub then-goes : (b : Beside) (r : Result State Refused) (next : Run) → GoesBeside next → besides b r >>= next ≡ besides b (r >>= next)
then-goes b (Err x) next g = refl
then-goes b (Ok t) next g = g b t

pub both-go : (run next : Run) → GoesBeside run → GoesBeside next → GoesBeside (λ s. run s >>= next)
both-go run next g h b s = ap (λ r. r >>= next) (g b s) ∙ then-goes b (run s) next h

pub when-goes : (c : Bool) (run : Run) → GoesBeside run → GoesBeside (when c run)
when-goes false run g b s = refl
when-goes true run g b s = g b s

pub some-goes : {X : Type 0} (o : Option X) (run : X → Run) → ((x : X) → GoesBeside (run x)) → GoesBeside (where_some o run)
some-goes None run g b s = refl
some-goes (Some x) run g b s = g x b s

pub turn-goes : {X : Type 0} (run : X → Run) (xs : List X) → ((x : X) → GoesBeside (run x)) → GoesBeside (in_turn run xs)
turn-goes run [] g b s = refl
turn-goes run (x ∷ xs) g b s = ap (λ r. r >>= in_turn run xs) (g x b s) ∙ then-goes b (run x s) (in_turn run xs) (turn-goes run xs g)

pub then-makes : {X : Type 0} (b : Beside) (r : Result State Refused) (next : State → Result (X × State) Refused) → MakesBeside next
    → besides b r >>= next ≡ made_beside b (r >>= next)
then-makes b (Err x) next g = refl
then-makes b (Ok t) next g = g b t

-- what a change gives is used in the next one
pub made-then : {X : Type 0} (b : Beside) (r : Result (X × State) Refused) (next : X × State → Result State Refused)
    → ((x : X) (t : State) → next (x, beside b t) ≡ besides b (next (x, t))) → made_beside b r >>= next ≡ besides b (r >>= next)
made-then b (Err x) next g = refl
made-then b (Ok (x, t)) next g = g x t

-- ---- of readings

pub then-reads : {X Y : Type 0} (b : Beside) (r : Result X Refused) (one other : X → Result Y Refused) → ((x : X) → one x ≡ read_beside b (other x))
    → read_beside b r >>= one ≡ read_beside b (r >>= other)
then-reads b (Err x) one other g = refl
then-reads b (Ok x) one other g = g x

-- what is read is used in a change
pub then-run : {X : Type 0} (b : Beside) (r : Result X Refused) (one other : X → Result State Refused) → ((x : X) → one x ≡ besides b (other x))
    → read_beside b r >>= one ≡ besides b (r >>= other)
then-run b (Err x) one other g = refl
then-run b (Ok x) one other g = g x

pub long-reads : {X : Type 0} (b : Beside) (s : State) (o : Option X) → or_long (beside b s) o ≡ read_beside b (or_long s o)
long-reads b s None = refl
long-reads b s (Some x) = refl

pub asked-reads : {X : Type 0} (asked : State → Option X) → SameBeside asked → ReadsBeside (λ s. or_long s (asked s))
asked-reads asked g b s = ap (or_long (beside b s)) (g b s) ∙ long-reads b s (asked s)

pub passed-reads : {X : Type 0} (b : Beside) (s : State) (words : List LimitWord) (x : X) → unless_passed (beside b s) words x ≡ read_beside b (unless_passed s words x)
passed-reads b s [] x = refl
passed-reads b s (word ∷ words) x = refl

-- ---- what stands there stays

abbrev fine : State → Result State Refused
fine s = Ok s

is-own : (c : Beside) (t : State) → fine t ≡ fine (beside c t) → beside_of t ≡ c
is-own c t e = let same : t ≡ beside c t = cc in ap beside_of same

pub leaves_beside : LeavesBeside
leaves_beside run g s t e = let c = beside_of s in is-own c t (sym e ∙ g c s ∙ ap (besides c) e)
