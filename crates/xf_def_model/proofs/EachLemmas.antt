-- Facts of each element of a list.
use Rattle.std.proofs.Common.{◌≡◌, Bool, true, false, ◌||◌, List, [], ◌∷◌, refl}
use Rattle.std.specs.List.{list_any}
use Rattle.std.proofs.lemmas.Bool.{false≢true}
use Rattle.xf_def_model.specs.Pertinent.{AllOf}

pub of_each : {X : Type 0} (P : X → Type 0) → ((x : X) → P x) → (xs : List X) → AllOf P xs
of_each P h [] = tt
of_each P h (x ∷ xs) = (h x, of_each P h xs)

pub each_then : {X : Type 0} (P Q : X → Type 0) → ((x : X) → P x → Q x) → (xs : List X) → AllOf P xs → AllOf Q xs
each_then P Q h [] ps = tt
each_then P Q h (x ∷ xs) ps = (h x ps.0, each_then P Q h xs ps.1)

pub each_both : {X : Type 0} (P Q : X → Type 0) (xs : List X) → AllOf P xs → AllOf Q xs → AllOf (λ x. P x × Q x) xs
each_both P Q [] ps qs = tt
each_both P Q (x ∷ xs) ps qs = ((ps.0, qs.0), each_both P Q xs ps.1 qs.1)

one-at : {X : Type 0} (P : X → Type 0) (test : X → Bool) (x : X) (xs : List X) (b : Bool) → test x ≡ b → P x
    → (list_any test xs ≡ true → (y : X) × (test y ≡ true) × P y) → (b || list_any test xs) ≡ true → (y : X) × (test y ≡ true) × P y
one-at P test x xs true e p later h = (x, e, p)
one-at P test x xs false e p later h = later h

-- of one that passes a test, the fact
pub each_one : {X : Type 0} (P : X → Type 0) (test : X → Bool) (xs : List X) → AllOf P xs → list_any test xs ≡ true → (y : X) × (test y ≡ true) × P y
each_one P test [] ps h = absurd (false≢true h)
each_one P test (x ∷ xs) ps h = one-at P test x xs (test x) refl ps.0 (each_one P test xs ps.1) h
