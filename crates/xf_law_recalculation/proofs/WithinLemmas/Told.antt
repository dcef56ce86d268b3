-- Two results that may be missing and are the same, with a fact of what they are.
use Rattle.std.proofs.Common.{◌≡◌, List, [], ◌∷◌, Option, Some, None, option_map, refl, ap, ◌∙◌}
use Rattle.std.specs.Prelude.{⊤}
use Rattle.xf_def_xpath.specs.Setting.{◌>>=◌, each}
use Rattle.xf_def_xpath.proofs.ForestVisits.{Each}

abbrev pub Told : {A : Type 0} → (A → Type 0) → Option A → Type 0
Told P None = ⊤
Told P (Some x) = P x

pub record Agree {A : Type 0} (P : A → Type 0) (small large : Option A) : Type 0 where
  pub same : small ≡ large
  pub told : Told P large

pub agree-then : {A B : Type 0} {P : A → Type 0} {Q : B → Type 0} (m m' : Option A) (f g : A → Option B) → Agree P m m' → ((x : A) → P x → Agree Q (f x) (g x)) → Agree Q (m >>= f) (m' >>= g)
agree-then m None f g a k = record { same = ap (λ o. o >>= f) a.same; told = tt }
agree-then m (Some x) f g a k = let r = k x a.told in record { same = ap (λ o. o >>= f) a.same ∙ r.same; told = r.told }

pub agree-map : {A B : Type 0} {P : A → Type 0} {Q : B → Type 0} (m m' : Option A) (f g : A → B) → Agree P m m' → ((x : A) → P x → f x ≡ g x) → ((x : A) → P x → Q (g x)) → Agree Q (option_map f m) (option_map g m')
agree-map m None f g a h k = record { same = ap (option_map f) a.same; told = tt }
agree-map m (Some x) f g a h k = record { same = ap (option_map f) a.same ∙ ap Some (h x a.told); told = k x a.told }

-- the same, whatever is given
pub agree-any : {A : Type 0} {P : A → Type 0} (m m' : Option A) → m ≡ m' → ((x : A) → P x) → Agree P m m'
agree-any m None e h = record { same = e; told = tt }
agree-any m (Some x) e h = record { same = e; told = h x }

pub agree-each : {A B : Type 0} {P : A → Type 0} {Q : B → Type 0} (f g : A → Option B) (xs : List A) → Each P xs → ((x : A) → P x → Agree Q (f x) (g x)) → Agree (Each Q) (each f xs) (each g xs)
agree-each f g [] e h = record { same = refl; told = tt }
agree-each {Q = Q} f g (x ∷ xs) e h =
    agree-then {Q = Each Q} (f x) (g x) (λ y. each f xs >>= λ ys. Some (y ∷ ys)) (λ y. each g xs >>= λ ys. Some (y ∷ ys)) (h x e.0)
    (λ y q. agree-then {Q = Each Q} (each f xs) (each g xs) (λ ys. Some (y ∷ ys)) (λ ys. Some (y ∷ ys)) (agree-each f g xs e.1 h) (λ ys qs. record { same = refl; told = (q, qs) }))
