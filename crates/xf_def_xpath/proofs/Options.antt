-- Facts about what may be too long: a change of what is given is a change of what is made of it.
use Rattle.std.proofs.Common.{◌≡◌, List, [], ◌∷◌, map, Option, Some, None, option_map, refl, ap, ◌∙◌}
use Rattle.xf_def_xpath.specs.Setting.{◌>>=◌, each}

-- a fact of what is given, if anything is
pub data IfGiven {A : Type 0} (P : A → Type 0) : Option A → Type 0 where
  nothing : IfGiven P None
  given : {x : A} → P x → IfGiven P (Some x)

pub if-mapped : {A B : Type 0} {P : A → Type 0} {Q : B → Type 0} (m : Option A) (f : A → B) → IfGiven P m → ((a : A) → P a → Q (f a)) → IfGiven Q (option_map f m)
if-mapped None f h k = nothing
if-mapped (Some a) f (given h) k = given (k a h)

pub if-then : {A B : Type 0} {P : A → Type 0} {Q : B → Type 0} (m : Option A) (f : A → Option B) → IfGiven P m → ((a : A) → P a → IfGiven Q (f a)) → IfGiven Q (m >>= f)
if-then None f h k = nothing
if-then (Some a) f (given h) k = k a h

-- whatever is given
pub any-mapped : {A B : Type 0} {Q : B → Type 0} (m : Option A) (f : A → B) → ((a : A) → Q (f a)) → IfGiven Q (option_map f m)
any-mapped None f k = nothing
any-mapped (Some a) f k = given (k a)

pub any-then : {A B : Type 0} {Q : B → Type 0} (m : Option A) (f : A → Option B) → ((a : A) → IfGiven Q (f a)) → IfGiven Q (m >>= f)
any-then None f k = nothing
any-then (Some a) f k = k a

-- ---- a change of what is given

pub then-through : {A A' B B' : Type 0} (g : A → A') (h : B → B') (m : Option A) (k : A → Option B) (k' : A' → Option B') → ((a : A) → k' (g a) ≡ option_map h (k a)) → (option_map g m >>= k') ≡ option_map h (m >>= k)
then-through g h None k k' e = refl
then-through g h (Some a) k k' e = e a

pub map-through : {A A' B B' : Type 0} (g : A → A') (h : B → B') (m : Option A) (k : A → B) (k' : A' → B') → ((a : A) → k' (g a) ≡ h (k a)) → option_map k' (option_map g m) ≡ option_map h (option_map k m)
map-through g h None k k' e = refl
map-through g h (Some a) k k' e = ap Some (e a)

-- the same is given
pub then-same : {A B B' : Type 0} (h : B → B') (m : Option A) (k : A → Option B) (k' : A → Option B') → ((a : A) → k' a ≡ option_map h (k a)) → (m >>= k') ≡ option_map h (m >>= k)
then-same h None k k' e = refl
then-same h (Some a) k k' e = e a

pub map-same : {A B B' : Type 0} (h : B → B') (m : Option A) (k : A → B) (k' : A → B') → ((a : A) → k' a ≡ h (k a)) → option_map k' m ≡ option_map h (option_map k m)
map-same h None k k' e = refl
map-same h (Some a) k k' e = ap Some (e a)

-- the same is made
pub then-kept : {A A' B : Type 0} (g : A → A') (m : Option A) (k : A → Option B) (k' : A' → Option B) → ((a : A) → k' (g a) ≡ k a) → (option_map g m >>= k') ≡ (m >>= k)
then-kept g None k k' e = refl
then-kept g (Some a) k k' e = e a

pub map-kept : {A A' B : Type 0} (g : A → A') (m : Option A) (k : A → B) (k' : A' → B) → ((a : A) → k' (g a) ≡ k a) → option_map k' (option_map g m) ≡ option_map k m
map-kept g None k k' e = refl
map-kept g (Some a) k k' e = ap Some (e a)

-- ---- of each

pub each-through : {A A' B B' : Type 0} (g : A → A') (h : B → B') (k : A → Option B) (k' : A' → Option B') → ((a : A) → k' (g a) ≡ option_map h (k a)) → (xs : List A) → each k' (map g xs) ≡ option_map (map h) (each k xs)
each-through g h k k' e [] = refl
each-through g h k k' e (x ∷ xs) =
    ap (λ m. m >>= λ y. each k' (map g xs) >>= λ ys. Some (y ∷ ys)) (e x)
    ∙ then-through h (map h) (k x) (λ y. each k xs >>= λ ys. Some (y ∷ ys)) (λ y. each k' (map g xs) >>= λ ys. Some (y ∷ ys)) (λ y.
    ap (λ m. m >>= λ ys. Some (h y ∷ ys)) (each-through g h k k' e xs)
    ∙ then-through (map h) (map h) (each k xs) (λ ys. Some (y ∷ ys)) (λ ys. Some (h y ∷ ys)) (λ ys. refl))

pub each-kept : {A A' B : Type 0} (g : A → A') (k : A → Option B) (k' : A' → Option B) → ((a : A) → k' (g a) ≡ k a) → (xs : List A) → each k' (map g xs) ≡ each k xs
each-kept g k k' e [] = refl
each-kept g k k' e (x ∷ xs) =
    ap (λ m. m >>= λ y. each k' (map g xs) >>= λ ys. Some (y ∷ ys)) (e x)
    ∙ ap (λ n. k x >>= λ y. n >>= λ ys. Some (y ∷ ys)) (each-kept g k k' e xs)
