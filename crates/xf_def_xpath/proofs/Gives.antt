-- What one evaluation gives, another gives too, unless a string was too long in the first.
use Rattle.std.proofs.Common.{◌≡◌, ℕ, Bool, true, false, cond, List, length, nat_lt, Option, Some, None, option_map, refl, sym, subst, ap}
use Rattle.std.specs.Prelude.{⊤}
use Rattle.xf_def_xpath.specs.Setting.{◌>>=◌, capped}

pub data Gives {A : Type 0} (P : A → Type 0) : Option A → Option A → Type 0 where
  nothing : {m : Option A} → Gives P None m
  both : {a : A} → P a → Gives P (Some a) (Some a)

pub gives-map : {A B : Type 0} {P : A → Type 0} {Q : B → Type 0} {m m' : Option A} (f : A → B) → Gives P m m' → ((a : A) → P a → Q (f a)) → Gives Q (option_map f m) (option_map f m')
gives-map f nothing h = nothing
gives-map f (both p) h = both (h _ p)

pub gives-then : {A B : Type 0} {P : A → Type 0} {Q : B → Type 0} {m m' : Option A} (k k' : A → Option B) → Gives P m m' → ((a : A) → P a → Gives Q (k a) (k' a)) → Gives Q (m >>= k) (m' >>= k')
gives-then k k' nothing h = nothing
gives-then k k' (both p) h = h _ p

pub gives-weaker : {A : Type 0} {P Q : A → Type 0} {m m' : Option A} → Gives P m m' → ((a : A) → P a → Q a) → Gives Q m m'
gives-weaker nothing h = nothing
gives-weaker (both p) h = both (h _ p)

-- the same is given
pub gives-same : {A : Type 0} {P : A → Type 0} (m m' : Option A) → m' ≡ m → ((a : A) → m ≡ Some a → P a) → Gives P m m'
gives-same {P = P} None m' e h = nothing
gives-same {P = P} (Some a) m' e h = subst (λ n. Gives P (Some a) n) (sym e) (both (h a refl))

pub gives-at : {A : Type 0} {P : A → Type 0} {m m' n n' : Option A} → n ≡ m → n' ≡ m' → Gives P m m' → Gives P n n'
gives-at {P = P} {m = m} {m' = m'} {n = n} {n' = n'} e i h = subst (λ x. Gives P x n') (sym e) (subst (λ x. Gives P m x) (sym i) h)

pub gives-map_too : {A B : Type 0} {P : A → Type 0} {Q : B → Type 0} {m m' : Option A} (f f' : A → B) → Gives P m m' → ((a : A) → P a → (f' a ≡ f a) × Q (f a)) → Gives Q (option_map f m) (option_map f' m')
gives-map_too f f' nothing h = nothing
gives-map_too {Q = Q} f f' (both {a = a} p) h = subst (λ n. Gives Q (Some (f a)) n) (ap Some (sym (h a p).0)) (both (h a p).1)

-- a string within the limit is the string
pub capped-gives : (most : Option ℕ) (text : List ℕ) → Gives (λ t. t ≡ text) (capped most text) (capped most text)
capped-gives None text = both refl
capped-gives (Some most) text = by (nat_lt most (length text))
  where
    by : (b : Bool) → Gives (λ t. t ≡ text) (cond b None (Some text)) (cond b None (Some text))
    by true = nothing
    by false = both refl

pub gives-equal : {A : Type 0} (m m' : Option A) → m' ≡ m → Gives (λ (a : A). ⊤) m m'
gives-equal m m' e = gives-same m m' e (λ a i. tt)
