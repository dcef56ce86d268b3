-- What one evaluation gives, the other gives, and neither gives anything where one does not.
use Rattle.std.proofs.Common.{◌≡◌, ℕ, true, List, [], ◌∷◌, map, Option, Some, None, option_map, refl, sym, ap, subst}
use Rattle.std.specs.Prelude.{⊤}
use Rattle.xf_def_xpath.specs.Setting.{Meaning, ◌>>=◌}
use Rattle.xf_def_xpath.specs.Steps.{kept_by_all}
use Rattle.xf_def_forest.specs.Visit.{has}
use Rattle.xf_def_xpath.proofs.VisitFacts.{some-same, none-some}
use Rattle.xf_def_xpath.proofs.Comparison.{Comparison, other, over_shape}
use Rattle.xf_def_xpath.proofs.Gives.{Gives, nothing}
use Rattle.xf_def_xpath.proofs.Gives as given
use Rattle.xf_def_xpath.proofs.PlacedLaws.{Placed}
use Rattle.xf_def_xpath.proofs.StepAgree.{kept_all-agree}
use Rattle.xf_def_xpath.proofs.Agreement.{swapped}

pub data Alike {A : Type 0} (P : A → Type 0) : Option A → Option A → Type 0 where
  neither : Alike P None None
  both : {a : A} → P a → Alike P (Some a) (Some a)

pub alike-map : {A B : Type 0} {P : A → Type 0} {Q : B → Type 0} {m m' : Option A} (f : A → B) → Alike P m m' → ((a : A) → P a → Q (f a)) → Alike Q (option_map f m) (option_map f m')
alike-map f neither h = neither
alike-map f (both p) h = both (h _ p)

pub alike-then : {A B : Type 0} {P : A → Type 0} {Q : B → Type 0} {m m' : Option A} (k k' : A → Option B) → Alike P m m' → ((a : A) → P a → Alike Q (k a) (k' a)) → Alike Q (m >>= k) (m' >>= k')
alike-then k k' neither h = neither
alike-then k k' (both p) h = h _ p

pub alike-weaker : {A : Type 0} {P Q : A → Type 0} {m m' : Option A} → Alike P m m' → ((a : A) → P a → Q a) → Alike Q m m'
alike-weaker neither h = neither
alike-weaker (both p) h = both (h _ p)

pub alike-same : {A : Type 0} {P : A → Type 0} (m m' : Option A) → m' ≡ m → ((a : A) → m ≡ Some a → P a) → Alike P m m'
alike-same {P = P} None m' e h = subst (λ n. Alike P None n) (sym e) neither
alike-same {P = P} (Some a) m' e h = subst (λ n. Alike P (Some a) n) (sym e) (both (h a refl))

pub alike-equal : {A : Type 0} (m m' : Option A) → m' ≡ m → Alike (λ (a : A). ⊤) m m'
alike-equal m m' e = alike-same m m' e (λ a i. tt)

pub alike-at : {A : Type 0} {P : A → Type 0} {m m' n n' : Option A} → n ≡ m → n' ≡ m' → Alike P m m' → Alike P n n'
alike-at {P = P} {m = m} {m' = m'} {n = n} {n' = n'} e i h = subst (λ x. Alike P x n') (sym e) (subst (λ x. Alike P m x) (sym i) h)

pub alike-map_too : {A B : Type 0} {P : A → Type 0} {Q : B → Type 0} {m m' : Option A} (f f' : A → B) → Alike P m m' → ((a : A) → P a → (f' a ≡ f a) × Q (f a)) → Alike Q (option_map f m) (option_map f' m')
alike-map_too f f' neither h = neither
alike-map_too {Q = Q} f f' (both {a = a} p) h = subst (λ n. Alike Q (Some (f a)) n) (ap Some (sym (h a p).0)) (both (h a p).1)

pub alike-is : {A : Type 0} {P : A → Type 0} {m m' : Option A} → Alike P m m' → m ≡ m'
alike-is neither = refl
alike-is (both p) = refl

pub alike-one : {A : Type 0} {P : A → Type 0} {m m' : Option A} → Alike P m m' → (a : A) → m ≡ Some a → P a
alike-one neither a e = none-some e
alike-one {P = P} (both p) a e = subst P (some-same e) p

pub alike-more : {A : Type 0} {P Q : A → Type 0} {m m' : Option A} → Alike P m m' → ((a : A) → m ≡ Some a → Q a) → Alike (λ a. P a × Q a) m m'
alike-more neither h = neither
alike-more (both p) h = both (p, h _ refl)

given-some : {A : Type 0} {P : A → Type 0} {x : A} {m : Option A} → Gives P (Some x) m → m ≡ Some x
given-some (given.both p) = refl

pub given-one : {A : Type 0} {P : A → Type 0} {m m' : Option A} → Gives P m m' → (a : A) → m ≡ Some a → P a
given-one nothing a e = none-some e
given-one {P = P} (given.both p) a e = subst P (some-same e) p

-- what each gives the other gives
pub alike-of : {A : Type 0} {P Q : A → Type 0} (m m' : Option A) → Gives P m m' → Gives Q m' m → Alike P m m'
alike-of None None h k = neither
alike-of {P = P} None (Some y) h k = none-some (given-some k)
alike-of {P = P} (Some x) m' h k = subst (λ n. Alike P (Some x) n) (sym (given-some h)) (both (given-one h x refl))

-- ---- predicates by position

-- the meaning depends on position and size alone, whatever forests are compared
abbrev pub ByPlace : Meaning → Type 0
ByPlace p = (y : Comparison) → Placed y p

abbrev pub Placing : Type 0
Placing = (p : Meaning) × ByPlace p

abbrev pub meanings_of : List Placing → List Meaning
meanings_of ps = map (λ (p : Placing). p.0) ps

abbrev pub at_one : (y : Comparison) → List Placing → List ((p : Meaning) × Placed y p)
at_one y [] = []
at_one y (p ∷ ps) = (p.0, p.1 y) ∷ at_one y ps

pub at-plain : (y : Comparison) (ps : List Placing) → map (λ (p : (p : Meaning) × Placed y p). p.0) (at_one y ps) ≡ meanings_of ps
at-plain y [] = refl
at-plain y (p ∷ ps) = ap (λ l. p.0 ∷ l) (at-plain y ps)

-- kept over the shape, and a part of what there was
abbrev pub Keeps : List ℕ → Option (List ℕ) → List ℕ → Type 0
Keeps ns m ks = (m ≡ Some ks) × ((k : ℕ) → has k ks ≡ true → has k ns ≡ true)

-- what is kept of these nodes over the first forest, as over the shape
pub kept-one : (w : Comparison) (ps : List Placing) (ns : List ℕ) → Gives (Keeps ns (kept_by_all (over_shape w) (meanings_of ps) ns)) (kept_by_all w.setting (meanings_of ps) ns) (kept_by_all (other w) (meanings_of ps) ns)
kept-one w ps ns = subst (λ ms. Gives (Keeps ns (kept_by_all (over_shape w) ms ns)) (kept_by_all w.setting ms ns) (kept_by_all (other w) ms ns)) (at-plain w ps) (kept_all-agree w (at_one w ps) ns)

pub kept-alike : (w : Comparison) (ps : List Placing) (ns : List ℕ) → Alike (Keeps ns (kept_by_all (over_shape w) (meanings_of ps) ns)) (kept_by_all w.setting (meanings_of ps) ns) (kept_by_all (other w) (meanings_of ps) ns)
kept-alike w ps ns = alike-of (kept_by_all w.setting (meanings_of ps) ns) (kept_by_all (other w) (meanings_of ps) ns) (kept-one w ps ns) (kept-one (swapped w) ps ns)
