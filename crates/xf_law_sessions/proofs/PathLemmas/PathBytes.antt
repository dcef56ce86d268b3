-- Where the steps of a path begin and end: lists of bytes of which the parts are told by one byte.
use Rattle.std.proofs.Common.{◌≡◌, ℕ, suc, ◌+◌, ◌<◌, ◌≤◌, ◌^◌, ◌==◌, Bool, true, false, cond, ◌||◌, List, [], ◌∷◌, ◌++◌, map, length, decimal, Some, refl, sym, ap, ◌∙◌, arith}
use Rattle.std.specs.Prelude.{filter}
use Rattle.std.proofs.lemmas.Bool.Decides.{nat_tests}
use Rattle.std.proofs.lemmas.Fmt.{decimal-digits_of}
use Rattle.std.specs.Int.Digits.{digits_of}
use Rattle.xf_def_forest.specs.Visit.{Visit, has}
use Rattle.xf_def_forest.specs.Axis.{before}
use Rattle.xf_def_xpath.specs.Asked.{found}
use Rattle.xf_def_xpath.proofs.VisitFacts.{self-same, or-left, or-right, no, some-same, none-some}
use Rattle.std.proofs.lemmas.Bool.{eqb-true}

heads : {A : Type 0} (p q : A) (ps qs : List A) → p ∷ ps ≡ q ∷ qs → (p ≡ q) × (ps ≡ qs)
heads p q ps qs h = (cc h, cc h)

-- after the byte no other one like it comes
pub last-same : (c : ℕ) (us vs rs ss : List ℕ) → has c rs ≡ false → has c ss ≡ false → us ++ c ∷ rs ≡ vs ++ c ∷ ss → (us ≡ vs) × (rs ≡ ss)
last-same c [] [] rs ss h k e = (refl, (heads c c rs ss e).1)
last-same c [] (v ∷ vs) rs ss h k e = no (sym h ∙ ap (has c) (heads c v rs (vs ++ c ∷ ss) e).1 ∙ within vs)
  where
    within : (ws : List ℕ) → has c (ws ++ c ∷ ss) ≡ true
    within [] = or-left (c == c) (has c ss) (self-same c)
    within (w ∷ ws) = or-right (c == w) (has c (ws ++ c ∷ ss)) (within ws)
last-same c (u ∷ us) [] rs ss h k e = no (sym k ∙ sym (ap (has c) (heads u c (us ++ c ∷ rs) ss e).1) ∙ within us)
  where
    within : (ws : List ℕ) → has c (ws ++ c ∷ rs) ≡ true
    within [] = or-left (c == c) (has c rs) (self-same c)
    within (w ∷ ws) = or-right (c == w) (has c (ws ++ c ∷ rs)) (within ws)
last-same c (u ∷ us) (v ∷ vs) rs ss h k e =
    let one = heads u v (us ++ c ∷ rs) (vs ++ c ∷ ss) e in
    let rest = last-same c us vs rs ss h k one.1 in
    (ap (λ w. w ∷ us) one.0 ∙ ap (λ l. v ∷ l) rest.0, rest.1)

-- nothing, or something that begins with the byte
abbrev pub Begins : ℕ → List ℕ → Type 0
Begins c [] = Unit {0}
Begins c (x ∷ xs) = x ≡ c

-- before the byte none comes
pub front-same : (c : ℕ) (us vs xs ys : List ℕ) → has c us ≡ false → has c vs ≡ false → Begins c xs → Begins c ys → us ++ xs ≡ vs ++ ys → (us ≡ vs) × (xs ≡ ys)
front-same c [] [] xs ys h k i j e = (refl, e)
front-same c [] (v ∷ vs) [] ys h k i j e = cc e
front-same c [] (v ∷ vs) (x ∷ xs) ys h k i j e = no (sym k ∙ or-left (c == v) (has c vs) (ap (λ w. w == v) (sym i ∙ (heads x v xs (vs ++ ys) e).0) ∙ self-same v))
front-same c (u ∷ us) [] xs [] h k i j e = cc e
front-same c (u ∷ us) [] xs (y ∷ ys) h k i j e = no (sym h ∙ or-left (c == u) (has c us) (ap (λ w. w == u) (sym j ∙ sym (heads u y (us ++ xs) ys e).0) ∙ self-same u))
front-same c (u ∷ us) (v ∷ vs) xs ys h k i j e =
    let one = heads u v (us ++ xs) (vs ++ ys) e in
    let rest = front-same c us vs xs ys (later (c == u) (has c us) h) (later (c == v) (has c vs) k) i j one.1 in
    (ap (λ w. w ∷ us) one.0 ∙ ap (λ l. v ∷ l) rest.0, rest.1)
  where
    later : (a b : Bool) → (a || b) ≡ false → b ≡ false
    later true b l = no (sym l)
    later false b l = l

pub not-empty : (c : ℕ) (us rs : List ℕ) → us ++ c ∷ rs ≡ [] → false ≡ true
not-empty c [] rs e = cc e
not-empty c (u ∷ us) rs e = cc e

pub one-more : (us vs : List ℕ) (c : ℕ) → us ++ c ∷ [] ≡ vs ++ c ∷ [] → us ≡ vs
one-more us vs c e = (last-same c us vs [] [] refl refl e).0

-- ---- digits

digits-no : (c : ℕ) (ds : List ℕ) → c < 48 → has c (map (λ d. 48 + d) ds) ≡ false
digits-no c [] h = refl
digits-no c (d ∷ ds) h = ap (λ b. b || has c (map (λ k. 48 + k) ds)) (differ d) ∙ digits-no c ds h
  where
    differ : (k : ℕ) → (c == (48 + k)) ≡ false
    differ k = grind (arith, nat_tests, h)

pub decimal-no : (c n : ℕ) → c < 48 → 0 < n → n < 2 ^ 64 → has c (decimal n) ≡ false
decimal-no c n h i j = ap (has c) (decimal-digits_of n i j) ∙ digits-no c (digits_of 10 n) h

-- ---- places

module _ (p : Visit → Bool) where
  abbrev count : List Visit → ℕ
  count all = length (filter p all)

  counted : (z : Visit) (zs : List Visit) → p z ≡ true → count (z ∷ zs) ≡ suc (count zs)
  counted z zs h = ap (λ b. length (cond b (z ∷ filter p zs) (filter p zs))) h ∙ longer (filter p zs)
    where
      longer : (ws : List Visit) → length (z ∷ ws) ≡ suc (length ws)
      longer ws = omega arith

  pub some-counted : (n : ℕ) (all : List Visit) (y : Visit) → found n all ≡ Some y → p y ≡ true → 0 < count all
  some-counted n [] y e h = none-some e
  some-counted n (z ∷ zs) y e h = by (z.number == n) e (some-counted n zs y)
    where
      more : (b : Bool) → 0 < count zs → 0 < length (cond b (z ∷ filter p zs) (filter p zs))
      more true i = omega arith
      more false i = i

      by : (b : Bool) → cond b (Some z) (found n zs) ≡ Some y → (found n zs ≡ Some y → p y ≡ true → 0 < count zs) → 0 < count (z ∷ zs)
      by true i below = (let one = counted z zs (ap p (some-same i) ∙ h) in omega (arith, one))
      by false i below = more (p z) (below i h)

  -- one of them stands alone
  pub alone : (m n : ℕ) (all : List Visit) (x y : Visit) → found m all ≡ Some x → found n all ≡ Some y → p x ≡ true → p y ≡ true → count all ≤ 1 → m ≡ n
  alone m n [] x y e i h k few = none-some e
  alone m n (z ∷ zs) x y e i h k few = by (z.number == m) (z.number == n) refl refl e i (alone m n zs x y)
    where
      fewer : (b : Bool) → length (cond b (z ∷ filter p zs) (filter p zs)) ≤ 1 → count zs ≤ 1
      fewer true l = omega (arith, l)
      fewer false l = l

      by : (a b : Bool) → (z.number == m) ≡ a → (z.number == n) ≡ b → cond a (Some z) (found m zs) ≡ Some x → cond b (Some z) (found n zs) ≡ Some y →
          (found m zs ≡ Some x → found n zs ≡ Some y → p x ≡ true → p y ≡ true → count zs ≤ 1 → m ≡ n) → m ≡ n
      by true true f g u v below = sym (eqb-true z.number m f) ∙ eqb-true z.number n g
      by true false f g u v below = absurd (let one = counted z zs (ap p (some-same u) ∙ h) in let two = some-counted n zs y v k in omega (arith, one, two, few))
      by false true f g u v below = absurd (let one = counted z zs (ap p (some-same v) ∙ k) in let two = some-counted m zs x u h in omega (arith, one, two, few))
      by false false f g u v below = below u v h k (fewer (p z) few)

  -- as many stand before both
  pub same-place : (m n : ℕ) (all : List Visit) (x y : Visit) → found m all ≡ Some x → found n all ≡ Some y → p x ≡ true → p y ≡ true → count (before m all) ≡ count (before n all) → m ≡ n
  same-place m n [] x y e i h k l = none-some e
  same-place m n (z ∷ zs) x y e i h k l = by (z.number == m) (z.number == n) refl refl e i l (same-place m n zs x y)
    where
      fewer : (b : Bool) (us vs : List Visit) → length (cond b (z ∷ us) us) ≡ length (cond b (z ∷ vs) vs) → length us ≡ length vs
      fewer true us vs q = omega (arith, q)
      fewer false us vs q = q

      by : (a b : Bool) → (z.number == m) ≡ a → (z.number == n) ≡ b → cond a (Some z) (found m zs) ≡ Some x → cond b (Some z) (found n zs) ≡ Some y →
          count (cond a [] (z ∷ before m zs)) ≡ count (cond b [] (z ∷ before n zs)) →
          (found m zs ≡ Some x → found n zs ≡ Some y → p x ≡ true → p y ≡ true → count (before m zs) ≡ count (before n zs) → m ≡ n) → m ≡ n
      by true true f g u v q below = sym (eqb-true z.number m f) ∙ eqb-true z.number n g
      by true false f g u v q below = absurd (let one = counted z (before n zs) (ap p (some-same u) ∙ h) in let two : 0 ≡ count (z ∷ before n zs) = q in omega (arith, one, two))
      by false true f g u v q below = absurd (let one = counted z (before m zs) (ap p (some-same v) ∙ k) in let two : count (z ∷ before m zs) ≡ 0 = q in omega (arith, one, two))
      by false false f g u v q below = below u v h k (fewer (p z) (filter p (before m zs)) (filter p (before n zs)) q)

  pub before-fewer : (m : ℕ) (all : List Visit) (x : Visit) → found m all ≡ Some x → count (before m all) < length all
  before-fewer m [] x e = none-some e
  before-fewer m (z ∷ zs) x e = by (z.number == m) e (before-fewer m zs x)
    where
      more : (b : Bool) → count (before m zs) < length zs → length (cond b (z ∷ filter p (before m zs)) (filter p (before m zs))) < length (z ∷ zs)
      more true h = omega (arith, h)
      more false h = omega (arith, h)

      by : (a : Bool) → cond a (Some z) (found m zs) ≡ Some x → (found m zs ≡ Some x → count (before m zs) < length zs) → count (cond a [] (z ∷ before m zs)) < length (z ∷ zs)
      by true i below = omega arith
      by false i below = more (p z) (below i)
