-- Two lists of visits that agree on the lists that an axis looks at: the axis reaches the same nodes in both.
use Rattle.std.proofs.Common.{◌≡◌, ℕ, ◌==◌, Bool, true, false, cond, List, [], ◌∷◌, Option, Some, None, option_map, refl, sym, ap, ◌∙◌, inl, inr}
use Rattle.std.specs.Prelude.{filter}
use Rattle.std.proofs.lemmas.Bool.{eqb-true}
use Rattle.xf_def_forest.specs.Visit.{Visit, has, is_first}
use Rattle.xf_def_forest.specs.Axis.{before, after}
use Rattle.xf_def_forest.proofs.OrderLaws.{Sub, done, skip, keep, sub-none, sub-all}
use Rattle.xf_def_xpath.specs.Asked.{found}
use Rattle.xf_def_xpath.specs.Agree.{numbers_of, are_apart}
use Rattle.xf_def_xpath.proofs.VisitFacts.{self-same, or-cases, or-left, or-right, no, some-same, none-some, found-number, found-in, found-out}

pub record Frame (A B : List Visit) : Type 0 where
  pub apart : are_apart (numbers_of A) ≡ true
  pub apart_too : are_apart (numbers_of B) ≡ true
  pub closed : (k n : ℕ) (ns : List ℕ) (x : Visit) → found k A ≡ Some x → x.above ≡ n ∷ ns → option_map (λ z. z.above) (found n A) ≡ Some ns
  pub closed_too : (k n : ℕ) (ns : List ℕ) (x : Visit) → found k B ≡ Some x → x.above ≡ n ∷ ns → option_map (λ z. z.above) (found n B) ≡ Some ns
  pub order : filter (λ n. has n (numbers_of B)) (numbers_of A) ≡ filter (λ n. has n (numbers_of A)) (numbers_of B)
  pub contents : (n : ℕ) (x y : Visit) → found n A ≡ Some x → found n B ≡ Some y → x.content ≡ y.content

pub flipped : {A B : List Visit} → Frame A B → Frame B A
flipped f = record {
  apart = f.apart_too;
  apart_too = f.apart;
  closed = f.closed_too;
  closed_too = f.closed;
  order = sym f.order;
  contents = λ n x y h k. sym (f.contents n y x k h);
}

-- the node is the same in both
pub record Stands (A B : List Visit) (k : ℕ) : Type 0 where
  pub visit : Visit
  pub first : found k A ≡ Some visit
  pub second : found k B ≡ Some visit

abbrev pub AllStand : List Visit → List Visit → List ℕ → Type 0
AllStand A B ns = (k : ℕ) → has k ns ≡ true → Stands A B k

abbrev pub SameLists : List ℕ → List Visit → List Visit → Type 0
SameLists looks A B = (n : ℕ) → has n looks ≡ true → filter (λ y. is_first n y.above) A ≡ filter (λ y. is_first n y.above) B

pub stands-flipped : {A B : List Visit} (k : ℕ) → Stands A B k → Stands B A k
stands-flipped k h = record { visit = h.visit; first = h.second; second = h.first }

pub stands-there : {A B : List Visit} (k : ℕ) (y : Visit) → Stands A B k → found k A ≡ Some y → found k B ≡ Some y
stands-there k y h e = h.second ∙ sym h.first ∙ e

pub stands-at : {A B : List Visit} (k n : ℕ) → k ≡ n → Stands A B n → Stands A B k
stands-at {A} {B} k n e h = record { visit = h.visit; first = ap (λ m. found m A) e ∙ h.first; second = ap (λ m. found m B) e ∙ h.second }

opened : (m : Option Visit) (ns : List ℕ) → option_map (λ (z : Visit). z.above) m ≡ Some ns → (z : Visit) × (m ≡ Some z) × (z.above ≡ ns)
opened None ns h = none-some h
opened (Some z) ns h = (z, refl, some-same h)

same-visit : (z w : Visit) → z.number ≡ w.number → z.above ≡ w.above → z.content ≡ w.content → z ≡ w
same-visit z w a b c =
    ap (λ n. record { number = n; above = z.above; content = z.content }) a
    ∙ ap (λ l. record { number = w.number; above = l; content = z.content }) b
    ∙ ap (λ x. record { number = w.number; above = w.above; content = x }) c

module _ {A B : List Visit} (f : Frame A B) where
  parent-stands : (n p : ℕ) (ps : List ℕ) (x : Visit) → found n A ≡ Some x → found n B ≡ Some x → x.above ≡ p ∷ ps → (z : Visit) × (found p A ≡ Some z) × (found p B ≡ Some z) × (z.above ≡ ps)
  parent-stands n p ps x a b e =
      let z = opened (found p A) ps (f.closed n p ps x a e) in
      let w = opened (found p B) ps (f.closed_too n p ps x b e) in
      let same : z.0 ≡ w.0 = same-visit z.0 w.0 (found-number p A z.0 z.1 ∙ sym (found-number p B w.0 w.1)) (z.2 ∙ sym w.2) (f.contents p z.0 w.0 z.1 w.1) in
      (z.0, z.1, w.1 ∙ ap Some (sym same), z.2)

  -- what stands above a node that is the same in both
  pub above-stands : (ns : List ℕ) (k n : ℕ) (x : Visit) → found n A ≡ Some x → found n B ≡ Some x → x.above ≡ ns → has k ns ≡ true → Stands A B k
  above-stands [] k n x a b e h = no h
  above-stands (p ∷ ps) k n x a b e h =
      let z = parent-stands n p ps x a b e in
      elim (or-cases (k == p) (has k ps) h) [ inl i ↦ stands-at k p (eqb-true k p i) (record { visit = z.0; first = z.1; second = z.2 }) | inr j ↦ above-stands ps k p z.0 z.1 z.2 z.3 j ]

  -- what stands in a list that is the same in both
  pub child-there : (n k : ℕ) (y : Visit) → filter (λ z. is_first n z.above) A ≡ filter (λ z. is_first n z.above) B → found k A ≡ Some y → is_first n y.above ≡ true → found k B ≡ Some y
  child-there n k y same a h =
      (found-out (λ z. is_first n z.above) k B y f.apart_too (sym (ap (found k) same) ∙ found-in (λ z. is_first n z.above) k A y f.apart a h)).0

  has-first : (n : ℕ) (ns : List ℕ) → has n ns ≡ true → (p : ℕ) × (ps : List ℕ) × (ns ≡ p ∷ ps)
  has-first n [] h = no h
  has-first n (p ∷ ps) h = (p, ps, refl)

  first-itself : (p : ℕ) (ps ns : List ℕ) → ns ≡ p ∷ ps → is_first p ns ≡ true
  first-itself p ps ns e = ap (is_first p) e ∙ self-same p

-- of the lists from a node down that are looked at
pub record LookedBelow (looks : List ℕ) (A : List Visit) (n : ℕ) : Type 0 where
  pub here : has n looks ≡ true
  pub under : (m : ℕ) (w : Visit) → found m A ≡ Some w → has n w.above ≡ true → has m looks ≡ true

module _ {A B : List Visit} (f : Frame A B) (looks : List ℕ) (lists : SameLists looks A B) (n : ℕ) (looked : LookedBelow looks A n) where
  pub below-there : (k : ℕ) (y : Visit) → found k A ≡ Some y → has n y.above ≡ true → found k B ≡ Some y
  below-there k y a h =
      let first = has-first f n y.above h in
      by first.0 first.1 first.2
    where
      by : (p : ℕ) (ps : List ℕ) → y.above ≡ p ∷ ps → found k B ≡ Some y
      by p ps e = child-there f p k y (lists p (elim (or-cases (n == p) (has n ps) (sym (ap (has n) e) ∙ h)) [
        | inl i ↦ ap (λ m. has m looks) (sym (eqb-true n p i)) ∙ looked.here
        | inr j ↦ let z = opened (found p A) ps (f.closed k p ps y a e) in looked.under p z.0 z.1 (ap (has n) z.2 ∙ j)
      ])) a (first-itself f p ps y.above e)

  pub below-back : (ns : List ℕ) (k : ℕ) (y : Visit) → found k B ≡ Some y → y.above ≡ ns → has n ns ≡ true → found k A ≡ Some y
  below-back [] k y b e h = no h
  below-back (p ∷ ps) k y b e h =
      let back : has p looks ≡ true → found k A ≡ Some y = λ l. child-there (flipped f) p k y (sym (lists p l)) b (first-itself f p ps y.above e) in
      elim (or-cases (n == p) (has n ps) h) [
        | inl i ↦ back (ap (λ m. has m looks) (sym (eqb-true n p i)) ∙ looked.here)
        | inr j ↦ let z = opened (found p B) ps (f.closed_too k p ps y b e) in
            back (looked.under p z.0 (below-back ps p z.0 z.1 z.2 j) (ap (has n) z.2 ∙ j))
      ]

-- ---- siblings

pub filter-after : (q : Visit → Bool) (n : ℕ) (x : Visit) (all : List Visit) → found n all ≡ Some x → q x ≡ true → filter q (after n all) ≡ after n (filter q all)
filter-after q n x [] e h = refl
filter-after q n x (y ∷ ys) e h = by (y.number == n) (q y) refl refl e (λ i. filter-after q n x ys i h)
  where
    by : (b c : Bool) → (y.number == n) ≡ b → q y ≡ c → cond b (Some y) (found n ys) ≡ Some x → (found n ys ≡ Some x → filter q (after n ys) ≡ after n (filter q ys)) →
        filter q (cond b ys (after n ys)) ≡ after n (cond c (y ∷ filter q ys) (filter q ys))
    by true true i j k below = sym (ap (λ b. cond b (filter q ys) (after n (filter q ys))) i)
    by true false i j k below = no (sym j ∙ ap q (some-same k) ∙ h)
    by false true i j k below = below k ∙ sym (ap (λ b. cond b (filter q ys) (after n (filter q ys))) i)
    by false false i j k below = below k

pub filter-before : (q : Visit → Bool) (n : ℕ) (x : Visit) (all : List Visit) → found n all ≡ Some x → q x ≡ true → filter q (before n all) ≡ before n (filter q all)
filter-before q n x [] e h = refl
filter-before q n x (y ∷ ys) e h = by (y.number == n) (q y) refl refl e (λ i. filter-before q n x ys i h)
  where
    by : (b c : Bool) → (y.number == n) ≡ b → q y ≡ c → cond b (Some y) (found n ys) ≡ Some x → (found n ys ≡ Some x → filter q (before n ys) ≡ before n (filter q ys)) →
        filter q (cond b [] (y ∷ before n ys)) ≡ before n (cond c (y ∷ filter q ys) (filter q ys))
    by true true i j k below = sym (ap (λ b. cond b [] (y ∷ before n (filter q ys))) i)
    by true false i j k below = no (sym j ∙ ap q (some-same k) ∙ h)
    by false true i j k below = ap (λ c. cond c (y ∷ filter q (before n ys)) (filter q (before n ys))) j ∙ ap (λ l. y ∷ l) (below k) ∙ sym (ap (λ b. cond b [] (y ∷ before n (filter q ys))) i)
    by false false i j k below = ap (λ c. cond c (y ∷ filter q (before n ys)) (filter q (before n ys))) j ∙ below k

pub after-sub : (n : ℕ) (xs : List Visit) → Sub (after n xs) xs
after-sub n [] = done
after-sub n (x ∷ xs) = by (x.number == n) (after-sub n xs)
  where
    by : (b : Bool) → Sub (after n xs) xs → Sub (cond b xs (after n xs)) (x ∷ xs)
    by true h = skip (sub-all xs)
    by false h = skip h

pub before-sub : (n : ℕ) (xs : List Visit) → Sub (before n xs) xs
before-sub n [] = done
before-sub n (x ∷ xs) = by (x.number == n) (before-sub n xs)
  where
    by : (b : Bool) → Sub (before n xs) xs → Sub (cond b [] (x ∷ before n xs)) (x ∷ xs)
    by true h = sub-none (x ∷ xs)
    by false h = keep h

pub has-sub : (k : ℕ) {ns ms : List ℕ} → Sub ns ms → has k ns ≡ true → has k ms ≡ true
has-sub k done h = h
has-sub k (skip {x = x} {ys = ys} p) h = or-right (k == x) (has k ys) (has-sub k p h)
has-sub k (keep {x = x} {xs = xs} {ys = ys} p) h = elim (or-cases (k == x) (has k xs) h) [ inl a ↦ or-left (k == x) (has k ys) a | inr b ↦ or-right (k == x) (has k ys) (has-sub k p b) ]
