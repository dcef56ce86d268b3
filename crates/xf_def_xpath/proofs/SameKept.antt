-- Two lists of visits in which common nodes keep their order: what is kept of one is kept of the other.
use Rattle.std.proofs.Common.{◌≡◌, ℕ, ◌==◌, Bool, true, false, cond, List, [], ◌∷◌, ◌++◌, reverse, Option, Some, None, refl, sym, ap, ◌∙◌, inl, inr}
use Rattle.std.specs.Prelude.{filter, is_some, ◌⊎◌}
use Rattle.std.proofs.lemmas.List.{reverse-append}
use Rattle.xf_def_forest.specs.Visit.{Visit, has}
use Rattle.xf_def_xpath.specs.Asked.{found}
use Rattle.xf_def_xpath.specs.Agree.{numbers_of, are_apart}
use Rattle.xf_def_forest.proofs.BackLaws.{and-true, not-true}
use Rattle.xf_def_xpath.proofs.VisitFacts.{self-same, or-cases, or-left, or-right, no, some-same, none-some, filter-within, has-found, found-out}
use Rattle.std.proofs.lemmas.Bool.{eqb-true}

-- what is asked of a node that is found
abbrev pub on : (Visit → Bool) → Option Visit → Bool
on p None = false
on p (Some y) = p y

filter-same_in : (p q : ℕ → Bool) (ns : List ℕ) → ((k : ℕ) → has k ns ≡ true → p k ≡ q k) → filter p ns ≡ filter q ns
filter-same_in p q [] h = refl
filter-same_in p q (n ∷ ns) h =
    ap (λ b. cond b (n ∷ filter p ns) (filter p ns)) (h n (or-left (n == n) (has n ns) (self-same n)))
    ∙ ap (λ l. cond (q n) (n ∷ l) l) (filter-same_in p q ns (λ k i. h k (or-right (k == n) (has k ns) i)))

-- another node is found behind the first one
pub behind : (y : Visit) (ys : List Visit) (k : ℕ) → has y.number (numbers_of ys) ≡ false → has k (numbers_of ys) ≡ true → found k (y ∷ ys) ≡ found k ys
behind y ys k a i = by (y.number == k) refl
  where
    by : (b : Bool) → (y.number == k) ≡ b → cond b (Some y) (found k ys) ≡ found k ys
    by true e = no (sym a ∙ ap (λ n. has n (numbers_of ys)) (eqb-true y.number k e) ∙ i)
    by false e = refl

pub numbers-filter : (p : Visit → Bool) (all : List Visit) → are_apart (numbers_of all) ≡ true → numbers_of (filter p all) ≡ filter (λ k. on p (found k all)) (numbers_of all)
numbers-filter p [] h = refl
numbers-filter p (y ∷ ys) h =
    by (p y) (numbers-filter p ys (and-true _ _ h).1 ∙ sym (filter-same_in (λ k. on p (found k (y ∷ ys))) (λ k. on p (found k ys)) (numbers_of ys) (λ k i. ap (on p) (behind y ys k (not-true _ (and-true _ _ h).0) i))))
    ∙ ap (λ b. cond b (y.number ∷ filter (λ k. on p (found k (y ∷ ys))) (numbers_of ys)) (filter (λ k. on p (found k (y ∷ ys))) (numbers_of ys))) (sym (ap (λ b. on p (cond b (Some y) (found y.number ys))) (self-same y.number)))
  where
    by : (b : Bool) → numbers_of (filter p ys) ≡ filter (λ k. on p (found k (y ∷ ys))) (numbers_of ys) → numbers_of (cond b (y ∷ filter p ys) (filter p ys)) ≡ cond b (y.number ∷ filter (λ k. on p (found k (y ∷ ys))) (numbers_of ys)) (filter (λ k. on p (found k (y ∷ ys))) (numbers_of ys))
    by true e = ap (λ l. y.number ∷ l) e
    by false e = e

-- what stands in both lists alone is the same part of each
pub same-part : (m : ℕ → Bool) (ns ms : List ℕ) → filter (λ k. has k ms) ns ≡ filter (λ k. has k ns) ms →
    ((k : ℕ) → m k ≡ true → has k ns ≡ true) → ((k : ℕ) → m k ≡ true → has k ms ≡ true) → filter m ns ≡ filter m ms
same-part m ns ms e i j = sym (filter-within m (λ k. has k ms) j ns) ∙ ap (filter m) e ∙ filter-within m (λ k. has k ns) i ms

on-found : (p : Visit → Bool) (k : ℕ) (all : List Visit) → on p (found k all) ≡ true → has k (numbers_of all) ≡ true
on-found p k all h = has-found k all ∙ by (found k all) h
  where
    by : (m : Option Visit) → on p m ≡ true → is_some m ≡ true
    by None e = e
    by (Some y) e = refl

on-same : (p : Visit → Bool) (m n : Option Visit) → ((y : Visit) → m ≡ Some y → p y ≡ true → n ≡ Some y) → ((y : Visit) → n ≡ Some y → p y ≡ true → m ≡ Some y) → on p m ≡ on p n
on-same p None None there back = refl
on-same p None (Some w) there back = by (p w) refl
  where
    by : (b : Bool) → p w ≡ b → false ≡ b
    by true e = none-some (back w refl e)
    by false e = refl
on-same p (Some y) None there back = by (p y) refl
  where
    by : (b : Bool) → p y ≡ b → b ≡ false
    by true e = none-some (there y refl e)
    by false e = refl
on-same p (Some y) (Some w) there back = by (p y) (p w) refl refl
  where
    by : (b c : Bool) → p y ≡ b → p w ≡ c → b ≡ c
    by true c e i = sym e ∙ ap p (sym (some-same (there y refl e))) ∙ i
    by false true e i = sym e ∙ ap p (some-same (back w refl i)) ∙ i
    by false false e i = refl

module _ (A B : List Visit) (apart : are_apart (numbers_of A) ≡ true) (apart_too : are_apart (numbers_of B) ≡ true)
    (order : filter (λ n. has n (numbers_of B)) (numbers_of A) ≡ filter (λ n. has n (numbers_of A)) (numbers_of B)) where
  -- what a test keeps, if it keeps nodes that are the same in both
  pub region : (p : Visit → Bool) → ((k : ℕ) (y : Visit) → found k A ≡ Some y → p y ≡ true → found k B ≡ Some y) → ((k : ℕ) (y : Visit) → found k B ≡ Some y → p y ≡ true → found k A ≡ Some y) →
      numbers_of (filter p A) ≡ numbers_of (filter p B)
  region p there back =
      numbers-filter p A apart
      ∙ same-part (λ k. on p (found k A)) (numbers_of A) (numbers_of B) order (λ k h. on-found p k A h) (λ k h. on-found p k B (sym (same k) ∙ h))
      ∙ filter-same_in (λ k. on p (found k A)) (λ k. on p (found k B)) (numbers_of B) (λ k h. same k)
      ∙ sym (numbers-filter p B apart_too)
    where
      same : (k : ℕ) → on p (found k A) ≡ on p (found k B)
      same k = on-same p (found k A) (found k B) (there k) (back k)

-- a node that a test kept
pub kept-found : (p : Visit → Bool) (k : ℕ) (all : List Visit) → are_apart (numbers_of all) ≡ true → has k (numbers_of (filter p all)) ≡ true → (y : Visit) × (found k all ≡ Some y) × (p y ≡ true)
kept-found p k all a h = by (found k (filter p all)) refl (sym (has-found k (filter p all)) ∙ h)
  where
    by : (m : Option Visit) → found k (filter p all) ≡ m → is_some m ≡ true → (y : Visit) × (found k all ≡ Some y) × (p y ≡ true)
    by None e i = no i
    by (Some y) e i = let out = found-out p k all y a e in (y, out.0, out.1)

-- ---- members of lists of numbers

pub has-append : (k : ℕ) (ns ms : List ℕ) → has k (ns ++ ms) ≡ true → (has k ns ≡ true) ⊎ (has k ms ≡ true)
has-append k [] ms h = inr h
has-append k (n ∷ ns) ms h =
    elim (or-cases (k == n) (has k (ns ++ ms)) h) [
      | inl a ↦ inl (or-left (k == n) (has k ns) a)
      | inr b ↦
          elim (has-append k ns ms b) [ inl c ↦ inl (or-right (k == n) (has k ns) c) | inr d ↦ inr d ]
    ]

pub has-left : (k : ℕ) (ns ms : List ℕ) → has k ns ≡ true → has k (ns ++ ms) ≡ true
has-left k [] ms h = no h
has-left k (n ∷ ns) ms h = elim (or-cases (k == n) (has k ns) h) [ inl a ↦ or-left (k == n) (has k (ns ++ ms)) a | inr b ↦ or-right (k == n) (has k (ns ++ ms)) (has-left k ns ms b) ]

pub has-right : (k : ℕ) (ns ms : List ℕ) → has k ms ≡ true → has k (ns ++ ms) ≡ true
has-right k [] ms h = h
has-right k (n ∷ ns) ms h = or-right (k == n) (has k (ns ++ ms)) (has-right k ns ms h)

pub has-reverse : (k : ℕ) (ns : List ℕ) → has k (reverse ns) ≡ true → has k ns ≡ true
has-reverse k [] h = h
has-reverse k (n ∷ ns) h =
    elim (has-append k (reverse ns) (n ∷ []) (ap (has k) (sym (reverse-append (n ∷ []) ns)) ∙ h))
    [ inl a ↦ or-right (k == n) (has k ns) (has-reverse k ns a) | inr b ↦ elim (or-cases (k == n) false b) [ inl c ↦ or-left (k == n) (has k ns) c | inr d ↦ no d ] ]

pub has-filter : (p : ℕ → Bool) (k : ℕ) (ns : List ℕ) → has k (filter p ns) ≡ true → has k ns ≡ true
has-filter p k [] h = h
has-filter p k (n ∷ ns) h = by (p n) (has-filter p k ns) h
  where
    by : (b : Bool) → (has k (filter p ns) ≡ true → has k ns ≡ true) → has k (cond b (n ∷ filter p ns) (filter p ns)) ≡ true → has k (n ∷ ns) ≡ true
    by true below i = elim (or-cases (k == n) (has k (filter p ns)) i) [ inl a ↦ or-left (k == n) (has k ns) a | inr b ↦ or-right (k == n) (has k ns) (below b) ]
    by false below i = or-right (k == n) (has k ns) (below i)
