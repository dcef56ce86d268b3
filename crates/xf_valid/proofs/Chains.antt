-- The ancestors of a node are its parent and the ancestors of that.
use Rattle.std.proofs.Common.{◌≡◌, ℕ, ◌==◌, Bool, true, false, cond, not, ◌&&◌, ◌||◌, List, [], ◌∷◌, nat_lt, find, Some, None, refl, sym, ap, ◌∙◌, arith}
use Rattle.std.proofs.lemmas.Bool.{eqb-true}
use Rattle.std.proofs.lemmas.Bool.Decides.{nat_tests}
use Rattle.xf_def_forest.specs.declared.content.Node.{Node}
use Rattle.xf_def_forest.specs.Forest.{has_number}
use Rattle.xf_def_forest.specs.Visit.{Visit, visit, visits, visits_from, still_above, numbers, first_of, above_in, ancestors_of, parent_of}
use Rattle.xf_def_forest.specs.WellFormed.{are_apart}

-- each node that is open has the others behind it above it
abbrev IsChain : List Visit → List Node → Type 0
IsChain all [] = Unit {0}
IsChain all (y ∷ ys) = (ancestors_of y.number all ≡ numbers ys) × IsChain all ys

still-chain : (all : List Visit) (d : ℕ) (ys : List Node) → IsChain all ys → IsChain all (still_above d ys)
still-chain all d [] h = h
still-chain all d (y ∷ ys) h = by (nat_lt y.depth d) (still-chain all d ys h.1)
  where
    by : (b : Bool) → IsChain all (still_above d ys) → IsChain all (cond b (y ∷ ys) (still_above d ys))
    by true later = h
    by false later = later

none : {P : Type 0} → false ≡ true → P
none e = cc e

and-parts : (a b : Bool) → (a && b) ≡ true → (a ≡ true) × (b ≡ true)
and-parts true b h = (refl, h)
and-parts false b h = none h

not-false : (b : Bool) → not b ≡ true → b ≡ false
not-false true h = none h
not-false false h = refl

-- what a node has from its parent, where the open nodes are a chain
first-chain : (all : List Visit) (ys : List Node) (p : ℕ) → IsChain all ys → first_of (numbers ys) ≡ Some p → numbers ys ≡ p ∷ ancestors_of p all
first-chain all [] p h e = cc e
first-chain all (y ∷ ys) p h e =
    let same : y.number ≡ p = cc e in
    ap (λ k. k ∷ numbers ys) same ∙ ap (λ l. p ∷ l) (sym h.0) ∙ ap (λ k. p ∷ ancestors_of k all) same

chain-from : (all : List Visit) (above xs : List Node) → are_apart xs ≡ true → IsChain all above
    → ((m : ℕ) → has_number m xs ≡ true → find (λ v. v.number == m) all ≡ find (λ v. v.number == m) (visits_from above xs))
    → (n p : ℕ) → has_number n xs ≡ true → parent_of n all ≡ Some p → ancestors_of n all ≡ p ∷ ancestors_of p all
chain-from all above [] a c same n p h e = none h
chain-from all above (x ∷ xs) a c same n p h e =
    by (x.number == n) refl
    (λ i. chain-from all (x ∷ stay) xs apart.1 (x-above, still-chain all x.depth above c) later n p (sym (ap (λ b. b || has_number n xs) i) ∙ h) e)
  where
    stay : List Node
    stay = still_above x.depth above

    is-first : (m : ℕ) → (x.number == m) ≡ true → find (λ v. v.number == m) all ≡ Some (visit above x)
    is-first m i = same m (ap (λ b. b || has_number m xs) i) ∙ ap (λ b. cond b (Some (visit above x)) (find (λ v. v.number == m) (visits_from (x ∷ stay) xs))) i

    x-above : ancestors_of x.number all ≡ numbers stay
    x-above = ap above_in (is-first x.number (same-number x.number))
      where
        same-number : (k : ℕ) → (k == k) ≡ true
        same-number k = grind (arith, nat_tests)

    apart : (not (has_number x.number xs) ≡ true) × (are_apart xs ≡ true)
    apart = and-parts (not (has_number x.number xs)) (are_apart xs) a

    later : (m : ℕ) → has_number m xs ≡ true → find (λ v. v.number == m) all ≡ find (λ v. v.number == m) (visits_from (x ∷ stay) xs)
    later m i = same m (right (x.number == m) (has_number m xs) i) ∙ ap (λ b. cond b (Some (visit above x)) (find (λ v. v.number == m) (visits_from (x ∷ stay) xs))) (other (x.number == m) refl)
      where
        right : (a b : Bool) → b ≡ true → (a || b) ≡ true
        right true b h = refl
        right false b h = h

        other : (b : Bool) → (x.number == m) ≡ b → (x.number == m) ≡ false
        other true k = none (sym (not-false (has_number x.number xs) apart.0) ∙ ap (λ j. has_number j xs) (eqb-true x.number m k) ∙ i)
        other false k = k

    by : (b : Bool) → (x.number == n) ≡ b → ((x.number == n) ≡ false → ancestors_of n all ≡ p ∷ ancestors_of p all) → ancestors_of n all ≡ p ∷ ancestors_of p all
    by true i rest =
        let is : ancestors_of n all ≡ numbers stay = ap above_in (is-first n i) in
        is ∙ first-chain all stay p (still-chain all x.depth above c) (ap first_of (sym is) ∙ e)
    by false i rest = rest i

pub parent-chain : (nodes : List Node) (n p : ℕ) → are_apart nodes ≡ true → has_number n nodes ≡ true → parent_of n (visits nodes) ≡ Some p → ancestors_of n (visits nodes) ≡ p ∷ ancestors_of p (visits nodes)
parent-chain nodes n p a h e = chain-from (visits nodes) [] nodes a tt (λ m i. refl) n p h e

pub no-parent : (all : List Visit) (n : ℕ) → parent_of n all ≡ None → ancestors_of n all ≡ []
no-parent all n h = by (ancestors_of n all) h
  where
    by : (ns : List ℕ) → first_of ns ≡ None → ns ≡ []
    by [] h = refl
    by (m ∷ ms) h = cc h
