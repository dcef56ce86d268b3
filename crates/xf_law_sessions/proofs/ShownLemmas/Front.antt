-- The nodes of the instances are a part of the data that is made of whole trees: nothing above a node of it stands in a detached tree.
use Rattle.std.proofs.Common.{◌≡◌, ℕ, ◌==◌, Bool, true, false, not, cond, ◌||◌, List, [], ◌∷◌, ◌++◌, refl, sym, ap, ◌∙◌, subst}
use Rattle.std.proofs.lemmas.Bool.{eqb-true}
use Rattle.xf_def_forest.specs.Changes.{in_instances, in_detached}
use Rattle.xf_def_forest.specs.Forest.{Forest}
use Rattle.xf_def_forest.specs.Visit.{Visit, visits, has}
use Rattle.xf_def_forest.specs.WellFormed.{HasTrees}
use Rattle.xf_def_forest.proofs.BackLaws.{and-true, not-true}
use Rattle.xf_def_forest.proofs.OrderLaws.{visits-different}
use Rattle.xf_def_xpath.specs.Agree.{numbers_of, are_apart}
use Rattle.xf_def_xpath.proofs.VisitFacts.{no, self-same, or-left, or-right}
use Rattle.xf_def_xpath.proofs.ForestVisits.{Each, each-map}
use Rattle.xf_law_recalculation.proofs.MarksLemmas.Standing.{visits-parts, within}
use Rattle.xf_law_recalculation.specs.Within.Within.{Whole, kept}

numbers-append : (xs ys : List Visit) → numbers_of (xs ++ ys) ≡ numbers_of xs ++ numbers_of ys
numbers-append [] ys = refl
numbers-append (x ∷ xs) ys = ap (λ l. x.number ∷ l) (numbers-append xs ys)

behind-has : (k : ℕ) (xs ys : List ℕ) → has k ys ≡ true → has k (xs ++ ys) ≡ true
behind-has k [] ys h = h
behind-has k (x ∷ xs) ys h = or-right (k == x) (has k (xs ++ ys)) (behind-has k xs ys h)

-- a number of the second list is none of the first
apart-not : (xs ys : List ℕ) (k : ℕ) → are_apart (xs ++ ys) ≡ true → has k ys ≡ true → has k xs ≡ false
apart-not [] ys k h i = refl
apart-not (x ∷ xs) ys k h i = by (k == x) refl (apart-not xs ys k ps.1 i)
  where
    ps : (not (has x (xs ++ ys)) ≡ true) × (are_apart (xs ++ ys) ≡ true)
    ps = and-true (not (has x (xs ++ ys))) (are_apart (xs ++ ys)) h

    by : (b : Bool) → (k == x) ≡ b → has k xs ≡ false → (b || has k xs) ≡ false
    by true e f = no (sym (not-true (has x (xs ++ ys)) ps.0) ∙ subst (λ n. has n (xs ++ ys) ≡ true) (eqb-true k x e) (behind-has k xs ys i))
    by false e f = f

self-in : (all : List ℕ) (vs : List Visit) → ((k : ℕ) → has k (numbers_of vs) ≡ true → has k all ≡ true) → Each (λ v. has v.number all ≡ true) vs
self-in all [] h = tt
self-in all (v ∷ vs) h = (
  h v.number (or-left (v.number == v.number) (has v.number (numbers_of vs)) (self-same v.number)),
  self-in all vs (λ k i. h k (or-right (k == v.number) (has k (numbers_of vs)) i)),
)

both-each : (P Q : Visit → Type 0) (vs : List Visit) → Each P vs → Each Q vs → Each (λ v. P v × Q v) vs
both-each P Q [] d e = tt
both-each P Q (v ∷ vs) d e = ((d.0, e.0), both-each P Q vs d.1 e.1)

each-append : (P : Visit → Type 0) (xs ys : List Visit) → Each P xs → Each P ys → Each P (xs ++ ys)
each-append P [] ys d e = e
each-append P (x ∷ xs) ys d e = (d.0, each-append P xs ys d.1 e)

kept-all : (p : ℕ → Bool) (vs : List Visit) → Each (λ v. p v.number ≡ true) vs → kept p vs ≡ vs
kept-all p [] e = refl
kept-all p (v ∷ vs) e = ap (λ b. cond b (v ∷ kept p vs) (kept p vs)) e.0 ∙ ap (λ l. v ∷ l) (kept-all p vs e.1)

kept-none : (p : ℕ → Bool) (vs : List Visit) → Each (λ v. p v.number ≡ false) vs → kept p vs ≡ []
kept-none p [] e = refl
kept-none p (v ∷ vs) e = ap (λ b. cond b (v ∷ kept p vs) (kept p vs)) e.0 ∙ kept-none p vs e.1

kept-front : (p : ℕ → Bool) (xs ys : List Visit) → Each (λ v. p v.number ≡ true) xs → Each (λ v. p v.number ≡ false) ys → kept p (xs ++ ys) ≡ xs
kept-front p [] ys d e = kept-none p ys e
kept-front p (x ∷ xs) ys d e = ap (λ b. cond b (x ∷ kept p (xs ++ ys)) (kept p (xs ++ ys))) d.0 ∙ ap (λ l. x ∷ l) (kept-front p xs ys d.1 e)

module _ (forest : Forest) (trees : HasTrees forest) where
  abbrev fronts : List Visit
  fronts = visits (in_instances forest.nodes)

  abbrev backs : List Visit
  backs = visits (in_detached forest.nodes)

  -- whether a node with this number stands in an instance
  abbrev pub is_in : ℕ → Bool
  is_in k = has k (numbers_of fronts)

  apart : are_apart (numbers_of fronts ++ numbers_of backs) ≡ true
  apart = subst (λ ns. are_apart ns ≡ true) (ap numbers_of (visits-parts forest.nodes) ∙ numbers-append fronts backs) (visits-different forest trees)

  abbrev In : Visit → Type 0
  In v = is_in v.number ≡ true

  abbrev Out : Visit → Type 0
  Out v = has v.number (numbers_of backs) ≡ true

  -- what stands above it has one of these numbers
  abbrev Under : List ℕ → Visit → Type 0
  Under ns v = (n : ℕ) → has n v.above ≡ true → has n ns ≡ true

  fronts-in : Each In fronts
  fronts-in = self-in (numbers_of fronts) fronts (λ k h. h)

  back-out : (k : ℕ) → has k (numbers_of backs) ≡ true → is_in k ≡ false
  back-out k h = apart-not (numbers_of fronts) (numbers_of backs) k apart h

  backs-in : Each Out backs
  backs-in = self-in (numbers_of backs) backs (λ k h. h)

  pub all-whole : Each (Whole is_in) (visits forest.nodes)
  all-whole =
      subst (λ vs. Each (Whole is_in) vs) (sym (visits-parts forest.nodes))
      (each-append (Whole is_in) fronts backs
      (each-map (λ v. In v × Under (numbers_of fronts) v) (Whole is_in) fronts (λ v h n i. h.1 n i ∙ sym h.0) (both-each In (Under (numbers_of fronts)) fronts fronts-in (within (in_instances forest.nodes))))
      (each-map (λ v. Out v × Under (numbers_of backs) v) (Whole is_in) backs (λ v h n i. back-out n (h.1 n i) ∙ sym (back-out v.number h.0))
      (both-each Out (Under (numbers_of backs)) backs backs-in (within (in_detached forest.nodes)))))

  pub front-kept : kept is_in (visits forest.nodes) ≡ fronts
  front-kept =
      ap (kept is_in) (visits-parts forest.nodes)
      ∙ kept-front is_in fronts backs fronts-in (each-map Out (λ v. is_in v.number ≡ false) backs (λ v h. back-out v.number h) backs-in)
