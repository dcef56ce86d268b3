-- Lists of entries of which the one has the elements of the other, in another order.
use Rattle.std.proofs.Common.{◌≡◌, ℕ, zero, suc, ◌==◌, Bool, true, false, cond, ◌||◌, List, [], ◌∷◌, ◌++◌, map, find, Some, refl, sym, ap, ◌∙◌, subst, inl, inr}
use Rattle.std.specs.Prelude.{filter, slice_get}
use Rattle.std.specs.List.{list_any}
use Rattle.std.proofs.lemmas.Bool.{cases_Bool, eqb-true, eq-eqb}
use Rattle.xf_def_forest.specs.Visit.{Visit}
use Rattle.xf_graph.specs.Edges.{has}
use Rattle.xf_graph.proofs.HasLists.{has_first, has_later, has_cases}
use Rattle.xf_def_xpath.proofs.VisitFacts.{no, some-same, none-some}
use Rattle.xf_def_model.specs.Applied.{Entry}
use Rattle.xf_def_model.specs.Circular.{by_nodes}
use Rattle.xf_def_model.specs.Pertinent.{AllOf}
use Rattle.xf_def_model.proofs.EachLemmas.{each_then, each_one}
use Rattle.xf_def_model.proofs.CircularLemmas.{StandsAt}
use Rattle.xf_def_model.proofs.RoundLaws.{find-none}
use Rattle.xf_law_recalculation.specs.Agree.InTurn.{AtPlaces, AreSingle}

-- ---- facts of each

pub all-append : {X : Type 0} (P : X → Type 0) (xs ys : List X) → AllOf P xs → AllOf P ys → AllOf P (xs ++ ys)
all-append P [] ys h i = i
all-append P (x ∷ xs) ys h i = (h.0, all-append P xs ys h.1 i)

pub all-later : {X : Type 0} (P : X → Type 0) (xs ys : List X) → AllOf P (xs ++ ys) → AllOf P ys
all-later P [] ys h = h
all-later P (x ∷ xs) ys h = all-later P xs ys h.1

pub at-stands : {X : Type 0} (P : X → Type 0) (xs : List X) (k : ℕ) (x : X) → AllOf P xs → StandsAt xs k x → P x
at-stands P [] k x h s = absurd s
at-stands P (y ∷ ys) zero x h s = subst P s h.0
at-stands P (y ∷ ys) (suc k) x h s = at-stands P ys k x h.1 s

pub each-stands : {X : Type 0} (xs : List X) → AllOf (λ x. (k : ℕ) × StandsAt xs k x) xs
each-stands [] = tt
each-stands (x ∷ xs) = ((zero, refl), each_then _ _ (λ y s. (suc s.0, s.1)) xs (each-stands xs))

pub none-any : {X : Type 0} (p : X → Bool) (xs : List X) → AllOf (λ x. p x ≡ false) xs → list_any p xs ≡ false
none-any p [] h = refl
none-any p (x ∷ xs) h = ap (λ b. b || list_any p xs) h.0 ∙ none-any p xs h.1

pub each-none : {X : Type 0} (p : X → Bool) (xs : List X) → list_any p xs ≡ false → AllOf (λ x. p x ≡ false) xs
each-none p [] h = tt
each-none p (x ∷ xs) h = let parts = both (p x) (list_any p xs) h in (parts.0, each-none p xs parts.1)
  where
    both : (a b : Bool) → (a || b) ≡ false → (a ≡ false) × (b ≡ false)
    both true b i = no (sym i)
    both false b i = (refl, i)

-- ---- places

pub got-stands : {X : Type 0} (xs : List X) (k : ℕ) (x : X) → slice_get xs k ≡ Some x → StandsAt xs k x
got-stands [] k x h = none-some h
got-stands (y ∷ ys) zero x h = some-same h
got-stands (y ∷ ys) (suc k) x h = got-stands ys k x h

pub stands-same : {X : Type 0} (xs : List X) (k : ℕ) (x y : X) → StandsAt xs k x → StandsAt xs k y → x ≡ y
stands-same [] k x y h i = absurd h
stands-same (z ∷ zs) zero x y h i = sym h ∙ i
stands-same (z ∷ zs) (suc k) x y h i = stands-same zs k x y h i

-- what holds of each element of the first list by its place holds of those at the places
pub each-at_place : (P : Entry → Type 0) (xs : List Entry) (places : List ℕ) (es : List Entry) → AtPlaces xs places es →
    ((k : ℕ) (x : Entry) → has places k ≡ true → StandsAt xs k x → P x) → AllOf P es
each-at_place P xs [] [] a h = tt
each-at_place P xs [] (e ∷ es) a h = absurd a
each-at_place P xs (p ∷ ps) [] a h = absurd a
each-at_place P xs (p ∷ ps) (e ∷ es) a h = (h p e (has_first p ps) (got-stands xs p e a.0), each-at_place P xs ps es a.1 (λ k x i s. h k x (has_later p k ps i) s))

pub stands-at_place : (xs : List Entry) (places : List ℕ) (es : List Entry) → AtPlaces xs places es → (k : ℕ) (x : Entry) → has places k ≡ true → StandsAt xs k x → (j : ℕ) × StandsAt es j x
stands-at_place xs [] es a k x h s = no h
stands-at_place xs (p ∷ ps) [] a k x h s = absurd a
stands-at_place xs (p ∷ ps) (e ∷ es) a k x h s = elim (has_cases p k ps h) [
  | inl same ↦ (zero, stands-same xs k e x (subst (λ i. StandsAt xs i e) same (got-stands xs p e a.0)) s)
  | inr later ↦ let r = stands-at_place xs ps es a.1 k x later s in (suc r.0, r.1)
]

-- ---- entries by their nodes

each-filter : {X : Type 0} (P : X → Type 0) (p : X → Bool) (xs : List X) → AllOf P xs → AllOf P (filter p xs)
each-filter P p [] h = tt
each-filter P p (x ∷ xs) h = by (p x) (each-filter P p xs h.1)
  where
    by : (b : Bool) → AllOf P (filter p xs) → AllOf P (cond b (x ∷ filter p xs) (filter p xs))
    by true rest = (h.0, rest)
    by false rest = rest

pub each-by_nodes : (P : Entry → Type 0) (xs : List Visit) (es : List Entry) → AllOf P es → AllOf P (by_nodes xs es)
each-by_nodes P [] es h = tt
each-by_nodes P (x ∷ xs) es h = all-append P (filter (λ (e : Entry). e.node == x.number) es) (by_nodes xs es) (each-filter P (λ (e : Entry). e.node == x.number) es h) (each-by_nodes P xs es h)

turned : (a b : ℕ) → (a == b) ≡ true → (b == a) ≡ true
turned a b h = eq-eqb b a (sym (eqb-true a b h))

-- where no node has two, an entry is the only one at its node
pub only-one : (es : List Entry) → AreSingle es → (k : ℕ) (e : Entry) → StandsAt es k e → AllOf (λ f. (f.node == e.node) ≡ true → f ≡ e) es
only-one [] h k e s = tt
only-one (x ∷ xs) h zero e s =
    (λ i. s, each_then (λ (f : Entry). (f.node == x.node) ≡ false) _ (λ f off i. no (sym off ∙ ap (λ (y : Entry). f.node == y.node) s ∙ i)) xs (each-none (λ (f : Entry). f.node == x.node) xs h.0))
only-one (x ∷ xs) h (suc k) e s =
    (λ i. no (sym (at-stands (λ (f : Entry). (f.node == x.node) ≡ false) xs k e (each-none (λ (f : Entry). f.node == x.node) xs h.0) s) ∙ turned x.node e.node i), only-one xs h.1 k e s)

module _ (made : Entry → ℕ × List ℕ) (of_made : (e : Entry) → (made e).0 ≡ e.node) where
  pub find-only : (n : ℕ) (es : List Entry) (k : ℕ) (e : Entry) → (e.node == n) ≡ true → StandsAt es k e → AllOf (λ f. (f.node == n) ≡ true → f ≡ e) es
      → find (λ p. p.0 == n) (map made es) ≡ Some (made e)
  find-only n [] k e h s only = absurd s
  find-only n (x ∷ xs) k e h s only = by (x.node == n) refl k s (λ j t. find-only n xs j e h t only.1)
    where
      at : (b : Bool) → (x.node == n) ≡ b → ((made x).0 == n) ≡ b
      at b i = ap (λ m. m == n) (of_made x) ∙ i

      by : (b : Bool) → (x.node == n) ≡ b → (j : ℕ) → StandsAt (x ∷ xs) j e → ((i : ℕ) → StandsAt xs i e → find (λ p. p.0 == n) (map made xs) ≡ Some (made e)) → find (λ p. p.0 == n) (map made (x ∷ xs)) ≡ Some (made e)
      by true i j t later = ap (λ c. cond c (Some (made x)) (find (λ p. p.0 == n) (map made xs))) (at true i) ∙ ap (λ f. Some (made f)) (only.0 i)
      by false i zero t later = no (sym i ∙ ap (λ (f : Entry). f.node == n) t ∙ h)
      by false i (suc j) t later = ap (λ c. cond c (Some (made x)) (find (λ p. p.0 == n) (map made xs))) (at false i) ∙ later j t

  -- one content for a node, in whatever order the entries come
  pub find-permuted : (xs es : List Entry) → AreSingle xs → ((P : Entry → Type 0) → AllOf P xs → AllOf P es) → ((k : ℕ) (e : Entry) → StandsAt xs k e → (j : ℕ) × StandsAt es j e)
      → (n : ℕ) → find (λ p. p.0 == n) (map made es) ≡ find (λ p. p.0 == n) (map made xs)
  find-permuted xs es single each stands n = elim (cases_Bool (list_any (λ (e : Entry). e.node == n) xs)) [
    | inl some ↦
        let e = each_one _ (λ (f : Entry). f.node == n) xs (each-stands xs) some in
        let only : AllOf (λ f. (f.node == n) ≡ true → f ≡ e.0) xs =
        each_then _ _ (λ f same i. same (ap (λ m. f.node == m) (eqb-true e.0.node n e.1) ∙ i)) xs (only-one xs single e.2.0 e.0 e.2.1) in
        let there = stands e.2.0 e.0 e.2.1 in
        find-only n es there.0 e.0 e.1 there.1 (each _ only) ∙ sym (find-only n xs e.2.0 e.0 e.1 e.2.1 only)
    | inr none ↦
        find-none made made of_made n es (none-any (λ (e : Entry). e.node == n) es (each _ (each-none (λ (e : Entry). e.node == n) xs none)))
        ∙ sym (find-none made made of_made n xs none)
  ]
