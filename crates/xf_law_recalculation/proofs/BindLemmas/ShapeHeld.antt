-- A shape goes with other numbers of the nodes of a list, once the texts that stand for those of its elements have numbers by them.
use Rattle.std.proofs.Common.{◌≡◌, ℕ, ◌+◌, ◌-◌, ◌==◌, ◌^◌, Bool, true, false, not, cond, ◌&&◌, List, [], ◌∷◌, ◌++◌, map, nat_lt, Option, Some, None, refl, sym, ap, ◌∙◌, arith}
use Rattle.std.specs.Prelude.{filter, is_some}
use Rattle.std.proofs.lemmas.Bool.Decides.{nat_tests}
use Rattle.std.proofs.lemmas.Bool.{eqb-true}
use Rattle.std.proofs.lemmas.List.{map-append}
use Rattle.xf_def_forest.specs.declared.content.Content.TheVariants.{Text}
use Rattle.xf_def_forest.specs.Forest.{is_text, is_element, is_attribute}
use Rattle.xf_def_forest.specs.Visit.{Visit, has, has_parent, is_first}
use Rattle.xf_def_forest.specs.Shape.{text_number, is_replaced, is_gone, given_visits, visits_in, is_borne, filled, has_elements, only_text, erased, shape}
use Rattle.xf_def_forest.specs.Same.{IsRenumbering, renumbered_visit}
use Rattle.xf_def_forest.proofs.RenumberLaws.{map-map, filter-through, any-through}
use Rattle.xf_def_xpath.proofs.ForestVisits.{Each, each-filter}
use Rattle.xf_law_recalculation.proofs.ChangeLemmas.Carry.{differ-of}

-- ---- numbers of nodes, and of texts that stand for those of elements

module _ (ns : List ℕ) (g : ℕ → ℕ) (same : IsRenumbering g) (few : (k : ℕ) → has k ns ≡ true → nat_lt k (2 ^ 127) ≡ true) (small : (k : ℕ) → has k ns ≡ true → nat_lt (g k) (2 ^ 128) ≡ true) where
  abbrev stands : ℕ → Bool
  stands k = has k ns

  -- the number that stands for the text of one of them
  abbrev over : ℕ → Bool
  over k = not (nat_lt k (2 ^ 128)) && has (k - 2 ^ 128) ns

  abbrev pub spread : ℕ → ℕ
  spread k = cond (has k ns) (g k) (cond (not (nat_lt k (2 ^ 128)) && has (k - 2 ^ 128) ns) (2 ^ 128 + g (k - 2 ^ 128)) (2 ^ 130 + k))

  pub at-node : (k : ℕ) → has k ns ≡ true → spread k ≡ g k
  at-node k h = ap (λ b. cond b (g k) (cond (over k) (2 ^ 128 + g (k - 2 ^ 128)) (2 ^ 130 + k))) h

  at-text : (k : ℕ) → stands k ≡ false → over k ≡ true → spread k ≡ 2 ^ 128 + g (k - 2 ^ 128)
  at-text k h i = ap (λ b. cond b (g k) (cond (over k) (2 ^ 128 + g (k - 2 ^ 128)) (2 ^ 130 + k))) h ∙ ap (λ b. cond b (2 ^ 128 + g (k - 2 ^ 128)) (2 ^ 130 + k)) i

  elsewhere : (k : ℕ) → stands k ≡ false → over k ≡ false → spread k ≡ 2 ^ 130 + k
  elsewhere k h i = ap (λ b. cond b (g k) (cond (over k) (2 ^ 128 + g (k - 2 ^ 128)) (2 ^ 130 + k))) h ∙ ap (λ b. cond b (2 ^ 128 + g (k - 2 ^ 128)) (2 ^ 130 + k)) i

  and-parts : (a b : Bool) → (a && b) ≡ true → (a ≡ true) × (b ≡ true)
  and-parts true b h = (refl, h)
  and-parts false b h = cc h

  turned : (a c : ℕ) → (a == c) ≡ (c == a)
  turned a c = grind (arith, nat_tests)

  apart-by : (p : ℕ → Bool) (a c : ℕ) → p a ≡ true → p c ≡ false → (a == c) ≡ false
  apart-by p a c h i = differ-of (a == c) (λ e. sym h ∙ ap p (eqb-true a c e) ∙ i)

  node-text : (a c : ℕ) → stands a ≡ true → stands c ≡ false → over c ≡ true → (spread a == spread c) ≡ (a == c)
  node-text a c h i j =
      ap (λ m. m == spread c) (at-node a h) ∙ ap (λ m. g a == m) (at-text c i j) ∙ less (g a) (g (c - 2 ^ 128)) (small a h) ∙ sym (apart-by stands a c h i)
    where
      less : (m k : ℕ) → nat_lt m (2 ^ 128) ≡ true → (m == 2 ^ 128 + k) ≡ false
      less m k e = grind (arith, nat_tests, e)

  node-other : (a c : ℕ) → stands a ≡ true → stands c ≡ false → over c ≡ false → (spread a == spread c) ≡ (a == c)
  node-other a c h i j =
      ap (λ m. m == spread c) (at-node a h) ∙ ap (λ m. g a == m) (elsewhere c i j) ∙ less (g a) c (small a h) ∙ sym (apart-by stands a c h i)
    where
      less : (m k : ℕ) → nat_lt m (2 ^ 128) ≡ true → (m == 2 ^ 130 + k) ≡ false
      less m k e = grind (arith, nat_tests, e)

  text-text : (a c : ℕ) → stands a ≡ false → over a ≡ true → stands c ≡ false → over c ≡ true → (spread a == spread c) ≡ (a == c)
  text-text a c h i j k =
      ap (λ m. m == spread c) (at-text a h i) ∙ ap (λ m. 2 ^ 128 + g (a - 2 ^ 128) == m) (at-text c j k)
      ∙ both (g (a - 2 ^ 128)) (g (c - 2 ^ 128)) ∙ same (a - 2 ^ 128) (c - 2 ^ 128)
      ∙ back a c (and-parts (not (nat_lt a (2 ^ 128))) (has (a - 2 ^ 128) ns) i).0 (and-parts (not (nat_lt c (2 ^ 128))) (has (c - 2 ^ 128) ns) k).0
    where
      both : (m n : ℕ) → (2 ^ 128 + m == 2 ^ 128 + n) ≡ (m == n)
      both m n = grind (arith, nat_tests)

      back : (m n : ℕ) → not (nat_lt m (2 ^ 128)) ≡ true → not (nat_lt n (2 ^ 128)) ≡ true → (m - 2 ^ 128 == n - 2 ^ 128) ≡ (m == n)
      back m n e l = grind (arith, nat_tests, e, l)

  text-other : (a c : ℕ) → stands a ≡ false → over a ≡ true → stands c ≡ false → over c ≡ false → (spread a == spread c) ≡ (a == c)
  text-other a c h i j k =
      ap (λ m. m == spread c) (at-text a h i) ∙ ap (λ m. 2 ^ 128 + g (a - 2 ^ 128) == m) (elsewhere c j k)
      ∙ less (g (a - 2 ^ 128)) c (small (a - 2 ^ 128) (and-parts (not (nat_lt a (2 ^ 128))) (has (a - 2 ^ 128) ns) i).1) ∙ sym (apart-by over a c i k)
    where
      less : (m n : ℕ) → nat_lt m (2 ^ 128) ≡ true → (2 ^ 128 + m == 2 ^ 130 + n) ≡ false
      less m n e = grind (arith, nat_tests, e)

  other-other : (a c : ℕ) → stands a ≡ false → over a ≡ false → stands c ≡ false → over c ≡ false → (spread a == spread c) ≡ (a == c)
  other-other a c h i j k = ap (λ m. m == spread c) (elsewhere a h i) ∙ ap (λ m. 2 ^ 130 + a == m) (elsewhere c j k) ∙ both a c
    where
      both : (m n : ℕ) → (2 ^ 130 + m == 2 ^ 130 + n) ≡ (m == n)
      both m n = grind (arith, nat_tests)

  flip : (a c : ℕ) → (spread c == spread a) ≡ (c == a) → (spread a == spread c) ≡ (a == c)
  flip a c e = turned (spread a) (spread c) ∙ e ∙ turned c a

  pub spread-renumbers : IsRenumbering spread
  spread-renumbers a c = by (stands a) (over a) (stands c) (over c) refl refl refl refl
    where
      by : (p q r s : Bool) → stands a ≡ p → over a ≡ q → stands c ≡ r → over c ≡ s → (spread a == spread c) ≡ (a == c)
      by true q true s h i j k = ap (λ m. m == spread c) (at-node a h) ∙ ap (λ m. g a == m) (at-node c j) ∙ same a c
      by true q false true h i j k = node-text a c h j k
      by true q false false h i j k = node-other a c h j k
      by false true true s h i j k = flip a c (node-text c a j h i)
      by false false true s h i j k = flip a c (node-other c a j h i)
      by false true false true h i j k = text-text a c h i j k
      by false true false false h i j k = text-other a c h i j k
      by false false false true h i j k = flip a c (text-other c a j k h i)
      by false false false false h i j k = other-other a c h i j k

  pub spread-texts : (k : ℕ) → has k ns ≡ true → spread (text_number k) ≡ text_number (spread k)
  spread-texts k h =
      at-text (text_number k) (differ-of (stands (text_number k)) (λ e. too-great (few (text_number k) e))) (ap (λ b. b && has (text_number k - 2 ^ 128) ns) far ∙ ap (λ m. has m ns) back ∙ h)
      ∙ ap (λ m. 2 ^ 128 + g m) back ∙ ap (λ m. 2 ^ 128 + m) (sym (at-node k h))
    where
      too-great : nat_lt (text_number k) (2 ^ 127) ≡ true → true ≡ false
      too-great e = grind (arith, nat_tests, e)

      far : not (nat_lt (text_number k) (2 ^ 128)) ≡ true
      far = grind (arith, nat_tests)

      back : text_number k - 2 ^ 128 ≡ k
      back = grind (arith, nat_tests)

-- ---- the shape

abbrev one_or_none : Bool → Option (List (List ℕ))
one_or_none b = cond b None (Some ([] ∷ []))

module _ (h : ℕ → ℕ) (same : IsRenumbering h) where
  abbrev rv : Visit → Visit
  rv = renumbered_visit h

  first-through : (m : ℕ) (ns : List ℕ) → is_first (h m) (map h ns) ≡ is_first m ns
  first-through m [] = refl
  first-through m (p ∷ ps) = same m p

  elements-through : (all : List Visit) (n : ℕ) → has_elements (map rv all) (h n) ≡ has_elements all n
  elements-through all n =
      any-through rv (λ y. is_element y.content && is_first (h n) y.above) (λ y. is_element y.content && is_first n y.above) (λ y. ap (λ b. is_element y.content && b) (first-through n y.above)) all

  parent-through : (ns : List ℕ) → has_parent (map h ns) ≡ has_parent ns
  parent-through [] = refl
  parent-through (n ∷ ns) = refl

  filled-through : (given other : Visit → List Visit) (waiting xs : List Visit) → Each (λ x. given (rv x) ≡ map rv (other x)) xs → filled given (map rv waiting) (map rv xs) ≡ map rv (filled other waiting xs)
  filled-through given other waiting [] e = refl
  filled-through given other waiting (x ∷ xs) e =
      ap (λ b. cond (is_attribute x.content && b) (rv x ∷ filled given (map rv waiting) (map rv xs)) (map rv waiting ++ rv x ∷ filled given (given (rv x)) (map rv xs))) (parent-through x.above)
      ∙ by (is_borne x) (λ w. filled-through given other w xs e.1)
    where
      by : (b : Bool) → ((w : List Visit) → filled given (map rv w) (map rv xs) ≡ map rv (filled other w xs)) →
          cond b (rv x ∷ filled given (map rv waiting) (map rv xs)) (map rv waiting ++ rv x ∷ filled given (given (rv x)) (map rv xs)) ≡ map rv (cond b (x ∷ filled other waiting xs) (waiting ++ x ∷ filled other (other x) xs))
      by true f = ap (λ l. rv x ∷ l) (f waiting)
      by false f = ap (λ l. map rv waiting ++ rv x ∷ l) (ap (λ l. filled given l (map rv xs)) e.0 ∙ f (other x)) ∙ sym (map-append rv waiting (x ∷ filled other (other x) xs))

  module _ (all : List Visit) where
    gone-through : (x : Visit) → is_gone (only_text (map rv all)) (rv x) ≡ is_gone (only_text all) x
    gone-through x = ap (λ b. is_text x.content && b) (by x.above)
      where
        by : (ns : List ℕ) → is_replaced (only_text (map rv all)) (map h ns) ≡ is_replaced (only_text all) ns
        by [] = refl
        by (n ∷ ns) = ap (λ b. is_some (one_or_none b)) (elements-through all n)

    given-through : (x : Visit) → h (text_number x.number) ≡ text_number (h x.number) → visits_in (only_text (map rv all)) (rv x) ≡ map rv (visits_in (only_text all) x)
    given-through x e =
        ap (λ b. cond (is_element x.content) (given_visits (rv x) (cond b None (Some ([] ∷ [])))) []) (elements-through all x.number) ∙ by (is_element x.content) (has_elements all x.number)
      where
        by : (a b : Bool) → cond a (given_visits (rv x) (cond b None (Some ([] ∷ [])))) [] ≡ map rv (cond a (given_visits x (cond b None (Some ([] ∷ [])))) [])
        by false b = refl
        by true true = refl
        by true false = ap (λ n. record { number = n; above = h x.number ∷ map h x.above; content = Text [] } ∷ []) (sym e)

    pub shape-through : Each (λ x. h (text_number x.number) ≡ text_number (h x.number)) all → shape (map rv all) ≡ map rv (shape all)
    shape-through e =
        ap (λ l. filled (visits_in (only_text (map rv all))) [] (filter (λ x. not (is_gone (only_text (map rv all)) x)) l)) (map-map erased rv all ∙ sym (map-map rv erased all))
        ∙ ap (filled (visits_in (only_text (map rv all))) []) (filter-through rv (λ x. not (is_gone (only_text (map rv all)) x)) (λ x. not (is_gone (only_text all) x)) (λ x. ap not (gone-through x)) (map erased all))
        ∙ filled-through (visits_in (only_text (map rv all))) (visits_in (only_text all)) [] (filter (λ x. not (is_gone (only_text all) x)) (map erased all))
        (each-filter (λ x. visits_in (only_text (map rv all)) (rv x) ≡ map rv (visits_in (only_text all) x)) (λ x. not (is_gone (only_text all) x)) (map erased all) (each-erased all e))
      where
        each-erased : (xs : List Visit) → Each (λ x. h (text_number x.number) ≡ text_number (h x.number)) xs → Each (λ x. visits_in (only_text (map rv all)) (rv x) ≡ map rv (visits_in (only_text all) x)) (map erased xs)
        each-erased [] i = tt
        each-erased (x ∷ xs) i = (given-through (erased x) i.0, each-erased xs i.1)
