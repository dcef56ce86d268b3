-- Nodes of entries: what stands in the shape of a forest, and is no text of the shape alone, stands in the forest, below the same nodes and in
-- the same order.
use Rattle.std.proofs.Common.{◌≡◌, ℕ, ◌^◌, ◌==◌, nat_lt, Bool, true, false, cond, ◌||◌, List, [], ◌∷◌, map, Option, Some, None, is_some, refl, sym, ap, ◌∙◌}
use Rattle.std.specs.Prelude.{filter}
use Rattle.std.proofs.lemmas.Bool.{eqb-true}
use Rattle.xf_def_forest.specs.declared.content.Node.{Node}
use Rattle.xf_def_forest.specs.Forest.{Forest, has_number}
use Rattle.xf_def_forest.specs.Order.{in_order}
use Rattle.xf_def_forest.specs.Visit.{Visit, visits, has, above_in, ancestors_of}
use Rattle.xf_def_forest.specs.Shape.{erased, shape_of, text_number}
use Rattle.xf_def_xpath.specs.Asked.{found}
use Rattle.xf_def_xpath.specs.Agree.{numbers_of}
use Rattle.xf_def_xpath.proofs.VisitFacts.{no, none-some, has-found, kept_if}
use Rattle.xf_def_xpath.proofs.ForestVisits.{Each, self-found}
use Rattle.xf_eval_shape.specs.Sound.{Sound}
use Rattle.xf_eval_shape.specs.Spots.{shaped, stands}
use Rattle.xf_eval_shape.proofs.Filled.{unfilled}
use Rattle.xf_eval_shape.proofs.Shapes.{given, given-is, is-above, is_kept, is_leaf_visit, kept, shaped-is, text_in, real, real-visits, whole, found-live, found-whole, live-found, stands-is, stands-found}

numbers-erased : (xs : List Visit) → numbers_of (map erased xs) ≡ numbers_of xs
numbers-erased [] = refl
numbers-erased (x ∷ xs) = ap (λ l. x.number ∷ l) (numbers-erased xs)

above-erased : (n : ℕ) (xs : List Visit) → above_in (found n (map erased xs)) ≡ above_in (found n xs)
above-erased n [] = refl
above-erased n (x ∷ xs) = by (x.number == n) (above-erased n xs)
  where
    by : (b : Bool) → above_in (found n (map erased xs)) ≡ above_in (found n xs) → above_in (cond b (Some (erased x)) (found n (map erased xs))) ≡ above_in (cond b (Some x) (found n xs))
    by true h = refl
    by false h = h

order-erased : (ns : List ℕ) (xs : List Visit) → in_order (map erased xs) ns ≡ in_order xs ns
order-erased ns [] = refl
order-erased ns (x ∷ xs) = by (has x.number ns) (order-erased ns xs)
  where
    by : (b : Bool) → in_order (map erased xs) ns ≡ in_order xs ns
        → map (λ (y : Visit). y.number) (cond b (erased x ∷ filter (λ y. has y.number ns) (map erased xs)) (filter (λ y. has y.number ns) (map erased xs)))
        ≡ map (λ (y : Visit). y.number) (cond b (x ∷ filter (λ y. has y.number ns) xs) (filter (λ y. has y.number ns) xs))
    by true h = ap (λ l. x.number ∷ l) h
    by false h = h

-- what is kept of those of a list alone
filter-within : (p q : Visit → Bool) (xs : List Visit) → Each (λ y. p y ≡ true → q y ≡ true) xs → filter p (filter q xs) ≡ filter p xs
filter-within p q [] h = refl
filter-within p q (x ∷ xs) h = by (p x) (q x) refl h.0 (filter-within p q xs h.1)
  where
    by : (a b : Bool) → p x ≡ a → (p x ≡ true → b ≡ true) → filter p (filter q xs) ≡ filter p xs → filter p (cond b (x ∷ filter q xs) (filter q xs)) ≡ cond a (x ∷ filter p xs) (filter p xs)
    by true true e i rest = ap (λ c. cond c (x ∷ filter p (filter q xs)) (filter p (filter q xs))) e ∙ ap (λ l. x ∷ l) rest
    by true false e i rest = no (i e)
    by false true e i rest = ap (λ c. cond c (x ∷ filter p (filter q xs)) (filter p (filter q xs))) e ∙ rest
    by false false e i rest = rest

each-of : (P Q : Visit → Type 0) → ((y : Visit) → P y → Q y) → (xs : List Visit) → Each P xs → Each Q xs
each-of P Q h [] k = tt
each-of P Q h (x ∷ xs) k = (h x k.0, each-of P Q h xs k.1)

module _ (forest : Forest) (sound : Sound forest) where
  -- stands in the shape, and has not the number of a text of the shape
  abbrev pub IsShown : ℕ → Type 0
  IsShown n = (has n (numbers_of (shape_of forest.nodes)) ≡ true) × (nat_lt n (2 ^ 128) ≡ true)

  stands-there : (n : ℕ) → has n (numbers_of (shape_of forest.nodes)) ≡ true → stands forest.nodes n ≡ true
  stands-there n h = ap (has n) (numbers-erased (shape_of forest.nodes)) ∙ h

  pub shown-live : (n : ℕ) → IsShown n → has_number n forest.nodes ≡ true
  shown-live n h = by (found n (real forest sound)) refl (sym (has-found n (whole forest sound)) ∙ stands-there n h.0)
    where
      some : (o : Option Visit) → found n (real forest sound) ≡ o → is_some (kept_if (is_kept forest.nodes) o) ≡ true → has_number n forest.nodes ≡ true
      some None e i = no i
      some (Some x) e i = found-live forest sound n x e

      by : (o : Option Visit) → found n (real forest sound) ≡ o → is_some (found n (whole forest sound)) ≡ true → has_number n forest.nodes ≡ true
      by o e i = some o e (ap is_some (ap (kept_if (is_kept forest.nodes)) (sym e) ∙ sym (found-whole forest sound n h.1)) ∙ i)

  pub shown-above : (n : ℕ) → IsShown n → ancestors_of n (shape_of forest.nodes) ≡ ancestors_of n (visits forest.nodes)
  shown-above n h =
      let x = live-found forest sound n (shown-live n h) in
      sym (above-erased n (shape_of forest.nodes))
      ∙ ap above_in (stands-found forest sound n x.0 x.1 (stands-there n h.0) ∙ sym x.1)
      ∙ above-erased n (visits forest.nodes)

  module _ (ns : List ℕ) (shown : (n : ℕ) → has n ns ≡ true → IsShown n) where
    wanted : Visit → Bool
    wanted y = has y.number ns

    none-given : (y : Visit) → filter (λ z. has z.number ns) (given forest.nodes y) ≡ []
    none-given y = ap (filter (λ z. has z.number ns)) (given-is forest.nodes y) ∙ by (is_leaf_visit forest.nodes y)
      where
        of : (b : Bool) → has (text_number y.number) ns ≡ b → cond b (text_in y ∷ []) [] ≡ []
        of true e = no (sym (is-above y.number) ∙ (shown (text_number y.number) e).1)
        of false e = refl

        by : (b : Bool) → filter (λ z. has z.number ns) (cond b (text_in y ∷ []) []) ≡ []
        by true = of (has (text_number y.number) ns) refl
        by false = refl

    each-kept : Each (λ y. has y.number ns ≡ true → is_kept forest.nodes y ≡ true) (real forest sound)
    each-kept =
        each-of (λ y. found y.number (real forest sound) ≡ Some y) (λ y. has y.number ns ≡ true → is_kept forest.nodes y ≡ true)
        (λ y e h. sym (stands-is forest sound y.number y e) ∙ stands-there y.number (shown y.number h).0)
        (real forest sound) (self-found (real forest sound) (real-visits forest sound).apart)

    pub shown-order : in_order (shape_of forest.nodes) ns ≡ in_order (visits forest.nodes) ns
    shown-order =
        sym (order-erased ns (shape_of forest.nodes))
        ∙ ap (map (λ (y : Visit). y.number))
        (ap (filter (λ y. has y.number ns)) (shaped-is forest.nodes)
        ∙ unfilled (λ y. has y.number ns) (given forest.nodes) none-given [] (kept forest.nodes) refl
        ∙ filter-within (λ y. has y.number ns) (is_kept forest.nodes) (real forest sound) each-kept)
        ∙ order-erased ns (visits forest.nodes)
