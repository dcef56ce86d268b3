-- What a step reaches from a node of the shape where no text stands in place of others: the same as in the forest.
use Rattle.std.proofs.Common.{◌≡◌, ℕ, ◌==◌, Bool, true, false, not, cond, ◌||◌, List, [], ◌∷◌, map, nat_lt, Option, Some, None, option_map, refl, sym, ap, ◌∙◌, arith, inl, inr}
use Rattle.std.specs.Prelude.{filter}
use Rattle.std.specs.List.{list_any}
use Rattle.std.proofs.lemmas.Bool.{eqb-true}
use Rattle.std.proofs.lemmas.Bool.Decides.{nat_tests}
use Rattle.xf_def_forest.specs.declared.content.Node.{Node}
use Rattle.xf_def_forest.specs.Forest.{Forest, is_root}
use Rattle.xf_def_forest.specs.Visit.{Visit, visits_from, still_above, numbers, has, is_first}
use Rattle.xf_def_forest.specs.WellFormed.{are_tops}
use Rattle.xf_def_forest.specs.Shape.{text_number}
use Rattle.xf_def_forest.proofs.BackLaws.{and-true}
use Rattle.xf_def_forest.proofs.RenumberLaws.{filter-through}
use Rattle.xf_def_xpath.specs.Asked.{has_list, found, lists_below}
use Rattle.xf_def_xpath.specs.Agree.{numbers_of, untexted, AreVisits}
use Rattle.xf_def_xpath.proofs.VisitFacts.{some-same, none-some, or-cases, or-left, or-right, present}
use Rattle.xf_def_xpath.proofs.ForestVisits.{Each, each-map, each-filter, self-found}
use Rattle.xf_def_xpath.proofs.UntextedLaws.{solid-found}
use Rattle.xf_def_xpath.proofs.AxisAgree.{Frame}
use Rattle.xf_eval_shape.specs.Spots.{stands}
use Rattle.xf_eval_shape.proofs.Filled.{unfilled, each-kept_none}
use Rattle.xf_eval_shape.proofs.Shapes.{Sound, given, given-is, is_kept, kept, is_leaf_visit, text_in, real, whole, real-visits, whole-visits, shaped-is, stands-is, stands-found, is-above, real-below}

-- ---- lists

pub each-same : {X : Type 0} (p q : X → Bool) (xs : List X) → Each (λ x. p x ≡ q x) xs → filter p xs ≡ filter q xs
each-same p q [] h = refl
each-same p q (x ∷ xs) h = ap (λ b. cond b (x ∷ filter p xs) (filter p xs)) h.0 ∙ ap (λ l. cond (q x) (x ∷ l) l) (each-same p q xs h.1)

each-all : {X : Type 0} (p : X → Bool) (xs : List X) → Each (λ x. p x ≡ true) xs → filter p xs ≡ xs
each-all p [] h = refl
each-all p (x ∷ xs) h = ap (λ b. cond b (x ∷ filter p xs) (filter p xs)) h.0 ∙ ap (λ l. x ∷ l) (each-all p xs h.1)

pub any-found : (p : Visit → Bool) (k : ℕ) (all : List Visit) (x : Visit) → found k all ≡ Some x → p x ≡ true → list_any p all ≡ true
any-found p k [] x e h = none-some e
any-found p k (y ∷ ys) x e h = by (y.number == k) e (any-found p k ys x)
  where
    by : (b : Bool) → cond b (Some y) (found k ys) ≡ Some x → (found k ys ≡ Some x → p x ≡ true → list_any p ys ≡ true) → (p y || list_any p ys) ≡ true
    by true i below = or-left (p y) (list_any p ys) (ap p (some-same i) ∙ h)
    by false i below = or-right (p y) (list_any p ys) (below i h)

pub opened : (m : Option Visit) (ns : List ℕ) → option_map (λ (z : Visit). z.above) m ≡ Some ns → (z : Visit) × (m ≡ Some z) × (z.above ≡ ns)
opened None ns h = none-some h
opened (Some z) ns h = (z, refl, some-same h)

no-list : (b : Bool) → b ≡ false → b ≡ true → false ≡ true
no-list b h i = sym h ∙ i

not-so : (b : Bool) → (b ≡ true → false ≡ true) → b ≡ false
not-so true h = sym (h refl)
not-so false h = refl

-- ---- below a node without a list stands nothing

module _ (all : List Visit) (v : AreVisits all) (n : ℕ) (x : Visit) (e : found n all ≡ Some x) (leaf : has_list x.content ≡ false) where
  below-none : (ns : List ℕ) (k : ℕ) (y : Visit) → found k all ≡ Some y → y.above ≡ ns → has n ns ≡ true → false ≡ true
  below-none [] k y i h l = l
  below-none (m ∷ ms) k y i h l =
      let z = opened (found m (untexted all)) ms (v.closed k m ms y i h) in
      let there : found m all ≡ Some z.0 = (solid-found all v m z.0 z.1).0 in
      elim (or-cases (n == m) (has n ms) l) [
        | inl a ↦
            let same : z.0 ≡ x = some-same (sym there ∙ ap (λ j. found j all) (sym (eqb-true n m a)) ∙ e) in
            no-list (has_list x.content) leaf (ap (λ (q : Visit). has_list q.content) (sym same) ∙ v.parents k m ms y z.0 i h there)
        | inr b ↦ below-none ms m z.0 there z.2 b
      ]

  pub nothing-below : Each (λ y. has n y.above ≡ false) all
  nothing-below = each-map (λ y. found y.number all ≡ Some y) (λ y. has n y.above ≡ false) all (λ y i. not-so (has n y.above) (below-none y.above y.number y i refl)) (self-found all v.apart)

  first-has : (ns : List ℕ) → is_first n ns ≡ true → has n ns ≡ true
  first-has [] h = h
  first-has (m ∷ ms) h = or-left (n == m) (has n ms) h

  pub none-first : (z : Visit) → found z.number all ≡ Some z → is_first n z.above ≡ false
  none-first z i = not-so (is_first n z.above) (λ h. below-none z.above z.number z i refl (first-has z.above h))

  pub list-empty : filter (λ y. is_first n y.above) all ≡ []
  list-empty = each-kept_none (λ y. is_first n y.above) all (each-map (λ y. has n y.above ≡ false) (λ y. is_first n y.above ≡ false) all (λ y h. not-so (is_first n y.above) (λ i. sym h ∙ first-has y.above i)) nothing-below)

  pub lists-alone : lists_below all n ≡ n ∷ []
  lists-alone = ap (λ l. n ∷ map (λ (y : Visit). y.number) l) (each-kept_none (λ y. has n y.above) all nothing-below)

-- ---- roots are tops

pub roots-from : (above nodes : List Node) → are_tops nodes ≡ true → Each (λ v. is_root v.content ≡ true → v.above ≡ []) (visits_from above nodes)
roots-from above [] h = tt
roots-from above (x ∷ xs) h = (λ r. by (and-true _ _ h).0 r, roots-from (x ∷ still_above x.depth above) xs (and-true _ _ h).1)
  where
    less-zero : (d : ℕ) → nat_lt d 0 ≡ false
    less-zero d = grind (arith, nat_tests)

    none : (zs : List Node) → numbers (still_above 0 zs) ≡ []
    none [] = refl
    none (z ∷ zs) = ap (λ b. numbers (cond b (z ∷ zs) (still_above 0 zs))) (less-zero z.depth) ∙ none zs

    of : (d : ℕ) → (d == 0) ≡ true → numbers (still_above d above) ≡ []
    of d i = ap (λ k. numbers (still_above k above)) (eqb-true d 0 i) ∙ none above

    by : (not (is_root x.content) || (x.depth == 0)) ≡ true → is_root x.content ≡ true → numbers (still_above x.depth above) ≡ []
    by i r = of x.depth (ap (λ b. not b || (x.depth == 0)) (sym r) ∙ i)

-- ---- the shape beside the forest

module _ (forest : Forest) (sound : Sound forest) where
  closed-in : (all : List Visit) → AreVisits all → (k n : ℕ) (ns : List ℕ) (x : Visit) → found k all ≡ Some x → x.above ≡ n ∷ ns → option_map (λ z. z.above) (found n all) ≡ Some ns
  closed-in all v k n ns x h i =
      let z = opened (found n (untexted all)) ns (v.closed k n ns x h i) in
      ap (option_map (λ (q : Visit). q.above)) (solid-found all v n z.0 z.1).0 ∙ ap Some z.2

  numbers-where : (t : ℕ → Bool) (all : List Visit) → filter t (numbers_of all) ≡ numbers_of (filter (λ y. t y.number) all)
  numbers-where t all = filter-through (λ (y : Visit). y.number) t (λ y. t y.number) (λ y. refl) all

  text-outside : (y : Visit) → filter (λ z. has z.number (numbers_of (real forest sound))) (given forest.nodes y) ≡ []
  text-outside y = ap (filter (λ z. has z.number (numbers_of (real forest sound)))) (given-is forest.nodes y) ∙ by (is_leaf_visit forest.nodes y)
    where
      out : has (text_number y.number) (numbers_of (real forest sound)) ≡ false
      out = not-so _ (λ h. sym (is-above y.number) ∙ real-below forest sound (text_number y.number) h)

      by : (b : Bool) → filter (λ z. has z.number (numbers_of (real forest sound))) (cond b (text_in y ∷ []) []) ≡ []
      by true = ap (λ b. cond b (text_in y ∷ []) []) out
      by false = refl

  kept-order : filter (λ n. has n (numbers_of (whole forest sound))) (numbers_of (real forest sound)) ≡ numbers_of (kept forest.nodes)
  kept-order =
      numbers-where (λ n. has n (numbers_of (whole forest sound))) (real forest sound)
      ∙ ap numbers_of (each-same (λ y. has y.number (numbers_of (whole forest sound))) (is_kept forest.nodes) (real forest sound)
      (each-map (λ y. found y.number (real forest sound) ≡ Some y) (λ y. has y.number (numbers_of (whole forest sound)) ≡ is_kept forest.nodes y) (real forest sound) (λ y e. stands-is forest sound y.number y e) (self-found (real forest sound) (real-visits forest sound).apart)))

  whole-order : filter (λ n. has n (numbers_of (real forest sound))) (numbers_of (whole forest sound)) ≡ numbers_of (kept forest.nodes)
  whole-order =
      numbers-where (λ n. has n (numbers_of (real forest sound))) (whole forest sound)
      ∙ ap numbers_of (
      ap (filter (λ y. has y.number (numbers_of (real forest sound)))) (shaped-is forest.nodes)
      ∙ unfilled (λ y. has y.number (numbers_of (real forest sound))) (given forest.nodes) text-outside [] (kept forest.nodes) refl
      ∙ each-all (λ y. has y.number (numbers_of (real forest sound))) (kept forest.nodes)
      (each-filter (λ y. has y.number (numbers_of (real forest sound)) ≡ true) (is_kept forest.nodes) (real forest sound)
      (each-map (λ y. found y.number (real forest sound) ≡ Some y) (λ y. has y.number (numbers_of (real forest sound)) ≡ true) (real forest sound) (λ y e. present y.number (real forest sound) y e) (self-found (real forest sound) (real-visits forest sound).apart))))

  contents-same : (n : ℕ) (x y : Visit) → found n (whole forest sound) ≡ Some x → found n (real forest sound) ≡ Some y → x.content ≡ y.content
  contents-same n x y h k =
      let s : stands forest.nodes n ≡ true = present n (whole forest sound) x h in
      ap (λ (z : Visit). z.content) (some-same (sym h ∙ stands-found forest sound n y k s))

  pub frame : Frame (whole forest sound) (real forest sound)
  frame = record {
    apart = (whole-visits forest sound).apart;
    apart_too = (real-visits forest sound).apart;
    closed = closed-in (whole forest sound) (whole-visits forest sound);
    closed_too = closed-in (real forest sound) (real-visits forest sound);
    order = whole-order ∙ sym kept-order;
    contents = contents-same;
  }
