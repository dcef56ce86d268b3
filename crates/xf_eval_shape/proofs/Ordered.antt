-- A set of nodes of the shape in document order is put together of those of the forest and of the owners of texts, each in their order.
use Rattle.std.proofs.Common.{◌≡◌, ℕ, ◌==◌, ◌^◌, Bool, true, false, not, cond, ◌&&◌, ◌||◌, List, [], ◌∷◌, ◌++◌, map, nat_lt, Option, Some, None, option_map, refl, sym, ap, ◌∙◌, arith, inl, inr}
use Rattle.std.specs.Prelude.{filter}
use Rattle.std.specs.List.{list_all}
use Rattle.std.proofs.lemmas.Bool.{eqb-true}
use Rattle.std.proofs.lemmas.Bool.Decides.{nat_tests}
use Rattle.xf_def_forest.specs.declared.content.Content.{Content}
use Rattle.xf_def_forest.specs.declared.content.Content.TheVariants as content
use Rattle.xf_def_forest.specs.Forest.{Forest, is_text, is_element, is_attribute, has_number}
use Rattle.xf_def_forest.specs.Visit.{Visit, visits, has, is_first, above_in, ancestors_of}
use Rattle.xf_def_forest.specs.Order.{in_order}
use Rattle.xf_def_forest.specs.Shape.{is_replaced, has_elements, erased, without_text, text_number}
use Rattle.xf_def_forest.proofs.BackLaws.{and-true, not-true}
use Rattle.xf_def_forest.proofs.RenumberLaws.{filter-through, map-map}
use Rattle.xf_def_xpath.specs.Setting as setting
use Rattle.xf_def_xpath.specs.Asked.{found, has_list}
use Rattle.xf_def_xpath.specs.Agree.{numbers_of}
use Rattle.xf_def_xpath.proofs.VisitFacts.{no, some-same, none-some, or-cases, turned}
use Rattle.xf_def_xpath.proofs.ForestVisits.{Each, each-map, self-found, found-erased}
use Rattle.xf_eval_shape.specs.declared.spot.Spot.{Spot}
use Rattle.xf_eval_shape.specs.declared.spot.Spot.TheVariants.{Node as Own, TextOf, Outside}
use Rattle.xf_eval_shape.specs.Spots.{number_at, numbers_at, shaped, stands, is_leaf, is_spot, AreSpots, is_element_in}
use Rattle.xf_eval_shape.specs.Steps.{if_so}
use Rattle.xf_eval_shape.specs.Woven.{own_number, owner_number, own_numbers, owner_numbers, all_number, all_numbers, is_attribute_in, is_attribute_of, is_owner, is_shown, woven}
use Rattle.xf_eval_shape.proofs.Shapes.{Sound, given, given-is, is_kept, texts_of, is_leaf_visit, text_in, real, real-visits, shaped-is, live-below, found-live, stands-is, text-apart}
use Rattle.xf_eval_shape.proofs.Frames.{none-first}
use Rattle.xf_eval_shape.proofs.Plain.{content-of, element-erased}
use Rattle.xf_eval_shape.proofs.Texts.{text-element}
use Rattle.xf_eval_shape.proofs.Reached.{all-of}
use Rattle.xf_eval_shape.proofs.Runs.{runs}
use Rattle.xf_eval_shape.proofs.Weaving.{owns, woven-over, Fits, weave, none}

-- ---- members

has-both : (k : ℕ) (ns ms : List ℕ) → has k (ns ++ ms) ≡ (has k ns || has k ms)
has-both k [] ms = refl
has-both k (n ∷ ns) ms = ap (λ b. (k == n) || b) (has-both k ns ms) ∙ by (k == n)
  where
    by : (b : Bool) → (b || (has k ns || has k ms)) ≡ ((b || has k ns) || has k ms)
    by true = refl
    by false = refl

all-has : (k : ℕ) (spots : List Spot) → has k (all_numbers spots) ≡ (has k (own_numbers spots) || has k (owner_numbers spots))
all-has k [] = refl
all-has k (spot ∷ spots) =
    has-both k (all_number spot) (all_numbers spots)
    ∙ ap (λ b. has k (all_number spot) || b) (all-has k spots)
    ∙ ap (λ b. b || (has k (own_numbers spots) || has k (owner_numbers spots))) (has-both k (own_number spot) (owner_number spot))
    ∙ by (has k (own_number spot)) (has k (owner_number spot)) (has k (own_numbers spots)) (has k (owner_numbers spots))
    ∙ sym (ap (λ b. b || has k (owner_numbers (spot ∷ spots))) (has-both k (own_number spot) (own_numbers spots)) ∙ ap (λ b. (has k (own_number spot) || has k (own_numbers spots)) || b) (has-both k (owner_number spot) (owner_numbers spots)))
  where
    by : (a b c d : Bool) → ((a || b) || (c || d)) ≡ ((a || c) || (b || d))
    by true b c d = refl
    by false true true d = refl
    by false true false d = refl
    by false false c d = refl

or-none : (b : Bool) → (b || false) ≡ b
or-none true = refl
or-none false = refl

module _ (forest : Forest) (sound : Sound forest) where
  -- what stands in the shape is in a set as a node of the forest
  own-has : (k : ℕ) → nat_lt k (2 ^ 128) ≡ true → stands forest.nodes k ≡ true → (spots : List Spot) → AreSpots forest.nodes spots → has k (numbers_at spots) ≡ has k (own_numbers spots)
  own-has k l s [] h = refl
  own-has k l s (spot ∷ spots) h =
      ap (λ b. (k == number_at spot) || b) (own-has k l s spots (and-true _ _ h).1)
      ∙ ap (λ b. b || has k (own_numbers spots)) (by spot (and-true _ _ h).0)
      ∙ sym (has-both k (own_number spot) (own_numbers spots))
    where
      by : (spot : Spot) → is_spot forest.nodes spot ≡ true → (k == number_at spot) ≡ has k (own_number spot)
      by (Own node) i = sym (or-none (k == node.number))
      by (TextOf owner) i = turned k (text_number owner.number) ∙ text-apart k owner.number l
      by (Outside node) i = of (k == node.number) refl
        where
          of : (b : Bool) → (k == node.number) ≡ b → b ≡ false
          of true e = no (sym (not-true _ (and-true (has_number node.number forest.nodes) _ i).1) ∙ ap (stands forest.nodes) (sym (eqb-true k node.number e)) ∙ s)
          of false e = refl

  text-same : (m n : ℕ) → (text_number m == text_number n) ≡ (m == n)
  text-same m n = grind (arith, nat_tests)

  -- a text is in it by its owner
  owner-has : (n : ℕ) (spots : List Spot) → AreSpots forest.nodes spots → has (text_number n) (numbers_at spots) ≡ has n (owner_numbers spots)
  owner-has n [] h = refl
  owner-has n (spot ∷ spots) h =
      ap (λ b. (text_number n == number_at spot) || b) (owner-has n spots (and-true _ _ h).1)
      ∙ ap (λ b. b || has n (owner_numbers spots)) (by spot (and-true _ _ h).0)
      ∙ sym (has-both n (owner_number spot) (owner_numbers spots))
    where
      by : (spot : Spot) → is_spot forest.nodes spot ≡ true → (text_number n == number_at spot) ≡ has n (owner_number spot)
      by (Own node) i = text-apart node.number n (live-below forest sound node.number (and-true _ _ i).0)
      by (TextOf owner) i = text-same n owner.number ∙ sym (or-none (n == owner.number))
      by (Outside node) i = text-apart node.number n (live-below forest sound node.number (and-true _ _ i).0)

  -- nodes of the forest in a set stand in the shape
  own-stands : (k : ℕ) (spots : List Spot) → AreSpots forest.nodes spots → stands forest.nodes k ≡ false → has k (own_numbers spots) ≡ false
  own-stands k [] h s = refl
  own-stands k (spot ∷ spots) h s = has-both k (own_number spot) (own_numbers spots) ∙ ap (λ b. has k (own_number spot) || b) (own-stands k spots (and-true _ _ h).1 s) ∙ or-none (has k (own_number spot)) ∙ by spot (and-true _ _ h).0
    where
      by : (spot : Spot) → is_spot forest.nodes spot ≡ true → has k (own_number spot) ≡ false
      by (Own node) i = ap (λ b. b) (of (k == node.number) refl)
        where
          of : (b : Bool) → (k == node.number) ≡ b → (b || false) ≡ false
          of true e = no (sym s ∙ ap (stands forest.nodes) (eqb-true k node.number e) ∙ (and-true _ _ i).1)
          of false e = refl
      by (TextOf owner) i = refl
      by (Outside node) i = refl

  -- owners are elements without element children
  owner-leaf : (k : ℕ) (spots : List Spot) → AreSpots forest.nodes spots → is_leaf forest.nodes k ≡ false → has k (owner_numbers spots) ≡ false
  owner-leaf k [] h s = refl
  owner-leaf k (spot ∷ spots) h s = has-both k (owner_number spot) (owner_numbers spots) ∙ ap (λ b. has k (owner_number spot) || b) (owner-leaf k spots (and-true _ _ h).1 s) ∙ or-none (has k (owner_number spot)) ∙ by spot (and-true _ _ h).0
    where
      by : (spot : Spot) → is_spot forest.nodes spot ≡ true → has k (owner_number spot) ≡ false
      by (TextOf owner) i = of (k == owner.number) refl
        where
          of : (b : Bool) → (k == owner.number) ≡ b → (b || false) ≡ false
          of true e = no (sym s ∙ ap (is_leaf forest.nodes) (eqb-true k owner.number e) ∙ (and-true _ _ i).1)
          of false e = refl
      by (Own node) i = refl
      by (Outside node) i = refl

  -- ---- the set in order

  module _ (spots : List Spot) (are : AreSpots forest.nodes spots) where
    abbrev p : ℕ → Bool
    p k = has k (own_numbers spots)

    abbrev q : ℕ → Bool
    q k = has k (owner_numbers spots)

    abbrev h : Visit → Bool
    h y = has y.number (numbers_at spots)

    leaf-same : (y : Visit) → found y.number (real forest sound) ≡ Some y → is_leaf forest.nodes y.number ≡ is_leaf_visit forest.nodes y
    leaf-same y i =
        let c = content-of forest.nodes y.number y i in
        ap (λ b. b && not (has_elements (visits forest.nodes) y.number)) (ap is_element_in c.1 ∙ sym (element-erased c.0) ∙ ap is_element (sym c.2))

    gone-text : (y : Visit) → is_kept forest.nodes y ≡ false → is_text y.content ≡ true
    gone-text y e = by (is_text y.content) e
      where
        by : (b : Bool) → not (b && is_replaced (texts_of forest.nodes) y.above) ≡ false → b ≡ true
        by true i = refl
        by false i = sym i

    fits : (y : Visit) → found y.number (real forest sound) ≡ Some y → Fits p q (given forest.nodes) (is_kept forest.nodes) h (real forest sound) y
    fits y i = record {
      found_itself = i;
      kept = λ k. own-has y.number (live-below forest sound y.number (found-live forest sound y.number y i)) (stands-is forest sound y.number y i ∙ k) spots are;
      gone = λ k. (
        own-stands y.number spots are (stands-is forest sound y.number y i ∙ k),
        owner-leaf y.number spots are (leaf-same y i ∙ ap (λ b. b && not (has_elements (visits forest.nodes) y.number)) (text-element y.content (gone-text y k))),
      );
      bare = λ k z j. none-first (real forest sound) (real-visits forest sound) y.number y i (no-list y.content (gone-text y k)) z j;
      text = ap (λ l. numbers_of (filter h l)) (given-is forest.nodes y) ∙ text-of (is_leaf_visit forest.nodes y) refl;
      attribute = λ b. let a : is_attribute y.content ≡ true = (and-true _ _ b).0 in (
        owner-leaf y.number spots are (leaf-same y i ∙ ap (λ c. c && not (has_elements (visits forest.nodes) y.number)) (attribute-element y.content a)),
        ap (λ c. not (c && is_replaced (texts_of forest.nodes) y.above)) (attribute-text y.content a),
      );
    }
      where
        no-list : (c : Content) → is_text c ≡ true → has_list c ≡ false
        no-list content.Root j = no j
        no-list (content.Element name) j = no j
        no-list (content.Attribute name text) j = no j
        no-list (content.Text text) j = refl

        attribute-element : (c : Content) → is_attribute c ≡ true → is_element c ≡ false
        attribute-element content.Root j = no j
        attribute-element (content.Element name) j = no j
        attribute-element (content.Attribute name text) j = refl
        attribute-element (content.Text text) j = no j

        attribute-text : (c : Content) → is_attribute c ≡ true → is_text c ≡ false
        attribute-text content.Root j = no j
        attribute-text (content.Element name) j = no j
        attribute-text (content.Attribute name text) j = refl
        attribute-text (content.Text text) j = no j

        text-of : (b : Bool) → is_leaf_visit forest.nodes y ≡ b → numbers_of (filter h (cond b (text_in y ∷ []) [])) ≡ if_so (q y.number) (text_number y.number)
        text-of true l = ap (λ c. numbers_of (cond c (text_in y ∷ []) [])) (owner-has y.number spots are) ∙ of (q y.number)
          where
            of : (c : Bool) → numbers_of (cond c (text_in y ∷ []) []) ≡ if_so c (text_number y.number)
            of true = refl
            of false = refl
        text-of false l = sym (ap (λ c. if_so c (text_number y.number)) (owner-leaf y.number spots are (leaf-same y i ∙ l)))

    told : (y : Visit) → found y.number (real forest sound) ≡ Some y → (owner : ℕ) → is_attribute_of forest.nodes owner y.number ≡ owns owner y
    told y i owner =
        let c = content-of forest.nodes y.number y i in
        ap (λ b. b && is_first owner (ancestors_of y.number (visits forest.nodes))) (ap is_attribute_in c.1 ∙ sym (attribute-erased c.0) ∙ ap is_attribute (sym c.2))
        ∙ ap (λ ns. is_attribute y.content && is_first owner ns) (by (found y.number (visits forest.nodes)) (sym (found-erased y.number (visits forest.nodes)) ∙ i))
      where
        attribute-erased : (c : Content) → is_attribute (without_text c) ≡ is_attribute c
        attribute-erased content.Root = refl
        attribute-erased (content.Element name) = refl
        attribute-erased (content.Attribute name text) = refl
        attribute-erased (content.Text text) = refl

        by : (m : Option Visit) → option_map erased m ≡ Some y → above_in m ≡ y.above
        by None j = none-some j
        by (Some v) j = ap (λ (z : Visit). z.above) (some-same j)

    filter-both : (r s : ℕ → Bool) → ((k : ℕ) → r k ≡ s k) → (ns : List ℕ) → filter r ns ≡ filter s ns
    filter-both r s e [] = refl
    filter-both r s e (n ∷ ns) = ap (λ b. cond b (n ∷ filter r ns) (filter r ns)) (e n) ∙ ap (λ l. cond (s n) (n ∷ l) l) (filter-both r s e ns)

    -- of the forest
    in-forest : (ns : List ℕ) → filter (λ k. has k ns) (numbers_of (real forest sound)) ≡ in_order (visits forest.nodes) ns
    in-forest ns =
        ap (filter (λ k. has k ns)) (map-map (λ (x : Visit). x.number) erased (visits forest.nodes))
        ∙ filter-through (λ (x : Visit). x.number) (λ k. has k ns) (λ x. has x.number ns) (λ x. refl) (visits forest.nodes)

    pub order-woven : setting.in_order (shaped forest.nodes) (numbers_at spots)
        ≡ woven (is_attribute_of forest.nodes) None (in_order (visits forest.nodes) (all_numbers spots)) (in_order (visits forest.nodes) (own_numbers spots)) (in_order (visits forest.nodes) (owner_numbers spots))
    order-woven =
        let R = real forest sound in
        let selves : Each (λ y. found y.number R ≡ Some y) R = self-found R (real-visits forest sound).apart in
        ap (λ l. numbers_of (filter h l)) (shaped-is forest.nodes)
        ∙ weave p q (given forest.nodes) (is_kept forest.nodes) h R R none 0 [] (each-map (λ y. found y.number R ≡ Some y) (Fits p q (given forest.nodes) (is_kept forest.nodes) h R) R fits selves) (runs forest.nodes sound.trees.first) (real-visits forest sound).apart refl tt
        ∙ sym (woven-over p q (is_attribute_of forest.nodes) None R (each-map (λ y. found y.number R ≡ Some y) (λ y. (owner : ℕ) → is_attribute_of forest.nodes owner y.number ≡ owns owner y) R told selves))
        ∙ ap (λ l. woven (is_attribute_of forest.nodes) None l (filter p (numbers_of R)) (filter q (numbers_of R))) (filter-both (λ k. p k || q k) (λ k. has k (all_numbers spots)) (λ k. sym (all-has k spots)) (numbers_of R) ∙ in-forest (all_numbers spots))
        ∙ ap (λ l. woven (is_attribute_of forest.nodes) None (in_order (visits forest.nodes) (all_numbers spots)) l (filter q (numbers_of R))) (in-forest (own_numbers spots))
        ∙ ap (λ l. woven (is_attribute_of forest.nodes) None (in_order (visits forest.nodes) (all_numbers spots)) (in_order (visits forest.nodes) (own_numbers spots)) l) (in-forest (owner_numbers spots))

  -- ---- the parts in order

  order-has : (all : List Visit) (ns : List ℕ) (k : ℕ) → has k (map (λ (x : Visit). x.number) (filter (λ x. has x.number ns) all)) ≡ true → has k ns ≡ true
  order-has [] ns k h = no h
  order-has (x ∷ xs) ns k h = by (has x.number ns) refl h (order-has xs ns k)
    where
      by : (b : Bool) → has x.number ns ≡ b → has k (map (λ (z : Visit). z.number) (cond b (x ∷ filter (λ z. has z.number ns) xs) (filter (λ z. has z.number ns) xs))) ≡ true →
          (has k (map (λ (z : Visit). z.number) (filter (λ z. has z.number ns) xs)) ≡ true → has k ns ≡ true) → has k ns ≡ true
      by true e i below = elim (or-cases (k == x.number) _ i) [ inl a ↦ ap (λ j. has j ns) (eqb-true k x.number a) ∙ e | inr b ↦ below b ]
      by false e i below = below i

  own-shown : (k : ℕ) (spots : List Spot) → AreSpots forest.nodes spots → has k (own_numbers spots) ≡ true → is_shown forest.nodes k ≡ true
  own-shown k [] h i = no i
  own-shown k (spot ∷ spots) h i = elim (or-cases (has k (own_number spot)) (has k (own_numbers spots)) (sym (has-both k (own_number spot) (own_numbers spots)) ∙ i)) [ inl a ↦ by spot (and-true _ _ h).0 a | inr b ↦ own-shown k spots (and-true _ _ h).1 b ]
    where
      by : (spot : Spot) → is_spot forest.nodes spot ≡ true → has k (own_number spot) ≡ true → is_shown forest.nodes k ≡ true
      by (Own node) j a = ap (is_shown forest.nodes) (eqb-true k node.number (sym (or-none (k == node.number)) ∙ a)) ∙ j
      by (TextOf owner) j a = no a
      by (Outside node) j a = no a

  owner-is : (k : ℕ) (spots : List Spot) → AreSpots forest.nodes spots → has k (owner_numbers spots) ≡ true → is_owner forest.nodes k ≡ true
  owner-is k [] h i = no i
  owner-is k (spot ∷ spots) h i = elim (or-cases (has k (owner_number spot)) (has k (owner_numbers spots)) (sym (has-both k (owner_number spot) (owner_numbers spots)) ∙ i)) [ inl a ↦ by spot (and-true _ _ h).0 a | inr b ↦ owner-is k spots (and-true _ _ h).1 b ]
    where
      by : (spot : Spot) → is_spot forest.nodes spot ≡ true → has k (owner_number spot) ≡ true → is_owner forest.nodes k ≡ true
      by (Own node) j a = no a
      by (TextOf owner) j a = ap (is_owner forest.nodes) (eqb-true k owner.number (sym (or-none (k == owner.number)) ∙ a)) ∙ j
      by (Outside node) j a = no a

  pub own-order : (spots : List Spot) → AreSpots forest.nodes spots → list_all (is_shown forest.nodes) (in_order (visits forest.nodes) (own_numbers spots)) ≡ true
  own-order spots h = all-of (is_shown forest.nodes) _ (λ k i. own-shown k spots h (order-has (visits forest.nodes) (own_numbers spots) k i))

  pub owner-order : (spots : List Spot) → AreSpots forest.nodes spots → list_all (is_owner forest.nodes) (in_order (visits forest.nodes) (owner_numbers spots)) ≡ true
  owner-order spots h = all-of (is_owner forest.nodes) _ (λ k i. owner-is k spots h (order-has (visits forest.nodes) (owner_numbers spots) k i))

-- what is woven of the same lists
pub woven-same : (own : ℕ → ℕ → Bool) (all all' ns ns' os os' : List ℕ) → all ≡ all' → ns ≡ ns' → os ≡ os' → woven own None all ns os ≡ woven own None all' ns' os'
woven-same own all all' ns ns' os os' a b c = ap (λ l. woven own None l ns os) a ∙ ap (λ l. woven own None all' l os) b ∙ ap (λ l. woven own None all' ns' l) c
