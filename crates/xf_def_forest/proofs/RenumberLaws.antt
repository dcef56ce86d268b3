-- Each definition that reads a forest goes with a renumbering of its nodes.
use Rattle.std.proofs.Common.{◌≡◌, ℕ, suc, ◌==◌, Bool, true, false, not, cond, ◌&&◌, ◌||◌, List, [], ◌∷◌, ◌++◌, map, length, reverse, find, nat_lt, Option, Some, None, option_map, refl, sym, ap, ◌∙◌}
use Rattle.std.specs.Prelude.{filter, codes}
use Rattle.std.specs.Str.{bytes_eq}
use Rattle.std.specs.List.{list_any, flat_map}
use Rattle.std.proofs.lemmas.List.{map-append, reverse-append, length-map}
use Rattle.xf_name.specs.declared.axis.Axis.{Axis}
use Rattle.xf_name.specs.declared.axis.Axis.TheVariants.{Child, Attribute as AttributeAxis, Self_, Parent, Ancestor, AncestorOrSelf, Descendant, DescendantOrSelf, FollowingSibling, PrecedingSibling}
use Rattle.xf_def_forest.specs.declared.content.Node.{Node}
use Rattle.xf_def_forest.specs.declared.content.Content.{Content}
use Rattle.xf_def_forest.specs.declared.content.Content.TheVariants.{Root, Element, Attribute, Text}
use Rattle.xf_def_forest.specs.Forest.{is_attribute, is_element, is_text, own_text, has_number, name_in, written, written_in}
use Rattle.xf_def_forest.specs.Visit.{Visit, still_above, numbers, visits, has, is_first, first_of, same_parent, above_in, ancestors_of, parent_of, last_of, top_of, children_of, attributes_of}
use Rattle.xf_def_forest.specs.StringValue.{characters, text_below, value_of, value_in, string_value}
use Rattle.xf_def_forest.specs.Order.{is_before}
use Rattle.xf_def_forest.specs.Axis.{are_siblings, is_on, before, after, in_range, on_axis, in_proximity, axis_from, axis_of, is_reverse}
use Rattle.xf_def_forest.specs.Path.{is_namesake, is_text_beside, bracketed, index_if, step_by, step_in, step_of, or_slash, path_of}
use Rattle.xf_def_forest.specs.Same.{IsRenumbering, renumbered, renumbered_visit}
use Rattle.xf_def_forest.proofs.VisitLemmas.{Follows, visits-map, still_above-map}

pub map-cond : {A B : Type 0} (f : A → B) (b : Bool) (x y : A) → f (cond b x y) ≡ cond b (f x) (f y)
map-cond f true x y = refl
map-cond f false x y = refl

-- a test that goes with a change of the elements
pub filter-through : {A B : Type 0} (g : A → B) (p : B → Bool) (q : A → Bool) → ((x : A) → p (g x) ≡ q x) → (xs : List A) → filter p (map g xs) ≡ map g (filter q xs)
filter-through g p q h [] = refl
filter-through g p q h (x ∷ xs) =
    ap (λ b. cond b (g x ∷ filter p (map g xs)) (filter p (map g xs))) (h x)
    ∙ ap (λ l. cond (q x) (g x ∷ l) l) (filter-through g p q h xs)
    ∙ sym (map-cond (map g) (q x) (x ∷ filter q xs) (filter q xs))

pub find-through : {A B : Type 0} (g : A → B) (p : B → Bool) (q : A → Bool) → ((x : A) → p (g x) ≡ q x) → (xs : List A) → find p (map g xs) ≡ option_map g (find q xs)
find-through g p q h [] = refl
find-through g p q h (x ∷ xs) =
    ap (λ b. cond b (Some (g x)) (find p (map g xs))) (h x)
    ∙ ap (cond (q x) (Some (g x))) (find-through g p q h xs)
    ∙ sym (map-cond (option_map g) (q x) (Some x) (find q xs))

pub any-through : {A B : Type 0} (g : A → B) (p : B → Bool) (q : A → Bool) → ((x : A) → p (g x) ≡ q x) → (xs : List A) → list_any p (map g xs) ≡ list_any q xs
any-through g p q h [] = refl
any-through g p q h (x ∷ xs) = ap (λ b. b || list_any p (map g xs)) (h x) ∙ ap (λ b. q x || b) (any-through g p q h xs)

pub flat-through : {A B C : Type 0} (g : A → B) (p : B → List C) (q : A → List C) → ((x : A) → p (g x) ≡ q x) → (xs : List A) → flat_map p (map g xs) ≡ flat_map q xs
flat-through g p q h [] = refl
flat-through g p q h (x ∷ xs) = ap (λ l. l ++ flat_map p (map g xs)) (h x) ∙ ap (λ l. q x ++ l) (flat-through g p q h xs)

pub map-map : {A B C : Type 0} (f : B → C) (g : A → B) (xs : List A) → map f (map g xs) ≡ map (λ x. f (g x)) xs
map-map f g [] = refl
map-map f g (x ∷ xs) = ap (λ l. f (g x) ∷ l) (map-map f g xs)

pub map-reverse : {A B : Type 0} (g : A → B) (xs : List A) → map g (reverse xs) ≡ reverse (map g xs)
map-reverse g [] = refl
map-reverse g (x ∷ xs) =
    ap (map g) (reverse-append (x ∷ []) xs)
    ∙ map-append g (reverse xs) (x ∷ [])
    ∙ ap (λ l. l ++ g x ∷ []) (map-reverse g xs)
    ∙ sym (reverse-append (g x ∷ []) (map g xs))

module _ (f : ℕ → ℕ) (same : IsRenumbering f) where
  pub has-renumbered : (n : ℕ) (ns : List ℕ) → has (f n) (map f ns) ≡ has n ns
  has-renumbered n ns = any-through f (λ m. f n == m) (λ m. n == m) (λ m. same n m) ns

  pub first-renumbered : (n : ℕ) (ns : List ℕ) → is_first (f n) (map f ns) ≡ is_first n ns
  first-renumbered n [] = refl
  first-renumbered n (m ∷ ms) = same n m

  parent-renumbered : (ns ms : List ℕ) → same_parent (map f ns) (map f ms) ≡ same_parent ns ms
  parent-renumbered [] ms = refl
  parent-renumbered (n ∷ ns) ms = first-renumbered n ms

  -- ---- visits

  renumbered-follows : Follows (renumbered f) (renumbered_visit f)
  renumbered-follows above x =
      ap (λ l. record { number = f x.number; above = l; content = x.content })
      (ap numbers (still_above-map (renumbered f) (λ y. refl) x.depth above)
      ∙ map-map (λ (y : Node). y.number) (renumbered f) (still_above x.depth above)
      ∙ sym (map-map f (λ (y : Node). y.number) (still_above x.depth above)))

  pub visits-renumbered : (nodes : List Node) → visits (map (renumbered f) nodes) ≡ map (renumbered_visit f) (visits nodes)
  visits-renumbered nodes = visits-map (renumbered f) (renumbered_visit f) (λ y. refl) renumbered-follows [] nodes

  found : (n : ℕ) (all : List Visit) → find (λ x. x.number == f n) (map (renumbered_visit f) all) ≡ option_map (renumbered_visit f) (find (λ x. x.number == n) all)
  found n all = find-through (renumbered_visit f) (λ x. x.number == f n) (λ x. x.number == n) (λ x. same x.number n) all

  above-renumbered : (x : Option Visit) → above_in (option_map (renumbered_visit f) x) ≡ map f (above_in x)
  above-renumbered None = refl
  above-renumbered (Some x) = refl

  pub ancestors-renumbered : (n : ℕ) (all : List Visit) → ancestors_of (f n) (map (renumbered_visit f) all) ≡ map f (ancestors_of n all)
  ancestors-renumbered n all = ap above_in (found n all) ∙ above-renumbered (find (λ x. x.number == n) all)

  first_of-renumbered : (ns : List ℕ) → first_of (map f ns) ≡ option_map f (first_of ns)
  first_of-renumbered [] = refl
  first_of-renumbered (n ∷ ns) = refl

  pub parent_of-renumbered : (n : ℕ) (all : List Visit) → parent_of (f n) (map (renumbered_visit f) all) ≡ option_map f (parent_of n all)
  parent_of-renumbered n all = ap first_of (ancestors-renumbered n all) ∙ first_of-renumbered (ancestors_of n all)

  last-renumbered : (n : ℕ) (ns : List ℕ) → last_of (f n) (map f ns) ≡ f (last_of n ns)
  last-renumbered n [] = refl
  last-renumbered n (m ∷ ms) = last-renumbered m ms

  pub top_of-renumbered : (n : ℕ) (all : List Visit) → top_of (f n) (map (renumbered_visit f) all) ≡ f (top_of n all)
  top_of-renumbered n all = ap (last_of (f n)) (ancestors-renumbered n all) ∙ last-renumbered n (ancestors_of n all)

  numbers-renumbered : (all : List Visit) → map (λ (x : Visit). x.number) (map (renumbered_visit f) all) ≡ map f (map (λ (x : Visit). x.number) all)
  numbers-renumbered all = map-map (λ (x : Visit). x.number) (renumbered_visit f) all ∙ sym (map-map f (λ (x : Visit). x.number) all)

  pub children_of-renumbered : (n : ℕ) (all : List Visit) → children_of (f n) (map (renumbered_visit f) all) ≡ map f (children_of n all)
  children_of-renumbered n all =
      ap (map (λ (x : Visit). x.number)) (filter-through (renumbered_visit f) (λ x. is_first (f n) x.above && not (is_attribute x.content)) (λ x. is_first n x.above && not (is_attribute x.content))
      (λ x. ap (λ b. b && not (is_attribute x.content)) (first-renumbered n x.above)) all)
      ∙ numbers-renumbered (filter (λ x. is_first n x.above && not (is_attribute x.content)) all)

  pub attributes_of-renumbered : (n : ℕ) (all : List Visit) → attributes_of (f n) (map (renumbered_visit f) all) ≡ map f (attributes_of n all)
  attributes_of-renumbered n all =
      ap (map (λ (x : Visit). x.number)) (filter-through (renumbered_visit f) (λ x. is_first (f n) x.above && is_attribute x.content) (λ x. is_first n x.above && is_attribute x.content)
      (λ x. ap (λ b. b && is_attribute x.content) (first-renumbered n x.above)) all)
      ∙ numbers-renumbered (filter (λ x. is_first n x.above && is_attribute x.content) all)

  -- ---- string values and order

  text_below-renumbered : (n : ℕ) (y : Visit) → text_below (f n) (renumbered_visit f y) ≡ text_below n y
  text_below-renumbered n y = ap (λ b. cond b (characters y.content) []) (has-renumbered n y.above)

  pub value_of-renumbered : (all : List Visit) (x : Visit) → value_of (map (renumbered_visit f) all) (renumbered_visit f x) ≡ value_of all x
  value_of-renumbered all x = ap (λ l. own_text x.content ++ l) (flat-through (renumbered_visit f) (text_below (f x.number)) (text_below x.number) (text_below-renumbered x.number) all)

  pub string_value-renumbered : (n : ℕ) (all : List Visit) → string_value (f n) (map (renumbered_visit f) all) ≡ string_value n all
  string_value-renumbered n all = ap (value_in (map (renumbered_visit f) all)) (found n all) ∙ by (find (λ x. x.number == n) all)
    where
      by : (x : Option Visit) → value_in (map (renumbered_visit f) all) (option_map (renumbered_visit f) x) ≡ value_in all x
      by None = refl
      by (Some x) = value_of-renumbered all x

  pub number-renumbered : (n : ℕ) (nodes : List Node) → has_number (f n) (map (renumbered f) nodes) ≡ has_number n nodes
  number-renumbered n nodes = any-through (renumbered f) (λ x. x.number == f n) (λ x. x.number == n) (λ x. same x.number n) nodes

  pub is_before-renumbered : (a b : ℕ) (nodes : List Node) → is_before (f a) (f b) (map (renumbered f) nodes) ≡ is_before a b nodes
  is_before-renumbered a b [] = refl
  is_before-renumbered a b (x ∷ xs) =
      ap (λ t. cond t (has_number (f b) (map (renumbered f) xs)) (is_before (f a) (f b) (map (renumbered f) xs))) (same x.number a)
      ∙ ap (λ t. cond (x.number == a) t (is_before (f a) (f b) (map (renumbered f) xs))) (number-renumbered b xs)
      ∙ ap (cond (x.number == a) (has_number b xs)) (is_before-renumbered a b xs)

  -- ---- axes

  siblings-renumbered : (x y : Visit) → are_siblings (renumbered_visit f x) (renumbered_visit f y) ≡ are_siblings x y
  siblings-renumbered x y = ap (λ b. b && not (is_attribute x.content) && not (is_attribute y.content)) (parent-renumbered x.above y.above)

  is_on-renumbered : (axis : Axis) (x y : Visit) → is_on axis (renumbered_visit f x) (renumbered_visit f y) ≡ is_on axis x y
  is_on-renumbered Child x y = ap (λ b. b && not (is_attribute y.content)) (first-renumbered x.number y.above)
  is_on-renumbered AttributeAxis x y = ap (λ b. b && is_attribute y.content) (first-renumbered x.number y.above)
  is_on-renumbered Self_ x y = same x.number y.number
  is_on-renumbered Parent x y = first-renumbered y.number x.above
  is_on-renumbered Ancestor x y = has-renumbered y.number x.above
  is_on-renumbered AncestorOrSelf x y = ap (λ b. b || (f x.number == f y.number)) (has-renumbered y.number x.above) ∙ ap (λ b. has y.number x.above || b) (same x.number y.number)
  is_on-renumbered Descendant x y = ap (λ b. b && not (is_attribute y.content)) (has-renumbered x.number y.above)
  is_on-renumbered DescendantOrSelf x y =
      ap (λ b. (b && not (is_attribute y.content)) || (f x.number == f y.number)) (has-renumbered x.number y.above)
      ∙ ap (λ b. (has x.number y.above && not (is_attribute y.content)) || b) (same x.number y.number)
  is_on-renumbered FollowingSibling x y = siblings-renumbered x y
  is_on-renumbered PrecedingSibling x y = siblings-renumbered x y

  pub before-renumbered : (n : ℕ) (all : List Visit) → before (f n) (map (renumbered_visit f) all) ≡ map (renumbered_visit f) (before n all)
  before-renumbered n [] = refl
  before-renumbered n (y ∷ ys) =
      ap (λ b. cond b [] (renumbered_visit f y ∷ before (f n) (map (renumbered_visit f) ys))) (same y.number n)
      ∙ ap (λ l. cond (y.number == n) [] (renumbered_visit f y ∷ l)) (before-renumbered n ys)
      ∙ sym (map-cond (map (renumbered_visit f)) (y.number == n) [] (y ∷ before n ys))

  after-renumbered : (n : ℕ) (all : List Visit) → after (f n) (map (renumbered_visit f) all) ≡ map (renumbered_visit f) (after n all)
  after-renumbered n [] = refl
  after-renumbered n (y ∷ ys) =
      ap (λ b. cond b (map (renumbered_visit f) ys) (after (f n) (map (renumbered_visit f) ys))) (same y.number n)
      ∙ ap (cond (y.number == n) (map (renumbered_visit f) ys)) (after-renumbered n ys)
      ∙ sym (map-cond (map (renumbered_visit f)) (y.number == n) ys (after n ys))

  range-renumbered : (axis : Axis) (n : ℕ) (all : List Visit) → in_range axis (f n) (map (renumbered_visit f) all) ≡ map (renumbered_visit f) (in_range axis n all)
  range-renumbered Child n all = refl
  range-renumbered AttributeAxis n all = refl
  range-renumbered Self_ n all = refl
  range-renumbered Parent n all = refl
  range-renumbered Ancestor n all = refl
  range-renumbered AncestorOrSelf n all = refl
  range-renumbered Descendant n all = refl
  range-renumbered DescendantOrSelf n all = refl
  range-renumbered FollowingSibling n all = after-renumbered n all
  range-renumbered PrecedingSibling n all = before-renumbered n all

  pub on_axis-renumbered : (axis : Axis) (all : List Visit) (x : Visit) → on_axis axis (map (renumbered_visit f) all) (renumbered_visit f x) ≡ map (renumbered_visit f) (on_axis axis all x)
  on_axis-renumbered axis all x =
      ap (filter (is_on axis (renumbered_visit f x))) (range-renumbered axis x.number all)
      ∙ filter-through (renumbered_visit f) (is_on axis (renumbered_visit f x)) (is_on axis x) (is_on-renumbered axis x) (in_range axis x.number all)

  proximity-renumbered : (axis : Axis) (xs : List Visit) → in_proximity axis (map (renumbered_visit f) xs) ≡ map (renumbered_visit f) (in_proximity axis xs)
  proximity-renumbered axis xs =
      ap (λ l. cond (is_reverse axis) l (map (renumbered_visit f) xs)) (sym (map-reverse (renumbered_visit f) xs))
      ∙ sym (map-cond (map (renumbered_visit f)) (is_reverse axis) (reverse xs) xs)

  pub axis_of-renumbered : (axis : Axis) (n : ℕ) (all : List Visit) → axis_of axis (f n) (map (renumbered_visit f) all) ≡ map f (axis_of axis n all)
  axis_of-renumbered axis n all =
      ap (λ x. map (λ (y : Visit). y.number) (axis_from axis (map (renumbered_visit f) all) x)) (found n all)
      ∙ ap (map (λ (y : Visit). y.number)) (by (find (λ x. x.number == n) all))
      ∙ numbers-renumbered (axis_from axis all (find (λ x. x.number == n) all))
    where
      by : (x : Option Visit) → axis_from axis (map (renumbered_visit f) all) (option_map (renumbered_visit f) x) ≡ map (renumbered_visit f) (axis_from axis all x)
      by None = refl
      by (Some x) = ap (in_proximity axis) (on_axis-renumbered axis all x) ∙ proximity-renumbered axis (on_axis axis all x)

  -- ---- paths

  namesake-renumbered : (name : List ℕ) (x y : Visit) → is_namesake name (renumbered_visit f x) (renumbered_visit f y) ≡ is_namesake name x y
  namesake-renumbered name x y = ap (λ b. b && is_element y.content && bytes_eq name (written_in (name_in y.content))) (parent-renumbered x.above y.above)

  text_beside-renumbered : (x y : Visit) → is_text_beside (renumbered_visit f x) (renumbered_visit f y) ≡ is_text_beside x y
  text_beside-renumbered x y = ap (λ b. b && is_text y.content) (parent-renumbered x.above y.above)

  namesakes-renumbered : (name : List ℕ) (x : Visit) (xs : List Visit) → filter (is_namesake name (renumbered_visit f x)) (map (renumbered_visit f) xs) ≡ map (renumbered_visit f) (filter (is_namesake name x) xs)
  namesakes-renumbered name x xs = filter-through (renumbered_visit f) (is_namesake name (renumbered_visit f x)) (is_namesake name x) (namesake-renumbered name x) xs

  index-renumbered : (xs ys : List Visit) → index_if (map (renumbered_visit f) xs) (map (renumbered_visit f) ys) ≡ index_if xs ys
  index-renumbered xs ys =
      ap (λ k. cond (nat_lt 1 k) (bracketed (suc (length (map (renumbered_visit f) ys)))) []) (length-map xs (renumbered_visit f))
      ∙ ap (λ k. cond (nat_lt 1 (length xs)) (bracketed (suc k)) []) (length-map ys (renumbered_visit f))

  step_by-renumbered : (c : Content) (all : List Visit) (x : Visit) → step_by c (map (renumbered_visit f) all) (renumbered_visit f x) ≡ step_by c all x
  step_by-renumbered Root all x = refl
  step_by-renumbered (Element name) all x =
      ap (λ l. 47 ∷ written name ++ l)
      (ap (λ l. index_if l (filter (is_namesake (written name) (renumbered_visit f x)) (before (f x.number) (map (renumbered_visit f) all)))) (namesakes-renumbered (written name) x all)
      ∙ ap (λ l. index_if (map (renumbered_visit f) (filter (is_namesake (written name) x) all)) l)
      (ap (filter (is_namesake (written name) (renumbered_visit f x))) (before-renumbered x.number all) ∙ namesakes-renumbered (written name) x (before x.number all))
      ∙ index-renumbered (filter (is_namesake (written name) x) all) (filter (is_namesake (written name) x) (before x.number all)))
  step_by-renumbered (Attribute name text) all x = refl
  step_by-renumbered (Text text) all x =
      ap (λ k. codes "/text()" ++ bracketed (suc k))
      (ap (λ l. length (filter (is_text_beside (renumbered_visit f x)) l)) (before-renumbered x.number all)
      ∙ ap length (filter-through (renumbered_visit f) (is_text_beside (renumbered_visit f x)) (is_text_beside x) (text_beside-renumbered x) (before x.number all))
      ∙ length-map (filter (is_text_beside x) (before x.number all)) (renumbered_visit f))

  step_of-renumbered : (all : List Visit) (n : ℕ) → step_of (map (renumbered_visit f) all) (f n) ≡ step_of all n
  step_of-renumbered all n = ap (step_in (map (renumbered_visit f) all)) (found n all) ∙ by (find (λ x. x.number == n) all)
    where
      by : (x : Option Visit) → step_in (map (renumbered_visit f) all) (option_map (renumbered_visit f) x) ≡ step_in all x
      by None = refl
      by (Some x) = step_by-renumbered x.content all x

  pub path_of-renumbered : (n : ℕ) (all : List Visit) → path_of (f n) (map (renumbered_visit f) all) ≡ path_of n all
  path_of-renumbered n all =
      ap (λ l. or_slash (flat_map (step_of (map (renumbered_visit f) all)) (reverse (f n ∷ l)))) (ancestors-renumbered n all)
      ∙ ap (λ l. or_slash (flat_map (step_of (map (renumbered_visit f) all)) l)) (sym (map-reverse f (n ∷ ancestors_of n all)))
      ∙ ap or_slash (flat-through f (step_of (map (renumbered_visit f) all)) (step_of all) (step_of-renumbered all) (reverse (n ∷ ancestors_of n all)))
