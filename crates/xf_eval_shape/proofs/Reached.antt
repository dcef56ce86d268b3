-- What the calls find from a node of the shape is what a step reaches there, and stands in the shape.
use Rattle.std.proofs.Common.{◌≡◌, ℕ, ◌==◌, Bool, true, false, not, cond, ◌&&◌, ◌||◌, List, [], ◌∷◌, ◌++◌, map, reverse, Option, Some, None, option_map, refl, sym, ap, ◌∙◌, subst}
use Rattle.std.specs.Prelude.{filter, is_some}
use Rattle.std.specs.List.{flat_map, list_any, list_all}
use Rattle.std.proofs.lemmas.Bool.{eqb-true}
use Rattle.std.proofs.lemmas.List.{reverse-append}
use Rattle.xf_name.specs.declared.axis.Axis.{Axis}
use Rattle.xf_name.specs.declared.axis.Axis.TheVariants.{Child, Attribute, Self_, Parent, Ancestor, AncestorOrSelf, Descendant, DescendantOrSelf, FollowingSibling, PrecedingSibling}
use Rattle.xf_def_syntax.specs.declared.expr.Test.{Test}
use Rattle.xf_def_forest.specs.declared.node.NodeId.{NodeId}
use Rattle.xf_def_forest.specs.declared.content.Node.{Node}
use Rattle.xf_def_forest.specs.declared.content.Content.{Content}
use Rattle.xf_def_forest.specs.declared.content.Content.TheVariants as content
use Rattle.xf_def_forest.specs.Forest.{Forest, is_text, is_element, is_attribute, has_number, content_at}
use Rattle.xf_def_forest.specs.Visit.{Visit, visits, has, is_first, first_of, above_in, parent_of}
use Rattle.xf_def_forest.specs.Axis.{is_on, on_axis, axis_from, axis_of, is_reverse}
use Rattle.xf_def_forest.specs.Shape.{is_replaced, has_elements, erased, without_text, text_number}
use Rattle.xf_def_forest.proofs.BackLaws.{and-true, not-true}
use Rattle.xf_def_forest.proofs.OrderLaws.{filter-sub, map-sub, axis-in_order}
use Rattle.xf_def_forest.proofs.OrderLaws.{visits-different}
use Rattle.xf_def_forest.proofs.RenumberLaws.{map-reverse}
use Rattle.xf_def_xpath.specs.Asked.{found, has_list}
use Rattle.xf_def_xpath.specs.AskedSteps.{is_kind}
use Rattle.xf_def_xpath.specs.Agree.{numbers_of}
use Rattle.xf_def_xpath.specs.Steps.{reached}
use Rattle.xf_def_xpath.specs.Tests.{meets}
use Rattle.xf_def_xpath.proofs.AxisAgree.{has-sub}
use Rattle.xf_def_xpath.proofs.SameKept.{has-reverse}
use Rattle.xf_def_xpath.proofs.VisitFacts.{no, some-same, none-some, self-same, turned, or-left, or-right, found-number, absent}
use Rattle.xf_def_xpath.proofs.ForestVisits.{Each, each-map, self-found, found-erased}
use Rattle.xf_eval.specs.Live.{AllLive}
use Rattle.xf_eval.specs.Worth.{seen}
use Rattle.xf_eval.proofs.Erased.{content-seen}
use Rattle.xf_eval_shape.specs.declared.spot.Spot.{Spot}
use Rattle.xf_eval_shape.specs.declared.spot.Spot.TheVariants.{Node as Own, TextOf, Outside}
use Rattle.xf_eval_shape.specs.Spots.{number_at, numbers_at, shaped, stands, is_leaf, is_spot, AreSpots, is_element_in, is_filled, is_text_in}
use Rattle.xf_eval_shape.specs.Steps.{is_own, are_owned, is_other, has_texts, has_list_in, if_so, piece, text_if}
use Rattle.xf_eval_shape.proofs.Shapes.{Sound, real, texts_of, text_or, live-found, live-below, stands-is, text-apart}
use Rattle.xf_eval_shape.proofs.Plain.{content-of, has-list-of, plain}
use Rattle.xf_eval_shape.proofs.Texts.{below-pieces, strictly-below}
use Rattle.xf_eval_shape.proofs.Children.{child-alone}

both-hold : (a b : Bool) → a ≡ true → b ≡ true → (a && b) ≡ true
both-hold true b h i = i
both-hold false b h i = h

-- ---- all of a list

pub all-of : (p : ℕ → Bool) (ns : List ℕ) → ((k : ℕ) → has k ns ≡ true → p k ≡ true) → list_all p ns ≡ true
all-of p [] h = refl
all-of p (n ∷ ns) h = both-hold (p n) (list_all p ns) (h n (or-left (n == n) (has n ns) (self-same n))) (all-of p ns (λ k i. h k (or-right (k == n) (has k ns) i)))

-- nodes of the forest that all stand in the shape
pub owned-spots : (nodes : List Node) (spots : List Spot) (ns : List ℕ) → are_owned spots ≡ true → numbers_at spots ≡ ns → AllLive ns nodes → list_all (stands nodes) ns ≡ true → AreSpots nodes spots
owned-spots nodes [] ns o e l s = refl
owned-spots nodes (spot ∷ spots) [] o e l s = cc e
owned-spots nodes (spot ∷ spots) (n ∷ ns) o e l s =
    both-hold (is_spot nodes spot) (list_all (is_spot nodes) spots) (by spot (and-true _ _ o).0 (cc e)) (owned-spots nodes spots ns (and-true _ _ o).1 (cc e) (and-true _ _ l).1 (and-true _ _ s).1)
  where
    by : (spot : Spot) → is_own spot ≡ true → number_at spot ≡ n → is_spot nodes spot ≡ true
    by (Own node) i j = subst (λ k. (has_number k nodes && stands nodes k) ≡ true) (sym j) (both-hold (has_number n nodes) (stands nodes n) (and-true _ _ l).0 (and-true _ _ s).0)
    by (TextOf owner) i j = no i
    by (Outside node) i j = no i

-- ---- what is reached stands in the shape

reached-within : (axis : Axis) (asked : Test) (all : List Visit) (n : ℕ) (k : ℕ) → has k (reached axis asked all n) ≡ true → has k (numbers_of all) ≡ true
reached-within axis asked all n k h = by (found n all) h
  where
    met : (b : Bool) (l : List Visit) → has k (map (λ (y : Visit). y.number) (filter (λ y. meets axis asked y.content) (cond b (reverse l) l))) ≡ true → has k (numbers_of l) ≡ true
    met true l i = has-turned l (has-sub k (map-sub (λ (y : Visit). y.number) (filter-sub (λ y. meets axis asked y.content) (reverse l))) i)
      where
        has-turned : (l : List Visit) → has k (numbers_of (reverse l)) ≡ true → has k (numbers_of l) ≡ true
        has-turned l j = has-reverse k (numbers_of l) (sym (ap (has k) (map-reverse (λ (y : Visit). y.number) l)) ∙ j)
    met false l i = has-sub k (map-sub (λ (y : Visit). y.number) (filter-sub (λ y. meets axis asked y.content) l)) i

    by : (m : Option Visit) → has k (map (λ (y : Visit). y.number) (filter (λ y. meets axis asked y.content) (axis_from axis all m))) ≡ true → has k (numbers_of all) ≡ true
    by None i = no i
    by (Some x) i = has-sub k (map-sub (λ (y : Visit). y.number) (axis-in_order axis all x)) (met (is_reverse axis) (on_axis axis all x) i)

pub reached-stands : (nodes : List Node) (axis : Axis) (asked : Test) (n : ℕ) → list_all (stands nodes) (reached axis asked (shaped nodes) n) ≡ true
reached-stands nodes axis asked n = all-of (stands nodes) (reached axis asked (shaped nodes) n) (reached-within axis asked (shaped nodes) n)

-- ---- which nodes stand in the shape, by what they are

module _ (forest : Forest) (sound : Sound forest) (n : ℕ) (live : has_number n forest.nodes ≡ true) where
  abbrev there : (x : Visit) × (found n (real forest sound) ≡ Some x)
  there = live-found forest sound n live

  about : (c : Content) × (content_at n forest.nodes ≡ Some c) × (there.0.content ≡ without_text c)
  about = content-of forest.nodes n there.0 there.1

  text-erased : (c : Content) → is_text (without_text c) ≡ is_text c
  text-erased content.Root = refl
  text-erased (content.Element name) = refl
  text-erased (content.Attribute name text) = refl
  text-erased (content.Text text) = refl

  parent-is : parent_of n (visits forest.nodes) ≡ first_of there.0.above
  parent-is = by (found n (visits forest.nodes)) (sym (found-erased n (visits forest.nodes)) ∙ there.1)
    where
      by : (m : Option Visit) → option_map erased m ≡ Some there.0 → first_of (above_in m) ≡ first_of there.0.above
      by None i = none-some i
      by (Some y) i = ap (λ (v : Visit). first_of v.above) (some-same i)

  pub stands-other : (c : Content) → content_at n forest.nodes ≡ Some c → is_text c ≡ false → stands forest.nodes n ≡ true
  stands-other c e h =
      stands-is forest sound n there.0 there.1
      ∙ ap (λ b. not (b && is_replaced (texts_of forest.nodes) there.0.above)) (ap is_text about.2 ∙ text-erased about.0 ∙ ap is_text (some-same (sym about.1 ∙ e)) ∙ h)

  pub stands-text : (c : Content) → content_at n forest.nodes ≡ Some c → is_text c ≡ true → stands forest.nodes n ≡ is_filled forest.nodes (parent_of n (visits forest.nodes))
  stands-text c e h =
      stands-is forest sound n there.0 there.1
      ∙ ap (λ b. not (b && is_replaced (texts_of forest.nodes) there.0.above)) (ap is_text about.2 ∙ text-erased about.0 ∙ ap is_text (some-same (sym about.1 ∙ e)) ∙ h)
      ∙ by there.0.above
      ∙ sym (ap (is_filled forest.nodes) parent-is)
    where
      of : (b : Bool) → not (is_some (text_or b)) ≡ b
      of true = refl
      of false = refl

      by : (ns : List ℕ) → not (is_replaced (texts_of forest.nodes) ns) ≡ is_filled forest.nodes (first_of ns)
      by [] = refl
      by (p ∷ ps) = of (has_elements (visits forest.nodes) p)

  -- by what the calls test
  pub stands-alone : is_text_in (content_at n forest.nodes) ≡ false → true ≡ stands forest.nodes n
  stands-alone h = sym (stands-other about.0 about.1 (sym (ap is_text_in about.1) ∙ h))

  pub stands-beside : is_text_in (content_at n forest.nodes) ≡ true → is_filled forest.nodes (parent_of n (visits forest.nodes)) ≡ stands forest.nodes n
  stands-beside h = sym (stands-text about.0 about.1 (sym (ap is_text_in about.1) ∙ h))

  pub leaf-stands : is_leaf forest.nodes n ≡ true → stands forest.nodes n ≡ true
  leaf-stands h = by (content_at n forest.nodes) refl (and-true _ _ h).0
    where
      not-text : (c : Content) → is_element c ≡ true → is_text c ≡ false
      not-text content.Root i = refl
      not-text (content.Element name) i = refl
      not-text (content.Attribute name text) i = refl
      not-text (content.Text text) i = no i

      by : (m : Option Content) → content_at n forest.nodes ≡ m → is_element_in m ≡ true → stands forest.nodes n ≡ true
      by None e i = no i
      by (Some c) e i = stands-other c e (not-text c i)

  pub has-list-leaf : is_leaf forest.nodes n ≡ true → has_list there.0.content ≡ true
  has-list-leaf h = sym (has-list-of forest.nodes n there.0 there.1) ∙ by (content_at n forest.nodes) (and-true _ _ h).0
    where
      of : (c : Content) → is_element c ≡ true → has_list c ≡ true
      of content.Root i = refl
      of (content.Element name) i = refl
      of (content.Attribute name text) i = no i
      of (content.Text text) i = no i

      by : (m : Option Content) → is_element_in m ≡ true → has_list_in m ≡ true
      by None i = no i
      by (Some c) i = of c i

  -- ---- from a node that stands

  pub plain-reached : stands forest.nodes n ≡ true → (axis : Axis) (asked : Test) → (is_kind asked && has_texts forest.nodes n axis) ≡ false → reached axis asked (seen forest.nodes) n ≡ reached axis asked (shaped forest.nodes) n
  plain-reached s axis asked t = sym (plain forest sound n there.0 there.1 s axis asked t)

  listed : has_list_in (content_at n forest.nodes) ≡ true → has_list there.0.content ≡ true
  listed h = sym (has-list-of forest.nodes n there.0 there.1) ∙ h

  pub child-reached : stands forest.nodes n ≡ true → (asked : Test) → is_kind asked ≡ true → has_texts forest.nodes n Child ≡ true → if_so (is_leaf forest.nodes n) (text_number n) ≡ reached Child asked (shaped forest.nodes) n
  child-reached s asked kind h =
      let p = and-true (has_list_in (content_at n forest.nodes)) (not (has_elements (visits forest.nodes) n)) h in
      sym (child-alone forest sound n there.0 there.1 s (listed p.0) asked kind (not-true _ p.1))

  pub below-reached : stands forest.nodes n ≡ true → (asked : Test) → is_kind asked ≡ true → has_list_in (content_at n forest.nodes) ≡ true →
      flat_map (piece forest.nodes DescendantOrSelf asked) (axis_of DescendantOrSelf n (visits forest.nodes)) ≡ reached DescendantOrSelf asked (shaped forest.nodes) n
  below-reached s asked kind h = sym (below-pieces forest sound n there.0 there.1 s (listed h) asked kind)

  -- all but the node itself
  others-filter : stands forest.nodes n ≡ true → (spots : List Spot) → AreSpots forest.nodes spots → numbers_at (filter (is_other n) spots) ≡ filter (λ k. not (n == k)) (numbers_at spots)
  others-filter s [] h = refl
  others-filter s (spot ∷ spots) h = ap (λ b. numbers_at (cond b (spot ∷ filter (is_other n) spots) (filter (is_other n) spots))) (by spot (and-true _ _ h).0) ∙ of (not (n == number_at spot)) (others-filter s spots (and-true _ _ h).1)
    where
      of : (b : Bool) → numbers_at (filter (is_other n) spots) ≡ filter (λ k. not (n == k)) (numbers_at spots) →
          numbers_at (cond b (spot ∷ filter (is_other n) spots) (filter (is_other n) spots)) ≡ cond b (number_at spot ∷ filter (λ k. not (n == k)) (numbers_at spots)) (filter (λ k. not (n == k)) (numbers_at spots))
      of true e = ap (λ l. number_at spot ∷ l) e
      of false e = e

      by : (spot : Spot) → is_spot forest.nodes spot ≡ true → is_other n spot ≡ not (n == number_at spot)
      by (Own node) i = ap not (turned node.number n)
      by (TextOf owner) i = sym (ap not (turned n (text_number owner.number) ∙ text-apart n owner.number (live-below forest sound n live)))
      by (Outside node) i = sym (ap not (apart (n == node.number) refl))
        where
          apart : (b : Bool) → (n == node.number) ≡ b → b ≡ false
          apart true e = no (sym (not-true _ (and-true (has_number node.number forest.nodes) _ i).1) ∙ ap (stands forest.nodes) (sym (eqb-true n node.number e)) ∙ s)
          apart false e = refl

  pub descendants-reached : stands forest.nodes n ≡ true → (asked : Test) → is_kind asked ≡ true → has_list_in (content_at n forest.nodes) ≡ true → (spots : List Spot) → AreSpots forest.nodes spots →
      numbers_at spots ≡ flat_map (piece forest.nodes DescendantOrSelf asked) (axis_of DescendantOrSelf n (visits forest.nodes)) → numbers_at (filter (is_other n) spots) ≡ reached Descendant asked (shaped forest.nodes) n
  descendants-reached s asked kind h spots are e =
      others-filter s spots are
      ∙ ap (filter (λ k. not (n == k))) (e ∙ below-reached s asked kind h)
      ∙ sym (strictly-below forest sound n there.0 there.1 s (listed h) asked kind)

  -- ---- elements right below

  pub children-any : list_any (λ k. is_element_in (content_at k forest.nodes)) (axis_of Child n (visits forest.nodes)) ≡ has_elements (visits forest.nodes) n
  children-any = by (found n (visits forest.nodes)) refl (sym (found-erased n (visits forest.nodes)) ∙ there.1)
    where
      any-list : (xs : List Visit) (x : Visit) → x.number ≡ n → Each (λ y. content_at y.number forest.nodes ≡ Some y.content) xs →
          list_any (λ k. is_element_in (content_at k forest.nodes)) (map (λ (y : Visit). y.number) (filter (is_on Child x) xs)) ≡ list_any (λ y. is_element y.content && is_first n y.above) xs
      any-list [] x e h = refl
      any-list (y ∷ ys) x e h = of (is_on Child x y) refl (any-list ys x e h.1)
        where
          elements : (c : Content) (b : Bool) → (b && not (is_attribute c)) ≡ false → (is_element c && b) ≡ false
          elements content.Root b i = refl
          elements (content.Element name) true i = no (sym i)
          elements (content.Element name) false i = refl
          elements (content.Attribute name text) b i = refl
          elements (content.Text text) b i = refl

          and-one : (a : Bool) → a ≡ (a && true)
          and-one true = refl
          and-one false = refl

          of : (b : Bool) → is_on Child x y ≡ b → list_any (λ k. is_element_in (content_at k forest.nodes)) (map (λ (z : Visit). z.number) (filter (is_on Child x) ys)) ≡ list_any (λ z. is_element z.content && is_first n z.above) ys →
              list_any (λ k. is_element_in (content_at k forest.nodes)) (map (λ (z : Visit). z.number) (cond b (y ∷ filter (is_on Child x) ys) (filter (is_on Child x) ys))) ≡ ((is_element y.content && is_first n y.above) || list_any (λ z. is_element z.content && is_first n z.above) ys)
          of true i below =
              ap (λ b. b || list_any (λ k. is_element_in (content_at k forest.nodes)) (map (λ (z : Visit). z.number) (filter (is_on Child x) ys)))
              (ap is_element_in h.0 ∙ and-one (is_element y.content) ∙ ap (λ b. is_element y.content && b) (sym (and-true (is_first x.number y.above) _ i).0 ∙ ap (λ k. is_first k y.above) e))
              ∙ ap (λ b. (is_element y.content && is_first n y.above) || b) below
          of false i below = below ∙ ap (λ b. b || list_any (λ z. is_element z.content && is_first n z.above) ys) (sym (elements y.content (is_first n y.above) (sym (ap (λ k. is_first k y.above && not (is_attribute y.content)) e) ∙ i)))

      told : Each (λ y. content_at y.number forest.nodes ≡ Some y.content) (visits forest.nodes)
      told = each-map (λ y. found y.number (visits forest.nodes) ≡ Some y) (λ y. content_at y.number forest.nodes ≡ Some y.content) (visits forest.nodes)
          (λ y i. sym (content-seen y.number [] forest.nodes) ∙ ap (option_map (λ (v : Visit). v.content)) i) (self-found (visits forest.nodes) (visits-different forest sound.trees))

      by : (m : Option Visit) → found n (visits forest.nodes) ≡ m → option_map erased m ≡ Some there.0 → list_any (λ k. is_element_in (content_at k forest.nodes)) (axis_of Child n (visits forest.nodes)) ≡ has_elements (visits forest.nodes) n
      by None i j = none-some j
      by (Some x) i j =
          ap (λ m. list_any (λ k. is_element_in (content_at k forest.nodes)) (map (λ (y : Visit). y.number) (axis_from Child (visits forest.nodes) m))) i
          ∙ any-list (visits forest.nodes) x (found-number n (visits forest.nodes) x i) told

-- the owner of a text stands there itself
pub owner-own : (forest : Forest) → Sound forest → (owner : NodeId) → is_spot forest.nodes (TextOf owner) ≡ true → is_spot forest.nodes (Own owner) ≡ true
owner-own forest sound owner h =
    let p = and-true (has_number owner.number forest.nodes) (is_leaf forest.nodes owner.number) h in
    both-hold (has_number owner.number forest.nodes) (stands forest.nodes owner.number) p.0 (leaf-stands forest sound owner.number p.0 p.1)

pub text-numbers : (b : Bool) (owner : NodeId) → numbers_at (text_if b owner) ≡ if_so b (text_number owner.number)
text-numbers true owner = refl
text-numbers false owner = refl

-- from what does not stand in the shape nothing is reached
pub outside-reached : (nodes : List Node) (n : ℕ) → stands nodes n ≡ false → (axis : Axis) (asked : Test) → [] ≡ reached axis asked (shaped nodes) n
outside-reached nodes n h axis asked = sym (ap (λ m. map (λ (y : Visit). y.number) (filter (λ y. meets axis asked y.content) (axis_from axis (shaped nodes) m))) (absent n (shaped nodes) h))

pub spots-filter : (nodes : List Node) (p : Spot → Bool) (spots : List Spot) → AreSpots nodes spots → AreSpots nodes (filter p spots)
spots-filter nodes p [] h = refl
spots-filter nodes p (x ∷ xs) h = by (p x) (spots-filter nodes p xs (and-true _ _ h).1)
  where
    by : (b : Bool) → AreSpots nodes (filter p xs) → AreSpots nodes (cond b (x ∷ filter p xs) (filter p xs))
    by true i = both-hold (is_spot nodes x) (list_all (is_spot nodes) (filter p xs)) (and-true _ _ h).0 i
    by false i = i

-- texts stand in place of others on three axes alone
pub texts-axis : (nodes : List Node) (n : ℕ) (axis : Axis) → (axis ≡ Child → ⊥) → (axis ≡ Descendant → ⊥) → has_texts nodes n axis ≡ true → axis ≡ DescendantOrSelf
texts-axis nodes n Child h i j = absurd (h refl)
texts-axis nodes n Descendant h i j = absurd (i refl)
texts-axis nodes n DescendantOrSelf h i j = refl
texts-axis nodes n Attribute h i j = no j
texts-axis nodes n Self_ h i j = no j
texts-axis nodes n Parent h i j = no j
texts-axis nodes n Ancestor h i j = no j
texts-axis nodes n AncestorOrSelf h i j = no j
texts-axis nodes n FollowingSibling h i j = no j
texts-axis nodes n PrecedingSibling h i j = no j

-- an element right below, among those that came and this one
pub any-here : (p : ℕ → Bool) (ns ms : List ℕ) (n : ℕ) → p n ≡ true → list_any p (ns ++ n ∷ ms) ≡ true
any-here p [] ms n h = ap (λ b. b || list_any p ms) h
any-here p (k ∷ ns) ms n h = or-right (p k) (list_any p (ns ++ n ∷ ms)) (any-here p ns ms n h)

pub text-are : (nodes : List Node) (b : Bool) (owner : NodeId) → is_spot nodes (TextOf owner) ≡ true → AreSpots nodes (text_if b owner)
text-are nodes true owner h = both-hold (is_spot nodes (TextOf owner)) true h refl
text-are nodes false owner h = refl

spots-some : (nodes : List Node) (xs ys : List Spot) → AreSpots nodes xs → AreSpots nodes ys → AreSpots nodes (xs ++ ys)
spots-some nodes [] ys h i = i
spots-some nodes (x ∷ xs) ys h i = both-hold (is_spot nodes x) (list_all (is_spot nodes) (xs ++ ys)) (and-true _ _ h).0 (spots-some nodes xs ys (and-true _ _ h).1 i)

pub spots-reversed : (nodes : List Node) (xs : List Spot) → AreSpots nodes xs → AreSpots nodes (reverse xs)
spots-reversed nodes [] h = refl
spots-reversed nodes (x ∷ xs) h =
    subst (AreSpots nodes) (sym (reverse-append (x ∷ []) xs)) (spots-some nodes (reverse xs) (x ∷ []) (spots-reversed nodes xs (and-true _ _ h).1) (both-hold (is_spot nodes x) true (and-true _ _ h).0 refl))

pub numbers-reversed : (xs : List Spot) → numbers_at (reverse xs) ≡ reverse (numbers_at xs)
numbers-reversed xs = map-reverse number_at xs

-- what all of a list are is the one behind those that came
pub all-behind : (p : ℕ → Bool) (ns ms : List ℕ) (n : ℕ) → list_all p (ns ++ n ∷ ms) ≡ true → p n ≡ true
all-behind p [] ms n h = (and-true _ _ h).0
all-behind p (k ∷ ns) ms n h = all-behind p ns ms n (and-true _ _ h).1
