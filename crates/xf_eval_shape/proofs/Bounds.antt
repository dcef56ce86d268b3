-- What a binding takes in place of a node of the shape stands in the forest and in the shape, and a set of such has one order in both.
use Rattle.std.proofs.Common.{◌≡◌, ℕ, ◌==◌, Bool, true, false, not, ◌&&◌, List, [], ◌∷◌, ◌++◌, map, Option, Some, None, option_map, refl, sym, ap, ◌∙◌, inl, inr}
use Rattle.std.specs.Prelude.{filter}
use Rattle.std.specs.List.{flat_map, list_all}
use Rattle.std.proofs.lemmas.Bool.{eqb-true}
use Rattle.xf_name.specs.declared.axis.Axis.TheVariants.{Child}
use Rattle.xf_def_syntax.specs.declared.expr.Test.TheVariants.{Node as AnyNode}
use Rattle.xf_def_forest.specs.declared.content.Node.{Node}
use Rattle.xf_def_forest.specs.declared.content.Name.{Name}
use Rattle.xf_def_forest.specs.declared.content.Content.{Content}
use Rattle.xf_def_forest.specs.declared.content.Content.TheVariants as content
use Rattle.xf_def_forest.specs.Forest.{Forest, is_text, is_element, is_attribute, is_root, has_number, content_at}
use Rattle.xf_def_forest.specs.Visit.{Visit, visits, has, is_first, first_of, children_of, parent_of, above_in}
use Rattle.xf_def_forest.specs.Axis.{is_on, axis_from}
use Rattle.xf_def_forest.specs.Order.{in_order}
use Rattle.xf_def_forest.specs.Shape.{has_elements, erased, without_text, shape_of, is_replaced, text_number}
use Rattle.xf_def_forest.proofs.BackLaws.{and-true}
use Rattle.xf_def_forest.proofs.LiveLaws.{parent-live}
use Rattle.xf_def_xpath.specs.Setting as setting
use Rattle.xf_def_xpath.specs.Asked.{found, has_list}
use Rattle.xf_def_xpath.specs.Agree.{untexted}
use Rattle.xf_def_xpath.specs.Binding.{as_list, bound_nodes, stand_in, stand_ins}
use Rattle.xf_def_xpath.specs.Steps.{reached}
use Rattle.xf_def_xpath.proofs.AxisAgree.{AllStand}
use Rattle.xf_def_xpath.proofs.Comparison.{in_order-framed}
use Rattle.xf_def_xpath.proofs.UntextedLaws.{solid-found}
use Rattle.xf_def_xpath.proofs.VisitFacts.{no, some-same, none-some, or-cases, found-number, absent}
use Rattle.xf_def_xpath.proofs.ForestVisits.{found-erased}
use Rattle.xf_eval.specs.Live.{AllLive}
use Rattle.xf_eval.specs.Worth.{seen}
use Rattle.xf_eval.proofs.Erased.{in_order-erased}
use Rattle.xf_eval_shape.specs.Bound.{bound_at, is_root_in}
use Rattle.xf_eval_shape.specs.Spots.{shaped, stands, is_leaf, is_element_in, is_text_in}
use Rattle.xf_eval_shape.specs.Steps.{has_list_in, if_so}
use Rattle.xf_eval_shape.specs.Woven.{is_shown}
use Rattle.xf_eval_shape.proofs.Shapes.{Sound, real, whole, real-visits, live-found, stands-is, stands-found, text-found, texts_of, is_leaf_visit, shaped-is}
use Rattle.xf_eval_shape.proofs.Frames.{frame, opened}
use Rattle.xf_eval_shape.proofs.Plain.{content-of, element-erased}
use Rattle.xf_eval_shape.proofs.Reached.{plain-reached, child-reached, reached-stands}

both-hold : (a b : Bool) → a ≡ true → b ≡ true → (a && b) ≡ true
both-hold true b h i = i
both-hold false b h i = h

pub all-has : (p : ℕ → Bool) (ns : List ℕ) (k : ℕ) → list_all p ns ≡ true → has k ns ≡ true → p k ≡ true
all-has p [] k h i = no i
all-has p (n ∷ ns) k h i = elim (or-cases (k == n) (has k ns) i) [ inl a ↦ ap p (eqb-true k n a) ∙ (and-true _ _ h).0 | inr b ↦ all-has p ns k (and-true _ _ h).1 b ]

pub all-append : (p : ℕ → Bool) (ns ms : List ℕ) → list_all p ns ≡ true → list_all p ms ≡ true → list_all p (ns ++ ms) ≡ true
all-append p [] ms h i = i
all-append p (n ∷ ns) ms h i = both-hold (p n) (list_all p (ns ++ ms)) (and-true _ _ h).0 (all-append p ns ms (and-true _ _ h).1 i)

-- live nodes that stand are shown
pub all-shown : (nodes : List Node) (ns : List ℕ) → AllLive ns nodes → list_all (stands nodes) ns ≡ true → list_all (is_shown nodes) ns ≡ true
all-shown nodes [] h i = refl
all-shown nodes (n ∷ ns) h i = both-hold (is_shown nodes n) (list_all (is_shown nodes) ns) (both-hold (has_number n nodes) (stands nodes n) (and-true _ _ h).0 (and-true _ _ i).0) (all-shown nodes ns (and-true _ _ h).1 (and-true _ _ i).1)

-- nodes that the shape has, too, stand in one order
pub shown-order : (forest : Forest) → Sound forest → (ns : List ℕ) → list_all (is_shown forest.nodes) ns ≡ true → in_order (visits forest.nodes) ns ≡ setting.in_order (shaped forest.nodes) ns
shown-order forest sound ns h = sym (in_order-framed (frame forest sound) ns stand ∙ in_order-erased (visits forest.nodes) ns)
  where
    stand : AllStand (whole forest sound) (real forest sound) ns
    stand k i =
        let s = and-true (has_number k forest.nodes) (stands forest.nodes k) (all-has (is_shown forest.nodes) ns k h i) in
        let x = live-found forest sound k s.0 in
        record { visit = x.0; first = stands-found forest sound k x.0 x.1 s.1; second = x.1 }

-- ---- what is bound

pub bound-set : (nodes : List Node) (ns : List ℕ) → bound_nodes (shape_of nodes) ns ≡ setting.in_order (shaped nodes) (flat_map (bound_at nodes) ns)
bound-set nodes ns = ap (λ all. bound_nodes all ns) (sym (shaped-is nodes))

pub bound-outside : (nodes : List Node) (n : ℕ) → stands nodes n ≡ false → [] ≡ bound_at nodes n
bound-outside nodes n h = sym (ap (stand_ins (shaped nodes)) (absent n (shaped nodes) h))

module _ (forest : Forest) (sound : Sound forest) (n : ℕ) (live : has_number n forest.nodes ≡ true) where
  abbrev x : Visit
  x = (live-found forest sound n live).0

  at : found n (real forest sound) ≡ Some x
  at = (live-found forest sound n live).1

  about : (c : Content) × (content_at n forest.nodes ≡ Some c) × (x.content ≡ without_text c)
  about = content-of forest.nodes n x at

  -- the text of an element
  pub bound-text : is_leaf forest.nodes n ≡ true → n ∷ [] ≡ bound_at forest.nodes (text_number n)
  bound-text h =
      sym (ap (stand_ins (shaped forest.nodes)) (text-found forest sound n x at leaf) ∙ ap (λ k. k ∷ []) (found-number n (real forest sound) x at))
    where
      leaf : is_leaf_visit forest.nodes x ≡ true
      leaf =
          both-hold (is_element x.content) (not (has_elements (visits forest.nodes) x.number))
          (ap is_element about.2 ∙ element-erased about.0 ∙ sym (ap is_element_in about.1) ∙ (and-true _ _ h).0)
          (ap (λ k. not (has_elements (visits forest.nodes) k)) (found-number n (real forest sound) x at) ∙ (and-true (is_element_in (content_at n forest.nodes)) _ h).1)

  module _ (s : stands forest.nodes n ≡ true) where
    in-whole : found n (whole forest sound) ≡ Some x
    in-whole = stands-found forest sound n x at s

    bound-here : (c : Content) → content_at n forest.nodes ≡ Some c → bound_at forest.nodes n ≡ stand_in (shaped forest.nodes) x (without_text c)
    bound-here c e = ap (stand_ins (shaped forest.nodes)) in-whole ∙ ap (stand_in (shaped forest.nodes) x) (about.2 ∙ ap without_text (some-same (sym about.1 ∙ e)))

    named : x.number ≡ n
    named = found-number n (real forest sound) x at

    pub bound-root : content_at n forest.nodes ≡ Some content.Root → children_of n (shaped forest.nodes) ≡ bound_at forest.nodes n
    bound-root e = sym (bound-here content.Root e ∙ ap (λ k. children_of k (shaped forest.nodes)) named)

    pub bound-element : (name : Name) → content_at n forest.nodes ≡ Some (content.Element name) → n ∷ [] ≡ bound_at forest.nodes n
    bound-element name e = sym (bound-here (content.Element name) e ∙ ap (λ k. k ∷ []) named)

    pub bound-attribute : (name : Name) (text : List ℕ) → content_at n forest.nodes ≡ Some (content.Attribute name text) → n ∷ [] ≡ bound_at forest.nodes n
    bound-attribute name text e = sym (bound-here (content.Attribute name text) e ∙ ap (λ k. k ∷ []) named)

    parent-is : parent_of n (visits forest.nodes) ≡ first_of x.above
    parent-is = by (found n (visits forest.nodes)) (sym (found-erased n (visits forest.nodes)) ∙ at)
      where
        by : (m : Option Visit) → option_map erased m ≡ Some x → first_of (above_in m) ≡ first_of x.above
        by None i = none-some i
        by (Some y) i = ap (λ (v : Visit). first_of v.above) (some-same i)

    pub bound-parent : (text : List ℕ) → content_at n forest.nodes ≡ Some (content.Text text) → as_list (parent_of n (visits forest.nodes)) ≡ bound_at forest.nodes n
    bound-parent text e = ap as_list parent-is ∙ sym (bound-here (content.Text text) e)

  -- the parent of a node is shown
  pub parent-shown : (p : ℕ) → parent_of n (visits forest.nodes) ≡ Some p → is_shown forest.nodes p ≡ true
  parent-shown p e = both-hold (has_number p forest.nodes) (stands forest.nodes p) (parent-live n p forest.nodes e) (by x.above refl (sym parent ∙ e))
    where
      parent : parent_of n (visits forest.nodes) ≡ first_of x.above
      parent = of (found n (visits forest.nodes)) (sym (found-erased n (visits forest.nodes)) ∙ at)
        where
          of : (m : Option Visit) → option_map erased m ≡ Some x → first_of (above_in m) ≡ first_of x.above
          of None i = none-some i
          of (Some y) i = ap (λ (v : Visit). first_of v.above) (some-same i)

      solid : (c : Content) → has_list c ≡ true → is_text c ≡ false
      solid content.Root i = refl
      solid (content.Element name) i = refl
      solid (content.Attribute name text) i = refl
      solid (content.Text text) i = no i

      by : (ns : List ℕ) → x.above ≡ ns → first_of ns ≡ Some p → stands forest.nodes p ≡ true
      by [] i j = none-some j
      by (m ∷ ms) i j =
          let same : m ≡ p = some-same j in
          let z = opened (found m (untexted (real forest sound))) ms ((real-visits forest sound).closed n m ms x at i) in
          let here : found m (real forest sound) ≡ Some z.0 = (solid-found (real forest sound) (real-visits forest sound) m z.0 z.1).0 in
          let listed : has_list z.0.content ≡ true = (real-visits forest sound).parents n m ms x z.0 at i here in
          ap (stands forest.nodes) (sym same)
          ∙ stands-is forest sound m z.0 here
          ∙ ap (λ b. not (b && is_replaced (texts_of forest.nodes) z.0.above)) (solid z.0.content listed)

  -- ---- the children of a root

  children-reached : stands forest.nodes n ≡ true → children_of n (shaped forest.nodes) ≡ reached Child AnyNode (shaped forest.nodes) n
  children-reached s = sym (
      ap (λ m. map (λ (y : Visit). y.number) (filter (λ y. true) (axis_from Child (whole forest sound) m))) (stands-found forest sound n x at s)
      ∙ ap (map (λ (y : Visit). y.number)) (all-met (filter (is_on Child x) (whole forest sound)))
      ∙ ap (λ k. map (λ (y : Visit). y.number) (filter (λ y. is_first k y.above && not (is_attribute y.content)) (whole forest sound))) (found-number n (real forest sound) x at))
    where
      all-met : (l : List Visit) → filter (λ (y : Visit). true) l ≡ l
      all-met [] = refl
      all-met (y ∷ ys) = ap (λ r. y ∷ r) (all-met ys)

  pub children-filled : stands forest.nodes n ≡ true → has_elements (visits forest.nodes) n ≡ true → reached Child AnyNode (seen forest.nodes) n ≡ children_of n (shaped forest.nodes)
  children-filled s h = plain-reached forest sound n live s Child AnyNode (ap (λ b. has_list_in (content_at n forest.nodes) && not b) h ∙ and-none (has_list_in (content_at n forest.nodes))) ∙ sym (children-reached s)
    where
      and-none : (b : Bool) → (b && false) ≡ false
      and-none true = refl
      and-none false = refl

  pub children-none : stands forest.nodes n ≡ true → is_root_in (content_at n forest.nodes) ≡ true → has_elements (visits forest.nodes) n ≡ false → [] ≡ children_of n (shaped forest.nodes)
  children-none s r h =
      sym (children-reached s
      ∙ sym (child-reached forest sound n live s AnyNode refl (both-hold (has_list_in (content_at n forest.nodes)) (not (has_elements (visits forest.nodes) n)) (listed (content_at n forest.nodes) r) (ap not h)))
      ∙ ap (λ b. if_so (b && not (has_elements (visits forest.nodes) n)) (text_number n)) (no-element (content_at n forest.nodes) r))
    where
      listed : (m : Option Content) → is_root_in m ≡ true → has_list_in m ≡ true
      listed None i = no i
      listed (Some content.Root) i = refl
      listed (Some (content.Element name)) i = no i
      listed (Some (content.Attribute name text)) i = no i
      listed (Some (content.Text text)) i = no i

      no-element : (m : Option Content) → is_root_in m ≡ true → is_element_in m ≡ false
      no-element None i = refl
      no-element (Some content.Root) i = refl
      no-element (Some (content.Element name)) i = no i
      no-element (Some (content.Attribute name text)) i = no i
      no-element (Some (content.Text text)) i = no i

  pub children-shown : stands forest.nodes n ≡ true → has_elements (visits forest.nodes) n ≡ true → (ns : List ℕ) → ns ≡ reached Child AnyNode (seen forest.nodes) n → AllLive ns forest.nodes → list_all (is_shown forest.nodes) ns ≡ true
  children-shown s h ns e l =
      all-shown forest.nodes ns l (ap (list_all (stands forest.nodes)) (e ∙ plain-reached forest sound n live s Child AnyNode (ap (λ b. has_list_in (content_at n forest.nodes) && not b) h ∙ and-none (has_list_in (content_at n forest.nodes)))) ∙ reached-stands forest.nodes Child AnyNode n)
    where
      and-none : (b : Bool) → (b && false) ≡ false
      and-none true = refl
      and-none false = refl

  -- ---- by what the calls test

  pub bound-root_in : stands forest.nodes n ≡ true → is_root_in (content_at n forest.nodes) ≡ true → children_of n (shaped forest.nodes) ≡ bound_at forest.nodes n
  bound-root_in s h = by about.0 about.1 (sym (ap is_root_in about.1) ∙ h)
    where
      by : (c : Content) → content_at n forest.nodes ≡ Some c → is_root c ≡ true → children_of n (shaped forest.nodes) ≡ bound_at forest.nodes n
      by content.Root e i = bound-root s e
      by (content.Element name) e i = no i
      by (content.Attribute name text) e i = no i
      by (content.Text text) e i = no i

  pub bound-text_in : stands forest.nodes n ≡ true → is_text_in (content_at n forest.nodes) ≡ true → as_list (parent_of n (visits forest.nodes)) ≡ bound_at forest.nodes n
  bound-text_in s h = by about.0 about.1 (sym (ap is_text_in about.1) ∙ h)
    where
      by : (c : Content) → content_at n forest.nodes ≡ Some c → is_text c ≡ true → as_list (parent_of n (visits forest.nodes)) ≡ bound_at forest.nodes n
      by content.Root e i = no i
      by (content.Element name) e i = no i
      by (content.Attribute name text) e i = no i
      by (content.Text text) e i = bound-parent s text e

  pub bound-itself : stands forest.nodes n ≡ true → is_root_in (content_at n forest.nodes) ≡ false → is_text_in (content_at n forest.nodes) ≡ false → n ∷ [] ≡ bound_at forest.nodes n
  bound-itself s h k = by about.0 about.1 (sym (ap is_root_in about.1) ∙ h) (sym (ap is_text_in about.1) ∙ k)
    where
      by : (c : Content) → content_at n forest.nodes ≡ Some c → is_root c ≡ false → is_text c ≡ false → n ∷ [] ≡ bound_at forest.nodes n
      by content.Root e i j = no (sym i)
      by (content.Element name) e i j = bound-element s name e
      by (content.Attribute name text) e i j = bound-attribute s name text e
      by (content.Text text) e i j = no (sym j)

pub one-shown : (nodes : List Node) (n : ℕ) → is_shown nodes n ≡ true → list_all (is_shown nodes) (n ∷ []) ≡ true
one-shown nodes n h = both-hold (is_shown nodes n) true h refl
