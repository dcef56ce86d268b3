-- From a node of the shape a step reaches what it reaches in the forest, where no text stands in place of others.
use Rattle.std.proofs.Common.{◌≡◌, ℕ, ◌==◌, Bool, true, false, not, ◌&&◌, List, [], ◌∷◌, map, Option, Some, None, option_map, refl, sym, ap, ◌∙◌, inl, inr}
use Rattle.std.specs.Prelude.{filter, is_some, reverse, ◌⊎◌}
use Rattle.std.proofs.lemmas.Bool.{eqb-true}
use Rattle.xf_name.specs.declared.axis.Axis.{Axis}
use Rattle.xf_name.specs.declared.axis.Axis.TheVariants.{Child, Attribute, Self_, Parent, Ancestor, AncestorOrSelf, Descendant, DescendantOrSelf, FollowingSibling, PrecedingSibling}
use Rattle.xf_def_syntax.specs.declared.expr.Test.{Test}
use Rattle.xf_def_forest.specs.declared.content.Node.{Node}
use Rattle.xf_def_forest.specs.declared.content.Content.{Content}
use Rattle.xf_def_forest.specs.declared.content.Content.TheVariants as content
use Rattle.xf_def_forest.specs.Forest.{Forest, is_text, is_element, is_attribute, is_root, content_at}
use Rattle.xf_def_forest.specs.Visit.{Visit, visits, has, is_first, same_parent}
use Rattle.xf_def_forest.specs.Axis.{before, after, are_siblings, axis_from}
use Rattle.xf_def_forest.specs.Shape.{is_replaced, has_elements, erased, without_text}
use Rattle.xf_def_forest.proofs.BackLaws.{and-true}
use Rattle.xf_def_forest.proofs.RenumberLaws.{any-through}
use Rattle.xf_def_xpath.specs.Asked.{has_list, found, list_around, parent_in}
use Rattle.xf_def_xpath.specs.AskedSteps.{is_kind, meets_texts, lists_of}
use Rattle.xf_def_xpath.specs.Agree.{untexted}
use Rattle.xf_def_xpath.specs.Exact.{is_sibling}
use Rattle.xf_def_xpath.specs.Steps.{reached}
use Rattle.xf_def_xpath.specs.Tests.{meets}
use Rattle.xf_def_xpath.proofs.VisitFacts.{no, some-same, none-some, or-cases, self-same, filter-none, found-in, found-number}
use Rattle.xf_def_xpath.proofs.ForestVisits.{each-found, found-erased}
use Rattle.xf_def_xpath.proofs.UntextedLaws.{reached-untexted}
use Rattle.xf_def_xpath.proofs.ReachAgree.{reach}
use Rattle.xf_eval.proofs.Erased.{content-seen}
use Rattle.xf_eval_shape.specs.Spots.{is_element_in, is_leaf, stands}
use Rattle.xf_eval_shape.specs.Steps.{has_texts, has_list_in}
use Rattle.xf_eval_shape.proofs.Shapes.{Sound, is_kept, is_leaf_visit, texts_of, text_or, real, whole, real-visits, whole-visits, same-bare, stands-is, stands-found, same-list}
use Rattle.xf_eval_shape.proofs.Frames.{any-found, list-empty, lists-alone, roots-from, frame}

only-one : (m n : ℕ) → has m (n ∷ []) ≡ true → m ≡ n
only-one m n h = elim (or-cases (m == n) false h) [ inl a ↦ eqb-true m n a | inr b ↦ no b ]

-- an attribute has no siblings
beside-attribute : (all : List Visit) (n : ℕ) (x : Visit) (test : Test) → found n all ≡ Some x → is_attribute x.content ≡ true → (axis : Axis) → is_sibling axis ≡ true → reached axis test all n ≡ []
beside-attribute all n x test e a axis h = ap (λ m. map (λ (y : Visit). y.number) (filter (λ y. meets axis test y.content) (axis_from axis all m))) e ∙ by axis h
  where
    none : (y : Visit) → are_siblings x y ≡ false
    none y = ap (λ b. same_parent x.above y.above && not b && not (is_attribute y.content)) a ∙ of (same_parent x.above y.above)
      where
        of : (b : Bool) → (b && not true && not (is_attribute y.content)) ≡ false
        of true = refl
        of false = refl

    by : (axis : Axis) → is_sibling axis ≡ true → map (λ (y : Visit). y.number) (filter (λ y. meets axis test y.content) (axis_from axis all (Some x))) ≡ []
    by FollowingSibling i = ap (λ l. map (λ (y : Visit). y.number) (filter (λ y. meets FollowingSibling test y.content) l)) (filter-none (are_siblings x) none (after x.number all))
    by PrecedingSibling i = ap (λ l. map (λ (y : Visit). y.number) (filter (λ y. meets PrecedingSibling test y.content) (reverse l))) (filter-none (are_siblings x) none (before x.number all))
    by Child i = no i
    by Attribute i = no i
    by Self_ i = no i
    by Parent i = no i
    by Ancestor i = no i
    by AncestorOrSelf i = no i
    by Descendant i = no i
    by DescendantOrSelf i = no i

-- ---- contents

module _ (nodes : List Node) (n : ℕ) (x : Visit) (e : found n (map erased (visits nodes)) ≡ Some x) where
  -- what a visited node is, without its text
  pub content-of : (c : Content) × (content_at n nodes ≡ Some c) × (x.content ≡ without_text c)
  content-of = by (found n (visits nodes)) refl (sym (found-erased n (visits nodes)) ∙ e)
    where
      by : (m : Option Visit) → found n (visits nodes) ≡ m → option_map erased m ≡ Some x → (c : Content) × (content_at n nodes ≡ Some c) × (x.content ≡ without_text c)
      by None i j = none-some j
      by (Some y) i j = (y.content, sym (content-seen n [] nodes) ∙ ap (option_map (λ (v : Visit). v.content)) i, ap (λ (v : Visit). v.content) (sym (some-same j)))

pub list-erased : (c : Content) → has_list (without_text c) ≡ has_list c
list-erased content.Root = refl
list-erased (content.Element name) = refl
list-erased (content.Attribute name text) = refl
list-erased (content.Text text) = refl

pub element-erased : (c : Content) → is_element (without_text c) ≡ is_element c
element-erased content.Root = refl
element-erased (content.Element name) = refl
element-erased (content.Attribute name text) = refl
element-erased (content.Text text) = refl

pub root-erased : (c : Content) → is_root (without_text c) ≡ is_root c
root-erased content.Root = refl
root-erased (content.Element name) = refl
root-erased (content.Attribute name text) = refl
root-erased (content.Text text) = refl

pub has-list-of : (nodes : List Node) (n : ℕ) (x : Visit) → found n (map erased (visits nodes)) ≡ Some x → has_list_in (content_at n nodes) ≡ has_list x.content
has-list-of nodes n x e = let c = content-of nodes n x e in ap has_list_in c.1 ∙ sym (list-erased c.0) ∙ ap has_list (sym c.2)

-- ---- a node of the shape

module _ (forest : Forest) (sound : Sound forest) (n : ℕ) (x : Visit) (e : found n (real forest sound) ≡ Some x) (s : stands forest.nodes n ≡ true) where
  in-whole : found n (whole forest sound) ≡ Some x
  in-whole = stands-found forest sound n x e s

  abbrev Same : Axis → Test → Type 0
  Same axis test = reached axis test (whole forest sound) n ≡ reached axis test (real forest sound) n

  by-reach : (axis : Axis) (test : Test) → ((m : ℕ) → has m (lists_of axis (whole forest sound) n) ≡ true → filter (λ y. is_first m y.above) (whole forest sound) ≡ filter (λ y. is_first m y.above) (real forest sound)) → Same axis test
  by-reach axis test lists = (reach (frame forest sound) (λ y. meets axis test y.content) (lists_of axis (whole forest sound) n) lists n x in-whole e axis (λ m h. h)).same

  -- beside a node whose parent has elements
  by-parent : ((p : ℕ) (ps : List ℕ) → x.above ≡ p ∷ ps → has_elements (visits forest.nodes) p ≡ true) → (m : ℕ) → has m (list_around (whole forest sound) n) ≡ true →
      filter (λ y. is_first m y.above) (whole forest sound) ≡ filter (λ y. is_first m y.above) (real forest sound)
  by-parent h m i = by x.above refl (sym (ap (λ o. has m (parent_in o)) in-whole) ∙ i)
    where
      by : (ns : List ℕ) → x.above ≡ ns → has m (parent_in (Some (record { number = x.number; above = ns; content = x.content }))) ≡ true →
          filter (λ y. is_first m y.above) (whole forest sound) ≡ filter (λ y. is_first m y.above) (real forest sound)
      by [] j l = no l
      by (p ∷ ps) j l = same-list forest sound m (ap (has_elements (visits forest.nodes)) (only-one m p l) ∙ h p ps j)

  -- of a node without a list
  same-empty : has_list x.content ≡ false → (m : ℕ) → has m (n ∷ []) ≡ true → filter (λ y. is_first m y.above) (whole forest sound) ≡ filter (λ y. is_first m y.above) (real forest sound)
  same-empty h m i =
      ap (λ k. filter (λ y. is_first k y.above) (whole forest sound)) (only-one m n i)
      ∙ list-empty (whole forest sound) (whole-visits forest sound) n x in-whole h
      ∙ sym (list-empty (real forest sound) (real-visits forest sound) n x e h)
      ∙ ap (λ k. filter (λ y. is_first k y.above) (real forest sound)) (sym (only-one m n i))

  same-below : has_list x.content ≡ false → (m : ℕ) → has m (lists_of Descendant (whole forest sound) n) ≡ true → filter (λ y. is_first m y.above) (whole forest sound) ≡ filter (λ y. is_first m y.above) (real forest sound)
  same-below h m i = same-empty h m (ap (has m) (sym (lists-alone (whole forest sound) (whole-visits forest sound) n x in-whole h)) ∙ i)

  without-list : has_list x.content ≡ false → ((p : ℕ) (ps : List ℕ) → x.above ≡ p ∷ ps → has_elements (visits forest.nodes) p ≡ true) ⊎ (is_attribute x.content ≡ true) → (axis : Axis) (test : Test) → Same axis test
  without-list h k Child test = by-reach Child test (same-empty h)
  without-list h k Attribute test = by-reach Attribute test (same-empty h)
  without-list h k Self_ test = by-reach Self_ test (λ m i. no i)
  without-list h k Parent test = by-reach Parent test (λ m i. no i)
  without-list h k Ancestor test = by-reach Ancestor test (λ m i. no i)
  without-list h k AncestorOrSelf test = by-reach AncestorOrSelf test (λ m i. no i)
  without-list h k Descendant test = by-reach Descendant test (same-below h)
  without-list h k DescendantOrSelf test = by-reach DescendantOrSelf test (same-below h)
  without-list h (inl p) FollowingSibling test = by-reach FollowingSibling test (by-parent p)
  without-list h (inl p) PrecedingSibling test = by-reach PrecedingSibling test (by-parent p)
  without-list h (inr a) FollowingSibling test = beside-attribute (whole forest sound) n x test in-whole a FollowingSibling refl ∙ sym (beside-attribute (real forest sound) n x test e a FollowingSibling refl)
  without-list h (inr a) PrecedingSibling test = beside-attribute (whole forest sound) n x test in-whole a PrecedingSibling refl ∙ sym (beside-attribute (real forest sound) n x test e a PrecedingSibling refl)

  -- the parent of a text that stands in the shape has elements
  pub text-parent : is_text x.content ≡ true → (p : ℕ) (ps : List ℕ) → x.above ≡ p ∷ ps → has_elements (visits forest.nodes) p ≡ true
  text-parent h p ps i = by (has_elements (visits forest.nodes) p) refl
    where
      is : is_kept forest.nodes x ≡ true
      is = sym (stands-is forest sound n x e) ∙ s

      by : (b : Bool) → has_elements (visits forest.nodes) p ≡ b → b ≡ true
      by true j = refl
      by false j =
          sym (ap (λ b. not (b && is_replaced (texts_of forest.nodes) (p ∷ ps))) h ∙ ap (λ b. not (is_some (text_or b))) j)
          ∙ ap (λ ns. not (is_text x.content && is_replaced (texts_of forest.nodes) ns)) (sym i)
          ∙ is

  -- so has that of an element
  pub element-parent : is_element x.content ≡ true → (p : ℕ) (ps : List ℕ) → x.above ≡ p ∷ ps → has_elements (visits forest.nodes) p ≡ true
  element-parent h p ps i =
      sym (any-through erased (λ y. is_element y.content && is_first p y.above) (λ y. is_element y.content && is_first p y.above) (λ y. ap (λ b. b && is_first p y.above) (element-erased y.content)) (visits forest.nodes))
      ∙ any-found (λ y. is_element y.content && is_first p y.above) n (real forest sound) x e (both (is_element x.content) h (ap (is_first p) i ∙ same p))
    where
      same : (k : ℕ) → (k == k) ≡ true
      same k = self-same k

      both : (a : Bool) → a ≡ true → is_first p x.above ≡ true → (a && is_first p x.above) ≡ true
      both true j l = l
      both false j l = no j

  -- a root has none
  pub root-parent : is_root x.content ≡ true → (p : ℕ) (ps : List ℕ) → x.above ≡ p ∷ ps → has_elements (visits forest.nodes) p ≡ true
  root-parent h p ps i = by (found n (visits forest.nodes)) refl (sym (found-erased n (visits forest.nodes)) ∙ e)
    where
      by : (m : Option Visit) → found n (visits forest.nodes) ≡ m → option_map erased m ≡ Some x → has_elements (visits forest.nodes) p ≡ true
      by None j l = none-some l
      by (Some y) j l =
          let top : y.above ≡ [] = each-found (λ v. is_root v.content ≡ true → v.above ≡ []) n (visits forest.nodes) y (roots-from [] forest.nodes sound.trees.tops) j (sym (root-erased y.content) ∙ ap (λ (v : Visit). is_root v.content) (some-same l) ∙ h) in
          cc (sym top ∙ ap (λ (v : Visit). v.above) (some-same l) ∙ i)

  -- of a node with a list
  with-list : not (is_text x.content) ≡ true → ((p : ℕ) (ps : List ℕ) → x.above ≡ p ∷ ps → has_elements (visits forest.nodes) p ≡ true) → has_list x.content ≡ true →
      (axis : Axis) (test : Test) → (is_kind test && has_texts forest.nodes n axis) ≡ false → Same axis test
  with-list solid parents h axis test t = by (is_kind test && meets_texts axis) refl
    where
      bare : found n (untexted (whole forest sound)) ≡ Some x
      bare = found-in (λ y. not (is_text y.content)) n (whole forest sound) x (whole-visits forest sound).apart in-whole solid

      bare-real : found n (untexted (real forest sound)) ≡ Some x
      bare-real = ap (found n) (sym (same-bare forest sound)) ∙ bare

      listed : has_list_in (content_at n forest.nodes) ≡ true
      listed = has-list-of forest.nodes n x e ∙ h

      -- here a text would stand in place of others
      texts : (b c : Bool) → (is_kind test && b) ≡ false → (is_kind test && c) ≡ true → b ≡ false
      texts b c i j = ap (λ k. k && b) (sym (and-true (is_kind test) c j).0) ∙ i

      child : (b : Bool) → (has_list_in (content_at n forest.nodes) && not b) ≡ false → b ≡ true
      child true i = refl
      child false i = sym i ∙ ap (λ k. k && true) listed

      of : (axis : Axis) → (is_kind test && has_texts forest.nodes n axis) ≡ false → (is_kind test && meets_texts axis) ≡ true → Same axis test
      of Child i j = by-reach Child test (λ m l. same-list forest sound m (ap (has_elements (visits forest.nodes)) (only-one m n l) ∙ child (has_elements (visits forest.nodes) n) (texts _ true i j)))
      of Descendant i j = no (sym (texts (has_list_in (content_at n forest.nodes)) true i j) ∙ listed)
      of DescendantOrSelf i j = no (sym (texts (has_list_in (content_at n forest.nodes)) true i j) ∙ listed)
      of FollowingSibling i j = by-reach FollowingSibling test (by-parent parents)
      of PrecedingSibling i j = by-reach PrecedingSibling test (by-parent parents)
      of Attribute i j = no (and-true (is_kind test) false j).1
      of Self_ i j = no (and-true (is_kind test) false j).1
      of Parent i j = no (and-true (is_kind test) false j).1
      of Ancestor i j = no (and-true (is_kind test) false j).1
      of AncestorOrSelf i j = no (and-true (is_kind test) false j).1

      by : (b : Bool) → (is_kind test && meets_texts axis) ≡ b → Same axis test
      by true i = of axis t i
      by false i =
          reached-untexted (whole forest sound) (whole-visits forest sound) n x bare axis test (ap not i)
          ∙ ap (λ l. reached axis test l n) (same-bare forest sound)
          ∙ sym (reached-untexted (real forest sound) (real-visits forest sound) n x bare-real axis test (ap not i))

  pub plain : (axis : Axis) (test : Test) → (is_kind test && has_texts forest.nodes n axis) ≡ false → Same axis test
  plain axis test t = by x.content refl
    where
      by : (c : Content) → x.content ≡ c → Same axis test
      by content.Root i = with-list (ap (λ c. not (is_text c)) i) (root-parent (ap is_root i)) (ap has_list i) axis test t
      by (content.Element name) i = with-list (ap (λ c. not (is_text c)) i) (element-parent (ap is_element i)) (ap has_list i) axis test t
      by (content.Attribute name text) i = without-list (ap has_list i) (inr (ap is_attribute i)) axis test
      by (content.Text text) i = without-list (ap has_list i) (inl (text-parent (ap is_text i))) axis test

-- an element without element children, by its visit
pub leaf-visit : (nodes : List Node) (n : ℕ) (x : Visit) → found n (map erased (visits nodes)) ≡ Some x → is_leaf nodes n ≡ is_leaf_visit nodes x
leaf-visit nodes n x e =
    let c = content-of nodes n x e in
    ap (λ b. b && not (has_elements (visits nodes) n)) (ap is_element_in c.1 ∙ sym (element-erased c.0) ∙ ap is_element (sym c.2))
    ∙ ap (λ k. is_element x.content && not (has_elements (visits nodes) k)) (sym (found-number n (map erased (visits nodes)) x e))
