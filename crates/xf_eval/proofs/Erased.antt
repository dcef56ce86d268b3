-- Axes, tops, names, node tests and sets in order are the same over visits without their texts.
use Rattle.std.proofs.Common.{◌≡◌, ℕ, ◌==◌, Bool, true, false, not, cond, ◌&&◌, ◌||◌, List, [], ◌∷◌, map, Option, Some, None, option_map, refl, sym, ap, ◌∙◌}
use Rattle.std.specs.Prelude.{filter, find, reverse, option_and_then}
use Rattle.xf_name.specs.declared.axis.Axis.{Axis}
use Rattle.xf_name.specs.declared.axis.Axis.TheVariants.{Child, Attribute, Self_, Parent, Ancestor, AncestorOrSelf, Descendant, DescendantOrSelf, FollowingSibling, PrecedingSibling}
use Rattle.xf_def_syntax.specs.declared.expr.Test.{Test}
use Rattle.xf_def_syntax.specs.declared.expr.Test.TheVariants as test
use Rattle.xf_def_forest.specs.declared.content.Node.{Node}
use Rattle.xf_def_forest.specs.declared.content.Content.{Content}
use Rattle.xf_def_forest.specs.declared.content.Content.TheVariants as content
use Rattle.xf_def_forest.specs.Forest.{content_at, is_attribute, is_element, is_text, name_in}
use Rattle.xf_def_forest.specs.Visit.{Visit, visit, visits, visits_from, still_above, has, is_first, same_parent, above_in, last_of, top_of}
use Rattle.xf_def_forest.specs.Axis.{after, before, in_range, in_proximity, is_on, is_reverse, on_axis, axis_from}
use Rattle.xf_def_forest.specs.Shape.{erased, without_text}
use Rattle.xf_def_forest.proofs.RenumberLaws.{find-through, filter-through, map-map, map-reverse}
use Rattle.xf_def_xpath.specs.Setting.{in_order}
use Rattle.xf_def_xpath.specs.Steps.{reached}
use Rattle.xf_def_xpath.specs.Tests.{has_name, is_in_space, is_principal, meets}
use Rattle.xf_def_xpath.specs.Functions.{first_name}
use Rattle.xf_eval.specs.OfNodes.{first_content}

-- ---- what a node is

attribute-erased : (c : Content) → is_attribute (without_text c) ≡ is_attribute c
attribute-erased content.Root = refl
attribute-erased (content.Element name) = refl
attribute-erased (content.Attribute name text) = refl
attribute-erased (content.Text text) = refl

element-erased : (c : Content) → is_element (without_text c) ≡ is_element c
element-erased content.Root = refl
element-erased (content.Element name) = refl
element-erased (content.Attribute name text) = refl
element-erased (content.Text text) = refl

text-erased : (c : Content) → is_text (without_text c) ≡ is_text c
text-erased content.Root = refl
text-erased (content.Element name) = refl
text-erased (content.Attribute name text) = refl
text-erased (content.Text text) = refl

name-erased : (c : Content) → name_in (without_text c) ≡ name_in c
name-erased content.Root = refl
name-erased (content.Element name) = refl
name-erased (content.Attribute name text) = refl
name-erased (content.Text text) = refl

principal-erased : (axis : Axis) (c : Content) → is_principal axis (without_text c) ≡ is_principal axis c
principal-erased Attribute c = attribute-erased c
principal-erased other c = element-erased c

meets-erased : (axis : Axis) (t : Test) (c : Content) → meets axis t (without_text c) ≡ meets axis t c
meets-erased axis (test.Name name) c =
    ap (λ b. b && has_name name (name_in (without_text c))) (principal-erased axis c) ∙ ap (λ m. is_principal axis c && has_name name m) (name-erased c)
meets-erased axis (test.InSpace space) c =
    ap (λ b. b && is_in_space space (name_in (without_text c))) (principal-erased axis c) ∙ ap (λ m. is_principal axis c && is_in_space space m) (name-erased c)
meets-erased axis test.AnyName c = principal-erased axis c
meets-erased axis test.Text c = text-erased c
meets-erased axis test.Node c = refl
meets-erased axis test.Nothing c = refl

-- ---- where it stands

siblings-erased : (x y : Visit) → (same_parent x.above y.above && not (is_attribute (erased x).content) && not (is_attribute (erased y).content)) ≡ (same_parent x.above y.above && not (is_attribute x.content) && not (is_attribute y.content))
siblings-erased x y =
    ap (λ b. same_parent x.above y.above && not b && not (is_attribute (erased y).content)) (attribute-erased x.content)
    ∙ ap (λ b. same_parent x.above y.above && not (is_attribute x.content) && not b) (attribute-erased y.content)

on-erased : (axis : Axis) (x y : Visit) → is_on axis (erased x) (erased y) ≡ is_on axis x y
on-erased Child x y = ap (λ b. is_first x.number y.above && not b) (attribute-erased y.content)
on-erased Attribute x y = ap (λ b. is_first x.number y.above && b) (attribute-erased y.content)
on-erased Self_ x y = refl
on-erased Parent x y = refl
on-erased Ancestor x y = refl
on-erased AncestorOrSelf x y = refl
on-erased Descendant x y = ap (λ b. has x.number y.above && not b) (attribute-erased y.content)
on-erased DescendantOrSelf x y = ap (λ b. (has x.number y.above && not b) || (x.number == y.number)) (attribute-erased y.content)
on-erased FollowingSibling x y = siblings-erased x y
on-erased PrecedingSibling x y = siblings-erased x y

before-erased : (n : ℕ) (xs : List Visit) → before n (map erased xs) ≡ map erased (before n xs)
before-erased n [] = refl
before-erased n (x ∷ xs) = by (x.number == n) (before-erased n xs)
  where
    by : (b : Bool) → before n (map erased xs) ≡ map erased (before n xs) → cond b [] (erased x ∷ before n (map erased xs)) ≡ map erased (cond b [] (x ∷ before n xs))
    by true h = refl
    by false h = ap (λ l. erased x ∷ l) h

after-erased : (n : ℕ) (xs : List Visit) → after n (map erased xs) ≡ map erased (after n xs)
after-erased n [] = refl
after-erased n (x ∷ xs) = by (x.number == n) (after-erased n xs)
  where
    by : (b : Bool) → after n (map erased xs) ≡ map erased (after n xs) → cond b (map erased xs) (after n (map erased xs)) ≡ map erased (cond b xs (after n xs))
    by true h = refl
    by false h = h

range-erased : (axis : Axis) (n : ℕ) (xs : List Visit) → in_range axis n (map erased xs) ≡ map erased (in_range axis n xs)
range-erased FollowingSibling n xs = after-erased n xs
range-erased PrecedingSibling n xs = before-erased n xs
range-erased other n xs = refl

near-erased : (b : Bool) (xs : List Visit) → cond b (reverse (map erased xs)) (map erased xs) ≡ map erased (cond b (reverse xs) xs)
near-erased true xs = sym (map-reverse erased xs)
near-erased false xs = refl

axis-erased : (axis : Axis) (all : List Visit) (m : Option Visit) → axis_from axis (map erased all) (option_map erased m) ≡ map erased (axis_from axis all m)
axis-erased axis all None = refl
axis-erased axis all (Some x) =
    ap (in_proximity axis) (ap (filter (is_on axis (erased x))) (range-erased axis x.number all) ∙ filter-through erased (is_on axis (erased x)) (is_on axis x) (on-erased axis x) (in_range axis x.number all))
    ∙ near-erased (is_reverse axis) (on_axis axis all x)

pub reached-erased : (axis : Axis) (t : Test) (all : List Visit) (n : ℕ) → reached axis t (map erased all) n ≡ reached axis t all n
reached-erased axis t all n =
    let seen = axis_from axis all (find (λ x. x.number == n) all) in
    ap (λ m. map (λ y. y.number) (filter (λ y. meets axis t y.content) (axis_from axis (map erased all) m))) (find-through erased (λ x. x.number == n) (λ x. x.number == n) (λ x. refl) all)
    ∙ ap (λ l. map (λ y. y.number) (filter (λ y. meets axis t y.content) l)) (axis-erased axis all (find (λ x. x.number == n) all))
    ∙ ap (map (λ (y : Visit). y.number)) (filter-through erased (λ y. meets axis t y.content) (λ y. meets axis t y.content) (λ y. meets-erased axis t y.content) seen)
    ∙ map-map (λ (y : Visit). y.number) erased (filter (λ y. meets axis t y.content) seen)

pub in_order-erased : (all : List Visit) (ns : List ℕ) → in_order (map erased all) ns ≡ in_order all ns
in_order-erased all ns =
    ap (map (λ (y : Visit). y.number)) (filter-through erased (λ y. has y.number ns) (λ y. has y.number ns) (λ y. refl) all)
    ∙ map-map (λ (y : Visit). y.number) erased (filter (λ y. has y.number ns) all)

pub top-erased : (n : ℕ) (all : List Visit) → top_of n (map erased all) ≡ top_of n all
top-erased n all = ap (λ m. last_of n (above_in m)) (find-through erased (λ x. x.number == n) (λ x. x.number == n) (λ x. refl) all) ∙ by (find (λ x. x.number == n) all)
  where
    by : (m : Option Visit) → last_of n (above_in (option_map erased m)) ≡ last_of n (above_in m)
    by None = refl
    by (Some x) = refl

-- ---- what is found of a node

pub content-seen : (n : ℕ) (above xs : List Node) → option_map (λ (v : Visit). v.content) (find (λ v. v.number == n) (visits_from above xs)) ≡ content_at n xs
content-seen n above [] = refl
content-seen n above (x ∷ xs) = by (x.number == n) (content-seen n (x ∷ still_above x.depth above) xs)
  where
    rest : List Visit
    rest = visits_from (x ∷ still_above x.depth above) xs

    by : (b : Bool) → option_map (λ (v : Visit). v.content) (find (λ v. v.number == n) rest) ≡ content_at n xs
        → option_map (λ (v : Visit). v.content) (cond b (Some (visit above x)) (find (λ v. v.number == n) rest)) ≡ option_map (λ (y : Node). y.content) (cond b (Some x) (find (λ y. y.number == n) xs))
    by true h = refl
    by false h = h

pub name-seen : (nodes : List Node) (ns : List ℕ) → first_name (map erased (visits nodes)) ns ≡ option_and_then name_in (first_content nodes ns)
name-seen nodes [] = refl
name-seen nodes (n ∷ ns) =
    ap (λ m. option_and_then (λ (x : Visit). name_in x.content) m) (find-through erased (λ x. x.number == n) (λ x. x.number == n) (λ x. refl) (visits nodes))
    ∙ by (find (λ x. x.number == n) (visits nodes))
    ∙ ap (option_and_then name_in) (content-seen n [] nodes)
  where
    by : (m : Option Visit) → option_and_then (λ (x : Visit). name_in x.content) (option_map erased m) ≡ option_and_then name_in (option_map (λ (v : Visit). v.content) m)
    by None = refl
    by (Some x) = name-erased x.content
