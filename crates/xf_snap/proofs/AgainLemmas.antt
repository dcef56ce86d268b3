-- A tree that is within the limits is read as it was written.
use Rattle.std.proofs.Common.{◌≡◌, ◌≤◌, ◌<◌, ℕ, zero, suc, ◌+◌, ◌-◌, ◌^◌, List, [], ◌∷◌, ◌++◌, map, length, Option, Some, None, refl, sym, ◌∙◌, ap, subst, arith, append_assoc}
use Rattle.std.specs.Prelude.{Bool, true, ◌&&◌, nat_le, nat_lt, sum_by}
use Rattle.std.specs.List.{flat_map, list_all, AllByRecursion}
use Rattle.std.specs.Str.{is_utf8}
use Rattle.std.proofs.lemmas.Bool.{and_parts}
use Rattle.std.proofs.lemmas.List.Sums.{sum_by-cons}
use Rattle.xf_name.specs.declared.qname.QName.{QName}
use Rattle.xf_def_forest.specs.declared.bare.Bare.{Bare}
use Rattle.xf_def_forest.specs.declared.bare.Bare.TheVariants as bare
use Rattle.xf_def_forest.specs.declared.bare.Bare.TheOpen.{Bare-F, BareElement-F}
use Rattle.xf_def_forest.specs.declared.bare.Bare.TheFolds.{map-Bare, ind-Bare}
use Rattle.xf_def_forest.specs.declared.bare.Bare.TheViews.{roll-Bare, roll-BareElement}
use Rattle.xf_def_forest.specs.declared.bare.BareElement.{BareElement}
use Rattle.xf_def_forest.specs.declared.bare.BareAttribute.{BareAttribute}
use Rattle.xf_def_forest.specs.Limits.{limits}
use Rattle.xf_snap.specs.Numbers.{two, four, from_two, from_four}
use Rattle.xf_snap.specs.Spelling.{text_bytes, name_bytes, attribute_bytes, tree_bytes, element_bytes}
use Rattle.xf_snap.specs.Within.{is_fit_name, is_fit_attribute, is_fit, is_fit_part, is_typed_name, is_typed_attribute, is_typed, is_typed_part, tree_nodes, element_nodes}
use Rattle.xf_snap.specs.Reading.{◌>>=◌, Front, two_at, four_at, name_at, attribute_at, several, text_at, element_over, tree_over, element_at, tree_at}
use Rattle.xf_snap.proofs.NumberLemmas.{wide_two, wide_four, number_again}
use Rattle.xf_snap.proofs.SeveralLemmas.{Again, several_again, all_each, each_in, each_both, each_within}
use Rattle.xf_snap.proofs.FieldLemmas.{text_again, name_again, IsAttribute, attribute_again}
use Rattle.xf_snap.proofs.TreeLemmas.{Level, bytes-text, bytes-element, bytes-level, fit-text, fit-element, fit-level, typed-text, typed-element, typed-level, nodes-text, nodes-element, nodes-level}
use Rattle.xf_snap.proofs.TakenLemmas.{IsTree, IsElement}

-- it has a node, and where it is fit and has few nodes it is read again
abbrev TreeAgain : Bare → Type 0
TreeAgain t = (1 ≤ tree_nodes t) × ((depth : ℕ) → IsTree depth t → tree_nodes t < 65537 → Again tree_bytes (tree_at depth) t)

abbrev ElementAgain : BareElement → Type 0
ElementAgain e = (1 ≤ element_nodes e) × ((depth : ℕ) → IsElement depth e → element_nodes e < 65537 → Again element_bytes (element_at depth) e)

abbrev Below : Type 0
Below = (x : Bare) × TreeAgain x

abbrev Part : Type 0
Part = (e : BareElement) × ElementAgain e

abbrev trees_of : List Below → List Bare
trees_of ys = map (λ c. c.0) ys

children_again : (depth : ℕ) (ys : List Below) → AllByRecursion (IsTree depth) (trees_of ys) → AllByRecursion (λ t. tree_nodes t < 65537) (trees_of ys) → AllByRecursion (Again tree_bytes (tree_at depth)) (trees_of ys)
children_again depth [] fit few = tt
children_again depth (y ∷ ys) fit few = (y.1.1 depth fit.0 few.0, children_again depth ys fit.1 few.1)

children_count : (ys : List Below) → length (trees_of ys) ≤ sum_by tree_nodes (trees_of ys)
children_count [] = omega arith
children_count (y ∷ ys) = omega (arith, sum_by-cons tree_nodes y.0 (trees_of ys), y.1.0, children_count ys)

-- one level of a tree
text_level : (text : List ℕ) → TreeAgain (bare.Text text)
unfolding tree_over
text_level text = (
  omega (arith, nodes-text text),
  λ depth is few rest.
      ap (λ (l : List ℕ). tree_at depth (l ++ rest)) (bytes-text text)
      ∙ ap (λ (o : Front (List ℕ)). o >>= λ t. Some (bare.Text t.0, t.1)) (text_again text rest (sym (fit-text text depth) ∙ is.0, sym (typed-text text) ∙ is.1)),
)

element_level : (e : BareElement) → ElementAgain e → TreeAgain (bare.Element e)
unfolding tree_over
element_level e part = (
  omega (arith, nodes-element e, part.0),
  λ depth is few rest.
      ap (λ (l : List ℕ). tree_at depth (l ++ rest)) (bytes-element e)
      ∙ ap (λ (o : Front BareElement). o >>= λ top. Some (bare.Element top.0, top.1))
      (part.1 depth (sym (fit-element e depth) ∙ is.0, sym (typed-element e) ∙ is.1) (omega (arith, nodes-element e, few)) rest),
)

tree_level : (y : Bare-F Below Part) → TreeAgain (roll-Bare (map-Bare Below Part Bare BareElement (λ c. c.0) (λ c. c.0) y))
tree_level (Bare-F.Text text) = subst TreeAgain (sym (bare.rolls-Text text)) (text_level text)
tree_level (Bare-F.Element e) = subst TreeAgain (sym (bare.rolls-Element e.0)) (element_level e.0 e.1)

-- what an element's level has to be
abbrev AreParts : ℕ → Level → Type 0
AreParts depth e =
    (((nat_lt 0 depth ≡ true) × (is_fit_name e.name ≡ true)) × (list_all is_fit_attribute e.attributes ≡ true)) × (list_all (λ child. is_fit child (depth - 1)) e.children ≡ true)

fit_parts : (depth : ℕ) (e : Level) → is_fit_part (roll-BareElement e) depth ≡ true → AreParts depth e
fit_parts depth e is =
    let all = and_parts (nat_lt 0 depth && is_fit_name e.name && list_all is_fit_attribute e.attributes) (list_all (λ child. is_fit child (depth - 1)) e.children) (sym (fit-level e depth) ∙ is) in
    let front = and_parts (nat_lt 0 depth && is_fit_name e.name) (list_all is_fit_attribute e.attributes) all.0 in
    ((and_parts (nat_lt 0 depth) (is_fit_name e.name) front.0, front.1), all.1)

-- reading what is spelled of a level
level_again : (depth : ℕ) (e : Level) → IsElement (suc depth) (roll-BareElement e) → element_nodes (roll-BareElement e) < 65537 → length e.children ≤ sum_by tree_nodes e.children
    → AllByRecursion (Again tree_bytes (tree_at depth)) e.children → Again element_bytes (element_at (suc depth)) (roll-BareElement e)
unfolding element_at element_over
level_again depth e is few count each rest =
    let fit = fit_parts (suc depth) e is.0 in
    let typed_all = and_parts (is_typed_name e.name && list_all is_typed_attribute e.attributes) (list_all is_typed e.children) (sym (typed-level e) ∙ is.1) in
    let typed = and_parts (is_typed_name e.name) (list_all is_typed_attribute e.attributes) typed_all.0 in
    let nodes = nodes-level e in
    let few_attributes : length e.attributes < 2 ^ 16 = omega (arith, nodes, few) in
    let few_children : length e.children < 2 ^ 32 = omega (arith, nodes, few, count) in
    let attributes = flat_map attribute_bytes e.attributes in
    let children = flat_map tree_bytes e.children in
    let behind_count = children ++ rest in
    let behind_attributes = four (length e.children) ++ behind_count in
    let behind_number = attributes ++ behind_attributes in
    let behind_name = two (length e.attributes) ++ behind_number in
    let split : element_bytes (roll-BareElement e) ++ rest ≡ name_bytes e.name ++ behind_name =
    ap (λ (l : List ℕ). l ++ rest) (bytes-level e)
    ∙ append_assoc (name_bytes e.name) (two (length e.attributes) ++ (attributes ++ (four (length e.children) ++ children))) rest
    ∙ ap (λ (l : List ℕ). name_bytes e.name ++ l) (append_assoc (two (length e.attributes)) (attributes ++ (four (length e.children) ++ children)) rest
    ∙ ap (λ (l : List ℕ). two (length e.attributes) ++ l) (append_assoc attributes (four (length e.children) ++ children) rest
    ∙ ap (λ (l : List ℕ). attributes ++ l) (append_assoc (four (length e.children)) children rest))) in
    let are_attributes : AllByRecursion (Again attribute_bytes attribute_at) e.attributes =
    each_in IsAttribute (Again attribute_bytes attribute_at) e.attributes (λ a h more. attribute_again a more h)
    (each_both (λ a. is_fit_attribute a ≡ true) (λ a. is_typed_attribute a ≡ true) e.attributes (all_each is_fit_attribute e.attributes fit.0.1) (all_each is_typed_attribute e.attributes typed.1)) in
    let first : name_at (element_bytes (roll-BareElement e) ++ rest) ≡ Some (e.name, behind_name) = ap name_at split ∙ name_again e.name behind_name (fit.0.0.1, typed.0) in
    let second : two_at behind_name ≡ Some (length e.attributes, behind_number) = number_again 2 two from_two (2 ^ 16) wide_two (length e.attributes) behind_number few_attributes in
    let third : several attribute_at (length e.attributes) behind_number ≡ Some (e.attributes, behind_attributes) = several_again attribute_bytes attribute_at e.attributes are_attributes behind_attributes in
    let fourth : four_at behind_attributes ≡ Some (length e.children, behind_count) = number_again 4 four from_four (2 ^ 32) wide_four (length e.children) behind_count few_children in
    let fifth : several (tree_at depth) (length e.children) behind_count ≡ Some (e.children, rest) = several_again tree_bytes (tree_at depth) e.children each rest in
    ap (λ (o : Front QName). o >>= λ name. two_at name.1 >>= λ n. several attribute_at n.0 n.1 >>= λ attributes. four_at attributes.1 >>= λ m. several (tree_at depth) m.0 m.1 >>= λ children. Some (roll-BareElement (record { name = name.0; attributes = attributes.0; children = children.0 }), children.1)) first
    ∙ ap (λ (o : Front ℕ). o >>= λ n. several attribute_at n.0 n.1 >>= λ attributes. four_at attributes.1 >>= λ m. several (tree_at depth) m.0 m.1 >>= λ children. Some (roll-BareElement (record { name = e.name; attributes = attributes.0; children = children.0 }), children.1)) second
    ∙ ap (λ (o : Front (List BareAttribute)). o >>= λ attributes. four_at attributes.1 >>= λ m. several (tree_at depth) m.0 m.1 >>= λ children. Some (roll-BareElement (record { name = e.name; attributes = attributes.0; children = children.0 }), children.1)) third
    ∙ ap (λ (o : Front ℕ). o >>= λ m. several (tree_at depth) m.0 m.1 >>= λ children. Some (roll-BareElement (record { name = e.name; attributes = e.attributes; children = children.0 }), children.1)) fourth
    ∙ ap (λ (o : Front (List Bare)). o >>= λ children. Some (roll-BareElement (record { name = e.name; attributes = e.attributes; children = children.0 }), children.1)) fifth

abbrev level_of : BareElement-F Below Part → Level
level_of y = record { name = y.name; attributes = y.attributes; children = trees_of y.children }

element_again : (y : BareElement-F Below Part) (depth : ℕ) → IsElement depth (roll-BareElement (level_of y)) → element_nodes (roll-BareElement (level_of y)) < 65537 → Again element_bytes (element_at depth) (roll-BareElement (level_of y))
element_again y zero is few = let no : nat_lt 0 0 ≡ true = (fit_parts 0 (level_of y) is.0).0.0.0 in cc
element_again y (suc depth) is few =
    let e = level_of y in
    let fit = fit_parts (suc depth) e is.0 in
    let typed_all = and_parts (is_typed_name e.name && list_all is_typed_attribute e.attributes) (list_all is_typed e.children) (sym (typed-level e) ∙ is.1) in
    let one_less : suc depth - 1 ≡ depth = omega arith in
    let fit_children : list_all (λ t. is_fit t depth) e.children ≡ true = ap (λ (k : ℕ). list_all (λ t. is_fit t k) e.children) (sym one_less) ∙ fit.1 in
    let trees : AllByRecursion (IsTree depth) (trees_of y.children) =
    each_both (λ t. is_fit t depth ≡ true) (λ t. is_typed t ≡ true) e.children (all_each (λ t. is_fit t depth) e.children fit_children) (all_each is_typed e.children typed_all.1) in
    let small : AllByRecursion (λ t. tree_nodes t < 65537) (trees_of y.children) = each_within tree_nodes 65537 e.children (omega (arith, nodes-level e, few)) in
    level_again depth e is few (children_count y.children) (children_again depth y.children trees small)

element_part : (y : BareElement-F Below Part) → ElementAgain (roll-BareElement (level_of y))
element_part y = (omega (arith, nodes-level (level_of y)), element_again y)

all_again : (t : Bare) → TreeAgain t
all_again = ind-Bare TreeAgain ElementAgain (λ x y is. subst (λ z. TreeAgain (roll-Bare z)) is (tree_level y)) (λ x y is. subst (λ z. ElementAgain (roll-BareElement z)) is (element_part y))

pub trees_again : (depth : ℕ) (t : Bare) → IsTree depth t → tree_nodes t < 65537 → Again tree_bytes (tree_at depth) t
trees_again depth t is few = (all_again t).1 depth is few

pub has_node : (t : Bare) → 1 ≤ tree_nodes t
has_node t = (all_again t).0
