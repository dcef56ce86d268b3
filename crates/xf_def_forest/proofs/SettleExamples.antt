-- Texts settled on small forests.
use Rattle.std.proofs.Common.{◌≡◌, [], ◌∷◌, ◌++◌, take, drop, true, false, refl}
use Rattle.std.specs.Prelude.{List, codes}
use Rattle.xf_def_forest.specs.declared.content.Node.{Node}
use Rattle.xf_def_forest.specs.Texts.{element_texts}
use Rattle.xf_def_forest.specs.Settle.{reserved, numbered_text_set, has_text, with_settled_text}
use Rattle.xf_def_forest.specs.Examples.{rows, keeping, element, text}

numbers_are_passed_over : (reserved 3 rows).next ≡ 17
numbers_are_passed_over = refl

a_text_has_the_given_number : (numbered_text_set 30 2 (codes "9") keeping).1.forest ≡ record rows { nodes = take 5 rows.nodes ++ text 30 3 (codes "9") ∷ drop 6 rows.nodes }
a_text_has_the_given_number = refl

what_it_had_is_told : (numbered_text_set 30 2 (codes "9") keeping).0 ≡ element_texts (5 ∷ [])
what_it_had_is_told = refl

-- the later of two texts comes in first
the_order_does_not_matter : with_settled_text 14 2 (codes "9") (with_settled_text 15 7 (codes "8") rows.nodes)
    ≡ with_settled_text 15 7 (codes "8") (with_settled_text 14 2 (codes "9") rows.nodes)
the_order_does_not_matter = refl

a_text_that_stands_keeps_its_number : with_settled_text 14 2 (codes "1") rows.nodes ≡ rows.nodes
a_text_that_stands_keeps_its_number = refl

an_attribute_has_its_text : has_text 4 (codes "7") rows.nodes ≡ true
an_attribute_has_its_text = refl

-- two texts side by side
abbrev two_texts : List Node
two_texts = element 0 0 (codes "d") ∷ text 1 1 (codes "x") ∷ text 3 1 (codes "y") ∷ []

two_texts_are_made_one : with_settled_text 4 0 (codes "xy") two_texts ≡ element 0 0 (codes "d") ∷ text 4 1 (codes "xy") ∷ []
two_texts_are_made_one = refl

none_is_the_empty_text : has_text 0 [] (element 0 0 (codes "d") ∷ []) ≡ true
none_is_the_empty_text = refl

an_empty_one_is_not_none : has_text 0 [] (element 0 0 (codes "d") ∷ text 1 1 [] ∷ []) ≡ false
an_empty_one_is_not_none = refl
