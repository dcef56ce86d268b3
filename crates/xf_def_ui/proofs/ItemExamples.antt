-- Items, and the texts that they allow.
use Rattle.std.proofs.Common.{◌≡◌, ℕ, true, false, List, [], ◌∷◌, Some, None, refl, codes}
use Rattle.xf_num.specs.Number.{scale}
use Rattle.xf_def_syntax.specs.declared.expr.Operator.TheVariants as operator
use Rattle.xf_def_xpath.specs.Asked.{Trace}
use Rattle.xf_def_xpath.specs.Examples.{call, two}
use Rattle.xf_def_ui.specs.declared.answers.Item.{Item}
use Rattle.xf_def_ui.specs.Interface.{Interface}
use Rattle.xf_def_ui.specs.Interface as sort
use Rattle.xf_def_ui.specs.Context.{standing_in}
use Rattle.xf_def_ui.specs.Items.{items_of, allows, may_be_set, is_chosen, words}
use Rattle.xf_def_ui.specs.Examples
use Rattle.xf_def_ui.specs.Examples.{inside, saying}

-- 1 a select on a path, with the item 2, whose labels are A and B and whose value is x, and the choices 6, in which stand an item without
-- label and value and an item set on ../s with the label i and the value `.`
abbrev payment : Trace → Interface
payment bound_to = Examples.interface
    (Examples.top (1 ∷ [])
    ∷ Examples.by bound_to (inside 0 (2 ∷ 6 ∷ []) (sort.select false false))
    ∷ inside 1 (3 ∷ 4 ∷ 5 ∷ []) sort.item
    ∷ saying (Examples.words (codes "A") ∷ []) (inside 2 [] sort.label)
    ∷ saying (Examples.words (codes "x") ∷ []) (inside 2 [] (sort.item_value None))
    ∷ saying (Examples.words (codes "B") ∷ []) (inside 2 [] sort.label)
    ∷ inside 1 (7 ∷ 8 ∷ []) sort.choices
    ∷ inside 6 [] sort.item
    ∷ Examples.by (Examples.beside (codes "s")) (inside 6 (9 ∷ 10 ∷ []) sort.itemset)
    ∷ Examples.by (Examples.to (codes "i")) (inside 8 [] sort.label)
    ∷ Examples.by Examples.itself (inside 8 [] (sort.item_value None))
    ∷ [])
    [] []

abbrev item : List ℕ → List ℕ → Item
item label value = record { label = label; value = value }

abbrev all : List Item
all = item (codes "A") (codes "x") ∷ item [] [] ∷ item (codes "1") (codes "12") ∷ item (codes "3") (codes "3") ∷ []

-- the first label counts; without label and value both are empty; the item set has one for each s
in_document_order : items_of (payment (Examples.to (codes "e"))) (Examples.around Examples.two_lists) [] 1 ≡ Some all
in_document_order = refl

-- the select binds nothing: its item set has no context node
without_a_context_node : items_of (payment (Examples.to (codes "zz"))) (Examples.around Examples.two_lists) [] 1 ≡ Some (item (codes "A") (codes "x") ∷ item [] [] ∷ [])
without_a_context_node = refl

-- 1 a select on e with an item set on ../s, whose value is `position() = last()`
abbrev by_place : Interface
by_place = Examples.interface
    (Examples.top (1 ∷ [])
    ∷ Examples.by (Examples.to (codes "e")) (inside 0 (2 ∷ []) (sort.select true false))
    ∷ Examples.by (Examples.beside (codes "s")) (inside 1 (3 ∷ []) sort.itemset)
    ∷ inside 2 [] (sort.item_value (Some (two (call 29 []) operator.Equal (call 19 [])).meaning))
    ∷ [])
    [] []

at_their_places : items_of by_place (Examples.around Examples.two_lists) [] 1 ≡ Some (item [] (codes "false") ∷ item [] (codes "true") ∷ [])
unfolding scale
at_their_places = refl

-- a node of an item set has its place in it
a_node_of_the_set : standing_in 7 (2 ∷ 7 ∷ []) ≡ record { node = 7; position = 2; size = 2 }
a_node_of_the_set = refl

-- ---- one may be chosen

a_value : allows false all (codes "12") ≡ true
a_value = refl

no_value : allows false all (codes "gold") ≡ false
no_value = refl

-- without an item whose value is empty
the_empty_text : allows false [] [] ≡ true
the_empty_text = refl

not_a_label : allows false all (codes "A") ≡ false
not_a_label = refl

not_two : allows false all (codes "x 3") ≡ false
not_two = refl

-- other texts are allowed
any_text : may_be_set false true all (codes "gold") ≡ true
any_text = refl

only_these : may_be_set false false all (codes "gold") ≡ false
only_these = refl

-- ---- many may be chosen

two_values : allows true all (codes "x  3") ≡ true
two_values = refl

a_word_that_is_none : allows true all (codes "x gold") ≡ false
a_word_that_is_none = refl

no_words : allows true [] (codes "  ") ≡ true
no_words = refl

between_blanks : words (codes " a b ") ≡ codes "a" ∷ codes "b" ∷ []
between_blanks = refl

-- ---- which are chosen

the_whole_text : is_chosen false (codes "12") (item (codes "1") (codes "12")) ≡ true
the_whole_text = refl

not_one_of_its_words : is_chosen false (codes "12 3") (item [] (codes "12")) ≡ false
not_one_of_its_words = refl

one_of_the_words : is_chosen true (codes "12 3") (item [] (codes "12")) ≡ true
one_of_the_words = refl

-- an empty value is no word
not_the_empty_value : is_chosen true [] (item [] []) ≡ false
not_the_empty_value = refl

but_the_empty_text : is_chosen false [] (item [] []) ≡ true
but_the_empty_text = refl
