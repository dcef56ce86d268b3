-- Texts of labels, messages and values.
use Rattle.std.proofs.Common.{◌≡◌, ℕ, List, [], ◌∷◌, Option, Some, None, refl, codes}
use Rattle.xf_def_syntax.specs.declared.element.Part.TheVariants as part
use Rattle.xf_def_xpath.specs.Examples.{literal}
use Rattle.xf_def_ui.specs.Interface.{Interface}
use Rattle.xf_def_ui.specs.Interface as sort
use Rattle.xf_def_ui.specs.Elements.{element_at, actions_in}
use Rattle.xf_def_ui.specs.Labels.{text_of, words_of}
use Rattle.xf_def_ui.specs.Examples
use Rattle.xf_def_ui.specs.Examples.{inside, saying, words}

-- 1 Hello <b>World</b>; 3 `e is ` an output of e `.`; 5 on e, with a text; 6 on zz, with a text; 7 a message with <b><i>output</i></b>;
-- 11 in a group on zz: `a` and an output with `value`; 14 a value with the expression e and a text, 15 one with a text;
-- 16 a setvalue `a` <b>b</b> and an output; 19 a label with an output that has both e and a `value`
abbrev texts : Interface
texts = Examples.interface
    (Examples.top (1 ∷ 3 ∷ 5 ∷ 6 ∷ 7 ∷ 11 ∷ 14 ∷ 15 ∷ 16 ∷ 19 ∷ [])
    ∷ saying (words (codes "Hello ") ∷ part.Element 2 ∷ []) (inside 0 [] sort.label)
    ∷ saying (words (codes "World") ∷ []) (inside 1 [] sort.host)
    ∷ saying (words (codes "e is ") ∷ part.Element 4 ∷ words (codes ".") ∷ []) (inside 0 [] sort.label)
    ∷ Examples.by (Examples.to (codes "e")) (inside 3 [] (sort.inline None))
    ∷ Examples.by (Examples.to (codes "e")) (saying (words (codes "no") ∷ []) (inside 0 [] sort.label))
    ∷ Examples.by (Examples.to (codes "zz")) (saying (words (codes "no") ∷ []) (inside 0 [] (sort.action None)))
    ∷ inside 0 (8 ∷ []) (sort.action None)
    ∷ inside 7 (9 ∷ []) sort.host
    ∷ inside 8 (10 ∷ []) sort.host
    ∷ inside 9 [] (sort.inline (Some (literal (codes "v")).meaning))
    ∷ Examples.by (Examples.to (codes "zz")) (inside 0 (12 ∷ []) sort.group)
    ∷ saying (words (codes "a") ∷ part.Element 13 ∷ []) (inside 11 [] sort.label)
    ∷ inside 12 [] (sort.inline (Some (literal (codes "v")).meaning))
    ∷ saying (words (codes "no") ∷ []) (inside 0 [] (sort.item_value (Some (Examples.to (codes "e")).meaning)))
    ∷ saying (words (codes "q") ∷ []) (inside 0 [] (sort.item_value None))
    ∷ saying (words (codes "a") ∷ part.Element 17 ∷ part.Element 18 ∷ []) (inside 0 [] (sort.action None))
    ∷ saying (words (codes "b") ∷ []) (inside 16 [] sort.host)
    ∷ inside 16 [] (sort.inline (Some (literal (codes "v")).meaning))
    ∷ inside 0 (20 ∷ []) sort.label
    ∷ Examples.by (Examples.to (codes "e")) (inside 19 [] (sort.inline (Some (literal (codes "v")).meaning)))
    ∷ [])
    [] []

abbrev text_at : ℕ → Option (List ℕ)
text_at n = text_of texts (Examples.around Examples.two_lists) [] n

-- what stands in a host element is part of the text
through_a_host_element : text_at 1 ≡ Some (codes "Hello World")
through_a_host_element = refl

with_an_output : text_at 3 ≡ Some (codes "e is x.")
with_an_output = refl

the_bound_node_before_the_content : text_at 5 ≡ Some (codes "x")
the_bound_node_before_the_content = refl

-- it is bound to nothing: the content does not count
empty_where_nothing_is_selected : text_at 6 ≡ Some []
empty_where_nothing_is_selected = refl

an_output_two_host_elements_down : text_at 7 ≡ Some (codes "v")
an_output_two_host_elements_down = refl

-- the text stays; the expression of the output is not evaluated, though it asks no node
without_a_context_node : text_at 12 ≡ Some (codes "a")
without_a_context_node = refl

an_expression_before_the_content : text_at 14 ≡ Some (codes "x")
an_expression_before_the_content = refl

the_content_of_a_value : text_at 15 ≡ Some (codes "q")
the_content_of_a_value = refl

-- the content of a setvalue has no outputs
the_texts_alone : words_of texts (element_at texts 16) ≡ codes "ab"
the_texts_alone = refl

the_binding_of_an_output_before_its_value : text_at 19 ≡ Some (codes "x")
the_binding_of_an_output_before_its_value = refl

-- ---- actions in an action: 1 holds an action, a host element with the actions 4 and 5, of which 5 holds the action 6, and an output
abbrev actions : Interface
actions = Examples.interface
    (Examples.top (1 ∷ [])
    ∷ inside 0 (2 ∷ 3 ∷ 7 ∷ []) (sort.action None)
    ∷ inside 1 [] (sort.action None)
    ∷ inside 1 (4 ∷ 5 ∷ []) sort.host
    ∷ inside 3 [] (sort.action None)
    ∷ inside 3 (6 ∷ []) (sort.action None)
    ∷ inside 5 [] (sort.action None)
    ∷ inside 1 [] (sort.output None)
    ∷ [])
    [] []

-- those in a host element are among them; those in another action are not
by_the_nearest_action : actions_in actions 1 ≡ 2 ∷ 4 ∷ 5 ∷ []
by_the_nearest_action = refl

of_the_inner_one : actions_in actions 5 ≡ 6 ∷ []
of_the_inner_one = refl
