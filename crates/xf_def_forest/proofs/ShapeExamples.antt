-- Shapes of small forests, and forests that are the same but for their numbers.
use Rattle.std.proofs.Common.{◌≡◌, ℕ, true, [], ◌∷◌, map, Some, refl}
use Rattle.std.specs.Prelude.{List, codes}
use Rattle.xf_def_forest.specs.declared.content.Content.{Content}
use Rattle.xf_def_forest.specs.declared.content.Content.TheVariants.{Root, Element, Text}
use Rattle.xf_def_forest.specs.Visit.{Visit, visits}
use Rattle.xf_def_forest.specs.Shape.{shape, shape_of, with_contents, text_number, has_elements}
use Rattle.xf_def_forest.specs.Texts.{with_text}
use Rattle.xf_def_forest.specs.StringValue.{string_value}
use Rattle.xf_def_forest.specs.Same.{IsSame}
use Rattle.xf_def_forest.specs.Examples.{rows, pair_of_instances, node, element, attribute, text, plain}

abbrev keys : List Visit → List ℕ
keys all = map (λ x. x.number) all

abbrev seen : ℕ → List ℕ → Content → Visit
seen number above content = record { number = number; above = above; content = content }

the_shape_of_two_instances : shape_of pair_of_instances.nodes
    ≡ seen 0 [] Root ∷ seen 1 (0 ∷ []) (Element (plain (codes "a"))) ∷ seen (text_number 1) (1 ∷ 0 ∷ []) (Text [])
    ∷ seen 2 [] Root ∷ seen 3 (2 ∷ []) (Element (plain (codes "b"))) ∷ seen (text_number 3) (3 ∷ 2 ∷ []) (Text []) ∷ []
the_shape_of_two_instances = refl

one_text_comes_after_the_attributes : keys (shape_of rows.nodes)
    ≡ 0 ∷ 1 ∷ 2 ∷ 3 ∷ 4 ∷ text_number 2 ∷ 6 ∷ 7 ∷ text_number 7 ∷ 9 ∷ 10 ∷ text_number 10 ∷ 12 ∷ text_number 12 ∷ []
one_text_comes_after_the_attributes = refl

texts_beside_elements_keep_their_numbers : has_elements (visits rows.nodes) 6 ≡ true
texts_beside_elements_keep_their_numbers = refl

attributes_have_no_shape : string_value 4 (shape_of rows.nodes) ≡ []
attributes_have_no_shape = refl

a_setting_keeps_the_shape : shape_of (with_text 2 (codes "9") rows).nodes ≡ shape_of rows.nodes
a_setting_keeps_the_shape = refl

an_empty_setting_keeps_the_shape : shape_of (with_text 2 [] rows).nodes ≡ shape_of rows.nodes
an_empty_setting_keeps_the_shape = refl

a_setting_of_an_attribute_keeps_the_shape : shape_of (with_text 4 [] rows).nodes ≡ shape_of rows.nodes
a_setting_of_an_attribute_keeps_the_shape = refl

two_texts_have_the_shape_of_one : shape_of (element 0 0 (codes "d") ∷ text 1 1 (codes "x") ∷ text 2 1 (codes "y") ∷ []) ≡ shape_of (element 0 0 (codes "d") ∷ [])
two_texts_have_the_shape_of_one = refl

the_shape_of_a_shape : shape (shape_of rows.nodes) ≡ shape_of rows.nodes
the_shape_of_a_shape = refl

contents_without_numbers : keys (with_contents (λ n. Some (codes "5")) (visits pair_of_instances.nodes)) ≡ 0 ∷ 1 ∷ text_number 1 ∷ 2 ∷ 3 ∷ text_number 3 ∷ []
contents_without_numbers = refl

a_content_is_the_string_value : string_value 3 (with_contents (λ n. Some (codes "5")) (visits pair_of_instances.nodes)) ≡ codes "5"
a_content_is_the_string_value = refl

an_empty_content_has_no_text : keys (with_contents (λ n. Some []) (visits pair_of_instances.nodes)) ≡ 0 ∷ 1 ∷ 2 ∷ 3 ∷ []
an_empty_content_has_no_text = refl

the_next_number_does_not_count : IsSame rows (record rows { next = 99 })
the_next_number_does_not_count = record { by = λ n. n; renumbers = λ a b. refl; texts = λ n. refl; nodes = refl }

-- an element without a text, and a detached attribute behind it
a_text_stands_before_a_detached_attribute : keys (shape_of (node 0 0 Root ∷ element 1 1 (codes "d") ∷ attribute 2 2 (codes "k") [] ∷ attribute 3 0 (codes "no") [] ∷ [])) ≡ 0 ∷ 1 ∷ 2 ∷ text_number 1 ∷ 3 ∷ []
a_text_stands_before_a_detached_attribute = refl
