-- Settled texts, on small data.
use Rattle.std.proofs.Common.{◌≡◌, ℕ, List, [], ◌∷◌, refl, codes}
use Rattle.std.specs.Fmt.{digits}
use Rattle.xf_num.specs.Number.{scale}
use Rattle.xf_def_syntax.specs.declared.expr.Operator.TheVariants as operator
use Rattle.xf_def_forest.specs.declared.content.Node.{Node}
use Rattle.xf_def_forest.specs.Visit.{visits}
use Rattle.xf_def_forest.specs.declared.content.Content.TheVariants.{Root, Element, Text}
use Rattle.xf_def_forest.specs.Examples.{node, element, text as text_node, plain}
use Rattle.xf_def_forest.specs.Shape.{shape_of, text_number}
use Rattle.xf_def_forest.specs.StringValue.{string_value}
use Rattle.xf_def_xpath.specs.Asked.{Trace}
use Rattle.xf_def_xpath.specs.Examples.{child, path, number, literal, call, two}
use Rattle.xf_def_model.specs.Rules.{Rule}
use Rattle.xf_def_model.specs.Applied.{all_entries}
use Rattle.xf_def_model.specs.Settled.{Bounds, bounds, Contents, Passed, long, text, nodes, all_texts, rounds, settled_contents, settled, passed}
use Rattle.xf_def_model.specs.Examples

abbrev contents_on : List Node → List Rule → Contents
contents_on ns rules = settled_contents bounds (Examples.scope rules) (all_entries (Examples.scope rules) (shape_of ns)) (visits ns)

abbrev rounds_on : ℕ → List Node → List Rule → Contents
rounds_on k ns rules = rounds bounds (Examples.scope rules) (all_entries (Examples.scope rules) (shape_of ns)) (visits ns) k []

abbrev by : List ℕ → Trace → Rule
by name t = Examples.calculate t (Examples.bind (Examples.to name))

abbrev a : List ℕ
a = codes "a"

abbrev b : List ℕ
b = codes "b"

abbrev c : List ℕ
c = codes "c"

abbrev e : List ℕ
e = codes "e"

-- ../c * 2, ../b + 1, ../a + 1
abbrev doubled : Trace
doubled = two (Examples.beside c) operator.Multiply (number 2)

abbrev after_b : Trace
after_b = two (Examples.beside b) operator.Add (number 1)

abbrev after_a : Trace
after_a = two (Examples.beside a) operator.Add (number 1)

-- ---- a chain of three, whatever the order of the binds

last_first : contents_on Examples.four (by e doubled ∷ by c after_b ∷ by b after_a ∷ []) ≡ (6, codes "6") ∷ (5, codes "3") ∷ (4, codes "2") ∷ []
unfolding scale digits
last_first = refl

first_first : contents_on Examples.four (by b after_a ∷ by c after_b ∷ by e doubled ∷ []) ≡ (4, codes "2") ∷ (5, codes "3") ∷ (6, codes "6") ∷ []
unfolding scale digits
first_first = refl

middle_first : contents_on Examples.four (by c after_b ∷ by e doubled ∷ by b after_a ∷ []) ≡ (5, codes "3") ∷ (6, codes "6") ∷ (4, codes "2") ∷ []
unfolding scale digits
middle_first = refl

-- a round is at once: a single one, or two, do not settle them
after_one_round : rounds_on 1 Examples.four (by b after_a ∷ by c after_b ∷ by e doubled ∷ []) ≡ (4, codes "2") ∷ (5, codes "NaN") ∷ (6, codes "NaN") ∷ []
unfolding scale digits
after_one_round = refl

after_two_rounds : rounds_on 2 Examples.four (by b after_a ∷ by c after_b ∷ by e doubled ∷ []) ≡ (4, codes "2") ∷ (5, codes "3") ∷ (6, codes "NaN") ∷ []
unfolding scale digits
after_two_rounds = refl

-- a round more changes nothing
after_four_rounds : rounds_on 4 Examples.four (by b after_a ∷ by c after_b ∷ by e doubled ∷ []) ≡ (4, codes "2") ∷ (5, codes "3") ∷ (6, codes "6") ∷ []
unfolding scale digits
after_four_rounds = refl

-- ---- contents

abbrev value_on : ℕ → List Node → List Rule → List ℕ
value_on n ns rules = string_value n (settled bounds (Examples.scope rules) (all_entries (Examples.scope rules) (shape_of ns)) (visits ns))

-- the texts that stand go
a_text_is_replaced : value_on 2 Examples.four (by a (literal (codes "x")) ∷ []) ≡ codes "x"
a_text_is_replaced = refl

the_string_value_around_it : value_on 1 Examples.four (by b (literal (codes "x")) ∷ []) ≡ codes "1x"
the_string_value_around_it = refl

an_empty_text_leaves_none : value_on 1 Examples.four (by a (literal []) ∷ []) ≡ []
an_empty_text_leaves_none = refl

-- row/@no by count(../preceding-sibling::row) + 1
attributes_are_set :
    contents_on Examples.numbered (Examples.calculate Examples.rows_before (Examples.bind (path (child (codes "row") ∷ Examples.at (codes "no") ∷ []))) ∷ [])
    ≡ (3, codes "1") ∷ (5, codes "2") ∷ []
unfolding scale digits
attributes_are_set = refl

-- a relevant entry sets nothing
only_calculates_set : contents_on Examples.four (Examples.relevant Examples.yes (Examples.bind (Examples.to a)) ∷ []) ≡ []
only_calculates_set = refl

-- ---- refusals

abbrev within : ℕ → ℕ → ℕ → ℕ → Bounds
within most_string most_text most_nodes most_all =
    record { string = most_string; limits = record { nodes = most_nodes; text = most_text; all = most_all; depth = 100 } }

abbrev passed_on : Bounds → List Rule → List Passed
passed_on b rules = passed b (Examples.scope rules) (all_entries (Examples.scope rules) (shape_of Examples.four)) (visits Examples.four)

-- concat(../a, ../a)
abbrev double_a : Trace
double_a = call 6 (Examples.beside a ∷ Examples.beside a ∷ [])

none_is_passed : passed_on (within 2 2 7 10) (by b double_a ∷ []) ≡ []
none_is_passed = refl

a_string_is : passed_on (within 1 2 7 10) (by b double_a ∷ []) ≡ long 4 ∷ []
a_string_is = refl

a_text_is : passed_on (within 2 1 7 10) (by b double_a ∷ []) ≡ text ∷ []
a_text_is = refl

-- d, a and its text, b and its text, c, e
the_nodes_are : passed_on (within 2 2 6 10) (by b double_a ∷ []) ≡ nodes ∷ []
the_nodes_are = refl

-- five names and three characters
all_texts_are : passed_on (within 2 2 7 7) (by b double_a ∷ []) ≡ all_texts ∷ []
all_texts_are = refl

-- a long string of a constraint too
of_any_property : passed_on (within 1 2 7 10) (Examples.constraint double_a (Examples.bind (Examples.to c)) ∷ []) ≡ long 5 ∷ []
of_any_property = refl

-- a text that is too long counts as empty for others
counts_as_empty :
    settled_contents (within 2 1 7 10) (Examples.scope (by b double_a ∷ by c (Examples.beside b) ∷ []))
    (all_entries (Examples.scope (by b double_a ∷ by c (Examples.beside b) ∷ [])) (shape_of Examples.four)) (visits Examples.four)
    ≡ (4, []) ∷ (5, []) ∷ []
counts_as_empty = refl

-- limits are asked of the settled data alone: the text that a calculate takes away does not count
old_texts_do_not_count : passed_on (within 2 2 5 5) (by a (literal []) ∷ []) ≡ []
old_texts_do_not_count = refl

-- ["d",["a","1"]] where a has a second text: one takes the place of both
abbrev two_texts : List Node
two_texts = node 0 0 Root ∷ element 1 1 (codes "d") ∷ element 2 2 (codes "a") ∷ text_node 3 3 (codes "1") ∷ text_node 4 3 (codes "2") ∷ []

one_for_both : settled bounds (Examples.scope (by a (literal (codes "x")) ∷ [])) (all_entries (Examples.scope (by a (literal (codes "x")) ∷ [])) (shape_of two_texts)) (visits two_texts)
    ≡ record { number = 0; above = []; content = Root } ∷ record { number = 1; above = 0 ∷ []; content = Element (plain (codes "d")) }
    ∷ record { number = 2; above = 1 ∷ 0 ∷ []; content = Element (plain (codes "a")) } ∷ record { number = text_number 2; above = 2 ∷ 1 ∷ 0 ∷ []; content = Text (codes "x") } ∷ []
one_for_both = refl
