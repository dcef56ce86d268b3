-- What a submission sends, on small data.
use Rattle.std.proofs.Common.{◌≡◌, ℕ, Bool, true, false, not, ◌||◌, ◌==◌, [], ◌∷◌, Option, Some, None, refl, codes}
use Rattle.xf_base.specs.Limits.{string_limit}
use Rattle.xf_def_syntax.specs.declared.expr.Test.TheVariants as test
use Rattle.xf_def_syntax.specs.declared.form.Selection.TheVariants.{Whole, Bind}
use Rattle.xf_def_syntax.specs.declared.form.Method.TheVariants.{Put}
use Rattle.xf_def_syntax.specs.declared.form.Replace.TheVariants.{Nothing}
use Rattle.xf_def_syntax.specs.declared.form.Submission.{Submission}
use Rattle.xf_name.specs.declared.axis.Axis.TheVariants as axis
use Rattle.xf_def_forest.specs.Visit.{visits}
use Rattle.xf_def_xpath.specs.Asked.{Trace}
use Rattle.xf_def_xpath.specs.Examples.{child, step, path, from_root, number, call}
use Rattle.xf_def_model.specs.Nested.{nested}
use Rattle.xf_def_model.specs.Rules.{Rule}
use Rattle.xf_def_model.specs.Submitted.{Submitted, left, no_data, invalid, by_expression, selected_by, submitted_from, submitted}
use Rattle.xf_def_model.specs.Examples

abbrev asking : Bool → Bool → Submission
asking is_relevant is_validated = record {
  model = 0;
  id = [];
  selection = Whole;
  is_relevant = is_relevant;
  is_validated = is_validated;
  resource = codes "o.json";
  method = Put;
  replace = Nothing;
  instance = None;
  target = None;
  is_serialized = true;
}

-- g and x in it with its text are irrelevant
abbrev relevance : ℕ → Bool
relevance n = not ((n == 2) || ((n == 3) || (n == 4)))

abbrev all_relevant : ℕ → Bool
all_relevant n = true

abbrev sent : Submission → (ℕ → Bool) → (ℕ → Bool) → Option ℕ → Submitted
sent s is_relevant is_valid selected = submitted_from s is_relevant is_valid (visits Examples.groups) selected

-- ---- what is left out

without_what_is_irrelevant : sent (asking true true) relevance all_relevant (Some 1) ≡ left 1 (1 ∷ 5 ∷ 6 ∷ 7 ∷ [])
without_what_is_irrelevant = refl

the_whole_tree : sent (asking true true) all_relevant all_relevant (Some 1) ≡ left 1 (1 ∷ 2 ∷ 3 ∷ 4 ∷ 5 ∷ 6 ∷ 7 ∷ [])
the_whole_tree = refl

a_part_of_it : sent (asking true true) relevance all_relevant (Some 5) ≡ left 5 (5 ∷ 6 ∷ 7 ∷ [])
a_part_of_it = refl

all_if_it_is_not_asked : sent (asking false true) relevance all_relevant (Some 1) ≡ left 1 (1 ∷ 2 ∷ 3 ∷ 4 ∷ 5 ∷ 6 ∷ 7 ∷ [])
all_if_it_is_not_asked = refl

-- ---- no data

irrelevant_itself : sent (asking true true) relevance all_relevant (Some 2) ≡ no_data
irrelevant_itself = refl

sent_all_the_same : sent (asking false true) relevance all_relevant (Some 2) ≡ left 2 (2 ∷ 3 ∷ 4 ∷ [])
sent_all_the_same = refl

nothing_selected : sent (asking true true) all_relevant all_relevant None ≡ no_data
nothing_selected = refl

an_attribute : sent (asking true true) all_relevant all_relevant (Some 6) ≡ no_data
an_attribute = refl

-- ---- invalid nodes

-- x and h's attribute are invalid
abbrev validity : ℕ → Bool
validity n = not ((n == 3) || (n == 6))

the_first_of_them : sent (asking true true) all_relevant validity (Some 1) ≡ invalid 3
the_first_of_them = refl

of_those_that_are_left : sent (asking true true) relevance validity (Some 1) ≡ invalid 6
of_those_that_are_left = refl

below_what_is_sent_alone : sent (asking true true) all_relevant validity (Some 2) ≡ invalid 3
below_what_is_sent_alone = refl

not_validated : sent (asking true false) all_relevant validity (Some 1) ≡ left 1 (1 ∷ 2 ∷ 3 ∷ 4 ∷ 5 ∷ 6 ∷ 7 ∷ [])
not_validated = refl

irrelevant_before_invalid : sent (asking true true) relevance validity (Some 2) ≡ no_data
irrelevant_before_invalid = refl

-- ---- what is selected

the_document_element : selected_by (Some string_limit) (Examples.scope []) (visits Examples.groups) Whole ≡ Some (Some 1)
the_document_element = refl

abbrev by : Trace → Option (Option ℕ)
by t = by_expression (Some string_limit) (Examples.scope []) (visits Examples.groups) t

the_first_node : by (path (step axis.Child test.AnyName [] ∷ [])) ≡ Some (Some 2)
the_first_node = refl

no_node : by (Examples.to (codes "zz")) ≡ Some None
no_node = refl

a_plain_value : by (number 1) ≡ Some None
a_plain_value = refl

a_root : by (from_root []) ≡ Some (Some 1)
a_root = refl

a_text : by (path (child (codes "h") ∷ step axis.Child test.Text [] ∷ [])) ≡ Some (Some 5)
a_text = refl

-- concat(g, g) is too long with strings of 1 byte
too_long : by_expression (Some 1) (Examples.scope []) (visits Examples.groups) (call 6 (Examples.to (codes "g") ∷ Examples.to (codes "g") ∷ [])) ≡ None
too_long = refl

of_a_bind : selected_by (Some string_limit) (Examples.scope (Examples.bind (Examples.to (codes "h")) ∷ [])) (visits Examples.groups) (Bind 0) ≡ Some (Some 5)
of_a_bind = refl

-- over ["d",["b","1"],"t"] the first of node() is b, and the document element stands behind it only for the text
the_first_before_what_a_text_stands_for : by_expression (Some string_limit) (Examples.scope []) (visits Examples.mixed) (path (step axis.Child test.Node [] ∷ [])) ≡ Some (Some 2)
the_first_before_what_a_text_stands_for = refl

-- ---- models

-- a bind of the second model that selects `a`
abbrev of_the_second : Rule
of_the_second = record (Examples.bind (Examples.to (codes "a"))) { model = 1 }

its_own_model_counts : nested (Some string_limit) (Examples.both_models (of_the_second ∷ [])) (visits Examples.apart) 0 ≡ Some (5 ∷ [])
its_own_model_counts = refl

-- a submission of the first model sends what a bind of the second selects
by_a_bind_of_another_model : submitted (Some string_limit) (Examples.both_models (of_the_second ∷ [])) all_relevant all_relevant Examples.apart (record (asking true true) { selection = Bind 0 }) ≡ Some (left 5 (5 ∷ 6 ∷ []))
by_a_bind_of_another_model = refl

-- a submission of the second model sends the document of that, whatever the scope's model
of_its_own_model : submitted (Some string_limit) (Examples.both_models []) all_relevant all_relevant Examples.apart (record (asking true true) { model = 1 }) ≡ Some (left 4 (4 ∷ 5 ∷ 6 ∷ []))
of_its_own_model = refl
