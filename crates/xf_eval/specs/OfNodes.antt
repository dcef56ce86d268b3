-- What the functions of nodes make of a set (XPath 1.0, section 4.1; XForms 1.1, section 7.7), as the evaluator tells them apart.
use Rattle.std.specs.Prelude.{ℕ, Bool, true, false, List, [], ◌∷◌, Option, Some, None, option_map, option_and_then}
use Rattle.xf_base.specs.Limits.{string_limit}
use Rattle.xf_name.specs.Bindings.{Bindings}
use Rattle.xf_def_forest.specs.declared.content.Node.{Node}
use Rattle.xf_def_forest.specs.declared.content.Name.{Name}
use Rattle.xf_def_forest.specs.declared.content.Content.{Content}
use Rattle.xf_def_forest.specs.Forest.{content_at, name_in, written_in}
use Rattle.xf_def_values.specs.Bounded.{capped}
use Rattle.xf_def_values.specs.Conversions.{Decimal}
use Rattle.xf_def_xpath.specs.declared.value.Value.{Value}
use Rattle.xf_def_xpath.specs.declared.value.Value.TheVariants.{Text}
use Rattle.xf_def_xpath.specs.Setting.{Setting}
use Rattle.xf_def_xpath.specs.Functions.{average, count_of, extreme, filled_count, greater, lesser, local_part, namespace_of, of_numbers, total}
use Rattle.xf_eval.specs.declared.kinds.Kind.{Kind}
use Rattle.xf_eval.specs.declared.kinds.Kind.TheVariants as kind

-- the greater of two, or the lesser
abbrev pub better : Bool → Decimal → Decimal → Decimal
better true j k = greater j k
better false j k = lesser j k

abbrev pub set_worth : Kind → Setting → List ℕ → Option Value
set_worth kind.CountingFilled s ns = filled_count s ns
set_worth kind.Adding s ns = of_numbers s total ns
set_worth kind.Averaging s ns = of_numbers s (average s.given.decimals) ns
set_worth kind.Greatest s ns = of_numbers s (extreme greater) ns
set_worth kind.Least s ns = of_numbers s (extreme lesser) ns
set_worth other s ns = Some (count_of s ns)

-- ---- a part of the name of the first node (XPath 1.0, section 4.1)

abbrev pub first_content : List Node → List ℕ → Option Content
first_content nodes [] = None
first_content nodes (n ∷ ns) = content_at n nodes

abbrev pub name_part : Kind → Bindings → Option Name → List ℕ
name_part kind.LocalName bindings name = local_part name
name_part kind.Name bindings name = written_in name
name_part other bindings name = namespace_of bindings name

abbrev pub name_worth : Kind → Bindings → List Node → List ℕ → Option Value
name_worth kind bindings nodes ns =
    option_map Text (capped (Some string_limit) (name_part kind bindings (option_and_then name_in (first_content nodes ns))))
