-- What is made of each node of a set by its string value.
use Rattle.std.proofs.Common.{ℕ, List, Option, option_map}
use Rattle.xf_def_forest.specs.declared.content.Node.{Node}
use Rattle.xf_def_values.specs.declared.plain.Plain.{Plain}
use Rattle.xf_def_values.specs.declared.plain.Plain.TheVariants.{Text}
use Rattle.xf_def_xpath.specs.Conversions.{string_of_node}
use Rattle.xf_eval.specs.Worth.{bare_setting}

abbrev pub text_made : List Node → ℕ → Option (List ℕ)
text_made nodes n = string_of_node (bare_setting nodes) n

abbrev pub plain_made : List Node → ℕ → Option Plain
plain_made nodes n = option_map Text (text_made nodes n)
