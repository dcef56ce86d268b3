-- Tests of a parent and of a kind.
use Rattle.std.specs.Prelude.{ℕ, Bool, true, false, Option, Some, None, ◌==◌}
use Rattle.xf_def_forest.specs.declared.content.Kind.{Kind}
use Rattle.xf_def_forest.specs.declared.content.Kind.TheVariants.{Root, Element, Attribute, Text}

-- this is the number
abbrev pub is_number : Option ℕ → ℕ → Bool
is_number None n = false
is_number (Some p) n = p == n

abbrev pub is_attribute_kind : Kind → Bool
is_attribute_kind Root = false
is_attribute_kind Element = false
is_attribute_kind Attribute = true
is_attribute_kind Text = false
