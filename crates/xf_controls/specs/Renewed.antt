-- Copies over data of which texts alone have changed since they were made (XForms 1.1, section 4.3.4): they bind the same nodes, in the same states,
-- and have the values that these nodes have now.
use Rattle.std.specs.Prelude.{ℕ, List, Option, Some, None, option_map}
use Rattle.xf_def_forest.specs.declared.content.Node.{Node}
use Rattle.xf_def_xpath.specs.Setting.{each}
use Rattle.xf_def_model.specs.Pertinent.{AllOf}
use Rattle.xf_controls.specs.declared.copy.ControlCopy.{ControlCopy}
use Rattle.xf_controls.specs.Seen.{IsThere, number}
use Rattle.xf_controls.specs.Surrounded.{string_in}

-- the value of what binds this node: without a node it has none, and a string may be too long
abbrev pub value_over : List Node → Option ℕ → Option (Option (List ℕ))
value_over nodes None = Some None
value_over nodes (Some n) = option_map Some (string_in nodes n)

abbrev pub with_value : ControlCopy → Option (List ℕ) → ControlCopy
with_value c value = record c { value = value }

abbrev pub renewed_copy : List Node → ControlCopy → Option ControlCopy
renewed_copy nodes c = option_map (with_value c) (value_over nodes (option_map number c.node))

-- of a whole list: none where a string is too long
abbrev pub renewed : List Node → List ControlCopy → Option (List ControlCopy)
renewed nodes list = each (renewed_copy nodes) list

-- the nodes that they bind stand in the data
abbrev pub AreThere : List ControlCopy → List Node → Type 0
AreThere list nodes = AllOf (λ c. IsThere c.node nodes) list
