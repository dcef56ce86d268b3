-- Copies over data of which texts changed: the values that they have then.
use Rattle.std.proofs.Common.{◌≡◌, ℕ, true, false, List, [], ◌∷◌, Option, Some, None, refl, codes}
use Rattle.xf_def_forest.specs.declared.content.Node.{Node}
use Rattle.xf_def_forest.specs.declared.content.Content.TheVariants.{Root}
use Rattle.xf_def_forest.specs.declared.node.NodeId.{NodeId}
use Rattle.xf_def_forest.specs.Examples.{node, element, text}
use Rattle.xf_controls.specs.declared.copy.ControlCopy.{ControlCopy}
use Rattle.xf_controls.specs.Renewed.{renewed, renewed_copy, value_over}

-- ["d",["b","1"],["e"]]
abbrev data_now : List Node
data_now = node 0 0 Root ∷ element 1 1 (codes "d") ∷ element 2 2 (codes "b") ∷ text 3 3 (codes "1") ∷ element 4 2 (codes "e") ∷ []

-- the same without the text of b
abbrev data_later : List Node
data_later = node 0 0 Root ∷ element 1 1 (codes "d") ∷ element 2 2 (codes "b") ∷ text 3 3 [] ∷ element 4 2 (codes "e") ∷ []

-- that binds this node and has this value
abbrev copy : Option NodeId → Option (List ℕ) → ControlCopy
copy n value = record { element = 1; rows = []; node = n; value = value; enabled = true; readwrite = true; required = false; valid = true; items = [] }

abbrev on_b : Option NodeId
on_b = Some (record { number = 2; place = 2 })

-- ---- a value

without_a_node : value_over data_now None ≡ Some None
without_a_node = refl

-- an empty value is one
of_an_empty_element : value_over data_now (Some 4) ≡ Some (Some [])
of_an_empty_element = refl

of_the_texts_below : value_over data_now (Some 1) ≡ Some (Some (codes "1"))
of_the_texts_below = refl

-- ---- a copy

the_new_text : renewed_copy data_now (copy on_b (Some (codes "0"))) ≡ Some (copy on_b (Some (codes "1")))
the_new_text = refl

the_text_that_stands : renewed_copy data_now (copy on_b (Some (codes "1"))) ≡ Some (copy on_b (Some (codes "1")))
the_text_that_stands = refl

-- whatever value it had
no_node_no_value : renewed_copy data_now (copy None (Some (codes "0"))) ≡ Some (copy None None)
no_node_no_value = refl

-- ---- a list: each copy by itself, and what is emptied has an empty value

each_its_own : renewed data_later (copy on_b (Some (codes "1")) ∷ copy None None ∷ []) ≡ Some (copy on_b (Some []) ∷ copy None None ∷ [])
each_its_own = refl
