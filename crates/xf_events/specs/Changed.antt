-- What an insert and a delete tell, over the visits of the data (XForms 1.1, sections 4.4.5 and 4.4.6).
use Rattle.std.specs.Prelude.{ℕ, Bool, List, [], ◌∷◌, codes}
use Rattle.xf_def_forest.specs.Order.{in_order}
use Rattle.xf_def_forest.specs.Visit.{Visit}
use Rattle.xf_def_xpath.specs.declared.value.Value.TheVariants.{Nodes, Number, Text}
use Rattle.xf_def_values.specs.Conversions.{Decimal}
use Rattle.xf_def_machine.specs.Insert.{side_text}
use Rattle.xf_def_machine.specs.Surround.{Told}

abbrev pub inserted_told : List Visit → Bool → List ℕ → List ℕ → List ℕ → Told
inserted_told all is_before tops origins location =
    (codes "inserted-nodes", Nodes (in_order all tops)) ∷ (codes "origin-nodes", Nodes (in_order all origins))
    ∷ (codes "insert-location-node", Nodes location) ∷ (codes "position", Text (side_text is_before)) ∷ []

abbrev pub deleted_told : List Visit → List ℕ → Decimal → Told
deleted_told all ns location = (codes "deleted-nodes", Nodes (in_order all ns)) ∷ (codes "delete-location", Number location) ∷ []
