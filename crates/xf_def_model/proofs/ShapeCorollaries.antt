-- What binds apply, and which cycles of calculates stand, is told by the shape of the data alone: setting a text changes neither.
use Rattle.std.proofs.Common.{◌≡◌, ℕ, false, List, ap}
use Rattle.xf_def_forest.specs.Forest.{Forest}
use Rattle.xf_def_forest.specs.Visit.{visits}
use Rattle.xf_def_forest.specs.Shape.{has_elements, shape_of}
use Rattle.xf_def_forest.specs.Texts.{with_text}
use Rattle.xf_def_forest.proofs.BackLaws.{HasText}
use Rattle.xf_def_forest.proofs.ShapeLaws.{shape-with_text}
use Rattle.xf_def_model.specs.Rules.{Scope}
use Rattle.xf_def_model.specs.Applied.{Entry, applied_over, applied}
use Rattle.xf_def_model.specs.Circular.{graph_over}

module _ (n : ℕ) (text : List ℕ) (forest : Forest) (leaf : has_elements (visits forest.nodes) n ≡ false) (own : HasText n forest.nodes) where
  pub applied-with_text : (scope : Scope) → applied scope (with_text n text forest).nodes ≡ applied scope forest.nodes
  applied-with_text scope = ap (applied_over scope) (shape-with_text n text forest leaf own)

  pub graph-with_text : (scope : Scope) (entries : List Entry) → graph_over scope (shape_of (with_text n text forest).nodes) entries ≡ graph_over scope (shape_of forest.nodes) entries
  graph-with_text scope entries = ap (λ all. graph_over scope all entries) (shape-with_text n text forest leaf own)
