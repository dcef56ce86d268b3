-- All calculates were written in their turns.
use Rattle.std.specs.Prelude.{◌≡◌, List, Some}
use Rattle.xf_def_forest.specs.Forest.{Forest}
use Rattle.xf_def_forest.specs.Visit.{visits}
use Rattle.xf_def_model.specs.Rules.{Scope}
use Rattle.xf_def_model.specs.Applied.{Entry}
use Rattle.xf_def_model.specs.Entries.{text_of}
use Rattle.xf_def_model.specs.Settled.{bounds, calculates, settled}
use Rattle.xf_def_model.specs.Pertinent.{AllOf}
use Rattle.xf_law_recalculation.specs.Agree.InTurn.{IsFitting}
use Rattle.xf_recalc.specs.Settles.{settled_forest}

-- the settled texts stand, and each passes neither the limit of a string nor that of a text
pub record IsWritten (scope : Scope) (entries : List Entry) (forest after : Forest) : Type 0 where
  pub written : after ≡ settled_forest scope entries forest
  pub fitting : AllOf (λ e. IsFitting bounds.limits.text (text_of (Some bounds.string) scope (settled bounds scope entries (visits forest.nodes)) e)) (calculates entries)
