-- States that are the same but for the numbers of nodes: one renumbering runs through the whole state. The next numbers do not count.
use Rattle.std.specs.Prelude.{ℕ, ◌≡◌, map, option_map}
use Rattle.xf_def_forest.specs.Same.{IsRenumbering, KeepsTexts, renumbered}
use Rattle.xf_def_model.specs.Same.{renumbered_entry, renumbered_valued}
use Rattle.xf_def_ui.specs.Index.{Index}
use Rattle.xf_def_ui.specs.Copies.{Copy}
use Rattle.xf_def_machine.specs.State.{Model, State}

-- what a model keeps, with other numbers
abbrev pub renumbered_model : (ℕ → ℕ) → Model → Model
renumbered_model f m = record m {
  entries = map (renumbered_entry f) m.entries;
  stood = map (renumbered_valued f) m.stood;
  invalid = map f m.invalid;
  texts = map f m.texts;
  lists = map f m.lists;
}

-- an index
abbrev pub renumbered_index : (ℕ → ℕ) → Index → Index
renumbered_index f i = record i { node = option_map f i.node }

-- a copy of a control
abbrev pub renumbered_copy : (ℕ → ℕ) → Copy → Copy
renumbered_copy f c = record c { rows = map f c.rows; node = option_map f c.node }

-- the second state is the first with other numbers
pub record IsSame (first second : State) : Type 0 where
  pub by : ℕ → ℕ
  pub renumbers : IsRenumbering by
  -- so that shapes go with it too
  pub keeps_texts : KeepsTexts by
  pub form : first.form ≡ second.form
  pub nodes : map (renumbered by) first.forest.nodes ≡ second.forest.nodes
  pub indexes : map (renumbered_index by) first.indexes ≡ second.indexes
  pub cases : first.cases ≡ second.cases
  pub models : map (renumbered_model by) first.models ≡ second.models
  pub controls : map (renumbered_copy by) first.controls ≡ second.controls
  pub accepted : first.accepted ≡ second.accepted
  pub notes : first.notes ≡ second.notes
  pub turns : first.turns ≡ second.turns
  pub made : first.made ≡ second.made
  pub evaluated : first.evaluated ≡ second.evaluated
  pub calls : first.calls ≡ second.calls
