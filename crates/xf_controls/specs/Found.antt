-- What an element binds, with what the properties of nodes say of that.
use Rattle.std.specs.Prelude.{ℕ, ◌≡◌, option_map}
use Rattle.xf_def_ui.specs.Interface.{Element}
use Rattle.xf_def_ui.specs.declared.marks.Marks.{Marks}
use Rattle.xf_def_ui.specs.Copies.{is_open_by, marks_if}
use Rattle.xf_controls.specs.declared.over.Found.{Found}
use Rattle.xf_controls.specs.Seen.{number}

pub record IsFound (marks : ℕ → Marks) (e : Element) (found : Found) : Type 0 where
  pub properties : found.marks ≡ marks_if marks (option_map number found.node)
  pub is_open : found.is_open ≡ is_open_by marks e.binding (option_map number found.node)
