-- Trees that are detached change nothing of what a form shows: what controls, rows and indexes are over all data they are over the instances alone.
-- Asked of the form: its elements and binds are those of the tables of a form, as those of each that is loaded.
use Rattle.std.specs.Prelude.{◌≡◌, true, List, Ok}
use Rattle.xf_def_forest.specs.Changes.{in_instances}
use Rattle.xf_def_forest.specs.WellFormed.{HasTrees}
use Rattle.xf_law_forests.specs.Root.Roots.{AreAhead}
use Rattle.xf_def_ui.specs.Copies.{Copy}
use Rattle.xf_def_machine.specs.Profile.{Profile}
use Rattle.xf_def_machine.specs.State.{State}
use Rattle.xf_def_machine.specs.AtRest.{are_placed}
use Rattle.xf_def_machine.specs.Update.{shown}
use Rattle.xf_law_sessions.specs.Same.Controls.{HasForm}
use Rattle.xf_law_sessions.specs.Outcome.Indexes.{IsNumbered}

-- without its detached trees
abbrev pub dropped : State → State
dropped s = record s { forest = record s.forest { nodes = in_instances s.forest.nodes } }

abbrev pub ShownOfInstances : Type 0
ShownOfInstances = (p : Profile) (s : State) (list : List Copy) → HasForm s.form → HasTrees s.forest → AreAhead s.forest.nodes → shown p s ≡ Ok list → shown p (dropped s) ≡ Ok list

abbrev pub PlacedOfInstances : Type 0
PlacedOfInstances = (p : Profile) (s : State) → IsNumbered s.form → HasTrees s.forest → AreAhead s.forest.nodes → are_placed p s ≡ true → are_placed p (dropped s) ≡ true
