-- Whether a delete takes a node (XForms 1.1, section 10.4).
use Rattle.std.specs.Prelude.{ℕ, Bool, ◌&&◌, List}
use Rattle.xf_def_forest.specs.Visit.{Visit, parent_of}
use Rattle.xf_def_model.specs.Taken.{is_apart, is_open}

-- it is no document element, its parent is not readonly, and it stands in none that is taken
abbrev pub may_take : List Visit → List ℕ → List ℕ → ℕ → Bool
may_take all closed taken n = is_open all closed (parent_of n all) && is_apart all taken n
