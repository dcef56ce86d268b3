-- Values that copies had before, each with the place of its copy.
use Rattle.std.specs.Prelude.{ℕ, zero, suc, Bool, true, false, List, [], ◌∷◌, ◌++◌, codes, Option, Some, None}
use Rattle.xf_def_forest.specs.declared.node.NodeId.{NodeId}
use Rattle.xf_def_ui.specs.Notifications.{Notification, same_value}
use Rattle.xf_controls.specs.declared.copy.ControlCopy.{ControlCopy}
use Rattle.xf_controls.specs.declared.shown.Former.{Former}
use Rattle.xf_controls.specs.Renewed.{with_value}

-- the node that the copy at a place binds
abbrev pub node_at : List ControlCopy → ℕ → Option NodeId
node_at [] place = None
node_at (c ∷ cs) zero = c.node
node_at (c ∷ cs) (suc place) = node_at cs place

-- the value that it has
abbrev pub value_at : List ControlCopy → ℕ → Option (List ℕ)
value_at [] place = None
value_at (c ∷ cs) zero = c.value
value_at (c ∷ cs) (suc place) = value_at cs place

-- what is told of a copy, unless its value is the same
abbrev pub told_if : Bool → ControlCopy → List Notification
told_if true c = []
told_if false c = record { name = codes "xforms-value-changed"; target = c.element; rows = c.rows } ∷ []

-- what is told of the copies that have another value than the one at the same place
abbrev pub others : List ControlCopy → List ControlCopy → List Notification
others [] ns = []
others (o ∷ os) [] = []
others (o ∷ os) (n ∷ ns) = told_if (same_value o.value n.value) n ++ others os ns

-- the copy at a place has another value
abbrev pub with_value_at : ℕ → Option (List ℕ) → List ControlCopy → List ControlCopy
with_value_at place value [] = []
with_value_at zero value (c ∷ cs) = with_value c value ∷ cs
with_value_at (suc place) value (c ∷ cs) = c ∷ with_value_at place value cs

-- put back, the last one first
abbrev pub put_back : List ControlCopy → List Former → List ControlCopy
put_back list [] = list
put_back list (f ∷ fs) = with_value_at f.place f.value (put_back list fs)

-- the list that was kept: it stands aside, or it is the present one with the former values put back
abbrev pub kept_in : List ControlCopy → Option (List ControlCopy) → List Former → List ControlCopy
kept_in list None former = put_back list former
kept_in list (Some kept) former = kept

-- the copies of the last refresh, and those at the end of the last event
pub record Standing : Type 0 where
  pub now : List ControlCopy
  pub kept : List ControlCopy
