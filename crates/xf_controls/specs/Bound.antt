-- Forms of which it is known what each control and container binds, whatever texts the data have, and in which nothing is shown but the values of
-- these nodes.
use Rattle.std.specs.Prelude.{ℕ, ◌≡◌, true, List, Option, Some, None}
use Rattle.xf_def_forest.specs.declared.node.NodeId.{NodeId}
use Rattle.xf_def_ui.specs.Interface.{Interface, Sort}
use Rattle.xf_def_ui.specs.Elements.{element_at, is_control}
use Rattle.xf_controls.specs.declared.known.Known.{Known}
use Rattle.xf_controls.specs.Handed.{printed_in}
use Rattle.xf_controls.specs.Known.{known_at, known_if}

-- it binds this node, or it binds none and has no expression to show
pub record IsBoundAt (f : Interface) (known : List Known) (n : ℕ) : Type 0 where
  pub node : Option NodeId
  pub known_so : known_at known n ≡ Some node
  pub unprinted : node ≡ None → printed_in (element_at f n).sort ≡ None

abbrev pub AllBound : Interface → List Known → Type 0
AllBound f known = (n : ℕ) → is_control (element_at f n).sort ≡ true → IsBoundAt f known n

-- so of an element of this sort, by what is known of it
pub record IsShownBy (sort : Sort) (known : Option Known) : Type 0 where
  pub node : Option NodeId
  pub known_so : known_if known ≡ Some node
  pub unprinted : node ≡ None → printed_in sort ≡ None
