-- What is known of the nodes that elements bind: where something is, it is what the definition gives.
use Rattle.std.specs.Prelude.{ℕ, ◌≡◌, ◌+◌, ◌≤◌, Bool, true, false, List, [], ◌∷◌, length, slice_get, slice_set, ◌⊎◌, Option, Some, None, option_map}
use Rattle.xf_def_forest.specs.declared.content.Node.{Node}
use Rattle.xf_def_forest.specs.declared.node.NodeId.{NodeId}
use Rattle.xf_def_ui.specs.Interface.{Interface}
use Rattle.xf_def_ui.specs.Elements.{ancestors}
use Rattle.xf_def_ui.specs.Around.{Around}
use Rattle.xf_def_ui.specs.Context.{inside}
use Rattle.xf_def_ui.specs.Copies.{node_of}
use Rattle.xf_law_bindings.specs.Fixed.{AllFixed}
use Rattle.xf_controls.specs.declared.copy.ControlCopy.{ControlCopy}
use Rattle.xf_controls.specs.declared.known.Known.{Known}
use Rattle.xf_controls.specs.declared.known.Known.TheVariants.{Unknown, Is}
use Rattle.xf_controls.specs.Handed.{Handed, inside_of}
use Rattle.xf_controls.specs.Seen.{IsThere, number}

abbrev pub known_if : Option Known → Option (Option NodeId)
known_if None = None
known_if (Some Unknown) = None
known_if (Some (Is node)) = Some node

-- of the element of a number
abbrev pub known_at : List Known → ℕ → Option (Option NodeId)
known_at known n = known_if (slice_get known n)

-- of controls and containers alone
abbrev pub known_for : List Known → ℕ → Bool → Option (Option NodeId)
known_for known n true = known_at known n
known_for known n false = None

-- ---- what is known is so

-- each known node is the one that the element binds, and stands in the data
pub record AreKnown (f : Interface) (a : Around) (nodes : List Node) (known : List Known) : Type 0 where
  pub node : (n : ℕ) (k : Option NodeId) → known_at known n ≡ Some k → node_of f a [] n ≡ Some (option_map number k)
  pub live : (n : ℕ) (k : Option NodeId) → known_at known n ≡ Some k → IsThere k nodes

-- each known node is the one that the element binds, told by where nodes stand
pub record AreHeld (f : Interface) (a : Around) (known : List Known) : Type 0 where
  pub node : (n : ℕ) (k : Option NodeId) → known_at known n ≡ Some k → node_of f a [] n ≡ Some (option_map number k)
  pub fixed : (n : ℕ) (k : Option NodeId) → known_at known n ≡ Some k → AllFixed f (n ∷ ancestors f n)

-- the node that is known, if one is, is this one
abbrev pub KnowsNode : List Node → Option (Option NodeId) → Option (Option ℕ) → Type 0
KnowsNode nodes None selected = Unit {0}
KnowsNode nodes (Some k) selected = (selected ≡ Some (option_map number k)) × IsThere k nodes

-- ---- where a walk stands

-- this is handed to an element, below which at most so many are nested
pub record IsReached (f : Interface) (a : Around) (h : Handed) (most n : ℕ) : Type 0 where
  pub given : inside f a [] n ≡ Some (inside_of h)
  pub deep : length (ancestors f n) + most ≤ length f.elements

-- ---- what is noted of copies

-- a copy in no row is of this element, which binds this node
pub record IsCopied (f : Interface) (copies : List ControlCopy) (n : ℕ) (k : Option NodeId) : Type 0 where
  pub place : ℕ
  pub copy : ControlCopy
  pub found : slice_get copies place ≡ Some copy
  pub element : copy.element ≡ n
  pub rows : copy.rows ≡ []
  pub node : copy.node ≡ k
  pub fixed : AllFixed f (n ∷ ancestors f n)

abbrev pub AreNoted : Interface → List ControlCopy → List Known → Type 0
AreNoted f copies known = (n : ℕ) (k : Option NodeId) → known_at known n ≡ Some k → IsCopied f copies n k

-- of this copy, or nothing
abbrev pub IsNoted : Interface → ControlCopy → List Known → List Known → Type 0
IsNoted f copy before after = (after ≡ before) ⊎ ((copy.rows ≡ []) × AllFixed f (copy.element ∷ ancestors f copy.element) × (after ≡ slice_set before copy.element (Is copy.node)))
