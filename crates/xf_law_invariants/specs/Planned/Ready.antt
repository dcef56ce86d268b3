-- What a node must be so that it may be cut off, come below another, or replace a document element.
use Rattle.std.specs.Prelude.{◌≡◌, ℕ, true, Some}
use Rattle.xf_def_forest.specs.declared.content.Kind.TheVariants as sort
use Rattle.xf_def_forest.specs.Forest.{Forest, kind_at}
use Rattle.xf_def_forest.specs.Needs.{MayPlace, is_top}
use Rattle.xf_def_forest.specs.Visit.{parent_of, visits}
use Rattle.xf_law_forests.specs.Root.Roots.{IsNoRoot}
use Rattle.xf_law_invariants.specs.Planned.Outside.{IsOutside}
use Rattle.xf_law_invariants.specs.Planned.Roots.{IsNoDocument}

-- a node that may be cut off: no root, no text, and no document element
pub record MayCut (n : ℕ) (forest : Forest) : Type 0 where
  pub kind : IsNoRoot n forest
  pub inner : IsNoDocument n forest.nodes

-- a detached tree that may come below this element
pub record MayJoin (n parent : ℕ) (forest : Forest) : Type 0 where
  pub may : MayPlace n parent forest
  pub kind : IsNoRoot n forest
  pub above : kind_at parent forest.nodes ≡ Some sort.Element

-- a document element may be replaced by a detached element
pub record MayReplace (old top root : ℕ) (forest : Forest) : Type 0 where
  pub old_kind : kind_at old forest.nodes ≡ Some sort.Element
  pub below : parent_of old (visits forest.nodes) ≡ Some root
  pub above : kind_at root forest.nodes ≡ Some sort.Root
  pub detached_top : is_top top forest.nodes ≡ true
  pub kind : kind_at top forest.nodes ≡ Some sort.Element
  pub outside : IsOutside root top forest.nodes
