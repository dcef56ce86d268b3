-- What an insert and a delete plan (XForms 1.1, sections 10.3 and 10.4), told of the kinds of nodes: elements and attributes go below an element, or one
-- element in place of a document element; what a delete takes has a parent, and is no text.
use Rattle.std.specs.Prelude.{ℕ, ◌≡◌, ◌<◌, List, [], ◌∷◌, length, Some, None}
use Rattle.xf_def_forest.specs.declared.content.Kind.TheVariants.{Element, Root}
use Rattle.xf_def_forest.specs.Forest.{Forest, kind_at}
use Rattle.xf_def_forest.specs.Needs.{MayDetach}
use Rattle.xf_def_forest.specs.Visit.{parent_of, visits}
use Rattle.xf_def_forest.specs.WellFormed.{HasTrees}
use Rattle.xf_law_forests.specs.Root.Roots.{IsNoRoot}
use Rattle.xf_def_model.specs.declared.asked.DeleteAsked.{DeleteAsked}
use Rattle.xf_def_model.specs.declared.asked.InsertAsked.{InsertAsked}
use Rattle.xf_def_model.specs.Pertinent.{AllOf}
use Rattle.xf_def_model.specs.Places.{Place, planned_insert}
use Rattle.xf_def_model.specs.Taken.{planned_delete}

-- a copy of an element or attribute goes below this element, where it may replace another, or the copy for one of so many places
pub record GoesBelow (forest : Forest) (parent count : ℕ) (pl : Place) : Type 0 where
  pub parent_is : pl.parent ≡ parent
  pub origin : IsNoRoot pl.origin forest
  pub gone : (m : ℕ) → pl.replaces ≡ Some m → IsNoRoot m forest
  pub again : (k : ℕ) → pl.again ≡ Some k → k < count

-- a copy of an element goes in place of a document element
pub record GoesInstead (forest : Forest) (pl : Place) : Type 0 where
  pub old : ℕ
  pub replaces : pl.replaces ≡ Some old
  pub again : pl.again ≡ None
  pub origin : kind_at pl.origin forest.nodes ≡ Some Element
  pub is_element : kind_at old forest.nodes ≡ Some Element
  pub root : kind_at pl.parent forest.nodes ≡ Some Root
  pub below : parent_of old (visits forest.nodes) ≡ Some pl.parent

pub data GoTo (forest : Forest) : List Place → Type 0 where
  below : (parent : ℕ) (ps : List Place) → kind_at parent forest.nodes ≡ Some Element → AllOf (GoesBelow forest parent (length ps)) ps → GoTo forest ps
  in_place : (pl : Place) → GoesInstead forest pl → GoTo forest (pl ∷ [])
  nowhere : GoTo forest []

abbrev pub InsertsGo : Type 0
InsertsGo = (forest : Forest) (asked : InsertAsked) → HasTrees forest → GoTo forest (planned_insert forest.nodes asked)

-- of a set of elements and attributes
abbrev pub DeletesGo : Type 0
DeletesGo = (forest : Forest) (asked : DeleteAsked) → HasTrees forest → AllOf (λ n. IsNoRoot n forest) asked.set → AllOf (λ n. MayDetach n forest) (planned_delete forest.nodes asked)

pub record PlanLaws : Type 0 where
  pub inserts : InsertsGo
  pub deletes : DeletesGo
