-- What an insert and a delete plan, told of the kinds of nodes.
use Rattle.std.proofs.Common.{◌≡◌, ℕ, Bool, true, false, ◌&&◌, List, [], ◌∷◌, length, is_some, Option, Some, None, refl, ap}
use Rattle.std.specs.Prelude.{if◌then◌else◌}
use Rattle.xf_def_forest.specs.Forest.{Forest}
use Rattle.xf_def_forest.specs.Needs.{MayDetach}
use Rattle.xf_def_forest.specs.Visit.{parent_of, visits}
use Rattle.xf_def_forest.specs.WellFormed.{HasTrees}
use Rattle.xf_law_forests.specs.Root.Roots.{IsNoRoot}
use Rattle.xf_def_model.specs.Pertinent.{AllOf}
use Rattle.xf_def_model.specs.Places.{Place, planned_insert}
use Rattle.xf_def_model.specs.Taken.{asked_of, is_apart, is_open, taken_from}
use Rattle.xf_law_invariants.specs.Planned.Planned.{GoTo, below, in_place, nowhere, GoesBelow, InsertsGo, DeletesGo, PlanLaws}
use Rattle.xf_law_invariants.proofs.PlannedLemmas.Planned.{ArePlanned, IsRow, instead-root, planned}
use Rattle.xf_law_invariants.proofs.PlannedLemmas.Planned as plan
use Rattle.xf_law_invariants.proofs.PlannedLemmas.Parents.{all-asked}

all-below : (forest : Forest) (trees : HasTrees forest) (parent count : ℕ) (ps : List Place) → AllOf (IsRow forest trees parent count) ps → AllOf (GoesBelow forest parent count) ps
all-below forest trees parent count [] r = tt
all-below forest trees parent count (pl ∷ ps) r =
    (record { parent_is = r.0.parent_is; origin = r.0.origin; gone = λ m e. (r.0.gone m e).kind; again = r.0.again }, all-below forest trees parent count ps r.1)

go-to : (forest : Forest) (trees : HasTrees forest) (ps : List Place) → ArePlanned forest trees ps → GoTo forest ps
go-to forest trees ps (plan.rows parent list e r) = below parent list e (all-below forest trees parent (length list) list r)
go-to forest trees ps (plan.instead_of pl i) = in_place pl (record {
  old = i.old;
  replaces = i.replaces;
  again = i.again;
  origin = i.origin;
  is_element = i.is_element;
  root = instead-root forest trees pl i;
  below = i.below;
})
go-to forest trees ps plan.nowhere = nowhere

inserts-go : InsertsGo
inserts-go forest asked trees = go-to forest trees (planned_insert forest.nodes asked) (planned forest trees asked)

module _ (forest : Forest) where
  open-detach : (closed : List ℕ) (n : ℕ) (o : Option ℕ) → parent_of n (visits forest.nodes) ≡ o → IsNoRoot n forest → is_open (visits forest.nodes) closed o ≡ true → MayDetach n forest
  open-detach closed n None e is g = cc g
  open-detach closed n (Some parent) e is g = record { below = ap (λ (o : Option ℕ). is_some o) e; kind = is }

  taken-detach : (closed taken ns : List ℕ) → AllOf (λ n. IsNoRoot n forest) ns → AllOf (λ n. MayDetach n forest) (taken_from (visits forest.nodes) closed taken ns)
  taken-detach closed taken [] a = tt
  taken-detach closed taken (n ∷ ns) a =
      by (is_open (visits forest.nodes) closed (parent_of n (visits forest.nodes))) refl (is_apart (visits forest.nodes) taken n) (taken-detach closed (n ∷ taken) ns a.1) (taken-detach closed taken ns a.1)
    where
      by : (b : Bool) → is_open (visits forest.nodes) closed (parent_of n (visits forest.nodes)) ≡ b → (d : Bool) → AllOf (λ m. MayDetach m forest) (taken_from (visits forest.nodes) closed (n ∷ taken) ns)
          → AllOf (λ m. MayDetach m forest) (taken_from (visits forest.nodes) closed taken ns)
          → AllOf (λ m. MayDetach m forest) (if b && d then n ∷ taken_from (visits forest.nodes) closed (n ∷ taken) ns else taken_from (visits forest.nodes) closed taken ns)
      by true e true one two = (open-detach closed n (parent_of n (visits forest.nodes)) refl a.0 e, one)
      by true e false one two = two
      by false e d one two = two

deletes-go : DeletesGo
deletes-go forest asked trees a = taken-detach forest asked.closed [] (asked_of asked.at asked.set) (all-asked forest trees (λ n. IsNoRoot n forest) asked.at asked.set a)

pub plan_laws : PlanLaws
plan_laws = record { inserts = inserts-go; deletes = deletes-go }
