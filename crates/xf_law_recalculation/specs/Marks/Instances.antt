-- The same by the nodes of the instances: trees that are detached, now or before, make no difference. What is told of the two forests speaks
-- of their instances alone, and of the numbers of nodes only those of texts need to change.
use Rattle.std.specs.Prelude.{ℕ, ◌≡◌, ◌^◌, true, false, List, map, nat_lt, Option, Some, None, option_map}
use Rattle.xf_def_syntax.specs.declared.expr.Expr.{Expr}
use Rattle.xf_def_forest.specs.Forest.{Forest}
use Rattle.xf_def_forest.specs.Visit.{Visit, visits, has}
use Rattle.xf_def_forest.specs.Shape.{erased}
use Rattle.xf_def_forest.specs.Changes.{in_instances}
use Rattle.xf_def_forest.specs.Same.{IsRenumbering, renumbered_visit}
use Rattle.xf_def_forest.specs.WellFormed.{HasTrees}
use Rattle.xf_def_xpath.specs.declared.value.Value.{Value}
use Rattle.xf_def_xpath.specs.Given.{Document, document_of}
use Rattle.xf_def_xpath.specs.Asked.{list_around}
use Rattle.xf_def_xpath.specs.Conversions.{truth_of}
use Rattle.xf_def_xpath.specs.Agree.{numbers_of}
use Rattle.xf_def_xpath.specs.Same.{renumbered_document}
use Rattle.xf_def_model.specs.Rules.{Scope}
use Rattle.xf_def_model.specs.Applied.{Entry}
use Rattle.xf_def_model.specs.Entries.{value_of, text_of}
use Rattle.xf_def_model.specs.Pertinent.{Changes, asking, stands_as}
use Rattle.xf_law_recalculation.specs.Agree.Settles.{AreHung, IsSolid, Surrounds}
use Rattle.xf_law_recalculation.specs.Agree.Forests.{over_second, renumbered_forest}
use Rattle.xf_law_recalculation.specs.Marks.Marks.{IsInBoth, SameNodes, SameBut, IsOf}
use Rattle.xf_law_recalculation.specs.Marks.Outside.{shape_now, touched, IsOutside}

-- the visits of the instances
abbrev pub standing : Forest → List Visit
standing forest = visits (in_instances forest.nodes)

-- the instances of now beside those of before, where the nodes of these have other numbers
pub record SameInstances (f : ℕ → ℕ) (texts lists : List ℕ) (scope : Scope) (documents : List Document) (now before : Forest) : Type 0 where
  pub renumbers : IsRenumbering f
  pub trees : HasTrees before
  pub hung : AreHung (visits before.nodes)
  pub below : (k : ℕ) → has k (numbers_of (standing before)) ≡ true → nat_lt (f k) (2 ^ 128) ≡ true
  pub nodes : SameNodes texts lists (standing now) (map (renumbered_visit f) (standing before))
  -- an instance has the document element that it had, unless the list around it is marked, and stands in both or in neither
  pub same : (id : List ℕ) (n : ℕ) → document_of scope.model id scope.given.documents ≡ Some n → ((m : ℕ) → has m (list_around (map erased (standing now)) n) ≡ true → has m lists ≡ false) →
      (m : ℕ) × (document_of scope.model id documents ≡ Some m) × (f m ≡ n) × IsInBoth (standing now) (map (renumbered_visit f) (standing before)) n
  pub documents_stand : (id : List ℕ) (n : ℕ) → document_of scope.model id scope.given.documents ≡ Some n → IsSolid (standing now) n
  pub absent : (id : List ℕ) → document_of scope.model id scope.given.documents ≡ None → document_of scope.model id documents ≡ None

-- so the whole forests are, where the nodes that stand in both instances have the same numbers, and all others of before have new ones
abbrev pub WholeForests : Type 0
WholeForests = (f : ℕ → ℕ) (most : ℕ) (texts lists : List ℕ) (scope : Scope) (documents : List Document) (now before : Forest) →
    Surrounds scope most now → SameInstances f texts lists scope documents now before →
    (g : ℕ → ℕ) × IsRenumbering g × SameBut texts lists scope (map (renumbered_document g) documents) now (renumbered_forest g before)
    × ((n : ℕ) → has n (numbers_of (standing before)) ≡ true → has (f n) (numbers_of (standing now)) ≡ true → g n ≡ f n)

-- ---- an entry outside the pertinent ones

-- the data since the last recalculation, with what the calculates of this one may have given by now
pub record SinceInstances (f : ℕ → ℕ) (most : ℕ) (scope : Scope) (documents : List Document) (now before : Forest) (changes : Changes) (entries : List Entry) : Type 0 where
  pub around : Surrounds scope most now
  pub same : SameInstances f (touched scope now changes entries) changes.lists scope documents now before

-- an entry of an instance that is not pertinent, and the one that stood for it then: a node that is no text keeps its number
pub record OldInInstances (f : ℕ → ℕ) (scope : Scope) (now before : Forest) (changes : Changes) (entries : List Entry) (e old : Entry) (expr : Expr) : Type 0 where
  pub of : IsOf scope e expr
  pub outside : IsOutside scope now changes entries e
  pub stands : stands_as (asking scope (shape_now now) e) old ≡ true
  pub node : IsSolid (standing now) e.node
  pub had : IsSolid (standing before) old.node
  pub number : f old.node ≡ old.node

abbrev pub InstancesTruth : Type 0
InstancesTruth = (most : ℕ) (scope : Scope) (documents : List Document) (indexes : List (List ℕ × ℕ)) (event : Option (List (List ℕ × Value)))
    (now before : Forest) (f : ℕ → ℕ) (changes : Changes) (entries : List Entry) (e old : Entry) (expr : Expr) →
    SinceInstances f most scope documents now before changes entries → OldInInstances f scope now before changes entries e old expr →
    option_map truth_of (value_of (Some most) scope (visits now.nodes) e) ≡ option_map truth_of (value_of (Some most) (over_second scope documents indexes event) (visits before.nodes) old)

abbrev pub InstancesText : Type 0
InstancesText = (most : ℕ) (scope : Scope) (documents : List Document) (indexes : List (List ℕ × ℕ)) (event : Option (List (List ℕ × Value)))
    (now before : Forest) (f : ℕ → ℕ) (changes : Changes) (entries : List Entry) (e old : Entry) (expr : Expr) →
    SinceInstances f most scope documents now before changes entries → OldInInstances f scope now before changes entries e old expr →
    text_of (Some most) scope (visits now.nodes) e ≡ text_of (Some most) (over_second scope documents indexes event) (visits before.nodes) old
