-- An applied bind need not be applied again where no list is marked that its node set, or one around it, looks at, and no instance has another
-- document element: for every static node set, also where a written `text()` or `node()` tells texts apart.
use Rattle.std.specs.Prelude.{ℕ, ◌≡◌, true, false, List, map, filter, Some}
use Rattle.std.specs.List.{list_any}
use Rattle.xf_def_syntax.specs.declared.expr.Expr.{Expr}
use Rattle.xf_def_forest.specs.Forest.{Forest, is_text}
use Rattle.xf_def_forest.specs.Visit.{Visit, visits, has, is_first}
use Rattle.xf_def_forest.specs.Shape.{has_elements, shape}
use Rattle.xf_def_forest.specs.Changes.{in_instances}
use Rattle.xf_def_xpath.specs.Asked.{found}
use Rattle.xf_def_xpath.specs.Reads.{trace}
use Rattle.xf_def_xpath.specs.Agree.{numbers_of}
use Rattle.xf_def_model.specs.Rules.{Rule, Scope, chains, chain_around}
use Rattle.xf_def_model.specs.Applied.{entries_by}
use Rattle.xf_def_model.specs.Pertinent.{AllOf}
use Rattle.xf_law_recalculation.specs.Agree.Covered.{is_covered}
use Rattle.xf_law_recalculation.specs.Agree.Forests.{bare, InBoth}
use Rattle.xf_law_recalculation.specs.Marks.Marks.{SameNodes}
use Rattle.xf_law_recalculation.specs.Marks.Binds.{bind_looks, SameStructure, GivesTruths, instances_of, HasInstances}

-- the data of now and of before, texts counted
pub record SameWithTexts (lists : List ℕ) (scope : Scope) (now before : Forest) : Type 0 where
  pub structure : SameStructure lists scope now before
  -- texts that stand in both keep their order among the other nodes
  pub order : filter (λ n. has n (numbers_of (bare before))) (numbers_of (bare now)) ≡ filter (λ n. has n (numbers_of (bare now))) (numbers_of (bare before))
  -- where elements stand in a list that is not marked, the texts beside them are as they were: no other text is set there
  pub mixed : (n : ℕ) → InBoth now before n → has n lists ≡ false → has_elements (visits now.nodes) n ≡ true → filter (λ y. is_first n y.above) (bare now) ≡ filter (λ y. is_first n y.above) (bare before)

abbrev pub IsCovered : Expr → Type 0
IsCovered e = is_covered e ≡ true

abbrev pub AnyBindStays : Type 0
AnyBindStays = (scope : Scope) (now before : Forest) (lists : List ℕ) (bind : ℕ) (r : Rule) (around : List Expr) (own : Expr) →
    SameWithTexts lists scope now before → GivesTruths scope →
    chain_around (chains scope) r.around ≡ map trace around → r.node_set ≡ trace own → AllOf IsCovered around → IsCovered own →
    list_any (λ n. has n lists) (bind_looks scope (shape (visits now.nodes)) r) ≡ false →
    entries_by scope (shape (visits now.nodes)) bind r ≡ entries_by scope (shape (visits before.nodes)) bind r

-- ---- trees that are detached make no difference
abbrev pub AnyBindOfInstances : Type 0
AnyBindOfInstances = (scope : Scope) (forest : Forest) (bind : ℕ) (r : Rule) (around : List Expr) (own : Expr) → HasInstances scope forest → GivesTruths scope →
    chain_around (chains scope) r.around ≡ map trace around → r.node_set ≡ trace own → AllOf IsCovered around → IsCovered own →
    entries_by scope (shape (visits forest.nodes)) bind r ≡ entries_by scope (shape (visits (in_instances forest.nodes))) bind r

-- so the marks count by the instances
abbrev pub AnyBindStaysInInstances : Type 0
AnyBindStaysInInstances = (scope : Scope) (now before : Forest) (lists : List ℕ) (bind : ℕ) (r : Rule) (around : List Expr) (own : Expr) →
    HasInstances scope now → HasInstances scope before → SameWithTexts lists scope (instances_of now) (instances_of before) → GivesTruths scope →
    chain_around (chains scope) r.around ≡ map trace around → r.node_set ≡ trace own → AllOf IsCovered around → IsCovered own →
    list_any (λ n. has n lists) (bind_looks scope (shape (visits (in_instances now.nodes))) r) ≡ false →
    entries_by scope (shape (visits now.nodes)) bind r ≡ entries_by scope (shape (visits before.nodes)) bind r

-- ---- what is told of the nodes with their marks is enough

-- in a node that is marked for another text no text stands in both: one that is set has a number of its own
abbrev pub HaveOwnTexts : List ℕ → Forest → Forest → Type 0
HaveOwnTexts texts now before = (k q : ℕ) (x : Visit) → found k (bare now) ≡ Some x → has k (numbers_of (bare before)) ≡ true → is_text x.content ≡ true → is_first q x.above ≡ true → has q texts ≡ false

abbrev pub WithTextsOfNodes : Type 0
WithTextsOfNodes = (texts lists : List ℕ) (scope : Scope) (now before : Forest) →
    SameStructure lists scope now before → SameNodes texts lists (visits now.nodes) (visits before.nodes) → HaveOwnTexts texts now before → SameWithTexts lists scope now before
