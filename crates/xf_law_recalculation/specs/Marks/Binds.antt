-- An applied bind need not be applied again where no list is marked that its node set, or one around it, looks at, and no instance has another
-- document element: it sets the same on the same nodes, at the same places.
use Rattle.std.specs.Prelude.{ℕ, ◌≡◌, ◌^◌, Bool, true, false, List, [], ◌∷◌, ◌++◌, map, filter, unwrap_or, nat_lt, None, Some}
use Rattle.std.specs.List.{list_any, flat_map}
use Rattle.xf_def_syntax.specs.declared.expr.Expr.{Expr}
use Rattle.xf_def_forest.specs.Forest.{Forest, is_root}
use Rattle.xf_def_forest.specs.Visit.{Visit, visits, has}
use Rattle.xf_def_forest.specs.Shape.{shape}
use Rattle.xf_def_forest.specs.Changes.{in_instances}
use Rattle.xf_def_forest.specs.WellFormed.{HasTrees}
use Rattle.xf_def_values.specs.declared.plain.Plain.{Plain}
use Rattle.xf_def_values.specs.declared.plain.Plain.TheVariants as plain
use Rattle.xf_def_xpath.specs.Given.{document_of}
use Rattle.xf_def_xpath.specs.Setting.{each, in_order, joined}
use Rattle.xf_def_xpath.specs.Table.{function_at}
use Rattle.xf_def_xpath.specs.Table as of
use Rattle.xf_def_xpath.specs.Asked.{Trace, found}
use Rattle.xf_def_xpath.specs.Reads.{trace, set_looks_in}
use Rattle.xf_def_xpath.specs.Agree.{numbers_of, untexted, list_of}
use Rattle.xf_def_xpath.specs.Exact as exact
use Rattle.xf_def_xpath.specs.Quiet.{quiet_of}
use Rattle.xf_def_model.specs.Rules.{Rule, Scope, chains, chain_around}
use Rattle.xf_def_model.specs.Nested.{alone, setting_for, set_from, begun}
use Rattle.xf_def_model.specs.Applied.{entries_by}
use Rattle.xf_def_model.specs.Pertinent.{AllOf}
use Rattle.xf_law_recalculation.specs.Agree.Covered.{is_covered}
use Rattle.xf_law_recalculation.specs.Agree.Settles.{AreHung, IsSolid}
use Rattle.xf_law_recalculation.specs.Agree.Forests.{bare, InBoth}

-- ---- what the node sets of a bind look at

-- each from the nodes that the one before it selects, over the visits of a shape
abbrev pub chain_looks : Scope → List Visit → List Trace → List ℕ → List ℕ
chain_looks scope all [] ns = []
chain_looks scope all (t ∷ ts) ns =
    flat_map (λ n. set_looks_in t (setting_for None scope all n) (alone n)) ns ++ chain_looks scope all ts (in_order all (joined (unwrap_or (each (set_from None scope all t) ns) [])))

-- those around the bind, from the outermost in, and its own
abbrev pub bind_looks : Scope → List Visit → Rule → List ℕ
bind_looks scope all r = chain_looks scope all (chain_around (chains scope) r.around ++ r.node_set ∷ []) (begun scope)

-- ---- the data of now and of before

-- a node that stands in both is the same node at the same place; their order stays; a list that is not marked is as it was, texts apart
pub record SameStructure (lists : List ℕ) (scope : Scope) (now before : Forest) : Type 0 where
  pub trees : HasTrees now
  pub trees_before : HasTrees before
  -- no node has the number of a text in a shape
  pub below : (k : ℕ) → has k (numbers_of (visits now.nodes)) ≡ true → nat_lt k (2 ^ 128) ≡ true
  pub below_before : (k : ℕ) → has k (numbers_of (visits before.nodes)) ≡ true → nat_lt k (2 ^ 128) ≡ true
  pub hung : AreHung (visits now.nodes)
  pub hung_before : AreHung (visits before.nodes)
  pub stay : (n : ℕ) (x y : Visit) → found n (bare now) ≡ Some x → found n (bare before) ≡ Some y → x ≡ y
  pub order : filter (λ n. has n (numbers_of (untexted (bare before)))) (numbers_of (untexted (bare now))) ≡ filter (λ n. has n (numbers_of (untexted (bare now)))) (numbers_of (untexted (bare before)))
  pub listed : (n : ℕ) → InBoth now before n → has n lists ≡ false → list_of (bare now) n ≡ list_of (bare before) n
  -- each instance has the document element that it had
  pub documents : (id : List ℕ) (n : ℕ) → document_of scope.model id scope.given.documents ≡ Some n → InBoth now before n
  pub roots : (n : ℕ) (x : Visit) → found n (bare now) ≡ Some x → is_root x.content ≡ true → has n lists ≡ false

-- functions give truths where they give truths
abbrev pub GivesTruths : Scope → Type 0
GivesTruths scope = (code : ℕ) (ps : List Plain) (p : Plain) → function_at code ≡ of.asking → scope.functions None scope.given.decimals code ps ≡ Some p → (b : Bool) × (p ≡ plain.Truth b)

-- a node set that names nodes by where they stand alone: it reads nothing, and tells no texts apart
pub record IsPlace (e : Expr) : Type 0 where
  pub exact : (exact.facts_of e).is_exact ≡ true
  pub quiet : (quiet_of e).is_quiet ≡ true
  pub covered : is_covered e ≡ true

-- ---- the law

abbrev pub BindStays : Type 0
BindStays = (scope : Scope) (now before : Forest) (lists : List ℕ) (bind : ℕ) (r : Rule) (around : List Expr) (own : Expr) →
    SameStructure lists scope now before → GivesTruths scope →
    chain_around (chains scope) r.around ≡ map trace around → r.node_set ≡ trace own → AllOf IsPlace around → IsPlace own →
    list_any (λ n. has n lists) (bind_looks scope (shape (visits now.nodes)) r) ≡ false →
    entries_by scope (shape (visits now.nodes)) bind r ≡ entries_by scope (shape (visits before.nodes)) bind r

-- ---- trees that are detached make no difference

-- the instances alone
abbrev pub instances_of : Forest → Forest
instances_of forest = record forest { nodes = in_instances forest.nodes }

-- a forest of which the document elements stand in instances
pub record HasInstances (scope : Scope) (forest : Forest) : Type 0 where
  pub trees : HasTrees forest
  pub below : (k : ℕ) → has k (numbers_of (visits forest.nodes)) ≡ true → nat_lt k (2 ^ 128) ≡ true
  pub hung : AreHung (visits forest.nodes)
  pub documents : (id : List ℕ) (n : ℕ) → document_of scope.model id scope.given.documents ≡ Some n → IsSolid (visits (in_instances forest.nodes)) n

abbrev pub BindOfInstances : Type 0
BindOfInstances = (scope : Scope) (forest : Forest) (bind : ℕ) (r : Rule) (around : List Expr) (own : Expr) → HasInstances scope forest → GivesTruths scope →
    chain_around (chains scope) r.around ≡ map trace around → r.node_set ≡ trace own → AllOf IsPlace around → IsPlace own →
    entries_by scope (shape (visits forest.nodes)) bind r ≡ entries_by scope (shape (visits (in_instances forest.nodes))) bind r

-- so the marks count by the instances
abbrev pub BindStaysInInstances : Type 0
BindStaysInInstances = (scope : Scope) (now before : Forest) (lists : List ℕ) (bind : ℕ) (r : Rule) (around : List Expr) (own : Expr) →
    HasInstances scope now → HasInstances scope before → SameStructure lists scope (instances_of now) (instances_of before) → GivesTruths scope →
    chain_around (chains scope) r.around ≡ map trace around → r.node_set ≡ trace own → AllOf IsPlace around → IsPlace own →
    list_any (λ n. has n lists) (bind_looks scope (shape (visits (in_instances now.nodes))) r) ≡ false →
    entries_by scope (shape (visits now.nodes)) bind r ≡ entries_by scope (shape (visits before.nodes)) bind r
