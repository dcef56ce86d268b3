-- The laws of settled contents for static calculates: data that hold the same contents at the nodes that one reads give it one text, and
-- where no cycle stands one settled state exists and no other.
use Rattle.std.specs.Prelude.{ℕ, ◌≡◌, ◌^◌, Bool, true, false, List, ◌∷◌, map, nat_lt, Some, None}
use Rattle.xf_def_syntax.specs.declared.expr.Expr.{Expr}
use Rattle.xf_def_forest.specs.Forest.{Forest, is_text, is_element}
use Rattle.xf_def_forest.specs.Visit.{Visit, visits, has}
use Rattle.xf_def_forest.specs.Shape.{erased, has_elements}
use Rattle.xf_def_forest.specs.WellFormed.{HasTrees}
use Rattle.xf_def_values.specs.declared.plain.Plain.{Plain}
use Rattle.xf_def_values.specs.declared.plain.Plain.TheVariants as plain
use Rattle.xf_def_xpath.specs.Given.{document_of}
use Rattle.xf_def_xpath.specs.Table.{function_at}
use Rattle.xf_def_xpath.specs.Table as of
use Rattle.xf_def_xpath.specs.Asked.{found}
use Rattle.xf_def_xpath.specs.Agree.{numbers_of, untexted}
use Rattle.xf_def_model.specs.Rules.{Scope, computed_of}
use Rattle.xf_def_model.specs.Applied.{Entry}
use Rattle.xf_def_model.specs.Entries.{expression_of}
use Rattle.xf_def_model.specs.Settled.{Bounds, Contents, calculates, settled_contents}
use Rattle.xf_def_model.specs.Pertinent.{AllOf}
use Rattle.xf_def_model.specs.Stands.{IsSettled, Agrees, AreStanding, AreAcyclic}
use Rattle.xf_law_recalculation.specs.Agree.Covered.{is_covered}

-- a node that is no text
abbrev pub IsSolid : List Visit → ℕ → Type 0
IsSolid all n = (x : Visit) × (found n (untexted (map erased all)) ≡ Some x)

-- texts stand in elements
abbrev pub AreHung : List Visit → Type 0
AreHung all = (k : ℕ) (x : Visit) → found k all ≡ Some x → is_text x.content ≡ true → (q : ℕ) × (z : Visit) × (found q all ≡ Some z) × (is_element z.content ≡ true) × (x.above ≡ q ∷ z.above)

-- what surrounds the calculates of a model, over the nodes of a forest
pub record Surrounds (scope : Scope) (most : ℕ) (forest : Forest) : Type 0 where
  pub trees : HasTrees forest
  -- no node has the number of a text in a shape
  pub below : (k : ℕ) → has k (numbers_of (visits forest.nodes)) ≡ true → nat_lt k (2 ^ 128) ≡ true
  pub hung : AreHung (visits forest.nodes)
  pub documents : (id : List ℕ) (n : ℕ) → document_of scope.model id scope.given.documents ≡ Some n → IsSolid (visits forest.nodes) n
  -- functions give the same without a limit on strings, and truths where they give truths
  pub extend : (code : ℕ) (ps : List Plain) (p : Plain) → scope.functions (Some most) scope.given.decimals code ps ≡ Some p → scope.functions None scope.given.decimals code ps ≡ Some p
  pub truths : (code : ℕ) (ps : List Plain) (p : Plain) → function_at code ≡ of.asking → scope.functions (Some most) scope.given.decimals code ps ≡ Some p → (b : Bool) × (p ≡ plain.Truth b)

-- a calculate at a node without elements in it, whose expression the law covers
pub record IsStatic (scope : Scope) (forest : Forest) (e : Entry) : Type 0 where
  pub expr : Expr
  pub expression : expression_of scope e ≡ Some (computed_of expr)
  pub covered : is_covered expr ≡ true
  pub node : IsSolid (visits forest.nodes) e.node
  pub leaf : has_elements (visits forest.nodes) e.node ≡ false

-- ---- the laws

-- the agreement law holds for static calculates
abbrev pub CalculatesAgree : Type 0
CalculatesAgree = (b : Bounds) (scope : Scope) (entries : List Entry) (forest : Forest) → Surrounds scope b.string forest → AllOf (IsStatic scope forest) (calculates entries) →
    Agrees b scope entries (visits forest.nodes)

-- where no cycle stands, settled contents are those that the rounds give
abbrev pub SettlesOnce : Type 0
SettlesOnce = (b : Bounds) (scope : Scope) (entries : List Entry) (forest : Forest) → Surrounds scope b.string forest → AllOf (IsStatic scope forest) (calculates entries) →
    AreStanding entries (visits forest.nodes) → AreAcyclic scope entries (visits forest.nodes) →
    (contents : Contents) → IsSettled b scope entries (visits forest.nodes) contents → contents ≡ settled_contents b scope entries (visits forest.nodes)

-- and these are settled
abbrev pub Settles : Type 0
Settles = (b : Bounds) (scope : Scope) (entries : List Entry) (forest : Forest) → Surrounds scope b.string forest → AllOf (IsStatic scope forest) (calculates entries) →
    AreStanding entries (visits forest.nodes) → AreAcyclic scope entries (visits forest.nodes) →
    IsSettled b scope entries (visits forest.nodes) (settled_contents b scope entries (visits forest.nodes))
