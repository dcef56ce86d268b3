-- The law of two forests: where they agree on what an expression reads and looks at, texts counted, they give it one text.
use Rattle.std.specs.Prelude.{ℕ, ◌≡◌, Bool, true, false, List, ◌∷◌, map, filter, Option, Some, None}
use Rattle.xf_def_syntax.specs.declared.expr.Expr.{Expr}
use Rattle.xf_def_forest.specs.Forest.{Forest, is_text}
use Rattle.xf_def_forest.specs.Visit.{Visit, visits, has, is_first}
use Rattle.xf_def_forest.specs.StringValue.{string_value}
use Rattle.xf_def_forest.specs.Shape.{erased, has_elements, shape}
use Rattle.xf_def_forest.specs.WellFormed.{HasTrees}
use Rattle.xf_def_forest.specs.Same.{IsRenumbering, renumbered}
use Rattle.xf_def_xpath.specs.declared.value.Value.{Value}
use Rattle.xf_def_xpath.specs.Given.{Document, document_of}
use Rattle.xf_def_xpath.specs.Setting.{Setting, Focus, ◌>>=◌}
use Rattle.xf_def_xpath.specs.Conversions.{string_of}
use Rattle.xf_def_xpath.specs.Meaning.{meaning}
use Rattle.xf_def_xpath.specs.Asked.{Asked, found, list_around, lists_below, converted}
use Rattle.xf_def_xpath.specs.Reads.{trace}
use Rattle.xf_def_xpath.specs.Same.{renumbered_document, renumbered_focus}
use Rattle.xf_def_xpath.specs.Agree.{numbers_of, untexted, HaveOneFrame}
use Rattle.xf_def_model.specs.Rules.{Scope}
use Rattle.xf_def_model.specs.Nested.{setting_for}
use Rattle.xf_law_recalculation.specs.Agree.Covered.{is_covered}
use Rattle.xf_law_recalculation.specs.Agree.Settles.{AreHung, Surrounds}
use Rattle.xf_law_recalculation.specs.Agree.Kept.{kept}

-- the visits of a forest, texts empty
abbrev pub bare : Forest → List Visit
bare forest = map erased (visits forest.nodes)

-- a node that is no text and is the same in both
abbrev pub InBoth : Forest → Forest → ℕ → Type 0
InBoth first second k = (x : Visit) × (found k (untexted (bare first)) ≡ Some x) × (found k (untexted (bare second)) ≡ Some x)

-- these forests agree on what is read and looked at; of the elements that are known the texts are the same visits in both
pub record AgreeOn (known : ℕ → Bool) (reads looks : List ℕ) (scope : Scope) (documents : List Document) (first second : Forest) : Type 0 where
  pub trees : HasTrees second
  pub hung : AreHung (visits second.nodes)
  pub frame : HaveOneFrame (bare first) (bare second)
  -- known texts keep their order among the other nodes
  pub order : filter (λ n. has n (numbers_of (kept known (bare second)))) (numbers_of (kept known (bare first))) ≡ filter (λ n. has n (numbers_of (kept known (bare first)))) (numbers_of (kept known (bare second)))
  -- the lists that are looked at are the same, and in those with elements the texts are known
  pub lists : (n : ℕ) → has n looks ≡ true → filter (λ y. is_first n y.above) (kept known (bare first)) ≡ filter (λ y. is_first n y.above) (kept known (bare second))
  pub looked : (p : ℕ) → has p looks ≡ true → has_elements (visits first.nodes) p ≡ true → known p ≡ true
  -- the texts at and below the nodes that are read are known; where they stand in both they have the same characters, and so have the nodes
  -- whose lists from them down are looked at too
  pub read : (n p : ℕ) (z : Visit) → has n reads ≡ true → found p (bare first) ≡ Some z → is_text z.content ≡ false → has n (p ∷ z.above) ≡ true → known p ≡ true
  pub strings : (n : ℕ) (z : Visit) → found n (bare first) ≡ Some z → found n (bare second) ≡ Some z → is_text z.content ≡ false → has n reads ≡ true →
      ((m : ℕ) → has m (lists_below (map erased (shape (visits first.nodes))) n) ≡ true → has m looks ≡ true) → string_value n (visits first.nodes) ≡ string_value n (visits second.nodes)
  pub texts : (k q : ℕ) (x : Visit) (qs : List ℕ) → found k (bare first) ≡ Some x → found k (bare second) ≡ Some x → is_text x.content ≡ true → x.above ≡ q ∷ qs → has q reads ≡ true → string_value k (visits first.nodes) ≡ string_value k (visits second.nodes)
  -- an instance has the same document element in both where the list around it is looked at, and is in both or in neither
  pub same : (id : List ℕ) (n : ℕ) → document_of scope.model id scope.given.documents ≡ Some n → ((m : ℕ) → has m (list_around (map erased (shape (visits first.nodes))) n) ≡ true → has m looks ≡ true) →
      (document_of scope.model id documents ≡ Some n) × InBoth first second n
  pub absent : (id : List ℕ) → document_of scope.model id scope.given.documents ≡ None → document_of scope.model id documents ≡ None

-- what is asked of the expression by itself
abbrev pub asked_alone : Scope → Forest → ℕ → Expr → Focus → Asked
asked_alone scope first current expr c = (trace expr).asked (setting_for None scope (shape (visits first.nodes)) current) c

-- what is asked of the whole expression, as a text
abbrev pub asked_whole : Scope → Forest → ℕ → Expr → Focus → Asked
asked_whole scope first current expr c = let s = setting_for None scope (shape (visits first.nodes)) current in converted s ((trace expr).asked s c)

abbrev pub text_over : Setting → Expr → Focus → Option (List ℕ)
text_over s expr c = meaning expr s c >>= string_of s

-- the second forest may have other documents, indexes and another event
abbrev pub over_second : Scope → List Document → List (List ℕ × ℕ) → Option (List (List ℕ × Value)) → Scope
over_second scope documents indexes event = record scope { given = record scope.given { documents = documents; indexes = indexes; event = event } }

-- one value: the nodes of a bind, say
abbrev pub TwoForestsValue : Type 0
TwoForestsValue = (most : ℕ) (scope : Scope) (documents : List Document) (indexes : List (List ℕ × ℕ)) (event : Option (List (List ℕ × Value)))
    (first second : Forest) (known : ℕ → Bool) (reads looks : List ℕ) (expr : Expr) (current : ℕ) (c : Focus) →
    Surrounds scope most first → AgreeOn known reads looks scope documents first second → is_covered expr ≡ true → InBoth first second current → InBoth first second c.node →
    ((n : ℕ) → has n (asked_alone scope first current expr c).reads ≡ true → has n reads ≡ true) → ((n : ℕ) → has n (asked_alone scope first current expr c).looks ≡ true → has n looks ≡ true) →
    meaning expr (setting_for (Some most) scope (visits first.nodes) current) c ≡ meaning expr (setting_for (Some most) (over_second scope documents indexes event) (visits second.nodes) current) c

-- one text
abbrev pub TwoForests : Type 0
TwoForests = (most : ℕ) (scope : Scope) (documents : List Document) (indexes : List (List ℕ × ℕ)) (event : Option (List (List ℕ × Value)))
    (first second : Forest) (known : ℕ → Bool) (reads looks : List ℕ) (expr : Expr) (current : ℕ) (c : Focus) →
    Surrounds scope most first → AgreeOn known reads looks scope documents first second → is_covered expr ≡ true → InBoth first second current → InBoth first second c.node →
    ((n : ℕ) → has n (asked_whole scope first current expr c).reads ≡ true → has n reads ≡ true) → ((n : ℕ) → has n (asked_whole scope first current expr c).looks ≡ true → has n looks ≡ true) →
    text_over (setting_for (Some most) scope (visits first.nodes) current) expr c ≡ text_over (setting_for (Some most) (over_second scope documents indexes event) (visits second.nodes) current) expr c

-- ---- numbers do not count

abbrev pub renumbered_forest : (ℕ → ℕ) → Forest → Forest
renumbered_forest f forest = record forest { nodes = map (renumbered f) forest.nodes }

-- one text, where the second forest agrees once its nodes have other numbers, as texts that were set again have
abbrev pub TwoForestsButNumbers : Type 0
TwoForestsButNumbers = (most : ℕ) (scope : Scope) (documents : List Document) (indexes : List (List ℕ × ℕ)) (event : Option (List (List ℕ × Value)))
    (first second : Forest) (f : ℕ → ℕ) (known : ℕ → Bool) (reads looks : List ℕ) (expr : Expr) (current : ℕ) (c : Focus) → IsRenumbering f →
    Surrounds scope most first → AgreeOn known reads looks scope (map (renumbered_document f) documents) first (renumbered_forest f second) → is_covered expr ≡ true →
    InBoth first (renumbered_forest f second) (f current) → InBoth first (renumbered_forest f second) (f c.node) →
    ((n : ℕ) → has n (asked_whole scope first (f current) expr (renumbered_focus f c)).reads ≡ true → has n reads ≡ true) →
    ((n : ℕ) → has n (asked_whole scope first (f current) expr (renumbered_focus f c)).looks ≡ true → has n looks ≡ true) →
    text_over (setting_for (Some most) scope (visits first.nodes) (f current)) expr (renumbered_focus f c)
    ≡ text_over (setting_for (Some most) (over_second scope documents indexes event) (visits second.nodes) current) expr c
