-- From the marks of what changed to one value: an entry that reads nothing that is marked, and looks at no list that is, has over the data
-- that stand now the value that it had over those of the last recalculation.
use Rattle.std.specs.Prelude.{ℕ, ◌≡◌, Bool, true, false, not, ◌&&◌, ◌==◌, List, map, filter, Option, Some, None}
use Rattle.std.specs.List.{list_any}
use Rattle.xf_def_syntax.specs.declared.expr.Expr.{Expr}
use Rattle.xf_def_forest.specs.Forest.{Forest, is_text}
use Rattle.xf_def_forest.specs.Visit.{Visit, visits, has, is_first}
use Rattle.xf_def_forest.specs.Shape.{text_number, erased, has_elements, shape}
use Rattle.xf_def_forest.specs.WellFormed.{HasTrees}
use Rattle.xf_def_xpath.specs.declared.value.Value.{Value}
use Rattle.xf_def_xpath.specs.Given.{Document, document_of}
use Rattle.xf_def_xpath.specs.Asked.{found, list_around}
use Rattle.xf_def_xpath.specs.Agree.{numbers_of, untexted}
use Rattle.xf_def_model.specs.Rules.{Scope, computed_of}
use Rattle.xf_def_model.specs.Applied.{Entry}
use Rattle.xf_def_model.specs.Entries.{expression_of, value_of, text_of, reads_of, looks_of, touches}
use Rattle.xf_law_recalculation.specs.Agree.Covered.{is_covered}
use Rattle.xf_law_recalculation.specs.Agree.Settles.{AreHung, Surrounds}
use Rattle.xf_law_recalculation.specs.Agree.Kept.{kept}
use Rattle.xf_law_recalculation.specs.Agree.Forests.{bare, InBoth, over_second}

abbrev pub is_unmarked : List ℕ → ℕ → Bool
is_unmarked marks n = not (has n marks)

-- the texts that stand in a node
abbrev pub texts_in : List Visit → ℕ → List Visit
texts_in all n = filter (λ y. is_text y.content && is_first n y.above) all

-- a node that is no text and is the same in both
abbrev pub IsInBoth : List Visit → List Visit → ℕ → Type 0
IsInBoth now before n = (x : Visit) × (found n (untexted (map erased now)) ≡ Some x) × (found n (untexted (map erased before)) ≡ Some x)

-- without the texts of nodes that are marked for another text
abbrev pub without_marked : List ℕ → List Visit → List Visit
without_marked texts all = kept (is_unmarked texts) (map erased all)

-- The visits of now beside those of before: of the nodes that stand in both, those that are not marked have their texts, and lists that are
-- not marked are as they were. A node that stands in one alone needs no mark: the list is marked in which it came or went.
pub record SameNodes (texts lists : List ℕ) (now before : List Visit) : Type 0 where
  -- what stands in both is the same node at the same place, and keeps its order: so do the texts in nodes that are not marked
  pub stay : (n : ℕ) (x y : Visit) → found n (map erased now) ≡ Some x → found n (map erased before) ≡ Some y → x ≡ y
  pub order : filter (λ n. has n (numbers_of (without_marked texts before))) (numbers_of (without_marked texts now)) ≡ filter (λ n. has n (numbers_of (without_marked texts now))) (numbers_of (without_marked texts before))
  -- a list that is not marked is as it was, without the texts of a node that has other texts
  pub listed : (n : ℕ) → IsInBoth now before n → has n lists ≡ false → filter (λ y. is_first n y.above) (without_marked texts now) ≡ filter (λ y. is_first n y.above) (without_marked texts before)
  -- no other text is set where elements stand: they came after it
  pub mixed : (n : ℕ) → IsInBoth now before n → has_elements now n ≡ true → has n lists ≡ false → has n texts ≡ false
  -- a node that is not marked has its own text, as an attribute has, and the texts in it
  pub own : (n : ℕ) → IsInBoth now before n → has n texts ≡ false → found n now ≡ found n before
  pub held : (n : ℕ) → IsInBoth now before n → has n texts ≡ false → texts_in now n ≡ texts_in before n

-- two forests of which the visits are so, with the document elements of their instances
pub record SameBut (texts lists : List ℕ) (scope : Scope) (documents : List Document) (now before : Forest) : Type 0 where
  -- of trees, whatever number comes next
  pub trees : (next : ℕ) × HasTrees (record before { next = next })
  pub hung : AreHung (visits before.nodes)
  -- no node of before has the number that stands for the one text of an element of now
  pub numbers : (k n : ℕ) → has k (numbers_of (visits before.nodes)) ≡ true → has n (numbers_of (visits now.nodes)) ≡ true → (k == text_number n) ≡ false
  pub nodes : SameNodes texts lists (visits now.nodes) (visits before.nodes)
  -- an instance has the document element that it had, unless the list around it is marked, and stands in both or in neither
  pub same : (id : List ℕ) (n : ℕ) → document_of scope.model id scope.given.documents ≡ Some n → ((m : ℕ) → has m (list_around (bare now) n) ≡ true → has m lists ≡ false) →
      (document_of scope.model id documents ≡ Some n) × InBoth now before n
  pub absent : (id : List ℕ) → document_of scope.model id scope.given.documents ≡ None → document_of scope.model id documents ≡ None

-- no mark concerns what the entry reads and looks at, over the shape of now
pub record IsUnmarked (texts lists : List ℕ) (scope : Scope) (now : Forest) (e : Entry) : Type 0 where
  pub reads : list_any (touches (shape (visits now.nodes)) (reads_of scope (shape (visits now.nodes)) e)) texts ≡ false
  pub looks : list_any (λ n. has n lists) (looks_of scope (shape (visits now.nodes)) e) ≡ false

-- it has this expression, which the law of two forests covers
abbrev pub IsOf : Scope → Entry → Expr → Type 0
IsOf scope e expr = (expression_of scope e ≡ Some (computed_of expr)) × (is_covered expr ≡ true)

-- ---- the same numbers

abbrev pub EntryKeepsValue : Type 0
EntryKeepsValue = (most : ℕ) (scope : Scope) (documents : List Document) (indexes : List (List ℕ × ℕ)) (event : Option (List (List ℕ × Value)))
    (now before : Forest) (texts lists : List ℕ) (e : Entry) (expr : Expr) →
    Surrounds scope most now → SameBut texts lists scope documents now before → IsOf scope e expr → InBoth now before e.node → IsUnmarked texts lists scope now e →
    value_of (Some most) scope (visits now.nodes) e ≡ value_of (Some most) (over_second scope documents indexes event) (visits before.nodes) e

abbrev pub EntryKeepsText : Type 0
EntryKeepsText = (most : ℕ) (scope : Scope) (documents : List Document) (indexes : List (List ℕ × ℕ)) (event : Option (List (List ℕ × Value)))
    (now before : Forest) (texts lists : List ℕ) (e : Entry) (expr : Expr) →
    Surrounds scope most now → SameBut texts lists scope documents now before → IsOf scope e expr → InBoth now before e.node → IsUnmarked texts lists scope now e →
    text_of (Some most) scope (visits now.nodes) e ≡ text_of (Some most) (over_second scope documents indexes event) (visits before.nodes) e
