-- Binds since a recalculation, from what the changes carry on of the instances: the texts of a node that is marked for another text have numbers
-- of before that no node of now has, so that no text stands in both there.
use Rattle.std.specs.Prelude.{ℕ, ◌≡◌, Bool, true, false, ◌&&◌, List, [], ◌∷◌, map, Option, Some, None}
use Rattle.std.specs.List.{list_any}
use Rattle.xf_def_syntax.specs.declared.expr.Expr.{Expr}
use Rattle.xf_def_forest.specs.Forest.{Forest, is_root, is_text}
use Rattle.xf_def_forest.specs.Visit.{Visit, visits, has}
use Rattle.xf_def_forest.specs.Shape.{erased, shape}
use Rattle.xf_def_forest.specs.Changes.{in_instances}
use Rattle.xf_def_forest.specs.Same.{IsRenumbering, renumbered}
use Rattle.xf_def_xpath.specs.Given.{Document, document_of}
use Rattle.xf_def_xpath.specs.Asked.{found, list_around}
use Rattle.xf_def_xpath.specs.Agree.{numbers_of}
use Rattle.xf_def_xpath.specs.Reads.{trace}
use Rattle.xf_def_model.specs.Rules.{Rule, Scope, chains, chain_around}
use Rattle.xf_def_model.specs.Applied.{entries_by}
use Rattle.xf_def_model.specs.Pertinent.{AllOf}
use Rattle.xf_def_model.specs.Same.{renumbered_entry}
use Rattle.xf_law_recalculation.specs.Agree.Settles.{IsSolid}
use Rattle.xf_law_recalculation.specs.Marks.Binds.{bind_looks, GivesTruths, instances_of, HasInstances}
use Rattle.xf_law_recalculation.specs.Marks.Instances.{standing}
use Rattle.xf_law_recalculation.specs.Change.Carried.{Carried}
use Rattle.xf_law_recalculation.specs.Bind.WithTexts.{SameWithTexts, IsCovered}

-- the first of these is marked
abbrev pub first_marked : List ℕ → List ℕ → Bool
first_marked marks [] = false
first_marked marks (n ∷ ns) = has n marks

-- a text of before that stands in a node that is marked for another text
abbrev pub is_loose : (ℕ → ℕ) → List ℕ → Option Visit → Bool
is_loose f texts None = false
is_loose f texts (Some y) = is_text y.content && first_marked texts (map f y.above)

-- the instances of before with these numbers; the next number does not count
abbrev pub numbered_before : (ℕ → ℕ) → ℕ → Forest → Forest
numbered_before g next before = record { nodes = map (renumbered g) (in_instances before.nodes); next = next }

-- no list is marked in which a document element stands, and none of a root
pub record KeepsDocuments (lists : List ℕ) (scope : Scope) (now : Forest) : Type 0 where
  pub around : (id : List ℕ) (n m : ℕ) → document_of scope.model id scope.given.documents ≡ Some n → has m (list_around (map erased (standing now)) n) ≡ true → has m lists ≡ false
  pub roots : (n : ℕ) (x : Visit) → found n (map erased (standing now)) ≡ Some x → is_root x.content ≡ true → has n lists ≡ false

-- numbers of the nodes of before: all but those texts have those that they have by now
pub record HoldsNumbers (f : ℕ → ℕ) (texts : List ℕ) (before : Forest) (g : ℕ → ℕ) : Type 0 where
  pub renumbers : IsRenumbering g
  pub held : (k : ℕ) → has k (numbers_of (standing before)) ≡ true → is_loose f texts (found k (standing before)) ≡ false → g k ≡ f k

-- what is carried on tells what a bind asks of the data of now and of before
abbrev pub WithTextsCarried : Type 0
WithTextsCarried = (f : ℕ → ℕ) (taken : ℕ → Bool) (texts lists : List ℕ) (scope : Scope) (documents : List Document) (now before : Forest) →
    HasInstances scope now → Carried f taken texts lists scope documents now before → KeepsDocuments lists scope now →
    (g : ℕ → ℕ) × (next : ℕ) × HoldsNumbers f texts before g × SameWithTexts lists scope (instances_of now) (numbered_before g next before)

-- so a bind sets the same where no list is marked that its node sets look at
abbrev pub AnyBindSince : Type 0
AnyBindSince = (f : ℕ → ℕ) (taken : ℕ → Bool) (texts lists : List ℕ) (scope : Scope) (documents : List Document) (now before : Forest) (bind : ℕ) (r : Rule) (around : List Expr) (own : Expr) →
    HasInstances scope now → Carried f taken texts lists scope documents now before → KeepsDocuments lists scope now → GivesTruths scope →
    chain_around (chains scope) r.around ≡ map trace around → r.node_set ≡ trace own → AllOf IsCovered around → IsCovered own →
    list_any (λ n. has n lists) (bind_looks scope (shape (visits (in_instances now.nodes))) r) ≡ false →
    (g : ℕ → ℕ) × (next : ℕ) × HoldsNumbers f texts before g
    × (entries_by scope (shape (visits now.nodes)) bind r ≡ entries_by scope (shape (visits (numbered_before g next before).nodes)) bind r)

-- ---- the binds of before

-- nodes that are no texts kept their numbers, as where no tree moved; what surrounds the binds is what surrounded them, outside an event
pub record KeptNumbers (f : ℕ → ℕ) (scope : Scope) (before : Forest) : Type 0 where
  pub solid : (n : ℕ) → IsSolid (standing before) n → f n ≡ n
  pub documents : AllOf (λ d. IsSolid (standing before) d.element) scope.given.documents
  pub quiet : scope.given.event ≡ None

-- a bind sets what it set: of the numbers of its nodes those of the texts alone differ
abbrev pub AnyBindHeld : Type 0
AnyBindHeld = (f : ℕ → ℕ) (taken : ℕ → Bool) (texts lists : List ℕ) (scope : Scope) (documents : List Document) (now before : Forest) (bind : ℕ) (r : Rule) (around : List Expr) (own : Expr) →
    HasInstances scope now → HasInstances scope before → Carried f taken texts lists scope documents now before → KeepsDocuments lists scope now → KeptNumbers f scope before → GivesTruths scope →
    chain_around (chains scope) r.around ≡ map trace around → r.node_set ≡ trace own → AllOf IsCovered around → IsCovered own →
    list_any (λ n. has n lists) (bind_looks scope (shape (visits (in_instances now.nodes))) r) ≡ false →
    (h : ℕ → ℕ) × HoldsNumbers f texts before h × ((n : ℕ) → IsSolid (standing before) n → h n ≡ n)
    × (entries_by scope (shape (visits now.nodes)) bind r ≡ map (renumbered_entry h) (entries_by scope (shape (visits before.nodes)) bind r))

-- what surrounds the binds is what surrounded them, outside an event: document elements stood, and have their numbers
pub record KeptAround (f : ℕ → ℕ) (scope : Scope) (before : Forest) : Type 0 where
  pub documents : AllOf (λ d. IsSolid (standing before) d.element × (f d.element ≡ d.element)) scope.given.documents
  pub quiet : scope.given.event ≡ None

-- so it is of a document element that can be named: it is the one that it was
abbrev pub DocumentKept : Type 0
DocumentKept = (f : ℕ → ℕ) (taken : ℕ → Bool) (texts lists : List ℕ) (scope : Scope) (documents : List Document) (now before : Forest) (id : List ℕ) (n : ℕ) →
    HasInstances scope now → Carried f taken texts lists scope documents now before → KeepsDocuments lists scope now → document_of scope.model id scope.given.documents ≡ Some n →
    (document_of scope.model id documents ≡ Some n) × IsSolid (standing before) n × (f n ≡ n)

-- none of the entries lies on a text or on a node that moved, so that they are the same
abbrev pub AnyBindHeldSame : Type 0
AnyBindHeldSame = (f : ℕ → ℕ) (taken : ℕ → Bool) (texts lists : List ℕ) (scope : Scope) (documents : List Document) (now before : Forest) (bind : ℕ) (r : Rule) (around : List Expr) (own : Expr) →
    HasInstances scope now → HasInstances scope before → Carried f taken texts lists scope documents now before → KeepsDocuments lists scope now → KeptAround f scope before → GivesTruths scope →
    chain_around (chains scope) r.around ≡ map trace around → r.node_set ≡ trace own → AllOf IsCovered around → IsCovered own →
    list_any (λ n. has n lists) (bind_looks scope (shape (visits (in_instances now.nodes))) r) ≡ false →
    entries_by scope (shape (visits now.nodes)) bind r ≡ entries_by scope (shape (visits before.nodes)) bind r
