-- An applied bind need not be applied again, whatever its node sets are: they give the same nodes over both shapes, texts counted.
use Rattle.std.proofs.Common.{◌≡◌, ℕ, true, false, List, Option, Some, None, option_map, refl, ap, ◌∙◌, subst}
use Rattle.xf_def_syntax.specs.declared.expr.Expr.{Expr}
use Rattle.xf_def_forest.specs.Forest.{Forest}
use Rattle.xf_def_forest.specs.Visit.{Visit, visits, has}
use Rattle.xf_def_forest.specs.Shape.{shape}
use Rattle.xf_def_xpath.specs.declared.value.Value.{Value}
use Rattle.xf_def_xpath.specs.Conversions.{nodes_of}
use Rattle.xf_def_xpath.specs.Binding.{bound_nodes}
use Rattle.xf_def_xpath.specs.Reads.{trace, set_looks_in}
use Rattle.xf_def_xpath.proofs.VisitFacts.{some-same, none-some}
use Rattle.xf_def_model.specs.Rules.{Scope}
use Rattle.xf_def_model.specs.Nested.{alone, setting_for, set_from}
use Rattle.xf_law_recalculation.specs.Agree.Forests.{InBoth}
use Rattle.xf_law_recalculation.proofs.AgreeLemmas.Alike.{alike-is, alike-one}
use Rattle.xf_law_recalculation.specs.Marks.Binds.{SameStructure, GivesTruths}
use Rattle.xf_law_recalculation.proofs.MarksLemmas.BindChains.{chain-stays}
use Rattle.xf_law_recalculation.specs.Bind.WithTexts.{SameWithTexts, IsCovered, AnyBindStays}
use Rattle.xf_law_recalculation.proofs.BindLemmas.ShapeNodes.{bound-same, bound-both}
use Rattle.xf_law_recalculation.proofs.BindLemmas.ShapesMeet.{one-set}

mapped : {X Y : Type 0} (f g : X → Y) (m n : Option X) → m ≡ n → ((x : X) → m ≡ Some x → f x ≡ g x) → option_map f m ≡ option_map g n
mapped f g None n e h = ap (option_map g) e
mapped f g (Some x) n e h = ap Some (h x refl) ∙ ap (option_map g) e

module _ (scope : Scope) (now before : Forest) (lists : List ℕ) (same : SameWithTexts lists scope now before) (truths : GivesTruths scope) where
  abbrev st : SameStructure lists scope now before
  st = same.structure

  abbrev S : List Visit
  S = shape (visits now.nodes)

  abbrev T : List Visit
  T = shape (visits before.nodes)

  abbrev AllBoth : List ℕ → Type 0
  AllBoth ns = (k : ℕ) → has k ns ≡ true → InBoth now before k

  abbrev Unmarked : List ℕ → Type 0
  Unmarked ns = (k : ℕ) → has k ns ≡ true → has k lists ≡ false

  abbrev looks_at : Expr → ℕ → List ℕ
  looks_at e n = set_looks_in (trace e) (setting_for None scope S n) (alone n)

  abbrev given_now : Expr → ℕ → Option Value
  given_now e n = (trace e).meaning (setting_for None scope S n) (alone n)

  abbrev given_before : Expr → ℕ → Option Value
  given_before e n = (trace e).meaning (setting_for None scope T n) (alone n)

  set-same : (e : Expr) → IsCovered e → (n : ℕ) → InBoth now before n → Unmarked (looks_at e n) → set_from None scope S (trace e) n ≡ set_from None scope T (trace e) n
  set-same e covered n here unmarked =
      mapped (λ v. bound_nodes S (nodes_of v)) (λ v. bound_nodes T (nodes_of v)) (given_now e n) (given_before e n)
      (alike-is (one-set scope now before lists same truths e covered n here unmarked))
      (λ v i. bound-same scope now before lists st truths (nodes_of v) (alike-one (one-set scope now before lists same truths e covered n here unmarked) v i))

  set-both : (e : Expr) → IsCovered e → (n : ℕ) → InBoth now before n → Unmarked (looks_at e n) → (ms : List ℕ) → set_from None scope S (trace e) n ≡ Some ms → AllBoth ms
  set-both e covered n here unmarked ms h = by (given_now e n) refl h
    where
      by : (m : Option Value) → given_now e n ≡ m → option_map (λ v. bound_nodes S (nodes_of v)) m ≡ Some ms → AllBoth ms
      by None i j = none-some j
      by (Some v) i j = subst AllBoth (some-same j) (bound-both scope now before lists st truths (nodes_of v) (alike-one (one-set scope now before lists same truths e covered n here unmarked) v i))

pub any_bind_stays : AnyBindStays
any_bind_stays scope now before lists bind r around own same truths chain set covered_around covered unmarked =
    chain-stays scope now before lists same.structure truths IsCovered (set-same scope now before lists same truths) (set-both scope now before lists same truths) bind r around own chain set covered_around covered unmarked
