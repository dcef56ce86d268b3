-- An applied bind need not be applied again, where its node sets name nodes by where they stand alone.
use Rattle.std.proofs.Common.{◌≡◌, ℕ, true, false, List, Option, Some, None, option_map, refl, sym, ap, ◌∙◌, subst}
use Rattle.std.specs.List.{flat_map}
use Rattle.xf_def_syntax.specs.declared.expr.Expr.{Expr}
use Rattle.xf_def_forest.specs.Forest.{Forest}
use Rattle.xf_def_forest.specs.Visit.{Visit, visits, has}
use Rattle.xf_def_forest.specs.Shape.{shape}
use Rattle.xf_def_xpath.specs.declared.value.Value.{Value}
use Rattle.xf_def_xpath.specs.Setting.{in_order}
use Rattle.xf_def_xpath.specs.Conversions.{nodes_of}
use Rattle.xf_def_xpath.specs.Meaning.{meaning}
use Rattle.xf_def_xpath.specs.Binding.{stand_ins, bound_nodes}
use Rattle.xf_def_xpath.specs.Asked.{found}
use Rattle.xf_def_xpath.specs.Reads.{trace, set_looks_in}
use Rattle.xf_def_xpath.proofs.VisitFacts.{some-same, none-some}
use Rattle.xf_def_xpath.proofs.BelowAgree.{flat-has}
use Rattle.xf_def_xpath.proofs.TraceKeeps.{meaning-of_trace}
use Rattle.xf_def_model.specs.Rules.{Scope}
use Rattle.xf_def_model.specs.Nested.{alone, setting_for, set_from}
use Rattle.xf_law_recalculation.specs.Agree.Forests.{InBoth}
use Rattle.xf_law_recalculation.specs.Marks.Binds.{SameStructure, GivesTruths, IsPlace, BindStays}
use Rattle.xf_law_recalculation.proofs.MarksLemmas.BindChains.{chain-stays}
use Rattle.xf_law_recalculation.proofs.MarksLemmas.BindLaws.{flat-on, one-meaning, given-both}
use Rattle.xf_law_recalculation.proofs.MarksLemmas.BindNodes.{order-same, order-both, stands}

mapped : {X Y : Type 0} (f g : X → Y) (m n : Option X) → m ≡ n → ((x : X) → m ≡ Some x → f x ≡ g x) → option_map f m ≡ option_map g n
mapped f g None n e h = ap (option_map g) e
mapped f g (Some x) n e h = ap Some (h x refl) ∙ ap (option_map g) e

module _ (scope : Scope) (now before : Forest) (lists : List ℕ) (same : SameStructure lists scope now before) (truths : GivesTruths scope) where
  abbrev S : List Visit
  S = shape (visits now.nodes)

  abbrev T : List Visit
  T = shape (visits before.nodes)

  abbrev AllBoth : List ℕ → Type 0
  AllBoth ns = (k : ℕ) → has k ns ≡ true → InBoth now before k

  abbrev Unmarked : List ℕ → Type 0
  Unmarked ns = (k : ℕ) → has k ns ≡ true → has k lists ≡ false

  abbrev stand_now : ℕ → List ℕ
  stand_now k = stand_ins S (found k S)

  abbrev stand_before : ℕ → List ℕ
  stand_before k = stand_ins T (found k T)

  all-stand : (ns : List ℕ) → AllBoth ns → AllBoth (flat_map stand_now ns)
  all-stand ns h k i = let n = flat-has stand_now k ns i in (stands scope now before lists same truths n.0 (h n.0 n.1)).1 k n.2

  bound-same : (ns : List ℕ) → AllBoth ns → bound_nodes S ns ≡ bound_nodes T ns
  bound-same ns h = order-same scope now before lists same truths (flat_map stand_now ns) (all-stand ns h) ∙ ap (in_order T) (flat-on stand_now stand_before ns (λ k i. (stands scope now before lists same truths k (h k i)).0))

  bound-both : (ns : List ℕ) → AllBoth ns → AllBoth (bound_nodes S ns)
  bound-both ns h = order-both scope now before lists same truths (flat_map stand_now ns) (all-stand ns h)

  -- ---- one node set

  abbrev looks_at : Expr → ℕ → List ℕ
  looks_at e n = set_looks_in (trace e) (setting_for None scope S n) (alone n)

  abbrev set_now : Expr → ℕ → Option (List ℕ)
  set_now e n = set_from None scope S (trace e) n

  abbrev set_before : Expr → ℕ → Option (List ℕ)
  set_before e n = set_from None scope T (trace e) n

  set-same : (e : Expr) → IsPlace e → (n : ℕ) → InBoth now before n → Unmarked (looks_at e n) → set_now e n ≡ set_before e n
  set-same e place n here unmarked =
      ap (λ m. option_map (λ v. bound_nodes S (nodes_of v)) (m (setting_for None scope S n) (alone n))) (meaning-of_trace e)
      ∙ mapped (λ v. bound_nodes S (nodes_of v)) (λ v. bound_nodes T (nodes_of v)) (meaning e (setting_for None scope S n) (alone n)) (meaning e (setting_for None scope T n) (alone n))
      (one-meaning scope now before lists same truths e place n here unmarked) (λ v i. bound-same (nodes_of v) (given-both scope now before lists same truths e place n here unmarked v i))
      ∙ sym (ap (λ m. option_map (λ v. bound_nodes T (nodes_of v)) (m (setting_for None scope T n) (alone n))) (meaning-of_trace e))

  set-both : (e : Expr) → IsPlace e → (n : ℕ) → InBoth now before n → Unmarked (looks_at e n) → (ms : List ℕ) → set_now e n ≡ Some ms → AllBoth ms
  set-both e place n here unmarked ms h = by (meaning e (setting_for None scope S n) (alone n)) refl (ap (λ m. option_map (λ v. bound_nodes S (nodes_of v)) (m (setting_for None scope S n) (alone n))) (sym (meaning-of_trace e)) ∙ h)
    where
      by : (m : Option Value) → meaning e (setting_for None scope S n) (alone n) ≡ m → option_map (λ v. bound_nodes S (nodes_of v)) m ≡ Some ms → AllBoth ms
      by None i j = none-some j
      by (Some v) i j = subst AllBoth (some-same j) (bound-both (nodes_of v) (given-both scope now before lists same truths e place n here unmarked v i))

pub bind_stays : BindStays
bind_stays scope now before lists bind r around own same truths chain set places place unmarked =
    chain-stays scope now before lists same truths IsPlace (set-same scope now before lists same truths) (set-both scope now before lists same truths) bind r around own chain set places place unmarked
