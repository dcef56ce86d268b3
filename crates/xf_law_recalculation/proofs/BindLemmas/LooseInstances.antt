-- What a bind sets over a forest it sets over its instances alone, whatever its node sets are: detached trees make no difference.
use Rattle.std.proofs.Common.{◌≡◌, ℕ, ◌==◌, Bool, true, false, cond, List, [], ◌∷◌, ◌++◌, map, refl, sym, ap, ◌∙◌}
use Rattle.std.specs.Prelude.{filter}
use Rattle.std.specs.List.{list_any}
use Rattle.std.proofs.lemmas.List.{map-append}
use Rattle.xf_def_forest.specs.Forest.{Forest}
use Rattle.xf_def_forest.specs.Visit.{Visit, visits, has, is_first}
use Rattle.xf_def_forest.specs.Shape.{erased, shape}
use Rattle.xf_def_forest.specs.Changes.{in_instances, in_detached}
use Rattle.xf_def_forest.proofs.OrderLaws.{visits-different}
use Rattle.xf_def_xpath.specs.Agree.{numbers_of, are_apart}
use Rattle.xf_def_xpath.proofs.VisitFacts.{self-same, or-left, or-right, filter-append, present}
use Rattle.xf_def_xpath.proofs.UntextedLaws.{solid-found}
use Rattle.xf_def_xpath.proofs.ForestVisits.{Each, forest-visits}
use Rattle.xf_def_model.specs.Rules.{Scope}
use Rattle.xf_law_recalculation.specs.Agree.Forests.{bare, InBoth}
use Rattle.xf_law_recalculation.specs.Marks.Binds.{bind_looks, instances_of, HasInstances}
use Rattle.xf_law_recalculation.proofs.MarksLemmas.Behind.{append-none, has-both, numbers-append, front-apart, filter-no, none-of, numbers-erased}
use Rattle.xf_law_recalculation.proofs.MarksLemmas.Standing.{visits-parts, within}
use Rattle.xf_law_recalculation.proofs.MarksLemmas.BindInstances.{structure, front-trees}
use Rattle.xf_law_recalculation.specs.Bind.WithTexts.{SameWithTexts, AnyBindOfInstances, AnyBindStaysInInstances}
use Rattle.xf_law_recalculation.proofs.BindLemmas.LooseBinds.{any_bind_stays}

all-of : (p : ℕ → Bool) (ns : List ℕ) → ((k : ℕ) → has k ns ≡ true → p k ≡ true) → filter p ns ≡ ns
all-of p [] h = refl
all-of p (n ∷ ns) h = ap (λ b. cond b (n ∷ filter p ns) (filter p ns)) (h n (or-left (n == n) (has n ns) (self-same n))) ∙ ap (λ l. n ∷ l) (all-of p ns (λ k i. h k (or-right (k == n) (has k ns) i)))

nothing-marked : (ns : List ℕ) → list_any (λ n. has n []) ns ≡ false
nothing-marked [] = refl
nothing-marked (n ∷ ns) = nothing-marked ns

pub first-has : (m : ℕ) (ns : List ℕ) → is_first m ns ≡ true → has m ns ≡ true
first-has m [] j = j
first-has m (k ∷ ks) j = or-left (m == k) (has m ks) j

module _ (scope : Scope) (forest : Forest) (h : HasInstances scope forest) where
  abbrev P : List Visit
  P = visits (in_instances forest.nodes)

  abbrev D : List Visit
  D = visits (in_detached forest.nodes)

  abbrev part : Forest
  part = instances_of forest

  apart : are_apart (numbers_of (P ++ D)) ≡ true
  apart = ap (λ xs. are_apart (numbers_of xs)) (sym (visits-parts forest.nodes)) ∙ visits-different forest h.trees

  bare-parts : bare forest ≡ bare part ++ map erased D
  bare-parts = ap (map erased) (visits-parts forest.nodes) ∙ map-append erased P D

  abbrev X : List ℕ
  X = numbers_of (bare part)

  abbrev Y : List ℕ
  Y = numbers_of (map erased D)

  whole-numbers : numbers_of (bare forest) ≡ X ++ Y
  whole-numbers = ap numbers_of bare-parts ∙ numbers-append (bare part) (map erased D)

  not-front : (k : ℕ) → has k Y ≡ true → has k X ≡ false
  not-front k i = by (has k X) refl
    where
      by : (b : Bool) → has k X ≡ b → b ≡ false
      by true e = sym (ap (has k) (sym (numbers-erased D)) ∙ i) ∙ front-apart P D apart k (ap (has k) (sym (numbers-erased P)) ∙ e)
      by false e = refl

  order : filter (λ n. has n X) (numbers_of (bare forest)) ≡ filter (λ n. has n (numbers_of (bare forest))) X
  order =
      ap (filter (λ n. has n X)) whole-numbers
      ∙ filter-append (λ n. has n X) X Y
      ∙ ap (λ l. l ++ filter (λ n. has n X) Y) (all-of (λ n. has n X) X (λ k i. i))
      ∙ ap (λ l. X ++ l) (none-of (λ n. has n X) Y not-front)
      ∙ append-none X
      ∙ sym (all-of (λ n. has n (numbers_of (bare forest))) X (λ k i. ap (λ xs. has k (numbers_of xs)) bare-parts ∙ has-both k (bare part) (map erased D) ∙ or-left (has k X) (has k Y) i))

  mixed : (n : ℕ) → InBoth forest part n → filter (λ y. is_first n y.above) (bare forest) ≡ filter (λ y. is_first n y.above) (bare part)
  mixed n i =
      ap (filter (λ (y : Visit). is_first n y.above)) bare-parts
      ∙ filter-append (λ y. is_first n y.above) (bare part) (map erased D)
      ∙ ap (λ l. filter (λ (y : Visit). is_first n y.above) (bare part) ++ l) (filter-no (λ y. is_first n y.above) (λ y. (p : ℕ) → has p y.above ≡ true → has p (numbers_of D) ≡ true) (map erased D) off (erased-each D (within (in_detached forest.nodes))))
      ∙ append-none (filter (λ y. is_first n y.above) (bare part))
    where
      in_front : has n (numbers_of P) ≡ true
      in_front = ap (has n) (sym (numbers-erased P)) ∙ present n (bare part) i.0 (solid-found (bare part) (forest-visits part (front-trees forest h.trees)) n i.0 i.2).0

      off : (y : Visit) → ((p : ℕ) → has p y.above ≡ true → has p (numbers_of D) ≡ true) → is_first n y.above ≡ false
      off y j = by (is_first n y.above) refl
        where
          by : (b : Bool) → is_first n y.above ≡ b → b ≡ false
          by true e = sym (j n (first-has n y.above e)) ∙ front-apart P D apart n in_front
          by false e = refl

      erased-each : (ys : List Visit) → Each (λ y. (p : ℕ) → has p y.above ≡ true → has p (numbers_of D) ≡ true) ys → Each (λ y. (p : ℕ) → has p y.above ≡ true → has p (numbers_of D) ≡ true) (map erased ys)
      erased-each [] j = tt
      erased-each (y ∷ ys) j = (j.0, erased-each ys j.1)

  with-texts : SameWithTexts [] scope forest part
  with-texts = record { structure = structure scope forest h; order = order; mixed = λ n i free e. mixed n i }

pub any_bind_of_instances : AnyBindOfInstances
any_bind_of_instances scope forest bind r around own h truths chain set covered_around covered =
    any_bind_stays scope forest (instances_of forest) [] bind r around own (with-texts scope forest h) truths chain set covered_around covered (nothing-marked (bind_looks scope (shape (visits forest.nodes)) r))

pub any_bind_stays_in_instances : AnyBindStaysInInstances
any_bind_stays_in_instances scope now before lists bind r around own h_now h_before same truths chain set covered_around covered unmarked =
    any_bind_of_instances scope now bind r around own h_now truths chain set covered_around covered
    ∙ any_bind_stays scope (instances_of now) (instances_of before) lists bind r around own same truths chain set covered_around covered unmarked
    ∙ sym (any_bind_of_instances scope before bind r around own h_before truths chain set covered_around covered)
