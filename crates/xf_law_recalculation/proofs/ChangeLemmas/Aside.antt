-- Nodes of before that stand in no instance of now may have other numbers, as those of a tree that comes to another place.
use Rattle.std.proofs.Common.{◌≡◌, ℕ, ◌==◌, Bool, true, false, not, cond, ◌&&◌, List, [], ◌++◌, map, nat_lt, refl, sym, ap, ◌∙◌, subst, inl, inr, arith}
use Rattle.std.specs.Prelude.{◌⊎◌, ◌^◌}
use Rattle.std.proofs.lemmas.Bool.{eqb-true}
use Rattle.std.proofs.lemmas.Bool.Decides.{nat_tests}
use Rattle.xf_def_forest.specs.Forest.{Forest, is_text, has_number}
use Rattle.xf_def_forest.specs.Visit.{Visit, has}
use Rattle.xf_def_forest.specs.Shape.{erased}
use Rattle.xf_def_forest.specs.Changes.{in_instances}
use Rattle.xf_def_forest.specs.Same.{IsRenumbering, renumbered_visit}
use Rattle.xf_def_forest.specs.WellFormed.{HasTrees}
use Rattle.xf_def_forest.proofs.BackLaws.{and-true}
use Rattle.xf_def_forest.proofs.OrderLaws.{seen-has}
use Rattle.xf_def_xpath.specs.Given.{Document}
use Rattle.xf_def_xpath.specs.Asked.{found}
use Rattle.xf_def_xpath.specs.Agree.{numbers_of, are_apart}
use Rattle.xf_def_xpath.proofs.VisitFacts.{no, self-same, present, found-in, found-out}
use Rattle.xf_def_model.specs.Rules.{Scope}
use Rattle.xf_law_recalculation.specs.Agree.Settles.{IsSolid}
use Rattle.xf_law_recalculation.specs.Marks.Marks.{IsInBoth, SameNodes}
use Rattle.xf_law_recalculation.specs.Marks.Instances.{standing}
use Rattle.xf_law_recalculation.proofs.MarksLemmas.Behind.{Behind, append-none, erased-apart, numbers-erased, erased-before}
use Rattle.xf_law_recalculation.proofs.MarksLemmas.BehindNodes.{same_nodes}
use Rattle.xf_law_recalculation.proofs.MarksLemmas.BindInstances.{front-number}
use Rattle.xf_law_recalculation.proofs.MarksLemmas.Standing.{within, visits-apart, number-from}
use Rattle.xf_law_recalculation.specs.Change.Carried.{set_aside, Carried}
use Rattle.xf_law_recalculation.proofs.ChangeLemmas.Carry.{standing-apart, differ-of}

-- these numbers stand in no instance of now
module _ (q : ℕ → Bool) (f : ℕ → ℕ) (taken : ℕ → Bool) (texts lists : List ℕ) (scope : Scope) (documents : List Document) (now before : Forest) (trees : HasTrees now)
    (away : (k : ℕ) → q k ≡ true → has k (numbers_of (standing now)) ≡ false) (carried : Carried f taken texts lists scope documents now before) where
  abbrev P : List Visit
  P = standing now

  abbrev P0 : List Visit
  P0 = standing before

  abbrev F : List Visit
  F = map (renumbered_visit f) P0

  abbrev keeps_number : ℕ → Bool
  keeps_number k = has k (numbers_of P0) && not (q (f k))

  abbrev pub moved_aside : ℕ → ℕ
  moved_aside k = cond (keeps_number k) (f k) (set_aside k)

  abbrev G : List Visit
  G = map (renumbered_visit moved_aside) P0

  kept : (k : ℕ) → keeps_number k ≡ true → moved_aside k ≡ f k
  kept k h = ap (λ b. cond b (f k) (set_aside k)) h

  aside : (k : ℕ) → keeps_number k ≡ false → moved_aside k ≡ set_aside k
  aside k h = ap (λ b. cond b (f k) (set_aside k)) h

  stood : (k : ℕ) → keeps_number k ≡ true → has k (numbers_of P0) ≡ true
  stood k h = (and-true (has k (numbers_of P0)) (not (q (f k))) h).0

  pub stays : (k : ℕ) → has k (numbers_of P0) ≡ true → q (f k) ≡ false → moved_aside k ≡ f k
  stays k h i = kept k (ap (λ b. b && not (q (f k))) h ∙ ap not i)

  small-taken : (k : ℕ) → taken k ≡ true → nat_lt k (2 ^ 127) ≡ true
  small-taken k h = let l = carried.less k h in let m = carried.few in grind (arith, nat_tests, l, m)

  -- ---- the new numbers

  differ-by : (a c : ℕ) → keeps_number a ≡ true → keeps_number c ≡ false → (a == c) ≡ false
  differ-by a c h i = differ-of (a == c) (λ e. sym h ∙ ap keeps_number (eqb-true a c e) ∙ i)

  turned : (a c : ℕ) → (a == c) ≡ (c == a)
  turned a c = grind (arith, nat_tests)

  one-aside : (a c : ℕ) → (set_aside a == set_aside c) ≡ (a == c)
  one-aside a c = grind (arith, nat_tests)

  small-other : (m c : ℕ) → nat_lt m (2 ^ 127) ≡ true → (m == set_aside c) ≡ false
  small-other m c h = grind (arith, nat_tests, h)

  kept-aside : (a c : ℕ) → keeps_number a ≡ true → keeps_number c ≡ false → (f a == set_aside c) ≡ (a == c)
  kept-aside a c h i = elim (carried.was a (stood a h)) [
    | inl e ↦ small-other (f a) c (small-taken (f a) e) ∙ sym (differ-by a c h i)
    | inr e ↦ ap (λ m. m == set_aside c) e ∙ one-aside a c
  ]

  renumbers : IsRenumbering moved_aside
  renumbers a c = by (keeps_number a) (keeps_number c) refl refl
    where
      by : (h i : Bool) → keeps_number a ≡ h → keeps_number c ≡ i → (moved_aside a == moved_aside c) ≡ (a == c)
      by true true h i = ap (λ m. m == moved_aside c) (kept a h) ∙ ap (λ m. f a == m) (kept c i) ∙ carried.same.renumbers a c
      by true false h i = ap (λ m. m == moved_aside c) (kept a h) ∙ ap (λ m. f a == m) (aside c i) ∙ kept-aside a c h i
      by false true h i = ap (λ m. m == moved_aside c) (aside a h) ∙ ap (λ m. set_aside a == m) (kept c i) ∙ turned (set_aside a) (f c) ∙ kept-aside c a i h ∙ turned c a
      by false false h i = ap (λ m. m == moved_aside c) (aside a h) ∙ ap (λ m. set_aside a == m) (aside c i) ∙ one-aside a c

  -- ---- the nodes

  live : (k : ℕ) → has k (numbers_of P) ≡ true → has_number k now.nodes ≡ true
  live k h = by (has_number k now.nodes) refl
    where
      by : (b : Bool) → has_number k now.nodes ≡ b → b ≡ true
      by true e = refl
      by false e = sym (front-number k now.nodes e) ∙ sym (seen-has k [] (in_instances now.nodes)) ∙ h

  aside-nowhere : (k : ℕ) → has (set_aside k) (numbers_of P) ≡ false
  aside-nowhere k = differ-of (has (set_aside k) (numbers_of P)) (λ h. too-great (small-taken (set_aside k) (carried.nodes (set_aside k) (live (set_aside k) h))))
    where
      too-great : nat_lt (set_aside k) (2 ^ 127) ≡ true → true ≡ false
      too-great h = grind (arith, nat_tests, h)

  not-away : (k : ℕ) → has k (numbers_of P) ≡ true → q k ≡ false
  not-away k h = differ-of (q k) (λ i. sym h ∙ away k i)

  gone : (k : ℕ) → has k (numbers_of P0) ≡ true → has (f k) (numbers_of P) ≡ false → has (moved_aside k) (numbers_of P) ≡ false
  gone k h i = by (keeps_number k) refl
    where
      by : (b : Bool) → keeps_number k ≡ b → has (moved_aside k) (numbers_of P) ≡ false
      by true e = ap (λ m. has m (numbers_of P)) (kept k e) ∙ i
      by false e = ap (λ m. has m (numbers_of P)) (aside k e) ∙ aside-nowhere k

  apart-before : are_apart (numbers_of P0) ≡ true
  apart-before = standing-apart before carried.same.trees

  all-of : (xs : List Visit) → xs ++ [] ≡ xs
  all-of xs = append-none xs

  abbrev behind : Behind
  behind = record {
    f = f;
    g = moved_aside;
    texts = texts;
    lists = lists;
    now = P;
    past_now = [];
    before = P0;
    past_before = [];
    apart = ap (λ l. are_apart (numbers_of l)) (all-of P) ∙ standing-apart now trees;
    apart_too = visits-apart moved_aside renumbers (P0 ++ []) (ap (λ l. are_apart (numbers_of l)) (all-of P0) ∙ apart-before);
    apart_front = visits-apart f carried.same.renumbers P0 apart-before;
    within = within (in_instances now.nodes);
    beside = tt;
    within_too = within (in_instances before.nodes);
    beside_too = tt;
    kept = λ n h i. stays n h (not-away (f n) i);
    gone = λ n h i. ap (λ l. has (moved_aside n) (numbers_of l)) (all-of P) ∙ gone n h i;
    away = λ n h. no h;
    nodes = carried.same.nodes;
  }

  nodes : SameNodes texts lists P G
  nodes = subst (λ l. SameNodes texts lists l G) (all-of P) (subst (λ l. SameNodes texts lists (P ++ []) (map (renumbered_visit moved_aside) l)) (all-of P0) (same_nodes behind))

  -- ---- document elements

  both : (n : ℕ) → IsInBoth P F n → IsInBoth P G n
  both n h =
      let one = found-out (λ y. not (is_text y.content)) n (map erased P) h.0 (erased-apart P (standing-apart now trees)) h.1 in
      let two = found-out (λ y. not (is_text y.content)) n (map erased F) h.0 (erased-apart F behind.apart_front) h.2 in
      let here : has n (numbers_of P) ≡ true = ap (has n) (sym (numbers-erased P)) ∙ present n (map erased P) h.0 one.0 in (
        h.0,
        h.1,
        found-in (λ y. not (is_text y.content)) n (map erased G) h.0 (erased-apart G (visits-apart moved_aside renumbers P0 apart-before))
            (ap (λ l. found n (map erased (map (renumbered_visit moved_aside) l))) (sym (all-of P0)) ∙ erased-before behind n here ∙ two.0) two.1,
      )

  document-number : (m n : ℕ) → f m ≡ n → IsInBoth P F n → moved_aside m ≡ n
  document-number m n e h =
      let one = found-out (λ y. not (is_text y.content)) n (map erased P) h.0 (erased-apart P (standing-apart now trees)) h.1 in
      let two = found-out (λ y. not (is_text y.content)) n (map erased F) h.0 (erased-apart F behind.apart_front) h.2 in
      let here : has n (numbers_of P) ≡ true = ap (has n) (sym (numbers-erased P)) ∙ present n (map erased P) h.0 one.0 in
      let old = number-from f carried.same.renumbers n P0 (ap (has n) (sym (numbers-erased F)) ∙ present n (map erased F) h.0 two.0) in
      let is : m ≡ old.0 = eqb-true m old.0 (sym (carried.same.renumbers m old.0) ∙ ap (λ k. k == f old.0) (e ∙ old.1) ∙ self-same (f old.0)) in
      stays m (ap (λ k. has k (numbers_of P0)) is ∙ old.2) (ap q e ∙ not-away n here) ∙ e

  -- ---- the whole

  pub was : (k : ℕ) → has k (numbers_of P0) ≡ true → (taken (moved_aside k) ≡ true) ⊎ (moved_aside k ≡ set_aside k)
  was k h = by (keeps_number k) refl
    where
      by : (b : Bool) → keeps_number k ≡ b → (taken (moved_aside k) ≡ true) ⊎ (moved_aside k ≡ set_aside k)
      by true e = elim (carried.was k h) [ inl i ↦ inl (ap taken (kept k e) ∙ i) | inr i ↦ inr (kept k e ∙ i) ]
      by false e = inr (aside k e)

  solid : (k : ℕ) → IsSolid P0 k → (moved_aside k ≡ k) ⊎ (moved_aside k ≡ set_aside k)
  solid k s = by (keeps_number k) refl
    where
      by : (b : Bool) → keeps_number k ≡ b → (moved_aside k ≡ k) ⊎ (moved_aside k ≡ set_aside k)
      by true e = elim (carried.solid k s) [ inl i ↦ inl (kept k e ∙ i) | inr i ↦ inr (kept k e ∙ i) ]
      by false e = inr (aside k e)

  small : (k : ℕ) → has k (numbers_of P0) ≡ true → nat_lt (moved_aside k) (2 ^ 128) ≡ true
  small k h = elim (was k h) [
    | inl e ↦ let l = small-taken (moved_aside k) e in grind (arith, nat_tests, l)
    | inr e ↦ ap (λ m. nat_lt m (2 ^ 128)) e ∙ (let l = carried.few_before k h in grind (arith, nat_tests, l))
  ]

  pub carried-aside : Carried moved_aside taken texts lists scope documents now before
  carried-aside = record {
    same = record {
      renumbers = renumbers;
      trees = carried.same.trees;
      hung = carried.same.hung;
      below = small;
      nodes = nodes;
      same = λ id n e free. let r = carried.same.same id n e free in (r.0, r.1, document-number r.0 n r.2 r.3, both n r.3);
      documents_stand = carried.same.documents_stand;
      absent = carried.same.absent;
    };
    nodes = carried.nodes;
    was = was;
    less = carried.less;
    few = carried.few;
    few_before = carried.few_before;
    solid = solid;
  }

  -- then none of before has one of these numbers, where nodes of now have them
  pub none-has : (k : ℕ) → q k ≡ true → has_number k now.nodes ≡ true → has k (numbers_of G) ≡ false
  none-has k h i = differ-of (has k (numbers_of G)) (λ j.
      let m = number-from moved_aside renumbers k P0 j in by m.0 m.1 (keeps_number m.0) refl)
    where
      by : (m : ℕ) → k ≡ moved_aside m → (b : Bool) → keeps_number m ≡ b → true ≡ false
      by m e true l = sym (and-true (has m (numbers_of P0)) (not (q (f m))) l).1 ∙ ap not (ap q (sym (e ∙ kept m l)) ∙ h)
      by m e false l = sym (small-taken k (carried.nodes k i)) ∙ ap (λ j. nat_lt j (2 ^ 127)) (e ∙ aside m l) ∙ too-great m
        where
          too-great : (m : ℕ) → nat_lt (set_aside m) (2 ^ 127) ≡ false
          too-great m = grind (arith, nat_tests)
