-- What is told of the instances holds of the whole forests, once the nodes of before that stand in no instance of both have new numbers.
use Rattle.std.proofs.Common.{◌≡◌, ℕ, ◌+◌, ◌==◌, ◌^◌, Bool, true, false, not, cond, ◌&&◌, ◌||◌, List, ◌++◌, map, nat_lt, Some, option_map, refl, sym, ap, ◌∙◌, subst, arith}
use Rattle.std.proofs.lemmas.Bool.{eqb-true}
use Rattle.std.proofs.lemmas.Bool.Decides.{nat_tests}
use Rattle.std.proofs.lemmas.List.{map-append}
use Rattle.xf_def_syntax.specs.declared.expr.Expr.{Expr}
use Rattle.xf_def_forest.specs.Forest.{Forest, is_text}
use Rattle.xf_def_forest.specs.Visit.{Visit, visits, has}
use Rattle.xf_def_forest.specs.Shape.{text_number, erased}
use Rattle.xf_def_forest.specs.Changes.{in_instances, in_detached}
use Rattle.xf_def_forest.specs.Same.{IsRenumbering, renumbered_visit}
use Rattle.xf_def_forest.proofs.BackLaws.{and-true}
use Rattle.xf_def_forest.proofs.OrderLaws.{visits-different}
use Rattle.xf_def_forest.proofs.RenumberLaws.{map-map, visits-renumbered}
use Rattle.xf_def_xpath.specs.Given.{Document}
use Rattle.xf_def_xpath.specs.Asked.{found, parent_in, list_around}
use Rattle.xf_def_xpath.specs.Agree.{numbers_of, are_apart, untexted}
use Rattle.xf_def_xpath.specs.Same.{renumbered_document}
use Rattle.xf_def_xpath.proofs.RenumberValues.{document_of-renumbered}
use Rattle.xf_def_xpath.proofs.VisitFacts.{no, present, found-in, found-out}
use Rattle.xf_def_xpath.proofs.ForestVisits.{Each, each-map}
use Rattle.xf_def_model.specs.Rules.{Scope}
use Rattle.xf_def_model.specs.Applied.{Entry, sets_same}
use Rattle.xf_def_model.specs.Pertinent.{Changes, is_same}
use Rattle.xf_law_recalculation.specs.Agree.Settles.{AreHung, IsSolid, Surrounds}
use Rattle.xf_law_recalculation.specs.Agree.Forests.{bare, InBoth, renumbered_forest}
use Rattle.xf_law_recalculation.specs.Marks.Marks.{IsInBoth, SameNodes, SameBut}
use Rattle.xf_law_recalculation.specs.Marks.Outside.{touched, Since, OldOutside}
use Rattle.xf_law_recalculation.specs.Marks.Instances.{standing, SameInstances, WholeForests, SinceInstances, OldInInstances, InstancesTruth, InstancesText}
use Rattle.xf_law_recalculation.proofs.MarksLemmas.Behind.{Behind, has-both, or_later, found-append, front-apart, front-numbers, erased-apart, erased-now, erased-before}
use Rattle.xf_law_recalculation.proofs.MarksLemmas.BehindNodes.{same_nodes}
use Rattle.xf_law_recalculation.proofs.MarksLemmas.Standing.{visits-parts, within, visits-apart, number-from, trees-too, hung-too}
use Rattle.xf_law_recalculation.proofs.MarksLemmas.OutsideLaws.{outside_truth, outside_text}

-- a number that no node of now has, and no text of its shape
abbrev fresh : ℕ → ℕ
fresh n = 2 ^ 129 + n

module _ (f : ℕ → ℕ) (most : ℕ) (texts lists : List ℕ) (scope : Scope) (documents : List Document) (now before : Forest)
    (around : Surrounds scope most now) (same : SameInstances f texts lists scope documents now before) where
  abbrev P : List Visit
  P = standing now

  abbrev D : List Visit
  D = visits (in_detached now.nodes)

  abbrev P0 : List Visit
  P0 = standing before

  abbrev D0 : List Visit
  D0 = visits (in_detached before.nodes)

  abbrev F : List Visit
  F = map (renumbered_visit f) P0

  -- the node stands in an instance, and no detached tree of now has its number
  abbrev keeps_number : ℕ → Bool
  keeps_number n = has n (numbers_of P0) && not (has (f n) (numbers_of D))

  abbrev g : ℕ → ℕ
  g n = cond (keeps_number n) (f n) (fresh n)

  apart-now : are_apart (numbers_of (P ++ D)) ≡ true
  apart-now = ap (λ xs. are_apart (numbers_of xs)) (sym (visits-parts now.nodes)) ∙ visits-different now around.trees

  apart-before : are_apart (numbers_of (P0 ++ D0)) ≡ true
  apart-before = ap (λ xs. are_apart (numbers_of xs)) (sym (visits-parts before.nodes)) ∙ visits-different before same.trees

  small-now : (n : ℕ) → has n (numbers_of (P ++ D)) ≡ true → nat_lt n (2 ^ 128) ≡ true
  small-now n h = around.below n (ap (λ xs. has n (numbers_of xs)) (visits-parts now.nodes) ∙ h)

  -- ---- the new numbers

  kept-number : (n : ℕ) → keeps_number n ≡ true → g n ≡ f n
  kept-number n h = ap (λ b. cond b (f n) (fresh n)) h

  new-number : (n : ℕ) → keeps_number n ≡ false → g n ≡ fresh n
  new-number n h = ap (λ b. cond b (f n) (fresh n)) h

  small-kept : (n : ℕ) → keeps_number n ≡ true → nat_lt (f n) (2 ^ 128) ≡ true
  small-kept n h = same.below n (and-true (has n (numbers_of P0)) (not (has (f n) (numbers_of D))) h).0

  not-fresh : (m n : ℕ) → nat_lt m (2 ^ 128) ≡ true → (m == fresh n) ≡ false
  not-fresh m n h = grind (arith, nat_tests, h)

  fresh-not : (m n : ℕ) → nat_lt m (2 ^ 128) ≡ true → (fresh n == m) ≡ false
  fresh-not m n h = grind (arith, nat_tests, h)

  fresh-same : (m n : ℕ) → (fresh m == fresh n) ≡ (m == n)
  fresh-same m n = grind (arith, nat_tests)

  fresh-nowhere : (n : ℕ) → has (fresh n) (numbers_of (P ++ D)) ≡ false
  fresh-nowhere n = by (has (fresh n) (numbers_of (P ++ D))) refl
    where
      too-great : nat_lt (fresh n) (2 ^ 128) ≡ true → true ≡ false
      too-great h = grind (arith, nat_tests, h)

      by : (b : Bool) → has (fresh n) (numbers_of (P ++ D)) ≡ b → b ≡ false
      by true e = too-great (small-now (fresh n) e)
      by false e = refl

  differ-by : (a c : ℕ) → keeps_number a ≡ true → keeps_number c ≡ false → (a == c) ≡ false
  differ-by a c h i = by (a == c) refl
    where
      by : (b : Bool) → (a == c) ≡ b → b ≡ false
      by true e = sym h ∙ ap keeps_number (eqb-true a c e) ∙ i
      by false e = refl

  differ-too : (a c : ℕ) → keeps_number a ≡ false → keeps_number c ≡ true → (a == c) ≡ false
  differ-too a c h i = by (a == c) refl
    where
      by : (b : Bool) → (a == c) ≡ b → b ≡ false
      by true e = sym i ∙ ap keeps_number (sym (eqb-true a c e)) ∙ h
      by false e = refl

  renumbers : IsRenumbering g
  renumbers a c = by (keeps_number a) (keeps_number c) refl refl
    where
      by : (h k : Bool) → keeps_number a ≡ h → keeps_number c ≡ k → (g a == g c) ≡ (a == c)
      by true true i j = ap (λ m. m == g c) (kept-number a i) ∙ ap (λ m. f a == m) (kept-number c j) ∙ same.renumbers a c
      by true false i j = ap (λ m. m == g c) (kept-number a i) ∙ ap (λ m. f a == m) (new-number c j) ∙ not-fresh (f a) c (small-kept a i) ∙ sym (differ-by a c i j)
      by false true i j = ap (λ m. m == g c) (new-number a i) ∙ ap (λ m. fresh a == m) (kept-number c j) ∙ fresh-not (f c) a (small-kept c j) ∙ sym (differ-too a c i j)
      by false false i j = ap (λ m. m == g c) (new-number a i) ∙ ap (λ m. fresh a == m) (new-number c j) ∙ fresh-same a c

  -- ---- what stands in front

  is-kept : (n : ℕ) → has n (numbers_of P0) ≡ true → has (f n) (numbers_of D) ≡ false → keeps_number n ≡ true
  is-kept n h i = ap (λ b. b && not (has (f n) (numbers_of D))) h ∙ ap not i

  kept : (n : ℕ) → has n (numbers_of P0) ≡ true → has (f n) (numbers_of P) ≡ true → g n ≡ f n
  kept n h i = kept-number n (is-kept n h (front-apart P D apart-now (f n) i))

  gone : (n : ℕ) → has n (numbers_of P0) ≡ true → has (f n) (numbers_of P) ≡ false → has (g n) (numbers_of (P ++ D)) ≡ false
  gone n h i = by (has (f n) (numbers_of D)) refl
    where
      by : (b : Bool) → has (f n) (numbers_of D) ≡ b → has (g n) (numbers_of (P ++ D)) ≡ false
      by true j = ap (λ m. has m (numbers_of (P ++ D))) (new-number n (ap (λ b. b && not (has (f n) (numbers_of D))) h ∙ ap not j)) ∙ fresh-nowhere n
      by false j = ap (λ m. has m (numbers_of (P ++ D))) (kept-number n (is-kept n h j)) ∙ has-both (f n) P D ∙ ap (λ b. b || has (f n) (numbers_of D)) i ∙ j

  away : (n : ℕ) → has n (numbers_of D0) ≡ true → has (g n) (numbers_of (P ++ D)) ≡ false
  away n h = by (has n (numbers_of P0)) refl
    where
      by : (b : Bool) → has n (numbers_of P0) ≡ b → has (g n) (numbers_of (P ++ D)) ≡ false
      by true i = no (sym (front-apart P0 D0 apart-before n i) ∙ h)
      by false i = ap (λ m. has m (numbers_of (P ++ D))) (new-number n (ap (λ b. b && not (has (f n) (numbers_of D))) i)) ∙ fresh-nowhere n

  beside-each : Each (λ y. (p : ℕ) → has p y.above ≡ true → has p (numbers_of P) ≡ false) D
  beside-each = each-map (λ y. (p : ℕ) → has p y.above ≡ true → has p (numbers_of D) ≡ true) (λ y. (p : ℕ) → has p y.above ≡ true → has p (numbers_of P) ≡ false) D
      (λ y h p i. by p (has p (numbers_of P)) refl (h p i)) (within (in_detached now.nodes))
    where
      by : (p : ℕ) (b : Bool) → has p (numbers_of P) ≡ b → has p (numbers_of D) ≡ true → b ≡ false
      by p true j k = sym k ∙ front-apart P D apart-now p j
      by p false j k = refl

  abbrev behind : Behind
  behind = record {
    f = f;
    g = g;
    texts = texts;
    lists = lists;
    now = P;
    past_now = D;
    before = P0;
    past_before = D0;
    apart = apart-now;
    apart_too = visits-apart g renumbers (P0 ++ D0) apart-before;
    apart_front = visits-apart f same.renumbers P0 (front-numbers P0 D0 apart-before);
    within = within (in_instances now.nodes);
    beside = beside-each;
    within_too = within (in_instances before.nodes);
    beside_too = within (in_detached before.nodes);
    kept = kept;
    gone = gone;
    away = away;
    nodes = same.nodes;
  }

  -- ---- the whole forests

  abbrev other : Forest
  other = renumbered_forest g before

  all-now : visits now.nodes ≡ P ++ D
  all-now = visits-parts now.nodes

  all-before : visits other.nodes ≡ map (renumbered_visit g) (P0 ++ D0)
  all-before = visits-renumbered g renumbers before.nodes ∙ ap (map (renumbered_visit g)) (visits-parts before.nodes)

  whole-nodes : SameNodes texts lists (visits now.nodes) (visits other.nodes)
  whole-nodes = subst (λ xs. SameNodes texts lists xs (visits other.nodes)) (sym all-now) (subst (λ xs. SameNodes texts lists (P ++ D) xs) (sym all-before) (same_nodes behind))

  -- no node of before has the number of a text of the shape
  no-text : (k n : ℕ) → has k (numbers_of (visits other.nodes)) ≡ true → has n (numbers_of (visits now.nodes)) ≡ true → (k == text_number n) ≡ false
  no-text k n h i =
      let m = number-from g renumbers k (P0 ++ D0) (ap (λ xs. has k (numbers_of xs)) (sym all-before) ∙ h) in
      ap (λ j. j == text_number n) m.1 ∙ by m.0 (keeps_number m.0) refl
    where
      small : nat_lt n (2 ^ 128) ≡ true
      small = around.below n i

      less : (j : ℕ) → nat_lt j (2 ^ 128) ≡ true → (j == text_number n) ≡ false
      less j e = grind (arith, nat_tests, e)

      more : (j : ℕ) → (fresh j == text_number n) ≡ false
      more j = let e = small in grind (arith, nat_tests, e)

      by : (j : ℕ) (b : Bool) → keeps_number j ≡ b → (g j == text_number n) ≡ false
      by j true e = ap (λ l. l == text_number n) (kept-number j e) ∙ less (f j) (small-kept j e)
      by j false e = ap (λ l. l == text_number n) (new-number j e) ∙ more j

  whole-both : (n : ℕ) → IsInBoth P F n → InBoth now other n
  whole-both n h =
      let one = found-out (λ y. not (is_text y.content)) n (map erased P) h.0 (erased-apart P (front-numbers P D apart-now)) h.1 in
      let two = found-out (λ y. not (is_text y.content)) n (map erased F) h.0 (erased-apart F behind.apart_front) h.2 in
      let here : has n (numbers_of P) ≡ true = ap (has n) (sym (map-map (λ (y : Visit). y.number) erased P)) ∙ present n (map erased P) h.0 one.0 in (
        h.0,
        ap (λ xs. found n (untexted (map erased xs))) all-now
            ∙ found-in (λ y. not (is_text y.content)) n (map erased (P ++ D)) h.0 (erased-apart (P ++ D) apart-now) (erased-now behind n here ∙ one.0) one.1,
        ap (λ xs. found n (untexted (map erased xs))) all-before
            ∙ found-in (λ y. not (is_text y.content)) n (map erased (map (renumbered_visit g) (P0 ++ D0))) h.0 (erased-apart (map (renumbered_visit g) (P0 ++ D0)) behind.apart_too) (erased-before behind n here ∙ two.0) two.1,
      )

  -- the list around a node of an instance is the same in the whole
  same-around : (n : ℕ) → IsSolid P n → list_around (bare now) n ≡ list_around (map erased P) n
  same-around n h =
      let one = found-out (λ y. not (is_text y.content)) n (map erased P) h.0 (erased-apart P (front-numbers P D apart-now)) h.1 in
      let here : has n (numbers_of P) ≡ true = ap (has n) (sym (map-map (λ (y : Visit). y.number) erased P)) ∙ present n (map erased P) h.0 one.0 in
      ap (λ xs. list_around (map erased xs) n) all-now ∙ ap parent_in (erased-now behind n here)

  -- a document element of both keeps its number
  document-number : (m n : ℕ) → f m ≡ n → IsInBoth P F n → g m ≡ n
  document-number m n e h =
      let one = found-out (λ y. not (is_text y.content)) n (map erased P) h.0 (erased-apart P (front-numbers P D apart-now)) h.1 in
      let two = found-out (λ y. not (is_text y.content)) n (map erased F) h.0 (erased-apart F behind.apart_front) h.2 in
      let here : has n (numbers_of P) ≡ true = ap (has n) (sym (map-map (λ (y : Visit). y.number) erased P)) ∙ present n (map erased P) h.0 one.0 in
      let was = number-from f same.renumbers n P0 (ap (has n) (sym (map-map (λ (y : Visit). y.number) erased F)) ∙ present n (map erased F) h.0 two.0) in
      let is : m ≡ was.0 = eqb-true m was.0 (sym (same.renumbers m was.0) ∙ ap (λ k. k == f was.0) (e ∙ was.1) ∙ itself (f was.0)) in
      kept m (ap (λ k. has k (numbers_of P0)) is ∙ was.2) (ap (λ k. has k (numbers_of P)) e ∙ here) ∙ e
    where
      itself : (k : ℕ) → (k == k) ≡ true
      itself k = grind (arith, nat_tests)

  whole : SameBut texts lists scope (map (renumbered_document g) documents) now other
  whole = record {
    trees = trees-too g renumbers before same.trees;
    hung = subst AreHung (sym (visits-renumbered g renumbers before.nodes)) (hung-too g renumbers (visits before.nodes) (visits-different before same.trees) same.hung);
    numbers = no-text;
    nodes = whole-nodes;
    same = λ id n e free.
        let x = same.same id n e (λ m h. free m (ap (has m) (same-around n (same.documents_stand id n e)) ∙ h)) in
        (document_of-renumbered g scope.model id documents ∙ ap (option_map g) x.1 ∙ ap Some (document-number x.0 n x.2 x.3), whole-both n x.3);
    absent = λ id e. document_of-renumbered g scope.model id documents ∙ ap (option_map g) (same.absent id e);
  }

pub whole_forests : WholeForests
whole_forests f most texts lists scope documents now before around same =
    (g f most texts lists scope documents now before around same, renumbers f most texts lists scope documents now before around same, whole f most texts lists scope documents now before around same, kept f most texts lists scope documents now before around same)

-- ---- entries

solid-whole : (xs ys : List Visit) → are_apart (numbers_of (xs ++ ys)) ≡ true → (n : ℕ) → IsSolid xs n → IsSolid (xs ++ ys) n
solid-whole xs ys apart n h =
    let one = found-out (λ y. not (is_text y.content)) n (map erased xs) h.0 (erased-apart xs (front-numbers xs ys apart)) h.1 in (
      h.0,
      found-in (λ y. not (is_text y.content)) n (map erased (xs ++ ys)) h.0 (erased-apart (xs ++ ys) apart)
          (ap (found n) (map-append erased xs ys) ∙ found-append n (map erased xs) (map erased ys) ∙ ap (λ m. or_later m (found n (map erased ys))) one.0) one.1,
    )

module _ (f : ℕ → ℕ) (most : ℕ) (scope : Scope) (documents : List Document) (now before : Forest) (changes : Changes) (entries : List Entry) (e old : Entry) (expr : Expr)
    (since : SinceInstances f most scope documents now before changes entries) (h : OldInInstances f scope now before changes entries e old expr) where
  abbrev marked : List ℕ
  marked = touched scope now changes entries

  abbrev to : ℕ → ℕ
  to = g f most marked changes.lists scope documents now before since.around since.same

  whole-since : Since to most scope documents now before changes entries
  whole-since = record {
    renumbers = renumbers f most marked changes.lists scope documents now before since.around since.same;
    around = since.around;
    same_but = whole f most marked changes.lists scope documents now before since.around since.same;
  }

  whole-solid : (forest : Forest) → are_apart (numbers_of (visits forest.nodes)) ≡ true → (n : ℕ) → IsSolid (standing forest) n → IsSolid (visits forest.nodes) n
  whole-solid forest apart n i = subst (λ xs. IsSolid xs n) (sym (visits-parts forest.nodes))
      (solid-whole (standing forest) (visits (in_detached forest.nodes)) (ap (λ xs. are_apart (numbers_of xs)) (sym (visits-parts forest.nodes)) ∙ apart) n i)

  number-of : (forest : Forest) → are_apart (numbers_of (visits forest.nodes)) ≡ true → (n : ℕ) → IsSolid (standing forest) n → has n (numbers_of (standing forest)) ≡ true
  number-of forest apart n i =
      let front = front-numbers (standing forest) (visits (in_detached forest.nodes)) (ap (λ xs. are_apart (numbers_of xs)) (sym (visits-parts forest.nodes)) ∙ apart) in
      let one = found-out (λ y. not (is_text y.content)) n (map erased (standing forest)) i.0 (erased-apart (standing forest) front) i.1 in
      ap (has n) (sym (map-map (λ (y : Visit). y.number) erased (standing forest))) ∙ present n (map erased (standing forest)) i.0 one.0

  node_same : e.node ≡ old.node
  node_same = eqb-true e.node old.node (and-true (e.node == old.node) _ (and-true (sets_same e old) _ (and-true (is_same e old) _ h.stands).0).0).0

  old-outside : OldOutside to scope now before changes entries e old expr
  old-outside = record {
    of = h.of;
    outside = h.outside;
    stands = h.stands;
    node = whole-solid now (visits-different now since.around.trees) e.node h.node;
    had = (
      whole-solid before (visits-different before since.same.trees) old.node h.had,
      kept f most marked changes.lists scope documents now before since.around since.same old.node (number-of before (visits-different before since.same.trees) old.node h.had)
          (ap (λ n. has n (numbers_of (standing now))) (h.number ∙ sym node_same) ∙ number-of now (visits-different now since.around.trees) e.node h.node)
          ∙ h.number,
    );
  }

pub instances_truth : InstancesTruth
instances_truth most scope documents indexes event now before f changes entries e old expr since h =
    outside_truth most scope documents indexes event now before (to f most scope documents now before changes entries e old expr since h) changes entries e old expr
    (whole-since f most scope documents now before changes entries e old expr since h) (old-outside f most scope documents now before changes entries e old expr since h)

pub instances_text : InstancesText
instances_text most scope documents indexes event now before f changes entries e old expr since h =
    outside_text most scope documents indexes event now before (to f most scope documents now before changes entries e old expr since h) changes entries e old expr
    (whole-since f most scope documents now before changes entries e old expr since h) (old-outside f most scope documents now before changes entries e old expr since h)
