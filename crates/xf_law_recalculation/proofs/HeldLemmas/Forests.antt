-- The part of a model is a forest: a list of trees, in which texts stand in elements, without a detached tree.
use Rattle.std.proofs.Common.{◌≡◌, ℕ, suc, ◌==◌, Bool, true, false, not, cond, ◌&&◌, ◌||◌, List, [], ◌∷◌, map, nat_lt, refl, sym, ap, ◌∙◌, arith}
use Rattle.std.specs.Prelude.{filter, nat_le}
use Rattle.std.specs.List.{list_all}
use Rattle.std.proofs.lemmas.Bool.{eqb-true}
use Rattle.std.proofs.lemmas.Bool.Decides.{nat_tests}
use Rattle.xf_def_forest.specs.declared.content.Node.{Node}
use Rattle.xf_def_forest.specs.Forest.{Forest, is_root, is_attribute, is_element, has_number}
use Rattle.xf_def_forest.specs.Visit.{has}
use Rattle.xf_def_forest.specs.Changes.{is_detached_top, in_instances, in_detached}
use Rattle.xf_def_forest.specs.WellFormed.{are_apart, are_below, reach, are_depths_from, stands_first, are_first, are_tops, HasTrees}
use Rattle.xf_def_forest.proofs.BackLaws.{and-true, or-false, not-true}
use Rattle.xf_def_xpath.proofs.VisitFacts.{no, self-same, or-right}
use Rattle.xf_law_forests.specs.Root.Roots.{roots_in}
use Rattle.xf_law_recalculation.specs.Elsewhere.Parts.{is_under, trees_from}
use Rattle.xf_law_recalculation.proofs.ElsewhereLemmas.Own.{has_root}
use Rattle.xf_law_recalculation.proofs.ElsewhereLemmas.Trees.{both, in-all}

module _ (tops : List ℕ) where
  abbrev led : Node → List Node → Bool → List Node
  led x xs b = cond b (x ∷ trees_from tops b xs) (trees_from tops b xs)

  all-part : (test : Node → Bool) (before : Bool) (xs : List Node) → list_all test xs ≡ true → list_all test (trees_from tops before xs) ≡ true
  all-part test before [] h = refl
  all-part test before (x ∷ xs) h = by (is_under tops before x) (λ b. all-part test b xs ps.1)
    where
      ps : (test x ≡ true) × (list_all test xs ≡ true)
      ps = and-true (test x) (list_all test xs) h

      by : (b : Bool) → ((c : Bool) → list_all test (trees_from tops c xs) ≡ true) → list_all test (led x xs b) ≡ true
      by true f = both (test x) (list_all test (trees_from tops true xs)) ps.0 (f true)
      by false f = f false

  apart-part : (before : Bool) (xs : List Node) → are_apart xs ≡ true → are_apart (trees_from tops before xs) ≡ true
  apart-part before [] h = refl
  apart-part before (x ∷ xs) h = by (is_under tops before x) (λ b. apart-part b xs ps.1)
    where
      ps : (not (has_number x.number xs) ≡ true) × (are_apart xs ≡ true)
      ps = and-true (not (has_number x.number xs)) (are_apart xs) h

      by : (b : Bool) → ((c : Bool) → are_apart (trees_from tops c xs) ≡ true) → are_apart (led x xs b) ≡ true
      by true f = both (not (has_number x.number (trees_from tops true xs))) (are_apart (trees_from tops true xs)) (ap not (in-all tops x.number true xs (not-true (has_number x.number xs) ps.0))) (f true)
      by false f = f false

  -- a top may stand after whatever node
  top-fits : (most : ℕ) (x : Node) → (x.depth == 0) ≡ true → nat_le x.depth most ≡ true
  top-fits most x h = grind (arith, nat_tests, h)

  -- where the last node is not in the part, the next one of it is a top, so that it does not count how deep it might be
  depths-part : (most least : ℕ) (before : Bool) (xs : List Node) → are_depths_from most xs ≡ true → (before ≡ true → most ≡ least) → are_depths_from least (trees_from tops before xs) ≡ true
  depths-part most least before [] h i = refl
  depths-part most least before (x ∷ xs) h i = by (x.depth == 0) refl (λ l b k. depths-part (reach x) l b xs ps.1 k)
    where
      ps : (nat_le x.depth most ≡ true) × (are_depths_from (reach x) xs ≡ true)
      ps = and-true (nat_le x.depth most) (are_depths_from (reach x) xs) h

      Later : Type 0
      Later = (l : ℕ) (b : Bool) → (b ≡ true → reach x ≡ l) → are_depths_from l (trees_from tops b xs) ≡ true

      of : (b : Bool) → nat_le x.depth least ≡ true → Later → are_depths_from least (led x xs b) ≡ true
      of true j f = both (nat_le x.depth least) (are_depths_from (reach x) (trees_from tops true xs)) j (f (reach x) true (λ k. refl))
      of false j f = f least false (λ k. no k)

      by : (c : Bool) → (x.depth == 0) ≡ c → Later → are_depths_from least (led x xs (is_under tops before x)) ≡ true
      by true e f = of (is_under tops before x) (top-fits least x e) f
      by false e f = under before i (ap (λ c. cond c (has x.number tops) before) e)
        where
          under : (b : Bool) → (b ≡ true → most ≡ least) → is_under tops before x ≡ b → are_depths_from least (led x xs (is_under tops before x)) ≡ true
          under true j k = of (is_under tops before x) (ap (nat_le x.depth) (sym (j refl)) ∙ ps.0) f
          under false j k = ap (λ b. are_depths_from least (led x xs b)) k ∙ f least false (λ l. no l)

  -- ---- attributes

  -- a node may come first after another one
  abbrev Comes : Node → List Node → Type 0
  Comes z xs = are_first (z ∷ xs) ≡ true

  top-first : (z x : Node) → (x.depth == 0) ≡ true → stands_first z x ≡ true
  top-first z x h = by (is_attribute x.content)
    where
      by : (b : Bool) → (not b || (x.depth == 0) || (is_element z.content && (suc z.depth == x.depth)) || (is_attribute z.content && (z.depth == x.depth))) ≡ true
      by true = ap (λ c. c || (is_element z.content && (suc z.depth == x.depth)) || (is_attribute z.content && (z.depth == x.depth))) h
      by false = refl

  tail-first : (x : Node) (xs : List Node) → are_first (x ∷ xs) ≡ true → are_first xs ≡ true
  tail-first x [] h = refl
  tail-first x (y ∷ ys) h = (and-true (stands_first x y) (are_first (y ∷ ys)) h).1

  -- after a node of the part, and after one that is not in it, whatever node of the part came last
  abbrev Fits : List Node → Type 0
  Fits xs = ((z : Node) → are_first (z ∷ xs) ≡ true → are_first (z ∷ trees_from tops true xs) ≡ true) × ((z : Node) → are_first xs ≡ true → are_first (z ∷ trees_from tops false xs) ≡ true)

  fits : (xs : List Node) → Fits xs
  fits [] = (λ z h. refl, λ z h. refl)
  fits (x ∷ xs) = of (fits xs)
    where
      of : Fits xs → Fits (x ∷ xs)
      of f = (λ z h. after z h (is_under tops true x), λ z h. behind z h (x.depth == 0) refl)
        where
          after : (z : Node) → are_first (z ∷ x ∷ xs) ≡ true → (b : Bool) → are_first (z ∷ led x xs b) ≡ true
          after z h true =
              let ps = and-true (stands_first z x) (are_first (x ∷ xs)) h in both (stands_first z x) (are_first (x ∷ trees_from tops true xs)) ps.0 (f.0 x ps.1)
          after z h false = f.1 z (tail-first x xs (and-true (stands_first z x) (are_first (x ∷ xs)) h).1)

          behind : (z : Node) → are_first (x ∷ xs) ≡ true → (c : Bool) → (x.depth == 0) ≡ c → are_first (z ∷ led x xs (is_under tops false x)) ≡ true
          behind z h true e = by (is_under tops false x)
            where
              by : (b : Bool) → are_first (z ∷ led x xs b) ≡ true
              by true = both (stands_first z x) (are_first (x ∷ trees_from tops true xs)) (top-first z x e) (f.0 x h)
              by false = f.1 z (tail-first x xs h)
          behind z h false e = ap (λ b. are_first (z ∷ led x xs b)) (ap (λ c. cond c (has x.number tops) false) e) ∙ f.1 z (tail-first x xs h)

  first-part : (xs : List Node) → are_first xs ≡ true → are_first (trees_from tops false xs) ≡ true
  first-part [] h = refl
  first-part (x ∷ xs) h = tail-first x (trees_from tops false (x ∷ xs)) ((fits (x ∷ xs)).1 x h)

  -- the part is a list of trees
  pub part-trees : (next : ℕ) (forest : Forest) → HasTrees forest → are_below next forest.nodes ≡ true → HasTrees (record { nodes = trees_from tops false forest.nodes; next = next })
  part-trees next forest h below = record {
    apart = apart-part false forest.nodes h.apart;
    below = all-part (λ x. nat_lt x.number next) false forest.nodes below;
    depths = depths-part 0 0 false forest.nodes h.depths (λ e. refl);
    tops = all-part (λ x. not (is_root x.content) || (x.depth == 0)) false forest.nodes h.tops;
    first = first-part forest.nodes h.first;
  }

  -- ---- no tree of it is detached

  -- each of these tops is a root
  abbrev pub AreRoots : List Node → Type 0
  AreRoots xs = list_all (λ x. not (has x.number tops) || is_root x.content) xs ≡ true

  pub roots-told : (xs : List Node) → are_apart xs ≡ true → ((n : ℕ) → has_number n xs ≡ true → has n tops ≡ true → has_root n xs ≡ true) → AreRoots xs
  roots-told [] a h = refl
  roots-told (x ∷ xs) a h = both (not (has x.number tops) || is_root x.content) (list_all (λ y. not (has y.number tops) || is_root y.content) xs) (here (has x.number tops) refl) (roots-told xs ps.1 rest)
    where
      ps : (not (has_number x.number xs) ≡ true) × (are_apart xs ≡ true)
      ps = and-true (not (has_number x.number xs)) (are_apart xs) a

      none : (n : ℕ) (ys : List Node) → has_number n ys ≡ false → has_root n ys ≡ false
      none n [] i = refl
      none n (y ∷ ys) i = let qs = or-false (y.number == n) (has_number n ys) i in ap (λ b. (b && is_root y.content) || has_root n ys) qs.0 ∙ none n ys qs.1

      or-none : (b : Bool) → (b || false) ≡ b
      or-none true = refl
      or-none false = refl

      here : (b : Bool) → has x.number tops ≡ b → (not b || is_root x.content) ≡ true
      here false e = refl
      here true e =
          sym (or-none (is_root x.content))
          ∙ ap (λ b. is_root x.content || b) (sym (none x.number xs (not-true (has_number x.number xs) ps.0)))
          ∙ ap (λ b. (b && is_root x.content) || has_root x.number xs) (sym (self-same x.number))
          ∙ h x.number (ap (λ b. b || has_number x.number xs) (self-same x.number)) e

      rest : (n : ℕ) → has_number n xs ≡ true → has n tops ≡ true → has_root n xs ≡ true
      rest n i j = by (x.number == n) refl (h n (or-right (x.number == n) (has_number n xs) i) j)
        where
          by : (b : Bool) → (x.number == n) ≡ b → ((b && is_root x.content) || has_root n xs) ≡ true → has_root n xs ≡ true
          by true e k = no (sym (not-true (has_number x.number xs) ps.0) ∙ ap (λ m. has_number m xs) (eqb-true x.number n e) ∙ i)
          by false e k = k

  abbrev attached : Node → Bool
  attached x = not (is_detached_top x)

  none-detached : (before : Bool) (xs : List Node) → AreRoots xs → list_all attached (trees_from tops before xs) ≡ true
  none-detached before [] h = refl
  none-detached before (x ∷ xs) h = by (x.depth == 0) (has x.number tops) refl refl (λ b. none-detached b xs ps.1)
    where
      ps : ((not (has x.number tops) || is_root x.content) ≡ true) × AreRoots xs
      ps = and-true (not (has x.number tops) || is_root x.content) (list_all (λ y. not (has y.number tops) || is_root y.content) xs) h

      Later : Type 0
      Later = (b : Bool) → list_all attached (trees_from tops b xs) ≡ true

      kept_on : attached x ≡ true → Later → (b : Bool) → list_all attached (led x xs b) ≡ true
      kept_on e f true = both (attached x) (list_all attached (trees_from tops true xs)) e (f true)
      kept_on e f false = f false

      by : (c d : Bool) → (x.depth == 0) ≡ c → has x.number tops ≡ d → Later → list_all attached (led x xs (is_under tops before x)) ≡ true
      by true true e i f =
          kept_on (ap (λ c. not (c && not (is_root x.content))) e ∙ ap (λ r. not (not r)) (sym (ap (λ d. not d || is_root x.content) i) ∙ ps.0)) f (is_under tops before x)
      by true false e i f = ap (λ b. list_all attached (led x xs b)) (ap (λ c. cond c (has x.number tops) before) e ∙ i) ∙ f false
      by false d e i f = kept_on (ap (λ c. not (c && not (is_root x.content))) e) f (is_under tops before x)

  all-attached : (xs : List Node) → list_all attached xs ≡ true → (in_instances xs ≡ xs) × (in_detached xs ≡ [])
  all-attached [] h = (refl, refl)
  all-attached (x ∷ xs) h =
      let ps = and-true (attached x) (list_all attached xs) h in
      let rest = all-attached xs ps.1 in
      let none = not-true (is_detached_top x) ps.0 in (
        ap (λ b. cond b [] (x ∷ in_instances xs)) none ∙ ap (λ l. x ∷ l) rest.0,
        ap (λ b. cond b (x ∷ xs) (in_detached xs)) none ∙ rest.1,
      )

  pub part-attached : (before : Bool) (xs : List Node) → AreRoots xs → (in_instances (trees_from tops before xs) ≡ trees_from tops before xs) × (in_detached (trees_from tops before xs) ≡ [])
  part-attached before xs h = all-attached (trees_from tops before xs) (none-detached before xs h)

  -- ---- its roots

  pub part-roots : (before : Bool) (xs : List Node) → are_tops xs ≡ true → roots_in (trees_from tops before xs) ≡ filter (λ n. has n tops) (roots_in xs)
  part-roots before [] h = refl
  part-roots before (x ∷ xs) h = by (is_root x.content) (x.depth == 0) refl refl (λ b. part-roots b xs ps.1)
    where
      ps : ((not (is_root x.content) || (x.depth == 0)) ≡ true) × (are_tops xs ≡ true)
      ps = and-true (not (is_root x.content) || (x.depth == 0)) (are_tops xs) h

      Later : Type 0
      Later = (b : Bool) → roots_in (trees_from tops b xs) ≡ filter (λ n. has n tops) (roots_in xs)

      roots_led : (r : Bool) → List Node → List ℕ
      roots_led r ys = map (λ (y : Node). y.number) (cond r (x ∷ filter (λ y. is_root y.content) ys) (filter (λ y. is_root y.content) ys))

      plain : is_root x.content ≡ false → Later → (b : Bool) → roots_in (led x xs b) ≡ filter (λ n. has n tops) (roots_in xs)
      plain e f true = ap (λ r. roots_led r (trees_from tops true xs)) e ∙ f true
      plain e f false = f false

      root : is_root x.content ≡ true → Later → (b : Bool) → roots_in (led x xs b) ≡ cond b (x.number ∷ filter (λ n. has n tops) (roots_in xs)) (filter (λ n. has n tops) (roots_in xs))
      root e f true = ap (λ r. roots_led r (trees_from tops true xs)) e ∙ ap (λ l. x.number ∷ l) (f true)
      root e f false = f false

      by : (r c : Bool) → is_root x.content ≡ r → (x.depth == 0) ≡ c → Later → roots_in (led x xs (is_under tops before x)) ≡ filter (λ n. has n tops) (roots_led (is_root x.content) xs)
      by true true e i f =
          ap (λ b. roots_in (led x xs b)) (ap (λ c. cond c (has x.number tops) before) i) ∙ root e f (has x.number tops) ∙ sym (ap (λ r. filter (λ n. has n tops) (roots_led r xs)) e)
      by true false e i f = no (sym (ap (λ r. not r || (x.depth == 0)) e ∙ i) ∙ ps.0)
      by false c e i f = plain e f (is_under tops before x) ∙ sym (ap (λ r. filter (λ n. has n tops) (roots_led r xs)) e)
