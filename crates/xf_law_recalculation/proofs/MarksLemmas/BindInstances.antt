-- What binds apply over a forest they apply over its instances: detached trees make no difference.
use Rattle.std.proofs.Common.{◌≡◌, ℕ, ◌==◌, Bool, true, false, not, cond, ◌&&◌, ◌||◌, List, [], ◌∷◌, ◌++◌, map, nat_lt, Some, refl, sym, ap, ◌∙◌}
use Rattle.std.specs.Prelude.{filter, nat_le}
use Rattle.std.specs.List.{list_any, list_all}
use Rattle.std.proofs.lemmas.List.{map-append}
use Rattle.xf_def_forest.specs.declared.content.Node.{Node}
use Rattle.xf_def_forest.specs.Forest.{Forest, is_root, is_text, has_number}
use Rattle.xf_def_forest.specs.Visit.{Visit, visits, has, is_first}
use Rattle.xf_def_forest.specs.Shape.{erased, shape}
use Rattle.xf_def_forest.specs.Changes.{is_detached_top, in_instances, in_detached}
use Rattle.xf_def_forest.specs.WellFormed.{are_apart as nodes_apart, reach, are_depths_from, stands_first, are_first, HasTrees}
use Rattle.xf_def_forest.proofs.BackLaws.{and-true, not-true}
use Rattle.xf_def_forest.proofs.OrderLaws.{visits-different}
use Rattle.xf_def_xpath.specs.Asked.{found}
use Rattle.xf_def_xpath.specs.Agree.{numbers_of, are_apart, untexted, list_of}
use Rattle.xf_def_xpath.proofs.VisitFacts.{self-same, or-left, or-right, no, some-same, filter-append, present}
use Rattle.xf_def_xpath.proofs.ForestVisits.{Each, each-found, each-filter}
use Rattle.xf_def_model.specs.Rules.{Scope}
use Rattle.xf_law_recalculation.specs.Agree.Settles.{AreHung}
use Rattle.xf_law_recalculation.specs.Agree.Forests.{bare, InBoth}
use Rattle.xf_law_recalculation.specs.Marks.Binds.{bind_looks, SameStructure, instances_of, HasInstances, BindOfInstances, BindStaysInInstances}
use Rattle.xf_law_recalculation.proofs.MarksLemmas.Behind.{append-none, has-both, numbers-append, front-apart, filter-no, none-of, numbers-erased, erased-apart, or_later, found-append}
use Rattle.xf_law_recalculation.proofs.MarksLemmas.Standing.{visits-parts, within}
use Rattle.xf_law_recalculation.proofs.MarksLemmas.TextLists.{standing-at}
use Rattle.xf_law_recalculation.proofs.MarksLemmas.BindStays.{bind_stays}

-- ---- the front of a list of trees

and-both : (a b : Bool) → a ≡ true → b ≡ true → (a && b) ≡ true
and-both true b h i = i
and-both false b h i = h

pub front-number : (n : ℕ) (nodes : List Node) → has_number n nodes ≡ false → has_number n (in_instances nodes) ≡ false
front-number n [] h = refl
front-number n (x ∷ xs) h = by (is_detached_top x) (x.number == n) refl h (front-number n xs)
  where
    by : (b c : Bool) → (x.number == n) ≡ c → (c || has_number n xs) ≡ false → (has_number n xs ≡ false → has_number n (in_instances xs) ≡ false) → has_number n (cond b [] (x ∷ in_instances xs)) ≡ false
    by true c e i below = refl
    by false true e i below = no (sym i)
    by false false e i below = ap (λ d. d || has_number n (in_instances xs)) e ∙ below i

front-apart_too : (nodes : List Node) → nodes_apart nodes ≡ true → nodes_apart (in_instances nodes) ≡ true
front-apart_too [] h = refl
front-apart_too (x ∷ xs) h = by (is_detached_top x) (front-apart_too xs)
  where
    parts : (not (has_number x.number xs) ≡ true) × (nodes_apart xs ≡ true)
    parts = and-true (not (has_number x.number xs)) (nodes_apart xs) h

    by : (b : Bool) → (nodes_apart xs ≡ true → nodes_apart (in_instances xs) ≡ true) → nodes_apart (cond b [] (x ∷ in_instances xs)) ≡ true
    by true below = refl
    by false below = and-both (not (has_number x.number (in_instances xs))) (nodes_apart (in_instances xs)) (ap not (front-number x.number xs (not-true (has_number x.number xs) parts.0))) (below parts.1)

front-all : (p : Node → Bool) (nodes : List Node) → list_all p nodes ≡ true → list_all p (in_instances nodes) ≡ true
front-all p [] h = refl
front-all p (x ∷ xs) h = by (is_detached_top x) (front-all p xs)
  where
    parts : (p x ≡ true) × (list_all p xs ≡ true)
    parts = and-true (p x) (list_all p xs) h

    by : (b : Bool) → (list_all p xs ≡ true → list_all p (in_instances xs) ≡ true) → list_all p (cond b [] (x ∷ in_instances xs)) ≡ true
    by true below = refl
    by false below = and-both (p x) (list_all p (in_instances xs)) parts.0 (below parts.1)

front-depths : (most : ℕ) (nodes : List Node) → are_depths_from most nodes ≡ true → are_depths_from most (in_instances nodes) ≡ true
front-depths most [] h = refl
front-depths most (x ∷ xs) h = by (is_detached_top x) (front-depths (reach x) xs)
  where
    parts : (nat_le x.depth most ≡ true) × (are_depths_from (reach x) xs ≡ true)
    parts = and-true (nat_le x.depth most) (are_depths_from (reach x) xs) h

    by : (b : Bool) → (are_depths_from (reach x) xs ≡ true → are_depths_from (reach x) (in_instances xs) ≡ true) → are_depths_from most (cond b [] (x ∷ in_instances xs)) ≡ true
    by true below = refl
    by false below = and-both (nat_le x.depth most) (are_depths_from (reach x) (in_instances xs)) parts.0 (below parts.1)

front-first : (nodes : List Node) → are_first nodes ≡ true → are_first (in_instances nodes) ≡ true
front-first [] h = refl
front-first (x ∷ []) h = by (is_detached_top x)
  where
    by : (b : Bool) → are_first (cond b [] (x ∷ [])) ≡ true
    by true = refl
    by false = refl
front-first (x ∷ y ∷ ys) h = by (is_detached_top x) (is_detached_top y) refl (front-first (y ∷ ys) parts.1)
  where
    parts : (stands_first x y ≡ true) × (are_first (y ∷ ys) ≡ true)
    parts = and-true (stands_first x y) (are_first (y ∷ ys)) h

    by : (b c : Bool) → is_detached_top y ≡ c → are_first (in_instances (y ∷ ys)) ≡ true → are_first (cond b [] (x ∷ in_instances (y ∷ ys))) ≡ true
    by true c e i = refl
    by false true e i = ap (λ d. are_first (x ∷ cond d [] (y ∷ in_instances ys))) e
    by false false e i =
        ap (λ d. are_first (x ∷ cond d [] (y ∷ in_instances ys))) e
        ∙ and-both (stands_first x y) (are_first (y ∷ in_instances ys)) parts.0 (sym (ap (λ d. are_first (cond d [] (y ∷ in_instances ys))) e) ∙ i)

pub front-trees : (forest : Forest) → HasTrees forest → HasTrees (instances_of forest)
front-trees forest h = record {
  apart = front-apart_too forest.nodes h.apart;
  below = front-all (λ x. nat_lt x.number forest.next) forest.nodes h.below;
  depths = front-depths 0 forest.nodes h.depths;
  tops = front-all (λ x. not (is_root x.content) || (x.depth == 0)) forest.nodes h.tops;
  first = front-first forest.nodes h.first;
}

all-of : (p : ℕ → Bool) (ns : List ℕ) → ((k : ℕ) → has k ns ≡ true → p k ≡ true) → filter p ns ≡ ns
all-of p [] h = refl
all-of p (n ∷ ns) h = ap (λ b. cond b (n ∷ filter p ns) (filter p ns)) (h n (or-left (n == n) (has n ns) (self-same n))) ∙ ap (λ l. n ∷ l) (all-of p ns (λ k i. h k (or-right (k == n) (has k ns) i)))

nothing-marked : (ns : List ℕ) → list_any (λ n. has n []) ns ≡ false
nothing-marked [] = refl
nothing-marked (n ∷ ns) = nothing-marked ns

module _ (scope : Scope) (forest : Forest) (h : HasInstances scope forest) where
  abbrev P : List Visit
  P = visits (in_instances forest.nodes)

  abbrev D : List Visit
  D = visits (in_detached forest.nodes)

  abbrev part : Forest
  part = instances_of forest

  whole : visits forest.nodes ≡ P ++ D
  whole = visits-parts forest.nodes

  apart : are_apart (numbers_of (P ++ D)) ≡ true
  apart = ap (λ xs. are_apart (numbers_of xs)) (sym whole) ∙ visits-different forest h.trees

  abbrev X : List Visit
  X = untexted (map erased P)

  abbrev Y : List Visit
  Y = untexted (map erased D)

  bare-parts : bare forest ≡ map erased P ++ map erased D
  bare-parts = ap (map erased) whole ∙ map-append erased P D

  untexted-parts : untexted (bare forest) ≡ X ++ Y
  untexted-parts = ap untexted bare-parts ∙ filter-append (λ y. not (is_text y.content)) (map erased P) (map erased D)

  erased-parts-apart : are_apart (numbers_of (map erased P ++ map erased D)) ≡ true
  erased-parts-apart = ap (λ xs. are_apart (numbers_of xs)) (sym (map-append erased P D)) ∙ erased-apart (P ++ D) apart

  solid-number : (n : ℕ) (xs : List Visit) → has n (numbers_of (untexted (map erased xs))) ≡ true → has n (numbers_of xs) ≡ true
  solid-number n xs i = by (standing-at n (untexted (map erased xs)) i)
    where
      by : (z : Visit) × (found n (untexted (map erased xs)) ≡ Some z) → has n (numbers_of xs) ≡ true
      by z = ap (has n) (sym (numbers-erased xs)) ∙ within-filter (map erased xs) i
        where
          within-filter : (ys : List Visit) → has n (numbers_of (untexted ys)) ≡ true → has n (numbers_of ys) ≡ true
          within-filter [] j = j
          within-filter (y ∷ ys) j = of (is_text y.content) j (within-filter ys)
            where
              of : (b : Bool) → has n (numbers_of (cond (not b) (y ∷ untexted ys) (untexted ys))) ≡ true → (has n (numbers_of (untexted ys)) ≡ true → has n (numbers_of ys) ≡ true) → has n (numbers_of (y ∷ ys)) ≡ true
              of true k below = or-right (n == y.number) (has n (numbers_of ys)) (below k)
              of false k below = first (n == y.number) refl k below
                where
                  first : (c : Bool) → (n == y.number) ≡ c → (c || has n (numbers_of (untexted ys))) ≡ true → (has n (numbers_of (untexted ys)) ≡ true → has n (numbers_of ys) ≡ true) → (c || has n (numbers_of ys)) ≡ true
                  first true e l m = refl
                  first false e l m = m l

  found-front : (n : ℕ) (y : Visit) → found n (map erased P) ≡ Some y → found n (bare forest) ≡ Some y
  found-front n y i = ap (found n) bare-parts ∙ found-append n (map erased P) (map erased D) ∙ ap (λ m. or_later m (found n (map erased D))) i

  solid-front : (n : ℕ) (y : Visit) → found n X ≡ Some y → found n (untexted (bare forest)) ≡ Some y
  solid-front n y i = ap (found n) untexted-parts ∙ found-append n X Y ∙ ap (λ m. or_later m (found n Y)) i

  order : filter (λ n. has n (numbers_of X)) (numbers_of (untexted (bare forest))) ≡ filter (λ n. has n (numbers_of (untexted (bare forest)))) (numbers_of X)
  order =
      ap (λ xs. filter (λ n. has n (numbers_of X)) (numbers_of xs)) untexted-parts
      ∙ ap (filter (λ n. has n (numbers_of X))) (numbers-append X Y)
      ∙ filter-append (λ n. has n (numbers_of X)) (numbers_of X) (numbers_of Y)
      ∙ ap (λ l. l ++ filter (λ n. has n (numbers_of X)) (numbers_of Y)) (all-of (λ n. has n (numbers_of X)) (numbers_of X) (λ k i. i))
      ∙ ap (λ l. numbers_of X ++ l) (none-of (λ n. has n (numbers_of X)) (numbers_of Y) (λ k i. not-front k (solid-number k D i)))
      ∙ append-none (numbers_of X)
      ∙ sym (all-of (λ n. has n (numbers_of (untexted (bare forest)))) (numbers_of X)
      (λ k i. ap (λ xs. has k (numbers_of xs)) untexted-parts ∙ has-both k X Y ∙ or-left (has k (numbers_of X)) (has k (numbers_of Y)) i))
    where
      not-front : (k : ℕ) → has k (numbers_of D) ≡ true → has k (numbers_of X) ≡ false
      not-front k i = by (has k (numbers_of X)) refl
        where
          by : (b : Bool) → has k (numbers_of X) ≡ b → b ≡ false
          by true e = sym i ∙ front-apart P D apart k (solid-number k P e)
          by false e = refl

  listed : (n : ℕ) → InBoth forest part n → list_of (bare forest) n ≡ list_of (bare part) n
  listed n i =
      ap (filter (λ (y : Visit). is_first n y.above)) untexted-parts
      ∙ filter-append (λ y. is_first n y.above) X Y
      ∙ ap (λ l. filter (λ (y : Visit). is_first n y.above) X ++ l) (filter-no (λ y. is_first n y.above) (λ y. (p : ℕ) → has p y.above ≡ true → has p (numbers_of D) ≡ true) Y off
      (each-filter (λ y. (p : ℕ) → has p y.above ≡ true → has p (numbers_of D) ≡ true) (λ y. not (is_text y.content)) (map erased D) (erased-each D (within (in_detached forest.nodes)))))
      ∙ append-none (filter (λ y. is_first n y.above) X)
    where
      in_front : has n (numbers_of P) ≡ true
      in_front = solid-number n P (present n X i.0 i.2)

      first-has : (m : ℕ) (ns : List ℕ) → is_first m ns ≡ true → has m ns ≡ true
      first-has m [] j = no j
      first-has m (k ∷ ks) j = or-left (m == k) (has m ks) j

      off : (y : Visit) → ((p : ℕ) → has p y.above ≡ true → has p (numbers_of D) ≡ true) → is_first n y.above ≡ false
      off y j = by (is_first n y.above) refl
        where
          by : (b : Bool) → is_first n y.above ≡ b → b ≡ false
          by true e = sym (j n (first-has n y.above e)) ∙ front-apart P D apart n in_front
          by false e = refl

      erased-each : (ys : List Visit) → Each (λ y. (p : ℕ) → has p y.above ≡ true → has p (numbers_of D) ≡ true) ys → Each (λ y. (p : ℕ) → has p y.above ≡ true → has p (numbers_of D) ≡ true) (map erased ys)
      erased-each [] j = tt
      erased-each (y ∷ ys) j = (j.0, erased-each ys j.1)

  front-below : (k : ℕ) → has k (numbers_of P) ≡ true → has k (numbers_of (visits forest.nodes)) ≡ true
  front-below k i = ap (λ xs. has k (numbers_of xs)) whole ∙ has-both k P D ∙ or-left (has k (numbers_of P)) (has k (numbers_of D)) i

  found-whole : (k : ℕ) (x : Visit) → found k P ≡ Some x → found k (visits forest.nodes) ≡ Some x
  found-whole k x i = ap (found k) whole ∙ found-append k P D ∙ ap (λ m. or_later m (found k D)) i

  front-hung : AreHung P
  front-hung k x i t =
      let p = h.hung k x (found-whole k x i) t in
      let q_in : has p.0 (numbers_of P) ≡ true = each-found (λ y. (q : ℕ) → has q y.above ≡ true → has q (numbers_of P) ≡ true) k P x (within (in_instances forest.nodes)) i p.0
      (ap (has p.0) p.4 ∙ or-left (p.0 == p.0) (has p.0 p.1.above) (self-same p.0)) in
      let z = standing-at p.0 P q_in in
      (p.0, p.1, z.1 ∙ ap Some (some-same (sym (found-whole p.0 z.0 z.1) ∙ p.2)), p.3, p.4)

  pub structure : SameStructure [] scope forest part
  structure = record {
    trees = h.trees;
    trees_before = front-trees forest h.trees;
    below = h.below;
    below_before = λ k i. h.below k (front-below k i);
    hung = h.hung;
    hung_before = front-hung;
    stay = λ n x y i j. some-same (sym i ∙ found-front n y j);
    order = order;
    listed = λ n i free. listed n i;
    documents = λ id n i. let x = h.documents id n i in (x.0, solid-front n x.0 x.1, x.1);
    roots = λ n x i r. refl;
  }

pub bind_of_instances : BindOfInstances
bind_of_instances scope forest bind r around own h truths chain set places place =
    bind_stays scope forest (instances_of forest) [] bind r around own (structure scope forest h) truths chain set places place (nothing-marked (bind_looks scope (shape (visits forest.nodes)) r))

pub bind_stays_in_instances : BindStaysInInstances
bind_stays_in_instances scope now before lists bind r around own h_now h_before same truths chain set places place unmarked =
    bind_of_instances scope now bind r around own h_now truths chain set places place
    ∙ bind_stays scope (instances_of now) (instances_of before) lists bind r around own same truths chain set places place unmarked
    ∙ sym (bind_of_instances scope before bind r around own h_before truths chain set places place)
