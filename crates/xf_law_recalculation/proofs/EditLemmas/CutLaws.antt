-- A tree that is cut off, or planted, changes one list of the visits.
use Rattle.std.proofs.Common.{◌≡◌, ℕ, ◌==◌, Bool, true, false, not, cond, ◌&&◌, ◌||◌, List, [], ◌∷◌, ◌++◌, nat_lt, Some, refl, sym, ap, ◌∙◌, subst, inl, inr, arith}
use Rattle.std.specs.Prelude.{⊤}
use Rattle.std.proofs.lemmas.Bool.{cases_Bool, eqb-true}
use Rattle.std.proofs.lemmas.Bool.Decides.{nat_tests}
use Rattle.xf_def_forest.specs.declared.content.Node.{Node}
use Rattle.xf_def_forest.specs.Changes.{without_tree}
use Rattle.xf_def_forest.specs.Forest.{Forest, is_text, has_number, below, past, tree_of}
use Rattle.xf_def_forest.specs.Visit.{Visit, has, is_first, still_above, numbers, visit, visits_from, visits}
use Rattle.xf_def_forest.specs.WellFormed.{HasTrees, are_apart as are_nodes_apart}
use Rattle.xf_def_forest.proofs.BackLaws.{and-true, or-false}
use Rattle.xf_def_forest.proofs.MoveLemmas.{gone-after}
use Rattle.xf_def_forest.proofs.OrderLaws.{Sub, done, skip, keep, sub-different, seen-has, visits-different}
use Rattle.xf_def_forest.proofs.RunLemmas.{AreDeeper, below-then-past, tree-here, tree-other}
use Rattle.xf_def_forest.proofs.VisitLemmas.{BeginsWithin, past-within}
use Rattle.xf_def_xpath.specs.Asked.{found}
use Rattle.xf_def_xpath.specs.Agree.{numbers_of, are_apart}
use Rattle.xf_def_xpath.proofs.VisitFacts.{no, or-left, self-same, some-same, none-some, found-number, present}
use Rattle.xf_def_xpath.proofs.ForestVisits.{Each, each-found}
use Rattle.xf_law_recalculation.specs.Edit.Edits.{without_nodes, StandsUnder, IsRelisted, StandsIn, TreeCut, TreePlanted}
use Rattle.xf_law_recalculation.proofs.EditLemmas.ListEdits.{list_marked_law}

pub or-right : (a b : Bool) → b ≡ true → (a || b) ≡ true
or-right true b h = refl
or-right false b h = h

-- ---- the second list has more, and those moved

data Cut (moved : List ℕ) (Q : Visit → Type 0) : List Visit → List Visit → Type 0 where
  ended : Cut moved Q [] []
  both : {x : Visit} {xs ys : List Visit} → Cut moved Q xs ys → Cut moved Q (x ∷ xs) (x ∷ ys)
  gone : {y : Visit} {xs ys : List Visit} → has y.number moved ≡ true → Q y → Cut moved Q xs ys → Cut moved Q xs (y ∷ ys)

module _ (moved : List ℕ) (Q : Visit → Type 0) where
  equal : (xs : List Visit) → Cut moved Q xs xs
  equal [] = ended
  equal (x ∷ xs) = both (equal xs)

  cut-rest : {xs ys : List Visit} → Cut moved Q xs ys → without_nodes moved xs ≡ without_nodes moved ys
  cut-rest ended = refl
  cut-rest (both {x = x} d) = ap (λ l. cond (not (has x.number moved)) (x ∷ l) l) (cut-rest d)
  cut-rest (gone {y = y} {ys = ys} h q d) = cut-rest d ∙ sym (ap (λ b. cond (not b) (y ∷ without_nodes moved ys) (without_nodes moved ys)) h)

  cut-sub : {xs ys : List Visit} → Cut moved Q xs ys → Sub (numbers_of xs) (numbers_of ys)
  cut-sub ended = done
  cut-sub (both d) = keep (cut-sub d)
  cut-sub (gone h q d) = skip (cut-sub d)

  cut-each : {xs ys : List Visit} → Cut moved Q xs ys → ((k : ℕ) → has k moved ≡ true → has k (numbers_of xs) ≡ false) → Each (λ y. has y.number moved ≡ true → Q y) ys
  cut-each ended h = tt
  cut-each (both {x = x} {xs = xs} d) h = (
    λ i. no (sym (h x.number i) ∙ or-left (x.number == x.number) (has x.number (numbers_of xs)) (self-same x.number)),
    cut-each d (λ k i. (or-false (k == x.number) (has k (numbers_of xs)) (h k i)).1),
  )
  cut-each (gone i q d) h = (λ j. q, cut-each d h)

-- ---- numbers of a tree

numbers-has : (k : ℕ) (xs : List Node) → has k (numbers xs) ≡ has_number k xs
numbers-has k [] = refl
numbers-has k (x ∷ xs) = ap (λ b. b || has k (numbers xs)) (turned k x.number) ∙ ap (λ b. (x.number == k) || b) (numbers-has k xs)
  where
    turned : (m n : ℕ) → (m == n) ≡ (n == m)
    turned m n = grind (arith, nat_tests)

pub absent-past : (k d : ℕ) (xs : List Node) → has_number k xs ≡ false → has_number k (past d xs) ≡ false
absent-past k d [] e = refl
absent-past k d (x ∷ xs) e =
    elim (cases_Bool (nat_lt d x.depth)) [
      | inl q ↦ rw q (absent-past k d xs (or-false (x.number == k) (has_number k xs) e).1)
      | inr q ↦ rw q e
    ]

pub below-part : (k d : ℕ) (xs : List Node) → has_number k (below d xs) ≡ true → has_number k xs ≡ true
below-part k d [] e = e
below-part k d (x ∷ xs) e = by (nat_lt d x.depth) (below-part k d xs) e
  where
    by : (b : Bool) → (has_number k (below d xs) ≡ true → has_number k xs ≡ true) → has_number k (cond b (x ∷ below d xs) []) ≡ true → ((x.number == k) || has_number k xs) ≡ true
    by false f i = no i
    by true f i = of (x.number == k) f i
      where
        of : (c : Bool) → (has_number k (below d xs) ≡ true → has_number k xs ≡ true) → (c || has_number k (below d xs)) ≡ true → (c || has_number k xs) ≡ true
        of true g j = refl
        of false g j = g j

pub tree-part : (k n : ℕ) (xs : List Node) → has_number k (tree_of n xs) ≡ true → has_number k xs ≡ true
tree-part k n [] e = e
tree-part k n (x ∷ xs) e =
    elim (cases_Bool (x.number == n)) [
      | inl q ↦ here (x.number == k) (ap (has_number k) (sym (tree-here n x xs q)) ∙ e)
      | inr q ↦ or-right (x.number == k) (has_number k xs) (tree-part k n xs (ap (has_number k) (sym (tree-other n x xs q)) ∙ e))
    ]
  where
    here : (c : Bool) → (c || has_number k (below x.depth xs)) ≡ true → (c || has_number k xs) ≡ true
    here true j = refl
    here false j = below-part k x.depth xs j

pub parts-apart : (k d : ℕ) (xs : List Node) → are_nodes_apart xs ≡ true → has_number k (below d xs) ≡ true → has_number k (past d xs) ≡ false
parts-apart k d [] a e = no e
parts-apart k d (x ∷ xs) a e =
    elim (cases_Bool (nat_lt d x.depth)) [
      | inl q ↦ ap (λ b. has_number k (cond b (past d xs) (x ∷ xs))) q ∙ deep (parts-apart k d xs (and-true (not (has_number x.number xs)) (are_nodes_apart xs) a).1) (x.number == k) refl (ap (λ b. has_number k (cond b (x ∷ below d xs) [])) (sym q) ∙ e)
      | inr q ↦ no (ap (λ b. has_number k (cond b (x ∷ below d xs) [])) (sym q) ∙ e)
    ]
  where
    deep : (has_number k (below d xs) ≡ true → has_number k (past d xs) ≡ false) → (c : Bool) → (x.number == k) ≡ c → ((x.number == k) || has_number k (below d xs)) ≡ true → has_number k (past d xs) ≡ false
    deep f true i j = absent-past k d xs (gone-after k x xs a i)
    deep f false i j = f (ap (λ c. c || has_number k (below d xs)) (sym i) ∙ j)

-- what is in the tree is not in the rest
tree-apart : (k n : ℕ) (xs : List Node) → are_nodes_apart xs ≡ true → has_number k (tree_of n xs) ≡ true → has_number k (without_tree n xs) ≡ false
tree-apart k n [] a e = no e
tree-apart k n (x ∷ xs) a e =
    elim (cases_Bool (x.number == n)) [
      | inl q ↦ ap (λ b. has_number k (cond b (past x.depth xs) (x ∷ without_tree n xs))) q ∙ here (x.number == k) refl (ap (has_number k) (sym (tree-here n x xs q)) ∙ e)
      | inr q ↦ ap (λ b. has_number k (cond b (past x.depth xs) (x ∷ without_tree n xs))) q ∙ later (tree-apart k n xs (and-true (not (has_number x.number xs)) (are_nodes_apart xs) a).1) (ap (has_number k) (sym (tree-other n x xs q)) ∙ e)
    ]
  where
    rest : are_nodes_apart xs ≡ true
    rest = (and-true (not (has_number x.number xs)) (are_nodes_apart xs) a).1

    here : (c : Bool) → (x.number == k) ≡ c → ((x.number == k) || has_number k (below x.depth xs)) ≡ true → has_number k (past x.depth xs) ≡ false
    here true i j = absent-past k x.depth xs (gone-after k x xs a i)
    here false i j = parts-apart k x.depth xs rest (ap (λ c. c || has_number k (below x.depth xs)) (sym i) ∙ j)

    later : (has_number k (tree_of n xs) ≡ true → has_number k (without_tree n xs) ≡ false) → has_number k (tree_of n xs) ≡ true → ((x.number == k) || has_number k (without_tree n xs)) ≡ false
    later f j = of (x.number == k) refl
      where
        of : (c : Bool) → (x.number == k) ≡ c → (c || has_number k (without_tree n xs)) ≡ false
        of true i = no (sym (gone-after k x xs a i) ∙ tree-part k n xs j)
        of false i = f j

-- ---- nodes that are open

pub still-has : (k d : ℕ) (ys : List Node) → has k (numbers (still_above d ys)) ≡ true → has k (numbers ys) ≡ true
still-has k d [] h = h
still-has k d (y ∷ ys) h =
    elim (cases_Bool (nat_lt y.depth d)) [
      | inl q ↦ ap (λ b. has k (numbers (cond b (y ∷ ys) (still_above d ys)))) (sym q) ∙ h
      | inr q ↦ or-right (k == y.number) (has k (numbers ys)) (still-has k d ys (ap (λ b. has k (numbers (cond b (y ∷ ys) (still_above d ys)))) (sym q) ∙ h))
    ]

pub first-has : (k : ℕ) (ns : List ℕ) → is_first k ns ≡ true → has k ns ≡ true
first-has k [] h = h
first-has k (m ∷ ms) h = or-left (k == m) (has k ms) h

pub still-within : (d e : ℕ) (above : List Node) → nat_lt d e ≡ false → still_above e (still_above d above) ≡ still_above e above
still-within d e [] h = refl
still-within d e (y ∷ ys) h =
    elim (cases_Bool (nat_lt y.depth d)) [
      | inl q ↦ ap (λ c. still_above e (cond c (y ∷ ys) (still_above d ys))) q
      | inr q ↦
          let r : nat_lt y.depth e ≡ false = grind (arith, nat_tests, h, q) in
          ap (λ c. still_above e (cond c (y ∷ ys) (still_above d ys))) q ∙ still-within d e ys h ∙ sym (ap (λ c. cond c (y ∷ ys) (still_above e ys)) r)
    ]

-- the open nodes from this one on, and of its tree
data Over (x : Node) (stay : List Node) (moved : List ℕ) : List Node → Type 0 where
  top : Over x stay moved (x ∷ stay)
  further : {y : Node} {ys : List Node} → nat_lt x.depth y.depth ≡ true → has y.number moved ≡ true → Over x stay moved ys → Over x stay moved (y ∷ ys)

abbrev AreIn : List ℕ → List Node → Type 0
AreIn moved [] = ⊤
AreIn moved (x ∷ xs) = (has x.number moved ≡ true) × AreIn moved xs

pub deeper : (d : ℕ) (xs : List Node) → AreDeeper d (below d xs)
deeper d [] = tt
deeper d (x ∷ xs) = elim (cases_Bool (nat_lt d x.depth)) [ inl e ↦ rw e (e, deeper d xs) | inr e ↦ rw e tt ]

in-numbers : (moved : List ℕ) (xs : List Node) → ((k : ℕ) → has_number k xs ≡ true → has k moved ≡ true) → AreIn moved xs
in-numbers moved [] h = tt
in-numbers moved (x ∷ xs) h = (h x.number (or-left (x.number == x.number) (has_number x.number xs) (self-same x.number)), in-numbers moved xs (λ k i. h k (or-right (x.number == k) (has_number k xs) i)))

module _ (p : ℕ) (moved : List ℕ) (outside : has p moved ≡ false) (x : Node) (above : List Node) (within : has x.number moved ≡ true) where
  abbrev stay : List Node
  stay = still_above x.depth above

  abbrev Open : List Node → Type 0
  Open stack = Over x stay moved stack

  still-over : (d : ℕ) {stack : List Node} → Open stack → nat_lt x.depth d ≡ true → Open (still_above d stack)
  still-over d top h = subst Open (sym (ap (λ b. cond b (x ∷ stay) (still_above d stay)) h)) top
  still-over d (further {y = y} {ys = ys} a b o) h =
      elim (cases_Bool (nat_lt y.depth d)) [
        | inl e ↦ subst Open (sym (ap (λ c. cond c (y ∷ ys) (still_above d ys)) e)) (further a b o)
        | inr e ↦ subst Open (sym (ap (λ c. cond c (y ∷ ys) (still_above d ys)) e)) (still-over d o h)
      ]

  left-over : (d : ℕ) {stack : List Node} → Open stack → nat_lt x.depth d ≡ false → still_above d stack ≡ still_above d stay
  left-over d top h = ap (λ b. cond b (x ∷ stay) (still_above d stay)) h
  left-over d (further {y = y} {ys = ys} a b o) h =
      let e : nat_lt y.depth d ≡ false = grind (arith, nat_tests, a, h) in
      ap (λ c. cond c (y ∷ ys) (still_above d ys)) e ∙ left-over d o h

  first-over : {stack : List Node} → Open stack → (m : ℕ) → is_first m (numbers stack) ≡ true → has m moved ≡ true
  first-over top m h = ap (λ k. has k moved) (eqb-true m x.number h) ∙ within
  first-over (further {y = y} a b o) m h = ap (λ k. has k moved) (eqb-true m y.number h) ∙ b

  rest-visits : {stack : List Node} → Open stack → (rest : List Node) → BeginsWithin x.depth rest → visits_from stack rest ≡ visits_from above rest
  rest-visits o [] h = refl
  rest-visits o (y ∷ ys) h =
      ap (λ l. record { number = y.number; above = numbers l; content = y.content } ∷ visits_from (y ∷ l) ys) (left-over y.depth o h ∙ still-within x.depth y.depth above h)

  under : {stack : List Node} → Open stack → (z : Node) → StandsUnder p moved (record { number = z.number; above = numbers stack; content = z.content })
  under {stack = stack} o z = (
    by (is_text z.content) (is_first p (numbers stack)) refl,
    λ m h. or-right (m == p) (has m moved) (first-over o m h),
  )
    where
      by : (a b : Bool) → is_first p (numbers stack) ≡ b → (a && b) ≡ false
      by true true h = sym (first-over o p h) ∙ outside
      by true false h = refl
      by false b h = refl

  below-cut : (zs rest stack : List Node) → Open stack → AreDeeper x.depth zs → AreIn moved zs → BeginsWithin x.depth rest →
      Cut moved (StandsUnder p moved) (visits_from above rest) (visits_from stack (zs ++ rest))
  below-cut [] rest stack o h i k = subst (λ l. Cut moved (StandsUnder p moved) (visits_from above rest) l) (sym (rest-visits o rest k)) (equal moved (StandsUnder p moved) (visits_from above rest))
  below-cut (z ∷ zs) rest stack o h i k =
      let still = still-over z.depth o h.0 in
      gone i.0 (under still z) (below-cut zs rest (z ∷ still_above z.depth stack) (further h.0 i.0 still) h.1 i.1 k)

-- ---- the tree of a node

module _ (n p : ℕ) (moved : List ℕ) where
  abbrev Q : Visit → Type 0
  Q = StandsUnder p moved

  nodes-cut : (above nodes : List Node) (v : Visit) → are_nodes_apart nodes ≡ true → ((k : ℕ) → has k moved ≡ has_number k (tree_of n nodes)) → ((k : ℕ) → has k (numbers above) ≡ true → has_number k nodes ≡ false) →
      found n (visits_from above nodes) ≡ Some v → is_first p v.above ≡ true → is_text v.content ≡ false → Cut moved Q (visits_from above (without_tree n nodes)) (visits_from above nodes)
  nodes-cut above [] v a m o e f t = none-some e
  nodes-cut above (x ∷ xs) v a m o e f t =
      elim (cases_Bool (x.number == n)) [
        | inl q ↦ subst (λ c. Cut moved Q (visits_from above (cond c (past x.depth xs) (x ∷ without_tree n xs))) (visits_from above (x ∷ xs))) (sym q) (here q)
        | inr q ↦ subst (λ c. Cut moved Q (visits_from above (cond c (past x.depth xs) (x ∷ without_tree n xs))) (visits_from above (x ∷ xs))) (sym q) (both (later (nodes-cut (x ∷ still_above x.depth above) xs v) q))
      ]
    where
      here : (x.number == n) ≡ true → Cut moved Q (visits_from above (past x.depth xs)) (visit above x ∷ visits_from (x ∷ still_above x.depth above) xs)
      here q =
          let one : visit above x ≡ v = some-same (sym (ap (λ b. cond b (Some (visit above x)) (found n (visits_from (x ∷ still_above x.depth above) xs))) q) ∙ e) in
          let tree = λ (k : ℕ). m k ∙ ap (has_number k) (tree-here n x xs q) in
          let within = tree x.number ∙ or-left (x.number == x.number) (has_number x.number (below x.depth xs)) (self-same x.number) in
          let parent : is_first p (numbers (still_above x.depth above)) ≡ true = ap (λ (w : Visit). is_first p w.above) one ∙ f in
          let outside = absent (o p (still-has p x.depth above (first-has p (numbers (still_above x.depth above)) parent))) in
          gone within (own parent (ap (λ (w : Visit). is_text w.content) one ∙ t))
          (subst (λ l. Cut moved Q (visits_from above (past x.depth xs)) (visits_from (x ∷ still_above x.depth above) l)) (below-then-past x.depth xs)
          (below-cut p moved outside x above within (below x.depth xs) (past x.depth xs) (x ∷ still_above x.depth above) top (deeper x.depth xs)
          (in-numbers moved (below x.depth xs) (λ k i. tree k ∙ or-right (x.number == k) (has_number k (below x.depth xs)) i)) (past-within x.depth xs)))
        where
          absent : has_number p (x ∷ xs) ≡ false → has p moved ≡ false
          absent h = by (has p moved) refl
            where
              by : (b : Bool) → has p moved ≡ b → b ≡ false
              by false i = refl
              by true i = sym (tree-part p n (x ∷ xs) (sym (m p) ∙ i)) ∙ h

          own : is_first p (numbers (still_above x.depth above)) ≡ true → is_text x.content ≡ false → Q (visit above x)
          own h i = (ap (λ b. b && is_first p (numbers (still_above x.depth above))) i, λ k j. or-left (k == p) (has k moved) (same (numbers (still_above x.depth above)) k h j))
            where
              same : (ns : List ℕ) (k : ℕ) → is_first p ns ≡ true → is_first k ns ≡ true → (k == p) ≡ true
              same [] k h j = no h
              same (b ∷ bs) k h j = ap (λ c. k == c) (eqb-true p b h) ∙ j

      later : (are_nodes_apart xs ≡ true → ((k : ℕ) → has k moved ≡ has_number k (tree_of n xs)) → ((k : ℕ) → ((k == x.number) || has k (numbers (still_above x.depth above))) ≡ true → has_number k xs ≡ false) →
          found n (visits_from (x ∷ still_above x.depth above) xs) ≡ Some v → is_first p v.above ≡ true → is_text v.content ≡ false → Cut moved Q (visits_from (x ∷ still_above x.depth above) (without_tree n xs)) (visits_from (x ∷ still_above x.depth above) xs)) →
          (x.number == n) ≡ false → Cut moved Q (visits_from (x ∷ still_above x.depth above) (without_tree n xs)) (visits_from (x ∷ still_above x.depth above) xs)
      later again q =
          again (and-true (not (has_number x.number xs)) (are_nodes_apart xs) a).1 (λ k. m k ∙ ap (has_number k) (tree-other n x xs q)) outside
          (sym (ap (λ b. cond b (Some (visit above x)) (found n (visits_from (x ∷ still_above x.depth above) xs))) q) ∙ e) f t
        where
          outside : (k : ℕ) → ((k == x.number) || has k (numbers (still_above x.depth above))) ≡ true → has_number k xs ≡ false
          outside k h = by (k == x.number) refl h
            where
              by : (b : Bool) → (k == x.number) ≡ b → (b || has k (numbers (still_above x.depth above))) ≡ true → has_number k xs ≡ false
              by true i j = gone-after k x xs a (let e : (x.number == k) ≡ true = grind (arith, nat_tests, i) in e)
              by false i j = (or-false (x.number == k) (has_number k xs) (o k (still-has k x.depth above j))).1

-- ---- a forest

module _ (n p : ℕ) (forest : Forest) (trees : HasTrees forest) (in_it : StandsIn n p forest.nodes) where
  abbrev moved : List ℕ
  moved = numbers (tree_of n forest.nodes)

  abbrev whole : List Visit
  whole = visits forest.nodes

  abbrev rest : List Visit
  rest = visits (without_tree n forest.nodes)

  cut : Cut moved (StandsUnder p moved) rest whole
  cut = nodes-cut n p moved [] forest.nodes in_it.0 trees.apart (λ k. numbers-has k (tree_of n forest.nodes)) (λ k h. no h) in_it.1 in_it.2 in_it.3

  absent : (k : ℕ) → has k moved ≡ true → has k (numbers_of rest) ≡ false
  absent k h = seen-has k [] (without_tree n forest.nodes) ∙ tree-apart k n forest.nodes trees.apart (sym (numbers-has k (tree_of n forest.nodes)) ∙ h)

  apart : are_apart (numbers_of whole) ≡ true
  apart = visits-different forest trees

  apart_rest : are_apart (numbers_of rest) ≡ true
  apart_rest = sub-different (cut-sub moved (StandsUnder p moved) cut) apart

  went : (k : ℕ) (y : Visit) → found k whole ≡ Some y → has k moved ≡ true → StandsUnder p moved y
  went k y e h = each-found (λ z. has z.number moved ≡ true → StandsUnder p moved z) k whole y (cut-each moved (StandsUnder p moved) cut absent) e (ap (λ m. has m moved) (found-number k whole y e) ∙ h)

  came : (k : ℕ) (y : Visit) → found k rest ≡ Some y → has k moved ≡ true → StandsUnder p moved y
  came k y e h = no (sym (absent k h) ∙ present k rest y e)

  cut-off : (before : List Visit) → IsRelisted p moved whole rest before
  cut-off before = record {
    apart = apart;
    apart_after = apart_rest;
    rest = cut-rest moved (StandsUnder p moved) cut;
    fresh = λ k h i. no (sym (absent k h) ∙ i);
    went = went;
    came = came;
  }

  planted : (before : List Visit) → ((k : ℕ) → has_number k (tree_of n forest.nodes) ≡ true → has k (numbers_of before) ≡ false) → IsRelisted p moved rest whole before
  planted before new = record {
    apart = apart_rest;
    apart_after = apart;
    rest = sym (cut-rest moved (StandsUnder p moved) cut);
    fresh = λ k h i. new k (sym (numbers-has k (tree_of n forest.nodes)) ∙ h);
    went = came;
    came = went;
  }

pub tree_cut : TreeCut
tree_cut texts lists more n p forest before marks trees in_it apart_too same =
    list_marked_law texts lists more (numbers (tree_of n forest.nodes)) p (visits forest.nodes) (visits (without_tree n forest.nodes)) before marks (cut-off n p forest trees in_it before) apart_too same

pub tree_planted : TreePlanted
tree_planted texts lists more n p forest before marks trees in_it apart_too new same =
    list_marked_law texts lists more (numbers (tree_of n forest.nodes)) p (visits (without_tree n forest.nodes)) (visits forest.nodes) before marks (planted n p forest trees in_it before new) apart_too same
