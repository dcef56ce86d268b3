-- The visits of the trees with some tops are the visits of all whose tops these are; what stands above a node is in these trees exactly where
-- the node is.
use Rattle.std.proofs.Common.{◌≡◌, ℕ, ◌==◌, ◌^◌, Bool, true, false, cond, ◌||◌, List, [], ◌∷◌, map, nat_lt, Some, None, option_map, refl, sym, ap, ◌∙◌, arith, subst, inl, inr}
use Rattle.std.specs.Prelude.{filter, is_some, nat_le}
use Rattle.std.proofs.lemmas.Bool.{eqb-true}
use Rattle.std.proofs.lemmas.Bool.Decides.{nat_tests}
use Rattle.xf_def_forest.specs.declared.content.Node.{Node}
use Rattle.xf_def_forest.specs.Forest.{Forest}
use Rattle.xf_def_forest.specs.Visit.{Visit, still_above, numbers, visit, visits_from, visits, has, last_of}
use Rattle.xf_def_forest.specs.Shape.{text_number, erased}
use Rattle.xf_def_forest.specs.WellFormed.{reach, are_depths_from, are_depths, HasTrees}
use Rattle.xf_def_forest.proofs.BackLaws.{and-true}
use Rattle.xf_def_forest.proofs.OrderLaws.{filter-sub, map-sub, visits-different}
use Rattle.xf_def_xpath.specs.Asked.{found}
use Rattle.xf_def_xpath.specs.Agree.{numbers_of, are_apart}
use Rattle.xf_def_xpath.proofs.VisitFacts.{no, self-same, or-cases, or-left, found-number, has-found, kept_if, found-filter, present}
use Rattle.xf_def_xpath.proofs.AxisAgree.{has-sub}
use Rattle.xf_def_xpath.proofs.ForestVisits.{Each, each-map, each-found, self-found, found-erased, forest-visits}
use Rattle.xf_def_xpath.proofs.PartLaws.{is_under as is_seen, under-below}
use Rattle.xf_def_xpath.proofs.ShapeVisits.{AreBelow}
use Rattle.xf_law_recalculation.proofs.MarksLemmas.Standing.{within}
use Rattle.xf_law_recalculation.proofs.MarksLemmas.TextLists.{standing-at}
use Rattle.xf_law_recalculation.proofs.BindLemmas.Members.{not-text}
use Rattle.xf_law_recalculation.proofs.BindLemmas.Pair.{filter-each}
use Rattle.xf_law_recalculation.specs.Elsewhere.Parts.{trees_from}
use Rattle.xf_law_recalculation.specs.Within.Within.{Whole, kept}

-- ---- the nodes that are open

-- the last of them is a top with this number
abbrev Ends : ℕ → List Node → Type 0
Ends top [] = ⊥
Ends top (z ∷ []) = (z.number ≡ top) × ((z.depth == 0) ≡ true)
Ends top (z ∷ w ∷ ws) = Ends top (w ∷ ws)

top-less : (d e : ℕ) → (d == 0) ≡ false → (e == 0) ≡ true → nat_lt e d ≡ true
top-less d e h i = grind (arith, nat_tests, h, i)

still-ends : (top d : ℕ) (stack : List Node) → (d == 0) ≡ false → Ends top stack → Ends top (still_above d stack)
still-ends top d [] n h = h
still-ends top d (z ∷ []) n h = subst (λ b. Ends top (cond b (z ∷ []) [])) (sym (top-less d z.depth n h.1)) h
still-ends top d (z ∷ w ∷ ws) n h = by (nat_lt z.depth d) (still-ends top d (w ∷ ws) n h)
  where
    by : (b : Bool) → Ends top (still_above d (w ∷ ws)) → Ends top (cond b (z ∷ w ∷ ws) (still_above d (w ∷ ws)))
    by true i = h
    by false i = i

last-ends : (top n : ℕ) (stack : List Node) → Ends top stack → last_of n (numbers stack) ≡ top
last-ends top n [] h = absurd h
last-ends top n (z ∷ []) h = h.0
last-ends top n (z ∷ w ∷ ws) h = last-ends top z.number (w ∷ ws) h

more-ends : (top : ℕ) (x : Node) (stack : List Node) → Ends top stack → Ends top (x ∷ stack)
more-ends top x [] h = absurd h
more-ends top x (w ∷ ws) h = h

nothing-above : (d : ℕ) (stack : List Node) → (d == 0) ≡ true → still_above d stack ≡ []
nothing-above d [] h = refl
nothing-above d (z ∷ zs) h = ap (λ b. cond b (z ∷ zs) (still_above d zs)) (no-less z.depth) ∙ nothing-above d zs h
  where
    no-less : (k : ℕ) → nat_lt k d ≡ false
    no-less k = grind (arith, nat_tests, h)

-- ---- the visits of these trees

module _ (tops : List ℕ) where
  abbrev seen : List Visit → List Visit
  seen all = filter (is_seen tops) all

  -- of the nodes that follow: whatever is open in the trees, where the top of the last node is none of these
  abbrev Follow : List Node → Type 0
  Follow xs = (top : ℕ) (above open_there : List Node) → Ends top above → (has top tops ≡ true → open_there ≡ above) → visits_from open_there (trees_from tops (has top tops) xs) ≡ seen (visits_from above xs)

  at-top : (x : Node) (xs : List Node) (before : Bool) (above open_there : List Node) → (x.depth == 0) ≡ true → Follow xs → visits_from open_there (trees_from tops before (x ∷ xs)) ≡ seen (visits_from above (x ∷ xs))
  at-top x xs before above open_there e follow =
      ap (λ c. visits_from open_there (cond c (x ∷ trees_from tops c xs) (trees_from tops c xs))) (ap (λ d. cond d (has x.number tops) before) e)
      ∙ by (has x.number tops) refl
      ∙ sym (ap (λ s. seen ((record { number = x.number; above = numbers s; content = x.content }) ∷ visits_from (x ∷ s) xs)) (nothing-above x.depth above e))
    where
      here : Visit
      here = record { number = x.number; above = []; content = x.content }

      rest : (open_there : List Node) → (has x.number tops ≡ true → open_there ≡ x ∷ []) → visits_from open_there (trees_from tops (has x.number tops) xs) ≡ seen (visits_from (x ∷ []) xs)
      rest open_there h = follow x.number (x ∷ []) open_there (refl, e) h

      by : (c : Bool) → has x.number tops ≡ c → visits_from open_there (cond c (x ∷ trees_from tops c xs) (trees_from tops c xs)) ≡ cond (has x.number tops) (here ∷ seen (visits_from (x ∷ []) xs)) (seen (visits_from (x ∷ []) xs))
      by true i =
          ap (λ s. (record { number = x.number; above = numbers s; content = x.content }) ∷ visits_from (x ∷ s) (trees_from tops true xs)) (nothing-above x.depth open_there e)
          ∙ ap (λ c. here ∷ visits_from (x ∷ []) (trees_from tops c xs)) (sym i)
          ∙ ap (λ l. here ∷ l) (rest (x ∷ []) (λ j. refl))
          ∙ sym (ap (λ c. cond c (here ∷ seen (visits_from (x ∷ []) xs)) (seen (visits_from (x ∷ []) xs))) i)
      by false i =
          ap (λ c. visits_from open_there (trees_from tops c xs)) (sym i)
          ∙ rest open_there (λ j. no (sym i ∙ j))
          ∙ sym (ap (λ c. cond c (here ∷ seen (visits_from (x ∷ []) xs)) (seen (visits_from (x ∷ []) xs))) i)

  follows : (xs : List Node) → Follow xs
  follows [] top above open_there h i = refl
  follows (x ∷ xs) top above open_there h i = by (x.depth == 0) refl (follows xs)
    where
      below : Follow xs → (x.depth == 0) ≡ false → visits_from open_there (trees_from tops (has top tops) (x ∷ xs)) ≡ seen (visits_from above (x ∷ xs))
      below follow e =
          ap (λ c. visits_from open_there (cond c (x ∷ trees_from tops c xs) (trees_from tops c xs))) (ap (λ d. cond d (has x.number tops) (has top tops)) e)
          ∙ at (has top tops) refl
          ∙ sym (ap (λ c. cond c (visit above x ∷ seen (visits_from (x ∷ still_above x.depth above) xs)) (seen (visits_from (x ∷ still_above x.depth above) xs)))
          (ap (λ t. has t tops) (last-ends top x.number (still_above x.depth above) stays)))
        where
          stays : Ends top (still_above x.depth above)
          stays = still-ends top x.depth above e h

          later : (there : List Node) → (has top tops ≡ true → there ≡ x ∷ still_above x.depth above) → visits_from there (trees_from tops (has top tops) xs) ≡ seen (visits_from (x ∷ still_above x.depth above) xs)
          later there j = follow top (x ∷ still_above x.depth above) there (more-ends top x (still_above x.depth above) stays) j

          at : (c : Bool) → has top tops ≡ c → visits_from open_there (cond c (x ∷ trees_from tops c xs) (trees_from tops c xs))
              ≡ cond c (visit above x ∷ seen (visits_from (x ∷ still_above x.depth above) xs)) (seen (visits_from (x ∷ still_above x.depth above) xs))
          at true j =
              ap (λ s. visits_from s (x ∷ trees_from tops true xs)) (i j)
              ∙ ap (λ c. visit above x ∷ visits_from (x ∷ still_above x.depth above) (trees_from tops c xs)) (sym j)
              ∙ ap (λ l. visit above x ∷ l) (later (x ∷ still_above x.depth above) (λ k. refl))
          at false j = ap (λ c. visits_from open_there (trees_from tops c xs)) (sym j) ∙ later open_there (λ k. no (sym j ∙ k))

      by : (b : Bool) → (x.depth == 0) ≡ b → Follow xs → visits_from open_there (trees_from tops (has top tops) (x ∷ xs)) ≡ seen (visits_from above (x ∷ xs))
      by true e follow = at-top x xs (has top tops) above open_there e follow
      by false e follow = below follow e

  first-top : (d : ℕ) → nat_le d 0 ≡ true → (d == 0) ≡ true
  first-top d h = grind (arith, nat_tests, h)

  pub part-visits : (nodes : List Node) → are_depths nodes ≡ true → visits (trees_from tops false nodes) ≡ seen (visits nodes)
  part-visits [] h = refl
  part-visits (x ∷ xs) h = at-top x xs false [] [] (first-top x.depth (and-true (nat_le x.depth 0) (are_depths_from (reach x) xs) h).0) (follows xs)

-- ---- by numbers

-- the number of a node of the part, or of the one text of such an element in a shape
abbrev pub in_part : List ℕ → ℕ → Bool
in_part ns k = has k ns || has k (map text_number ns)

text-same : (m n : ℕ) → (text_number m == text_number n) ≡ (m == n)
text-same m n = grind (arith, nat_tests)

no-text : (k : ℕ) (ns : List ℕ) → nat_lt k (2 ^ 128) ≡ true → has k (map text_number ns) ≡ false
no-text k [] h = refl
no-text k (n ∷ ns) h = ap (λ b. b || has k (map text_number ns)) (by (k == text_number n) refl) ∙ no-text k ns h
  where
    by : (b : Bool) → (k == text_number n) ≡ b → b ≡ false
    by true e = no (not-text k n h (eqb-true k (text_number n) e))
    by false e = refl

or-none : (b : Bool) → (b || false) ≡ b
or-none true = refl
or-none false = refl

pub in-own : (k : ℕ) (ns : List ℕ) → nat_lt k (2 ^ 128) ≡ true → in_part ns k ≡ has k ns
in-own k ns h = ap (λ b. has k ns || b) (no-text k ns h) ∙ or-none (has k ns)

texts-has : (k : ℕ) (ns : List ℕ) → has (text_number k) (map text_number ns) ≡ has k ns
texts-has k [] = refl
texts-has k (n ∷ ns) = ap (λ b. b || has (text_number k) (map text_number ns)) (text-same k n) ∙ ap (λ b. (k == n) || b) (texts-has k ns)

pub in-text : (k : ℕ) (ns : List ℕ) → AreBelow ns → in_part ns (text_number k) ≡ has k ns
in-text k ns below = ap (λ b. b || has (text_number k) (map text_number ns)) (by (has (text_number k) ns) refl) ∙ texts-has k ns
  where
    by : (b : Bool) → has (text_number k) ns ≡ b → b ≡ false
    by true e = no (not-text (text_number k) k (below (text_number k) e) refl)
    by false e = refl

-- ---- the part of a forest

module _ (forest : Forest) (trees : HasTrees forest) (tops : List ℕ) where
  abbrev V : List Visit
  V = visits forest.nodes

  abbrev P : List Visit
  P = visits (trees_from tops false forest.nodes)

  abbrev pub own_numbers : List ℕ
  own_numbers = numbers_of (visits (trees_from tops false forest.nodes))

  apart : are_apart (numbers_of V) ≡ true
  apart = visits-different forest trees

  same : P ≡ filter (is_seen tops) V
  same = part-visits tops forest.nodes trees.depths

  -- its number tells whether a node is in the part
  pub number-in : Each (λ v. has v.number own_numbers ≡ is_seen tops v) V
  number-in = each-map (λ v. found v.number V ≡ Some v) (λ v. has v.number own_numbers ≡ is_seen tops v) V
      (λ v e.
      ap (λ l. has v.number (numbers_of l)) same
      ∙ has-found v.number (filter (is_seen tops) V)
      ∙ ap is_some (found-filter (is_seen tops) v.number V apart ∙ ap (kept_if (is_seen tops)) e)
      ∙ by (is_seen tops v) v) (self-found V apart)
    where
      by : (b : Bool) (v : Visit) → is_some (cond b (Some v) None) ≡ b
      by true v = refl
      by false v = refl

  pub one-in : (n : ℕ) (z : Visit) → found n V ≡ Some z → has n own_numbers ≡ is_seen tops z
  one-in n z e = ap (λ k. has k own_numbers) (sym (found-number n V z e)) ∙ each-found (λ v. has v.number own_numbers ≡ is_seen tops v) n V z number-in e

  -- what stands above a node has its top
  pub above-in : Each (λ v. (n : ℕ) → has n v.above ≡ true → has n own_numbers ≡ has v.number own_numbers) V
  above-in = both V (self-found V apart) (within forest.nodes)
    where
      one : (v : Visit) → found v.number V ≡ Some v → ((n : ℕ) → has n v.above ≡ true → has n (numbers_of V) ≡ true) → (n : ℕ) → has n v.above ≡ true → has n own_numbers ≡ has v.number own_numbers
      one v e w n h =
          let z = standing-at n V (w n h) in
          let top : ℕ = last_of z.0.number z.0.above in
          let under = under-below (map erased V) (forest-visits forest trees) (top ∷ []) n (erased z.0) (found-erased n V ∙ ap (λ o. option_map erased o) z.1) (or-left (top == top) false (self-same top))
          v.number (erased v) (found-erased v.number V ∙ ap (λ o. option_map erased o) e) h in
          let one_top : last_of v.number v.above ≡ top = last (last_of v.number v.above) top under in
          one-in n z.0 z.1 ∙ ap (λ t. has t tops) (sym one_top) ∙ sym (one-in v.number v e)
        where
          last : (m t : ℕ) → has m (t ∷ []) ≡ true → m ≡ t
          last m t i = elim (or-cases (m == t) false i) [ inl a ↦ eqb-true m t a | inr b ↦ no b ]

      both : (vs : List Visit) → Each (λ v. found v.number V ≡ Some v) vs → Each (λ v. (n : ℕ) → has n v.above ≡ true → has n (numbers_of V) ≡ true) vs →
          Each (λ v. (n : ℕ) → has n v.above ≡ true → has n own_numbers ≡ has v.number own_numbers) vs
      both [] d e = tt
      both (v ∷ vs) d e = (one v d.0 e.0, both vs d.1 e.1)

  pub numbers-kept : kept (λ k. has k own_numbers) V ≡ P
  numbers-kept = filter-each (λ v. has v.number own_numbers) (is_seen tops) V number-in ∙ sym same

  module _ (below : AreBelow (numbers_of V)) where
    pub own-below : AreBelow own_numbers
    own-below k h = below k (has-sub k (map-sub (λ (v : Visit). v.number) (filter-sub (is_seen tops) V)) (ap (λ l. has k (numbers_of l)) (sym same) ∙ h))

    abbrev p : ℕ → Bool
    p k = in_part own_numbers k

    low : Each (λ v. nat_lt v.number (2 ^ 128) ≡ true) V
    low = each-map (λ v. found v.number V ≡ Some v) (λ v. nat_lt v.number (2 ^ 128) ≡ true) V (λ v e. below v.number (present v.number V v e)) (self-found V apart)

    -- of nodes
    p-own : Each (λ v. p v.number ≡ has v.number own_numbers) V
    p-own = each-map (λ v. nat_lt v.number (2 ^ 128) ≡ true) (λ v. p v.number ≡ has v.number own_numbers) V (λ v l. in-own v.number own_numbers l) low

    pub p-seen : Each (λ v. p v.number ≡ is_seen tops v) V
    p-seen = both V p-own number-in
      where
        both : (vs : List Visit) → Each (λ v. p v.number ≡ has v.number own_numbers) vs → Each (λ v. has v.number own_numbers ≡ is_seen tops v) vs → Each (λ v. p v.number ≡ is_seen tops v) vs
        both [] d e = tt
        both (v ∷ vs) d e = (d.0 ∙ e.0, both vs d.1 e.1)

    pub part-kept : kept p V ≡ P
    part-kept = filter-each (λ v. p v.number) (is_seen tops) V p-seen ∙ sym same

    pub trees-whole : Each (Whole p) V
    trees-whole = both V p-own above-in (within forest.nodes)
      where
        both : (vs : List Visit) → Each (λ v. p v.number ≡ has v.number own_numbers) vs → Each (λ v. (n : ℕ) → has n v.above ≡ true → has n own_numbers ≡ has v.number own_numbers) vs →
            Each (λ v. (n : ℕ) → has n v.above ≡ true → has n (numbers_of V) ≡ true) vs → Each (Whole p) vs
        both [] d e w = tt
        both (v ∷ vs) d e w = (λ n h. in-own n own_numbers (below n (w.0 n h)) ∙ e.0 n h ∙ sym d.0, both vs d.1 e.1 w.1)

    -- the text of an element is in the part where the element is
    pub texts-too : Each (λ v. p (text_number v.number) ≡ p v.number) V
    texts-too = each-map (λ v. p v.number ≡ has v.number own_numbers) (λ v. p (text_number v.number) ≡ p v.number) V (λ v e. in-text v.number own_numbers own-below ∙ sym e) p-own
