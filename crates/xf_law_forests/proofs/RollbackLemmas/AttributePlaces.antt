-- An attribute stands below an element.
use Rattle.std.proofs.Common.{◌≡◌, ℕ, suc, ◌==◌, Bool, true, false, ◌&&◌, ◌||◌, List, ◌∷◌, refl, sym, ap, ◌∙◌, inl, inr, arith}
use Rattle.std.specs.Prelude.{⊤}
use Rattle.std.proofs.lemmas.Bool.Decides.{nat_tests}
use Rattle.xf_def_forest.specs.declared.content.Node.{Node}
use Rattle.xf_def_forest.specs.declared.content.Content.{Content}
use Rattle.xf_def_forest.specs.Forest.{is_element, is_attribute}
use Rattle.xf_def_forest.specs.WellFormed.{stands_first, are_first}
use Rattle.xf_def_forest.proofs.BackLaws.{and-true, false-true}
use Rattle.xf_law_forests.proofs.RollbackLemmas.Trees.{Trees, none, tree, onto}
use Rattle.xf_law_forests.proofs.RollbackLemmas.TreeFacts.{is_at, or-cases}
use Rattle.xf_law_forests.proofs.RollbackLemmas.NodeKinds.{Each}
use Rattle.xf_law_forests.proofs.RollbackLemmas.TreeTops.{tops}
use Rattle.xf_law_forests.proofs.RollbackLemmas.TreeOrder.{AttributesFirst, Ordered, order-tail, order-behind}
use Rattle.xf_law_forests.proofs.RollbackLemmas.TreeRanks.{Under, none-top}
use Rattle.xf_law_forests.proofs.RollbackLemmas.CutStands.{or-right}

abbrev pub begins_with_attribute : Trees → Bool
begins_with_attribute none = false
begins_with_attribute (tree m c k r) = is_attribute c

-- what begins with an attribute is below an element
abbrev pub BelowElements : Trees → Type 0
BelowElements none = ⊤
BelowElements (tree m c k r) = (begins_with_attribute k ≡ true → is_element c ≡ true) × BelowElements k × BelowElements r

first-below : (d n : ℕ) (c : Content) (k : Trees) (ys : List Node) → are_first (onto d (tree n c k none) ys) ≡ true → begins_with_attribute k ≡ true → is_element c ≡ true
first-below d n c none ys h g = absurd (false-true g)
first-below d n c (tree m b j s) ys h g =
    let x : Node = record { number = n; depth = d; content = c } in
    let y : Node = record { number = m; depth = suc d; content = b } in
    let stands = (and-true (stands_first x y) (are_first (y ∷ onto (suc (suc d)) j (onto (suc d) s ys))) h).0 in
    or-cases (is_element c && (suc d == suc d)) (is_attribute c && (d == suc d)) (rw (g, deep) at stands) _
    (λ f. (and-true (is_element c) (suc d == suc d) f).0)
    (λ f. absurd (false-true (sym less ∙ (and-true (is_attribute c) (d == suc d) f).1)))
  where
    deep : (suc d == 0) ≡ false
    deep = grind (arith, nat_tests)

    less : (d == suc d) ≡ false
    less = grind (arith, nat_tests)

pub below-elements : (d : ℕ) (t : Trees) (ys : List Node) → are_first (onto d t ys) ≡ true → BelowElements t
below-elements d none ys h = tt
below-elements d (tree n c k r) ys h =
    let inner = order-tail (record { number = n; depth = d; content = c }) (onto (suc d) k (onto d r ys)) h in
    (first-below d n c k (onto d r ys) h, below-elements (suc d) k (onto d r ys) inner, below-elements d r ys (order-behind (suc d) k (onto d r ys) inner))

begins-top : (n : ℕ) (k : Trees) → AttributesFirst k → tops n k ≡ true → Each (λ c. is_attribute c ≡ true) n k → begins_with_attribute k ≡ true
begins-top n none order top each = absurd (false-true top)
begins-top n (tree m c k r) order top each = by (is_attribute c) refl
  where
    by : (b : Bool) → is_attribute c ≡ b → is_attribute c ≡ true
    by true q = q
    by false q = absurd (none-top n (tree m c k r) (q, order.0 q) top each)

pub above-attribute : (n p : ℕ) (t : Trees) → Under n p t → Each (λ c. is_attribute c ≡ true) n t → Ordered t → BelowElements t → is_at is_element p t ≡ true
above-attribute n p none under each order below = absurd under
above-attribute n p (tree m c k r) (inl u) each order below = rw (u.0, below.0 (begins-top n k order.0 u.1 each.1)) refl
above-attribute n p (tree m c k r) (inr (inl u)) each order below = or-right ((m == p) && is_element c) (is_at is_element p k || is_at is_element p r) (ap (λ b. b || is_at is_element p r) (above-attribute n p k u each.1 order.1 below.1))
above-attribute n p (tree m c k r) (inr (inr u)) each order below =
    or-right ((m == p) && is_element c) (is_at is_element p k || is_at is_element p r) (or-right (is_at is_element p k) (is_at is_element p r) (above-attribute n p r u each.2 order.2 below.2))
