-- In the trees of a forest the attributes of an element stand before its other children.
use Rattle.std.proofs.Common.{◌≡◌, ℕ, suc, ◌==◌, Bool, true, false, ◌&&◌, ◌||◌, List, [], ◌∷◌, refl, sym, ◌∙◌, inl, inr, arith}
use Rattle.std.specs.Prelude.{⊤, ◌⊎◌, ◌<◌}
use Rattle.std.proofs.lemmas.Bool.Decides.{nat_tests}
use Rattle.xf_def_forest.specs.declared.content.Node.{Node}
use Rattle.xf_def_forest.specs.Forest.{is_element, is_attribute}
use Rattle.xf_def_forest.specs.WellFormed.{stands_first, are_first}
use Rattle.xf_def_forest.proofs.BackLaws.{and-true, false-true}
use Rattle.xf_law_forests.proofs.RollbackLemmas.Trees.{Trees, none, tree, onto}

abbrev pub NoAttributes : Trees → Type 0
NoAttributes none = ⊤
NoAttributes (tree n c k r) = (is_attribute c ≡ false) × NoAttributes r

-- after what is no attribute comes none
abbrev pub AttributesFirst : Trees → Type 0
AttributesFirst none = ⊤
AttributesFirst (tree n c k r) = (is_attribute c ≡ false → NoAttributes r) × AttributesFirst r

-- below each node
abbrev pub Ordered : Trees → Type 0
Ordered none = ⊤
Ordered (tree n c k r) = AttributesFirst k × Ordered k × Ordered r

-- no attribute of this depth can follow
abbrev Blocks : ℕ → Node → Type 0
Blocks d z = ((is_attribute z.content ≡ false) × (z.depth ≡ suc d)) ⊎ (suc d < z.depth)

no-follow : (d : ℕ) (z y : Node) → Blocks d z → y.depth ≡ suc d → is_attribute y.content ≡ true → stands_first z y ≡ true → ⊥
no-follow d z y b deep is h = by b
  where
    top : (y.depth == 0) ≡ false
    top = grind (arith, nat_tests, deep)

    or-cases : (p q : Bool) → (p || q) ≡ true → (p ≡ true) ⊎ (q ≡ true)
    or-cases true q e = inl refl
    or-cases false q e = inr e

    comes : ((is_element z.content && (suc z.depth == y.depth)) || (is_attribute z.content && (z.depth == y.depth))) ≡ true
    comes = rw (is, top) at h

    either : (((is_element z.content && (suc z.depth == y.depth)) ≡ true) ⊎ ((is_attribute z.content && (z.depth == y.depth)) ≡ true)) → ((suc z.depth == y.depth) ≡ true) ⊎ ((is_attribute z.content ≡ true) × ((z.depth == y.depth) ≡ true))
    either (inl e) = inl (and-true (is_element z.content) (suc z.depth == y.depth) e).1
    either (inr e) = inr (and-true (is_attribute z.content) (z.depth == y.depth) e)

    end : (((suc z.depth == y.depth) ≡ true) ⊎ ((is_attribute z.content ≡ true) × ((z.depth == y.depth) ≡ true))) → Blocks d z → ⊥
    end (inl e) (inl g) = let f = g.1 in grind (arith, nat_tests, e, f, deep)
    end (inl e) (inr g) = grind (arith, nat_tests, e, g, deep)
    end (inr e) (inl g) = false-true (sym g.0 ∙ e.0)
    end (inr e) (inr g) = let f = e.1 in grind (arith, nat_tests, f, g, deep)

    by : Blocks d z → ⊥
    by g = end (either (or-cases (is_element z.content && (suc z.depth == y.depth)) (is_attribute z.content && (z.depth == y.depth)) comes)) g

-- the node before the rest, which stands behind trees
record Last (d : ℕ) (ys : List Node) : Type 0 where
  node : Node
  blocks : Blocks d node
  ordered : are_first (node ∷ ys) ≡ true

through-deep : (d e : ℕ) (z : Node) (t : Trees) (ys : List Node) → suc d < e → Blocks d z → are_first (z ∷ onto e t ys) ≡ true → Last d ys
through-deep d e z none ys less b h = record { node = z; blocks = b; ordered = h }
through-deep d e z (tree n c k r) ys less b h =
    let x : Node = record { number = n; depth = e; content = c } in
    let rest = (and-true (stands_first z x) (are_first (x ∷ onto (suc e) k (onto e r ys))) h).1 in
    let one = through-deep d (suc e) x k (onto e r ys) (omega (arith, less)) (inr less) rest in
    through-deep d e one.node r ys less one.blocks one.ordered

none-after : (d : ℕ) (z : Node) (t : Trees) (ys : List Node) → Blocks d z → are_first (z ∷ onto (suc d) t ys) ≡ true → NoAttributes t
none-after d z none ys b h = tt
none-after d z (tree n c k r) ys b h =
    let x : Node = record { number = n; depth = suc d; content = c } in
    let parts = and-true (stands_first z x) (are_first (x ∷ onto (suc (suc d)) k (onto (suc d) r ys))) h in
    let plain : is_attribute c ≡ false = no_attribute (is_attribute c) refl parts.0 in
    let one = through-deep d (suc (suc d)) x k (onto (suc d) r ys) (omega arith) (inl (plain, refl)) parts.1 in
    (plain, none-after d one.node r ys one.blocks one.ordered)
  where
    no_attribute : (a : Bool) → is_attribute c ≡ a → stands_first z (record { number = n; depth = suc d; content = c }) ≡ true → is_attribute c ≡ false
    no_attribute true e f = absurd (no-follow d z (record { number = n; depth = suc d; content = c }) b refl e f)
    no_attribute false e f = e

pub order-tail : (x : Node) (xs : List Node) → are_first (x ∷ xs) ≡ true → are_first xs ≡ true
order-tail x [] h = refl
order-tail x (y ∷ ys) h = (and-true (stands_first x y) (are_first (y ∷ ys)) h).1

pub order-behind : (d : ℕ) (t : Trees) (ys : List Node) → are_first (onto d t ys) ≡ true → are_first ys ≡ true
order-behind d none ys h = h
order-behind d (tree n c k r) ys h = order-behind d r ys (order-behind (suc d) k (onto d r ys) (order-tail (record { number = n; depth = d; content = c }) (onto (suc d) k (onto d r ys)) h))

first-of : (d : ℕ) (t : Trees) (ys : List Node) → are_first (onto (suc d) t ys) ≡ true → AttributesFirst t
first-of d none ys h = tt
first-of d (tree n c k r) ys h =
    let x : Node = record { number = n; depth = suc d; content = c } in
    let tail = order-behind (suc (suc d)) k (onto (suc d) r ys) (order-tail x (onto (suc (suc d)) k (onto (suc d) r ys)) h) in
    (λ plain. let one = through-deep d (suc (suc d)) x k (onto (suc d) r ys) (omega arith) (inl (plain, refl)) h in none-after d one.node r ys one.blocks one.ordered, first-of d r ys tail)

pub ordered-onto : (d : ℕ) (t : Trees) (ys : List Node) → are_first (onto d t ys) ≡ true → Ordered t
ordered-onto d none ys h = tt
ordered-onto d (tree n c k r) ys h =
    let inner = order-tail (record { number = n; depth = d; content = c }) (onto (suc d) k (onto d r ys)) h in
    (first-of d k (onto d r ys) inner, ordered-onto (suc d) k (onto d r ys) inner, ordered-onto d r ys (order-behind (suc d) k (onto d r ys) inner))
