-- A tree put below a node, at a place among its children or among its attributes, as in the list.
use Rattle.std.proofs.Common.{◌≡◌, ℕ, zero, suc, ◌==◌, true, false, List, [], ◌∷◌, ◌++◌, nat_lt, refl, sym, ap, ◌∙◌, subst, inl, inr, arith}
use Rattle.std.specs.Prelude.{⊤, ◌<◌, if◌then◌else◌}
use Rattle.std.proofs.lemmas.Bool.{cases_Bool}
use Rattle.std.proofs.lemmas.Bool.Decides.{nat_tests}
use Rattle.xf_def_forest.specs.declared.content.Node.{Node}
use Rattle.xf_def_forest.specs.Forest.{Forest, is_attribute, tree_of}
use Rattle.xf_def_forest.specs.Changes.{without_tree, at_place, with_child, with_attribute, with_part, with_below, placed}
use Rattle.xf_law_forests.proofs.RollbackLemmas.Trees.{Trees, none, tree, onto, followed, times, StopsAt, stops-more, onto-followed, onto-append}
use Rattle.xf_law_forests.proofs.RollbackLemmas.TreeTexts.{times-split, Where, here, inside, later, where_is}
use Rattle.xf_law_forests.proofs.RollbackLemmas.TreeMoves.{removed, found, without-onto, tree-onto, moved-onto}

-- before the child with a place, or behind them all
abbrev pub inserted : ℕ → Trees → Trees → Trees
inserted place s none = s
inserted place s (tree n c k r) =
    if is_attribute c then tree n c k (inserted place s r)
    else at_place place (followed s (tree n c k r)) (λ left. tree n c k (inserted left s r))

-- before the attribute with a place, or behind them all
abbrev pub beside : ℕ → Trees → Trees → Trees
beside place s none = s
beside place s (tree n c k r) =
    if is_attribute c then at_place place (followed s (tree n c k r)) (λ left. tree n c k (beside left s r))
    else followed s (tree n c k r)

abbrev pub with_tree : ℕ → Trees → Trees → Trees
with_tree place none k = k
with_tree place (tree n c j r) k = if is_attribute c then beside place (tree n c j r) k else inserted place (tree n c j r) k

-- each node with this number has another content below it
abbrev pub changed : ℕ → (Trees → Trees) → Trees → Trees
changed n f none = none
changed n f (tree m c k r) = tree m c (if m == n then f k else changed n f k) (changed n f r)

-- nothing is below attributes
abbrev pub AreBare : Trees → Type 0
AreBare none = ⊤
AreBare (tree n c k r) = (is_attribute c ≡ true → k ≡ none) × AreBare r

abbrev pub AllBare : Trees → Type 0
AllBare none = ⊤
AllBare (tree n c k r) = (is_attribute c ≡ true → k ≡ none) × AllBare k × AllBare r

bare-tops : (t : Trees) → AllBare t → AreBare t
bare-tops none h = tt
bare-tops (tree n c k r) h = (h.0, bare-tops r h.2)

-- ---- among children

child-deep : (d e place : ℕ) (new : List Node) (t : Trees) (ys : List Node) → d < e → with_child d place new (onto e t ys) ≡ onto e t (with_child d place new ys)
child-deep d e place new none ys less = refl
child-deep d e place new (tree n c k r) ys less =
    let a : nat_lt e d ≡ false = grind (arith, nat_tests, less) in
    let b : nat_lt d e ≡ true = grind (arith, nat_tests, less) in
    let more : d < suc e = omega (arith, less) in
    rw (a, b) (ap (λ l. record { number = n; depth = e; content = c } ∷ l) (child-deep d (suc e) place new k (onto e r ys) more ∙ ap (onto (suc e) k) (child-deep d e place new r ys less)))

child-stops : (d place : ℕ) (new ys : List Node) → StopsAt d ys → with_child d place new ys ≡ new ++ ys
child-stops d place new [] h = sym (append_nil_ new)
  where
    append_nil_ : (l : List Node) → l ++ [] ≡ l
    append_nil_ [] = refl
    append_nil_ (x ∷ xs) = ap (λ l. x ∷ l) (append_nil_ xs)
child-stops d place new (y ∷ ys) h = rw h refl

same_depth : (d : ℕ) → nat_lt d d ≡ false
same_depth d = grind (arith, nat_tests)

child-onto : (d place : ℕ) (s k : Trees) (ys : List Node) → StopsAt d ys → with_child d place (onto d s []) (onto d k ys) ≡ onto d (inserted place s k) ys
child-onto d place s none ys stops = child-stops d place (onto d s []) ys stops ∙ onto-append d s [] ys
child-onto d place s (tree n c k r) ys stops =
    elim (cases_Bool (is_attribute c)) [
      | inl e ↦ rw (same_depth d, e) (ap (λ l. record { number = n; depth = d; content = c } ∷ l) (deep place ∙ ap (onto (suc d) k) (child-onto d place s r ys stops)))
      | inr e ↦ rw (same_depth d, e) (at place (λ left. child-onto d left s r ys stops))
    ]
  where
    deep : (left : ℕ) → with_child d left (onto d s []) (onto (suc d) k (onto d r ys)) ≡ onto (suc d) k (with_child d left (onto d s []) (onto d r ys))
    deep left = child-deep d (suc d) left (onto d s []) k (onto d r ys) (omega arith)

    at : (place : ℕ) → ((left : ℕ) → with_child d left (onto d s []) (onto d r ys) ≡ onto d (inserted left s r) ys)
        → at_place place (onto d s [] ++ onto d (tree n c k r) ys) (λ left. record { number = n; depth = d; content = c } ∷ with_child d left (onto d s []) (onto (suc d) k (onto d r ys)))
        ≡ onto d (at_place place (followed s (tree n c k r)) (λ left. tree n c k (inserted left s r))) ys
    at zero h = onto-append d s [] (onto d (tree n c k r) ys) ∙ sym (onto-followed d s (tree n c k r) ys)
    at (suc left) h = ap (λ l. record { number = n; depth = d; content = c } ∷ l) (deep left ∙ ap (onto (suc d) k) (h left))

-- ---- among attributes

attribute-stops : (d place : ℕ) (new ys : List Node) → StopsAt d ys → with_attribute d place new ys ≡ new ++ ys
attribute-stops d place new [] h = sym (append_nil_ new)
  where
    append_nil_ : (l : List Node) → l ++ [] ≡ l
    append_nil_ [] = refl
    append_nil_ (x ∷ xs) = ap (λ l. x ∷ l) (append_nil_ xs)
attribute-stops d place new (y ∷ ys) h = let e : (y.depth == d) ≡ false = grind (arith, nat_tests, h) in rw e refl

equal_depth : (d : ℕ) → (d == d) ≡ true
equal_depth d = grind (arith, nat_tests)

attribute-onto : (d place : ℕ) (s k : Trees) (ys : List Node) → AreBare k → StopsAt d ys → with_attribute d place (onto d s []) (onto d k ys) ≡ onto d (beside place s k) ys
attribute-onto d place s none ys bare stops = attribute-stops d place (onto d s []) ys stops ∙ onto-append d s [] ys
attribute-onto d place s (tree n c k r) ys bare stops =
    elim (cases_Bool (is_attribute c)) [
      | inl e ↦ rw (equal_depth d, e) (at place (bare.0 e) (λ left. attribute-onto d left s r ys bare.1 stops))
      | inr e ↦ rw (equal_depth d, e) stay
    ]
  where
    stay : onto d s [] ++ onto d (tree n c k r) ys ≡ onto d (followed s (tree n c k r)) ys
    stay = onto-append d s [] (onto d (tree n c k r) ys) ∙ sym (onto-followed d s (tree n c k r) ys)

    pass : (left : ℕ) → k ≡ none → with_attribute d left (onto d s []) (onto d r ys) ≡ onto d (beside left s r) ys
        → record { number = n; depth = d; content = c } ∷ with_attribute d left (onto d s []) (onto (suc d) k (onto d r ys)) ≡ onto d (tree n c k (beside left s r)) ys
    pass left e h = subst (λ j. record { number = n; depth = d; content = c } ∷ with_attribute d left (onto d s []) (onto (suc d) j (onto d r ys)) ≡ onto d (tree n c j (beside left s r)) ys) (sym e)
        (ap (λ l. record { number = n; depth = d; content = c } ∷ l) h)

    at : (place : ℕ) → k ≡ none → ((left : ℕ) → with_attribute d left (onto d s []) (onto d r ys) ≡ onto d (beside left s r) ys)
        → at_place place (onto d s [] ++ onto d (tree n c k r) ys) (λ left. record { number = n; depth = d; content = c } ∷ with_attribute d left (onto d s []) (onto (suc d) k (onto d r ys)))
        ≡ onto d (at_place place (followed s (tree n c k r)) (λ left. tree n c k (beside left s r))) ys
    at zero e h = stay
    at (suc left) e h = pass left e (h left)

-- ---- below a node

part-onto : (e d place : ℕ) (s k : Trees) (ys : List Node) → AreBare k → StopsAt d ys → with_part d place (onto e s []) (onto d k ys) ≡ onto d (with_tree place s k) ys
part-onto e d place none k ys bare stops = refl
part-onto e d place (tree n c j r) k ys bare stops =
    elim (cases_Bool (is_attribute c)) [
      | inl a ↦ rw a (ap (λ l. with_attribute d place l (onto d k ys)) (moved-onto d e (tree n c j r)) ∙ attribute-onto d place (tree n c j r) k ys bare stops)
      | inr a ↦ rw a (ap (λ l. with_child d place l (onto d k ys)) (moved-onto d e (tree n c j r)) ∙ child-onto d place (tree n c j r) k ys stops)
    ]

pub changed-absent : (n : ℕ) (f : Trees → Trees) (t : Trees) → times n t ≡ 0 → changed n f t ≡ t
changed-absent n f none h = refl
changed-absent n f (tree m c k r) h =
    let parts = times-split n m c k r h in
    rw parts.0 (ap (λ x. tree m c x (changed n f r)) (changed-absent n f k parts.1) ∙ ap (tree m c k) (changed-absent n f r parts.2))

below-skip : (n place : ℕ) (new : List Node) (d : ℕ) (t : Trees) (ys : List Node) → times n t ≡ 0 → with_below n place new (onto d t ys) ≡ onto d t (with_below n place new ys)
below-skip n place new d none ys h = refl
below-skip n place new d (tree m c k r) ys h =
    let parts = times-split n m c k r h in
    rw parts.0 (ap (λ l. record { number = m; depth = d; content = c } ∷ l) (below-skip n place new (suc d) k (onto d r ys) parts.1 ∙ ap (onto (suc d) k) (below-skip n place new d r ys parts.2)))

stops-on : (d : ℕ) (t : Trees) (ys : List Node) → StopsAt (suc d) ys → StopsAt (suc d) (onto d t ys)
stops-on d none ys h = h
stops-on d (tree n c k r) ys h = grind (arith, nat_tests)

below-tree : (n place e : ℕ) (s : Trees) (d : ℕ) (t : Trees) (ys : List Node) → times n t ≡ 1 → AllBare t → StopsAt (suc d) ys
    → with_below n place (onto e s []) (onto d t ys) ≡ onto d (changed n (with_tree place s) t) ys
below-tree n place e s d none ys once bare stops = absurd (omega (arith, once))
below-tree n place e s d (tree m c k r) ys once bare stops =
    by (where_is n m c k r once) (λ p. below-tree n place e s (suc d) k (onto d r ys) p bare.1 (stops-more (suc d) (onto d r ys) (stops-on d r ys stops))) (λ q. below-tree n place e s d r ys q bare.2 stops)
  where
    by : Where n m k r → (times n k ≡ 1 → with_below n place (onto e s []) (onto (suc d) k (onto d r ys)) ≡ onto (suc d) (changed n (with_tree place s) k) (onto d r ys))
        → (times n r ≡ 1 → with_below n place (onto e s []) (onto d r ys) ≡ onto d (changed n (with_tree place s) r) ys)
        → with_below n place (onto e s []) (onto d (tree m c k r) ys) ≡ onto d (changed n (with_tree place s) (tree m c k r)) ys
    by (here f p q) one two =
        rw f (ap (λ l. record { number = m; depth = d; content = c } ∷ l) (part-onto e (suc d) place s k (onto d r ys) (bare-tops k bare.1) (stops-on d r ys stops)
        ∙ ap (λ x. onto (suc d) (with_tree place s k) (onto d x ys)) (sym (changed-absent n (with_tree place s) r q))))
    by (inside f p q) one two =
        rw f (ap (λ l. record { number = m; depth = d; content = c } ∷ l) (one p ∙ ap (λ x. onto (suc d) (changed n (with_tree place s) k) (onto d x ys)) (sym (changed-absent n (with_tree place s) r q))))
    by (later f p q) one two =
        rw f (ap (λ l. record { number = m; depth = d; content = c } ∷ l) (below-skip n place (onto e s []) (suc d) k (onto d r ys) p ∙ ap (onto (suc d) k) (two q)
        ∙ ap (λ x. onto (suc d) x (onto d (changed n (with_tree place s) r) ys)) (sym (changed-absent n (with_tree place s) k p))))

pub placed-onto : (n parent place : ℕ) (t : Trees) (forest : Forest) → forest.nodes ≡ onto 0 t [] → times n t ≡ 1 → times parent (removed n t) ≡ 1 → AllBare (removed n t)
    → (placed n parent place forest).nodes ≡ onto 0 (changed parent (with_tree place (found n t)) (removed n t)) []
placed-onto n parent place t forest whole once there bare =
    let at = tree-onto n 0 t [] once tt in
    ap (λ l. with_below parent place (tree_of n l) (without_tree n l)) whole
    ∙ ap (λ l. with_below parent place l (without_tree n (onto 0 t []))) at.is
    ∙ ap (with_below parent place (onto at.depth (found n t) [])) (without-onto n 0 t [] once tt)
    ∙ below-tree parent place at.depth (found n t) 0 (removed n t) [] there bare tt
