-- A tree that is cut off, or put below a node, as in the list.
use Rattle.std.proofs.Common.{◌≡◌, ℕ, suc, ◌+◌, ◌-◌, ◌==◌, List, [], ◌∷◌, ◌++◌, map, refl, sym, ap, ◌∙◌, inl, inr, arith}
use Rattle.std.specs.Prelude.{◌≤◌, if◌then◌else◌}
use Rattle.std.proofs.lemmas.Bool.{cases_Bool}
use Rattle.std.proofs.lemmas.Bool.Decides.{nat_tests}
use Rattle.xf_def_forest.specs.declared.content.Node.{Node}
use Rattle.xf_def_forest.specs.Forest.{Forest, tree_of}
use Rattle.xf_def_forest.specs.Changes.{shifted, moved_to, without_tree, detached}
use Rattle.xf_def_forest.proofs.RunLemmas.{tree-here, tree-other}
use Rattle.xf_law_forests.proofs.RollbackLemmas.Trees.{Trees, none, tree, onto, followed, times, StopsAt, stops-more, onto-followed, onto-append}
use Rattle.xf_law_forests.proofs.RollbackLemmas.TreeTexts.{times-split, Where, here, inside, later, where_is, below-onto, past-onto}

-- without the trees of this node
abbrev pub removed : ℕ → Trees → Trees
removed n none = none
removed n (tree m c k r) = if m == n then removed n r else tree m c (removed n k) (removed n r)

-- those trees
abbrev pub found : ℕ → Trees → Trees
found n none = none
found n (tree m c k r) = followed (if m == n then tree m c k none else found n k) (found n r)

pub removed-absent : (n : ℕ) (t : Trees) → times n t ≡ 0 → removed n t ≡ t
removed-absent n none h = refl
removed-absent n (tree m c k r) h =
    let parts = times-split n m c k r h in
    rw parts.0 (ap (λ x. tree m c x (removed n r)) (removed-absent n k parts.1) ∙ ap (tree m c k) (removed-absent n r parts.2))

pub found-absent : (n : ℕ) (t : Trees) → times n t ≡ 0 → found n t ≡ none
found-absent n none h = refl
found-absent n (tree m c k r) h =
    let parts = times-split n m c k r h in
    rw parts.0 (ap (λ x. followed x (found n r)) (found-absent n k parts.1) ∙ found-absent n r parts.2)

pub followed-none : (t : Trees) → followed t none ≡ t
followed-none none = refl
followed-none (tree n c k r) = ap (tree n c k) (followed-none r)

pub followed-again : (a b c : Trees) → followed (followed a b) c ≡ followed a (followed b c)
followed-again none b c = refl
followed-again (tree n x k r) b c = ap (tree n x k) (followed-again r b c)

pub removed-followed : (n : ℕ) (t s : Trees) → removed n (followed t s) ≡ followed (removed n t) (removed n s)
removed-followed n none s = refl
removed-followed n (tree m c k r) s =
    elim (cases_Bool (m == n)) [
      | inl e ↦ rw e (removed-followed n r s)
      | inr e ↦ rw e (ap (tree m c (removed n k)) (removed-followed n r s))
    ]

pub found-followed : (n : ℕ) (t s : Trees) → found n (followed t s) ≡ followed (found n t) (found n s)
found-followed n none s = refl
found-followed n (tree m c k r) s =
    ap (followed (if m == n then tree m c k none else found n k)) (found-followed n r s)
    ∙ sym (followed-again (if m == n then tree m c k none else found n k) (found n r) (found n s))

-- ---- a tree cut off

stops-on : (d : ℕ) (t : Trees) (ys : List Node) → StopsAt (suc d) ys → StopsAt (suc d) (onto d t ys)
stops-on d none ys h = h
stops-on d (tree n c k r) ys h = grind (arith, nat_tests)

without-skip : (n d : ℕ) (t : Trees) (ys : List Node) → times n t ≡ 0 → without_tree n (onto d t ys) ≡ onto d t (without_tree n ys)
without-skip n d none ys h = refl
without-skip n d (tree m c k r) ys h =
    let parts = times-split n m c k r h in
    rw parts.0 (ap (λ l. record { number = m; depth = d; content = c } ∷ l) (without-skip n (suc d) k (onto d r ys) parts.1 ∙ ap (onto (suc d) k) (without-skip n d r ys parts.2)))

pub without-onto : (n d : ℕ) (t : Trees) (ys : List Node) → times n t ≡ 1 → StopsAt (suc d) ys → without_tree n (onto d t ys) ≡ onto d (removed n t) ys
without-onto n d none ys once stops = absurd (omega (arith, once))
without-onto n d (tree m c k r) ys once stops =
    by (where_is n m c k r once) (λ p. without-onto n (suc d) k (onto d r ys) p (stops-more (suc d) (onto d r ys) (stops-on d r ys stops))) (λ q. without-onto n d r ys q stops)
  where
    by : Where n m k r → (times n k ≡ 1 → without_tree n (onto (suc d) k (onto d r ys)) ≡ onto (suc d) (removed n k) (onto d r ys))
        → (times n r ≡ 1 → without_tree n (onto d r ys) ≡ onto d (removed n r) ys) → without_tree n (onto d (tree m c k r) ys) ≡ onto d (removed n (tree m c k r)) ys
    by (here e p q) one two = rw e (past-onto d k (onto d r ys) (stops-on d r ys stops) ∙ ap (λ x. onto d x ys) (sym (removed-absent n r q)))
    by (inside e p q) one two = rw e (ap (λ l. record { number = m; depth = d; content = c } ∷ l) (one p ∙ ap (λ x. onto (suc d) (removed n k) (onto d x ys)) (sym (removed-absent n r q))))
    by (later e p q) one two =
        rw e (ap (λ l. record { number = m; depth = d; content = c } ∷ l) (without-skip n (suc d) k (onto d r ys) p ∙ ap (onto (suc d) k) (two q)
        ∙ ap (λ x. onto (suc d) x (onto d (removed n r) ys)) (sym (removed-absent n k p))))

tree-skip : (n d : ℕ) (t : Trees) (ys : List Node) → times n t ≡ 0 → tree_of n (onto d t ys) ≡ tree_of n ys
tree-skip n d none ys h = refl
tree-skip n d (tree m c k r) ys h =
    let parts = times-split n m c k r h in
    tree-other n (record { number = m; depth = d; content = c }) (onto (suc d) k (onto d r ys)) parts.0 ∙ tree-skip n (suc d) k (onto d r ys) parts.1 ∙ tree-skip n d r ys parts.2

-- the tree of the node stands at some depth
pub record TreeAt (n : ℕ) (t : Trees) (nodes : List Node) : Type 0 where
  pub depth : ℕ
  pub is : tree_of n nodes ≡ onto depth (found n t) []

pub tree-onto : (n d : ℕ) (t : Trees) (ys : List Node) → times n t ≡ 1 → StopsAt (suc d) ys → TreeAt n t (onto d t ys)
tree-onto n d none ys once stops = absurd (omega (arith, once))
tree-onto n d (tree m c k r) ys once stops =
    by (where_is n m c k r once) (λ p. tree-onto n (suc d) k (onto d r ys) p (stops-more (suc d) (onto d r ys) (stops-on d r ys stops))) (λ q. tree-onto n d r ys q stops)
  where
    x : Node
    x = record { number = m; depth = d; content = c }

    by : Where n m k r → (times n k ≡ 1 → TreeAt n k (onto (suc d) k (onto d r ys))) → (times n r ≡ 1 → TreeAt n r (onto d r ys)) → TreeAt n (tree m c k r) (onto d (tree m c k r) ys)
    by (here e p q) one two = record {
      depth = d;
      is =
          tree-here n (record { number = m; depth = d; content = c }) (onto (suc d) k (onto d r ys)) e
          ∙ ap (λ l. record { number = m; depth = d; content = c } ∷ l) (below-onto d k (onto d r ys) (stops-on d r ys stops))
          ∙ rw e (ap (λ l. onto d (tree m c k l) []) (sym (found-absent n r q)));
    }
    by (inside e p q) one two =
        let a = one p in
        record {
          depth = a.depth;
          is = tree-other n (record { number = m; depth = d; content = c }) (onto (suc d) k (onto d r ys)) e ∙ a.is
              ∙ rw e (ap (λ l. onto a.depth l []) (sym (followed-none (found n k)) ∙ ap (followed (found n k)) (sym (found-absent n r q))));
        }
    by (later e p q) one two =
        let a = two q in
        record {
          depth = a.depth;
          is = tree-other n (record { number = m; depth = d; content = c }) (onto (suc d) k (onto d r ys)) e ∙ tree-skip n (suc d) k (onto d r ys) p ∙ a.is
              ∙ rw e (ap (λ l. onto a.depth (followed l (found n r)) []) (sym (found-absent n k p)));
        }

shifted-onto : (d e f : ℕ) (t : Trees) (ys : List Node) → d ≤ f → map (shifted d e) (onto f t ys) ≡ onto (e + (f - d)) t (map (shifted d e) ys)
shifted-onto d e f none ys le = refl
shifted-onto d e f (tree n c k r) ys le =
    let more : d ≤ suc f = omega (arith, le) in
    let next : e + (suc f - d) ≡ suc (e + (f - d)) = omega (arith, le) in
    ap (λ l. record { number = n; depth = e + (f - d); content = c } ∷ l)
    (shifted-onto d e (suc f) k (onto f r ys) more ∙ ap (λ i. onto i k (map (shifted d e) (onto f r ys))) next ∙ ap (onto (suc (e + (f - d))) k) (shifted-onto d e f r ys le))

pub moved-onto : (e d : ℕ) (t : Trees) → moved_to e (onto d t []) ≡ onto e t []
moved-onto e d none = refl
moved-onto e d (tree n c k r) =
    let le : d ≤ d = omega arith in
    let same : e + (d - d) ≡ e = omega arith in
    shifted-onto d e d (tree n c k r) [] le ∙ ap (λ i. onto i (tree n c k r) []) same

pub detached-onto : (n : ℕ) (t : Trees) (forest : Forest) → forest.nodes ≡ onto 0 t [] → times n t ≡ 1 → (detached n forest).nodes ≡ onto 0 (followed (removed n t) (found n t)) []
detached-onto n t forest whole once =
    let at = tree-onto n 0 t [] once tt in
    ap (λ l. without_tree n l ++ moved_to 0 (tree_of n l)) whole
    ∙ ap (λ l. l ++ moved_to 0 (tree_of n (onto 0 t []))) (without-onto n 0 t [] once tt)
    ∙ ap (λ l. onto 0 (removed n t) [] ++ l) (ap (moved_to 0) at.is ∙ moved-onto 0 at.depth (found n t))
    ∙ onto-append 0 (removed n t) [] (onto 0 (found n t) [])
    ∙ sym (onto-followed 0 (removed n t) (found n t) [])
