-- An element that comes in place of a document element: its root has one child again.
use Rattle.std.proofs.Common.{◌≡◌, ℕ, ◌==◌, Bool, true, false, not, cond, ◌&&◌, ◌||◌, Some, refl, sym, ap, ◌∙◌, subst, inl, inr, arith}
use Rattle.std.specs.Prelude.{if◌then◌else◌}
use Rattle.xf_def_forest.specs.declared.content.Kind.TheVariants as kind
use Rattle.xf_def_forest.specs.Changes.{detached, placed}
use Rattle.xf_def_forest.specs.Forest.{Forest, is_attribute, is_root, kind_at}
use Rattle.xf_def_forest.specs.Needs.{MayPlace}
use Rattle.xf_def_forest.specs.Visit.{parent_of, visits}
use Rattle.xf_def_forest.specs.WellFormed.{HasTrees}
use Rattle.xf_def_forest.proofs.BackLaws.{and-true}
use Rattle.xf_law_forests.proofs.RollbackLemmas.Trees.{Trees, none, tree, followed, times}
use Rattle.xf_law_forests.proofs.RollbackLemmas.TreeTexts.{Where, here, inside, later, where_is, times-split}
use Rattle.xf_law_forests.proofs.RollbackLemmas.TreeMoves.{removed, found, followed-none, found-absent}
use Rattle.xf_law_forests.proofs.RollbackLemmas.TreePlaces.{beside, inserted, with_tree, changed}
use Rattle.xf_law_forests.proofs.RollbackLemmas.TreeTops.{NoRoots, tops}
use Rattle.xf_law_forests.proofs.RollbackLemmas.TreeRanks.{Under, tops-times, under-parent, under-times}
use Rattle.xf_law_forests.proofs.RollbackLemmas.KeepingTrees.{Stands}
use Rattle.xf_law_invariants.proofs.TreeLemmas.Come.{tree_laws}
use Rattle.xf_law_invariants.proofs.TreeLemmas.OfKind.{kind_laws}
use Rattle.xf_law_invariants.proofs.TreeLemmas.Topmost.{top_laws}
use Rattle.xf_law_invariants.proofs.PlannedLemmas.OutsideForests.{alone, kind-there, outside_detached}
use Rattle.xf_law_invariants.proofs.PlannedLemmas.RootTrees.{few-changed, known-trees, none-found, single-by, single-removed}
use Rattle.xf_law_invariants.proofs.PlannedLemmas.RootForests.{cut-nodes, join-nodes, no-root-at, once, single_detached, standing-trees}
use Rattle.xf_law_invariants.specs.Planned.Roots.{AreSingle, is_few, is_single}
use Rattle.xf_law_invariants.specs.Planned.Ready.{MayReplace}

-- ---- roots without children

abbrev is_nothing : Trees → Bool
is_nothing none = true
is_nothing (tree n c k r) = false

-- each root with this number has none
abbrev is_bare : ℕ → Trees → Bool
is_bare n none = true
is_bare n (tree m c k r) = (not ((m == n) && is_root c) || is_nothing k) && is_bare n r

both : (a b : Bool) → a ≡ true → b ≡ true → (a && b) ≡ true
both a b h k = rw (h, k) refl

bare-absent : (n : ℕ) (t : Trees) → times n t ≡ 0 → is_bare n t ≡ true
bare-absent n none h = refl
bare-absent n (tree m c k r) h = let parts = times-split n m c k r h in rw parts.0 (bare-absent n r parts.2)

bare-rootless : (n : ℕ) (t : Trees) → NoRoots t → is_bare n t ≡ true
bare-rootless n none h = refl
bare-rootless n (tree m c k r) h = both (not ((m == n) && is_root c) || is_nothing k) (is_bare n r) (rw h.0 (by (m == n))) (bare-rootless n r h.1)
  where
    by : (b : Bool) → (not (b && false) || is_nothing k) ≡ true
    by true = refl
    by false = refl

bare-followed : (n : ℕ) (t s : Trees) → is_bare n t ≡ true → is_bare n s ≡ true → is_bare n (followed t s) ≡ true
bare-followed n none s h k = k
bare-followed n (tree m c j r) s h k =
    let parts = and-true (not ((m == n) && is_root c) || is_nothing j) (is_bare n r) h in
    both (not ((m == n) && is_root c) || is_nothing j) (is_bare n (followed r s)) parts.0 (bare-followed n r s parts.1 k)

bare-removed : (n m : ℕ) (t : Trees) → is_bare n t ≡ true → is_bare n (removed m t) ≡ true
bare-removed n m none h = refl
bare-removed n m (tree x c k r) h = by (x == m) (bare-removed n m r parts.1)
  where
    parts : ((not ((x == n) && is_root c) || is_nothing k) ≡ true) × (is_bare n r ≡ true)
    parts = and-true (not ((x == n) && is_root c) || is_nothing k) (is_bare n r) h

    less : (a : Bool) (j : Trees) → (a || is_nothing j) ≡ true → (a || is_nothing (removed m j)) ≡ true
    less true j e = refl
    less false none e = refl
    less false (tree y d i l) e = cc e

    by : (b : Bool) → is_bare n (removed m r) ≡ true → is_bare n (cond b (removed m r) (tree x c (removed m k) (removed m r))) ≡ true
    by true e = e
    by false e = both (not ((x == n) && is_root c) || is_nothing (removed m k)) (is_bare n (removed m r)) (less (not ((x == n) && is_root c)) k parts.0) e

-- without its one child
few-gone : (n : ℕ) (k : Trees) → is_few k ≡ true → tops n k ≡ true → is_nothing (removed n k) ≡ true
few-gone n none f h = refl
few-gone n (tree m c k none) f h = by (m == n) h
  where
    by : (b : Bool) → (b || false) ≡ true → is_nothing (cond b none (tree m c (removed n k) none)) ≡ true
    by true e = refl
    by false e = cc e
few-gone n (tree m c k (tree x b j r)) f h = cc f

pub bare-cut : (n root : ℕ) (t : Trees) → times n t ≡ 1 → times root t ≡ 1 → Under n root t → is_single t ≡ true → is_bare root (removed n t) ≡ true
bare-cut n root none a b under h = absurd under
bare-cut n root (tree m c k r) a b under h = by (where_is n m c k r a) (where_is root m c k r b) (bare-cut n root r)
  where
    parts : ((not (is_root c) || is_few k) ≡ true) × (is_single r ≡ true)
    parts = and-true (not (is_root c) || is_few k) (is_single r) h

    none-in : (j : Trees) → times root j ≡ 0 → is_bare root (removed n j) ≡ true
    none-in j e = bare-removed root n j (bare-absent root j e)

    own : (b : Bool) → is_root c ≡ b → tops n k ≡ true → (not b || is_few k) ≡ true → (not (true && b) || is_nothing (removed n k)) ≡ true
    own true e top f = few-gone n k f top
    own false e top f = refl

    top-of : times n r ≡ 0 → (m == root) ≡ true → times root k ≡ 0 → Under n root (tree m c k r) → times root r ≡ 0 → tops n k ≡ true
    top-of z e q (inl u) w = u.1
    top-of z e q (inr (inl u)) w = let x = under-times n root k u in let no : ⊥ = omega (arith, q, x.1) in absurd no
    top-of z e q (inr (inr u)) w = let x = under-times n root r u in let no : ⊥ = omega (arith, w, x.1) in absurd no

    by : Where n m k r → Where root m k r → (times n r ≡ 1 → times root r ≡ 1 → Under n root r → is_single r ≡ true → is_bare root (removed n r) ≡ true) → is_bare root (removed n (tree m c k r)) ≡ true
    by (here e p q) w rest = rw e (none-here w)
      where
        none-here : Where root m k r → is_bare root (removed n r) ≡ true
        none-here (here f x y) = none-in r y
        none-here (inside f x y) = none-in r y
        none-here (later f x y) = absurd (gone under)
          where
            gone : Under n root (tree m c k r) → ⊥
            gone (inl u) = let z = tops-times n k u.1 in omega (arith, z, p)
            gone (inr (inl u)) = let z = under-times n root k u in omega (arith, z.0, p)
            gone (inr (inr u)) = let z = under-times n root r u in omega (arith, z.0, q)
    by (inside e p q) (here f x y) rest =
        rw e (both (not ((m == root) && is_root c) || is_nothing (removed n k)) (is_bare root (removed n r))
        (rw f (own (is_root c) refl (top-of q f x under y) parts.0)) (none-in r y))
    by (inside e p q) (inside f x y) rest = rw e (both (not ((m == root) && is_root c) || is_nothing (removed n k)) (is_bare root (removed n r)) (rw f refl) (none-in r y))
    by (inside e p q) (later f x y) rest = absurd (gone under)
      where
        gone : Under n root (tree m c k r) → ⊥
        gone (inl u) = cc (sym f ∙ u.0)
        gone (inr (inl u)) = let z = under-times n root k u in omega (arith, z.1, x)
        gone (inr (inr u)) = let z = under-times n root r u in omega (arith, z.0, q)
    by (later e p q) (here f x y) rest = absurd (gone under)
      where
        gone : Under n root (tree m c k r) → ⊥
        gone (inl u) = let z = tops-times n k u.1 in omega (arith, z, p)
        gone (inr (inl u)) = let z = under-times n root k u in omega (arith, z.0, p)
        gone (inr (inr u)) = let z = under-times n root r u in omega (arith, z.1, y)
    by (later e p q) (inside f x y) rest = rw e (both (not ((m == root) && is_root c) || is_nothing (removed n k)) (is_bare root (removed n r)) (rw f refl) (none-in r y))
    by (later e p q) (later f x y) rest = rw e (both (not ((m == root) && is_root c) || is_nothing (removed n k)) (is_bare root (removed n r)) (rw f refl) (rest q y (down under) parts.1))
      where
        down : Under n root (tree m c k r) → Under n root r
        down (inl u) = let z = tops-times n k u.1 in let no : ⊥ = omega (arith, z, p) in absurd no
        down (inr (inl u)) = let z = under-times n root k u in let no : ⊥ = omega (arith, z.0, p) in absurd no
        down (inr (inr u)) = u

-- ---- one tree comes below a root without children

found-few : (n : ℕ) (t : Trees) → times n t ≡ 1 → is_few (found n t) ≡ true
found-few n none h = refl
found-few n (tree m c k r) h = by (where_is n m c k r h) (found-few n k) (found-few n r)
  where
    by : Where n m k r → (times n k ≡ 1 → is_few (found n k) ≡ true) → (times n r ≡ 1 → is_few (found n r) ≡ true) → is_few (found n (tree m c k r)) ≡ true
    by (here e p q) one two = rw e (ap (λ x. is_few (tree m c k x)) (found-absent n r q))
    by (inside e p q) one two = rw e (ap (λ x. is_few (followed (found n k) x)) (found-absent n r q) ∙ ap is_few (followed-none (found n k)) ∙ one p)
    by (later e p q) one two = rw e (ap (λ x. is_few (followed x (found n r))) (found-absent n k p) ∙ two q)

with-nothing : (place : ℕ) (x : Trees) → is_few x ≡ true → is_few (with_tree place x none) ≡ true
with-nothing place none h = refl
with-nothing place (tree n c k r) h = by (is_attribute c)
  where
    by : (b : Bool) → is_few (cond b (beside place (tree n c k r) none) (inserted place (tree n c k r) none)) ≡ true
    by true = h
    by false = h

single-onto : (root place : ℕ) (x y : Trees) → is_few x ≡ true → is_bare root y ≡ true → is_single y ≡ true → is_single (changed root (with_tree place x) y) ≡ true
single-onto root place x none few bare h = refl
single-onto root place x (tree m c k r) few bare h =
    both (not (is_root c) || is_few (if m == root then with_tree place x k else changed root (with_tree place x) k)) (is_single (changed root (with_tree place x) r))
    (by (m == root) (is_root c) refl refl bares.0 parts.0) (single-onto root place x r few bares.1 parts.1)
  where
    parts : ((not (is_root c) || is_few k) ≡ true) × (is_single r ≡ true)
    parts = and-true (not (is_root c) || is_few k) (is_single r) h

    bares : ((not ((m == root) && is_root c) || is_nothing k) ≡ true) × (is_bare root r ≡ true)
    bares = and-true (not ((m == root) && is_root c) || is_nothing k) (is_bare root r) bare

    nothing : (j : Trees) → is_nothing j ≡ true → is_few (with_tree place x j) ≡ true
    nothing none e = with-nothing place x few
    nothing (tree n d i l) e = cc e

    by : (a d : Bool) → (m == root) ≡ a → is_root c ≡ d → (not (a && d) || is_nothing k) ≡ true → (not d || is_few k) ≡ true → (not d || is_few (cond a (with_tree place x k) (changed root (with_tree place x) k))) ≡ true
    by true true e f g i = nothing k g
    by false true e f g i = few-changed root (with_tree place x) k ∙ i
    by a false e f g i = refl

-- ---- in a forest

module _ (old top root : ℕ) (forest : Forest) (h : HasTrees forest) (may : MayReplace old top root forest) where
  pub cut-trees : HasTrees (detached old forest)
  cut-trees = tree_laws.detached old forest h

  pub replace-place : MayPlace top root (detached old forest)
  replace-place =
      let own = kind_laws.detached old forest h top kind.Element may.kind in
      let above = kind_laws.detached old forest h root kind.Root may.above in
      record {
        detached = top_laws.detached old top forest may.detached_top;
        outside = (outside_detached root top old forest h may.outside).outside;
        kinds = rw (own, above) refl;
      }

  pub replace-kind : kind_at top (detached old forest).nodes ≡ Some kind.Element
  replace-kind = kind_laws.detached old forest h top kind.Element may.kind

  pub replace-single : (place : ℕ) → AreSingle forest.nodes → AreSingle (placed top root place (detached old forest)).nodes
  replace-single place a =
      let s : Stands (alone forest) = standing-trees forest h in
      let t = followed (removed old s.trees) (found old s.trees) in
      let u = standing-trees (detached old forest) cut-trees in
      let same = known-trees (detached old forest).nodes t u.trees (cut-nodes forest h old (inl may.old_kind)) u.nodes in
      let above = kind_laws.detached old forest h root kind.Root may.above in
      let bare : is_bare root t ≡ true = bare-followed root (removed old s.trees) (found old s.trees)
      (bare-cut old root s.trees (once forest h old (kind-there old kind.Element forest.nodes may.old_kind)) (once forest h root (kind-there root kind.Root forest.nodes may.above))
      (under-parent old root s.trees (once forest h old (kind-there old kind.Element forest.nodes may.old_kind)) (subst (λ l. parent_of old (visits l) ≡ Some root) s.nodes may.below)) (a s.trees s.nodes))
      (bare-rootless root (found old s.trees) (none-found old s.trees (no-root-at old forest h (inl may.old_kind)))) in
      let whole : is_single u.trees ≡ true = single_detached forest h old (inl may.old_kind) a u.trees u.nodes in
      single-by (placed top root place (detached old forest)).nodes (changed root (with_tree place (found top u.trees)) (removed top u.trees))
      (join-nodes (detached old forest) cut-trees top root place replace-place (kind-there root kind.Root (detached old forest).nodes above))
      (single-onto root place (found top u.trees) (removed top u.trees)
      (found-few top u.trees (once (detached old forest) cut-trees top (kind-there top kind.Element (detached old forest).nodes replace-kind)))
      (bare-removed root top u.trees (subst (λ x. is_bare root x ≡ true) same bare)) (single-removed top u.trees whole))
