-- Roots with at most one child, and the children of roots, told of trees: what changes leave of them.
use Rattle.std.proofs.Common.{◌≡◌, ℕ, ◌==◌, Bool, true, false, not, cond, ◌&&◌, ◌||◌, List, [], refl, sym, ap, ◌∙◌, subst}
use Rattle.std.specs.Prelude.{if◌then◌else◌}
use Rattle.xf_def_forest.specs.declared.content.Content.{Content}
use Rattle.xf_def_forest.specs.declared.content.Node.{Node}
use Rattle.xf_def_forest.specs.Forest.{is_root}
use Rattle.xf_def_forest.specs.Texts.{with_value}
use Rattle.xf_def_forest.proofs.BackLaws.{and-true, false-true, or-false}
use Rattle.xf_law_forests.proofs.RollbackLemmas.Trees.{Trees, none, tree, onto, followed, times, onto-inj}
use Rattle.xf_law_forests.proofs.RollbackLemmas.TreeTexts.{attributes, retexted, revalued, times-split}
use Rattle.xf_law_forests.proofs.RollbackLemmas.TreeMoved.{value-root}
use Rattle.xf_law_forests.proofs.RollbackLemmas.TreeFacts.{is_at}
use Rattle.xf_law_forests.proofs.RollbackLemmas.TreeMoves.{removed, found}
use Rattle.xf_law_forests.proofs.RollbackLemmas.TreePlaces.{changed}
use Rattle.xf_law_forests.proofs.RollbackLemmas.TreeTops.{NoRoots, tops, absent-tops, changed-tops, at-first, no-roots-followed}
use Rattle.xf_law_invariants.specs.Planned.Roots.{AreSingle, IsNoDocument, is_few, is_single, is_under_root}

-- ---- what is told

-- the trees of these nodes are known
pub known-trees : (nodes : List Node) (s t : Trees) → nodes ≡ onto 0 s [] → nodes ≡ onto 0 t [] → s ≡ t
known-trees nodes s t one two = (onto-inj 0 s t [] [] tt tt (sym one ∙ two)).0

pub single-by : (nodes : List Node) (t : Trees) → nodes ≡ onto 0 t [] → is_single t ≡ true → AreSingle nodes
single-by nodes t e h s f = subst (λ x. is_single x ≡ true) (known-trees nodes t s e f) h

pub document-by : (n : ℕ) (nodes : List Node) (t : Trees) → nodes ≡ onto 0 t [] → is_under_root n t ≡ false → IsNoDocument n nodes
document-by n nodes t e h s f = subst (λ x. is_under_root n x ≡ false) (known-trees nodes t s e f) h

-- ---- trees beside each other

both : (a b : Bool) → a ≡ true → b ≡ true → (a && b) ≡ true
both a b h k = rw (h, k) refl

neither : (a b : Bool) → a ≡ false → b ≡ false → (a || b) ≡ false
neither a b h k = rw (h, k) refl

pub single-followed : (t s : Trees) → is_single t ≡ true → is_single s ≡ true → is_single (followed t s) ≡ true
single-followed none s h k = k
single-followed (tree n c j r) s h k =
    let parts = and-true (not (is_root c) || is_few j) (is_single r) h in both (not (is_root c) || is_few j) (is_single (followed r s)) parts.0 (single-followed r s parts.1 k)

pub under-followed : (n : ℕ) (t s : Trees) → is_under_root n t ≡ false → is_under_root n s ≡ false → is_under_root n (followed t s) ≡ false
under-followed n none s h k = k
under-followed n (tree m c j r) s h k =
    let parts = or-false (is_root c && tops n j) (is_under_root n r) h in neither (is_root c && tops n j) (is_under_root n (followed r s)) parts.0 (under-followed n r s parts.1 k)

pub single-rootless : (t : Trees) → NoRoots t → is_single t ≡ true
single-rootless none h = refl
single-rootless (tree n c k r) h = rw h.0 (single-rootless r h.1)

pub under-rootless : (n : ℕ) (t : Trees) → NoRoots t → is_under_root n t ≡ false
under-rootless n none h = refl
under-rootless n (tree m c k r) h = rw h.0 (under-rootless n r h.1)

pub absent-under : (n : ℕ) (t : Trees) → times n t ≡ 0 → is_under_root n t ≡ false
absent-under n none h = refl
absent-under n (tree m c k r) h =
    let parts = times-split n m c k r h in
    neither (is_root c && tops n k) (is_under_root n r) (ap (λ b. is_root c && b) (absent-tops n k parts.1) ∙ and-none (is_root c)) (absent-under n r parts.2)
  where
    and-none : (b : Bool) → (b && false) ≡ false
    and-none true = refl
    and-none false = refl

-- ---- a tree that is cut off

few-removed : (n : ℕ) (k : Trees) → is_few k ≡ true → is_few (removed n k) ≡ true
few-removed n none h = refl
few-removed n (tree m c k none) h = by (m == n)
  where
    by : (b : Bool) → is_few (cond b none (tree m c (removed n k) none)) ≡ true
    by true = refl
    by false = refl
few-removed n (tree m c k (tree x b j r)) h = absurd (false-true h)

or-more : (a b c : Bool) → (b ≡ true → c ≡ true) → (a || b) ≡ true → (a || c) ≡ true
or-more true b c f h = refl
or-more false b c f h = f h

pub single-removed : (n : ℕ) (t : Trees) → is_single t ≡ true → is_single (removed n t) ≡ true
single-removed n none h = refl
single-removed n (tree m c k r) h = by (m == n) (single-removed n r parts.1)
  where
    parts : ((not (is_root c) || is_few k) ≡ true) × (is_single r ≡ true)
    parts = and-true (not (is_root c) || is_few k) (is_single r) h

    by : (b : Bool) → is_single (removed n r) ≡ true → is_single (cond b (removed n r) (tree m c (removed n k) (removed n r))) ≡ true
    by true s = s
    by false s = both (not (is_root c) || is_few (removed n k)) (is_single (removed n r)) (or-more (not (is_root c)) (is_few k) (is_few (removed n k)) (few-removed n k) parts.0) s

tops-removed : (n m : ℕ) (t : Trees) → tops n t ≡ false → tops n (removed m t) ≡ false
tops-removed n m none h = refl
tops-removed n m (tree x c k r) h = by (x == m) (tops-removed n m r parts.1)
  where
    parts : ((x == n) ≡ false) × (tops n r ≡ false)
    parts = or-false (x == n) (tops n r) h

    by : (b : Bool) → tops n (removed m r) ≡ false → tops n (cond b (removed m r) (tree x c (removed m k) (removed m r))) ≡ false
    by true s = s
    by false s = neither (x == n) (tops n (removed m r)) parts.0 s

and-less : (a b c : Bool) → (b ≡ false → c ≡ false) → (a && b) ≡ false → (a && c) ≡ false
and-less true b c f h = f h
and-less false b c f h = refl

pub under-removed : (n m : ℕ) (t : Trees) → is_under_root n t ≡ false → is_under_root n (removed m t) ≡ false
under-removed n m none h = refl
under-removed n m (tree x c k r) h = by (x == m) (under-removed n m r parts.1)
  where
    parts : ((is_root c && tops n k) ≡ false) × (is_under_root n r ≡ false)
    parts = or-false (is_root c && tops n k) (is_under_root n r) h

    by : (b : Bool) → is_under_root n (removed m r) ≡ false → is_under_root n (cond b (removed m r) (tree x c (removed m k) (removed m r))) ≡ false
    by true s = s
    by false s = neither (is_root c && tops n (removed m k)) (is_under_root n (removed m r)) (and-less (is_root c) (tops n k) (tops n (removed m k)) (tops-removed n m k) parts.0) s

pub none-found : (n : ℕ) (t : Trees) → is_at is_root n t ≡ false → NoRoots (found n t)
none-found n none h = tt
none-found n (tree m c k r) h =
    let inner = or-false (is_at is_root n k) (is_at is_root n r) (or-false ((m == n) && is_root c) (is_at is_root n k || is_at is_root n r) h).1 in
    no-roots-followed (if m == n then tree m c k none else found n k) (found n r) (by (m == n) refl (none-found n k inner.0)) (none-found n r inner.1)
  where
    by : (b : Bool) → (m == n) ≡ b → NoRoots (found n k) → NoRoots (cond b (tree m c k none) (found n k))
    by true e s = (at-first n m c k r e h, tt)
    by false e s = s

pub single-detached : (n : ℕ) (t : Trees) → is_at is_root n t ≡ false → is_single t ≡ true → is_single (followed (removed n t) (found n t)) ≡ true
single-detached n t e h = single-followed (removed n t) (found n t) (single-removed n t h) (single-rootless (found n t) (none-found n t e))

pub under-detached : (n m : ℕ) (t : Trees) → is_at is_root m t ≡ false → is_under_root n t ≡ false → is_under_root n (followed (removed m t) (found m t)) ≡ false
under-detached n m t e h = under-followed n (removed m t) (found m t) (under-removed n m t h) (under-rootless n (found m t) (none-found m t e))

-- ---- a tree that comes below a node that is no root

pub few-changed : (q : ℕ) (f : Trees → Trees) (k : Trees) → is_few (changed q f k) ≡ is_few k
few-changed q f none = refl
few-changed q f (tree n c k none) = refl
few-changed q f (tree n c k (tree m b j r)) = refl

pub single-changed : (q : ℕ) (f : Trees → Trees) (t : Trees) → is_at is_root q t ≡ false → is_single t ≡ true → is_single (changed q f t) ≡ true
single-changed q f none e h = refl
single-changed q f (tree m c k r) e h = both (not (is_root c) || is_few (if m == q then f k else changed q f k)) (is_single (changed q f r)) (by (m == q) refl) (single-changed q f r inner.1 parts.1)
  where
    parts : ((not (is_root c) || is_few k) ≡ true) × (is_single r ≡ true)
    parts = and-true (not (is_root c) || is_few k) (is_single r) h

    inner : (is_at is_root q k ≡ false) × (is_at is_root q r ≡ false)
    inner = or-false (is_at is_root q k) (is_at is_root q r) (or-false ((m == q) && is_root c) (is_at is_root q k || is_at is_root q r) e).1

    by : (b : Bool) → (m == q) ≡ b → (not (is_root c) || is_few (cond b (f k) (changed q f k))) ≡ true
    by true g = rw (at-first q m c k r g e) refl
    by false g = rw (few-changed q f k) parts.0

pub under-changed : (n q : ℕ) (f : Trees → Trees) (t : Trees) → is_at is_root q t ≡ false → is_under_root n t ≡ false → is_under_root n (changed q f t) ≡ false
under-changed n q f none e h = refl
under-changed n q f (tree m c k r) e h = neither (is_root c && tops n (if m == q then f k else changed q f k)) (is_under_root n (changed q f r)) (by (m == q) refl) (under-changed n q f r inner.1 parts.1)
  where
    parts : ((is_root c && tops n k) ≡ false) × (is_under_root n r ≡ false)
    parts = or-false (is_root c && tops n k) (is_under_root n r) h

    inner : (is_at is_root q k ≡ false) × (is_at is_root q r ≡ false)
    inner = or-false (is_at is_root q k) (is_at is_root q r) (or-false ((m == q) && is_root c) (is_at is_root q k || is_at is_root q r) e).1

    by : (b : Bool) → (m == q) ≡ b → (is_root c && tops n (cond b (f k) (changed q f k))) ≡ false
    by true g = rw (at-first q m c k r g e) refl
    by false g = rw (changed-tops n q f k) parts.0

-- ---- texts

few-revalued : (n : ℕ) (text : List ℕ) (k : Trees) → is_few (revalued n text k) ≡ is_few k
few-revalued n text none = refl
few-revalued n text (tree m c k none) = refl
few-revalued n text (tree m c k (tree x b j r)) = refl

value-same : (b : Bool) (text : List ℕ) (c : Content) → is_root (cond b (with_value text c) c) ≡ is_root c
value-same true text c = value-root text c
value-same false text c = refl

pub single-revalued : (n : ℕ) (text : List ℕ) (t : Trees) → is_single (revalued n text t) ≡ is_single t
single-revalued n text none = refl
single-revalued n text (tree m c k r) =
    ap (λ b. (not b || is_few (revalued n text k)) && is_single (revalued n text r)) (value-same (m == n) text c) ∙ ap (λ b. (not (is_root c) || b) && is_single (revalued n text r)) (few-revalued n text k)
    ∙ ap (λ b. (not (is_root c) || is_few k) && b) (single-revalued n text r)

few-retexted : (n : ℕ) (s k : Trees) → is_few (retexted n s k) ≡ is_few k
few-retexted n s none = refl
few-retexted n s (tree m c k none) = refl
few-retexted n s (tree m c k (tree x b j r)) = refl

pub single-retexted : (n : ℕ) (s t : Trees) → is_at is_root n t ≡ false → is_single t ≡ true → is_single (retexted n s t) ≡ true
single-retexted n s none e h = refl
single-retexted n s (tree m c k r) e h = both (not (is_root c) || is_few (inside (m == n))) (is_single (retexted n s r)) (by (m == n) refl) (single-retexted n s r inner.1 parts.1)
  where
    parts : ((not (is_root c) || is_few k) ≡ true) × (is_single r ≡ true)
    parts = and-true (not (is_root c) || is_few k) (is_single r) h

    inner : (is_at is_root n k ≡ false) × (is_at is_root n r ≡ false)
    inner = or-false (is_at is_root n k) (is_at is_root n r) (or-false ((m == n) && is_root c) (is_at is_root n k || is_at is_root n r) e).1

    inside : Bool → Trees
    inside b = cond b (followed (attributes k) s) (retexted n s k)

    by : (b : Bool) → (m == n) ≡ b → (not (is_root c) || is_few (inside b)) ≡ true
    by true g = rw (at-first n m c k r g e) refl
    by false g = rw (few-retexted n s k) parts.0
