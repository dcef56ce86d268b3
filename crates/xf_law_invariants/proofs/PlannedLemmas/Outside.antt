-- A tree keeps what is outside of it outside: where another tree is cut off, comes below a node that is not in it, or comes as a new one.
use Rattle.std.proofs.Common.{◌≡◌, ℕ, zero, suc, ◌+◌, ◌==◌, Bool, true, false, cond, ◌||◌, refl, sym, ap, ◌∙◌, subst, arith}
use Rattle.std.specs.Prelude.{◌≤◌, if◌then◌else◌}
use Rattle.std.proofs.lemmas.Bool.Decides.{nat_tests}
use Rattle.xf_def_forest.specs.declared.content.Content.{Content}
use Rattle.xf_def_forest.specs.Forest.{is_attribute}
use Rattle.xf_def_forest.specs.Changes.{at_place}
use Rattle.xf_law_forests.proofs.RollbackLemmas.Trees.{Trees, none, tree, followed, times, times-followed}
use Rattle.xf_law_forests.proofs.RollbackLemmas.TreeTexts.{times-split}
use Rattle.xf_law_forests.proofs.RollbackLemmas.TreeMoves.{removed, found, found-followed}
use Rattle.xf_law_forests.proofs.RollbackLemmas.TreePlaces.{inserted, beside, with_tree, changed, changed-absent}
use Rattle.xf_law_forests.proofs.RollbackLemmas.TreeTops.{tops}
use Rattle.xf_law_forests.proofs.RollbackLemmas.MoveFacts.{removed-times}

-- ---- a tree that is cut off

found-most : (p n : ℕ) (t : Trees) → times p (found n t) ≤ times p t
found-most p n t = let h = removed-times p n t in omega (arith, h)

-- so often is a number in the trees of a node, told by parts
found-parts : (p n m : ℕ) (c : Content) (k r : Trees) → times p (found n (tree m c k r)) ≡ times p (if m == n then tree m c k none else found n k) + times p (found n r)
found-parts p n m c k r = times-followed p (if m == n then tree m c k none else found n k) (found n r)

pub found-detached : (p n m : ℕ) (t : Trees) → times p (found n (removed m t)) + times p (found n (found m t)) ≤ times p (found n t)
found-detached p n m none = omega arith
found-detached p n m (tree x c k r) = by (x == m) (x == n) refl (found-detached p n m k) (found-detached p n m r)
  where
    Less : Trees → Type 0
    Less t = times p (found n (removed m t)) + times p (found n (found m t)) ≤ times p (found n t)

    whole : (b : Bool) → (x == n) ≡ b → times p (found n (tree x c k none)) ≡ times p (cond b (tree x c k none) (found n k))
    whole b e = let h = found-parts p n x c k none in let g = ap (λ d. times p (cond d (tree x c k none) (found n k))) e in omega (arith, h, g)

    by : (b d : Bool) → (x == n) ≡ d → Less k → Less r
        → times p (found n (cond b (removed m r) (tree x c (removed m k) (removed m r)))) + times p (found n (followed (cond b (tree x c k none) (found m k)) (found m r))) ≤ times p (followed (cond d (tree x c k none) (found n k)) (found n r))
    by true d e in_k in_r =
        let one = ap (times p) (found-followed n (tree x c k none) (found m r)) ∙ times-followed p (found n (tree x c k none)) (found n (found m r)) in
        let two = whole d e in
        let all = times-followed p (cond d (tree x c k none) (found n k)) (found n r) in
        omega (arith, one, two, all, in_r)
    by false true e in_k in_r =
        let one = ap (times p) (found-followed n (found m k) (found m r)) ∙ times-followed p (found n (found m k)) (found n (found m r)) in
        let two : times p (found n (tree x c (removed m k) (removed m r))) ≡ times p (tree x c (removed m k) none) + times p (found n (removed m r))
        = found-parts p n x c (removed m k) (removed m r) ∙ ap (λ b. times p (cond b (tree x c (removed m k) none) (found n (removed m k))) + times p (found n (removed m r))) e in
        let all = times-followed p (tree x c k none) (found n r) in
        let less = found-most p n (found m k) in
        let split = removed-times p m k in
        omega (arith, one, two, all, less, split, in_r)
    by false false e in_k in_r =
        let one = ap (times p) (found-followed n (found m k) (found m r)) ∙ times-followed p (found n (found m k)) (found n (found m r)) in
        let two : times p (found n (tree x c (removed m k) (removed m r))) ≡ times p (found n (removed m k)) + times p (found n (removed m r))
        = found-parts p n x c (removed m k) (removed m r) ∙ ap (λ b. times p (cond b (tree x c (removed m k) none) (found n (removed m k))) + times p (found n (removed m r))) e in
        let all = times-followed p (found n k) (found n r) in
        omega (arith, one, two, all, in_k, in_r)

-- the number is not in the tree of the node
abbrev pub IsOut : ℕ → ℕ → Trees → Type 0
IsOut p n t = times p (found n t) ≡ 0

pub out-detached : (p n m : ℕ) (t : Trees) → IsOut p n t → IsOut p n (followed (removed m t) (found m t))
out-detached p n m t h =
    let parts = ap (times p) (found-followed n (removed m t) (found m t)) ∙ times-followed p (found n (removed m t)) (found n (found m t)) in
    let less = found-detached p n m t in omega (arith, parts, less, h)

pub out-removed : (p n m : ℕ) (t : Trees) → IsOut p n t → IsOut p n (removed m t)
out-removed p n m t h = let less = found-detached p n m t in omega (arith, less, h)

-- ---- a tree that comes below a node

-- a tree without the node comes among others
found-inserted : (p n place : ℕ) (s k : Trees) → times p (found n s) ≡ 0 → times p (found n (inserted place s k)) ≡ times p (found n k)
found-inserted p n place s none h = h
found-inserted p n place s (tree m c j r) h = by (is_attribute c) place (found-inserted p n place s r h) (λ left. found-inserted p n left s r h)
  where
    more : (y z : Trees) → times p (found n y) ≡ times p (found n z) → times p (found n (tree m c j y)) ≡ times p (found n (tree m c j z))
    more y z e = let a = found-parts p n m c j y in let b = found-parts p n m c j z in omega (arith, a, b, e)

    before : times p (found n (followed s (tree m c j r))) ≡ times p (found n (tree m c j r))
    before = let a = ap (times p) (found-followed n s (tree m c j r)) ∙ times-followed p (found n s) (found n (tree m c j r)) in omega (arith, a, h)

    by : (b : Bool) (place : ℕ) → times p (found n (inserted place s r)) ≡ times p (found n r) → ((left : ℕ) → times p (found n (inserted left s r)) ≡ times p (found n r))
        → times p (found n (cond b (tree m c j (inserted place s r)) (at_place place (followed s (tree m c j r)) (λ left. tree m c j (inserted left s r))))) ≡ times p (found n (tree m c j r))
    by true place one each = more (inserted place s r) r one
    by false zero one each = before
    by false (suc left) one each = more (inserted left s r) r (each left)

found-beside : (p n place : ℕ) (s k : Trees) → times p (found n s) ≡ 0 → times p (found n (beside place s k)) ≡ times p (found n k)
found-beside p n place s none h = h
found-beside p n place s (tree m c j r) h = by (is_attribute c) place (λ left. found-beside p n left s r h)
  where
    more : (y z : Trees) → times p (found n y) ≡ times p (found n z) → times p (found n (tree m c j y)) ≡ times p (found n (tree m c j z))
    more y z e = let a = found-parts p n m c j y in let b = found-parts p n m c j z in omega (arith, a, b, e)

    before : times p (found n (followed s (tree m c j r))) ≡ times p (found n (tree m c j r))
    before = let a = ap (times p) (found-followed n s (tree m c j r)) ∙ times-followed p (found n s) (found n (tree m c j r)) in omega (arith, a, h)

    by : (b : Bool) (place : ℕ) → ((left : ℕ) → times p (found n (beside left s r)) ≡ times p (found n r))
        → times p (found n (cond b (at_place place (followed s (tree m c j r)) (λ left. tree m c j (beside left s r))) (followed s (tree m c j r)))) ≡ times p (found n (tree m c j r))
    by true zero each = before
    by true (suc left) each = more (beside left s r) r (each left)
    by false place each = before

found-with : (p n place : ℕ) (s k : Trees) → times p (found n s) ≡ 0 → times p (found n (with_tree place s k)) ≡ times p (found n k)
found-with p n place none k h = refl
found-with p n place (tree m c j r) k h = by (is_attribute c)
  where
    by : (b : Bool) → times p (found n (cond b (beside place (tree m c j r) k) (inserted place (tree m c j r) k))) ≡ times p (found n k)
    by true = found-beside p n place (tree m c j r) k h
    by false = found-inserted p n place (tree m c j r) k h

-- the node under which it comes is not in the tree
pub out-placed : (p n q place : ℕ) (s t : Trees) → times p (found n s) ≡ 0 → IsOut q n t → IsOut p n t → IsOut p n (changed q (with_tree place s) t)
out-placed p n q place s none e out h = h
out-placed p n q place s (tree m c k r) e out h = by (m == n) refl (out-placed p n q place s k e) (out-placed p n q place s r e)
  where
    out_parts : times q (if m == n then tree m c k none else found n k) + times q (found n r) ≡ 0
    out_parts = sym (found-parts q n m c k r) ∙ out

    parts : times p (if m == n then tree m c k none else found n k) + times p (found n r) ≡ 0
    parts = sym (found-parts p n m c k r) ∙ h

    Stays : Trees → Type 0
    Stays y = IsOut q n y → IsOut p n y → IsOut p n (changed q (with_tree place s) y)

    by : (b : Bool) → (m == n) ≡ b → Stays k → Stays r → times p (found n (tree m c (if m == q then with_tree place s k else changed q (with_tree place s) k) (changed q (with_tree place s) r))) ≡ 0
    by true f one rest =
        let later : times p (found n (changed q (with_tree place s) r)) ≡ 0 = rest (omega (arith, out_parts)) (omega (arith, parts)) in
        let gone : times q (tree m c k none) ≡ 0 = let z : times q (cond true (tree m c k none) (found n k)) + times q (found n r) ≡ 0 = subst (λ b. times q (cond b (tree m c k none) (found n k)) + times q (found n r) ≡ 0) f out_parts in omega (arith, z) in
        let split = times-split q m c k none gone in
        let same : (if m == q then with_tree place s k else changed q (with_tree place s) k) ≡ k = rw split.0 (changed-absent q (with_tree place s) k split.1) in
        let own : times p (tree m c k none) ≡ 0 = let z : times p (cond true (tree m c k none) (found n k)) + times p (found n r) ≡ 0 = subst (λ b. times p (cond b (tree m c k none) (found n k)) + times p (found n r) ≡ 0) f parts in omega (arith, z) in
        let now : times p (found n (tree m c k (changed q (with_tree place s) r))) ≡ 0
        = found-parts p n m c k (changed q (with_tree place s) r) ∙ ap (λ b. times p (cond b (tree m c k none) (found n k)) + times p (found n (changed q (with_tree place s) r))) f ∙ (omega (arith, own, later)) in
        subst (λ j. times p (found n (tree m c j (changed q (with_tree place s) r))) ≡ 0) (sym same) now
    by false f one rest =
        let later : times p (found n (changed q (with_tree place s) r)) ≡ 0 = rest (omega (arith, out_parts)) (omega (arith, parts)) in
        let inner : times p (found n (if m == q then with_tree place s k else changed q (with_tree place s) k)) ≡ 0 = under (m == q) (one out_own own) in
        found-parts p n m c (if m == q then with_tree place s k else changed q (with_tree place s) k) (changed q (with_tree place s) r)
        ∙ ap (λ b. times p (cond b (tree m c (if m == q then with_tree place s k else changed q (with_tree place s) k) none) (found n (if m == q then with_tree place s k else changed q (with_tree place s) k))) + times p (found n (changed q (with_tree place s) r))) f
        ∙ (omega (arith, inner, later))
      where
        own : times p (found n k) ≡ 0
        own = let z : times p (cond false (tree m c k none) (found n k)) + times p (found n r) ≡ 0 = subst (λ b. times p (cond b (tree m c k none) (found n k)) + times p (found n r) ≡ 0) f parts in omega (arith, z)

        out_own : times q (found n k) ≡ 0
        out_own = let z : times q (cond false (tree m c k none) (found n k)) + times q (found n r) ≡ 0 = subst (λ b. times q (cond b (tree m c k none) (found n k)) + times q (found n r) ≡ 0) f out_parts in omega (arith, z)

        under : (b : Bool) → IsOut p n (changed q (with_tree place s) k) → times p (found n (cond b (with_tree place s k) (changed q (with_tree place s) k))) ≡ 0
        under true inside = found-with p n place s k e ∙ own
        under false inside = inside

-- ---- a top is in no other tree

tops-times : (n : ℕ) (t : Trees) → tops n t ≡ true → 1 ≤ times n t
tops-times n none h = cc h
tops-times n (tree m c k r) h = by (m == n) h (tops-times n r)
  where
    by : (b : Bool) → (b || tops n r) ≡ true → (tops n r ≡ true → 1 ≤ times n r) → 1 ≤ cond b 1 0 + (times n k + times n r)
    by true g rest = omega arith
    by false g rest = let z = rest g in omega (arith, z)

pub top-apart : (n m : ℕ) (t : Trees) → (n == m) ≡ false → tops n t ≡ true → times n t ≤ 1 → times n (found m t) ≡ 0
top-apart n m none other top once = refl
top-apart n m (tree x c k r) other top once = by (x == n) refl top (top-apart n m r other)
  where
    less_k : times n (found m k) ≤ times n k
    less_k = found-most n m k

    less_r : times n (found m r) ≤ times n r
    less_r = found-most n m r

    not_m : (x == n) ≡ true → (x == m) ≡ false
    not_m e = grind (arith, nat_tests, e, other)

    by : (b : Bool) → (x == n) ≡ b → (b || tops n r) ≡ true → (tops n r ≡ true → times n r ≤ 1 → times n (found m r) ≡ 0) → times n (found m (tree x c k r)) ≡ 0
    by true e g later =
        let z : 1 + (times n k + times n r) ≤ 1 = subst (λ b. cond b 1 0 + (times n k + times n r) ≤ 1) e once in
        let f = not_m e in
        found-parts n m x c k r ∙ ap (λ b. times n (cond b (tree x c k none) (found m k)) + times n (found m r)) f ∙ (omega (arith, z, less_k, less_r))
    by false e g later =
        let z : 0 + (times n k + times n r) ≤ 1 = subst (λ b. cond b 1 0 + (times n k + times n r) ≤ 1) e once in
        let there = tops-times n r g in
        let rest : times n (found m r) ≡ 0 = later g (omega (arith, z)) in
        let own : times n (tree x c k none) ≡ 0 = ap (λ b. cond b 1 0 + (times n k + 0)) e ∙ (omega (arith, z, there)) in
        found-parts n m x c k r ∙ either (x == m) own rest (omega (arith, z, there))
      where
        either : (b : Bool) → times n (tree x c k none) ≡ 0 → times n (found m r) ≡ 0 → times n k ≡ 0 → times n (cond b (tree x c k none) (found m k)) + times n (found m r) ≡ 0
        either true own rest gone = omega (arith, own, rest)
        either false own rest gone = omega (arith, rest, gone, less_k)
