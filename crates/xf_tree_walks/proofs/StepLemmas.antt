-- Depths that rise by one at most, and what a cut or a paste leaves of them.
use Rattle.std.proofs.Common.{◌≡◌, ℕ, zero, suc, ◌+◌, ◌-◌, ◌<◌, ◌≤◌, List, [], ◌∷◌, ◌++◌, map, length, get_or, subst, arith}
use Rattle.xf_tree_rows.specs.Rows.{AreSteps}

-- how deep the node after these may be
abbrev pub most_after : ℕ → List ℕ → ℕ
most_after most [] = most
most_after most (d ∷ ds) = most_after (suc d) ds

pub steps-append : (most : ℕ) (xs ys : List ℕ) → AreSteps most xs → AreSteps (most_after most xs) ys → AreSteps most (xs ++ ys)
steps-append most [] ys a b = b
steps-append most (x ∷ xs) ys a b = (a.0, steps-append (suc x) xs ys a.1 b)

pub steps-parts : (most : ℕ) (xs ys : List ℕ) → AreSteps most (xs ++ ys) → AreSteps most xs × AreSteps (most_after most xs) ys
steps-parts most [] ys a = (tt, a)
steps-parts most (x ∷ xs) ys a = let i = steps-parts (suc x) xs ys a.1 in ((a.0, i.0), i.1)

pub steps-more : (most more : ℕ) (xs : List ℕ) → most ≤ more → AreSteps most xs → AreSteps more xs
steps-more most more [] h a = tt
steps-more most more (x ∷ xs) h a = (omega (arith, a.0), a.1)

-- no depth is greater than its place
pub depth-bound : (most i : ℕ) (xs : List ℕ) (d : ℕ) → AreSteps most xs → i < length xs → get_or xs i d ≤ most + i
depth-bound most i [] d a h = absurd (omega arith)
depth-bound most zero (x ∷ xs) d a h = omega (arith, a.0)
depth-bound most (suc i) (x ∷ xs) d a h = omega (arith, a.0, depth-bound (suc x) i xs d a.1 (omega arith))

-- all are greater than this
abbrev pub AllAbove : ℕ → List ℕ → Type 0
AllAbove d [] = Unit {0}
AllAbove d (x ∷ xs) = (d ≤ x) × AllAbove d xs

pub steps-lowered : (by most : ℕ) (xs : List ℕ) → by ≤ most → AllAbove by xs → AreSteps most xs → AreSteps (most - by) (map (λ d. d - by) xs)
steps-lowered by most [] h all a = tt
steps-lowered by most (x ∷ xs) h all a =
    let i = steps-lowered by (suc x) xs (omega (arith, all.0)) all.1 a.1 in
    let e : suc x - by ≡ suc (x - by) = omega (arith, all.0) in
    (omega (arith, a.0), subst (λ m. AreSteps m (map (λ d. d - by) xs)) e i)

pub steps-raised : (by most : ℕ) (xs : List ℕ) → AreSteps most xs → AreSteps (most + by) (map (λ d. d + by) xs)
steps-raised by most [] a = tt
steps-raised by most (x ∷ xs) a =
    let e : suc x + by ≡ suc (x + by) = omega arith in
    (omega (arith, a.0), subst (λ m. AreSteps m (map (λ d. d + by) xs)) e (steps-raised by (suc x) xs a.1))
