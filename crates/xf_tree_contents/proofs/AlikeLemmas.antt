-- Names that are written alike: neither comes before the other.
use Rattle.std.proofs.Common.{◌≡◌, ℕ, ◌&&◌, not, true, false, List, [], ◌∷◌, refl, arith, ◌==◌}
use Rattle.std.specs.Str.{bytes_eq}
use Rattle.std.proofs.lemmas.Grind.{common_steps}
use Rattle.std.proofs.lemmas.Bool.Decides.{nat_tests}
use Rattle.xf_def_forest.specs.Plant.{is_less}

less-or_same : (xs ys : List ℕ) → (not (is_less xs ys) && not (is_less ys xs)) ≡ bytes_eq xs ys
less-or_same [] [] = refl
less-or_same [] (y ∷ ys) = refl
less-or_same (x ∷ xs) [] = refl
less-or_same (x ∷ xs) (y ∷ ys) = level x y xs ys (less-or_same xs ys)
  where
    level : (x y : ℕ) (xs ys : List ℕ) → (not (is_less xs ys) && not (is_less ys xs)) ≡ bytes_eq xs ys → (not (is_less (x ∷ xs) (y ∷ ys)) && not (is_less (y ∷ ys) (x ∷ xs))) ≡ bytes_eq (x ∷ xs) (y ∷ ys)
    level x y xs ys i = grind (arith, common_steps)

pub same-written : (xs ys : List ℕ) → is_less xs ys ≡ false → not (is_less ys xs) ≡ bytes_eq xs ys
same-written xs ys e = rw e at (less-or_same xs ys)

pub other-written : (xs ys : List ℕ) → is_less xs ys ≡ true → false ≡ bytes_eq xs ys
other-written xs ys e = rw e at (less-or_same xs ys)

pub eq-true : (m n : ℕ) → m ≡ n → (m == n) ≡ true
eq-true m n e = grind (arith, nat_tests)
