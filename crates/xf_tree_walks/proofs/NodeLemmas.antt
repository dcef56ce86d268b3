-- A list of nodes whose numbers differ, parted at one of them.
use Rattle.std.proofs.Common.{◌≡◌, ℕ, ◌+◌, ◌≤◌, ◌==◌, ◌||◌, Bool, true, false, if◌then◌else◌, List, [], ◌∷◌, ◌++◌, Some, refl, ap, ◌∙◌, inl, inr, arith}
use Rattle.std.proofs.lemmas.Bool.{cases_Bool, true≢false}
use Rattle.std.proofs.lemmas.Bool.Decides.{nat_tests}
use Rattle.std.proofs.lemmas.List.Folds.{list_any-append}
use Rattle.xf_def_forest.specs.declared.content.Node.{Node}
use Rattle.xf_def_forest.specs.Forest.{has_number, node_at, from_node, past}
use Rattle.xf_def_forest.specs.Changes.{without_tree}
use Rattle.xf_def_forest.specs.Order.{is_before}
use Rattle.xf_tree_contents.proofs.AlikeLemmas.{eq-true}
use Rattle.xf_tree_walks.specs.Nodes.{times}

pub eq-false : (m n : ℕ) → (m ≡ n → ⊥) → (m == n) ≡ false
eq-false m n e = grind (arith, nat_tests)

pub eq-turned : (m n : ℕ) → (m == n) ≡ (n == m)
eq-turned m n = grind (arith, nat_tests)

pub times-append : (n : ℕ) (xs ys : List Node) → times n (xs ++ ys) ≡ times n xs + times n ys
times-append n [] ys = omega arith
times-append n (x ∷ xs) ys = omega (arith, times-append n xs ys)

pub has-append : (n : ℕ) (xs ys : List Node) → has_number n (xs ++ ys) ≡ (has_number n xs || has_number n ys)
has-append n xs ys = list_any-append (λ (x : Node). x.number == n) xs ys

absent-head : (b : Bool) (t : ℕ) → (if b then 1 else 0) + t ≡ 0 → b ≡ false
absent-head true t h = absurd (omega arith)
absent-head false t h = refl

pub absent-times : (n : ℕ) (xs : List Node) → times n xs ≡ 0 → has_number n xs ≡ false
absent-times n [] h = refl
absent-times n (x ∷ xs) h =
    let no = absent-head (x.number == n) (times n xs) h in
    rw no (absent-times n xs (omega arith))

pub times-absent : (n : ℕ) (xs : List Node) → has_number n xs ≡ false → times n xs ≡ 0
times-absent n [] h = refl
times-absent n (x ∷ xs) h = elim (cases_Bool (x.number == n)) [
  | inl e ↦ absurd (true≢false (rw e at h))
  | inr e ↦ rw e (omega (arith, times-absent n xs (rw e at h)))
]

pub times-here : (n : ℕ) (us : List Node) (x : Node) (xs : List Node) → x.number ≡ n → times n (us ++ (x ∷ xs)) ≡ times n us + (1 + times n xs)
times-here n us x xs e = times-append n us (x ∷ xs) ∙ ap (λ b. times n us + ((if b then 1 else 0) + times n xs)) (eq-true x.number n e)

-- the node with this number stands between these lists, and only there
pub record Parted (n : ℕ) (nodes us : List Node) (x : Node) (xs : List Node) : Type 0 where
  pub whole : nodes ≡ us ++ (x ∷ xs)
  pub number : x.number ≡ n
  pub before : has_number n us ≡ false
  pub after : has_number n xs ≡ false

pub part : (n : ℕ) (nodes us : List Node) (x : Node) (xs : List Node) → nodes ≡ us ++ (x ∷ xs) → x.number ≡ n → times n nodes ≤ 1 → Parted n nodes us x xs
part n nodes us x xs e is few =
    let t = ap (times n) e ∙ times-here n us x xs is in
    record {
      whole = e;
      number = is;
      before = absent-times n us (omega arith);
      after = absent-times n xs (omega arith);
    }

find-go : (n : ℕ) (us : List Node) (x : Node) (xs : List Node) → x.number ≡ n → has_number n us ≡ false → node_at n (us ++ (x ∷ xs)) ≡ Some x
find-go n [] x xs e h = rw (eq-true x.number n e) refl
find-go n (u ∷ us) x xs e h = elim (cases_Bool (u.number == n)) [
  | inl t ↦ absurd (true≢false (rw t at h))
  | inr t ↦ rw t (find-go n us x xs e (rw t at h))
]

from-go : (n : ℕ) (us : List Node) (x : Node) (xs : List Node) → x.number ≡ n → has_number n us ≡ false → from_node n (us ++ (x ∷ xs)) ≡ x ∷ xs
from-go n [] x xs e h = rw (eq-true x.number n e) refl
from-go n (u ∷ us) x xs e h = elim (cases_Bool (u.number == n)) [
  | inl t ↦ absurd (true≢false (rw t at h))
  | inr t ↦ rw t (from-go n us x xs e (rw t at h))
]

without-go : (n : ℕ) (us : List Node) (x : Node) (xs : List Node) → x.number ≡ n → has_number n us ≡ false → without_tree n (us ++ (x ∷ xs)) ≡ us ++ past x.depth xs
without-go n [] x xs e h = rw (eq-true x.number n e) refl
without-go n (u ∷ us) x xs e h = elim (cases_Bool (u.number == n)) [
  | inl t ↦ absurd (true≢false (rw t at h))
  | inr t ↦ rw t (ap (λ l. u ∷ l) (without-go n us x xs e (rw t at h)))
]

before-go : (n m : ℕ) (us : List Node) (x : Node) (xs : List Node) → x.number ≡ n → has_number n us ≡ false → is_before n m (us ++ (x ∷ xs)) ≡ has_number m xs
before-go n m [] x xs e h = rw (eq-true x.number n e) refl
before-go n m (u ∷ us) x xs e h = elim (cases_Bool (u.number == n)) [
  | inl t ↦ absurd (true≢false (rw t at h))
  | inr t ↦ rw t (before-go n m us x xs e (rw t at h))
]

pub parted-node : (n : ℕ) (nodes us : List Node) (x : Node) (xs : List Node) → Parted n nodes us x xs → node_at n nodes ≡ Some x
parted-node n nodes us x xs p = ap (node_at n) p.whole ∙ find-go n us x xs p.number p.before

pub parted-from : (n : ℕ) (nodes us : List Node) (x : Node) (xs : List Node) → Parted n nodes us x xs → from_node n nodes ≡ x ∷ xs
parted-from n nodes us x xs p = ap (from_node n) p.whole ∙ from-go n us x xs p.number p.before

pub parted-without : (n : ℕ) (nodes us : List Node) (x : Node) (xs : List Node) → Parted n nodes us x xs → without_tree n nodes ≡ us ++ past x.depth xs
parted-without n nodes us x xs p = ap (without_tree n) p.whole ∙ without-go n us x xs p.number p.before

pub parted-before : (n m : ℕ) (nodes us : List Node) (x : Node) (xs : List Node) → Parted n nodes us x xs → is_before n m nodes ≡ has_number m xs
parted-before n m nodes us x xs p = ap (is_before n m) p.whole ∙ before-go n m us x xs p.number p.before

pub eq-is : (m n : ℕ) → (m == n) ≡ true → m ≡ n
eq-is m n e = grind (arith, nat_tests)
