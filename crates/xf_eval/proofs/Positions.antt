-- A predicate that is a literal number keeps the node at its own position, and where the number is no position none.
use Rattle.std.proofs.Common.{◌≡◌, ℕ, zero, suc, ◌+◌, ◌-◌, ◌*◌, ◌/◌, ◌<◌, ◌≤◌, ◌==◌, Bool, true, false, cond, nat_lt, List, [], ◌∷◌, drop, length, map, ℤ, pos, negsuc, Option, Some, None, refl, sym, ap, ◌∙◌, subst, arith, slice_get, inl, inr}
use Rattle.std.proofs.lemmas.Bool.{cases_lt}
use Rattle.std.proofs.lemmas.Bool.Decides.{nat_tests}
use Rattle.std.specs.Prelude.{IfSome, unsigned_abs}
use Rattle.std.specs.Ordering.{int_cmp}
use Rattle.std.proofs.Math.Nat.{mul-div_cancel, mul-lt-mul_of_pos_right}
use Rattle.xf_num.proofs.DigitLemmas.{scale_positive}
use Rattle.xf_num.specs.Number.{in_range, scale, size_limit}
use Rattle.xf_def_syntax.specs.declared.expr.Expr.{Expr}
use Rattle.xf_def_syntax.specs.declared.expr.Expr.TheVariants as expr
use Rattle.xf_def_forest.specs.declared.content.Node.{Node}
use Rattle.xf_def_values.specs.Conversions.{Decimal, whole}
use Rattle.xf_def_xpath.specs.declared.value.Value.TheVariants.{Number}
use Rattle.xf_def_xpath.specs.Binding.{as_list}
use Rattle.xf_def_xpath.specs.Setting.{Setting, ◌>>=◌}
use Rattle.xf_def_xpath.specs.Comparisons.{is_equal, is_same_number}
use Rattle.xf_def_xpath.specs.Meaning.{meaning}
use Rattle.xf_def_xpath.specs.Steps.{is_true_at, kept_by_all, kept_from, with_first}
use Rattle.xf_def_xpath.proofs.Equations.{meaning-Number}
use Rattle.xf_eval.specs.Live.{AllLive}
use Rattle.xf_eval.specs.Places.{BeginsWith, IsPosition, Keeps, at_position, constant}
use Rattle.xf_eval.proofs.Lives.{live-get, live-is, live-none, live-one}

-- ---- the position that a number is

are_equal : (a b : ℕ) → a ≡ b → (a == b) ≡ true
are_equal a b e = grind (arith, nat_tests)

are_apart : (a b : ℕ) → b < a → (a == b) ≡ false
are_apart a b l = grind (arith, nat_tests)

are_less : (a b : ℕ) → a < b → (a == b) ≡ false
are_less a b l = grind (arith, nat_tests)

unequal : (a b : ℕ) → (a ≡ b → ⊥) → (a == b) ≡ false
unequal a b r = grind (arith, nat_tests)

turned : (a b : ℕ) → (a == b) ≡ (b == a)
turned a b = grind (arith, nat_tests)

cmp-equal : (a b : ℕ) → is_equal (Some (int_cmp (pos a) (pos b))) ≡ (a == b)
cmp-equal a b = grind (arith, nat_tests)

same-units : (u v : ℕ) → u < size_limit → is_same_number (Some (pos u)) (in_range (pos v)) ≡ (u == v)
same-units u v h = elim (cases_lt v size_limit) [
  | inl l ↦ let i : nat_lt v size_limit ≡ true = grind (arith, nat_tests) in ap (λ b. is_same_number (Some (pos u)) (cond b (Some (pos v)) None)) i ∙ cmp-equal u v
  | inr l ↦
      let i : nat_lt v size_limit ≡ false = grind (arith, nat_tests) in
      let j : (u == v) ≡ false = grind (arith, nat_tests) in
      ap (λ b. is_same_number (Some (pos u)) (cond b (Some (pos v)) None)) i ∙ sym j
]

-- multiples of what is not zero
same-times : (a b s : ℕ) → 1 ≤ s → (a * s == b * s) ≡ (a == b)
same-times a b s h = elim (cases_lt a b) [
  | inl l ↦ are_less (a * s) (b * s) (mul-lt-mul_of_pos_right l h) ∙ sym (are_less a b l)
  | inr m ↦ elim (cases_lt b a) [
    | inl l ↦ are_apart (a * s) (b * s) (mul-lt-mul_of_pos_right l h) ∙ sym (are_apart a b l)
    | inr n ↦ let e : a ≡ b = omega (arith, m, n) in are_equal (a * s) (b * s) (ap (λ k. k * s) e) ∙ sym (are_equal a b e)
  ]
]

units-same : (d u position : ℕ) → u < size_limit → is_same_number (Some (pos u)) (whole d position) ≡ (u == position * scale d)
units-same d u position h = same-units u (position * scale d) h

-- a number below zero is none
negative : (d m position : ℕ) → is_same_number (Some (negsuc m)) (whole d position) ≡ false
negative d m position = by (nat_lt (position * scale d) size_limit)
  where
    by : (b : Bool) → is_same_number (Some (negsuc m)) (cond b (Some (pos (position * scale d))) None) ≡ false
    by true = grind (arith, nat_tests)
    by false = refl

never-zero : (position : ℕ) → (suc position == 0) ≡ false
never-zero position = grind (arith, nat_tests)

pub negative-position : (d m : ℕ) → IsPosition d (Some (negsuc m)) 0
negative-position d m = λ position. negative d m (suc position) ∙ sym (never-zero position)

pub no-position : (d : ℕ) → IsPosition d None 0
no-position d = λ position. sym (never-zero position)

whole-position : (d u place : ℕ) → u < size_limit → u ≡ place * scale d → IsPosition d (Some (pos u)) place
whole-position d u place h e = λ position.
    units-same d u (suc position) h ∙ ap (λ n. n == suc position * scale d) e ∙ same-times place (suc position) (scale d) (scale_positive d) ∙ turned place (suc position)

broken-position : (d u : ℕ) → u < size_limit → (u ≡ (u / scale d) * scale d → ⊥) → IsPosition d (Some (pos u)) 0
broken-position d u h r = λ position.
    units-same d u (suc position) h
    ∙ unequal u (suc position * scale d) (λ e. r (e ∙ ap (λ n. n * scale d) (sym (mul-div_cancel (suc position) (scale_positive d)) ∙ ap (λ n. n / scale d) (sym e))))
    ∙ sym (never-zero position)

decided : (u v : ℕ) → (u == v) ≡ true → u ≡ v
decided u v e = grind (arith, nat_tests, e)

undecided : (u v : ℕ) → (u == v) ≡ false → u ≡ v → ⊥
undecided u v e i = let j : (u == v) ≡ true = are_equal u v i in cc (e, j)

is-at : (d : ℕ) (units : ℤ) → unsigned_abs units < size_limit → is_same_number (Some units) (whole d (unsigned_abs units / scale d)) ≡ true → IsPosition d (Some units) (unsigned_abs units / scale d)
is-at d (pos u) h e = whole-position d u (u / scale d) h (decided u ((u / scale d) * scale d) (sym (units-same d u (u / scale d) h) ∙ e))
is-at d (negsuc m) h e = let i = negative d m (unsigned_abs (negsuc m) / scale d) in cc (e, i)

is-none : (d : ℕ) (units : ℤ) → unsigned_abs units < size_limit → is_same_number (Some units) (whole d (unsigned_abs units / scale d)) ≡ false → IsPosition d (Some units) 0
is-none d (pos u) h e = broken-position d u h (undecided u ((u / scale d) * scale d) (sym (units-same d u (u / scale d) h) ∙ e))
is-none d (negsuc m) h e = negative-position d m

-- a number is at the whole part of its size, or at no position
pub position-is : (d : ℕ) (k : Decimal) (place : ℕ) → IfSome k (λ j. unsigned_abs j < size_limit) → IfSome k (λ j. place ≡ unsigned_abs j / scale d) → is_same_number k (whole d place) ≡ true → IsPosition d k place
position-is d None place h p t = cc t
position-is d (Some j) place h p t = subst (IsPosition d (Some j)) (sym p) (is-at d j h (ap (λ n. is_same_number (Some j) (whole d n)) (sym p) ∙ t))

pub position-none : (d : ℕ) (k : Decimal) (place : ℕ) → IfSome k (λ j. unsigned_abs j < size_limit) → IfSome k (λ j. place ≡ unsigned_abs j / scale d) → is_same_number k (whole d place) ≡ false → IsPosition d k 0
position-none d None place h p t = no-position d
position-none d (Some j) place h p t = is-none d j h (ap (λ n. is_same_number (Some j) (whole d n)) (sym p) ∙ t)

-- ---- what it keeps

-- the node at a position, where the first one is at the position after this number
abbrev at_from : ℕ → ℕ → List ℕ → Option ℕ
at_from i place [] = None
at_from i place (n ∷ ns) = cond (suc i == place) (Some n) (at_from (suc i) place ns)

past : (i place : ℕ) (ns : List ℕ) → place ≤ i → at_from i place ns ≡ None
past i place [] l = refl
past i place (n ∷ ns) l = ap (λ b. cond b (Some n) (at_from (suc i) place ns)) (are_apart (suc i) place (omega arith)) ∙ past (suc i) place ns (omega arith)

found : (i at place : ℕ) (ns : List ℕ) → place ≡ suc (i + at) → at_from i place ns ≡ slice_get ns at
found i at place [] e = refl
found i zero place (n ∷ ns) e = ap (λ b. cond b (Some n) (at_from (suc i) place ns)) (are_equal (suc i) place (omega (arith, e)))
found i (suc at) place (n ∷ ns) e =
    let later : (suc i == place) ≡ false = grind (arith, nat_tests) in
    ap (λ b. cond b (Some n) (at_from (suc i) place ns)) later ∙ found (suc i) at place ns (omega (arith, e))

first-found : (ns : List ℕ) (place : ℕ) → at_from 0 place ns ≡ at_position ns place
first-found ns zero = past 0 0 ns (omega arith)
first-found ns (suc at) = found 0 at (suc at) ns (omega arith)

constant-keeps : (d : ℕ) (s : Setting) (k : Decimal) (size place i : ℕ) (ns : List ℕ) → IsPosition d k place → d ≡ s.given.decimals →
    kept_from s (constant k) size (suc i) ns ≡ Some (as_list (at_from i place ns))
constant-keeps d s k size place i [] h e = refl
constant-keeps d s k size place i (n ∷ ns) h e =
    let truth : is_true_at s.given.decimals (suc i) (Number k) ≡ (suc i == place) = ap (λ (j : ℕ). is_same_number k (whole j (suc i))) (sym e) ∙ h i in
    ap (λ m. m >>= λ rest. Some (with_first n (is_true_at s.given.decimals (suc i) (Number k)) rest)) (constant-keeps d s k size place (suc i) ns h e)
    ∙ ap (λ b. Some (with_first n b (as_list (at_from (suc i) place ns)))) truth
    ∙ by (suc i == place) refl
  where
    by : (b : Bool) → (suc i == place) ≡ b → Some (with_first n b (as_list (at_from (suc i) place ns))) ≡ Some (as_list (cond b (Some n) (at_from (suc i) place ns)))
    by true e =
        let is : suc i ≡ place = grind (arith, nat_tests, e) in
        ap (λ m. Some (n ∷ as_list m)) (past (suc i) place ns (omega (arith, is)))
    by false e = refl

pub position-keeps : (d : ℕ) (k : Decimal) (ns kept : List ℕ) (place : ℕ) → IsPosition d k place → kept ≡ as_list (at_position ns place) → Keeps d k ns kept
position-keeps d k ns kept place h e = λ s size i. constant-keeps d s k size place 0 ns h i ∙ ap (λ m. Some (as_list m)) (first-found ns place) ∙ ap Some (sym e)

pub live-placed : (ns kept : List ℕ) (place : ℕ) (nodes : List Node) → AllLive ns nodes → kept ≡ as_list (at_position ns place) → AllLive kept nodes
live-placed ns kept zero nodes h e = live-is nodes e (live-none nodes)
live-placed ns kept (suc at) nodes h e = live-is nodes e (by (slice_get ns at) refl)
  where
    by : (m : Option ℕ) → slice_get ns at ≡ m → AllLive (as_list m) nodes
    by None i = live-none nodes
    by (Some n) i = live-one n nodes (live-get ns at n nodes h i)

pub before-place : (ns : List ℕ) (place : ℕ) → 0 < place → at_position ns place ≡ slice_get ns (place - 1)
before-place ns zero h = absurd (omega arith)
before-place ns (suc at) h = let e : at ≡ suc at - 1 = omega arith in ap (slice_get ns) e

-- ---- the literal among predicates

pub begins-number : (k : Decimal) (place : ℕ) (rest : List Expr) → BeginsWith k (expr.Number place k ∷ rest)
begins-number k place rest = ap (λ m. m ∷ map meaning rest) (meaning-Number place k)

pub first-asked : (d : ℕ) (k : Decimal) (predicates : List Expr) (s : Setting) (ns kept : List ℕ) → BeginsWith k predicates → Keeps d k ns kept → d ≡ s.given.decimals →
    kept_by_all s (map meaning (drop 1 predicates)) kept ≡ kept_by_all s (map meaning predicates) ns
first-asked d k predicates s ns kept b h e = sym (ap (λ ms. kept_by_all s ms ns) b ∙ ap (λ m. m >>= kept_by_all s (map meaning (drop 1 predicates))) (h s (length ns) e))
