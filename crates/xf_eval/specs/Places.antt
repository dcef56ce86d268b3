-- Predicates that are literal numbers: each keeps the node at its own position, counted from 1 (XPath 1.0, section 2.4).
use Rattle.std.specs.Prelude.{ℕ, zero, suc, ◌≡◌, ◌==◌, List, ◌∷◌, drop, map, Option, Some, None, slice_get}
use Rattle.xf_def_syntax.specs.declared.expr.Expr.{Expr}
use Rattle.xf_def_values.specs.Conversions.{Decimal, whole}
use Rattle.xf_def_xpath.specs.declared.value.Value.TheVariants.{Number}
use Rattle.xf_def_xpath.specs.Setting.{Meaning, Setting}
use Rattle.xf_def_xpath.specs.Comparisons.{is_same_number}
use Rattle.xf_def_xpath.specs.Meaning.{meaning}
use Rattle.xf_def_xpath.specs.Steps.{kept_from}

-- the predicate that is this number at each node
abbrev pub constant : Decimal → Meaning
constant k = λ s c. Some (Number k)

-- the first of these predicates is this number
abbrev pub BeginsWith : Decimal → List Expr → Type 0
BeginsWith k predicates = map meaning predicates ≡ constant k ∷ map meaning (drop 1 predicates)

-- a number of d decimals is a position, and no other one; 0 stands for none
abbrev pub IsPosition : ℕ → Decimal → ℕ → Type 0
IsPosition d k place = (position : ℕ) → is_same_number k (whole d (suc position)) ≡ (suc position == place)

-- the node at a position
abbrev pub at_position : List ℕ → ℕ → Option ℕ
at_position ns zero = None
at_position ns (suc at) = slice_get ns at

-- what this number keeps of these nodes, however many they were
abbrev pub Keeps : ℕ → Decimal → List ℕ → List ℕ → Type 0
Keeps d k ns kept = (s : Setting) (size : ℕ) → d ≡ s.given.decimals → kept_from s (constant k) size 1 ns ≡ Some kept
