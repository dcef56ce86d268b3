-- A predicate that is told by position and size alone.
use Rattle.std.specs.Prelude.{ℕ, ◌≡◌, Bool, Some}
use Rattle.xf_def_xpath.specs.declared.value.Value.{Value}
use Rattle.xf_def_xpath.specs.Setting.{Setting, Meaning}
use Rattle.xf_def_xpath.specs.Steps.{is_true_at}

-- whatever the node, it has one value there, which is true or not
abbrev pub IsTold : Setting → Meaning → ℕ → ℕ → Bool → Type 0
IsTold s predicate position size truth =
    (v : Value) × ((n : ℕ) → predicate s (record { node = n; position = position; size = size }) ≡ Some v) × (is_true_at s.given.decimals position v ≡ truth)
