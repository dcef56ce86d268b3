-- What is left of an element.
use Rattle.std.proofs.Common.{◌≡◌, ℕ, Bool, true, false, not, cond, List, Option, Some, ap, ◌∙◌}
use Rattle.std.specs.Prelude.{find}
use Rattle.xf_def_forest.specs.Visit.{Visit}
use Rattle.xf_def_model.specs.Submitted.{kept_below, left, no_data, sent_from, unless_invalid, validated}

module _ (is_left is_valid : ℕ → Bool) (all : List Visit) (n : ℕ) where
  pub sent-none : (is_validated : Bool) → is_left n ≡ false → sent_from is_validated is_left is_valid all (Some n) ≡ no_data
  sent-none is_validated h = ap (λ b. cond b (validated is_validated is_valid n (kept_below all is_left n)) no_data) h

  pub sent-all : (is_validated : Bool) → is_left n ≡ true → is_validated ≡ false → sent_from is_validated is_left is_valid all (Some n) ≡ left n (kept_below all is_left n)
  sent-all is_validated h v =
      ap (λ b. cond b (validated is_validated is_valid n (kept_below all is_left n)) no_data) h
      ∙ ap (λ b. validated b is_valid n (kept_below all is_left n)) v

  pub sent-valid : (is_validated : Bool) (o : Option ℕ) → is_left n ≡ true → is_validated ≡ true → find (λ m. not (is_valid m)) (kept_below all is_left n) ≡ o
      → sent_from is_validated is_left is_valid all (Some n) ≡ unless_invalid o n (kept_below all is_left n)
  sent-valid is_validated o h v f =
      ap (λ b. cond b (validated is_validated is_valid n (kept_below all is_left n)) no_data) h
      ∙ ap (λ b. validated b is_valid n (kept_below all is_left n)) v ∙ ap (λ m. unless_invalid m n (kept_below all is_left n)) f
