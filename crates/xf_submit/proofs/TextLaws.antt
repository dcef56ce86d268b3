-- Whether a response is a text.
use Rattle.std.proofs.Common.{◌≡◌, ℕ, Bool, true, false, cond, List, refl, ap}
use Rattle.std.specs.Prelude.{codes}
use Rattle.std.specs.Str.{IsUtf8, is_utf8}
use Rattle.std.proofs.lemmas.Str.{IsUtf8-from_is_utf8, is_utf8-from_IsUtf8}
use Rattle.xf_submit.specs.Responding.{Responded, as_text, fails, text}

abbrev chosen : List ℕ → Bool → Responded
chosen bytes b = cond b (text bytes) (fails (codes "parse-error"))

pub text-of : (bytes : List ℕ) → IsUtf8 bytes → as_text bytes ≡ text bytes
text-of bytes h = ap (chosen bytes) (is_utf8-from_IsUtf8 bytes h)

pub no-text : (bytes : List ℕ) → (IsUtf8 bytes → ⊥) → as_text bytes ≡ fails (codes "parse-error")
no-text bytes h = by (is_utf8 bytes) refl
  where
    by : (b : Bool) → is_utf8 bytes ≡ b → chosen bytes b ≡ fails (codes "parse-error")
    by true e = absurd (h (IsUtf8-from_is_utf8 bytes e))
    by false e = refl
