-- The value that bytes spell, by whether they are text.
use Rattle.std.proofs.Common.{◌≡◌, ℕ, List, Bool, true, false, cond, Some, None, refl}
use Rattle.std.specs.declared.option.Option.{Option}
use Rattle.std.specs.Str.{IsUtf8, is_utf8}
use Rattle.std.proofs.lemmas.Str.{is_utf8-from_IsUtf8, IsUtf8-from_is_utf8}
use Rattle.serde_json.specs.Data.{Data}
use Rattle.serde_json.specs.Read.{read}
use Rattle.xf_json.specs.Element.{value_in}

pub value_when : (bytes : List ℕ) (d : Data) → IsUtf8 bytes → read bytes ≡ Some d → value_in bytes ≡ Some d
value_when bytes d u e = rw (is_utf8-from_IsUtf8 bytes u) e

unless : (b : Bool) (o : Option Data) → (b ≡ true → o ≡ None) → cond b o None ≡ None
unless true o h = h refl
unless false o h = refl

pub value_unless : (bytes : List ℕ) → (IsUtf8 bytes → read bytes ≡ None) → value_in bytes ≡ None
value_unless bytes h = unless (is_utf8 bytes) (read bytes) (λ e. h (IsUtf8-from_is_utf8 bytes e))
