-- The texts that attributes may have (XForms 1.1, sections 8 to 11; XML Events, section 3).
use Rattle.std.specs.Prelude.{ℕ, ◌-◌, Bool, not, ◌&&◌, ◌||◌, List, [], ◌∷◌, length, nat_le, nat_eq, bytes_eq, codes, is_some, Option, Some, None, if◌then◌else◌}
use Rattle.std.specs.List.{list_all}
use Rattle.xf_form_vocabulary.specs.declared.texts.Choice.{Choice}
use Rattle.xf_form_vocabulary.specs.declared.texts.Choice.TheVariants as choice

abbrev pub is_digit : ℕ → Bool
is_digit b = nat_le 48 b && nat_le b 57

-- one to nine digits
abbrev pub is_count : List ℕ → Bool
is_count text = not (nat_eq (length text) 0) && nat_le (length text) 9 && list_all is_digit text

abbrev pub decimals_of_byte : ℕ → Option ℕ
decimals_of_byte b = if is_digit b then Some (b - 48) else None

-- how many decimals a text chooses: one digit says it
abbrev pub decimals_in : List ℕ → Option ℕ
decimals_in (b ∷ []) = decimals_of_byte b
decimals_in text = None

abbrev pub allows : Choice → List ℕ → Bool
allows choice.Truth text = bytes_eq text (codes "true") || bytes_eq text (codes "false")
allows choice.Method text = bytes_eq text (codes "put") || bytes_eq text (codes "post") || bytes_eq text (codes "get")
allows choice.Replace text =
    bytes_eq text (codes "all") || bytes_eq text (codes "instance") || bytes_eq text (codes "text") || bytes_eq text (codes "none")
allows choice.Selection text = bytes_eq text (codes "open") || bytes_eq text (codes "closed")
allows choice.Position text = bytes_eq text (codes "before") || bytes_eq text (codes "after")
allows choice.Phase text = bytes_eq text (codes "capture") || bytes_eq text (codes "default")
allows choice.Propagation text = bytes_eq text (codes "stop") || bytes_eq text (codes "continue")
allows choice.DefaultAction text = bytes_eq text (codes "cancel") || bytes_eq text (codes "perform")
allows choice.Delay text = bytes_eq text (codes "0")
allows choice.Count text = is_count text
allows choice.Decimals text = is_some (decimals_in text)
