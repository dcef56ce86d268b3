-- How many decimals the numbers of a form have: its first model chooses, from 0 to 9.
use Rattle.std.specs.Prelude.{ℕ, List, [], ◌∷◌, Option, option_and_then, unwrap_or, if◌then◌else◌}
use Rattle.xf_name.specs.Bindings.{Bindings}
use Rattle.xf_form_vocabulary.specs.Attributes.{known_in, text_in}
use Rattle.xf_form_vocabulary.specs.Texts.{decimals_in}
use Rattle.xf_form_vocabulary.specs.declared.attribute.TheConstants as at
use Rattle.xf_form_refusals.specs.declared.classes.Class.TheVariants as class
use Rattle.xf_form_refusals.specs.Classes.{is_of}
use Rattle.xf_form_refusals.specs.Rows.{Seen}

-- where no model chooses
abbrev pub usual : ℕ
usual = 6

-- by the text of the attribute; a form with a text that chooses nothing is refused
abbrev pub chosen_in : Option (List ℕ) → ℕ
chosen_in text = unwrap_or (option_and_then decimals_in text) usual

abbrev pub chosen_by : Bindings → Seen → ℕ
chosen_by b r = chosen_in (text_in at.DECIMALS (known_in b r.attributes))

-- by the first model of these
abbrev pub decimals_of : Bindings → List Seen → ℕ
decimals_of b [] = usual
decimals_of b (r ∷ rs) = if is_of class.Model r then chosen_by b r else decimals_of b rs
