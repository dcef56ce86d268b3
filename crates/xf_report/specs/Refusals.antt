-- The text that is written for a refusal that is told.
use Rattle.std.specs.Prelude.{ℕ, ◌≡◌, List, [], ◌∷◌, ◌++◌, codes, Contains}
use Rattle.std.specs.List.{flat_map}
use Rattle.xf_def_machine.specs.declared.limit.LimitWord.{LimitWord}
use Rattle.xf_def_machine.specs.StateText.{spaced, line_of}
use Rattle.xf_def_machine.specs.Replies.{limit_text, refusal_texts}
use Rattle.xf_def_machine.specs.Told.{told}
use Rattle.xf_def_machine.specs.declared.refusal.Refusal.{Refusal}
use Rattle.xf_def_machine.specs.declared.refusal.Refusal.TheVariants.{NoSuchTarget, Disabled, ReadOnly, NotAnItem, BadIndex, PropertyTwice, CalculateOnParent, Binding, Circular, Limit, Budget, Depth, Sends}

abbrev pub first_of : List (List ℕ) → List ℕ
first_of [] = []
first_of (text ∷ texts) = text

-- the one text that may be written for it
abbrev pub refusal_text : Refusal → List ℕ
refusal_text refusal = first_of (refusal_texts (told refusal))

-- what follows the name
abbrev pub details : Refusal → List ℕ
details (PropertyTwice path) = spaced path
details (CalculateOnParent path) = spaced path
details (Binding path) = spaced path
details (Circular paths) = flat_map spaced paths
details (Limit word) = spaced (limit_text word)
details refusal = []

-- the line of a form whose construction is refused
abbrev pub construct_text : Refusal → List ℕ
construct_text (PropertyTwice path) = line_of (codes "form F14 PropertyTwice" ++ spaced path)
construct_text (Circular paths) = line_of (codes "form F15 Circular" ++ flat_map spaced paths)
construct_text (CalculateOnParent path) = line_of (codes "form F16 CalculateOnParent" ++ spaced path)
construct_text (Limit word) = line_of (codes "form F17 Limit" ++ spaced (limit_text word))
construct_text refusal = []
