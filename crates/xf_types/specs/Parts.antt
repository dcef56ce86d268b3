-- Names as types (XML Schema part 2, sections 3.2.18, 3.3.6 and 3.3.7).
use Rattle.std.specs.Prelude.{ℕ, Bool, ◌&&◌, ◌==◌, List, Option, Some, None}
use Rattle.std.specs.List.{list_all, slice_split}
use Rattle.std.specs.Str.{is_utf8}
use Rattle.xf_name.specs.Part.{is_part, at_colon}

-- one part of a name, as text
abbrev pub is_name_part : List ℕ → Bool
is_name_part text = is_utf8 text && is_part text

-- one part, or two where there is a colon
abbrev pub are_parts : List ℕ → Option (List ℕ × List ℕ) → Bool
are_parts text None = is_name_part text
are_parts text (Some (before, after)) = is_name_part before && is_name_part after

abbrev pub is_q_name : List ℕ → Bool
is_q_name text = are_parts text (at_colon text)

-- parts joined by colons
abbrev pub is_name : List ℕ → Bool
is_name text = list_all is_name_part (slice_split (λ b. b == 58) text)
