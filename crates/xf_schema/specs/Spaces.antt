-- White space (XML Schema part 2, section 4.3.6).
use Rattle.std.specs.Prelude.{ℕ, List, map, chars, encode_utf8_all, bytes_eq, codes, Option, Some, None, if◌then◌else◌}
use Rattle.xf_types.specs.Spaces.{normalized}
use Rattle.xf_num.specs.Written.{is_space}
use Rattle.xf_types.specs.declared.kind.BuiltIn.{BuiltIn}
use Rattle.xf_types.specs.declared.kind.BuiltIn.TheVariants.{NormalizedString, Text}
use Rattle.xf_schema.specs.declared.spaces.Space.{Space}
use Rattle.xf_schema.specs.declared.spaces.Space.TheVariants.{Preserve, Replace, Collapse}

-- a tab, a line feed and a carriage return become spaces
abbrev pub as_space : ℕ → ℕ
as_space c = if is_space c then 32 else c

abbrev pub replaced : List ℕ → List ℕ
replaced text = encode_utf8_all (map as_space (chars text))

-- a text under a rule
abbrev pub under : Space → List ℕ → List ℕ
under Preserve text = text
under Replace text = replaced text
under Collapse text = normalized text

-- the rule that a facet names
abbrev pub space_named : List ℕ → Option Space
space_named value =
    if bytes_eq value (codes "preserve") then Some Preserve
    else (if bytes_eq value (codes "replace") then Some Replace else (if bytes_eq value (codes "collapse") then Some Collapse else None))

-- the rule of a built-in type
abbrev pub usual_space : BuiltIn → Space
usual_space Text = Preserve
usual_space NormalizedString = Replace
usual_space kind = Collapse
