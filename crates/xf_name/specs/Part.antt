-- Written names (Namespaces in XML 1.0, section 3): one part, or a prefix and a local part with a colon between.
use Rattle.std.specs.Prelude.{ℕ, List, [], ◌∷◌, length, Bool, false, ◌&&◌, ◌||◌, ◌==◌, nat_le, codes, Option, Some, None, option_map, if◌then◌else◌}
use Rattle.std.specs.List.{list_all}
use Rattle.std.specs.Str.{chars, bytes_eq}
use Rattle.unicode_ident.specs.Ident.{is_xid_start, is_xid_continue}
use Rattle.xf_base.specs.Limits.{part_limit}

-- a character that may begin a part: one that may start an identifier (Unicode Standard Annex 31), or `_`
abbrev pub begins_part : ℕ → Bool
begins_part c = is_xid_start c || (c == 95)

-- a character that may stand in a part: one that may continue an identifier, `-` or `.`
abbrev pub continues_part : ℕ → Bool
continues_part c = is_xid_continue c || (c == 45) || (c == 46)

abbrev pub is_part_of : List ℕ → Bool
is_part_of [] = false
is_part_of (c ∷ cs) = begins_part c && list_all continues_part cs

-- the text is a part, by its characters and its length in bytes
abbrev pub is_part : List ℕ → Bool
is_part text = nat_le (length text) part_limit && is_part_of (chars text)

-- what stands before and after the first colon
abbrev pub at_colon : List ℕ → Option (List ℕ × List ℕ)
at_colon [] = None
at_colon (b ∷ bs) = if b == 58 then Some ([], bs) else option_map (λ p. (b ∷ p.0, p.1)) (at_colon bs)

-- a name by its prefix, where it has one, and its local part
pub record Parts : Type 0 where
  pub prefix : Option (List ℕ)
  pub local : List ℕ

abbrev pub parts_by : List ℕ → Option (List ℕ × List ℕ) → Option Parts
parts_by written None = if is_part written then Some (record { prefix = None; local = written }) else None
parts_by written (Some (before, after)) = if is_part before && is_part after then Some (record { prefix = Some before; local = after }) else None

-- the parts of a written name, or None where it is no name
abbrev pub parts_of : List ℕ → Option Parts
parts_of written = parts_by written (at_colon written)

-- what an attribute with a written name declares
pub data Kind : Type 0 where
  -- nothing
  no_declaration : Kind
  -- the default namespace
  of_default : Kind
  -- the namespace of a prefix
  of_prefix : List ℕ → Kind

abbrev pub kind_by : List ℕ → Option (List ℕ × List ℕ) → Kind
kind_by written None = if bytes_eq written (codes "xmlns") then of_default else no_declaration
kind_by written (Some (before, after)) = if bytes_eq before (codes "xmlns") then of_prefix after else no_declaration

abbrev pub kind_of : List ℕ → Kind
kind_of written = kind_by written (at_colon written)
