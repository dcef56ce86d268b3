-- The path of an element in a form: each name as it is written, with its number among its siblings of the same name where there are any. What is
-- written as a name and is none is told as a JSON string, so that no text of a form can make a line of its own.
use Rattle.std.specs.Prelude.{ℕ, zero, suc, Bool, false, ◌&&◌, nat_le, if◌then◌else◌, List, [], ◌++◌, codes, slice_get, count_by, bytes_eq, Option, Some, None}
use Rattle.std.specs.Fmt.{decimal}
use Rattle.serde_json.specs.Data.{string}
use Rattle.serde_json.specs.Written.{compact_text}
use Rattle.xf_name.specs.Part.{at_colon, is_part}
use Rattle.xf_def_syntax.specs.declared.element.Part.{Part}
use Rattle.xf_def_syntax.specs.declared.element.Part.TheVariants as part
use Rattle.xf_form_refusals.specs.Rows.{Seen}

abbrev pub in_brackets : ℕ → List ℕ
in_brackets k = codes "[" ++ decimal k ++ codes "]"

-- ---- siblings

abbrev pub parts_of : Option Seen → List Part
parts_of None = []
parts_of (Some r) = r.parts

abbrev pub siblings_in : List Seen → Option ℕ → List Part
siblings_in all None = []
siblings_in all (Some parent) = parts_of (slice_get all parent)

-- what stands beside an element in its parent, itself included
abbrev pub siblings : List Seen → Seen → List Part
siblings all r = siblings_in all r.standing.parent

abbrev pub has_name : List ℕ → Option Seen → Bool
has_name name None = false
has_name name (Some r) = bytes_eq r.name name

abbrev pub is_named : List Seen → List ℕ → ℕ → Bool
is_named all name place = has_name name (slice_get all place)

-- an element of the name
abbrev pub is_like : List Seen → List ℕ → Part → Bool
is_like all name (part.Text text) = false
is_like all name (part.Element place) = is_named all name place

-- one that stands no later than the place
abbrev pub is_like_up_to : List Seen → List ℕ → ℕ → Part → Bool
is_like_up_to all name end (part.Text text) = false
is_like_up_to all name end (part.Element place) = nat_le place end && is_named all name place

abbrev pub index_among : List Seen → List Part → List ℕ → ℕ → List ℕ
index_among all parts name place =
    if nat_le (count_by (is_like all name) parts) 1 then [] else in_brackets (count_by (is_like_up_to all name place) parts)

-- ---- names

-- a part, or a prefix and a part
abbrev pub are_parts : List ℕ → Option (List ℕ × List ℕ) → Bool
are_parts text None = is_part text
are_parts text (Some (prefix, local)) = is_part prefix && is_part local

-- whether a text is a name (Namespaces in XML 1.0, section 4)
abbrev pub is_name : List ℕ → Bool
is_name text = are_parts text (at_colon text)

-- a name as it is written, any other text as a JSON string (RFC 8259, section 7)
abbrev pub name_text : List ℕ → List ℕ
name_text text = if is_name text then text else compact_text (string text)

abbrev pub step : List Seen → Seen → ℕ → List ℕ
step all r place = codes "/" ++ name_text r.name ++ index_among all (siblings all r) r.name place

-- ---- from the root down

abbrev pub above : (ℕ → List ℕ) → Option ℕ → List ℕ
above path None = []
above path (Some parent) = path parent

abbrev pub through : (ℕ → List ℕ) → List Seen → ℕ → Option Seen → List ℕ
through path all place None = []
through path all place (Some r) = above path r.standing.parent ++ step all r place

-- the path of the element at a place, of which at most so many steps are written
unfoldable pub path_to : ℕ → List Seen → ℕ → List ℕ
path_to zero all place = []
path_to (suc depth) all place = through (path_to depth all) all place (slice_get all place)

-- no form that is read nests deeper
abbrev pub path_of : List Seen → ℕ → List ℕ
path_of all place = path_to 128 all place
