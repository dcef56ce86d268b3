-- The elements of a form in document order, each with its surroundings and with what stands in it.
use Rattle.std.specs.Prelude.{ℕ, Bool, true, false, not, ◌&&◌, if◌then◌else◌, List, [], ◌∷◌, bytes_eq, codes, slice_get, Option, Some, None}
use Rattle.xf_def_syntax.specs.declared.element.Part.{Part}
use Rattle.xf_def_syntax.specs.declared.element.Part.TheVariants as part
use Rattle.xf_name.specs.declared.lit.Pair.{Pair}
use Rattle.xf_form_vocabulary.specs.Classes.{is_action, is_passed_over, is_counted, tells_text}
use Rattle.xf_form_vocabulary.specs.declared.tag.Tag.{Tag}
use Rattle.xf_form_vocabulary.specs.declared.tag.Tag.TheVariants as tag
use Rattle.xf_form_refusals.specs.declared.rows.Row.{Row}
use Rattle.xf_form_refusals.specs.declared.standing.Standing.{Standing}
use Rattle.xf_form_refusals.specs.Standing.{is_outside}

pub record Seen : Type 0 where
  pub name : List ℕ
  pub attributes : List Pair
  -- what it is: a host element inside an instance and in what is passed over
  pub tag : Tag
  pub standing : Standing
  -- its place among what stands in its parent
  pub at : ℕ
  -- what stands in it: elements by their places, and texts where they count
  pub parts : List Part

abbrev pub shown : Row → Seen
shown row = record { name = row.element.now.name; attributes = row.element.now.attributes; tag = row.tag; standing = row.standing; at = row.at; parts = row.parts.items }

-- an action outside all others
abbrev pub is_handler : Seen → Bool
is_handler r = is_action r.tag && not r.standing.in_action

-- outside instances, and not passed over
abbrev pub is_numbered : Seen → Bool
is_numbered r = is_outside r.standing.zone && not (is_passed_over r.tag)

abbrev pub is_output : Tag → Bool
is_output tag.Output = true
is_output t = false

-- an output that is part of a text
abbrev pub is_inline : Seen → Bool
is_inline r = is_output r.tag && tells_text r.standing.nearest

abbrev pub is_control_row : Seen → Bool
is_control_row r = is_counted r.tag && not (is_inline r)

abbrev pub id_in : List Pair → Option (List ℕ)
id_in [] = None
id_in (p ∷ ps) = if bytes_eq p.name (codes "id") then Some p.text else id_in ps

abbrev pub tag_of : Option Seen → Tag
tag_of None = tag.Host
tag_of (Some r) = r.tag

-- of what stands in an element
abbrev pub tag_in : List Seen → Part → Tag
tag_in all (part.Text text) = tag.Host
tag_in all (part.Element place) = tag_of (slice_get all place)
