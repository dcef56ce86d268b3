-- The surroundings of an element: in which part of a form it stands, and in which elements.
use Rattle.std.specs.Prelude.{ℕ, ◌+◌, Bool, true, false, ◌&&◌, ◌||◌, nat_le, if◌then◌else◌, List, [], ◌∷◌, bytes_eq, codes, unwrap_or, Some, None}
use Rattle.xf_base.specs.Limits.{depth_limit}
use Rattle.xf_name.specs.Bindings.{Bindings, space_number}
use Rattle.xf_name.specs.declared.lit.Pair.{Pair}
use Rattle.xf_form_vocabulary.specs.Classes.{is_action, is_passed_over}
use Rattle.xf_form_vocabulary.specs.declared.tag.Tag.{Tag}
use Rattle.xf_form_vocabulary.specs.declared.tag.Tag.TheVariants as tag
use Rattle.xf_form_refusals.specs.declared.standing.Zone.{Zone}
use Rattle.xf_form_refusals.specs.declared.standing.Zone.TheVariants as zone
use Rattle.xf_form_refusals.specs.declared.standing.Standing.{Standing}

-- the number of the default namespace at an element with these attributes, where one is in force above: 0 is none
abbrev pub space_below : Bindings → ℕ → List Pair → ℕ
space_below b above [] = above
space_below b above (p ∷ ps) = if bytes_eq p.name (codes "xmlns") then unwrap_or (space_number b p.text) 0 else space_below b above ps

abbrev pub is_outside : Zone → Bool
is_outside zone.Outside = true
is_outside zone.Data = false
is_outside zone.Schema = false
is_outside zone.Passed = false

abbrev pub is_data : Zone → Bool
is_data zone.Outside = false
is_data zone.Data = true
is_data zone.Schema = false
is_data zone.Passed = false

abbrev pub is_in_schema : Zone → Bool
is_in_schema zone.Outside = false
is_in_schema zone.Data = false
is_in_schema zone.Schema = true
is_in_schema zone.Passed = false

abbrev pub is_instance : Tag → Bool
is_instance tag.Instance = true
is_instance t = false

abbrev pub is_schema : Tag → Bool
is_schema tag.Schema = true
is_schema t = false

abbrev pub is_annotation : Tag → Bool
is_annotation tag.Annotation = true
is_annotation t = false

abbrev pub zone_in : Tag → Zone
zone_in t = if is_instance t then zone.Data else (if is_schema t then zone.Schema else (if is_passed_over t then zone.Passed else zone.Outside))

abbrev pub zone_in_schema : Tag → Zone
zone_in_schema t = if is_annotation t then zone.Passed else zone.Schema

-- what stands in an instance is its data, what stands in a schema describes types, and what stands in help, hints, alerts, extensions and in
-- the annotations of schemas is passed over
abbrev pub zone_below : Zone → Tag → Zone
zone_below zone.Outside t = zone_in t
zone_below zone.Data t = zone.Data
zone_below zone.Schema t = zone_in_schema t
zone_below zone.Passed t = zone.Passed

-- one deeper in an instance; past the limit it is no longer counted
abbrev pub deeper : Zone → ℕ → ℕ
deeper z depth = if is_data z && nat_le depth depth_limit then depth + 1 else depth

-- host elements are looked through
abbrev pub nearest_below : Tag → Tag → Tag
nearest_below tag.Host nearest = nearest
nearest_below t nearest = t

-- around the root
abbrev pub at_root : Standing
at_root = record { zone = zone.Outside; around = tag.Host; nearest = tag.Host; in_action = false; depth = 0; space = 0; parent = None }

-- around what stands in an element, which has this default namespace and this place
abbrev pub below : Standing → Tag → ℕ → ℕ → Standing
below above t space place = record {
  zone = zone_below above.zone t;
  around = t;
  nearest = nearest_below t above.nearest;
  in_action = above.in_action || is_action t;
  depth = deeper (zone_below above.zone t) above.depth;
  space = space;
  parent = Some place;
}
