-- The first refusal of a form by its elements, with its place: a path, or for a limit its word; and the first bad element of its schemas.
use Rattle.std.specs.Prelude.{ℕ, ◌==◌, if◌then◌else◌, List, [], Option, Some, None, option_map}
use Rattle.xf_name.specs.Bindings.{Bindings}
use Rattle.xf_schema.specs.declared.written.Restriction.{Restriction}
use Rattle.xf_schema.specs.Faults.{first_bad}
use Rattle.xf_form_refusals.specs.declared.refusals.Refusal.{Refusal}
use Rattle.xf_form_refusals.specs.Limits.{limit_of}
use Rattle.xf_form_refusals.specs.Paths.{path_of}
use Rattle.xf_form_refusals.specs.Refusals.{first_refusal}
use Rattle.xf_form_refusals.specs.Rows.{Seen}
use Rattle.xf_form_refusals.specs.Schemas.{first_strange}

-- that there is no model is told of the form
abbrev pub place_of : List Seen → Refusal → List ℕ
place_of all r = if r.number == 6 then [] else path_of all r.place

-- 17: a limit is passed
abbrev pub by_limit : List Seen → Option (List ℕ) → Option (ℕ × List ℕ)
by_limit all None = None
by_limit all (Some word) = Some (17, word)

abbrev pub by_element : List Seen → Option Refusal → Option (ℕ × List ℕ)
by_element all None = by_limit all (limit_of all)
by_element all (Some r) = Some (r.number, place_of all r)

-- its number and its place: elements first, then limits
abbrev pub refusal_of : Bindings → List Seen → Option (ℕ × List ℕ)
refusal_of b all = by_element all (first_refusal b all)

-- ---- schemas

-- the path of the first bad element of the schemas, where these are their types
abbrev pub bad_schema_of : List Seen → List Restriction → Option (List ℕ)
bad_schema_of all types = option_map (path_of all) (first_bad types (first_strange all))
