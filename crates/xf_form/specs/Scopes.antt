-- The model in scope at an element (XForms 1.1, section 3.2.3): that of the bind that it names, else the model that it names, else that of
-- the element around it, else the first. The model in scope in a model is that model.
use Rattle.std.specs.Prelude.{ℕ, suc, List, [], ◌∷◌, ◌++◌, slice_get, unwrap_or, Option, Some, None, if◌then◌else◌}
use Rattle.xf_name.specs.Bindings.{Bindings}
use Rattle.xf_form_vocabulary.specs.Attributes.{Shown, known_in}
use Rattle.xf_form_vocabulary.specs.declared.attribute.TheConstants as at
use Rattle.xf_form_refusals.specs.declared.classes.Class.TheVariants as class
use Rattle.xf_form_refusals.specs.Classes.{is_of}
use Rattle.xf_form_refusals.specs.Rows.{Seen}
use Rattle.xf_form.specs.Numbers.{number_among, named, place_named}
use Rattle.xf_form.specs.Written.{id_at}

-- ---- what an element hands on to those in it

-- its own, else that of the element around, which stands before it; else 0
abbrev pub given_by : List ℕ → Option ℕ → Option ℕ → ℕ
given_by before (Some own) parent = own
given_by before None None = 0
given_by before None (Some parent) = unwrap_or (slice_get before parent) 0

-- of the elements from a place on, behind those before them
abbrev pub given_from : List ℕ → (ℕ → Seen → Option ℕ) → ℕ → List Seen → List ℕ
given_from before own place [] = before
given_from before own place (r ∷ rs) = given_from (before ++ given_by before (own place r) r.standing.parent ∷ []) own (suc place) rs

-- ---- the model around

abbrev pub own_model : List Seen → ℕ → Seen → Option ℕ
own_model all place r = if is_of class.Model r then Some (number_among class.Model all place) else None

abbrev pub models_of : List Seen → List ℕ
models_of all = given_from [] (own_model all) 0 all

-- the nearest model that an element stands in, or is
abbrev pub model_around : List Seen → ℕ → ℕ
model_around all place = unwrap_or (slice_get (models_of all) place) 0

-- ---- the model in scope

abbrev pub scope_by : List Seen → Option ℕ → Option (List ℕ) → Option (List ℕ) → Option ℕ
scope_by all own (Some bind) model = Some (model_around all (place_named all bind))
scope_by all own None (Some model) = Some (named class.Model all model)
scope_by all own None None = own

abbrev pub scope_in : List Seen → ℕ → Seen → List Shown → Option ℕ
scope_in all place r known = scope_by all (own_model all place r) (id_at r.tag known at.BIND) (id_at r.tag known at.MODEL)

abbrev pub own_scope : Bindings → List Seen → ℕ → Seen → Option ℕ
own_scope b all place r = scope_in all place r (known_in b r.attributes)

abbrev pub scopes_of : Bindings → List Seen → List ℕ
scopes_of b all = given_from [] (own_scope b all) 0 all

abbrev pub scope_of : Bindings → List Seen → ℕ → ℕ
scope_of b all place = unwrap_or (slice_get (scopes_of b all) place) 0
