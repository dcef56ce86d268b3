-- The elements of a form by their numbers.
use Rattle.std.proofs.Common.{◌≡◌, ℕ, zero, suc, List, [], ◌∷◌, map, length, get_or, Some, None, refl, sym, ap}
use Rattle.std.specs.Prelude.{slice_get}
use Rattle.std.proofs.lemmas.List.{length-map}
use Rattle.xf_def_syntax.specs.declared.element.Element as written
use Rattle.xf_def_syntax.specs.declared.form.Form.{Form}
use Rattle.xf_def_syntax.specs.declared.form.Tables.{Tables}
use Rattle.xf_def_ui.specs.Interface.{element_of, interface_of}
use Rattle.xf_def_ui.specs.Elements.{element_at, no_element}

at-none : (tables : Tables) (es : List written.Element) (n : ℕ) → slice_get es n ≡ None → get_or (map (element_of tables) es) n no_element ≡ no_element
at-none tables [] n h = refl
at-none tables (e ∷ es) zero h = cc h
at-none tables (e ∷ es) (suc n) h = at-none tables es n h

at-some : (tables : Tables) (es : List written.Element) (n : ℕ) (e : written.Element) → slice_get es n ≡ Some e → get_or (map (element_of tables) es) n no_element ≡ element_of tables e
at-some tables [] n e h = cc h
at-some tables (x ∷ es) zero e h = let same : x ≡ e = cc h in ap (element_of tables) same
at-some tables (x ∷ es) (suc n) e h = at-some tables es n e h

pub no-element : (form : Form) (n : ℕ) → None ≡ slice_get form.elements n → element_at (interface_of form) n ≡ no_element
no-element form n h = at-none form.tables form.elements n (sym h)

pub this-element : (form : Form) (n : ℕ) (e : written.Element) → Some e ≡ slice_get form.elements n → element_at (interface_of form) n ≡ element_of form.tables e
this-element form n e h = at-some form.tables form.elements n e (sym h)

-- as many as are kept
pub as-many : (form : Form) → length (interface_of form).elements ≡ length form.elements
as-many form = length-map form.elements (element_of form.tables)
