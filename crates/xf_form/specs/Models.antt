-- The instances and binds of a form (XForms 1.1, sections 3.3.2, 3.3.4 and 6.1).
use Rattle.std.specs.Prelude.{ℕ, zero, suc, ◌+◌, List, [], ◌∷◌, ◌++◌, codes, slice_get, unwrap_or, Option, Some, None, option_map, option_and_then}
use Rattle.xf_def_syntax.specs.declared.element.Part.{Part}
use Rattle.xf_def_syntax.specs.declared.element.Part.TheVariants as part
use Rattle.xf_def_syntax.specs.declared.form.Instance.{Instance}
use Rattle.xf_def_syntax.specs.declared.form.Bind.{Bind}
use Rattle.xf_def_syntax.specs.declared.form.Properties.{Properties}
use Rattle.xf_schema.specs.declared.written.TypeName.{TypeName}
use Rattle.xf_name.specs.Bindings.{Bindings}
use Rattle.xf_form_vocabulary.specs.Attributes.{Shown, known_in, text_in}
use Rattle.xf_form_vocabulary.specs.Faults.{type_of}
use Rattle.xf_form_vocabulary.specs.declared.attribute.TheConstants as at
use Rattle.xf_form_vocabulary.specs.declared.tag.Tag.{Tag}
use Rattle.xf_form_vocabulary.specs.declared.tag.Tag.TheVariants as tag
use Rattle.xf_form_refusals.specs.declared.classes.Class.TheVariants as class
use Rattle.xf_form_refusals.specs.Schemas.{names_of}
use Rattle.xf_form_refusals.specs.Rows.{Seen, id_in}
use Rattle.xf_form.specs.Numbers.{number_among}
use Rattle.xf_form.specs.Written.{expr_of, expr_at}
use Rattle.xf_form.specs.Scopes.{model_around}

-- the id of an element, empty where it has none
abbrev pub id_of : Seen → List ℕ
id_of r = unwrap_or (id_in r.attributes) []

-- ---- places in the tree that a form was read from

abbrev pub below : (ℕ → List ℕ) → Option ℕ → ℕ → List ℕ
below places None at = []
below places (Some parent) at = places parent ++ at ∷ []

abbrev pub through : (ℕ → List ℕ) → Option Seen → List ℕ
through places None = []
through places (Some r) = below places r.standing.parent r.at

-- the places of the element at a place and of those around it, each within the one before, of which at most so many are told
unfoldable pub places_to : ℕ → List Seen → ℕ → List ℕ
places_to zero all place = []
places_to (suc depth) all place = through (places_to depth all) (slice_get all place)

-- an element stands later than those around it, so that these are all
abbrev pub places_of : List Seen → ℕ → List ℕ
places_of all place = places_to (place + 1) all place

-- ---- instances

-- the first element that stands in one; an instance that has not exactly one is refused
abbrev pub document_in : List Part → Option ℕ
document_in [] = None
document_in (part.Element place ∷ ps) = Some place
document_in (part.Text text ∷ ps) = document_in ps

abbrev pub space_at : Option Seen → ℕ
space_at None = 0
space_at (Some r) = r.standing.space

abbrev pub instance_by : List Seen → ℕ → Seen → Option ℕ → Instance
instance_by all place r None = record { model = model_around all place; id = id_of r; place = []; space = 0 }
instance_by all place r (Some document) = record { model = model_around all place; id = id_of r; place = places_of all document; space = space_at (slice_get all document) }

abbrev pub instance_of : List Seen → ℕ → Seen → Instance
instance_of all place r = instance_by all place r (document_in r.parts)

-- ---- binds

abbrev pub properties_of : ℕ → Bindings → List TypeName → List Shown → Properties
properties_of d b names known = record {
  kind = option_and_then (type_of b names) (text_in at.TYPE known);
  calculate = expr_at d b known at.CALCULATE;
  relevant = expr_at d b known at.RELEVANT;
  readonly = expr_at d b known at.READONLY;
  required = expr_at d b known at.REQUIRED;
  constraint = expr_at d b known at.CONSTRAINT;
}

-- the bind in which one stands
abbrev pub bind_around : List Seen → Tag → Option ℕ → Option ℕ
bind_around all tag.Bind parent = option_map (number_among class.Bind all) parent
bind_around all around parent = None

abbrev pub bind_by : ℕ → Bindings → List Seen → ℕ → Seen → List Shown → Bind
bind_by d b all place r known = record {
  model = model_around all place;
  id = id_of r;
  around = bind_around all r.standing.around r.standing.parent;
  node_set = expr_of d b (unwrap_or (text_in at.NODESET known) (codes "."));
  properties = properties_of d b (names_of all) known;
}

abbrev pub bind_of : ℕ → Bindings → List Seen → ℕ → Seen → Bind
bind_of d b all place r = bind_by d b all place r (known_in b r.attributes)
