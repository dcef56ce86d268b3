-- Worked rows on a small form, of which the elements stand as they would be read:
--   f: model (instance (d), bind b (bind)), input (label ("n", output), help), output, trigger (setvalue)
use Rattle.std.proofs.Common.{◌≡◌, ℕ, true, false, List, [], ◌∷◌, codes, Option, Some, None, Err, refl}
use Rattle.xf_def_syntax.specs.declared.action.Phase.TheVariants as phase
use Rattle.xf_def_syntax.specs.declared.action.Work.TheVariants as work
use Rattle.xf_def_syntax.specs.declared.element.Binding.TheVariants as binding
use Rattle.xf_def_syntax.specs.declared.element.Control.TheVariants as control
use Rattle.xf_def_syntax.specs.declared.element.Kind.TheVariants as kind
use Rattle.xf_def_syntax.specs.declared.element.Part.{Part}
use Rattle.xf_def_syntax.specs.declared.element.Part.TheVariants as part
use Rattle.xf_json.specs.declared.fault.JsonFault.TheVariants as json
use Rattle.xf_name.specs.Bindings.{no_bindings}
use Rattle.xf_name.specs.declared.fault.SurveyFault.TheVariants as survey
use Rattle.xf_name.specs.declared.lit.Lit.{Lit}
use Rattle.xf_name.specs.declared.lit.Lit.TheOpen.{Lit-F}
use Rattle.xf_form_vocabulary.specs.declared.attribute.TheConstants as at
use Rattle.xf_form_vocabulary.specs.declared.tag.Tag.{Tag}
use Rattle.xf_form_vocabulary.specs.declared.tag.Tag.TheVariants as tag
use Rattle.xf_form_refusals.specs.declared.classes.Class.TheVariants as class
use Rattle.xf_form_refusals.specs.declared.standing.Zone.TheVariants as zone
use Rattle.xf_form_refusals.specs.Rows.{Seen}
use Rattle.xf_form.specs.declared.fault.FormFault.TheVariants.{Refused}
use Rattle.xf_form.specs.Actions.{handler_of, work_of}
use Rattle.xf_form.specs.Data.{lit_extent, element_extent}
use Rattle.xf_form.specs.Elements.{parts_of, binding_at, start_of, output_of}
use Rattle.xf_form.specs.Loading.{by_json, by_names}
use Rattle.xf_form.specs.Models.{instance_of, bind_around, places_of, places_to}
use Rattle.xf_form.specs.Numbers.{number_among, number_of, place_called}
use Rattle.xf_form.specs.Scopes.{scope_in}
use Rattle.xf_form.specs.Tables.{listed}

-- ---- the form

abbrev plain : Tag → Tag → Option ℕ → ℕ → List Part → Seen
plain t around parent at parts = record {
  name = [];
  attributes = [];
  tag = t;
  standing = record { zone = zone.Outside; around = around; nearest = around; in_action = false; depth = 0; space = 0; parent = parent };
  at = at;
  parts = parts;
}

abbrev with_id : List ℕ → Seen → Seen
with_id id r = record r { attributes = record { name = codes "id"; text = id } ∷ [] }

abbrev in_data : Seen → Seen
in_data r = record r { standing = record r.standing { zone = zone.Data } }

abbrev label_output : Seen
label_output = plain tag.Output tag.Label (Some 7) 1 []

abbrev setvalue : Seen
setvalue = plain tag.SetValue tag.Trigger (Some 11) 0 []

abbrev all : List Seen
all =
    plain tag.Host tag.Host None 0 (part.Element 1 ∷ part.Element 6 ∷ part.Element 10 ∷ part.Element 11 ∷ [])
    ∷ plain tag.Model tag.Host (Some 0) 0 (part.Element 2 ∷ part.Element 4 ∷ [])
    ∷ plain tag.Instance tag.Model (Some 1) 1 (part.Element 3 ∷ [])
    ∷ in_data (plain tag.Host tag.Instance (Some 2) 2 [])
    ∷ with_id (codes "b") (plain tag.Bind tag.Model (Some 1) 2 (part.Element 5 ∷ []))
    ∷ plain tag.Bind tag.Bind (Some 4) 0 []
    ∷ plain tag.Input tag.Host (Some 0) 1 (part.Element 7 ∷ part.Element 9 ∷ [])
    ∷ plain tag.Label tag.Input (Some 6) 0 (part.Text (codes "n") ∷ part.Element 8 ∷ [])
    ∷ label_output
    ∷ plain tag.Help tag.Input (Some 6) 1 []
    ∷ plain tag.Output tag.Host (Some 0) 2 []
    ∷ plain tag.Trigger tag.Host (Some 0) 3 (part.Element 12 ∷ [])
    ∷ setvalue ∷ []

-- ---- numbers

-- the nested bind is the second bind
second_bind : number_among class.Bind all 5 ≡ 1
second_bind = refl

-- the data and the help have no numbers
output_number : number_of all 10 ≡ 8
output_number = refl

bind_by_id : place_called all (codes "b") ≡ Some 4
bind_by_id = refl

binds_listed : listed class.Bind all ≡ 3 ∷ 4 ∷ []
binds_listed = refl

-- ---- models

document_places : places_of all 3 ≡ 0 ∷ 1 ∷ 2 ∷ []
unfolding places_to
document_places = refl

instance_is : instance_of all 2 (plain tag.Instance tag.Model (Some 1) 1 (part.Element 3 ∷ [])) ≡ record { model = 0; id = []; place = 0 ∷ 1 ∷ 2 ∷ []; space = 0 }
unfolding places_to
instance_is = refl

nested_bind : bind_around all tag.Bind (Some 4) ≡ Some 0
nested_bind = refl

outer_bind : bind_around all tag.Model (Some 1) ≡ None
outer_bind = refl

-- an element that names a bind has the scope of the bind's model, also where it names a model too
scope_of_bind : scope_in all 6 (plain tag.Input tag.Host (Some 0) 1 []) ((at.BIND, codes "b") ∷ []) ≡ Some 0
scope_of_bind = refl

-- ---- elements

-- the help of the input has no number
input_parts : parts_of all (part.Element 7 ∷ part.Element 9 ∷ []) ≡ part.Element 6 ∷ []
input_parts = refl

output_in_a_label : output_of all 8 label_output None ≡ kind.Output None
output_in_a_label = refl

-- the second control behind the input
output_control : output_of all 10 (plain tag.Output tag.Host (Some 0) 2 []) None ≡ kind.Control 2 (control.Output None)
output_control = refl

bound_by_id : binding_at 6 no_bindings all tag.Input ((at.BIND, codes "b") ∷ []) ≡ binding.Bind 0
bound_by_id = refl

start_at_twelve : start_of (codes "12") ≡ 12
start_at_twelve = refl

-- ---- actions

-- the trigger observes
handled : handler_of all setvalue ((at.EVENT, codes "DOMActivate") ∷ (at.PROPAGATE, codes "stop") ∷ []) ≡ Some (record { event = codes "DOMActivate"; observer = Some 9; target = None; phase = phase.Default; stops = true; cancels = false })
handled = refl

set_to_nothing : work_of 6 no_bindings all tag.SetValue None [] ≡ work.SetValue None
set_to_nothing = refl

-- ---- data: an element with an attribute, a declaration and a text is three nodes

three_nodes : element_extent (record { name = codes "a"; attributes = record { name = codes "xmlns:p"; text = codes "urn:p" } ∷ record { name = codes "x"; text = [] } ∷ []; children = lit_extent (Lit-F.Text (codes "t")) ∷ [] }) ≡ record { nodes = 3; is_long = false }
three_nodes = refl

-- ---- refusals

no_json : by_json (Err json.NotJson) ≡ Err (Refused 1 [])
no_json = refl

no_element : by_json (Err json.NotElement) ≡ Err (Refused 3 [])
no_element = refl

too_many_prefixes : (lit : Lit) → by_names lit (Err survey.TooMany) ≡ Err (Refused 17 (codes "counts"))
too_many_prefixes lit = refl
