-- Kinds of elements outside instances, which are counted and which ids name.
use Rattle.std.specs.Prelude.{ℕ, Bool, true, false, ◌&&◌, List, bytes_eq, count_by, Option, Some, None}
use Rattle.xf_form_vocabulary.specs.Classes.{has_properties}
use Rattle.xf_form_vocabulary.specs.declared.rules.Wanted.{Wanted}
use Rattle.xf_form_vocabulary.specs.declared.rules.Wanted.TheVariants as wanted
use Rattle.xf_form_vocabulary.specs.declared.tag.Tag.{Tag}
use Rattle.xf_form_vocabulary.specs.declared.tag.Tag.TheVariants as tag
use Rattle.xf_form_refusals.specs.declared.classes.Class.{Class}
use Rattle.xf_form_refusals.specs.declared.classes.Class.TheVariants as class
use Rattle.xf_form_refusals.specs.Rows.{Seen, is_numbered, is_control_row, id_in}
use Rattle.xf_form_refusals.specs.Standing.{is_outside, is_instance}

abbrev pub is_model : Tag → Bool
is_model tag.Model = true
is_model t = false

abbrev pub is_submission : Tag → Bool
is_submission tag.Submission = true
is_submission t = false

abbrev pub is_repeat : Tag → Bool
is_repeat tag.Repeat = true
is_repeat t = false

abbrev pub is_switch : Tag → Bool
is_switch tag.Switch = true
is_switch t = false

abbrev pub is_case : Tag → Bool
is_case tag.Case = true
is_case t = false

abbrev pub is_of_class : Class → Seen → Bool
is_of_class class.Model r = is_model r.tag
is_of_class class.Instance r = is_instance r.tag
is_of_class class.Bind r = has_properties r.tag
is_of_class class.Submission r = is_submission r.tag
is_of_class class.Repeat r = is_repeat r.tag
is_of_class class.Switch r = is_switch r.tag
is_of_class class.Case r = is_case r.tag
is_of_class class.Control r = is_control_row r
is_of_class c r = true

abbrev pub is_of : Class → Seen → Bool
is_of class.Outside r = is_outside r.standing.zone
is_of c r = is_numbered r && is_of_class c r

-- the kind of element that an attribute names; what is passed over has no name
abbrev pub class_of : Wanted → Class
class_of wanted.Model = class.Model
class_of wanted.Instance = class.Instance
class_of wanted.Bind = class.Bind
class_of wanted.Submission = class.Submission
class_of wanted.Repeat = class.Repeat
class_of wanted.Case = class.Case
class_of wanted.Control = class.Control
class_of wanted.Any = class.Numbered

-- ---- ids

abbrev pub is_id : List ℕ → Option (List ℕ) → Bool
is_id id None = false
is_id id (Some own) = bytes_eq id own

-- an element of the kind with the id
abbrev pub is_called : Class → List ℕ → Seen → Bool
is_called c id r = is_of c r && is_id id (id_in r.attributes)

-- how many elements of the kind have the id
abbrev pub count_called : Class → List Seen → List ℕ → ℕ
count_called c all id = count_by (is_called c id) all
