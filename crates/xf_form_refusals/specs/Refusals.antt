-- The refusals of a form at its elements, by their numbers, and the first of them (XForms 1.1, sections 2 to 10). d is the number of
-- decimals of the form.
use Rattle.std.specs.Prelude.{ℕ, suc, Bool, true, false, not, ◌&&◌, ◌||◌, ◌==◌, nat_lt, if◌then◌else◌, List, [], ◌∷◌, count_by, is_none, Option, Some, None}
use Rattle.std.specs.List.{list_any}
use Rattle.xf_def_syntax.specs.declared.element.Part.{Part}
use Rattle.xf_def_syntax.specs.declared.element.Part.TheVariants as part
use Rattle.xf_name.specs.Bindings.{Bindings}
use Rattle.xf_name.specs.Faults.{name_fault}
use Rattle.xf_name.specs.declared.fault.NameFault.{NameFault}
use Rattle.xf_name.specs.declared.fault.NameFault.TheVariants.{BadName}
use Rattle.xf_form_vocabulary.specs.Attributes as attributes
use Rattle.xf_form_vocabulary.specs.Attributes.{known_in}
use Rattle.xf_form_vocabulary.specs.Faults.{is_bad_expression, is_moving_expression, is_bad_text, is_bad_type}
use Rattle.xf_form_vocabulary.specs.Needs.{lacks}
use Rattle.xf_form_vocabulary.specs.Placement.{may_stand}
use Rattle.xf_form_vocabulary.specs.Rules.{wanted_of}
use Rattle.xf_form_vocabulary.specs.declared.rules.Wanted.{Wanted}
use Rattle.xf_form_vocabulary.specs.declared.tag.Tag.{Tag}
use Rattle.xf_form_vocabulary.specs.declared.tag.Tag.TheVariants as tag
use Rattle.xf_form_refusals.specs.declared.classes.Class.TheVariants as class
use Rattle.xf_form_refusals.specs.declared.refusals.Refusal.{Refusal}
use Rattle.xf_form_refusals.specs.Classes.{is_model, is_switch, is_case, is_of, class_of, count_called}
use Rattle.xf_form_refusals.specs.Decimals.{decimals_of}
use Rattle.xf_form_refusals.specs.Rows.{Seen, tag_in, is_handler, id_in}
use Rattle.xf_form_refusals.specs.Schemas.{names_of}
use Rattle.xf_form_refusals.specs.Standing.{is_outside, is_instance}

-- ---- what stands in an element

abbrev pub is_instance_in : List Seen → Part → Bool
is_instance_in all p = is_instance (tag_in all p)

abbrev pub is_case_in : List Seen → Part → Bool
is_case_in all p = is_case (tag_in all p)

abbrev pub is_element : Part → Bool
is_element (part.Text text) = false
is_element (part.Element place) = true

-- ---- refusals

-- 4 and 5: a bad name, a bad prefix
abbrev pub number_of_fault : NameFault → ℕ
number_of_fault BadName = 4
number_of_fault fault = 5

-- the place of the first model, where the first of these has the place
abbrev pub model_from : ℕ → List Seen → Option ℕ
model_from place [] = None
model_from place (r ∷ rs) = if is_of class.Model r then Some place else model_from (suc place) rs

abbrev pub first_model : List Seen → Option ℕ
first_model all = model_from 0 all

-- 6: there is no model, which is told at the root, or a model has no instance
abbrev pub lacks_model : List Seen → Option ℕ → ℕ → Seen → Bool
lacks_model all first place r = ((place == 0) && is_none first) || (is_model r.tag && not (list_any (is_instance_in all) r.parts))

-- 9: an element is unknown or stands where it may not, an instance has not exactly one element, or a switch has no case
abbrev pub is_misplaced : List Seen → Seen → Bool
is_misplaced all r =
    not (may_stand r.tag r.standing.around) || (is_instance r.tag && not (count_by is_element r.parts == 1))
    || (is_switch r.tag && not (list_any (is_case_in all) r.parts))

-- 10: an attribute has a text outside its list, or a needed one is missing
abbrev pub has_bad_attribute : Seen → List attributes.Shown → Bool
has_bad_attribute r known = list_any (is_bad_text r.tag (is_handler r)) known || lacks r.tag (is_handler r) known

abbrev pub is_at : Option ℕ → ℕ → Bool
is_at None place = false
is_at (Some first) place = first == place

-- a model behind the first, whose texts choose nothing
abbrev pub is_later_model : Option ℕ → ℕ → Seen → Bool
is_later_model first place r = is_model r.tag && not (is_at first place)

abbrev pub shares_id_by : List Seen → Option (List ℕ) → Bool
shares_id_by all None = false
shares_id_by all (Some id) = nat_lt 1 (count_called class.Outside all id)

-- 11: another element outside instances has the id; it is told at the first of those that share it
abbrev pub shares_id : List Seen → Seen → Bool
shares_id all r = shares_id_by all (id_in r.attributes)

abbrev pub is_missing : List Seen → Option Wanted → List ℕ → Bool
is_missing all None id = false
is_missing all (Some w) id = count_called (class_of w) all id == 0

abbrev pub names_nothing_by : List Seen → Tag → Bool → attributes.Shown → Bool
names_nothing_by all t handles k = is_missing all (wanted_of t handles k.0) k.1

-- 12: an attribute that names an id names no element of the right kind
abbrev pub names_nothing : List Seen → Seen → List attributes.Shown → Bool
names_nothing all r known = list_any (names_nothing_by all r.tag (is_handler r)) known

abbrev pub own_by : ℕ → Bindings → List Seen → Option ℕ → ℕ → Seen → List attributes.Shown → Option ℕ
own_by d b all first place r known =
    if lacks_model all first place r then Some 6
    else (if list_any (is_bad_expression d b r.tag) known then Some 7
    else (if list_any (is_moving_expression d b r.tag) known then Some 8
    else (if is_misplaced all r then Some 9
    else (if not (is_later_model first place r) && has_bad_attribute r known then Some 10
    else (if shares_id all r then Some 11
    else (if names_nothing all r known then Some 12
    else (if list_any (is_bad_type b (names_of all) r.tag) known then Some 13 else None)))))))

abbrev pub own_refusal : ℕ → Bindings → List Seen → Option ℕ → ℕ → Seen → Option ℕ
own_refusal d b all first place r = own_by d b all first place r (known_in b r.attributes)

abbrev pub unless_fault : Option NameFault → Option ℕ → Option ℕ
unless_fault None other = other
unless_fault (Some fault) other = Some (number_of_fault fault)

-- the least at an element; inside instances and what is passed over only names are looked at
abbrev pub refusal_at : ℕ → Bindings → List Seen → Option ℕ → ℕ → Seen → Option ℕ
refusal_at d b all first place r =
    unless_fault (name_fault b r.name r.attributes) (if is_outside r.standing.zone then own_refusal d b all first place r else None)

abbrev pub or_later : ℕ → Option ℕ → Option Refusal → Option Refusal
or_later place None later = later
or_later place (Some number) later = Some (record { place = place; number = number })

abbrev pub first_from : ℕ → Bindings → List Seen → Option ℕ → ℕ → List Seen → Option Refusal
first_from d b all first place [] = None
first_from d b all first place (r ∷ rs) = or_later place (refusal_at d b all first place r) (first_from d b all first (suc place) rs)

-- at the least element
abbrev pub first_refusal : Bindings → List Seen → Option Refusal
first_refusal b all = first_from (decimals_of b all) b all (first_model all) 0 all
