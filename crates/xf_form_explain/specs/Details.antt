-- What is known of the refusal of a form beyond its number and its path: of the element at which it is refused, the attribute, the place in it
-- and what is wrong. d is the number of decimals, n the number of the refusal.
use Rattle.std.specs.Prelude.{ℕ, suc, Bool, false, not, ◌&&◌, ◌||◌, ◌==◌, nat_lt, if◌then◌else◌, List, [], ◌∷◌, codes, slice_get, count_by, is_some, Option, Some, None, Result, Ok, Err}
use Rattle.std.specs.List.{list_any}
use Rattle.xf_def_syntax.specs.declared.expr.Expr.{Expr}
use Rattle.xf_name.specs.Bindings.{Bindings}
use Rattle.xf_name.specs.Faults.{name_fault}
use Rattle.xf_name.specs.declared.fault.NameFault.{NameFault}
use Rattle.xf_name.specs.declared.fault.NameFault.TheVariants.{BadName, PrefixUnknown, PrefixRebound}
use Rattle.xf_name.specs.declared.lit.Pair.{Pair}
use Rattle.xf_path.specs.Grammar.{parsed}
use Rattle.xf_path.specs.Static.{static_fault}
use Rattle.xf_path.specs.declared.fault.ParseFault.{ParseFault}
use Rattle.xf_path.specs.declared.fault.ParseFault.TheVariants as parse
use Rattle.xf_form_vocabulary.specs.Attributes.{Shown, known_in}
use Rattle.xf_form_vocabulary.specs.Classes.{has_properties}
use Rattle.xf_form_vocabulary.specs.Faults.{type_of}
use Rattle.xf_form_vocabulary.specs.Placement.{may_stand}
use Rattle.xf_form_vocabulary.specs.Rules.{is_expression, is_computed, choice_of, wanted_of}
use Rattle.xf_form_vocabulary.specs.Texts.{allows}
use Rattle.xf_form_vocabulary.specs.declared.attribute.TheConstants as at
use Rattle.xf_form_vocabulary.specs.declared.rules.Wanted.{Wanted}
use Rattle.xf_form_vocabulary.specs.declared.tag.Tag.{Tag}
use Rattle.xf_form_vocabulary.specs.declared.tag.Tag.TheVariants as tag
use Rattle.xf_form_vocabulary.specs.declared.texts.Choice.{Choice}
use Rattle.xf_form_refusals.specs.Classes.{is_model, is_switch, class_of, count_called}
use Rattle.xf_form_refusals.specs.Refusals.{is_instance_in, is_case_in, is_element, is_later_model}
use Rattle.xf_form_refusals.specs.Schemas.{names_of}
use Rattle.xf_schema.specs.declared.written.TypeName.{TypeName}
use Rattle.xf_form_refusals.specs.Rows.{Seen, is_handler, id_in}
use Rattle.xf_form_refusals.specs.Standing.{is_outside, is_instance}
use Rattle.xf_form_refusals.specs.declared.classes.Class.TheVariants as class
use Rattle.xf_form_explain.specs.Missing.{missing}
use Rattle.xf_form_explain.specs.declared.detail.Detail.{Detail}
use Rattle.xf_form_explain.specs.declared.detail.Detail.TheVariants.{NoName, DoubleAttribute, UnknownPrefix, Rebound, NoModel, NoInstance, BadExpression, Moving, UnknownElement, Misplaced, NotOneElement, NoCase, BadText, Lacks, DoubleId, NoSuchId, UnknownType}
use Rattle.xf_form_explain.specs.declared.detail.Need.{Need}

abbrev pub or_else : {Y : Type 0} → Option Y → Option Y → Option Y
or_else None later = later
or_else (Some y) later = Some y

-- the first that a function finds in a list
abbrev pub first_found : {X Y : Type 0} → (X → Option Y) → List X → Option Y
first_found find [] = None
first_found find (x ∷ xs) = or_else (find x) (first_found find xs)

-- ---- attributes

abbrev pub bad_by : Shown → Result Expr ParseFault → Option Detail
bad_by k (Ok expr) = None
bad_by k (Err (parse.Expr place kind)) = Some (BadExpression k.0 k.1 place kind)
bad_by k (Err parse.Memory) = None

-- 7: where an expression does not read, and why
abbrev pub bad_expression : ℕ → Bindings → Tag → Shown → Option Detail
bad_expression d b t k = if is_expression t k.0 then bad_by k (parsed d b k.1) else None

abbrev pub place_by : Result Expr ParseFault → Option ℕ
place_by (Ok expr) = static_fault expr
place_by (Err fault) = None

abbrev pub moving_place : ℕ → Bindings → List ℕ → Option ℕ
moving_place d b text = place_by (parsed d b text)

abbrev pub moving_by : Shown → Option ℕ → Option Detail
moving_by k None = None
moving_by k (Some place) = Some (Moving k.0 k.1 place)

-- 8: where an expression of a bind selects by values
abbrev pub moving : ℕ → Bindings → Tag → Shown → Option Detail
moving d b t k = if is_computed t k.0 then moving_by k (moving_place d b k.1) else None

abbrev pub outside_of : Shown → Option Choice → Option Detail
outside_of k None = None
outside_of k (Some choice) = if allows choice k.1 then None else Some (BadText k.0 k.1 choice)

-- 10: a text that the attribute may not have
abbrev pub bad_text : Seen → Shown → Option Detail
bad_text r k = outside_of k (choice_of r.tag (is_handler r) k.0)

abbrev pub missing_as : List Seen → Shown → Option Wanted → Option Detail
missing_as all k None = None
missing_as all k (Some wanted) = if nat_lt 0 (count_called (class_of wanted) all k.1) then None else Some (NoSuchId k.0 k.1 wanted)

-- 12: an id that no element of the kind has
abbrev pub no_such_id : List Seen → Seen → Shown → Option Detail
no_such_id all r k = missing_as all k (wanted_of r.tag (is_handler r) k.0)

-- 13: a name that no type has
abbrev pub unknown_type : Bindings → List TypeName → Tag → Shown → Option Detail
unknown_type b names t k = if not (has_properties t) || not (k.0 == at.TYPE) then None else (if is_some (type_of b names k.1) then None else Some (UnknownType k.1))

abbrev pub by_attribute : ℕ → ℕ → Bindings → List Seen → Seen → Shown → Option Detail
by_attribute n d b all r k =
    if n == 7 then bad_expression d b r.tag k
    else (if n == 8 then moving d b r.tag k
    else (if n == 10 then bad_text r k
    else (if n == 12 then no_such_id all r k
    else (if n == 13 then unknown_type b (names_of all) r.tag k else None))))

abbrev pub by_attributes : ℕ → ℕ → Bindings → List Seen → Seen → List Shown → Option Detail
by_attributes n d b all r known = first_found (by_attribute n d b all r) known

-- ---- elements

abbrev pub is_missing_at : Option ℕ → ℕ → Bool
is_missing_at None place = place == 0
is_missing_at (Some first) place = false

-- 6: there is no model, which is told at the root, or a model has no instance
abbrev pub no_model : List Seen → Option ℕ → ℕ → Seen → Option Detail
no_model all first place r =
    if is_missing_at first place then Some NoModel
    else (if is_model r.tag && not (list_any (is_instance_in all) r.parts) then Some NoInstance else None)

abbrev pub name_of : Option Seen → List ℕ
name_of None = []
name_of (Some r) = r.name

-- the name of the element around one: empty at the root
abbrev pub name_around : List Seen → Option ℕ → List ℕ
name_around all None = []
name_around all (Some parent) = name_of (slice_get all parent)

abbrev pub unknown_or_misplaced : List Seen → Seen → Tag → Detail
unknown_or_misplaced all r tag.Unknown = UnknownElement
unknown_or_misplaced all r t = Misplaced (name_around all r.standing.parent)

-- 9: it is unknown or stands where it may not, an instance has not exactly one element, or a switch has no case
abbrev pub misplaced : List Seen → Seen → Option Detail
misplaced all r =
    if not (may_stand r.tag r.standing.around) then Some (unknown_or_misplaced all r r.tag)
    else (if is_instance r.tag && not (count_by is_element r.parts == 1) then Some (NotOneElement (count_by is_element r.parts))
    else (if is_switch r.tag && not (list_any (is_case_in all) r.parts) then Some NoCase else None))

abbrev pub lacks_by : Option Need → Option Detail
lacks_by None = None
lacks_by (Some need) = Some (Lacks need)

-- 10: of a model behind the first nothing counts
abbrev pub bad_attribute : ℕ → ℕ → Bindings → List Seen → Option ℕ → ℕ → Seen → List Shown → Option Detail
bad_attribute n d b all first place r known =
    if is_later_model first place r then None else or_else (by_attributes n d b all r known) (lacks_by (missing r.tag (is_handler r) known))

abbrev pub shared_by : List Seen → Option (List ℕ) → Option Detail
shared_by all None = None
shared_by all (Some id) = if nat_lt 1 (count_called class.Outside all id) then Some (DoubleId id (count_called class.Outside all id)) else None

-- 11: an id that another element has
abbrev pub double_id : List Seen → Seen → Option Detail
double_id all r = shared_by all (id_in r.attributes)

-- of an element outside instances, but for its names
abbrev pub own_detail : ℕ → ℕ → Bindings → List Seen → Option ℕ → ℕ → Seen → Option Detail
own_detail n d b all first place r =
    if n == 6 then no_model all first place r
    else (if n == 9 then misplaced all r
    else (if n == 11 then double_id all r
    else (if n == 10 then bad_attribute n d b all first place r (known_in b r.attributes) else by_attributes n d b all r (known_in b r.attributes))))

-- ---- names

abbrev pub by_fault : ℕ → List ℕ → Option NameFault → Option Detail
by_fault n written (Some BadName) = if n == 4 then Some (NoName written) else None
by_fault n written (Some PrefixUnknown) = if n == 5 then Some (UnknownPrefix written) else None
by_fault n written (Some PrefixRebound) = if n == 5 then Some (Rebound written) else None
by_fault n written fault = None

-- a name of an element, by itself
abbrev pub by_name : ℕ → Bindings → List ℕ → Option Detail
by_name n b name = by_fault n name (name_fault b name [])

-- an attribute, by itself
abbrev pub by_pair : ℕ → Bindings → Pair → Option Detail
by_pair n b attribute = by_fault n attribute.name (name_fault b (codes "x") (attribute ∷ []))

-- 4: where no name by itself is at fault, two attributes have one name
abbrev pub or_double : ℕ → Option Detail
or_double n = if n == 4 then Some DoubleAttribute else None

abbrev pub by_names : ℕ → Bindings → List ℕ → List Pair → Option Detail
by_names n b name attributes = or_else (by_name n b name) (or_else (first_found (by_pair n b) attributes) (or_double n))

abbrev pub where_fault : Option NameFault → Option Detail → Option Detail
where_fault None found = None
where_fault (Some fault) found = found

-- 4 and 5
abbrev pub name_detail : ℕ → Bindings → Seen → Option Detail
name_detail n b r = where_fault (name_fault b r.name r.attributes) (by_names n b r.name r.attributes)

-- ---- the form

abbrev pub detail_at : ℕ → ℕ → Bindings → List Seen → Option ℕ → ℕ → Seen → Option Detail
detail_at n d b all first place r = if nat_lt n 6 then name_detail n b r else (if is_outside r.standing.zone then own_detail n d b all first place r else None)

-- of the first element that has a refusal of the number
abbrev pub detail_from : ℕ → ℕ → Bindings → List Seen → Option ℕ → ℕ → List Seen → Option Detail
detail_from n d b all first place [] = None
detail_from n d b all first place (r ∷ rs) = or_else (detail_at n d b all first place r) (detail_from n d b all first (suc place) rs)
