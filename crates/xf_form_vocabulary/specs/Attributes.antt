-- The attributes of an element that have a meaning: those of XForms, without a namespace, and those of XML Events (XForms 1.1,
-- section 2.1; XML Events, section 3).
use Rattle.std.specs.Prelude.{ℕ, ◌+◌, ◌/◌, ◌%◌, ◌==◌, Bool, true, false, if◌then◌else◌, List, [], ◌∷◌, codes, filter_map, option_map, slice_get, Option, Some, None, Result, Ok, Err}
use Rattle.xf_name.specs.Bindings.{Bindings, resolved}
use Rattle.xf_name.specs.declared.lit.Pair.{Pair}
use Rattle.xf_name.specs.declared.qname.QName.{QName}
use Rattle.xf_name.specs.declared.fault.NameFault.{NameFault}
use Rattle.xf_table.specs.Rows as table
use Rattle.xf_table.specs.Contents.{attribute_entries}
use Rattle.xf_form_vocabulary.specs.declared.attribute.Known.{Known}
use Rattle.xf_form_vocabulary.specs.declared.attribute.TheConstants as at
use Rattle.xf_form_vocabulary.specs.Tags.{is_space}

abbrev pub events_uri : List ℕ
events_uri = codes "http://www.w3.org/2001/xml-events"

-- ---- the marks of the table

abbrev pub is_of_no_space : ℕ → Bool
is_of_no_space marks = marks % 2 == 1

abbrev pub is_of_events : ℕ → Bool
is_of_events marks = marks / 2 % 2 == 1

abbrev pub marks_in : Option table.Entry → ℕ
marks_in None = 0
marks_in (Some entry) = entry.marks

abbrev pub marks_at : ℕ → ℕ
marks_at code = marks_in (slice_get attribute_entries code)

-- ---- numbers

abbrev pub code_by : Bool → Option ℕ → Option ℕ
code_by in_events None = None
code_by true (Some code) = if is_of_events (marks_at code) then Some (code + at.EVENTS) else None
code_by false (Some code) = if is_of_no_space (marks_at code) then Some code else None

-- the number of an attribute by its local name, in the namespace of XML Events or in none
abbrev pub code_in : Bool → List ℕ → Option ℕ
code_in in_events local = code_by in_events (table.code_of local attribute_entries)

abbrev pub code_of_name : Bindings → Result QName NameFault → Option ℕ
code_of_name b (Err fault) = None
code_of_name b (Ok name) = if name.space == 0 then code_in false name.local else (if is_space b name.space events_uri then code_in true name.local else None)

-- by its written name: one in another namespace has no meaning
abbrev pub code_of : Bindings → List ℕ → Option ℕ
code_of b written = code_of_name b (resolved b written 0)

-- ---- the attributes of an element, each by its number and its text

abbrev pub Shown : Type 0
Shown = ℕ × List ℕ

abbrev pub shown : Known → Shown
shown k = (k.code, k.text.now)

abbrev pub known_by : List ℕ → Option ℕ → Option Shown
known_by text code = option_map (λ n. (n, text)) code

abbrev pub known_of_pair : Bindings → Pair → Option Shown
known_of_pair b p = known_by p.text (code_of b p.name)

abbrev pub known_in : Bindings → List Pair → List Shown
known_in b attributes = filter_map (known_of_pair b) attributes

-- the text of the first with a number
abbrev pub text_in : ℕ → List Shown → Option (List ℕ)
text_in code [] = None
text_in code (k ∷ ks) = if k.0 == code then Some k.1 else text_in code ks
