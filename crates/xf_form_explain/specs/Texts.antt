-- What is told of a refusal, line by line.
use Rattle.std.specs.Prelude.{ℕ, ◌+◌, Bool, nat_eq, length, if◌then◌else◌, List, [], ◌∷◌, ◌++◌, codes}
use Rattle.std.specs.Fmt.{decimal}
use Rattle.serde_json.specs.Data.{string}
use Rattle.serde_json.specs.Written.{compact_text}
use Rattle.xf_form_vocabulary.specs.declared.rules.Wanted.{Wanted}
use Rattle.xf_form_vocabulary.specs.declared.texts.Choice.{Choice}
use Rattle.xf_form_explain.specs.Places.{characters_before, expression_lines}
use Rattle.xf_form_explain.specs.Words.{attribute_name, need_text, kind_text, choice_text, wanted_text, limit_text}
use Rattle.xf_form_explain.specs.declared.detail.Detail.{Detail}
use Rattle.xf_form_explain.specs.declared.detail.Detail.TheVariants as detail
use Rattle.xf_form_explain.specs.declared.detail.Need.{Need}

-- a text of the form as a JSON string (RFC 8259, section 7), so that it makes no line of its own
unfoldable pub quoted : List ℕ → List ℕ
quoted text = compact_text (string text)

-- the path, or the word of a limit, where there is one
abbrev pub place_text : List ℕ → List ℕ
place_text [] = []
place_text (b ∷ bs) = codes " " ++ b ∷ bs

-- ---- bytes and elements

abbrev pub column_text : ℕ → Bool → List ℕ
column_text column is_early =
    if is_early then codes ": the bytes end within a value" else codes ", column " ++ decimal column ++ codes ": no JSON, or nested more than 127 deep"

abbrev pub unread_text : ℕ → ℕ → Bool → List ℕ
unread_text line column is_early = codes ": line " ++ decimal line ++ column_text column is_early

abbrev pub misplaced_text : List ℕ → List ℕ
misplaced_text around =
    if nat_eq (length around) 0 then codes ": it may not stand around all others" else codes ": it may not stand in " ++ quoted around

abbrev pub count_text : ℕ → List ℕ
count_text count = codes ": it has " ++ decimal count ++ codes " elements, and needs one"

abbrev pub passed_text : List ℕ → List ℕ
passed_text word = codes ": " ++ limit_text word

-- ---- attributes

abbrev pub name_text : ℕ → List ℕ
name_text code = codes ": " ++ attribute_name code

-- the attribute, the character, counted from 1, and what is wrong
abbrev pub fault_text : ℕ → List ℕ → ℕ → List ℕ → List ℕ
fault_text code text place fault = name_text code ++ codes ", character " ++ decimal (characters_before text place + 1) ++ codes ": " ++ fault

abbrev pub unknown_prefix_text : List ℕ → List ℕ
unknown_prefix_text name = codes ": " ++ quoted name ++ codes " has a prefix without a namespace"

abbrev pub choice_fault : ℕ → List ℕ → Choice → List ℕ
choice_fault code text choice = name_text code ++ codes ": " ++ quoted text ++ codes " is not " ++ choice_text choice

abbrev pub lacks_text : Need → List ℕ
lacks_text need = codes ": it needs " ++ need_text need

abbrev pub double_text : List ℕ → ℕ → List ℕ
double_text id count = codes ": " ++ decimal count ++ codes " elements have the id " ++ quoted id

abbrev pub no_id_text : ℕ → List ℕ → Wanted → List ℕ
no_id_text code id wanted = name_text code ++ codes ": no " ++ wanted_text wanted ++ codes " has the id " ++ quoted id

-- ---- the whole

abbrev pub attribute_text : Detail → List ℕ
attribute_text (detail.NoName name) = codes ": " ++ quoted name ++ codes " is no name"
attribute_text detail.DoubleAttribute = codes ": two attributes have one name"
attribute_text (detail.UnknownPrefix name) = unknown_prefix_text name
attribute_text (detail.Rebound name) = codes ": " ++ quoted name ++ codes " gives its prefix a second namespace, or none"
attribute_text (detail.BadExpression code text place kind) = fault_text code text place (kind_text kind)
attribute_text (detail.Moving code text place) = fault_text code text place (codes "a bind selects by position alone")
attribute_text (detail.BadText code text choice) = choice_fault code text choice
attribute_text (detail.Lacks need) = lacks_text need
attribute_text (detail.DoubleId id count) = double_text id count
attribute_text (detail.NoSuchId code id wanted) = no_id_text code id wanted
attribute_text (detail.UnknownType name) = codes ": type: " ++ quoted name ++ codes " is no simple type"
attribute_text d = []

abbrev pub detail_text : Detail → List ℕ
detail_text detail.Nothing = []
detail_text (detail.Unread line column is_early) = unread_text line column is_early
detail_text detail.TooLarge = codes ": more than 1048576 bytes"
detail_text detail.NotElement = codes ": an element is an array of its name, an object of attributes, and texts and elements"
detail_text detail.NoModel = codes ": there is no model"
detail_text detail.NoInstance = codes ": a model without an instance"
detail_text detail.UnknownElement = codes ": XForms has no such element"
detail_text (detail.Misplaced around) = misplaced_text around
detail_text (detail.NotOneElement count) = count_text count
detail_text detail.NoCase = codes ": it has no case"
detail_text detail.BadSchema = codes ": its place, its attributes, its base or its value is not that of a type by restriction"
detail_text (detail.Passed word) = passed_text word
detail_text d = attribute_text d

-- where an expression is at fault, the expression and a caret below the place
abbrev pub where_text : Detail → List ℕ
where_text (detail.BadExpression code text place kind) = expression_lines text place
where_text (detail.Moving code text place) = expression_lines text place
where_text d = []

-- the number of the refusal, its place, and what is known of it
abbrev pub told_text : ℕ → List ℕ → Detail → List ℕ
told_text n place d = codes "F" ++ decimal n ++ place_text place ++ detail_text d ++ codes "\n" ++ where_text d
