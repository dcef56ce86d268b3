-- What the tables hold, row by row: name, code, least and most arguments, marks.
use Rattle.std.specs.Prelude.{ℕ, List, [], ◌∷◌, codes}
use Rattle.xf_table.specs.Rows.{Entry}

abbrev pub entry : List ℕ → ℕ → ℕ → ℕ → ℕ → Entry
entry name code least most marks = record { name = name; code = code; least = least; most = most; marks = marks }

-- marks: 1 takes a node set, 2 may give nodes
unfoldable pub function_entries : List Entry
function_entries =
    entry (codes "avg") 0 1 1 1
    ∷ entry (codes "boolean") 1 1 1 0
    ∷ entry (codes "boolean-from-string") 2 1 1 0
    ∷ entry (codes "ceiling") 3 1 1 0
    ∷ entry (codes "choose") 4 3 3 2
    ∷ entry (codes "compare") 5 2 2 0
    ∷ entry (codes "concat") 6 2 255 0
    ∷ entry (codes "contains") 7 2 2 0
    ∷ entry (codes "count") 8 1 1 1
    ∷ entry (codes "count-non-empty") 9 1 1 1
    ∷ entry (codes "current") 10 0 0 2
    ∷ entry (codes "days-from-date") 11 1 1 0
    ∷ entry (codes "days-to-date") 12 1 1 0
    ∷ entry (codes "event") 13 1 1 2
    ∷ entry (codes "false") 14 0 0 0
    ∷ entry (codes "floor") 15 1 1 0
    ∷ entry (codes "if") 16 3 3 0
    ∷ entry (codes "index") 17 1 1 0
    ∷ entry (codes "instance") 18 0 1 2
    ∷ entry (codes "last") 19 0 0 0
    ∷ entry (codes "local-name") 20 0 1 1
    ∷ entry (codes "max") 21 1 1 1
    ∷ entry (codes "min") 22 1 1 1
    ∷ entry (codes "months") 23 1 1 0
    ∷ entry (codes "name") 24 0 1 1
    ∷ entry (codes "namespace-uri") 25 0 1 1
    ∷ entry (codes "normalize-space") 26 0 1 0
    ∷ entry (codes "not") 27 1 1 0
    ∷ entry (codes "number") 28 0 1 0
    ∷ entry (codes "position") 29 0 0 0
    ∷ entry (codes "power") 30 2 2 0
    ∷ entry (codes "property") 31 1 1 0
    ∷ entry (codes "round") 32 1 1 0
    ∷ entry (codes "seconds") 33 1 1 0
    ∷ entry (codes "seconds-from-dateTime") 34 1 1 0
    ∷ entry (codes "seconds-to-dateTime") 35 1 1 0
    ∷ entry (codes "starts-with") 36 2 2 0
    ∷ entry (codes "string") 37 0 1 0
    ∷ entry (codes "string-length") 38 0 1 0
    ∷ entry (codes "substring") 39 2 3 0
    ∷ entry (codes "substring-after") 40 2 2 0
    ∷ entry (codes "substring-before") 41 2 2 0
    ∷ entry (codes "sum") 42 1 1 1
    ∷ entry (codes "translate") 43 3 3 0
    ∷ entry (codes "true") 44 0 0 0
    ∷ []

-- marks: 1 can be cancelled, 2 has a default
unfoldable pub event_entries : List Entry
event_entries =
    entry (codes "DOMActivate") 0 0 0 3
    ∷ entry (codes "xforms-delete") 1 0 0 0
    ∷ entry (codes "xforms-deselect") 2 0 0 0
    ∷ entry (codes "xforms-disabled") 3 0 0 0
    ∷ entry (codes "xforms-enabled") 4 0 0 0
    ∷ entry (codes "xforms-insert") 5 0 0 0
    ∷ entry (codes "xforms-invalid") 6 0 0 0
    ∷ entry (codes "xforms-model-construct") 7 0 0 0
    ∷ entry (codes "xforms-model-construct-done") 8 0 0 0
    ∷ entry (codes "xforms-optional") 9 0 0 0
    ∷ entry (codes "xforms-readonly") 10 0 0 0
    ∷ entry (codes "xforms-readwrite") 11 0 0 0
    ∷ entry (codes "xforms-ready") 12 0 0 0
    ∷ entry (codes "xforms-rebuild") 13 0 0 3
    ∷ entry (codes "xforms-recalculate") 14 0 0 3
    ∷ entry (codes "xforms-refresh") 15 0 0 3
    ∷ entry (codes "xforms-required") 16 0 0 0
    ∷ entry (codes "xforms-reset") 17 0 0 3
    ∷ entry (codes "xforms-revalidate") 18 0 0 3
    ∷ entry (codes "xforms-select") 19 0 0 0
    ∷ entry (codes "xforms-submit") 20 0 0 3
    ∷ entry (codes "xforms-submit-done") 21 0 0 0
    ∷ entry (codes "xforms-submit-error") 22 0 0 0
    ∷ entry (codes "xforms-valid") 23 0 0 0
    ∷ entry (codes "xforms-value-changed") 24 0 0 0
    ∷ []

-- marks: 1 a name of XML Schema, 2 a name of XForms, 4 keeps its white space
unfoldable pub type_entries : List Entry
type_entries =
    entry (codes "NCName") 0 0 0 3
    ∷ entry (codes "Name") 1 0 0 3
    ∷ entry (codes "QName") 2 0 0 3
    ∷ entry (codes "anyURI") 3 0 0 3
    ∷ entry (codes "boolean") 4 0 0 3
    ∷ entry (codes "byte") 5 0 0 3
    ∷ entry (codes "date") 6 0 0 3
    ∷ entry (codes "dateTime") 7 0 0 3
    ∷ entry (codes "dayTimeDuration") 8 0 0 2
    ∷ entry (codes "decimal") 9 0 0 3
    ∷ entry (codes "duration") 10 0 0 1
    ∷ entry (codes "gDay") 11 0 0 3
    ∷ entry (codes "gMonth") 12 0 0 3
    ∷ entry (codes "gMonthDay") 13 0 0 3
    ∷ entry (codes "gYear") 14 0 0 3
    ∷ entry (codes "gYearMonth") 15 0 0 3
    ∷ entry (codes "hexBinary") 16 0 0 3
    ∷ entry (codes "int") 17 0 0 3
    ∷ entry (codes "integer") 18 0 0 3
    ∷ entry (codes "listItem") 19 0 0 2
    ∷ entry (codes "listItems") 20 0 0 2
    ∷ entry (codes "long") 21 0 0 3
    ∷ entry (codes "negativeInteger") 22 0 0 3
    ∷ entry (codes "nonNegativeInteger") 23 0 0 3
    ∷ entry (codes "nonPositiveInteger") 24 0 0 3
    ∷ entry (codes "normalizedString") 25 0 0 7
    ∷ entry (codes "positiveInteger") 26 0 0 3
    ∷ entry (codes "short") 27 0 0 3
    ∷ entry (codes "string") 28 0 0 7
    ∷ entry (codes "time") 29 0 0 3
    ∷ entry (codes "token") 30 0 0 7
    ∷ entry (codes "unsignedByte") 31 0 0 3
    ∷ entry (codes "unsignedInt") 32 0 0 3
    ∷ entry (codes "unsignedLong") 33 0 0 3
    ∷ entry (codes "unsignedShort") 34 0 0 3
    ∷ entry (codes "yearMonthDuration") 35 0 0 2
    ∷ []

-- marks: 1 a container, 2 a control, 4 an action
unfoldable pub element_entries : List Entry
element_entries =
    entry (codes "action") 0 0 0 4
    ∷ entry (codes "alert") 1 0 0 0
    ∷ entry (codes "bind") 2 0 0 0
    ∷ entry (codes "case") 3 0 0 1
    ∷ entry (codes "choices") 4 0 0 0
    ∷ entry (codes "delete") 5 0 0 4
    ∷ entry (codes "dispatch") 6 0 0 4
    ∷ entry (codes "extension") 7 0 0 0
    ∷ entry (codes "group") 8 0 0 1
    ∷ entry (codes "help") 9 0 0 0
    ∷ entry (codes "hint") 10 0 0 0
    ∷ entry (codes "input") 11 0 0 2
    ∷ entry (codes "insert") 12 0 0 4
    ∷ entry (codes "instance") 13 0 0 0
    ∷ entry (codes "item") 14 0 0 0
    ∷ entry (codes "itemset") 15 0 0 0
    ∷ entry (codes "label") 16 0 0 0
    ∷ entry (codes "load") 17 0 0 4
    ∷ entry (codes "message") 18 0 0 4
    ∷ entry (codes "model") 19 0 0 0
    ∷ entry (codes "output") 20 0 0 2
    ∷ entry (codes "rebuild") 21 0 0 4
    ∷ entry (codes "recalculate") 22 0 0 4
    ∷ entry (codes "refresh") 23 0 0 4
    ∷ entry (codes "repeat") 24 0 0 1
    ∷ entry (codes "reset") 25 0 0 4
    ∷ entry (codes "revalidate") 26 0 0 4
    ∷ entry (codes "secret") 27 0 0 2
    ∷ entry (codes "select") 28 0 0 2
    ∷ entry (codes "select1") 29 0 0 2
    ∷ entry (codes "send") 30 0 0 4
    ∷ entry (codes "setfocus") 31 0 0 4
    ∷ entry (codes "setindex") 32 0 0 4
    ∷ entry (codes "setvalue") 33 0 0 4
    ∷ entry (codes "submission") 34 0 0 0
    ∷ entry (codes "submit") 35 0 0 2
    ∷ entry (codes "switch") 36 0 0 0
    ∷ entry (codes "textarea") 37 0 0 2
    ∷ entry (codes "toggle") 38 0 0 4
    ∷ entry (codes "trigger") 39 0 0 2
    ∷ entry (codes "value") 40 0 0 0
    ∷ []

-- marks: 1 without a namespace, 2 in that of XML Events, 4 an expression
unfoldable pub attribute_entries : List Entry
attribute_entries =
    entry (codes "action") 0 0 0 1
    ∷ entry (codes "at") 1 0 0 5
    ∷ entry (codes "bind") 2 0 0 1
    ∷ entry (codes "bubbles") 3 0 0 1
    ∷ entry (codes "calculate") 4 0 0 1
    ∷ entry (codes "cancelable") 5 0 0 1
    ∷ entry (codes "case") 6 0 0 1
    ∷ entry (codes "constraint") 7 0 0 1
    ∷ entry (codes "context") 8 0 0 5
    ∷ entry (codes "control") 9 0 0 1
    ∷ entry (codes "decimals") 10 0 0 1
    ∷ entry (codes "defaultAction") 11 0 0 2
    ∷ entry (codes "delay") 12 0 0 1
    ∷ entry (codes "event") 13 0 0 2
    ∷ entry (codes "id") 14 0 0 1
    ∷ entry (codes "if") 15 0 0 5
    ∷ entry (codes "index") 16 0 0 5
    ∷ entry (codes "instance") 17 0 0 1
    ∷ entry (codes "method") 18 0 0 1
    ∷ entry (codes "model") 19 0 0 1
    ∷ entry (codes "name") 20 0 0 1
    ∷ entry (codes "nodeset") 21 0 0 5
    ∷ entry (codes "observer") 22 0 0 2
    ∷ entry (codes "origin") 23 0 0 5
    ∷ entry (codes "phase") 24 0 0 2
    ∷ entry (codes "position") 25 0 0 1
    ∷ entry (codes "propagate") 26 0 0 2
    ∷ entry (codes "readonly") 27 0 0 1
    ∷ entry (codes "ref") 28 0 0 5
    ∷ entry (codes "relevant") 29 0 0 1
    ∷ entry (codes "repeat") 30 0 0 1
    ∷ entry (codes "replace") 31 0 0 1
    ∷ entry (codes "required") 32 0 0 1
    ∷ entry (codes "resource") 33 0 0 1
    ∷ entry (codes "selected") 34 0 0 1
    ∷ entry (codes "selection") 35 0 0 1
    ∷ entry (codes "serialization") 36 0 0 1
    ∷ entry (codes "startindex") 37 0 0 1
    ∷ entry (codes "submission") 38 0 0 1
    ∷ entry (codes "target") 39 0 0 3
    ∷ entry (codes "targetid") 40 0 0 1
    ∷ entry (codes "targetref") 41 0 0 5
    ∷ entry (codes "type") 42 0 0 1
    ∷ entry (codes "validate") 43 0 0 1
    ∷ entry (codes "value") 44 0 0 5
    ∷ entry (codes "while") 45 0 0 5
    ∷ []
