-- Which calls are those of functions on plain values alone, with as many arguments as these take (XPath 1.0, section 4; XForms 1.1,
-- section 7).
use Rattle.std.specs.Prelude.{ℕ, nat_le, Bool, false, ◌&&◌, ◌||◌, List, Option, Some, None, slice_get, bytes_eq, codes}
use Rattle.xf_table.specs.Rows.{Entry}
use Rattle.xf_table.specs.Contents.{function_entries}

abbrev pub is_of_numbers : List ℕ → Bool
is_of_numbers name =
    bytes_eq name (codes "round") || bytes_eq name (codes "floor") || bytes_eq name (codes "ceiling") || bytes_eq name (codes "power")

abbrev pub is_of_dates : List ℕ → Bool
is_of_dates name =
    bytes_eq name (codes "days-from-date") || bytes_eq name (codes "days-to-date") || bytes_eq name (codes "seconds-from-dateTime")
    || bytes_eq name (codes "seconds-to-dateTime") || bytes_eq name (codes "months") || bytes_eq name (codes "seconds")

abbrev pub is_of_strings : List ℕ → Bool
is_of_strings name =
    bytes_eq name (codes "string-length") || bytes_eq name (codes "contains") || bytes_eq name (codes "starts-with")
    || bytes_eq name (codes "compare") || bytes_eq name (codes "boolean-from-string")

abbrev pub is_of_texts : List ℕ → Bool
is_of_texts name =
    bytes_eq name (codes "concat") || bytes_eq name (codes "substring") || bytes_eq name (codes "substring-before")
    || bytes_eq name (codes "substring-after") || bytes_eq name (codes "normalize-space") || bytes_eq name (codes "translate")
    || bytes_eq name (codes "property")

-- a name of a function on plain values
abbrev pub is_plain : List ℕ → Bool
is_plain name = is_of_numbers name || is_of_dates name || is_of_strings name || is_of_texts name

-- where a function may be called without an argument, the context node is given as its one
abbrev pub serves : Option Entry → ℕ → Bool
serves None count = false
serves (Some entry) count = is_plain entry.name && nat_le 1 count && nat_le entry.least count && nat_le count entry.most

-- the code is that of such a function, and it takes so many arguments
abbrev pub is_served : ℕ → ℕ → Bool
is_served code count = serves (slice_get function_entries code) count
