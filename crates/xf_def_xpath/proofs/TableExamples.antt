-- The functions stand at the places of their names.
use Rattle.std.proofs.Common.{◌≡◌, ℕ, true, false, List, length, refl, codes}
use Rattle.xf_table.specs.Contents.{function_entries}
use Rattle.xf_table.specs.Places.{name_at}
use Rattle.xf_def_xpath.specs.Table.{Function, functions, function_at}
use Rattle.xf_def_xpath.specs.Table as of

as_many_as_rows : length functions ≡ length function_entries
unfolding function_entries
as_many_as_rows = refl

abbrev row : ℕ → List ℕ × Function
row code = (name_at function_entries code, function_at code)

row_of_avg : row 0 ≡ (codes "avg", of.averaging)
unfolding function_entries
row_of_avg = refl

row_of_boolean : row 1 ≡ (codes "boolean", of.boolean)
unfolding function_entries
row_of_boolean = refl

row_of_boolean_from_string : row 2 ≡ (codes "boolean-from-string", of.asking)
unfolding function_entries
row_of_boolean_from_string = refl

row_of_choose : row 4 ≡ (codes "choose", of.choosing)
unfolding function_entries
row_of_choose = refl

row_of_contains : row 7 ≡ (codes "contains", of.asking)
unfolding function_entries
row_of_contains = refl

row_of_count : row 8 ≡ (codes "count", of.counting)
unfolding function_entries
row_of_count = refl

row_of_count_non_empty : row 9 ≡ (codes "count-non-empty", of.counting_filled)
unfolding function_entries
row_of_count_non_empty = refl

row_of_current : row 10 ≡ (codes "current", of.current)
unfolding function_entries
row_of_current = refl

row_of_event : row 13 ≡ (codes "event", of.event)
unfolding function_entries
row_of_event = refl

row_of_false : row 14 ≡ (codes "false", of.truth false)
unfolding function_entries
row_of_false = refl

row_of_if : row 16 ≡ (codes "if", of.branching)
unfolding function_entries
row_of_if = refl

row_of_index : row 17 ≡ (codes "index", of.index)
unfolding function_entries
row_of_index = refl

row_of_instance : row 18 ≡ (codes "instance", of.instance)
unfolding function_entries
row_of_instance = refl

row_of_last : row 19 ≡ (codes "last", of.last)
unfolding function_entries
row_of_last = refl

row_of_local_name : row 20 ≡ (codes "local-name", of.local_name)
unfolding function_entries
row_of_local_name = refl

row_of_max : row 21 ≡ (codes "max", of.greatest)
unfolding function_entries
row_of_max = refl

row_of_min : row 22 ≡ (codes "min", of.least)
unfolding function_entries
row_of_min = refl

row_of_name : row 24 ≡ (codes "name", of.name)
unfolding function_entries
row_of_name = refl

row_of_namespace_uri : row 25 ≡ (codes "namespace-uri", of.namespace)
unfolding function_entries
row_of_namespace_uri = refl

row_of_normalize_space : row 26 ≡ (codes "normalize-space", of.owning)
unfolding function_entries
row_of_normalize_space = refl

row_of_not : row 27 ≡ (codes "not", of.not)
unfolding function_entries
row_of_not = refl

row_of_number : row 28 ≡ (codes "number", of.number)
unfolding function_entries
row_of_number = refl

row_of_position : row 29 ≡ (codes "position", of.position)
unfolding function_entries
row_of_position = refl

row_of_starts_with : row 36 ≡ (codes "starts-with", of.asking)
unfolding function_entries
row_of_starts_with = refl

row_of_string : row 37 ≡ (codes "string", of.string)
unfolding function_entries
row_of_string = refl

row_of_string_length : row 38 ≡ (codes "string-length", of.owning)
unfolding function_entries
row_of_string_length = refl

row_of_sum : row 42 ≡ (codes "sum", of.adding)
unfolding function_entries
row_of_sum = refl

row_of_true : row 44 ≡ (codes "true", of.truth true)
unfolding function_entries
row_of_true = refl
