-- What a call of a function on plain values gives (XPath 1.0, section 4; XForms 1.1, section 7). A function is known by its name in the
-- table of functions. No string that is made on the way has more bytes than the most it may have; the texts of dates are short.
use Rattle.std.specs.Prelude.{ℕ, ◌==◌, List, [], length, Option, Some, if◌then◌else◌, bytes_eq, codes, chars}
use Rattle.std.specs.List.{flat_map}
use Rattle.xf_num.specs.Number.{floor_of, ceiling_of, rounded}
use Rattle.xf_table.specs.Contents.{function_entries}
use Rattle.xf_table.specs.Places.{name_at}
use Rattle.xf_def_values.specs.declared.plain.Plain.{Plain}
use Rattle.xf_def_values.specs.declared.plain.Plain.TheVariants.{Text, Number, Truth}
use Rattle.xf_def_values.specs.Bounded.{◌>>=◌, capped}
use Rattle.xf_def_values.specs.Conversions.{Decimal, whole, text_in}
use Rattle.xf_def_values.specs.Functions.{Functions}
use Rattle.xf_dates.specs.Days.{day_of}
use Rattle.xf_dates.specs.Instants.{seconds_of}
use Rattle.xf_dates.specs.Printed.{date_of, moment_of}
use Rattle.xf_dates.specs.Durations.{duration}
use Rattle.xf_funcs.specs.Given.{string_at, number_at}
use Rattle.xf_funcs.specs.Numbers.{power, order_number, day_number, months_in, seconds_in}
use Rattle.xf_funcs.specs.Searching.{begins_with, contains, before, after, order_of_texts, is_true_text}
use Rattle.xf_types.specs.Spaces.{normalized}
use Rattle.xf_funcs.specs.Substring.{substring_from, substring_of}
use Rattle.xf_funcs.specs.Translate.{translated}

-- ---- functions of strings

-- what is made of one string, and of two
abbrev pub of_one : Option ℕ → ℕ → List Plain → (List ℕ → Plain) → Option Plain
of_one most d given made = do
  string ← string_at most d given 0
  Some (made string)

abbrev pub of_two : Option ℕ → ℕ → List Plain → (List ℕ → List ℕ → Plain) → Option Plain
of_two most d given made = do
  left ← string_at most d given 0
  right ← string_at most d given 1
  Some (made left right)

-- a text that may be too long
abbrev pub text : Option (List ℕ) → Option Plain
text string = do
  bytes ← string
  Some (Text bytes)

-- `property`: the version of XForms is the one property that is told
abbrev pub property_value : List ℕ → List ℕ
property_value name = if bytes_eq name (codes "version") then codes "1.1" else []

-- `concat`
abbrev pub concat_of : Option ℕ → ℕ → List Plain → Option Plain
concat_of most d given = text (capped most (flat_map (text_in d) given))

-- `substring` of two arguments or three
abbrev pub substring_by : ℕ → ℕ → List ℕ → Decimal → Decimal → List ℕ
substring_by d arguments text start count = if arguments == 3 then substring_of d text start count else substring_from d text start

abbrev pub substring_called : Option ℕ → ℕ → List Plain → Option Plain
substring_called most d given = do
  string ← string_at most d given 0
  Some (Text (substring_by d (length given) string (number_at d given 1) (number_at d given 2)))

-- `translate`
abbrev pub translate_of : Option ℕ → ℕ → List Plain → Option Plain
translate_of most d given = do
  string ← string_at most d given 0
  from ← string_at most d given 1
  to ← string_at most d given 2
  text (capped most (translated string from to))

-- ---- functions by their names

-- those that give texts; nothing else is asked for
abbrev pub by_texts : Option ℕ → ℕ → List ℕ → List Plain → Option Plain
by_texts most d name given =
    if bytes_eq name (codes "concat") then concat_of most d given
    else (if bytes_eq name (codes "substring") then substring_called most d given
    else (if bytes_eq name (codes "substring-before") then of_two most d given (λ text part. Text (before text part))
    else (if bytes_eq name (codes "substring-after") then of_two most d given (λ text part. Text (after text part))
    else (if bytes_eq name (codes "normalize-space") then of_one most d given (λ text. Text (normalized text))
    else (if bytes_eq name (codes "translate") then translate_of most d given
    else (if bytes_eq name (codes "property") then of_one most d given (λ name. Text (property_value name))
    else Some (Text [])))))))

-- those that ask something of strings
abbrev pub by_strings : Option ℕ → ℕ → List ℕ → List Plain → Option Plain
by_strings most d name given =
    if bytes_eq name (codes "string-length") then of_one most d given (λ text. Number (whole d (length (chars text))))
    else (if bytes_eq name (codes "contains") then of_two most d given (λ text part. Truth (contains text part))
    else (if bytes_eq name (codes "starts-with") then of_two most d given (λ text front. Truth (begins_with text front))
    else (if bytes_eq name (codes "compare") then of_two most d given (λ left right. Number (order_number d (order_of_texts left right)))
    else (if bytes_eq name (codes "boolean-from-string") then of_one most d given (λ text. Truth (is_true_text text))
    else by_texts most d name given))))

-- those of dates and durations
abbrev pub by_dates : Option ℕ → ℕ → List ℕ → List Plain → Option Plain
by_dates most d name given =
    if bytes_eq name (codes "days-from-date") then of_one most d given (λ text. Number (day_number d (day_of text)))
    else (if bytes_eq name (codes "days-to-date") then Some (Text (date_of d (number_at d given 0)))
    else (if bytes_eq name (codes "seconds-from-dateTime") then of_one most d given (λ text. Number (seconds_of d text))
    else (if bytes_eq name (codes "seconds-to-dateTime") then Some (Text (moment_of d (number_at d given 0)))
    else (if bytes_eq name (codes "months") then of_one most d given (λ text. Number (months_in (duration d text)))
    else (if bytes_eq name (codes "seconds") then of_one most d given (λ text. Number (seconds_in (duration d text)))
    else by_strings most d name given)))))

-- those of numbers
abbrev pub by_name : Option ℕ → ℕ → List ℕ → List Plain → Option Plain
by_name most d name given =
    if bytes_eq name (codes "round") then Some (Number (rounded d (number_at d given 0)))
    else (if bytes_eq name (codes "floor") then Some (Number (floor_of d (number_at d given 0)))
    else (if bytes_eq name (codes "ceiling") then Some (Number (ceiling_of d (number_at d given 0)))
    else (if bytes_eq name (codes "power") then Some (Number (power d (number_at d given 0) (number_at d given 1)))
    else by_dates most d name given)))

-- the functions of plain values, by their codes in the table
abbrev pub called : Functions
called most d code given = by_name most d (name_at function_entries code) given
