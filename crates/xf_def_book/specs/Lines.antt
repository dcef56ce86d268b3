-- What a line of a book asks for: `["join",USER]` or `["for",USER,LINE]`, where LINE is a line of the event stream (RFC 8259).
use Rattle.std.specs.Prelude.{ℕ, Bool, ◌&&◌, ◌||◌, List, Option, Some, None, option_map, ok_or, Result, length, nat_le, codes, bytes_eq, if◌then◌else◌}
use Rattle.std.specs.List.{list_all}
use Rattle.serde_json.specs.Data.{Data, string, array, Items, no_items, item}
use Rattle.xf_json.specs.Element.{value_in}
use Rattle.xf_line.specs.declared.event.Asked.{Asked}
use Rattle.xf_line.specs.declared.fault.LineFault.{LineFault}
use Rattle.xf_line.specs.declared.fault.LineFault.TheVariants.{NotJson, NotEvent}
use Rattle.xf_line.specs.Line.{asked_of, ◌>>=◌}

-- ---- users

-- a lower-case letter of ASCII, or a digit
abbrev pub is_user_byte : ℕ → Bool
is_user_byte b = (nat_le 97 b && nat_le b 122) || (nat_le 48 b && nat_le b 57)

-- 1 to 16 of them
abbrev pub is_user : List ℕ → Bool
is_user name = nat_le 1 (length name) && nat_le (length name) 16 && list_all is_user_byte name

-- ---- lines

-- what is wanted of a user's session
pub data Wanted : Type 0 where
  -- that there is one
  join : Wanted
  -- what a line asks of it
  line : Asked → Wanted

pub record BookLine : Type 0 where
  pub user : List ℕ
  pub wanted : Wanted

-- nothing stands behind the user
abbrev pub join_in : Items → Option Wanted
join_in no_items = Some join
join_in (item value rest) = None

-- one line stands there
abbrev pub line_in : Items → Option Wanted
line_in (item value no_items) = option_map line (asked_of value)
line_in items = None

abbrev pub wanted_in : List ℕ → Items → Option Wanted
wanted_in word rest = if bytes_eq word (codes "join") then join_in rest else if bytes_eq word (codes "for") then line_in rest else None

abbrev pub line_of_user : List ℕ → Option Wanted → Option BookLine
line_of_user user wanted = option_map (λ w. record { user = user; wanted = w }) wanted

-- what a value asks for
abbrev pub book_line_of : Data → Option BookLine
book_line_of (array (item (string word) (item (string user) rest))) = if is_user user then line_of_user user (wanted_in word rest) else None
book_line_of value = None

-- what a line asks for, or why it asks for nothing
unfoldable pub book_line_by : List ℕ → Result BookLine LineFault
book_line_by bytes = do
  value ← ok_or (value_in bytes) NotJson
  ok_or (book_line_of value) NotEvent
