-- What a line of the event stream asks for. It is a JSON array (RFC 8259): a word, then what the word wants, and nothing more.
use Rattle.std.specs.Prelude.{ℕ, List, [], ◌∷◌, Bool, ◌&&◌, Option, Some, None, option_map, ok_or, Result, Ok, Err, length, nat_le, if◌then◌else◌, codes, bytes_eq}
use Rattle.serde_json.specs.Data.{unsigned, Data, number, string, array, Items, no_items, item}
use Rattle.xf_base.specs.Limits.{event_name_limit}
use Rattle.xf_json.specs.Element.{value_in}
use Rattle.xf_line.specs.declared.event.Event.{Event}
use Rattle.xf_line.specs.declared.event.Event.TheVariants.{Set, Activate, Index, Send, Dispatch, Reset}
use Rattle.xf_line.specs.declared.event.Asked.{Asked}
use Rattle.xf_line.specs.declared.event.Asked.TheVariants as asked
use Rattle.xf_line.specs.declared.fault.LineFault.{LineFault}
use Rattle.xf_line.specs.declared.fault.LineFault.TheVariants.{NotJson, NotEvent}

-- the rows of a list: whole numbers below 2 ^ 64 that are written with digits alone
abbrev pub rows_in : Items → Option (List ℕ)
rows_in no_items = Some []
rows_in (item (number (unsigned row)) rest) = option_map (λ rows. row ∷ rows) (rows_in rest)
rows_in (item value rest) = None

-- the name of an event is not empty
abbrev pub is_event_name : List ℕ → Bool
is_event_name name = nat_le 1 (length name) && nat_le (length name) event_name_limit

-- ---- what each word wants behind it

-- an id, rows and a text
abbrev pub set_in : Items → Option Event
set_in (item (string id) (item (array rows) (item (string text) no_items))) = option_map (λ rows. Set id rows text) (rows_in rows)
set_in items = None

-- an id and rows
abbrev pub activate_in : Items → Option Event
activate_in (item (string id) (item (array rows) no_items)) = option_map (λ rows. Activate id rows) (rows_in rows)
activate_in items = None

-- an id and a whole number below 2 ^ 64 that is written with digits alone
abbrev pub index_in : Items → Option Event
index_in (item (string id) (item (number (unsigned index)) no_items)) = Some (Index id index)
index_in items = None

-- an id
abbrev pub send_in : Items → Option Event
send_in (item (string id) no_items) = Some (Send id)
send_in items = None

-- the name of an event, and an id
abbrev pub dispatch_in : Items → Option Event
dispatch_in (item (string name) (item (string id) no_items)) = if is_event_name name then Some (Dispatch name id) else None
dispatch_in items = None

-- an id
abbrev pub reset_in : Items → Option Event
reset_in (item (string id) no_items) = Some (Reset id)
reset_in items = None

-- nothing
abbrev pub show_in : Items → Option Asked
show_in no_items = Some asked.Show
show_in items = None

-- ---- a whole line

-- the event of a word and of what stands behind it
abbrev pub event_in : List ℕ → Items → Option Event
event_in word rest =
    if bytes_eq word (codes "set") then set_in rest
    else (if bytes_eq word (codes "activate") then activate_in rest
    else (if bytes_eq word (codes "index") then index_in rest
    else (if bytes_eq word (codes "send") then send_in rest
    else (if bytes_eq word (codes "dispatch") then dispatch_in rest
    else (if bytes_eq word (codes "reset") then reset_in rest
    else None)))))

-- what a word and what stands behind it ask for
abbrev pub asked_in : List ℕ → Items → Option Asked
asked_in word rest = if bytes_eq word (codes "show") then show_in rest else option_map asked.Event (event_in word rest)

-- what a value asks for
abbrev pub asked_of : Data → Option Asked
asked_of (array (item (string word) rest)) = asked_in word rest
asked_of value = None

infixl 10 ◌>>=◌
abbrev pub ◌>>=◌ : {A B : Type 0} → Result A LineFault → (A → Result B LineFault) → Result B LineFault
Ok x >>= f = f x
Err fault >>= f = Err fault

-- what a line asks for, or why it asks for nothing
unfoldable pub asked_by : List ℕ → Result Asked LineFault
asked_by line = do
  value ← ok_or (value_in line) NotJson
  ok_or (asked_of value) NotEvent
