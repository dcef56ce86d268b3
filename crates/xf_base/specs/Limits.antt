-- The limits, each of which stands here once. Sizes are bytes unless another unit is named.
-- The code names each by a constant, and the laws of src/limits.rt tie the two.
use Rattle.std.specs.Prelude.{ℕ, ◌^◌}

-- ---- the event stream

-- one line of the event stream, without its line feed
abbrev pub line_limit : ℕ
line_limit = 65536

-- all bytes of the event stream in one run
abbrev pub stream_limit : ℕ
stream_limit = 2 ^ 26

-- the name of an event
abbrev pub event_name_limit : ℕ
event_name_limit = 255

-- turns of one event
abbrev pub turn_limit : ℕ
turn_limit = 50000

-- dispatches of one event, one inside another
abbrev pub dispatch_limit : ℕ
dispatch_limit = 64

-- bytes of the note lines of one event
abbrev pub note_limit : ℕ
note_limit = 2 ^ 20

-- nodes made in one event
abbrev pub made_limit : ℕ
made_limit = 2 ^ 32

-- ---- the store

-- what a store gives for one name
abbrev pub found_limit : ℕ
found_limit = 2 ^ 20

-- how often a store answers within one event
abbrev pub answer_limit : ℕ
answer_limit = 16

-- a name in a store
abbrev pub store_name_limit : ℕ
store_name_limit = 64

-- ---- names

-- a namespace prefix, a local name: one part of a name
abbrev pub part_limit : ℕ
part_limit = 255

-- namespaces of a form
abbrev pub namespace_limit : ℕ
namespace_limit = 256

-- prefixes of a form
abbrev pub prefix_limit : ℕ
prefix_limit = 32768

-- ---- expressions

-- the text of an expression; no list in it has more parts
abbrev pub expression_limit : ℕ
expression_limit = 4096

-- parentheses and signs of an expression, one inside another
abbrev pub nesting_limit : ℕ
nesting_limit = 64

-- a string that an expression makes on the way
abbrev pub string_limit : ℕ
string_limit = 4194304

-- what all binds of a form read and look at, counted together
abbrev pub edge_limit : ℕ
edge_limit = 2 ^ 23

-- ---- a form

-- a form's text
abbrev pub form_limit : ℕ
form_limit = 2 ^ 20

-- models of a form
abbrev pub model_limit : ℕ
model_limit = 16

-- instances of a form
abbrev pub instance_limit : ℕ
instance_limit = 64

-- binds of a form
abbrev pub bind_limit : ℕ
bind_limit = 4096

-- controls and containers of a form
abbrev pub control_limit : ℕ
control_limit = 4096

-- copies of controls and items, each repeated or not
abbrev pub copy_limit : ℕ
copy_limit = 65536

-- passes over the indexes of repeats at one time
abbrev pub pass_limit : ℕ
pass_limit = 64

-- what is told of a form that is refused
abbrev pub told_limit : ℕ
told_limit = 8192

-- ---- data

-- elements, attributes and texts in all trees
abbrev pub node_limit : ℕ
node_limit = 65536

-- one text or attribute
abbrev pub text_limit : ℕ
text_limit = 65536

-- all names and texts
abbrev pub all_limit : ℕ
all_limit = 2 ^ 22

-- elements from the top of a tree down
abbrev pub depth_limit : ℕ
depth_limit = 100

-- ---- a session

-- a slot of a session's journal
abbrev pub slot_limit : ℕ
slot_limit = 2 ^ 26

-- the bytes in use, its last gate counted, with which a slot still takes an event
abbrev pub used_limit : ℕ
used_limit = 2 ^ 25

-- one more than a session's form is ever changed
abbrev pub adoption_limit : ℕ
adoption_limit = 2 ^ 31
