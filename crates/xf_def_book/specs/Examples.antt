-- A book of the form of one input `a` over ["d","1"], to read beside the definitions.
use Rattle.std.specs.Prelude.{ℕ, ◌+◌, List, [], ◌∷◌, ◌++◌, codes, drop}
use Rattle.xf_line.specs.declared.event.Event.TheVariants.{Set}
use Rattle.xf_def_machine.specs.Program.{Program}
use Rattle.xf_def_machine.specs.State.{State}
use Rattle.xf_def_machine.specs.Examples.{profile}
use Rattle.xf_def_sessions.specs.Examples.{one_input, one_text, begun, after_set, slot_of, first_bytes, snap_base}
use Rattle.xf_def_book.specs.Books.{User, Book, BookReply, reply}
use Rattle.xf_def_book.specs.Images.{Item, joined, event}

abbrev pub form_a : Program
form_a = one_input (codes "a") (one_text (codes "1"))

-- ---- lines

abbrev pub join_line : List ℕ → List ℕ
join_line name = codes "[\"join\",\"" ++ name ++ codes "\"]"

abbrev pub line_for : List ℕ → List ℕ → List ℕ
line_for name line = codes "[\"for\",\"" ++ name ++ codes "\"," ++ line ++ codes "]"

abbrev pub set_line : List ℕ
set_line = codes "[\"set\",\"a\",[],\"2\"]"

abbrev pub show_line : List ℕ
show_line = codes "[\"show\"]"

-- ---- books

abbrev pub ann : List ℕ
ann = codes "ann"

abbrev pub bob : List ℕ
bob = codes "bob"

abbrev pub cat : List ℕ
cat = codes "cat"

abbrev pub user : List ℕ → State → User
user name s = record { name = name; state = s }

-- ann joined; bob joined; ann set a text
abbrev pub with_ann : Book
with_ann = user ann begun.state ∷ []

abbrev pub with_both : Book
with_both = user ann begun.state ∷ user bob begun.state ∷ []

abbrev pub with_text : Book
with_text = user ann after_set.state ∷ user bob begun.state ∷ []

-- the reply to a line, where no call of the store is made
abbrev pub reply_to : Book → List ℕ → BookReply
reply_to b line = reply profile form_a b [] line

-- ---- items and slots

abbrev pub both_join : List Item
both_join = joined ann [] ∷ joined bob [] ∷ []

abbrev pub ann_sets : Item
ann_sets = event ann (Set (codes "a") [] (codes "2")) []

-- an entry of a line of up to 245 bytes, without answers
abbrev pub entry_of : ℕ → List ℕ → List ℕ
entry_of size line = 1 ∷ (size + 5) ∷ 0 ∷ 0 ∷ 0 ∷ size ∷ 0 ∷ 0 ∷ 0 ∷ line ++ 0 ∷ []

-- a new book: no users, no entries
abbrev pub new_slot : List ℕ → List ℕ
new_slot entries = slot_of 50 1 2 (0 ∷ 0 ∷ 0 ∷ 0 ∷ []) first_bytes ++ 2 ∷ 0 ∷ entries ++ 0 ∷ []

-- a user, with the snapshot of ["d","2"] after so many accepted events
abbrev pub member_bytes : List ℕ → ℕ → List ℕ
member_bytes name accepted = 3 ∷ name ++ 33 ∷ 0 ∷ 0 ∷ 0 ∷ drop 1 (snap_base accepted)

-- ann alone with the text, compacted
abbrev pub compact_slot : List ℕ
compact_slot = slot_of 50 2 43 (0 ∷ 0 ∷ 0 ∷ 0 ∷ []) first_bytes ++ 2 ∷ 1 ∷ member_bytes ann 1 ++ 0 ∷ []
