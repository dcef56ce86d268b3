-- What the entries of a ledger stand for, and how the last one is filled in.
use Rattle.std.specs.Prelude.{ℕ, List, map, reverse, Option, Some, None}
use Rattle.xf_def_forest.specs.Undo as undo
use Rattle.xf_undo.specs.declared.entry.Change.{Change}
use Rattle.xf_undo.specs.declared.entry.Change.TheVariants as change
use Rattle.xf_undo.specs.declared.entry.Entry.{Entry}
use Rattle.xf_undo.specs.declared.entry.Entry.TheVariants as entry

abbrev pub change_of : Change → undo.Change
change_of (change.Text n) = undo.of_text n.number
change_of (change.Attach n) = undo.of_attach n.number
change_of (change.Detach n) = undo.of_detach n.number

abbrev pub entry_of : Entry → undo.Entry
entry_of (entry.Noted c) = undo.noted (change_of c)
entry_of (entry.Set n before) = undo.set n.number before
entry_of (entry.Joined n) = undo.joined n.number
entry_of (entry.Cut n parent place) = undo.cut n.number parent.number place

-- the last one first
abbrev pub entries_of : List Entry → List undo.Entry
entries_of entries = reverse (map entry_of entries)

-- a detachment that was noted, with its parent and place
abbrev pub placed_entry : ℕ → ℕ → undo.Entry → undo.Entry
placed_entry parent place (undo.noted (undo.of_detach n)) = undo.cut n parent place
placed_entry parent place e = e

-- an attachment that was noted, as made
abbrev pub attached_entry : undo.Entry → undo.Entry
attached_entry (undo.noted (undo.of_attach n)) = undo.joined n
attached_entry e = e

-- the node whose text is noted to be set
abbrev pub text_noted : undo.Entry → Option ℕ
text_noted (undo.noted (undo.of_text n)) = Some n
text_noted e = None
