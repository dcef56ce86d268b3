-- A note that is added.
use Rattle.std.proofs.Common.{◌≡◌, false, List, [], ◌∷◌, ◌++◌, nat_lt, Ok, ap}
use Rattle.std.specs.Prelude.{◌^◌}
use Rattle.xf_def_machine.specs.declared.limit.LimitWord.TheVariants.{Notes}
use Rattle.xf_def_machine.specs.declared.note.Note.{Note}
use Rattle.xf_def_machine.specs.NoteLines.{notes_size}
use Rattle.xf_def_machine.specs.Primitives.{add_note}
use Rattle.xf_def_machine.specs.Refusal.{if_over, unless_passed}
use Rattle.xf_def_machine.specs.State.{State}
use Rattle.xf_def_form.specs.Formed.{profile}

module _ (s : State) (note : Note) where
  abbrev after : List Note
  after = s.notes ++ note ∷ []

  pub note-added : nat_lt (2 ^ 20) (notes_size after) ≡ false → add_note profile note s ≡ Ok (record s { notes = after })
  note-added e = ap (λ b. unless_passed s (if_over b Notes) (record s { notes = after })) e
