-- What undoing needs, entry by entry from the last one on.
use Rattle.std.specs.Prelude.{List, [], ◌∷◌}
use Rattle.xf_def_forest.specs.Texts.{Keeping}
use Rattle.xf_def_forest.specs.Needs.{MayPutBack, MayDetach, MayPlace, MayDropFrom}
use Rattle.xf_def_forest.specs.Undo.{Entry, noted, set, joined, cut, Ledger, undone, undone_all}

-- a change can be undone: a text is put back, a tree is cut off or stands again where it stood
abbrev pub CanUndo : Entry → Keeping → Type 0
CanUndo (noted change) k = Unit {0}
CanUndo (set n before) k = MayPutBack n before k
CanUndo (joined n) k = MayDetach n k.forest
CanUndo (cut n parent place) k = MayPlace n parent k.forest

-- so can all, each in the forest that the later ones have left
abbrev pub CanUndoAll : List Entry → Keeping → Type 0
CanUndoAll [] k = Unit {0}
CanUndoAll (e ∷ es) k = CanUndo e k × CanUndoAll es (undone e k)

-- and what is new stands apart then
pub record CanRollBack (l : Ledger) (k : Keeping) : Type 0 where
  pub changes : CanUndoAll l.entries k
  pub rest : MayDropFrom l.next (undone_all l.entries k).forest
