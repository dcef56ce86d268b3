-- What was made of a forest since it was kept: each change is noted, made and filled in, and new trees come in beside.
use Rattle.std.specs.Prelude.{ℕ, ◌≡◌, ◌+◌, ◌==◌, Bool, true, false, List, [], ◌∷◌, ◌++◌, length, Some, Ok}
use Rattle.std.specs.List.{list_any}
use Rattle.xf_def_forest.specs.declared.content.Content.{Content}
use Rattle.xf_def_forest.specs.Forest.{Forest, is_root}
use Rattle.xf_def_forest.specs.Limits.{Limits}
use Rattle.xf_def_forest.specs.Plant.{numbered_from}
use Rattle.xf_def_forest.specs.Changes.{attached, detached, standing, in_detached}
use Rattle.xf_def_forest.specs.Texts.{Keeping, before_of, taken_from}
use Rattle.xf_def_forest.specs.Settle.{reserved, with_numbered_text}
use Rattle.xf_def_forest.specs.Needs.{IsSettable, MayAttach, MayDetach}
use Rattle.xf_def_forest.specs.WellFormed.{AreTrees}
use Rattle.xf_def_forest.specs.Undo.{Change, of_text, of_attach, of_detach, Ledger, kept_at, with_note, text_filled, attach_filled, place_filled}

-- the first of these, where there is one, is a top
abbrev pub begins_at_top : List (ℕ × Content) → Bool
begins_at_top [] = true
begins_at_top (p ∷ ps) = p.0 == 0

-- new trees without a root
pub record IsGrowth (contents : List (ℕ × Content)) : Type 0 where
  pub top : begins_at_top contents ≡ true
  pub rootless : list_any (λ p. is_root p.1) contents ≡ false

-- with new detached trees behind all others
abbrev pub with_growth : List (ℕ × Content) → Keeping → Keeping
with_growth contents k = record k { forest = record { nodes = k.forest.nodes ++ numbered_from k.forest.next contents; next = k.forest.next + length contents } }

-- with a text at a node, which has this number where it is an element's; so many numbers are passed over
abbrev pub with_new_text : ℕ → ℕ → ℕ → List ℕ → Keeping → Keeping
with_new_text number more n text k = record {
  forest = record { nodes = with_numbered_text number n text k.forest.nodes; next = k.forest.next + more };
  kept = k.kept ++ taken_from n k.forest.nodes;
}

-- from the forest that was kept, the ledger as it stands and the forest as it stands
pub data Made (start : Keeping) : Ledger → Keeping → Type 0 where
  begun : AreTrees start → start.kept ≡ [] → in_detached start.forest.nodes ≡ [] → Made start (kept_at start.forest) start
  -- a change that was noted, and not made
  noted : {l : Ledger} {k : Keeping} → (change : Change) → Made start l k → Made start (with_note change l) k
  -- a text that was set, whatever number it has
  texts : {l : Ledger} {k : Keeping} → (number more n : ℕ) (text : List ℕ) → Made start l k → AreTrees k → IsSettable n k.forest
      → Made start (text_filled (before_of n k.forest.nodes) (with_note (of_text n) l) (with_new_text number more n text k)).0
      (text_filled (before_of n k.forest.nodes) (with_note (of_text n) l) (with_new_text number more n text k)).1
  -- so many numbers that were reserved
  passed : {l : Ledger} {k : Keeping} → (count : ℕ) → Made start l k → Made start l (record k { forest = reserved count k.forest })
  joined : {l : Ledger} {k : Keeping} → (limits : Limits) (n parent place : ℕ) (after : Forest)
      → Made start l k → AreTrees k → MayAttach n parent place k.forest → attached limits n parent place k.forest ≡ Ok after
      → Made start (attach_filled (with_note (of_attach n) l)) (record k { forest = after })
  cut : {l : Ledger} {k : Keeping} → (n parent place : ℕ) → Made start l k → AreTrees k → MayDetach n k.forest → standing n k.forest.nodes ≡ Some (parent, place)
      → Made start (place_filled parent place (with_note (of_detach n) l)) (record k { forest = detached n k.forest })
  grown : {l : Ledger} {k : Keeping} → (contents : List (ℕ × Content)) → Made start l k → AreTrees k → IsGrowth contents → AreTrees (with_growth contents k) → Made start l (with_growth contents k)
