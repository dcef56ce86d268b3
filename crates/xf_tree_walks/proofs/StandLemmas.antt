-- A text stands at a node: what that is of its row, and of the texts among rows.
use Rattle.std.proofs.Common.{◌≡◌, ℕ, ◌+◌, ◌<◌, true, false, List, [], ◌∷◌, map, length, drop, get_or, refl, ap, ◌∙◌, arith}
use Rattle.std.proofs.lemmas.Bool.Decides.{nat_tests}
use Rattle.std.specs.Prelude.{nat_eq}
use Rattle.std.specs.Str.{bytes_eq}
use Rattle.slab.specs.Slab.{Slab, get}
use Rattle.xf_def_forest.specs.declared.content.Node.{Node}
use Rattle.xf_def_forest.specs.Forest.{is_text, own_text}
use Rattle.xf_def_forest.specs.Shape.{as_texts}
use Rattle.xf_def_forest.specs.Texts.{texts_in}
use Rattle.xf_def_forest.specs.Settle.{are_texts}
use Rattle.xf_tree_rows.specs.declared.rows.Row.{Row}
use Rattle.xf_tree_rows.specs.Rows.{no_row}
use Rattle.xf_tree_rows.proofs.RowLemmas.{split-at}
use Rattle.xf_tree_contents.specs.Slot.{Slot}
use Rattle.xf_tree_contents.specs.Keys.{content_in}
use Rattle.xf_tree_walks.specs.Nodes.{node_of}
use Rattle.xf_tree_walks.specs.Reads.{texts_left}

some : (c : ℕ) (cs : List ℕ) → nat_eq (length (c ∷ cs)) 0 ≡ false
some c cs = grind (arith, nat_tests)

pub none-texts : (text : List ℕ) → are_texts (as_texts text) [] ≡ nat_eq (length text) 0
none-texts [] = refl
none-texts (c ∷ cs) = rw (some c cs) refl

-- ---- among rows

abbrev pub texts_from : Slab Slot → ℕ → List Row → List Node
texts_from s at rows = texts_in (map (node_of s) (drop at rows))

pub from-text : (s : Slab Slot) (at : ℕ) (rows : List Row) → at < length rows → is_text (content_in (get s (get_or rows at no_row).key)) ≡ true
    → texts_from s at rows ≡ node_of s (get_or rows at no_row) ∷ texts_from s (at + 1) rows
from-text s at rows h e = ap (λ l. texts_in (map (node_of s) l)) (split-at at rows no_row h) ∙ rw e refl

pub found-here : (text : List ℕ) (x : Node) (xs : List Node) → bytes_eq (own_text x.content) text ≡ true → are_texts (texts_left false text) (x ∷ xs) ≡ are_texts (texts_left true text) xs
found-here text x xs e = rw e refl
