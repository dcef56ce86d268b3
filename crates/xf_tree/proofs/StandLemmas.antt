-- A text stands at a node: what that is of its row, and of the texts among rows.
use Rattle.std.proofs.Common.{◌≡◌, ℕ, true, false, List, [], map, length, take, drop, get_or, refl, ap, ◌∙◌}
use Rattle.std.specs.Str.{bytes_eq}
use Rattle.slab.specs.Slab.{Slab, get}
use Rattle.xf_def_forest.specs.declared.content.Node.{Node}
use Rattle.xf_def_forest.specs.Forest.{is_attribute, own_text, has_number, first_tree, tree_of as tree_of_node}
use Rattle.xf_def_forest.specs.Shape.{as_texts}
use Rattle.xf_def_forest.specs.Texts.{texts_in, value_in}
use Rattle.xf_def_forest.specs.Settle.{are_texts, has_text}
use Rattle.xf_tree_rows.specs.declared.rows.Row.{Row}
use Rattle.xf_tree_rows.specs.Rows.{tree_of, no_row}
use Rattle.xf_tree_contents.specs.Slot.{Slot}
use Rattle.xf_tree_contents.specs.Keys.{content_in}
use Rattle.xf_tree_walks.specs.Nodes.{node_of, StandsAt}
use Rattle.xf_tree_walks.proofs.NodeLemmas.{parted-from}
use Rattle.xf_tree_walks.proofs.PlaceLemmas.{stands}
use Rattle.xf_tree.specs.State.{IsSound}
use Rattle.xf_tree.proofs.NamedLemmas.{named-at, named-none, from-none, tree-means}
use Rattle.xf_tree.proofs.MeansLemmas.{one_of}

-- ---- at a node

-- where no node has the number, there is no text
pub stands-absent : (n : ℕ) (text : List ℕ) (zs : List Node) → has_number n zs ≡ false → has_text n text zs ≡ are_texts (as_texts text) []
stands-absent n text zs none =
    let is = named-none n (λ (y : Node). is_attribute y.content) zs none in
    let t : tree_of_node n zs ≡ [] = ap first_tree (from-none n zs none) in
    rw (is, t) refl

pub stands-value : (s : Slab Slot) (n at : ℕ) (text : List ℕ) (rows : List Row) (kept : List ℕ) (next : ℕ) → IsSound s rows kept next → StandsAt s rows n at
    → is_attribute (content_in (get s (get_or rows at no_row).key)) ≡ true → has_text n text (map (node_of s) rows) ≡ bytes_eq (own_text (content_in (get s (get_or rows at no_row).key))) text
stands-value s n at text rows kept next sound here e =
    let is = named-at (λ (y : Node). is_attribute y.content) s n at rows kept next sound here ∙ e in
    let part = stands s n at rows here (one_of s rows kept next n sound) in
    let had : value_in (tree_of_node n (map (node_of s) rows)) ≡ own_text (content_in (get s (get_or rows at no_row).key)) = ap (λ l. value_in (first_tree l)) (parted-from n _ _ _ _ part) in
    rw is (ap (λ l. bytes_eq l text) had)

pub stands-texts : (s : Slab Slot) (n at : ℕ) (text : List ℕ) (rows : List Row) (kept : List ℕ) (next : ℕ) → IsSound s rows kept next → StandsAt s rows n at
    → is_attribute (content_in (get s (get_or rows at no_row).key)) ≡ false
    → has_text n text (map (node_of s) rows) ≡ are_texts (as_texts text) (texts_in (map (node_of s) (take (length (tree_of (drop at rows))) (drop at rows))))
stands-texts s n at text rows kept next sound here e =
    let is = named-at (λ (y : Node). is_attribute y.content) s n at rows kept next sound here ∙ e in
    rw is (ap (λ l. are_texts (as_texts text) (texts_in l)) (tree-means s n at rows kept next sound here))
