-- What rows tell of the forest that they stand for: texts, order, contents, ranks and tops.
use Rattle.std.proofs.Common.{◌≡◌, ℕ, ◌≤◌, List, map, get_or, nat_lt, ap, ◌∙◌, arith, Some, option_map, ◌+◌, ◌-◌, cond, ◌∷◌, length, take, drop, sym, [], length-take}
use Rattle.std.proofs.lemmas.List.{length-map}
use Rattle.slab.specs.Slab.{Slab, get}
use Rattle.xf_def_forest.specs.declared.content.Node.{Node}
use Rattle.xf_def_forest.specs.Forest.{content_at, own_text}
use Rattle.xf_def_forest.specs.Order.{is_before, rank_of}
use Rattle.xf_def_forest.specs.Visit.{visits, numbers, last_of, top_of}
use Rattle.xf_def_forest.specs.StringValue.{has_character, pieces, pieces_in, string_value_within, within}
use Rattle.xf_def_forest.specs.Axis.{before}
use Rattle.xf_tree_rows.specs.declared.rows.Row.{Row}
use Rattle.xf_tree_rows.specs.Rows.{no_row, deeper, tree_of}
use Rattle.xf_tree_contents.specs.Slot.{Slot}
use Rattle.xf_tree_contents.specs.Keys.{content_in, number_in}
use Rattle.xf_tree_walks.specs.Nodes.{node_of, times, StandsAt, text_of}
use Rattle.xf_tree_walks.specs.Reads.{pieces_at, last_row}
use Rattle.xf_tree_walks.specs.Walks.{ancestor_rows}
use Rattle.xf_tree_walks.proofs.NodeLemmas.{parted-before, parted-node}
use Rattle.xf_tree_walks.proofs.PlaceLemmas.{stands, stands-after, below-is, tree-size, live-at}
use Rattle.xf_tree_walks.proofs.StackLemmas.{parted-visit, parted-ancestors}
use Rattle.xf_tree_walks.proofs.PieceLemmas.{filled, own, parted-filled}
use Rattle.xf_tree_walks.proofs.FoundLemmas.{visits-before}
use Rattle.xf_tree_walks.proofs.ReadLemmas.{lived, length-visits}
use Rattle.xf_tree_walks.proofs.TextLemmas.{text-means}
use Rattle.xf_tree_walks.proofs.SiblingLemmas.{above-rows}
use Rattle.xf_tree_walks.proofs.TopLemmas.{last-number}
use Rattle.xf_tree.specs.State.{IsSound}

pub one_of : (s : Slab Slot) (rows : List Row) (kept : List ℕ) (next n : ℕ) → IsSound s rows kept next → times n (map (node_of s) rows) ≤ 1
one_of s rows kept next n sound = omega (arith, sound.apart n)

pub before-means : (s : Slab Slot) (n m at to : ℕ) (rows : List Row) (kept : List ℕ) (next : ℕ) → IsSound s rows kept next → StandsAt s rows n at → StandsAt s rows m to
    → is_before n m (map (node_of s) rows) ≡ nat_lt at to
before-means s n m at to rows kept next sound here there =
    parted-before n m _ _ _ _ (stands s n at rows here (one_of s rows kept next n sound)) ∙ stands-after s m at to rows here.within there (one_of s rows kept next m sound)

pub content-means : (s : Slab Slot) (n at : ℕ) (rows : List Row) (kept : List ℕ) (next : ℕ) → IsSound s rows kept next → StandsAt s rows n at
    → content_at n (map (node_of s) rows) ≡ Some (content_in (get s (get_or rows at no_row).key))
content-means s n at rows kept next sound here =
    ap (option_map (λ (x : Node). x.content)) (parted-node n _ _ _ _ (stands s n at rows here (one_of s rows kept next n sound)))

pub pieces-means : (s : Slab Slot) (n at : ℕ) (rows : List Row) (kept : List ℕ) (next : ℕ) → IsSound s rows kept next → StandsAt s rows n at
    → pieces n (visits (map (node_of s) rows)) ≡ pieces_at s rows at
pieces-means s n at rows kept next sound here =
    let x = get_or rows at no_row in
    let xs = drop (at + 1) rows in
    let nodes = map (node_of s) rows in
    let text = own_text (content_in (get s x.key)) in
    let size : length (tree_of (drop at rows)) - 1 ≡ deeper x.depth xs = omega (arith, tree-size at rows here.within) in
    let p = stands s n at rows here (one_of s rows kept next n sound) in
    let begun : List (List ℕ) → List (List ℕ) = λ l. cond (has_character text) (text ∷ l) l in
    ap (pieces_in (visits nodes)) (parted-visit n _ _ _ _ p)
    ∙ ap (λ m. begun (filled m (visits nodes))) here.number
    ∙ ap begun (parted-filled n _ _ _ _ p)
    ∙ ap (λ l. begun (own l)) (below-is s x.depth xs)
    ∙ ap (λ m. begun (own (map (node_of s) (take m xs)))) (sym size)

pub slot-content : (s : Slab Slot) (n at : ℕ) (rows : List Row) (kept : List ℕ) (next : ℕ) → IsSound s rows kept next → StandsAt s rows n at
    → option_map (λ (p : Slot). p.content) (get s (get_or rows at no_row).key) ≡ content_at n (map (node_of s) rows)
slot-content s n at rows kept next sound here =
    lived (get s (get_or rows at no_row).key) (live-at s rows at no_row here.within sound.live) ∙ sym (content-means s n at rows kept next sound here)

pub rank-means : (s : Slab Slot) (n at : ℕ) (rows : List Row) (kept : List ℕ) (next : ℕ) → IsSound s rows kept next → StandsAt s rows n at
    → rank_of n (map (node_of s) rows) ≡ at
rank-means s n at rows kept next sound here =
    let p = stands s n at rows here (one_of s rows kept next n sound) in
    let front = ap (λ l. length (before n (visits l))) p.whole ∙ ap length (visits-before n [] _ _ _ p.number p.before) in
    let us = map (node_of s) (take at rows) in
    let long : length us ≡ at = omega (arith, length-map (take at rows) (node_of s), length-take at rows, here.within) in
    front ∙ length-visits [] us ∙ long

pub within-means : (s : Slab Slot) (n at most : ℕ) (rows : List Row) (kept : List ℕ) (next : ℕ) → IsSound s rows kept next → StandsAt s rows n at
    → string_value_within most n (visits (map (node_of s) rows)) ≡ within most (text_of s rows at)
within-means s n at most rows kept next sound here = ap (within most) (text-means s n at rows here (one_of s rows kept next n sound))

pub top-means : (s : Slab Slot) (n at : ℕ) (rows : List Row) (kept : List ℕ) (next : ℕ) → IsSound s rows kept next → StandsAt s rows n at
    → number_in (get s (last_row (get_or rows at no_row) (ancestor_rows rows at)).key) ≡ top_of n (visits (map (node_of s) rows))
top-means s n at rows kept next sound here =
    let p = stands s n at rows here (one_of s rows kept next n sound) in
    sym (ap (last_of n) (parted-ancestors n _ _ _ _ p ∙ above-rows s rows at here.within)
    ∙ ap (λ m. last_of m (numbers (map (node_of s) (ancestor_rows rows at)))) (sym here.number)
    ∙ last-number s (get_or rows at no_row) (ancestor_rows rows at))
