-- The texts of the rows of a tree are its string value.
use Rattle.std.proofs.Common.{◌≡◌, ℕ, ◌+◌, ◌-◌, ◌<◌, ◌≤◌, List, [], ◌∷◌, ◌++◌, map, length, take, drop, get_or, sym, ap, ◌∙◌, arith, append-nil, length-append}
use Rattle.std.specs.List.{flat_map}
use Rattle.std.proofs.lemmas.List.{take-append-drop, map-append, take_more}
use Rattle.std.proofs.lemmas.List.Concat.{flat_map-append}
use Rattle.slab.specs.Slab.{Slab, get}
use Rattle.xf_def_forest.specs.declared.content.Node.{Node}
use Rattle.xf_def_forest.specs.Forest.{own_text}
use Rattle.xf_def_forest.specs.Visit.{visits}
use Rattle.xf_def_forest.specs.StringValue.{characters, string_value}
use Rattle.xf_tree_rows.specs.declared.rows.Row.{Row}
use Rattle.xf_tree_rows.specs.Rows.{deeper, tree_of, no_row}
use Rattle.xf_tree_contents.specs.Slot.{Slot}
use Rattle.xf_tree_contents.specs.Keys.{content_in}
use Rattle.xf_tree_walks.specs.Nodes.{node_of, times, StandsAt, texts_in, text_of}
use Rattle.xf_tree_walks.proofs.PlaceLemmas.{stands, below-is, tree-size}
use Rattle.xf_tree_walks.proofs.StackLemmas.{parted-value}

pub text-means : (s : Slab Slot) (n at : ℕ) (rows : List Row) → StandsAt s rows n at → times n (map (node_of s) rows) ≤ 1
    → string_value n (visits (map (node_of s) rows)) ≡ text_of s rows at
text-means s n at rows here few =
    let x = get_or rows at no_row in
    let xs = drop (at + 1) rows in
    let size : length (tree_of (drop at rows)) - 1 ≡ deeper x.depth xs = omega (arith, tree-size at rows here.within) in
    parted-value n _ _ _ _ (stands s n at rows here few)
    ∙ ap (λ l. own_text (content_in (get s x.key)) ++ flat_map (λ (y : Node). characters y.content) l) (below-is s x.depth xs)
    ∙ ap (λ m. own_text (content_in (get s x.key)) ++ texts_in s (take m xs)) (sym size)

pub texts-append : (s : Slab Slot) (xs ys : List Row) → texts_in s (xs ++ ys) ≡ texts_in s xs ++ texts_in s ys
texts-append s xs ys = ap (flat_map (λ (y : Node). characters y.content)) (map-append (node_of s) xs ys) ∙ flat_map-append (λ (y : Node). characters y.content) (map (node_of s) xs) (map (node_of s) ys)

pub texts-more : (s : Slab Slot) (i : ℕ) (rows : List Row) (d : Row) → i < length rows
    → texts_in s (take (i + 1) rows) ≡ texts_in s (take i rows) ++ characters (content_in (get s (get_or rows i d).key))
texts-more s i rows d h =
    ap (texts_in s) (take_more rows i d h) ∙ texts-append s (take i rows) (get_or rows i d ∷ [])
    ∙ ap (λ l. texts_in s (take i rows) ++ l) (append-nil (characters (content_in (get s (get_or rows i d).key))))

pub texts-least : (s : Slab Slot) (i : ℕ) (rows : List Row) → length (texts_in s (take i rows)) ≤ length (texts_in s rows)
texts-least s i rows =
    let e = ap length (ap (texts_in s) (sym (take-append-drop i rows)) ∙ texts-append s (take i rows) (drop i rows)) in
    omega (arith, e, length-append (texts_in s (take i rows)) (texts_in s (drop i rows)))

-- with one text more there are too many bytes
pub texts-over : (s : Slab Slot) (i most left : ℕ) (rows : List Row) (d : Row) (text : List ℕ) → i < length rows → text ≡ characters (content_in (get s (get_or rows i d).key))
    → left + length (texts_in s (take i rows)) ≡ most → left < length text → most < length (texts_in s rows)
texts-over s i most left rows d text h e sum over =
    let a = ap length (texts-more s i rows d h) in
    let b = length-append (texts_in s (take i rows)) (characters (content_in (get s (get_or rows i d).key))) in
    let c = ap length e in
    omega (arith, texts-least s (i + 1) rows)
