-- The rows that a literal tree is made of.
use Rattle.std.proofs.Common.{◌≡◌, ℕ, ◌+◌, ◌-◌, ◌≤◌, ◌==◌, true, false, List, [], ◌∷◌, map, length, take, drop, get_or, Option, Some, None, refl, sym, ap, ◌∙◌, subst, inl, inr, arith}
use Rattle.std.specs.Prelude.{◌⊎◌}
use Rattle.std.proofs.lemmas.Bool.{cases_Bool, true≢false}
use Rattle.slab.specs.Slab.{Slab}
use Rattle.xf_def_forest.specs.declared.content.Node.{Node}
use Rattle.xf_def_forest.specs.declared.content.Content.{Content}
use Rattle.xf_def_forest.specs.declared.content.Content.TheVariants.{Root, Element, Attribute, Text}
use Rattle.xf_def_forest.specs.declared.content.Kind.{Kind}
use Rattle.xf_def_forest.specs.declared.content.Kind.TheVariants as kind
use Rattle.xf_def_forest.specs.Texts.{Keeping}
use Rattle.xf_def_forest.specs.Forest.{kind_of, kind_at, has_number, first_tree, below, tree_of}
use Rattle.xf_def_forest.specs.Literal.{printed}
use Rattle.xf_tree_rows.specs.declared.rows.Row.{Row}
use Rattle.xf_tree_rows.specs.Rows.{tree_of as row_tree, no_row}
use Rattle.xf_tree_rows.proofs.CutLemmas.{tree-is-front}
use Rattle.xf_tree_rows.proofs.RowLemmas.{split-at}
use Rattle.xf_tree_contents.specs.Slot.{Slot}
use Rattle.xf_tree_walks.specs.Nodes.{node_of, times, StandsAt}
use Rattle.xf_tree_walks.proofs.NodeLemmas.{parted-from}
use Rattle.xf_tree_walks.proofs.PlaceLemmas.{stands, below-is}
use Rattle.xf_tree_literals.specs.Print.{is_printable}
use Rattle.xf_tree.specs.State.{keeping_of, IsSound}
use Rattle.xf_tree.proofs.MeansLemmas.{one_of}

-- so many rows from a place on are the nodes of the tree there
pub tree-rows : (s : Slab Slot) (n at count : ℕ) (rows : List Row) → StandsAt s rows n at → times n (map (node_of s) rows) ≤ 1 → count ≡ length (row_tree (drop at rows))
    → map (node_of s) (take count (drop at rows)) ≡ tree_of n (map (node_of s) rows)
tree-rows s n at count rows here few size =
    let f = node_of s in
    let x = get_or rows at no_row in
    let xs = drop (at + 1) rows in
    let p = stands s n at rows here few in
    let t : tree_of n (map f rows) ≡ map f (row_tree (x ∷ xs)) = ap first_tree (parted-from n _ _ _ _ p) ∙ ap (λ l. f x ∷ l) (below-is s x.depth xs) in
    ap (map f) ((tree-is-front (drop at rows) count size).0 ∙ ap row_tree (split-at at rows no_row here.within)) ∙ sym t

-- the same with the rows as they come out of the forest
pub tree-here : (s : Slab Slot) (n at end next : ℕ) (kept : List ℕ) (rows : List Row) (k : Keeping) → IsSound s rows kept next → keeping_of s rows kept next ≡ k
    → StandsAt s rows n at → end ≡ at + length (row_tree (drop at rows)) → map (node_of s) (take (end - at) (drop at rows)) ≡ tree_of n k.forest.nodes
tree-here s n at end next kept rows k sound view here size =
    let count : end - at ≡ length (row_tree (drop at rows)) = omega (arith, size) in
    tree-rows s n at (end - at) rows here (one_of s rows kept next n sound) count ∙ ap (λ (k : Keeping). tree_of n k.forest.nodes) view

abbrev IsKind : Option Kind → Type 0
IsKind k = (k ≡ Some kind.Element) ⊎ (k ≡ Some kind.Text)

no-kind : IsKind None → ⊥
no-kind (inl e) = cc
no-kind (inr e) = cc

content-printable : (x : Node) (xs : List Node) (c : Content) → x.content ≡ c → IsKind (Some (kind_of c)) → is_printable (x ∷ xs) ≡ true
content-printable x xs Root e (inl k) = cc
content-printable x xs Root e (inr k) = cc
content-printable x xs (Element name) e k = rw e refl
content-printable x xs (Attribute name text) e (inl k) = cc
content-printable x xs (Attribute name text) e (inr k) = cc
content-printable x xs (Text text) e k = rw e refl

-- the tree of what may be printed begins with an element or a text
pub printable-first : (n : ℕ) (nodes : List Node) → IsKind (kind_at n nodes) → is_printable (tree_of n nodes) ≡ true
printable-first n [] k = absurd (no-kind k)
printable-first n (x ∷ xs) k = elim (cases_Bool (x.number == n)) [
  | inl e ↦ rw e (content-printable x (below x.depth xs) x.content refl (rw e at k))
  | inr e ↦ rw e (printable-first n xs (rw e at k))
]

nothing-printed : (n : ℕ) (nodes : List Node) → has_number n nodes ≡ false → IsKind (kind_at n nodes) → ⊥
nothing-printed n [] h k = no-kind k
nothing-printed n (x ∷ xs) h k = elim (cases_Bool (x.number == n)) [
  | inl e ↦ true≢false (rw e at h)
  | inr e ↦ nothing-printed n xs (rw e at h) (rw e at k)
]

-- nothing that is not there may be printed
pub nothing-here : (s : Slab Slot) (n next : ℕ) (kept : List ℕ) (rows : List Row) (k : Keeping) → keeping_of s rows kept next ≡ k → has_number n (map (node_of s) rows) ≡ false → IsKind (kind_at n k.forest.nodes) → ⊥
nothing-here s n next kept rows k view absent may = nothing-printed n k.forest.nodes (subst (λ (k : Keeping). has_number n k.forest.nodes ≡ false) view absent) may

-- the top is printed
pub printable-printed : (kept : List ℕ) (nodes : List Node) → is_printable nodes ≡ true → is_printable (printed kept nodes) ≡ true
printable-printed kept [] e = e
printable-printed kept (x ∷ xs) e = e
