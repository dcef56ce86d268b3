-- Walking over the tops of trees: a tree's rows are skipped, since no root and no detached top stands below another node.
use Rattle.std.proofs.Common.{◌≡◌, ℕ, zero, suc, ◌+◌, ◌-◌, ◌<◌, ◌≤◌, ◌==◌, true, false, List, [], ◌∷◌, ◌++◌, map, length, take, drop, None, append_assoc, subst, inl, inr, refl, sym, ap, ◌∙◌, arith, get_or, take-add}
use Rattle.std.proofs.lemmas.Bool.{cases_lt, cases_Bool}
use Rattle.std.proofs.lemmas.List.{take-append-drop, map-append, drop-drop}
use Rattle.slab.specs.Slab.{Slab, get}
use Rattle.xf_def_forest.specs.declared.content.Node.{Node}
use Rattle.xf_def_forest.specs.Forest.{is_root}
use Rattle.xf_def_forest.specs.Changes.{root_of, in_instances, is_detached_top}
use Rattle.xf_tree_rows.specs.declared.rows.Row.{Row}
use Rattle.xf_tree_rows.specs.Rows.{deeper, tree_of, after_tree, no_row}
use Rattle.xf_tree_rows.proofs.SizedLemmas.{lt-true, lt-false}
use Rattle.xf_tree_rows.proofs.CutLemmas.{tree-is-front}
use Rattle.xf_tree_rows.proofs.RowLemmas.{split-at}
use Rattle.xf_tree_contents.specs.Slot.{Slot}
use Rattle.xf_tree_contents.specs.Keys.{content_in}
use Rattle.xf_tree_walks.specs.Nodes.{node_of, AllTops}
use Rattle.xf_tree_walks.proofs.NodeLemmas.{eq-false}

pub tops-parts : (xs ys : List Node) → AllTops (xs ++ ys) → AllTops xs × AllTops ys
tops-parts [] ys p = (tt, p)
tops-parts (x ∷ xs) ys p = let i = tops-parts xs ys p.1 in ((p.0, i.0), i.1)

root-no : (k : ℕ) (x : Node) (xs : List Node) → is_root x.content ≡ false → root_of k (x ∷ xs) ≡ root_of k xs
root-no zero x xs e = rw e refl
root-no (suc k) x xs e = rw e refl

-- what is deeper than something is no root
below-none : (s : Slab Slot) (d k : ℕ) (xs : List Row) → AllTops (map (node_of s) xs) → root_of k (map (node_of s) xs) ≡ root_of k (map (node_of s) (drop (deeper d xs) xs))
below-none s d k [] tops = refl
below-none s d k (x ∷ xs) tops = elim (cases_lt d x.depth) [
  | inl l ↦ rw (lt-true d x.depth l) (elim (cases_Bool (is_root (content_in (get s x.key)))) [
    | inl e ↦ absurd (let z = tops.0 e in omega (arith, z))
    | inr e ↦ root-no k (node_of s x) (map (node_of s) xs) e ∙ below-none s d k xs tops.1
  ])
  | inr l ↦ rw (lt-false d x.depth l) refl
]

tops-drop : (s : Slab Slot) (at : ℕ) (rows : List Row) → AllTops (map (node_of s) rows) → AllTops (map (node_of s) (drop at rows))
tops-drop s at rows tops =
    (tops-parts (map (node_of s) (take at rows)) (map (node_of s) (drop at rows))
    (subst AllTops (ap (map (node_of s)) (sym (take-append-drop at rows)) ∙ map-append (node_of s) (take at rows) (drop at rows)) tops)).1

-- past the tree at a place
pub past-tree : (at end : ℕ) (rows : List Row) → end ≡ at + length (tree_of (drop at rows)) → drop end rows ≡ after_tree (drop at rows)
past-tree at end rows e =
    ap (λ k. drop k rows) e ∙ sym (drop-drop (length (tree_of (drop at rows))) at rows) ∙ (tree-is-front (drop at rows) (length (tree_of (drop at rows))) refl).1

skipped : (s : Slab Slot) (k at end : ℕ) (rows : List Row) → at < length rows → end ≡ at + length (tree_of (drop at rows)) → AllTops (map (node_of s) rows)
    → root_of k (map (node_of s) (drop (at + 1) rows)) ≡ root_of k (map (node_of s) (drop end rows))
skipped s k at end rows h e tops =
    let x = get_or rows at no_row in
    let p : drop end rows ≡ drop (deeper x.depth (drop (at + 1) rows)) (drop (at + 1) rows) = past-tree at end rows e ∙ ap after_tree (split-at at rows no_row h) in
    below-none s x.depth k (drop (at + 1) rows) (tops-drop s (at + 1) rows tops) ∙ ap (λ l. root_of k (map (node_of s) l)) (sym p)

pub root-other : (s : Slab Slot) (k at end : ℕ) (rows : List Row) → at < length rows → end ≡ at + length (tree_of (drop at rows)) → AllTops (map (node_of s) rows)
    → is_root (content_in (get s (get_or rows at no_row).key)) ≡ false
    → root_of k (map (node_of s) (drop end rows)) ≡ root_of k (map (node_of s) (drop at rows))
root-other s k at end rows h e tops other =
    sym (ap (λ l. root_of k (map (node_of s) l)) (split-at at rows no_row h) ∙ root-no k (node_of s (get_or rows at no_row)) (map (node_of s) (drop (at + 1) rows)) other ∙ skipped s k at end rows h e tops)

root-yes : (k : ℕ) (x : Node) (xs : List Node) → is_root x.content ≡ true → 0 < k → root_of k (x ∷ xs) ≡ root_of (k - 1) xs
root-yes zero x xs e h = absurd (omega arith)
root-yes (suc k) x xs e h = let z : suc k - 1 ≡ k = omega arith in rw (e, z) refl

pub root-more : (s : Slab Slot) (k at end : ℕ) (rows : List Row) → at < length rows → end ≡ at + length (tree_of (drop at rows)) → AllTops (map (node_of s) rows)
    → is_root (content_in (get s (get_or rows at no_row).key)) ≡ true → 0 < k
    → root_of (k - 1) (map (node_of s) (drop end rows)) ≡ root_of k (map (node_of s) (drop at rows))
root-more s k at end rows h e tops is some =
    sym (ap (λ l. root_of k (map (node_of s) l)) (split-at at rows no_row h) ∙ root-yes k (node_of s (get_or rows at no_row)) (map (node_of s) (drop (at + 1) rows)) is some ∙ skipped s (k - 1) at end rows h e tops)

pub past-end : (at : ℕ) (rows : List Row) → length rows ≤ at → drop at rows ≡ []
past-end zero [] h = refl
past-end zero (x ∷ xs) h = absurd (omega arith)
past-end (suc at) [] h = refl
past-end (suc at) (x ∷ xs) h = past-end at xs (omega arith)

no-root : (k : ℕ) → root_of k [] ≡ None
no-root zero = refl
no-root (suc k) = refl

-- ---- the instances

below-instances : (s : Slab Slot) (d : ℕ) (xs : List Row)
    → in_instances (map (node_of s) xs) ≡ map (node_of s) (take (deeper d xs) xs) ++ in_instances (map (node_of s) (drop (deeper d xs) xs))
below-instances s d [] = refl
below-instances s d (x ∷ xs) = elim (cases_lt d x.depth) [
  | inl l ↦
      let no : (x.depth == 0) ≡ false = eq-false x.depth 0 (λ z. let w : ⊥ = omega arith in w) in
      rw (lt-true d x.depth l, no) (ap (λ l. node_of s x ∷ l) (below-instances s d xs))
  | inr l ↦ rw (lt-false d x.depth l) refl
]

pub instances-more : (s : Slab Slot) (at end : ℕ) (rows : List Row) → at < length rows → end ≡ at + length (tree_of (drop at rows))
    → is_detached_top (node_of s (get_or rows at no_row)) ≡ false
    → map (node_of s) (take end rows) ++ in_instances (map (node_of s) (drop end rows)) ≡ map (node_of s) (take at rows) ++ in_instances (map (node_of s) (drop at rows))
instances-more s at end rows h e other =
    let f = node_of s in
    let x = get_or rows at no_row in
    let xs = drop (at + 1) rows in
    let n = length (tree_of (drop at rows)) in
    let sp = split-at at rows no_row h in
    let tree : take n (drop at rows) ≡ tree_of (x ∷ xs) = (tree-is-front (drop at rows) n refl).0 ∙ ap tree_of sp in
    let front : map f (take end rows) ≡ map f (take at rows) ++ map f (tree_of (x ∷ xs)) =
    ap (λ k. map f (take k rows)) e ∙ ap (map f) (take-add at n rows) ∙ map-append f (take at rows) (take n (drop at rows)) ∙ ap (λ l. map f (take at rows) ++ map f l) tree in
    let back : drop end rows ≡ after_tree (x ∷ xs) = past-tree at end rows e ∙ ap after_tree sp in
    let whole : in_instances (map f (drop at rows)) ≡ map f (tree_of (x ∷ xs)) ++ in_instances (map f (after_tree (x ∷ xs))) =
    ap (λ l. in_instances (map f l)) sp ∙ rw other (ap (λ l. f x ∷ l) (below-instances s x.depth xs)) in
    ap (λ l. l ++ in_instances (map f (drop end rows))) front
    ∙ ap (λ l. (map f (take at rows) ++ map f (tree_of (x ∷ xs))) ++ in_instances (map f l)) back
    ∙ append_assoc (map f (take at rows)) (map f (tree_of (x ∷ xs))) (in_instances (map f (after_tree (x ∷ xs))))
    ∙ ap (λ l. map f (take at rows) ++ l) (sym whole)
