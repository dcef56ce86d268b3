-- A tree moved below a node: what the rows stand for.
use Rattle.std.proofs.Common.{◌≡◌, ℕ, suc, ◌+◌, ◌-◌, ◌<◌, ◌≤◌, ◌==◌, ◌⊎◌, false, List, [], ◌∷◌, ◌++◌, map, length, take, drop, get_or, reverse, append_assoc, take-add, refl, sym, ap, ◌∙◌, inl, inr, arith}
use Rattle.std.proofs.lemmas.List.{take-append-drop, map-append, reverse-reverse, take_at, take-map, drop-map, drop-drop, take_more, get_or-take, get_or-drop}
use Rattle.std.proofs.lemmas.Bool.{cases_Bool, cases_lt, true≢false}
use Rattle.slab.specs.Slab.{Slab, get}
use Rattle.xf_def_forest.specs.declared.content.Node.{Node}
use Rattle.xf_def_forest.specs.declared.content.Content.{Content}
use Rattle.xf_def_forest.specs.Forest.{has_number, first_tree, tree_of}
use Rattle.xf_def_forest.specs.Changes.{shifted, moved_to, without_tree, with_part, with_below}
use Rattle.xf_tree_rows.specs.declared.rows.Row.{Row}
use Rattle.xf_tree_rows.specs.Rows.{deeper, deepened, tree_of as row_tree, after_tree, rest_of, no_row}
use Rattle.xf_tree_rows.proofs.RowLemmas.{split-at}
use Rattle.xf_tree_rows.proofs.CutLemmas.{tree-parts}
use Rattle.xf_tree_contents.specs.Slot.{Slot}
use Rattle.xf_tree_contents.specs.Keys.{number_in, content_in}
use Rattle.xf_tree_contents.proofs.AlikeLemmas.{eq-true}
use Rattle.xf_tree_walks.specs.Nodes.{node_of, times, StandsAt}
use Rattle.xf_tree_walks.proofs.NodeLemmas.{Parted, parted-without, parted-from, times-append}
use Rattle.xf_tree_walks.proofs.PlaceLemmas.{stands, below-is, past-is, has-true, times-at}
use Rattle.xf_tree_changes.specs.Below.{part_at, row_below, IsPlaced}
use Rattle.xf_tree_changes.proofs.MapLemmas.{IgnoresSize, map-grown, whole-map}
use Rattle.xf_tree_changes.proofs.PartLemmas.{part-is}
use Rattle.xf_tree.specs.State.{IsSound}
use Rattle.xf_tree.proofs.MeansLemmas.{one_of}
use Rattle.xf_tree.proofs.ForestLemmas.{node-ignores}
use Rattle.xf_tree.proofs.DeepenLemmas.{lowered}

below-go : (m place : ℕ) (tree us : List Node) (x : Node) (xs : List Node) → x.number ≡ m → has_number m us ≡ false
    → with_below m place tree (us ++ (x ∷ xs)) ≡ us ++ (x ∷ with_part (suc x.depth) place tree xs)
below-go m place tree [] x xs e h = rw (eq-true x.number m e) refl
below-go m place tree (u ∷ us) x xs e h = elim (cases_Bool (u.number == m)) [
  | inl t ↦ absurd (true≢false (rw t at h))
  | inr t ↦ rw t (ap (λ l. u ∷ l) (below-go m place tree us x xs e (rw t at h)))
]

pub parted-below : (m place : ℕ) (tree nodes us : List Node) (x : Node) (xs : List Node) → Parted m nodes us x xs
    → with_below m place tree nodes ≡ us ++ (x ∷ with_part (suc x.depth) place tree xs)
parted-below m place tree nodes us x xs p = ap (with_below m place tree) p.whole ∙ below-go m place tree us x xs p.number p.before

-- the tree of a top below a parent
pub placed-list : (m place d i : ℕ) (nodes us later : List Node) (y t : Node) (ts : List Node) → Parted m nodes us y later → suc y.depth ≡ d → t.depth ≡ 0 → i ≡ part_at d place t.content later
    → with_below m place (t ∷ ts) nodes ≡ (us ++ (y ∷ take i later)) ++ (map (shifted 0 d) (t ∷ ts) ++ drop i later)
placed-list m place d i nodes us later y t ts p deep top is =
    parted-below m place (t ∷ ts) nodes us y later p
    ∙ ap (λ k. us ++ (y ∷ with_part k place (t ∷ ts) later)) deep
    ∙ ap (λ l. us ++ (y ∷ l)) (part-is d place t ts later)
    ∙ ap (λ k. us ++ (y ∷ (take k later ++ (moved_to d (t ∷ ts) ++ drop k later)))) (sym is)
    ∙ ap (λ k. us ++ (y ∷ (take i later ++ (map (shifted k d) (t ∷ ts) ++ drop i later)))) top
    ∙ sym (append_assoc us (y ∷ take i later) (map (shifted 0 d) (t ∷ ts) ++ drop i later))

-- the tree of the node at a place, and the others
pub tree-nodes : (s : Slab Slot) (n at : ℕ) (rows : List Row) → StandsAt s rows n at → times n (map (node_of s) rows) ≤ 1 → tree_of n (map (node_of s) rows) ≡ map (node_of s) (row_tree (drop at rows))
tree-nodes s n at rows here few =
    let f = node_of s in
    let x = get_or rows at no_row in
    let xs = drop (at + 1) rows in
    let p = stands s n at rows here few in
    ap first_tree (parted-from n _ _ _ _ p) ∙ ap (λ l. f x ∷ l) (below-is s x.depth xs) ∙ ap (λ l. map f (row_tree l)) (sym (split-at at rows no_row here.within))

pub rest-nodes : (s : Slab Slot) (n at : ℕ) (rows : List Row) → StandsAt s rows n at → times n (map (node_of s) rows) ≤ 1 → without_tree n (map (node_of s) rows) ≡ map (node_of s) (rest_of at rows)
rest-nodes s n at rows here few =
    let f = node_of s in
    let x = get_or rows at no_row in
    let xs = drop (at + 1) rows in
    let p = stands s n at rows here few in
    parted-without n _ _ _ _ p ∙ ap (λ l. map f (take at rows) ++ l) (past-is s x.depth xs ∙ ap (λ l. map f (after_tree l)) (sym (split-at at rows no_row here.within)))
    ∙ sym (map-append f (take at rows) (after_tree (drop at rows)))

-- a node that is not in a tree stands before it or behind it
pub stands-outside : (s : Slab Slot) (n m at above : ℕ) (rows : List Row) → StandsAt s rows n at → StandsAt s rows m above → times n (map (node_of s) rows) ≤ 1
    → has_number m (tree_of n (map (node_of s) rows)) ≡ false → (above < at) ⊎ (at + length (row_tree (drop at rows)) ≤ above)
stands-outside s n m at above rows here there few outside =
    let T = row_tree (drop at rows) in
    elim (cases_lt above at) [
      | inl l ↦ inl l
      | inr l ↦ elim (cases_lt above (at + length T)) [
        | inl k ↦
            absurd (
            let i = above - at in
            let sum : at + i ≡ above = omega arith in
            let within : i < length T = omega arith in
            let whole : drop at rows ≡ T ++ after_tree (drop at rows) = sym (tree-parts (drop at rows)) in
            let front : take (length T) (drop at rows) ≡ T = tree-front T (after_tree (drop at rows)) (drop at rows) whole in
            let same : get_or T i no_row ≡ get_or rows above no_row =
            ap (λ l. get_or l i no_row) (sym front) ∙ get_or-take (length T) (drop at rows) i no_row within ∙ get_or-drop at rows i no_row ∙ ap (λ k. get_or rows k no_row) sum in
            let number = ap (λ (r : Row). number_in (get s r.key)) same ∙ there.number in
            let has = has-true m (map (node_of s) T) (times-at s m i T within number) in
            true≢false (sym has ∙ ap (has_number m) (sym (tree-nodes s n at rows here few)) ∙ outside)
            )
        | inr k ↦ inr k
      ]
    ]
  where
    tree-front : (us vs xs : List Row) → xs ≡ us ++ vs → take (length us) xs ≡ us
    tree-front us vs xs e = ap (take (length us)) e ∙ take_at us vs (length us) refl

module _ (s : Slab Slot) (n m at above place next : ℕ) (kept : List ℕ) (old new : List Row) (sound : IsSound s old kept next) (here : StandsAt s old n at) (there : StandsAt s old m above)
    (top : (get_or old at no_row).depth ≡ 0) (p : IsPlaced at above place s old new) where
  abbrev pub W : List Row
  W = rest_of at old

  abbrev pub T : List Row
  T = row_tree (drop at old)

  abbrev pub x : Row
  x = get_or old above no_row

  abbrev pub d : ℕ
  d = (get_or old above no_row).depth + 1

  abbrev pub c : Content
  c = content_in (get s (get_or old at no_row).key)

  -- where the tree comes in
  abbrev pub goes_to : ℕ
  goes_to = row_below s (rest_of at old) p.over (content_in (get s (get_or old at no_row).key)) place

  pub new-parts : {X : Type 0} (g : Row → X) → IgnoresSize g
      → map g new ≡ map g (take goes_to (rest_of at old)) ++ (map g (map (deepened ((get_or old above no_row).depth + 1)) (row_tree (drop at old))) ++ map g (drop goes_to (rest_of at old)))
  new-parts g same =
      let us = take goes_to W in
      let low = map (deepened d) T in
      let vs = drop goes_to W in
      ap (map g) p.rows ∙ map-grown g same (length T) d (reverse us) (low ++ vs) ∙ ap (λ l. map g (l ++ (low ++ vs))) (reverse-reverse us)
      ∙ map-append g us (low ++ vs) ∙ ap (λ l. map g us ++ l) (map-append g low vs)

  pub new-nodes : map (node_of s) new
      ≡ map (node_of s) (take goes_to (rest_of at old)) ++ (map (shifted 0 ((get_or old above no_row).depth + 1)) (map (node_of s) (row_tree (drop at old))) ++ map (node_of s) (drop goes_to (rest_of at old)))
  new-nodes = new-parts (node_of s) (node-ignores s) ∙ ap (λ l. map (node_of s) (take goes_to W) ++ (l ++ map (node_of s) (drop goes_to W))) (lowered s d T)

  -- what adds over lists stays
  pub same-sum : (X : List Node → ℕ) → ((xs ys : List Node) → X (xs ++ ys) ≡ X xs + X ys) → ((xs : List Node) → X (map (shifted 0 ((get_or old above no_row).depth + 1)) xs) ≡ X xs)
      → X (map (node_of s) new) ≡ X (map (node_of s) old)
  same-sum X add alike =
      let f = node_of s in
      let us = map f (take goes_to W) in
      let vs = map f (drop goes_to W) in
      let tree = map f T in
      let a = ap X new-nodes ∙ add us (map (shifted 0 d) tree ++ vs) in
      let b = add (map (shifted 0 d) tree) vs in
      let e = ap (λ l. X (map f l)) (sym (take-append-drop goes_to W)) ∙ ap X (map-append f (take goes_to W) (drop goes_to W)) ∙ add us vs in
      let g = ap X (map-append f (take at old) (after_tree (drop at old))) ∙ add (map f (take at old)) (map f (after_tree (drop at old))) in
      let i = ap X (whole-map f at old) ∙ add (map f (take at old)) (tree ++ map f (after_tree (drop at old))) in
      let j = add tree (map f (after_tree (drop at old))) in
      omega (arith, a, b, alike tree, e, g, i, j)

  -- the parent among those that stay
  over-times : times m (map (node_of s) (rest_of at old)) ≤ 1
  over-times =
      let f = node_of s in
      let g = ap (times m) (map-append f (take at old) (after_tree (drop at old))) ∙ times-append m (map f (take at old)) (map f (after_tree (drop at old))) in
      let i = ap (times m) (whole-map f at old) ∙ times-append m (map f (take at old)) (map f T ++ map f (after_tree (drop at old))) in
      let j = times-append m (map f T) (map f (after_tree (drop at old))) in
      omega (arith, g, i, j, one_of s old kept next m sound)

  pub placed-means : map (node_of s) new ≡ with_below m place (tree_of n (map (node_of s) old)) (without_tree n (map (node_of s) old))
  placed-means =
      let f = node_of s in
      let few = one_of s old kept next n sound in
      let later = drop (p.over + 1) W in
      let y = get_or W p.over no_row in
      let over : StandsAt s W m p.over = record { within = p.within; number = ap (λ (r : Row). number_in (get s r.key)) p.row ∙ there.number } in
      let parted = stands s m p.over W over over-times in
      let t = get_or old at no_row in
      let ts = take (deeper t.depth (drop (at + 1) old)) (drop (at + 1) old) in
      let i = part_at (y.depth + 1) place c (map f later) in
      let tree : map f T ≡ f t ∷ map f ts = ap (λ l. map f (row_tree l)) (split-at at old no_row here.within) in
      let deep : y.depth + 1 ≡ d = ap (λ (r : Row). r.depth + 1) p.row in
      let sum : suc y.depth ≡ y.depth + 1 = omega arith in
      let list = placed-list m place (y.depth + 1) i _ (map f (take p.over W)) (map f later) (f y) (f t) (map f ts) parted sum top refl in
      let one : take goes_to W ≡ take p.over W ++ (y ∷ take i later) =
      take-add (p.over + 1) i W ∙ ap (λ l. l ++ take i later) (take_more W p.over no_row p.within) ∙ append_assoc (take p.over W) (y ∷ []) (take i later) in
      let front : map f (take goes_to W) ≡ map f (take p.over W) ++ (f y ∷ take i (map f later)) =
      ap (map f) one ∙ map-append f (take p.over W) (y ∷ take i later) ∙ ap (λ l. map f (take p.over W) ++ (f y ∷ l)) (sym (take-map f i later)) in
      let back : map f (drop goes_to W) ≡ drop i (map f later) = ap (map f) (sym (drop-drop i (p.over + 1) W)) ∙ sym (drop-map f i later) in
      new-nodes ∙ ap (λ l. l ++ (map (shifted 0 d) (map f T) ++ map f (drop goes_to W))) front
      ∙ ap (λ l. (map f (take p.over W) ++ (f y ∷ take i (map f later))) ++ (map (shifted 0 d) (map f T) ++ l)) back
      ∙ ap (λ k. (map f (take p.over W) ++ (f y ∷ take i (map f later))) ++ (map (shifted 0 k) (map f T) ++ drop i (map f later))) (sym deep)
      ∙ ap (λ l. (map f (take p.over W) ++ (f y ∷ take i (map f later))) ++ (map (shifted 0 (y.depth + 1)) l ++ drop i (map f later))) tree
      ∙ sym list
      ∙ ap (λ l. with_below m place l (map f W)) (sym tree ∙ sym (tree-nodes s n at old here few))
      ∙ ap (with_below m place (tree_of n (map f old))) (sym (rest-nodes s n at old here few))
