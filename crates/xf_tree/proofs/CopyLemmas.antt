-- The contents at a place, as those of a tree that comes in.
use Rattle.std.proofs.Common.{◌≡◌, ℕ, suc, ◌+◌, ◌-◌, ◌<◌, ◌≤◌, ◌^◌, ◌==◌, ◌&&◌, ◌||◌, not, get_or, Bool, true, false, List, [], ◌∷◌, ◌++◌, map, length, take, drop, refl, sym, ap, ◌∙◌, subst, inl, inr, arith}
use Rattle.std.proofs.lemmas.Bool.{cases_Bool, false≢true}
use Rattle.std.specs.List.{list_any}
use Rattle.std.proofs.lemmas.List.{take-append-drop, map-append}
use Rattle.slab.specs.Slab.{Slab, get}
use Rattle.xf_def_forest.specs.declared.content.Node.{Node}
use Rattle.xf_def_forest.specs.declared.content.Content.{Content}
use Rattle.xf_def_forest.specs.Changes.{shifted, contents_in}
use Rattle.xf_def_forest.specs.Forest.{is_root, has_number, first_tree, tree_of}
use Rattle.xf_def_forest.specs.Limits.{size_of}
use Rattle.xf_tree_rows.specs.declared.rows.Row.{Row}
use Rattle.xf_tree_rows.specs.Rows.{deeper, tree_of as row_tree, AreSteps, depths, no_row, AllDeep}
use Rattle.xf_tree_rows.proofs.CutLemmas.{all-deeper}
use Rattle.xf_tree_rows.proofs.ParentLemmas.{deep-prefix}
use Rattle.xf_tree_rows.proofs.RowLemmas.{split-at}
use Rattle.xf_tree_contents.specs.Slot.{Slot}
use Rattle.xf_tree_contents.specs.Keys.{content_in}
use Rattle.xf_tree_contents.proofs.AlikeLemmas.{eq-true}
use Rattle.xf_tree_walks.specs.Leaves.{parts_in, AreLeaves}
use Rattle.xf_tree_walks.specs.First.{AreFirst}
use Rattle.xf_tree_walks.specs.Nodes.{node_of, times, AllTops, IsTree, AllPlain, StandsAt}
use Rattle.xf_tree_walks.proofs.NodeLemmas.{Parted, parted-from}
use Rattle.xf_tree_walks.proofs.StepLemmas.{steps-parts, steps-lowered}
use Rattle.xf_tree_walks.proofs.LeafLemmas.{leaves-parts, leaves-shifted, parts-append}
use Rattle.xf_tree_walks.proofs.RootLemmas.{tops-parts}
use Rattle.xf_tree_walks.proofs.PlaceLemmas.{stands, below-is, parted-at}
use Rattle.xf_tree_walks.proofs.StackLemmas.{absent-parts}
use Rattle.xf_tree_changes.specs.Trees.{part_of}
use Rattle.xf_tree.specs.State.{IsState}
use Rattle.xf_tree.proofs.FirstRowLemmas.{tree-first}
use Rattle.xf_tree.proofs.ForestLemmas.{above-deep}

parts-mean : (s : Slab Slot) (by : ℕ) (rows : List Row) → map (part_of s by) rows ≡ map (λ (x : Node). (x.depth, x.content)) (map (shifted by 0) (map (node_of s) rows))
parts-mean s by [] = refl
parts-mean s by (r ∷ rs) =
    let z : r.depth - by ≡ 0 + (r.depth - by) = omega arith in
    ap (λ d. (d, content_in (get s r.key)) ∷ map (part_of s by) rs) z ∙ ap (λ l. (0 + (r.depth - by), content_in (get s r.key)) ∷ l) (parts-mean s by rs)

pub contents-mean : (s : Slab Slot) (n at : ℕ) (rows : List Row) → StandsAt s rows n at → times n (map (node_of s) rows) ≤ 1
    → map (part_of s (get_or rows at no_row).depth) (row_tree (drop at rows)) ≡ contents_in (tree_of n (map (node_of s) rows))
contents-mean s n at rows here few =
    let f = node_of s in
    let x = get_or rows at no_row in
    let xs = drop (at + 1) rows in
    let sp = split-at at rows no_row here.within in
    let p = stands s n at rows here few in
    let t : tree_of n (map f rows) ≡ map f (row_tree (x ∷ xs)) = ap first_tree (parted-from n _ _ _ _ p) ∙ ap (λ l. f x ∷ l) (below-is s x.depth xs) in
    ap (λ l. map (part_of s x.depth) (row_tree l)) sp ∙ parts-mean s x.depth (row_tree (x ∷ xs)) ∙ ap contents_in (sym t)

plain-below : (s : Slab Slot) (d : ℕ) (rows : List Row) → AllDeep (d + 1) rows → AllTops (map (node_of s) rows) → ((key : ℕ) → size_of (content_in (get s key)) ≤ 2 ^ 66) → AllPlain (map (part_of s d) rows)
plain-below s d [] deep tops small = tt
plain-below s d (r ∷ rs) deep tops small = (
  elim (cases_Bool (is_root (content_in (get s r.key)))) [
    | inl e ↦ absurd (let z = tops.0 e in omega (arith, z, deep.0))
    | inr e ↦ e
  ],
  small r.key,
  plain-below s d rs deep.1 tops.1 small,
)

depths-parts : (s : Slab Slot) (by : ℕ) (rows : List Row) → map (λ (p : ℕ × Content). p.0) (map (part_of s by) rows) ≡ map (λ d. d - by) (depths rows)
depths-parts s by [] = refl
depths-parts s by (r ∷ rs) = ap (λ l. (r.depth - by) ∷ l) (depths-parts s by rs)

pub contents-tree : (s : Slab Slot) (at : ℕ) (rows : List Row) (kept : List ℕ) (next total size room : ℕ) → IsState s rows kept next total size room → at < length rows
    → is_root (content_in (get s (get_or rows at no_row).key)) ≡ false → IsTree (map (part_of s (get_or rows at no_row).depth) (row_tree (drop at rows)))
contents-tree s at rows kept next total size room state h top =
    let x = get_or rows at no_row in
    let xs = drop (at + 1) rows in
    let sp = split-at at rows no_row h in
    let rest = take (deeper x.depth xs) xs in
    let d : Row → ℕ = λ r. r.depth in
    let few : deeper x.depth xs ≤ deeper x.depth xs = omega arith in
    let deep = deep-prefix x.depth (deeper x.depth xs) xs few in
    let whole : depths rows ≡ depths (take at rows) ++ depths (x ∷ xs) = ap depths (sym (take-append-drop at rows)) ∙ map-append d (take at rows) (drop at rows) ∙ ap (λ l. depths (take at rows) ++ depths l) sp in
    let one = steps-parts 0 (depths (take at rows)) (depths (x ∷ xs)) (subst (AreSteps 0) whole state.sound.steps) in
    let split : depths xs ≡ depths rest ++ depths (drop (deeper x.depth xs) xs) = ap depths (sym (take-append-drop (deeper x.depth xs) xs)) ∙ map-append d rest (drop (deeper x.depth xs) xs) in
    let two = steps-parts (suc x.depth) (depths rest) (depths (drop (deeper x.depth xs) xs)) (subst (AreSteps (suc x.depth)) split one.1.1) in
    let least : x.depth ≤ suc x.depth = omega arith in
    let low = steps-lowered x.depth (suc x.depth) (depths rest) least (above-deep x.depth rest (all-deeper x.depth xs)) two.0 in
    let e : suc x.depth - x.depth ≡ suc (x.depth - x.depth) = omega arith in
    let low2 : AreSteps (suc (x.depth - x.depth)) (map (λ (p : ℕ × Content). p.0) (map (part_of s x.depth) rest)) =
    subst (AreSteps (suc (x.depth - x.depth))) (sym (depths-parts s x.depth rest)) (subst (λ m. AreSteps m (map (λ d. d - x.depth) (depths rest))) e low) in
    let zero_top : x.depth - x.depth ≤ 0 = omega arith in
    let t1 = tops-parts (map (node_of s) (take at rows)) (map (node_of s) (x ∷ xs)) (subst AllTops (parted-at (node_of s) at rows no_row h) state.sound.tops) in
    let t2 = tops-parts (map (node_of s) rest) (map (node_of s) (drop (deeper x.depth xs) xs)) (subst AllTops (ap (map (node_of s)) (sym (take-append-drop (deeper x.depth xs) xs)) ∙ map-append (node_of s) rest (drop (deeper x.depth xs) xs)) t1.1.1) in
    let l1 = leaves-parts (parts_in (map (node_of s) (take at rows))) (parts_in (map (node_of s) (x ∷ xs)))
    (subst AreLeaves (ap parts_in (parted-at (node_of s) at rows no_row h) ∙ parts-append (map (node_of s) (take at rows)) (map (node_of s) (x ∷ xs))) state.sound.leaves) in
    let tree = map-append (node_of s) (x ∷ rest) (drop (deeper x.depth xs) xs) in
    let l2 = leaves-parts (parts_in (map (node_of s) (x ∷ rest))) (parts_in (map (node_of s) (drop (deeper x.depth xs) xs)))
    (subst AreLeaves (ap (λ l. parts_in (node_of s x ∷ map (node_of s) l)) (sym (take-append-drop (deeper x.depth xs) xs)) ∙ ap parts_in tree ∙ parts-append (map (node_of s) (x ∷ rest)) (map (node_of s) (drop (deeper x.depth xs) xs))) l1.1) in
    let w = subst (λ l. AreFirst 0 (parts_in (map (shifted x.depth 0) (map (node_of s) (row_tree l))))) sp (tree-first s at 0 0 rows h (λ is pos. refl) state.sound.first) in
    subst (λ l. IsTree (map (part_of s x.depth) (row_tree l))) (sym sp) (record {
      steps = (zero_top, low2);
      plain = (top, state.counted.small x.key, plain-below s x.depth rest deep t2.0 state.counted.small);
      leaves = subst AreLeaves (sym (parts-mean s x.depth (x ∷ rest))) (leaves-shifted x.depth 0 (map (node_of s) (x ∷ rest)) l2.0);
      first = subst (AreFirst 0) (sym (parts-mean s x.depth (x ∷ rest))) w;
    })

-- what may be copied stands there, and is no root
pub copied-stands : (n : ℕ) (nodes us : List Node) (x : Node) (xs : List Node) → Parted n nodes us x xs → list_any (λ (y : Node). (y.number == n) && not (is_root y.content)) nodes ≡ true → is_root x.content ≡ false
copied-stands n nodes us x xs p may = not_root (is_root x.content) (go us (subst (λ l. list_any (λ (y : Node). (y.number == n) && not (is_root y.content)) l ≡ true) p.whole may) p.before)
  where
    none : (zs : List Node) → has_number n zs ≡ false → list_any (λ (y : Node). (y.number == n) && not (is_root y.content)) zs ≡ false
    none [] h = refl
    none (z ∷ zs) h = let q = absent-parts n z zs h in rw q.0 (none zs q.1)

    go : (zs : List Node) → list_any (λ (y : Node). (y.number == n) && not (is_root y.content)) (zs ++ (x ∷ xs)) ≡ true → has_number n zs ≡ false → not (is_root x.content) ≡ true
    go [] m h = here (not (is_root x.content)) (rw (eq-true x.number n p.number, none xs p.after) at m)
      where
        here : (b : Bool) → (b || false) ≡ true → b ≡ true
        here true e = refl
        here false e = e
    go (z ∷ zs) m h = let q = absent-parts n z zs h in go zs (rw q.0 at m) q.1

    not_root : (b : Bool) → not b ≡ true → b ≡ false
    not_root true e = absurd (false≢true e)
    not_root false e = refl

pub nothing-copied : (n : ℕ) (nodes : List Node) → has_number n nodes ≡ false → list_any (λ (y : Node). (y.number == n) && not (is_root y.content)) nodes ≡ true → ⊥
nothing-copied n [] h may = false≢true may
nothing-copied n (z ∷ zs) h may = let q = absent-parts n z zs h in nothing-copied n zs q.1 (rw q.0 at may)
