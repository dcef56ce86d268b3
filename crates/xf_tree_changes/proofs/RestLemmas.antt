-- The rows without a tree that stands by itself.
use Rattle.std.proofs.Common.{◌≡◌, ℕ, suc, ◌+◌, ◌<◌, ◌≤◌, List, [], ◌∷◌, ◌++◌, map, length, take, drop, get_or, sym, ap, ◌∙◌, subst, arith}
use Rattle.std.proofs.lemmas.List.{take-append-drop, map-append}
use Rattle.slab.specs.Slab.{Slab}
use Rattle.xf_tree_rows.specs.declared.rows.Row.{Row}
use Rattle.xf_tree_rows.specs.Rows.{Sized, tree_of, after_tree, rest_of, no_row, AreSteps, depths, deeper}
use Rattle.xf_tree_rows.proofs.CutLemmas.{tree-parts, stops-after}
use Rattle.xf_tree_rows.proofs.RowLemmas.{split-at}
use Rattle.xf_tree_rows.proofs.RootedLemmas.{rest-sized, first-zero, AllUnder, under-steps, under-append, under-parts}
use Rattle.xf_tree_contents.specs.Slot.{Slot}
use Rattle.xf_tree_walks.specs.Leaves.{parts_in, NotDeeper, AreLeaves}
use Rattle.xf_tree_walks.specs.First.{AreFirst}
use Rattle.xf_tree_walks.specs.Nodes.{node_of}
use Rattle.xf_tree_walks.proofs.StepLemmas.{most_after, steps-append, steps-parts}
use Rattle.xf_tree_walks.proofs.LeafLemmas.{parts-append, leaves-parts, leaves-without, first-not_deeper}
use Rattle.xf_tree_changes.proofs.FirstRowLemmas.{without-first}
use Rattle.xf_tree_changes.proofs.BehindLemmas.{top-stops}
use Rattle.xf_tree_changes.proofs.MapLemmas.{whole-map}

-- a list without the tree at a place, and that tree
pub without-leaves : (s : Slab Slot) (at : ℕ) (old : List Row) → at < length old → AreLeaves (parts_in (map (node_of s) old))
    → AreLeaves (parts_in (map (node_of s) (take at old)) ++ parts_in (map (node_of s) (after_tree (drop at old)))) × AreLeaves (parts_in (map (node_of s) (tree_of (drop at old))))
without-leaves s at old h leaves =
    let f = node_of s in
    let x = get_or old at no_row in
    let xs = drop (at + 1) old in
    let us = map f (take at old) in
    let rest = map f (take (deeper x.depth xs) xs) in
    let after = map f (after_tree (x ∷ xs)) in
    let was : parts_in (map f old) ≡ parts_in us ++ (parts_in (f x ∷ rest) ++ parts_in after) =
    ap parts_in (whole-map f at old ∙ ap (λ l. us ++ (map f (tree_of l) ++ map f (after_tree l))) (split-at at old no_row h)) ∙ parts-append us ((f x ∷ rest) ++ after)
    ∙ ap (λ l. parts_in us ++ l) (parts-append (f x ∷ rest) after) in
    let w = leaves-without (parts_in us) (x.depth, (f x).content) (parts_in rest) (parts_in after) (subst AreLeaves was leaves) (first-not_deeper s x.depth (after_tree (x ∷ xs)) (stops-after x.depth xs)) in
    subst (λ l. AreLeaves (parts_in us ++ parts_in (map f (after_tree l))) × AreLeaves (parts_in (map f (tree_of l)))) (sym (split-at at old no_row h)) w

module _ (s : Slab Slot) (at : ℕ) (old : List Row) (h : at < length old) (top : (get_or old at no_row).depth ≡ 0) (sized : Sized old) where
  abbrev pub T : List Row
  T = tree_of (drop at old)

  abbrev pub after : List Row
  after = after_tree (drop at old)

  -- the depths of the rows that stay, and of the tree
  pub rest-steps : AreSteps 0 (depths old) → AreSteps 0 (depths (rest_of at old)) × AreSteps 0 (depths (tree_of (drop at old)))
  rest-steps steps =
      let g : Row → ℕ = λ r. r.depth in
      let r = rest-sized at old h top sized in
      let whole = steps-parts 0 (depths (take at old)) (depths (drop at old)) (subst (AreSteps 0) (ap depths (sym (take-append-drop at old)) ∙ map-append g (take at old) (drop at old)) steps) in
      let most = most_after 0 (depths (take at old)) in
      let parts = steps-parts most (depths T) (depths after) (subst (AreSteps most) (ap depths (sym (tree-parts (drop at old))) ∙ map-append g T after) whole.1) in (
        subst (AreSteps 0) (sym (map-append g (take at old) after)) (steps-append 0 (depths (take at old)) (depths after) whole.0 (first-zero after _ r.1 parts.1 most)),
        first-zero T _ (top-stops at old h top) parts.0 0,
      )

  rest-parts : parts_in (map (node_of s) (rest_of at old)) ≡ parts_in (map (node_of s) (take at old)) ++ parts_in (map (node_of s) (after_tree (drop at old)))
  rest-parts =
      let f = node_of s in
      ap parts_in (map-append f (take at old) after) ∙ parts-append (map f (take at old)) (map f after)

  -- and their leaves
  pub rest-leaves : AreLeaves (parts_in (map (node_of s) old)) → AreLeaves (parts_in (map (node_of s) (rest_of at old))) × AreLeaves (parts_in (map (node_of s) (tree_of (drop at old))))
  rest-leaves leaves =
      let f = node_of s in
      let w = without-leaves s at old h leaves in
      (subst AreLeaves (sym rest-parts) w.0, w.1)

  -- and where attributes stand
  pub rest-first : AreFirst 0 (parts_in (map (node_of s) old)) → AreFirst 0 (parts_in (map (node_of s) (rest_of at old)))
  rest-first first = subst (AreFirst 0) (sym rest-parts) (without-first s at old h first)

  pub rest-under : (b : ℕ) → AreSteps 0 (depths old) → length old ≤ b → AllUnder b (rest_of at old) × AllUnder b (tree_of (drop at old))
  rest-under b steps few =
      let p = under-parts b (take at old) (drop at old) (subst (AllUnder b) (sym (take-append-drop at old)) (under-steps b 0 old steps (omega arith))) in
      let q = under-parts b T after (subst (AllUnder b) (sym (tree-parts (drop at old))) p.1) in
      (under-append b (take at old) after p.0 q.1, q.0)

-- ---- after a row

pub later-steps : (over : ℕ) (rows : List Row) → over < length rows → AreSteps 0 (depths rows) → AreSteps (suc (get_or rows over no_row).depth) (depths (drop (over + 1) rows))
later-steps over rows h steps =
    let g : Row → ℕ = λ r. r.depth in
    let x = get_or rows over no_row in
    let is : depths rows ≡ depths (take over rows) ++ depths (x ∷ drop (over + 1) rows) =
    ap depths (sym (take-append-drop over rows)) ∙ map-append g (take over rows) (drop over rows) ∙ ap (λ l. depths (take over rows) ++ depths l) (split-at over rows no_row h) in
    (steps-parts 0 (depths (take over rows)) (depths (x ∷ drop (over + 1) rows)) (subst (AreSteps 0) is steps)).1.1

pub later-leaves : (s : Slab Slot) (n : ℕ) (rows : List Row) → AreLeaves (parts_in (map (node_of s) rows)) → AreLeaves (parts_in (map (node_of s) (drop n rows)))
later-leaves s n rows leaves =
    let f = node_of s in
    let is : parts_in (map f rows) ≡ parts_in (map f (take n rows)) ++ parts_in (map f (drop n rows)) =
    ap (λ l. parts_in (map f l)) (sym (take-append-drop n rows)) ∙ ap parts_in (map-append f (take n rows) (drop n rows)) ∙ parts-append (map f (take n rows)) (map f (drop n rows)) in
    (leaves-parts (parts_in (map f (take n rows))) (parts_in (map f (drop n rows))) (subst AreLeaves is leaves)).1

pub steps-first : (s : Slab Slot) (most : ℕ) (rows : List Row) → AreSteps most (depths rows) → NotDeeper most (parts_in (map (node_of s) rows))
steps-first s most [] steps = tt
steps-first s most (r ∷ rs) steps = steps.0
