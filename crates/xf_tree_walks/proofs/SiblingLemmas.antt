-- The children of a node, and the siblings before and after one, as rows.
use Rattle.std.proofs.Common.{◌≡◌, ℕ, suc, ◌+◌, ◌-◌, ◌<◌, ◌≤◌, ◌==◌, Bool, true, false, List, [], ◌∷◌, ◌++◌, map, length, take, drop, get_or, nat_lt, reverse, Some, None, refl, sym, ap, ◌∙◌, subst, inl, inr, arith, take-add, append-nil}
use Rattle.std.specs.Prelude.{filter}
use Rattle.std.proofs.lemmas.Bool.{cases_Bool}
use Rattle.std.proofs.lemmas.List.{map-append, take-append-drop, append_cancel_left}
use Rattle.slab.specs.Slab.{Slab}
use Rattle.xf_def_forest.specs.declared.content.Node.{Node}
use Rattle.xf_def_forest.specs.declared.content.Content.{Content}
use Rattle.xf_def_forest.specs.Forest.{below}
use Rattle.xf_def_forest.specs.Visit.{Visit, numbers, visit, visits, visits_from, still_above, first_of, is_first, same_parent}
use Rattle.xf_def_forest.proofs.RenumberLaws.{map-reverse}
use Rattle.xf_tree_rows.specs.declared.rows.Row.{Row}
use Rattle.xf_tree_rows.specs.Rows.{AllDeep, deeper, tree_of, top_depth, parent_row_of, no_row, depths, AreSteps}
use Rattle.xf_tree_rows.proofs.SizedLemmas.{lt-true}
use Rattle.xf_tree_rows.proofs.RowLemmas.{split-at}
use Rattle.xf_tree_rows.proofs.CutLemmas.{tree-within}
use Rattle.xf_tree_contents.specs.Slot.{Slot}
use Rattle.xf_tree_contents.proofs.AlikeLemmas.{eq-true}
use Rattle.xf_tree_walks.specs.Nodes.{node_of, times, StandsAt, number_at}
use Rattle.xf_tree_walks.specs.Walks.{between, chosen, climbed, ancestor_rows, number_of_row, AreNodes}
use Rattle.xf_tree_walks.specs.Kids.{is_kid}
use Rattle.xf_tree_walks.proofs.NodeLemmas.{Parted, part, times-append}
use Rattle.xf_tree_walks.proofs.StackLemmas.{stack, visits-append, parted-ancestors, still-shut, le-from}
use Rattle.xf_tree_walks.proofs.StepLemmas.{steps-parts}
use Rattle.xf_tree_walks.proofs.PlaceLemmas.{tree-size, below-is, stands}
use Rattle.xf_tree_walks.proofs.ParentLemmas.{opened, stack-opened, parent-means}
use Rattle.xf_tree_walks.proofs.KidLemmas.{kids, kids-append, node_depths, parted-kids}
use Rattle.xf_tree_walks.proofs.AboveLemmas.{above-is, above-inside, child-depth}
use Rattle.xf_tree_walks.proofs.WalkLemmas.{between-first, between-parts, chosen-append, deep-less}

-- ---- the node at a place

pub here-at : (s : Slab Slot) (rows : List Row) (at : ℕ) → at < length rows → StandsAt s rows (number_of_row s rows at) at
here-at s rows at h = record { within = h; number = refl }

pub parted-here : (s : Slab Slot) (rows : List Row) (at : ℕ) → AreNodes s rows → at < length rows
    → Parted (number_of_row s rows at) (map (node_of s) rows) (map (node_of s) (take at rows)) (node_of s (get_or rows at no_row)) (map (node_of s) (drop (at + 1) rows))
parted-here s rows at nodes h = stands s (number_of_row s rows at) at rows (here-at s rows at h) (nodes.apart (number_of_row s rows at))

-- the visit of the node at a place
abbrev pub visit_at : Slab Slot → List Row → ℕ → Visit
visit_at s rows at = visit (stack [] (map (node_of s) (take at rows))) (node_of s (get_or rows at no_row))

opened-rows : (s : Slab Slot) (d : ℕ) (ys : List Row) → still_above d (opened (map (node_of s) ys)) ≡ map (node_of s) (climbed d ys)
opened-rows s d [] = refl
opened-rows s d (y ∷ ys) = elim (cases_Bool (nat_lt y.depth d)) [
  | inl e ↦ rw e (ap (λ l. node_of s y ∷ l) (opened-rows s y.depth ys))
  | inr e ↦ rw e (still-shut d y.depth (opened (map (node_of s) ys)) (le-of e) ∙ opened-rows s d ys)
]
  where
    le-of : nat_lt y.depth d ≡ false → d ≤ y.depth
    le-of e = le-from y.depth d e

pub stack-is : (us : List Node) → stack [] us ≡ opened (reverse us)
stack-is us = stack-opened [] us ∙ ap opened (append-nil (reverse us))

-- what is above it are the rows that are less and less deep
pub above-rows : (s : Slab Slot) (rows : List Row) (at : ℕ) → at < length rows → (visit_at s rows at).above ≡ numbers (map (node_of s) (ancestor_rows rows at))
above-rows s rows at h =
    let f = node_of s in
    let us = take at rows in
    let x = get_or rows at no_row in
    let now_open : stack [] (map f us) ≡ opened (map f (reverse us)) = stack-is (map f us) ∙ ap opened (sym (map-reverse f us)) in
    let top : x.depth ≡ top_depth (drop at rows) = sym (ap top_depth (split-at at rows no_row h)) in
    ap (λ l. numbers (still_above x.depth l)) now_open ∙ ap numbers (opened-rows s x.depth (reverse us)) ∙ ap (λ d. numbers (map f (climbed d (reverse us)))) top

pub first-is : (s : Slab Slot) (rows : List Row) (at : ℕ) → AreNodes s rows → at < length rows → first_of (visit_at s rows at).above ≡ number_at s rows (parent_row_of rows at)
first-is s rows at nodes h =
    let n = number_of_row s rows at in
    sym (ap first_of (parted-ancestors n _ _ _ _ (parted-here s rows at nodes h))) ∙ parent-means s n at rows (here-at s rows at h) (nodes.apart n)

pub first-test : (ns : List ℕ) (m k : ℕ) → first_of ns ≡ Some m → is_first k ns ≡ (k == m)
first-test [] m k e = cc
first-test (n ∷ ns) m k e = let is : n ≡ m = cc in ap (λ j. k == j) is

pub no-first : (ns : List ℕ) (k : ℕ) → first_of ns ≡ None → is_first k ns ≡ false
no-first [] k e = refl
no-first (n ∷ ns) k e = cc

pub same-first : (ns above : List ℕ) (m : ℕ) → first_of ns ≡ Some m → same_parent ns above ≡ is_first m above
same-first [] above m e = cc
same-first (n ∷ ns) above m e = let is : n ≡ m = cc in ap (λ j. is_first j above) is

pub same-none : (ns above : List ℕ) → first_of ns ≡ None → same_parent ns above ≡ false
same-none [] above e = refl
same-none (n ∷ ns) above e = cc

-- ---- right below a node

pub depths-of : (s : Slab Slot) (xs : List Row) → node_depths (map (node_of s) xs) ≡ depths xs
depths-of s [] = refl
depths-of s (x ∷ xs) = ap (λ l. x.depth ∷ l) (depths-of s xs)

pub tree-between : (at : ℕ) (rows : List Row) → at < length rows
    → take (deeper (get_or rows at no_row).depth (drop (at + 1) rows)) (drop (at + 1) rows) ≡ between (at + 1) (at + length (tree_of (drop at rows))) rows
tree-between at rows h =
    let size = tree-size at rows h in
    let e : deeper (get_or rows at no_row).depth (drop (at + 1) rows) ≡ at + length (tree_of (drop at rows)) - (at + 1) = omega arith in
    ap (λ n. take n (drop (at + 1) rows)) e

pub kids-below : (q : Content → Bool) (s : Slab Slot) (rows : List Row) (at : ℕ) → AreNodes s rows → at < length rows
    → kids q (number_of_row s rows at) (visits (map (node_of s) rows))
    ≡ chosen s (is_kid q ((get_or rows at no_row).depth + 1)) (between (at + 1) (at + length (tree_of (drop at rows))) rows)
kids-below q s rows at nodes h =
    let x = get_or rows at no_row in
    let later = drop (at + 1) rows in
    let n = number_of_row s rows at in
    let steps : AreSteps 0 (node_depths (map (node_of s) rows)) = subst (AreSteps 0) (sym (depths-of s rows)) nodes.steps in
    let d : suc x.depth ≡ x.depth + 1 = omega arith in
    parted-kids q n 0 _ _ _ _ (parted-here s rows at nodes h) steps
    ∙ ap (λ l. numbers (filter (is_kid q (suc x.depth)) l)) (below-is s x.depth later ∙ ap (map (node_of s)) (tree-between at rows h))
    ∙ ap (λ e. chosen s (is_kid q e) (between (at + 1) (at + length (tree_of (drop at rows))) rows)) d

-- ---- beside a node

below-all : (s : Slab Slot) (d : ℕ) (xs : List Row) → AllDeep (suc d) xs → below d (map (node_of s) xs) ≡ map (node_of s) xs
below-all s d [] all = refl
below-all s d (x ∷ xs) all = let l : d < x.depth = omega (arith, all.0) in rw (lt-true d x.depth l) (ap (λ l. node_of s x ∷ l) (below-all s d xs all.1))

times-front : (s : Slab Slot) (n at : ℕ) (rows : List Row) → times n (map (node_of s) rows) ≤ 1 → times n (map (node_of s) (take at rows)) ≤ 1
times-front s n at rows few =
    let e = ap (λ l. times n (map (node_of s) l)) (sym (take-append-drop at rows)) ∙ ap (times n) (map-append (node_of s) (take at rows) (drop at rows)) ∙ times-append n (map (node_of s) (take at rows)) (map (node_of s) (drop at rows)) in
    omega arith

steps-front : (s : Slab Slot) (at : ℕ) (rows : List Row) → AreSteps 0 (depths rows) → AreSteps 0 (node_depths (map (node_of s) (take at rows)))
steps-front s at rows steps =
    let e : depths rows ≡ depths (take at rows) ++ depths (drop at rows) = ap depths (sym (take-append-drop at rows)) ∙ map-append (λ (r : Row). r.depth) (take at rows) (drop at rows) in
    subst (AreSteps 0) (sym (depths-of s (take at rows))) ((steps-parts 0 (depths (take at rows)) (depths (drop at rows)) (subst (AreSteps 0) e steps)).0)

-- the children of a parent whose contents meet a test, and those before and after the child at a place
pub record Family (q : Content → Bool) (s : Slab Slot) (rows : List Row) (above at : ℕ) : Type 0 where
  pub order : above < at
  pub inside : at < above + length (tree_of (drop above rows))
  pub within : above + length (tree_of (drop above rows)) ≤ length rows
  pub depth : (get_or rows at no_row).depth ≡ (get_or rows above no_row).depth + 1
  pub first : first_of (visit_at s rows at).above ≡ Some (number_of_row s rows above)
  pub whole : kids q (number_of_row s rows above) (visits (map (node_of s) rows))
      ≡ chosen s (is_kid q (get_or rows at no_row).depth) (between (above + 1) (above + length (tree_of (drop above rows))) rows)
  pub split : between (above + 1) (above + length (tree_of (drop above rows))) rows
      ≡ between (above + 1) at rows ++ (get_or rows at no_row ∷ between (at + 1) (above + length (tree_of (drop above rows))) rows)
  pub earlier : kids q (number_of_row s rows above) (visits (map (node_of s) (take at rows))) ≡ chosen s (is_kid q (get_or rows at no_row).depth) (between (above + 1) at rows)

pub family : (q : Content → Bool) (s : Slab Slot) (rows : List Row) (above at : ℕ) → AreNodes s rows → at < length rows → Some above ≡ parent_row_of rows at → Family q s rows above at
family q s rows above at nodes h is =
    let f = node_of s in
    let a = above-is rows above at h is in
    let o = a.order in
    let p = get_or rows above no_row in
    let x = get_or rows at no_row in
    let m = number_of_row s rows above in
    let mid = between (above + 1) at rows in
    let in_rows : above < length rows = omega arith in
    let inside = above-inside rows above at h a in
    let within = tree-within above rows in_rows in
    let depth = child-depth rows above at h nodes.steps a in
    let start : above + 1 ≤ at = omega arith in
    let later : at ≤ above + length (tree_of (drop above rows)) = omega arith in
    let up : above + (at - above) ≡ at = omega arith in
    let least : at ≤ length rows = omega arith in
    let front : take at rows ≡ take above rows ++ (p ∷ mid) =
    ap (λ n. take n rows) (sym up) ∙ take-add above (at - above) rows ∙ ap (λ l. take above rows ++ l) (between-first above at rows o least) in
    let nodes_front : map f (take at rows) ≡ map f (take above rows) ++ (f p ∷ map f mid) = ap (map f) front ∙ map-append f (take above rows) (p ∷ mid) in
    let few : suc p.depth ≤ x.depth = omega arith in
    let parts = part m (map f (take at rows)) (map f (take above rows)) (f p) (map f mid) nodes_front refl (times-front s m at rows (nodes.apart m)) in
    let d : suc p.depth ≡ x.depth = omega arith in
    let e : p.depth + 1 ≡ x.depth = omega arith in
    record {
      order = o;
      inside = inside;
      within = within;
      depth = depth;
      first = first-is s rows at nodes h ∙ ap (number_at s rows) (sym is);
      whole = kids-below q s rows above nodes in_rows ∙ ap (λ k. chosen s (is_kid q k) (between (above + 1) (above + length (tree_of (drop above rows))) rows)) e;
      split = between-parts (above + 1) at (above + length (tree_of (drop above rows))) rows start later
          ∙ ap (λ l. mid ++ l) (between-first at (above + length (tree_of (drop above rows))) rows inside within);
      earlier = parted-kids q m 0 (map f (take at rows)) (map f (take above rows)) (f p) (map f mid) parts (steps-front s at rows nodes.steps)
          ∙ ap (λ l. numbers (filter (is_kid q (suc p.depth)) l)) (below-all s p.depth mid (deep-less x.depth (suc p.depth) mid few a.between))
          ∙ ap (λ k. chosen s (is_kid q k) mid) d;
    }

-- the visits after the node at a place
abbrev pub visits_behind : Slab Slot → List Row → ℕ → List Visit
visits_behind s rows at = visits_from (node_of s (get_or rows at no_row) ∷ still_above (get_or rows at no_row).depth (stack [] (map (node_of s) (take at rows)))) (map (node_of s) (drop (at + 1) rows))

pub visits-split : (s : Slab Slot) (rows : List Row) (at : ℕ) → AreNodes s rows → at < length rows
    → visits (map (node_of s) rows) ≡ visits (map (node_of s) (take at rows)) ++ (visit_at s rows at ∷ visits_behind s rows at)
visits-split s rows at nodes h =
    ap visits (parted-here s rows at nodes h).whole ∙ visits-append [] (map (node_of s) (take at rows)) (node_of s (get_or rows at no_row) ∷ map (node_of s) (drop (at + 1) rows))

pub later-kids : (q : Content → Bool) (s : Slab Slot) (rows : List Row) (above at : ℕ) → AreNodes s rows → at < length rows → Family q s rows above at
    → kids q (number_of_row s rows above) (visits_behind s rows at) ≡ chosen s (is_kid q (get_or rows at no_row).depth) (between (at + 1) (above + length (tree_of (drop above rows))) rows)
later-kids q s rows above at nodes h f =
    let m = number_of_row s rows above in
    let x = get_or rows at no_row in
    let vs = visits (map (node_of s) (take at rows)) in
    let v = visit_at s rows at in
    let ws = visits_behind s rows at in
    let mid = between (above + 1) at rows in
    let rest = between (at + 1) (above + length (tree_of (drop above rows))) rows in
    let test = is_kid q x.depth in
    let one = ap (kids q m) (visits-split s rows at nodes h) ∙ kids-append q m vs (v ∷ ws) ∙ ap (λ l. l ++ kids q m (v ∷ ws)) f.earlier in
    let other = f.whole ∙ ap (chosen s test) f.split ∙ chosen-append s test mid (x ∷ rest) in
    let tail : kids q m (v ∷ ws) ≡ chosen s test (x ∷ rest) = append_cancel_left (chosen s test mid) (kids q m (v ∷ ws)) (chosen s test (x ∷ rest)) (sym one ∙ other) in
    let child : is_first m v.above ≡ true = first-test v.above m m f.first ∙ eq-true m m refl in
    let level : (x.depth == x.depth) ≡ true = eq-true x.depth x.depth refl in
    elim (cases_Bool (q (node_of s x).content)) [
      | inl e ↦
          let both : v.number ∷ kids q m ws ≡ v.number ∷ chosen s test rest = rw (child, level, e) at tail in
          cc
      | inr e ↦ rw (child, level, e) at tail
    ]
