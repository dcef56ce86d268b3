-- Walks over what stands right below a row, and what they count.
use Rattle.std.proofs.Common.{◌≡◌, ℕ, suc, ◌+◌, ◌-◌, ◌<◌, ◌≤◌, ◌==◌, Bool, false, cond, List, [], ◌∷◌, ◌++◌, map, length, take, drop, get_or, refl, sym, ap, ◌∙◌, inl, inr, arith, take-add}
use Rattle.std.specs.Prelude.{count_by}
use Rattle.std.proofs.lemmas.Bool.{cases_lt}
use Rattle.std.proofs.lemmas.List.{take-append-drop, map-append, drop-drop, take-take}
use Rattle.slab.specs.Slab.{Slab}
use Rattle.xf_def_forest.specs.declared.content.Content.{Content}
use Rattle.xf_tree_rows.specs.declared.rows.Row.{Row}
use Rattle.xf_tree_rows.specs.Rows.{deeper, tree_of, after_tree, no_row, AllDeep}
use Rattle.xf_tree_rows.proofs.SizedLemmas.{lt-true}
use Rattle.xf_tree_rows.proofs.CutLemmas.{tree-is-front, tree-within, stops-after}
use Rattle.xf_tree_rows.proofs.ParentLemmas.{deep-prefix}
use Rattle.xf_tree_rows.proofs.RowLemmas.{split-at}
use Rattle.xf_tree_contents.specs.Slot.{Slot}
use Rattle.xf_tree_walks.specs.Nodes.{node_of}
use Rattle.xf_tree_walks.specs.Kids.{is_kid, kids_in, kids_at}
use Rattle.xf_tree_walks.proofs.CountLemmas.{count-append, count-cons}
use Rattle.xf_tree_walks.proofs.NodeLemmas.{eq-false}
use Rattle.xf_tree_walks.proofs.PlaceLemmas.{tree-size}
use Rattle.xf_tree_walks.proofs.AboveLemmas.{inside-deeper}
use Rattle.xf_tree_walks.proofs.RootLemmas.{past-tree}

-- ---- one row of a walk

kid-none : (q : Content → Bool) (s : Slab Slot) (d : ℕ) (xs : List Row) → AllDeep (suc d) xs → kids_in q s d xs ≡ 0
kid-none q s d [] all = refl
kid-none q s d (x ∷ xs) all =
    let no : (x.depth == d) ≡ false = eq-false x.depth d (λ e. let z : ⊥ = omega (arith, all.0) in z) in
    count-cons (is_kid q d) (node_of s x) (map (node_of s) xs) ∙ rw no (omega (arith, kid-none q s d xs all.1))

kid-append : (q : Content → Bool) (s : Slab Slot) (d : ℕ) (xs ys : List Row) → kids_in q s d (xs ++ ys) ≡ kids_in q s d xs + kids_in q s d ys
kid-append q s d xs ys = ap (count_by (is_kid q d)) (map-append (node_of s) xs ys) ∙ count-append (is_kid q d) (map (node_of s) xs) (map (node_of s) ys)

deep-less : (d e : ℕ) (xs : List Row) → e ≤ d → AllDeep d xs → AllDeep e xs
deep-less d e [] h all = tt
deep-less d e (x ∷ xs) h all = (omega (arith, all.0), deep-less d e xs h all.1)

-- with the tree at a place one row more is counted
kid-skip : (q : Content → Bool) (s : Slab Slot) (d : ℕ) (rows : List Row) (from next end : ℕ) → from ≤ next → next < length rows → end ≡ next + length (tree_of (drop next rows))
    → d ≤ (get_or rows next no_row).depth
    → kids_in q s d (take (end - from) (drop from rows)) ≡ kids_in q s d (take (next - from) (drop from rows)) + cond (is_kid q d (node_of s (get_or rows next no_row))) 1 0
kid-skip q s d rows from next end h l e deep =
    let x = get_or rows next no_row in
    let xs = drop (next + 1) rows in
    let n = length (tree_of (drop next rows)) in
    let rest = take (deeper x.depth xs) xs in
    let sp = split-at next rows no_row l in
    let sum : end - from ≡ (next - from) + n = omega arith in
    let back : from + (next - from) ≡ next = omega arith in
    let part : take (end - from) (drop from rows) ≡ take (next - from) (drop from rows) ++ (x ∷ rest) =
    ap (λ k. take k (drop from rows)) sum ∙ take-add (next - from) n (drop from rows)
    ∙ ap (λ z. take (next - from) (drop from rows) ++ take n z) (drop-drop (next - from) from rows ∙ ap (λ k. drop k rows) back)
    ∙ ap (λ z. take (next - from) (drop from rows) ++ z) ((tree-is-front (drop next rows) n refl).0 ∙ ap tree_of sp) in
    let few : deeper x.depth xs ≤ deeper x.depth xs = omega arith in
    let all = deep-prefix x.depth (deeper x.depth xs) xs few in
    let none = kid-none q s d rest (deep-less (x.depth + 1) (suc d) rest (omega arith) all) in
    let c = count-cons (is_kid q d) (node_of s x) (map (node_of s) rest) in
    ap (kids_in q s d) part ∙ kid-append q s d (take (next - from) (drop from rows)) (x ∷ rest) ∙ (omega (arith, c, none))

-- ---- a tree within a tree

-- a row that ends a tree is not deeper than its top
ends-low : (rows : List Row) (above end : ℕ) → above < length rows → end ≡ above + length (tree_of (drop above rows)) → end < length rows
    → (get_or rows end no_row).depth ≤ (get_or rows above no_row).depth
ends-low rows above end h e l =
    let x = get_or rows above no_row in
    let y = get_or rows end no_row in
    let later = drop (above + 1) rows in
    let a : drop end rows ≡ drop (deeper x.depth later) later = past-tree above end rows e ∙ ap after_tree (split-at above rows no_row h) in
    let stops : deeper x.depth (y ∷ drop (end + 1) rows) ≡ 0 = ap (deeper x.depth) (sym (split-at end rows no_row l) ∙ a) ∙ stops-after x.depth later in
    elim (cases_lt x.depth y.depth) [
      | inl m ↦ absurd (let z : suc (deeper x.depth (drop (end + 1) rows)) ≡ 0 = rw (lt-true x.depth y.depth m) at stops in omega arith)
      | inr m ↦ m
    ]

-- the tree of a row within another tree ends within it
pub tree-inside : (rows : List Row) (above next : ℕ) → above < next → next < length rows → next < above + length (tree_of (drop above rows))
    → next + length (tree_of (drop next rows)) ≤ above + length (tree_of (drop above rows))
tree-inside rows above next o h inside =
    let last = above + length (tree_of (drop above rows)) in
    let end = next + length (tree_of (drop next rows)) in
    let in_rows : above < length rows = omega arith in
    let most = tree-within next rows h in
    elim (cases_lt last end) [
      | inl l ↦
          absurd (
          let last_rows : last < length rows = omega arith in
          let low = ends-low rows above last in_rows refl last_rows in
          let one = inside-deeper rows above next o h inside in
          let two = inside-deeper rows next last inside last_rows l in
          omega arith
          )
      | inr l ↦ l
    ]

-- ---- the walk over a tree

-- from one row below the top to the next one
pub record Step (q : Content → Bool) (s : Slab Slot) (rows : List Row) (above next end last : ℕ) : Type 0 where
  pub within : next < length rows
  pub inside : end ≤ last
  pub count : kids_in q s (suc (get_or rows above no_row).depth) (take (end - (above + 1)) (drop (above + 1) rows))
      ≡ kids_in q s (suc (get_or rows above no_row).depth) (take (next - (above + 1)) (drop (above + 1) rows)) + cond (is_kid q (suc (get_or rows above no_row).depth) (node_of s (get_or rows next no_row))) 1 0
  pub most : kids_in q s (suc (get_or rows above no_row).depth) (take (end - (above + 1)) (drop (above + 1) rows)) ≤ kids_at q s rows above

-- as many rows as a walk has passed hold no more of them than all
pub kids-so_far : (q : Content → Bool) (s : Slab Slot) (rows : List Row) (above next : ℕ) → above < length rows → above + 1 ≤ next → next ≤ above + length (tree_of (drop above rows))
    → kids_in q s (suc (get_or rows above no_row).depth) (take (next - (above + 1)) (drop (above + 1) rows)) ≤ kids_at q s rows above
kids-so_far q s rows above next h first last =
    let x = get_or rows above no_row in
    let later = drop (above + 1) rows in
    let k = next - (above + 1) in
    let wide = deeper x.depth later in
    let size = tree-size above rows h in
    let few : k ≤ wide = omega arith in
    let whole : take wide later ≡ take k later ++ drop k (take wide later) = sym (take-append-drop k (take wide later)) ∙ ap (λ l. l ++ drop k (take wide later)) (take-take k wide later few) in
    let sum = ap (kids_in q s (suc x.depth)) whole ∙ kid-append q s (suc x.depth) (take k later) (drop k (take wide later)) in
    omega arith

pub kid-step : (q : Content → Bool) (s : Slab Slot) (rows : List Row) (above next end last : ℕ) → above < length rows → above + 1 ≤ next → next < last → last ≡ above + length (tree_of (drop above rows))
    → end ≡ next + length (tree_of (drop next rows)) → Step q s rows above next end last
kid-step q s rows above next end last h first inside l e =
    let most = tree-within above rows h in
    let within : next < length rows = omega arith in
    let below : above < next = omega arith in
    let in_tree : next < above + length (tree_of (drop above rows)) = omega arith in
    let deep = inside-deeper rows above next below within in_tree in
    let size = tree-size next rows within in
    let ends = tree-inside rows above next below within in_tree in
    let start : above + 1 ≤ end = omega arith in
    let stop : end ≤ above + length (tree_of (drop above rows)) = omega arith in
    record {
      within = within;
      inside = omega arith;
      count = kid-skip q s (suc (get_or rows above no_row).depth) rows (above + 1) next end first within e (omega arith);
      most = kids-so_far q s rows above end h start stop;
    }
