-- Walks over the nodes after a parent, to where a child or an attribute goes.
use Rattle.std.proofs.Common.{◌≡◌, ℕ, zero, suc, ◌+◌, ◌-◌, ◌<◌, ◌≤◌, ◌==◌, ◌&&◌, ◌||◌, not, Bool, true, false, List, [], ◌∷◌, map, length, drop, get_or, nat_lt, refl, sym, ap, ◌∙◌, inl, inr, arith}
use Rattle.std.proofs.lemmas.Bool.{cases_lt, cases_Bool, true≢false, false≢true, and_parts}
use Rattle.slab.specs.Slab.{Slab, get}
use Rattle.xf_def_forest.specs.Forest.{is_attribute}
use Rattle.xf_tree_rows.specs.declared.rows.Row.{Row}
use Rattle.xf_tree_rows.specs.Rows.{deeper, tree_of, after_tree, no_row}
use Rattle.xf_tree_rows.proofs.SizedLemmas.{lt-true, lt-false}
use Rattle.xf_tree_rows.proofs.CutLemmas.{stops-after, tree-within}
use Rattle.xf_tree_rows.proofs.RowLemmas.{split-at}
use Rattle.xf_tree_contents.specs.Slot.{Slot}
use Rattle.xf_tree_contents.specs.Keys.{content_in}
use Rattle.xf_tree_contents.proofs.AlikeLemmas.{eq-true}
use Rattle.xf_tree_walks.specs.Nodes.{node_of, is_kin}
use Rattle.xf_tree_walks.proofs.PlaceLemmas.{tree-size}
use Rattle.xf_tree_walks.proofs.AboveLemmas.{inside-deeper}
use Rattle.xf_tree_walks.proofs.RootLemmas.{past-tree}
use Rattle.xf_tree_walks.proofs.NodeLemmas.{eq-is}
use Rattle.xf_tree_changes.specs.Below.{child_at, attribute_at}

-- rows that are deeper than a child are passed
child-below : (s : Slab Slot) (d e left : ℕ) (xs : List Row) → d ≤ e
    → child_at d left (map (node_of s) xs) ≡ deeper e xs + child_at d left (map (node_of s) (drop (deeper e xs) xs))
child-below s d e left [] h = refl
child-below s d e left (x ∷ xs) h = elim (cases_lt e x.depth) [
  | inl l ↦
      let a : d ≤ x.depth = omega arith in
      let b : d < x.depth = omega arith in
      rw (lt-true e x.depth l, lt-false x.depth d a, lt-true d x.depth b) (omega (arith, child-below s d e left xs h))
  | inr l ↦ rw (lt-false e x.depth l) (omega arith)
]

-- what is no child, with what is below it
passed : (s : Slab Slot) (d left : ℕ) (x : Row) (xs : List Row) → d ≤ x.depth → is_kin d false (node_of s x) ≡ false
    → child_at d left (map (node_of s) (x ∷ xs)) ≡ suc (deeper x.depth xs) + child_at d left (map (node_of s) (drop (deeper x.depth xs) xs))
passed s d left x xs h other =
    rw (lt-false x.depth d h, no_child x.depth (is_attribute (content_in (get s x.key))) h other) (omega (arith, child-below s d x.depth left xs h))
  where
    no_child : (e : ℕ) (b : Bool) → d ≤ e → ((e == d) && not b) ≡ false → (nat_lt d e || b) ≡ true
    no_child e b h other = elim (cases_lt d e) [
      | inl l ↦ rw (lt-true d e l) refl
      | inr l ↦ let same : e ≡ d = omega arith in rw (lt-false d e l) (turned b (rw (eq-true e d same) at other))
    ]
      where
        turned : (b : Bool) → not b ≡ false → b ≡ true
        turned true e = refl
        turned false e = absurd (true≢false e)

not-is : (b : Bool) → not b ≡ true → b ≡ false
not-is true e = absurd (false≢true e)
not-is false e = refl

child-parts : (d e : ℕ) (b : Bool) → ((e == d) && not b) ≡ true → (nat_lt e d ≡ false) × ((nat_lt d e || b) ≡ false)
child-parts d e b is =
    let p = and_parts (e == d) (not b) is in
    let same = eq-is e d p.0 in
    let low : d ≤ e = omega arith in
    let high : e ≤ d = omega arith in
    (lt-false e d low, rw (lt-false d e high) (not-is b p.1))

-- a child of which more are to be passed, with what is below it
counted : (s : Slab Slot) (d left : ℕ) (x : Row) (xs : List Row) → 0 < left → is_kin d false (node_of s x) ≡ true
    → child_at d left (map (node_of s) (x ∷ xs)) ≡ suc (deeper x.depth xs) + child_at d (left - 1) (map (node_of s) (drop (deeper x.depth xs) xs))
counted s d zero x xs h is = absurd (omega arith)
counted s d (suc left) x xs h is =
    let p = child-parts d x.depth (is_attribute (content_in (get s x.key))) is in
    let same = eq-is x.depth d (and_parts (x.depth == d) (not (is_attribute (content_in (get s x.key)))) is).0 in
    let one : suc left - 1 ≡ left = omega arith in
    rw (p.0, p.1, one) (omega (arith, child-below s d x.depth left xs (omega arith)))

-- ---- the same at a place

module _ (s : Slab Slot) (rows : List Row) (d next end : ℕ) (h : next < length rows) (e : end ≡ next + length (tree_of (drop next rows))) where
  abbrev pub x : Row
  x = get_or rows next no_row

  abbrev pub later : List Row
  later = drop (next + 1) rows

  ends : end ≡ next + suc (deeper x.depth later)
  ends = e ∙ ap (λ n. next + n) (tree-size next rows h)

  after : drop end rows ≡ drop (deeper x.depth later) later
  after = past-tree next end rows e ∙ ap after_tree (split-at next rows no_row h)

  pub child-other : (left : ℕ) → d ≤ x.depth → is_kin d false (node_of s x) ≡ false
      → end + child_at d left (map (node_of s) (drop end rows)) ≡ next + child_at d left (map (node_of s) (drop next rows))
  child-other left low other =
      let a = ap (λ l. child_at d left (map (node_of s) l)) (split-at next rows no_row h) ∙ passed s d left x later low other in
      let b = ap (λ l. child_at d left (map (node_of s) l)) after in
      omega (arith, a, b, ends)

  pub child-more : (left : ℕ) → 0 < left → is_kin d false (node_of s x) ≡ true
      → end + child_at d (left - 1) (map (node_of s) (drop end rows)) ≡ next + child_at d left (map (node_of s) (drop next rows))
  child-more left some is =
      let a = ap (λ l. child_at d left (map (node_of s) l)) (split-at next rows no_row h) ∙ counted s d left x later some is in
      let b = ap (λ l. child_at d (left - 1) (map (node_of s) l)) after in
      omega (arith, a, b, ends)

  pub child-here : is_kin d false (node_of s x) ≡ true → child_at d 0 (map (node_of s) (drop next rows)) ≡ 0
  child-here is =
      let p = child-parts d x.depth (is_attribute (content_in (get s x.key))) is in
      ap (λ l. child_at d 0 (map (node_of s) l)) (split-at next rows no_row h) ∙ rw (p.0, p.1) refl

  pub child-none : (left : ℕ) → d ≡ suc x.depth → child_at d left (map (node_of s) (drop end rows)) ≡ 0
  child-none left deep = ap (λ l. child_at d left (map (node_of s) l)) after ∙ none left (drop (deeper x.depth later) later) (stops-after x.depth later)
    where
      none : (left : ℕ) (xs : List Row) → deeper x.depth xs ≡ 0 → child_at d left (map (node_of s) xs) ≡ 0
      none left [] stops = refl
      none left (y ∷ ys) stops = elim (cases_lt x.depth y.depth) [
        | inl l ↦ absurd (let z : suc (deeper x.depth ys) ≡ 0 = rw (lt-true x.depth y.depth l) at stops in omega arith)
        | inr l ↦ let m : y.depth < d = omega arith in rw (lt-true y.depth d m) refl
      ]

-- a row not deeper than the one at a place ends the tree there
pub ends-low : (rows : List Row) (above end : ℕ) → above < length rows → end ≡ above + length (tree_of (drop above rows)) → end < length rows
    → (get_or rows end no_row).depth ≤ (get_or rows above no_row).depth
ends-low rows above end h e l =
    let x = get_or rows above no_row in
    let y = get_or rows end no_row in
    let later = drop (above + 1) rows in
    let a : drop end rows ≡ drop (deeper x.depth later) later = past-tree above end rows e ∙ ap after_tree (split-at above rows no_row h) in
    let stops : deeper x.depth (y ∷ drop (end + 1) rows) ≡ 0 = ap (deeper x.depth) (sym (split-at end rows no_row l) ∙ a) ∙ stops-after x.depth later in
    elim (cases_lt x.depth y.depth) [
      | inl m ↦ absurd (let z : suc (deeper x.depth (drop (end + 1) rows)) ≡ 0 = rw (lt-true x.depth y.depth m) at stops in omega arith)
      | inr m ↦ m
    ]

-- the tree of a row within another tree ends within it
pub tree-inside : (rows : List Row) (above next : ℕ) → above < next → next < length rows → next < above + length (tree_of (drop above rows))
    → next + length (tree_of (drop next rows)) ≤ above + length (tree_of (drop above rows))
tree-inside rows above next o h inside =
    let last = above + length (tree_of (drop above rows)) in
    let end = next + length (tree_of (drop next rows)) in
    let in_rows : above < length rows = omega arith in
    let most = tree-within next rows h in
    elim (cases_lt last end) [
      | inl l ↦
          absurd (
          let last_rows : last < length rows = omega arith in
          let low = ends-low rows above last in_rows refl last_rows in
          let one = inside-deeper rows above next o h inside in
          let two = inside-deeper rows next last inside last_rows l in
          omega arith
          )
      | inr l ↦ l
    ]

-- ---- attributes

-- where none is to be passed
pub attribute-here : (s : Slab Slot) (d : ℕ) (xs : List Row) → attribute_at d 0 (map (node_of s) xs) ≡ 0
attribute-here s d [] = refl
attribute-here s d (x ∷ xs) = elim (cases_Bool ((x.depth == d) && is_attribute (content_in (get s x.key)))) [ inl e ↦ rw e refl | inr e ↦ rw e refl ]
