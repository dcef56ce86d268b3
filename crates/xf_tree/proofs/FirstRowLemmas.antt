-- Attributes stand first: the rows without a tree, a tree of them, and where a tree comes in.
use Rattle.std.proofs.Common.{◌≡◌, ℕ, zero, suc, ◌+◌, ◌-◌, ◌<◌, ◌≤◌, ◌==◌, ◌&&◌, ◌||◌, ◌⊎◌, true, false, List, [], ◌∷◌, map, length, take, drop, get_or, nat_lt, refl, sym, ap, ◌∙◌, subst, inl, inr, arith}
use Rattle.std.proofs.lemmas.Bool.{cases_Bool, true≢false, and_parts, or_parts}
use Rattle.slab.specs.Slab.{Slab, get}
use Rattle.xf_def_forest.specs.declared.content.Content.{Content}
use Rattle.xf_def_forest.specs.Changes.{shifted, at_place}
use Rattle.xf_def_forest.specs.Forest.{is_attribute}
use Rattle.xf_tree_rows.specs.declared.rows.Row.{Row}
use Rattle.xf_tree_rows.specs.Rows.{deeper, tree_of, no_row, AllDeep}
use Rattle.xf_tree_rows.proofs.RowLemmas.{split-at}
use Rattle.xf_tree_rows.proofs.ParentLemmas.{deep-prefix}
use Rattle.xf_tree_contents.specs.Slot.{Slot}
use Rattle.xf_tree_contents.specs.Keys.{content_in}
use Rattle.xf_tree_walks.specs.Leaves.{parts_in, NotDeeper, AreLeaves}
use Rattle.xf_tree_walks.specs.First.{attribute_depth, AreFirst}
use Rattle.xf_tree_walks.specs.Nodes.{node_of}
use Rattle.xf_tree_walks.proofs.FirstLemmas.{depth_behind, first-shifted, behind-deep, attribute-behind}
use Rattle.xf_tree_walks.proofs.NodeLemmas.{eq-is}
use Rattle.xf_tree_walks.proofs.StackLemmas.{lt-from, le-from}
use Rattle.xf_tree_changes.specs.Below.{child_at, attribute_at, part_at}
use Rattle.xf_tree_changes.proofs.PartLemmas.{attribute-leaf}
use Rattle.xf_tree_changes.proofs.FirstRowLemmas.{tree-below, without-tree}

-- the tree at a place, where its top may stand at this depth
pub tree-first : (s : Slab Slot) (at to e : ℕ) (old : List Row) → at < length old → (is_attribute (content_in (get s (get_or old at no_row).key)) ≡ true → 0 < to → to ≡ e) → AreFirst 0 (parts_in (map (node_of s) old))
    → AreFirst e (parts_in (map (shifted (get_or old at no_row).depth to) (map (node_of s) (tree_of (drop at old)))))
tree-first s at to e old h may first =
    let f = node_of s in
    let x = get_or old at no_row in
    let xs = drop (at + 1) old in
    let rest = map f (take (deeper x.depth xs) xs) in
    let top : is_attribute (f x).content ≡ true → 0 < to + (x.depth - x.depth) → to + (x.depth - x.depth) ≡ e = λ is pos. let m = may is (omega arith) in omega arith in
    let low : x.depth ≤ x.depth = omega arith in
    subst (λ l. AreFirst e (parts_in (map (shifted x.depth to) (map f (tree_of l))))) (sym (split-at at old no_row h))
    (first-shifted x.depth to (depth_behind 0 (parts_in (map f (take at old)))) e (f x) rest top low (tree-below s x.depth xs) (without-tree s at old h first).1)

-- an attribute's tree is itself
pub attribute-tree : (s : Slab Slot) (at d e : ℕ) (old : List Row) → at < length old → (get_or old at no_row).depth ≡ 0 → is_attribute (content_in (get s (get_or old at no_row).key)) ≡ true
    → AreLeaves (parts_in (map (node_of s) (tree_of (drop at old)))) → depth_behind e (parts_in (map (shifted 0 d) (map (node_of s) (tree_of (drop at old))))) ≡ d
attribute-tree s at d e old h top is leaves =
    let f = node_of s in
    let x = get_or old at no_row in
    let xs = drop (at + 1) old in
    let c = content_in (get s x.key) in
    let sp = split-at at old no_row h in
    let few : deeper x.depth xs ≤ deeper x.depth xs = omega arith in
    let own = subst (λ l. AreLeaves (parts_in (map f (tree_of l)))) sp leaves in
    let none = alone x.depth (take (deeper x.depth xs) xs) (deep-prefix x.depth (deeper x.depth xs) xs few) (own.0 (attribute-leaf c is)) in
    let depth : d + (x.depth - 0) ≡ d = omega arith in
    ap (λ l. depth_behind e (parts_in (map (shifted 0 d) (map f (tree_of l))))) sp ∙ ap (λ l. depth_behind e (parts_in (map (shifted 0 d) (map f (x ∷ l))))) none ∙ attribute-behind (d + (x.depth - 0)) c is ∙ depth
  where
    alone : (n : ℕ) (rows : List Row) → AllDeep (n + 1) rows → NotDeeper n (parts_in (map (node_of s) rows)) → rows ≡ []
    alone n [] deep low = refl
    alone n (r ∷ rs) deep low = absurd (let l = deep.0 in let w : ⊥ = omega arith in w)

module _ (s : Slab Slot) where
  abbrev parts : List Row → List (ℕ × Content)
  parts rows = parts_in (map (node_of s) rows)

  -- where a child goes, no attribute of the parent follows
  child-first : (d place e : ℕ) (xs : List Row) → (e ≡ 0) ⊎ (d ≤ e) → AreFirst e (parts xs) → AreFirst 0 (parts (drop (child_at d place (map (node_of s) xs)) xs))
  child-first d place e [] h a = tt
  child-first d place e (x ∷ xs) h a =
      let c = content_in (get s x.key) in
      elim (cases_Bool (nat_lt x.depth d)) [
        | inl b ↦ rw b ((λ is pos. absurd (let is_e = a.0 is pos in let l = lt-from x.depth d b in let w : ⊥ = elim h [ inl z ↦ omega arith | inr m ↦ omega arith ] in w)), a.1)
        | inr b ↦ elim (cases_Bool (nat_lt d x.depth || is_attribute c)) [
          | inl o ↦ rw (b, o) (child-first d place (attribute_depth x.depth c) xs (behind-deep d x.depth c (le-from x.depth d b)) a.1)
          | inr o ↦ rw (b, o) (child place ((λ is pos. absurd (true≢false (sym is ∙ (or_parts (nat_lt d x.depth) (is_attribute c) o).1))), a.1)
              (λ left. child-first d left (attribute_depth x.depth c) xs (behind-deep d x.depth c (le-from x.depth d b)) a.1))
        ]
      ]
    where
      child : (place : ℕ) → AreFirst 0 (parts (x ∷ xs)) → ((left : ℕ) → AreFirst 0 (parts (drop (child_at d left (map (node_of s) xs)) xs)))
          → AreFirst 0 (parts (drop (at_place place 0 (λ left. suc (child_at d left (map (node_of s) xs)))) (x ∷ xs)))
      child zero here later = here
      child (suc left) here later = later left

  -- where an attribute goes, an attribute may stand
  attribute-first : (d place e : ℕ) (xs : List Row) → e ≡ d → depth_behind e (parts (take (attribute_at d place (map (node_of s) xs)) xs)) ≡ d
  attribute-first d place e [] same = same
  attribute-first d place e (x ∷ xs) same =
      let c = content_in (get s x.key) in
      elim (cases_Bool ((x.depth == d) && is_attribute c)) [
        | inl a ↦
            let p = and_parts (x.depth == d) (is_attribute c) a in
            rw a (here place (λ left. attribute-first d left (attribute_depth x.depth c) xs (attribute-behind x.depth c p.1 ∙ eq-is x.depth d p.0)))
        | inr a ↦ rw a same
      ]
    where
      here : (place : ℕ) → ((left : ℕ) → depth_behind (attribute_depth x.depth (content_in (get s x.key))) (parts (take (attribute_at d left (map (node_of s) xs)) xs)) ≡ d)
          → depth_behind e (parts (take (at_place place 0 (λ left. suc (attribute_at d left (map (node_of s) xs)))) (x ∷ xs))) ≡ d
      here zero later = same
      here (suc left) later = later left

  pub part-first : (d place e : ℕ) (c : Content) (xs : List Row) → (is_attribute c ≡ true → e ≡ d) → (e ≡ 0) ⊎ (d ≤ e) → AreFirst e (parts xs)
      → (is_attribute c ≡ true → depth_behind e (parts (take (part_at d place c (map (node_of s) xs)) xs)) ≡ d)
      × (is_attribute c ≡ false → AreFirst 0 (parts (drop (part_at d place c (map (node_of s) xs)) xs)))
  part-first d place e c xs same h a = (
    (λ is. rw is (attribute-first d place e xs (same is))),
    (λ other. rw other (child-first d place e xs h a)),
  )
