-- Where a tree goes among the nodes after a parent: what stands before the place and after it.
use Rattle.std.proofs.Common.{◌≡◌, ℕ, zero, suc, ◌<◌, ◌≤◌, ◌==◌, ◌&&◌, ◌||◌, true, List, [], ◌∷◌, ◌++◌, map, length, take, drop, nat_lt, if◌then◌else◌, append-nil, refl, sym, ap, subst, inl, inr, arith}
use Rattle.std.proofs.lemmas.Bool.{cases_lt, cases_Bool, true≢false, and_parts, or_parts}
use Rattle.slab.specs.Slab.{Slab, get}
use Rattle.xf_def_forest.specs.declared.content.Node.{Node}
use Rattle.xf_def_forest.specs.declared.content.Content.{Content}
use Rattle.xf_def_forest.specs.declared.content.Content.TheVariants.{Root, Element, Attribute, Text}
use Rattle.xf_def_forest.specs.Changes.{at_place, moved_to, with_child, with_attribute, with_part}
use Rattle.xf_def_forest.specs.Forest.{is_attribute}
use Rattle.xf_tree_rows.specs.declared.rows.Row.{Row}
use Rattle.xf_tree_rows.specs.Rows.{deeper, AllDeep}
use Rattle.xf_tree_rows.proofs.SizedLemmas.{lt-true, lt-false}
use Rattle.xf_tree_contents.specs.Slot.{Slot}
use Rattle.xf_tree_contents.specs.Keys.{content_in}
use Rattle.xf_tree_walks.specs.Leaves.{is_leaf, parts_in, NotDeeper, AreLeaves}
use Rattle.xf_tree_walks.specs.Nodes.{node_of}
use Rattle.xf_tree_walks.proofs.NodeLemmas.{eq-false, eq-is}
use Rattle.xf_tree_walks.proofs.StackLemmas.{lt-from, le-from}
use Rattle.xf_tree_changes.specs.Below.{child_at, attribute_at, part_at}

-- what the test of an attribute says
pub attribute-leaf : (c : Content) → is_attribute c ≡ true → is_leaf c ≡ true
attribute-leaf Root e = absurd (true≢false (sym e))
attribute-leaf (Element name) e = absurd (true≢false (sym e))
attribute-leaf (Attribute name text) e = refl
attribute-leaf (Text text) e = refl

lowest : (d e n : ℕ) → e ≤ d → (if nat_lt d e then suc n else 0) ≡ 0
lowest d e n h = rw (lt-false d e h) refl

-- ---- the place on a list of nodes

-- what is so of the nodes behind a child or an attribute, whatever the place there, is so with it in front
place-is : (place : ℕ) (tree : List Node) (y : Node) (ys : List Node) (nodes : ℕ → List Node) (at : ℕ → ℕ) → ((left : ℕ) → nodes left ≡ take (at left) ys ++ (tree ++ drop (at left) ys))
    → at_place place (tree ++ (y ∷ ys)) (λ left. y ∷ nodes left)
    ≡ take (at_place place 0 (λ left. suc (at left))) (y ∷ ys) ++ (tree ++ drop (at_place place 0 (λ left. suc (at left))) (y ∷ ys))
place-is zero tree y ys nodes at later = refl
place-is (suc left) tree y ys nodes at later = ap (λ l. y ∷ l) (later left)

child-is : (d place : ℕ) (tree ys : List Node) → with_child d place tree ys ≡ take (child_at d place ys) ys ++ (tree ++ drop (child_at d place ys) ys)
child-is d place tree [] = sym (append-nil tree)
child-is d place tree (y ∷ ys) = elim (cases_Bool (nat_lt y.depth d)) [
  | inl a ↦ rw a refl
  | inr a ↦ elim (cases_Bool (nat_lt d y.depth || is_attribute y.content)) [
    | inl b ↦ rw (a, b) (ap (λ l. y ∷ l) (child-is d place tree ys))
    | inr b ↦ rw (a, b) (place-is place tree y ys (λ left. with_child d left tree ys) (λ left. child_at d left ys) (λ left. child-is d left tree ys))
  ]
]

attribute-is : (d place : ℕ) (tree ys : List Node) → with_attribute d place tree ys ≡ take (attribute_at d place ys) ys ++ (tree ++ drop (attribute_at d place ys) ys)
attribute-is d place tree [] = sym (append-nil tree)
attribute-is d place tree (y ∷ ys) = elim (cases_Bool ((y.depth == d) && is_attribute y.content)) [
  | inl a ↦ rw a (place-is place tree y ys (λ left. with_attribute d left tree ys) (λ left. attribute_at d left ys) (λ left. attribute-is d left tree ys))
  | inr a ↦ rw a refl
]

pub part-is : (d place : ℕ) (x : Node) (xs ys : List Node)
    → with_part d place (x ∷ xs) ys ≡ take (part_at d place x.content ys) ys ++ (moved_to d (x ∷ xs) ++ drop (part_at d place x.content ys) ys)
part-is d place x xs ys = elim (cases_Bool (is_attribute x.content)) [
  | inl a ↦ rw a (attribute-is d place (moved_to d (x ∷ xs)) ys)
  | inr a ↦ rw a (child-is d place (moved_to d (x ∷ xs)) ys)
]

-- ---- the place on rows

module _ (s : Slab Slot) where
  abbrev nodes : List Row → List Node
  nodes rows = map (node_of s) rows

  -- it is among them
  place-within : (place n : ℕ) (at : ℕ → ℕ) → ((left : ℕ) → at left ≤ n) → at_place place 0 (λ left. suc (at left)) ≤ suc n
  place-within zero n at later = omega arith
  place-within (suc left) n at later = omega (arith, later left)

  child-within : (d place : ℕ) (ys : List Node) → child_at d place ys ≤ length ys
  child-within d place [] = omega arith
  child-within d place (y ∷ ys) = elim (cases_Bool (nat_lt y.depth d)) [
    | inl a ↦ rw a (omega arith)
    | inr a ↦ elim (cases_Bool (nat_lt d y.depth || is_attribute y.content)) [
      | inl b ↦ rw (a, b) (omega (arith, child-within d place ys))
      | inr b ↦ rw (a, b) (place-within place (length ys) (λ left. child_at d left ys) (λ left. child-within d left ys))
    ]
  ]

  attribute-within : (d place : ℕ) (ys : List Node) → attribute_at d place ys ≤ length ys
  attribute-within d place [] = omega arith
  attribute-within d place (y ∷ ys) = elim (cases_Bool ((y.depth == d) && is_attribute y.content)) [
    | inl a ↦ rw a (place-within place (length ys) (λ left. attribute_at d left ys) (λ left. attribute-within d left ys))
    | inr a ↦ rw a (omega arith)
  ]

  pub part-within : (d place : ℕ) (c : Content) (ys : List Node) → part_at d place c ys ≤ length ys
  part-within d place c ys = elim (cases_Bool (is_attribute c)) [
    | inl a ↦ rw a (attribute-within d place ys)
    | inr a ↦ rw a (child-within d place ys)
  ]

  -- tops that follow change nothing
  place-alike : (place : ℕ) (at other : ℕ → ℕ) → ((left : ℕ) → at left ≡ other left) → at_place place 0 (λ left. suc (at left)) ≡ at_place place 0 (λ left. suc (other left))
  place-alike zero at other later = refl
  place-alike (suc left) at other later = ap suc (later left)

  child-front : (d place : ℕ) (xs ys : List Row) → 0 < d → deeper 0 ys ≡ 0 → child_at d place (nodes (xs ++ ys)) ≡ child_at d place (nodes xs)
  child-front d place [] [] h stops = refl
  child-front d place [] (y ∷ ys) h stops = elim (cases_lt 0 y.depth) [
    | inl l ↦ absurd (let z : suc (deeper 0 ys) ≡ 0 = rw (lt-true 0 y.depth l) at stops in omega arith)
    | inr l ↦ let m : y.depth < d = omega arith in rw (lt-true y.depth d m) refl
  ]
  child-front d place (x ∷ xs) ys h stops = elim (cases_Bool (nat_lt x.depth d)) [
    | inl a ↦ rw a refl
    | inr a ↦ elim (cases_Bool (nat_lt d x.depth || is_attribute (content_in (get s x.key)))) [
      | inl b ↦ rw (a, b) (ap suc (child-front d place xs ys h stops))
      | inr b ↦ rw (a, b) (place-alike place (λ left. child_at d left (nodes (xs ++ ys))) (λ left. child_at d left (nodes xs)) (λ left. child-front d left xs ys h stops))
    ]
  ]

  attribute-front : (d place : ℕ) (xs ys : List Row) → 0 < d → deeper 0 ys ≡ 0 → attribute_at d place (nodes (xs ++ ys)) ≡ attribute_at d place (nodes xs)
  attribute-front d place [] [] h stops = refl
  attribute-front d place [] (y ∷ ys) h stops = elim (cases_lt 0 y.depth) [
    | inl l ↦ absurd (let z : suc (deeper 0 ys) ≡ 0 = rw (lt-true 0 y.depth l) at stops in omega arith)
    | inr l ↦ rw (eq-false y.depth d (λ e. let z : ⊥ = omega arith in z)) refl
  ]
  attribute-front d place (x ∷ xs) ys h stops = elim (cases_Bool ((x.depth == d) && is_attribute (content_in (get s x.key)))) [
    | inl a ↦ rw a (place-alike place (λ left. attribute_at d left (nodes (xs ++ ys))) (λ left. attribute_at d left (nodes xs)) (λ left. attribute-front d left xs ys h stops))
    | inr a ↦ rw a refl
  ]

  pub part-front : (d place : ℕ) (c : Content) (xs ys : List Row) → 0 < d → deeper 0 ys ≡ 0 → part_at d place c (nodes (xs ++ ys)) ≡ part_at d place c (nodes xs)
  part-front d place c xs ys h stops = elim (cases_Bool (is_attribute c)) [
    | inl a ↦ rw a (attribute-front d place xs ys h stops)
    | inr a ↦ rw a (child-front d place xs ys h stops)
  ]

  -- what is passed is below the parent
  place-deep : (d place : ℕ) (x : Row) (xs : List Row) (at : ℕ → ℕ) → d ≤ x.depth → ((left : ℕ) → AllDeep d (take (at left) xs)) → AllDeep d (take (at_place place 0 (λ left. suc (at left))) (x ∷ xs))
  place-deep d zero x xs at h later = tt
  place-deep d (suc left) x xs at h later = (h, later left)

  child-deep : (d place : ℕ) (xs : List Row) → AllDeep d (take (child_at d place (nodes xs)) xs)
  child-deep d place [] = tt
  child-deep d place (x ∷ xs) = elim (cases_Bool (nat_lt x.depth d)) [
    | inl a ↦ rw a tt
    | inr a ↦ elim (cases_Bool (nat_lt d x.depth || is_attribute (content_in (get s x.key)))) [
      | inl b ↦ rw (a, b) (le-from x.depth d a, child-deep d place xs)
      | inr b ↦ rw (a, b) (place-deep d place x xs (λ left. child_at d left (nodes xs)) (le-from x.depth d a) (λ left. child-deep d left xs))
    ]
  ]

  attribute-deep : (d place : ℕ) (xs : List Row) → AllDeep d (take (attribute_at d place (nodes xs)) xs)
  attribute-deep d place [] = tt
  attribute-deep d place (x ∷ xs) =
      let c = content_in (get s x.key) in
      elim (cases_Bool ((x.depth == d) && is_attribute c)) [
        | inl a ↦
            let e = eq-is x.depth d (and_parts (x.depth == d) (is_attribute c) a).0 in
            rw a (place-deep d place x xs (λ left. attribute_at d left (nodes xs)) (omega arith) (λ left. attribute-deep d left xs))
        | inr a ↦ rw a tt
      ]

  pub part-deep : (d place : ℕ) (c : Content) (xs : List Row) → AllDeep d (take (part_at d place c (nodes xs)) xs)
  part-deep d place c xs = elim (cases_Bool (is_attribute c)) [
    | inl a ↦ rw a (attribute-deep d place xs)
    | inr a ↦ rw a (child-deep d place xs)
  ]

  -- what stands at the place is no deeper than what comes there
  pub place-stops : (d place : ℕ) (x : Row) (xs : List Row) (at : ℕ → ℕ) → x.depth ≤ d → ((left : ℕ) → deeper d (drop (at left) xs) ≡ 0) → deeper d (drop (at_place place 0 (λ left. suc (at left))) (x ∷ xs)) ≡ 0
  place-stops d zero x xs at h later = lowest d x.depth (deeper d xs) h
  place-stops d (suc left) x xs at h later = later left

  child-stops : (d place : ℕ) (xs : List Row) → deeper d (drop (child_at d place (nodes xs)) xs) ≡ 0
  child-stops d place [] = refl
  child-stops d place (x ∷ xs) = elim (cases_Bool (nat_lt x.depth d)) [
    | inl a ↦ rw a (lowest d x.depth (deeper d xs) (let l = lt-from x.depth d a in omega arith))
    | inr a ↦ elim (cases_Bool (nat_lt d x.depth || is_attribute (content_in (get s x.key)))) [
      | inl b ↦ rw (a, b) (child-stops d place xs)
      | inr b ↦
          let low = le-from d x.depth (or_parts (nat_lt d x.depth) (is_attribute (content_in (get s x.key))) b).0 in
          rw (a, b) (place-stops d place x xs (λ left. child_at d left (nodes xs)) low (λ left. child-stops d left xs))
    ]
  ]

  attribute-stops : (d place : ℕ) (xs : List Row) → AreLeaves (parts_in (nodes xs)) → NotDeeper d (parts_in (nodes xs)) → deeper d (drop (attribute_at d place (nodes xs)) xs) ≡ 0
  attribute-stops d place [] leaves first = refl
  attribute-stops d place (x ∷ xs) leaves first =
      let c = content_in (get s x.key) in
      elim (cases_Bool ((x.depth == d) && is_attribute c)) [
        | inl a ↦
            let p = and_parts (x.depth == d) (is_attribute c) a in
            let low = subst (λ e. NotDeeper e (parts_in (nodes xs))) (eq-is x.depth d p.0) (leaves.0 (attribute-leaf c p.1)) in
            rw a (place-stops d place x xs (λ left. attribute_at d left (nodes xs)) first (λ left. attribute-stops d left xs leaves.1 low))
        | inr a ↦ rw a (rw (lt-false d x.depth first) refl)
      ]

  pub part-stops : (d place : ℕ) (c : Content) (xs : List Row) → AreLeaves (parts_in (nodes xs)) → NotDeeper d (parts_in (nodes xs)) → deeper d (drop (part_at d place c (nodes xs)) xs) ≡ 0
  part-stops d place c xs leaves first = elim (cases_Bool (is_attribute c)) [
    | inl a ↦ rw a (attribute-stops d place xs leaves first)
    | inr a ↦ rw a (child-stops d place xs)
  ]
