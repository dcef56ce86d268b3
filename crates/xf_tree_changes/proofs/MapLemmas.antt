-- What a list of rows stands for, by what ignores their sizes.
use Rattle.std.proofs.Common.{◌≡◌, ℕ, ◌+◌, ◌-◌, List, [], ◌∷◌, ◌++◌, map, take, drop, reverse, append_assoc, inl, inr, refl, sym, ap, ◌∙◌}
use Rattle.std.proofs.lemmas.Bool.{cases_lt}
use Rattle.std.proofs.lemmas.List.{take-append-drop, reverse-append, map-append}
use Rattle.slab.specs.Slab.{Slab}
use Rattle.xf_tree_rows.specs.declared.rows.Row.{Row}
use Rattle.xf_tree_rows.specs.Rows.{shrunk, grown, tree_of, after_tree}
use Rattle.xf_tree_rows.proofs.SizedLemmas.{lt-true, lt-false}
use Rattle.xf_tree_rows.proofs.CutLemmas.{tree-parts}
use Rattle.xf_tree_contents.specs.Slot.{Slot}
use Rattle.xf_tree_walks.specs.Nodes.{AllLive}

-- what doesn't look at sizes
abbrev pub IgnoresSize : {X : Type 0} → (Row → X) → Type 0
IgnoresSize g = (r : Row) (size : ℕ) → g (record { key = r.key; size = size; depth = r.depth }) ≡ g r

pub map-shrunk : {X : Type 0} (g : Row → X) → IgnoresSize g → (by d : ℕ) (ys tail : List Row) → map g (shrunk by d ys tail) ≡ map g (reverse ys ++ tail)
map-shrunk g same by d [] tail = refl
map-shrunk g same by d (y ∷ ys) tail =
    let small : Row = record { key = y.key; size = y.size - by; depth = y.depth } in
    let turn : reverse (y ∷ ys) ++ tail ≡ reverse ys ++ (y ∷ tail) = ap (λ l. l ++ tail) (reverse-append (y ∷ []) ys) ∙ append_assoc (reverse ys) (y ∷ []) tail in
    elim (cases_lt y.depth d) [
      | inl h ↦ rw (lt-true y.depth d h)
          (map-shrunk g same by y.depth ys (small ∷ tail)
          ∙ map-append g (reverse ys) (small ∷ tail)
          ∙ ap (λ x. map g (reverse ys) ++ (x ∷ map g tail)) (same y (y.size - by))
          ∙ sym (map-append g (reverse ys) (y ∷ tail))
          ∙ sym (ap (map g) turn))
      | inr h ↦ rw (lt-false y.depth d h) (map-shrunk g same by d ys (y ∷ tail) ∙ sym (ap (map g) turn))
    ]

pub map-grown : {X : Type 0} (g : Row → X) → IgnoresSize g → (by d : ℕ) (ys tail : List Row) → map g (grown by d ys tail) ≡ map g (reverse ys ++ tail)
map-grown g same by d [] tail = refl
map-grown g same by d (y ∷ ys) tail =
    let large : Row = record { key = y.key; size = y.size + by; depth = y.depth } in
    let turn : reverse (y ∷ ys) ++ tail ≡ reverse ys ++ (y ∷ tail) = ap (λ l. l ++ tail) (reverse-append (y ∷ []) ys) ∙ append_assoc (reverse ys) (y ∷ []) tail in
    elim (cases_lt y.depth d) [
      | inl h ↦ rw (lt-true y.depth d h)
          (map-grown g same by y.depth ys (large ∷ tail)
          ∙ map-append g (reverse ys) (large ∷ tail)
          ∙ ap (λ x. map g (reverse ys) ++ (x ∷ map g tail)) (same y (y.size + by))
          ∙ sym (map-append g (reverse ys) (y ∷ tail))
          ∙ sym (ap (map g) turn))
      | inr h ↦ rw (lt-false y.depth d h) (map-grown g same by d ys (y ∷ tail) ∙ sym (ap (map g) turn))
    ]

-- the rows themselves in these parts
pub whole-map : {X : Type 0} (g : Row → X) (at : ℕ) (old : List Row) → map g old ≡ map g (take at old) ++ (map g (tree_of (drop at old)) ++ map g (after_tree (drop at old)))
whole-map g at old =
    let here = drop at old in
    ap (map g) (sym (take-append-drop at old)) ∙ map-append g (take at old) here
    ∙ ap (λ l. map g (take at old) ++ l) (ap (map g) (sym (tree-parts here)) ∙ map-append g (tree_of here) (after_tree here))

-- ---- each row

pub live-append : (s : Slab Slot) (xs ys : List Row) → AllLive s xs → AllLive s ys → AllLive s (xs ++ ys)
live-append s [] ys p q = q
live-append s (x ∷ xs) ys p q = (p.0, live-append s xs ys p.1 q)
