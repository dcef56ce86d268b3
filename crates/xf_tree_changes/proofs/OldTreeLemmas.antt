-- A tree of its own is older or new as a whole, and the instances are older.
use Rattle.std.proofs.Common.{◌≡◌, ℕ, zero, suc, ◌+◌, ◌<◌, ◌≤◌, ◌==◌, ◌&&◌, not, Bool, true, false, List, [], ◌∷◌, map, length, take, drop, get_or, refl, sym, ap, ◌∙◌, subst, inl, inr, arith}
use Rattle.std.specs.Prelude.{filter}
use Rattle.std.proofs.lemmas.Bool.{cases_Bool, cases_lt, true≢false, false≢true}
use Rattle.slab.specs.Slab.{Slab}
use Rattle.xf_def_forest.specs.declared.content.Node.{Node}
use Rattle.xf_def_forest.specs.Changes.{in_instances, is_detached_top}
use Rattle.xf_def_forest.specs.Forest.{is_root}
use Rattle.xf_def_forest.specs.Needs.{is_new}
use Rattle.xf_tree_rows.specs.declared.rows.Row.{Row}
use Rattle.xf_tree_rows.specs.Rows.{deeper, tree_of, no_row, AllDeep}
use Rattle.xf_tree_rows.proofs.ParentLemmas.{deep-prefix}
use Rattle.xf_tree_rows.proofs.RowLemmas.{split-at}
use Rattle.xf_tree_contents.specs.Slot.{Slot}
use Rattle.xf_tree_contents.proofs.AlikeLemmas.{eq-true}
use Rattle.xf_tree_walks.specs.Nodes.{node_of}
use Rattle.xf_tree_changes.specs.Older.{is_older, is_newer, AreWhole}
use Rattle.xf_tree_changes.proofs.OlderLemmas.{WholeRows}

-- rows below one that is older
below-older : (s : Slab Slot) (number : ℕ) (rows : List Row) → WholeRows s number false rows → AllDeep 1 rows
    → (filter (is_older s number) rows ≡ rows) × (filter (is_newer s number) rows ≡ [])
below-older s number [] w deep = (refl, refl)
below-older s number (x ∷ xs) w deep = elim (cases_Bool (is_older s number x)) [
  | inl e ↦
      let i = below-older s number xs (subst (λ b. WholeRows s number b xs) (ap not e) w.2) deep.1 in
      rw e (ap (λ l. x ∷ l) i.0, i.1)
  | inr e ↦ absurd (let l : 0 < x.depth = omega (arith, deep.0) in true≢false (sym (ap not e) ∙ w.0 l))
]

-- rows below one that is not
below-newer : (s : Slab Slot) (number : ℕ) (rows : List Row) → WholeRows s number true rows → AllDeep 1 rows
    → (filter (is_older s number) rows ≡ []) × (filter (is_newer s number) rows ≡ rows)
below-newer s number [] w deep = (refl, refl)
below-newer s number (x ∷ xs) w deep = elim (cases_Bool (is_older s number x)) [
  | inl e ↦ absurd (let l : 0 < x.depth = omega (arith, deep.0) in false≢true (sym (ap not e) ∙ w.0 l))
  | inr e ↦
      let i = below-newer s number xs (subst (λ b. WholeRows s number b xs) (ap not e) w.2) deep.1 in
      rw e (i.0, ap (λ l. x ∷ l) i.1)
]

whole-front : (s : Slab Slot) (number n : ℕ) (before : Bool) (rows : List Row) → WholeRows s number before rows → WholeRows s number before (take n rows)
whole-front s number zero before rows w = tt
whole-front s number (suc n) before [] w = tt
whole-front s number (suc n) before (x ∷ xs) w = (w.0, w.1, whole-front s number n _ xs w.2)

whole-after : (s : Slab Slot) (number at : ℕ) (before : Bool) (rows : List Row) → at < length rows → WholeRows s number before rows
    → WholeRows s number (not (is_older s number (get_or rows at no_row))) (drop (suc at) rows)
whole-after s number at before [] h w = absurd (omega arith)
whole-after s number zero before (x ∷ xs) h w = w.2
whole-after s number (suc at) before (x ∷ xs) h w = whole-after s number at _ xs (omega arith) w.2

deep-one : (d : ℕ) (rows : List Row) → AllDeep (d + 1) rows → AllDeep 1 rows
deep-one d [] h = tt
deep-one d (x ∷ xs) h = (omega (arith, h.0), deep-one d xs h.1)

-- the tree at a place of which the top is older
pub tree-older : (s : Slab Slot) (number at : ℕ) (rows : List Row) → at < length rows → WholeRows s number false rows → is_older s number (get_or rows at no_row) ≡ true
    → (filter (is_older s number) (tree_of (drop at rows)) ≡ tree_of (drop at rows)) × (filter (is_newer s number) (tree_of (drop at rows)) ≡ [])
tree-older s number at rows h w e =
    let x = get_or rows at no_row in
    let xs = drop (at + 1) rows in
    let n = deeper x.depth xs in
    let few : n ≤ n = omega arith in
    let next : suc at ≡ at + 1 = omega arith in
    let after = subst (λ k. WholeRows s number false (drop k rows)) next (subst (λ b. WholeRows s number b (drop (suc at) rows)) (ap not e) (whole-after s number at false rows h w)) in
    let b = below-older s number (take n xs) (whole-front s number n false xs after) (deep-one x.depth (take n xs) (deep-prefix x.depth n xs few)) in
    subst (λ l. (filter (is_older s number) (tree_of l) ≡ tree_of l) × (filter (is_newer s number) (tree_of l) ≡ [])) (sym (split-at at rows no_row h)) (rw e (ap (λ l. x ∷ l) b.0, b.1))

pub tree-newer : (s : Slab Slot) (number at : ℕ) (rows : List Row) → at < length rows → WholeRows s number false rows → is_older s number (get_or rows at no_row) ≡ false
    → (filter (is_older s number) (tree_of (drop at rows)) ≡ []) × (filter (is_newer s number) (tree_of (drop at rows)) ≡ tree_of (drop at rows))
tree-newer s number at rows h w e =
    let x = get_or rows at no_row in
    let xs = drop (at + 1) rows in
    let n = deeper x.depth xs in
    let few : n ≤ n = omega arith in
    let next : suc at ≡ at + 1 = omega arith in
    let after = subst (λ k. WholeRows s number true (drop k rows)) next (subst (λ b. WholeRows s number b (drop (suc at) rows)) (ap not e) (whole-after s number at false rows h w)) in
    let b = below-newer s number (take n xs) (whole-front s number n true xs after) (deep-one x.depth (take n xs) (deep-prefix x.depth n xs few)) in
    subst (λ l. (filter (is_older s number) (tree_of l) ≡ []) × (filter (is_newer s number) (tree_of l) ≡ tree_of l)) (sym (split-at at rows no_row h)) (rw e (b.0, ap (λ l. x ∷ l) b.1))

-- the nodes of the instances are all older
abbrev pub AllOld : ℕ → List Node → Type 0
AllOld number [] = Unit {0}
AllOld number (x ∷ xs) = (is_new number x.number ≡ false) × AllOld number xs

top-root : (d : ℕ) (b : Bool) → ((d == 0) && not b) ≡ false → d ≡ 0 → b ≡ true
top-root d true h e = refl
top-root d false h e = absurd (true≢false (rw (eq-true d 0 e) at h))

instances-old : (number : ℕ) (nodes : List Node) → AreWhole number false nodes → AllOld number (in_instances nodes)
instances-old number [] w = tt
instances-old number (x ∷ xs) w = elim (cases_Bool (is_detached_top x)) [
  | inl e ↦ rw e tt
  | inr e ↦
      let old : is_new number x.number ≡ false = elim (cases_lt 0 x.depth) [
        | inl l ↦ w.0 l
        | inr l ↦
            let top : x.depth ≡ 0 = omega arith in
            elim (cases_Bool (is_new number x.number)) [ inl n ↦ absurd (false≢true (sym (w.1 n) ∙ top-root x.depth (is_root x.content) e top)) | inr n ↦ n ]
      ] in
      rw e (old, instances-old number xs (subst (λ b. AreWhole number b xs) old w.2))
]

all-old : (s : Slab Slot) (number : ℕ) (rows : List Row) → AllOld number (map (node_of s) rows) → (filter (is_older s number) rows ≡ rows) × (filter (is_newer s number) rows ≡ [])
all-old s number [] old = (refl, refl)
all-old s number (x ∷ xs) old = elim (cases_Bool (is_older s number x)) [
  | inl e ↦ let i = all-old s number xs old.1 in rw e (ap (λ l. x ∷ l) i.0, i.1)
  | inr e ↦ absurd (true≢false (sym (ap not e) ∙ old.0))
]

pub front-older : (s : Slab Slot) (number : ℕ) (rows front : List Row) → WholeRows s number false rows → map (node_of s) front ≡ in_instances (map (node_of s) rows)
    → (filter (is_older s number) front ≡ front) × (filter (is_newer s number) front ≡ [])
front-older s number rows front w e = all-old s number front (subst (AllOld number) (sym e) (instances-old number (map (node_of s) rows) w))
