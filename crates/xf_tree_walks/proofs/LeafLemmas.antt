-- Leaves have nothing below them: lists in parts, with other depths, and with a tree less.
use Rattle.std.proofs.Common.{◌≡◌, ℕ, suc, ◌≤◌, List, [], ◌∷◌, ◌++◌, map, refl, ap, inl, inr, arith}
use Rattle.std.proofs.lemmas.Bool.{cases_lt}
use Rattle.std.proofs.lemmas.List.{map-append}
use Rattle.slab.specs.Slab.{Slab}
use Rattle.xf_def_forest.specs.declared.content.Node.{Node}
use Rattle.xf_def_forest.specs.declared.content.Content.{Content}
use Rattle.xf_def_forest.specs.Changes.{shifted}
use Rattle.xf_def_forest.specs.Plant.{numbered_from}
use Rattle.xf_tree_rows.specs.declared.rows.Row.{Row}
use Rattle.xf_tree_rows.specs.Rows.{deeper, AreSteps}
use Rattle.xf_tree_rows.proofs.SizedLemmas.{lt-true}
use Rattle.xf_tree_contents.specs.Slot.{Slot}
use Rattle.xf_tree_walks.specs.Leaves.{parts_in, NotDeeper, AreLeaves}
use Rattle.xf_tree_walks.specs.Nodes.{node_of}
use Rattle.xf_tree_walks.specs.First.{AllFrom}

pub less-deeper : (d e : ℕ) (ps : List (ℕ × Content)) → d ≤ e → NotDeeper d ps → NotDeeper e ps
less-deeper d e [] h n = tt
less-deeper d e (p ∷ ps) h n = omega arith

-- two lists one after another, where all of the first is at least so deep and the second does not begin deeper
pub leaves-append : (d : ℕ) (xs ys : List (ℕ × Content)) → AllFrom d (map (λ p. p.0) xs) → NotDeeper d ys → AreLeaves xs → AreLeaves ys → AreLeaves (xs ++ ys)
leaves-append d [] ys deep n a b = b
leaves-append d (x ∷ []) ys deep n a b = (λ e. less-deeper d x.0 ys deep.0 n, b)
leaves-append d (x ∷ (y ∷ xs)) ys deep n a b = (a.0, leaves-append d (y ∷ xs) ys deep.1 n a.1 b)

all-zero : (xs : List ℕ) → AllFrom 0 xs
all-zero [] = tt
all-zero (x ∷ xs) = (omega arith, all-zero xs)

-- the second begins with a top
pub leaves-top : (xs ys : List (ℕ × Content)) → NotDeeper 0 ys → AreLeaves xs → AreLeaves ys → AreLeaves (xs ++ ys)
leaves-top xs ys n a b = leaves-append 0 xs ys (all-zero (map (λ p. p.0) xs)) n a b

pub leaves-parts : (xs ys : List (ℕ × Content)) → AreLeaves (xs ++ ys) → AreLeaves xs × AreLeaves ys
leaves-parts [] ys a = (tt, a)
leaves-parts (x ∷ []) ys a = ((λ e. tt, tt), a.1)
leaves-parts (x ∷ (y ∷ xs)) ys a = let i = leaves-parts (y ∷ xs) ys a.1 in ((a.0, i.0), i.1)

-- what begins no deeper stands in place of what stood after the first
pub leaves-other : (us : List (ℕ × Content)) (t : ℕ × Content) (ts ys : List (ℕ × Content)) → AreLeaves (us ++ (t ∷ ts)) → NotDeeper t.0 ys → AreLeaves ys → AreLeaves (us ++ ys)
leaves-other [] t ts ys a n b = b
leaves-other (u ∷ []) t ts ys a n b = (λ e. less-deeper t.0 u.0 ys (a.0 e) n, b)
leaves-other (u ∷ (v ∷ us)) t ts ys a n b = (a.0, leaves-other (v ∷ us) t ts ys a.1 n b)

-- without a tree
pub leaves-without : (us : List (ℕ × Content)) (t : ℕ × Content) (ts ys : List (ℕ × Content)) → AreLeaves (us ++ ((t ∷ ts) ++ ys)) → NotDeeper t.0 ys
    → AreLeaves (us ++ ys) × AreLeaves (t ∷ ts)
leaves-without us t ts ys a n =
    let one = leaves-parts us ((t ∷ ts) ++ ys) a in
    let two = leaves-parts (t ∷ ts) ys one.1 in
    (leaves-other us t (ts ++ ys) ys a n two.1, two.0)

pub leaves-shifted : (from to : ℕ) (xs : List Node) → AreLeaves (parts_in xs) → AreLeaves (parts_in (map (shifted from to) xs))
leaves-shifted from to [] a = tt
leaves-shifted from to (x ∷ []) a = (λ e. tt, tt)
leaves-shifted from to (x ∷ (y ∷ ys)) a = (λ e. let l = a.0 e in omega arith, leaves-shifted from to (y ∷ ys) a.1)

pub parts-append : (xs ys : List Node) → parts_in (xs ++ ys) ≡ parts_in xs ++ parts_in ys
parts-append xs ys = map-append (λ (x : Node). (x.depth, x.content)) xs ys

pub parts-numbered : (next : ℕ) (cs : List (ℕ × Content)) → parts_in (numbered_from next cs) ≡ cs
parts-numbered next [] = refl
parts-numbered next (c ∷ cs) = ap (λ l. c ∷ l) (parts-numbered (suc next) cs)

-- rows of which none at the front is deeper
pub first-not_deeper : (s : Slab Slot) (d : ℕ) (rows : List Row) → deeper d rows ≡ 0 → NotDeeper d (parts_in (map (node_of s) rows))
first-not_deeper s d [] stops = tt
first-not_deeper s d (r ∷ rs) stops = elim (cases_lt d r.depth) [
  | inl l ↦ absurd (let z : suc (deeper d rs) ≡ 0 = rw (lt-true d r.depth l) at stops in omega arith)
  | inr l ↦ l
]

pub steps-not_deeper : (most : ℕ) (cs : List (ℕ × Content)) → AreSteps most (map (λ p. p.0) cs) → NotDeeper most cs
steps-not_deeper most [] a = tt
steps-not_deeper most (c ∷ cs) a = a.0
