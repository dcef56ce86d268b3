-- What a test of the node with a number says where its row is known, and where it has none.
use Rattle.std.proofs.Common.{◌≡◌, ℕ, zero, suc, ◌+◌, ◌-◌, ◌<◌, ◌≤◌, ◌==◌, ◌&&◌, ◌||◌, Bool, true, false, List, [], ◌∷◌, ◌++◌, map, length, take, drop, get_or, nat_lt, nat_le, None, option_map, refl, sym, ap, ◌∙◌, inl, inr, arith, length-take, length-drop}
use Rattle.std.specs.List.{list_any}
use Rattle.std.proofs.lemmas.Bool.{cases_lt}
use Rattle.std.proofs.lemmas.Bool.Decides.{nat_tests}
use Rattle.std.proofs.lemmas.List.{take-append-drop, map-append, get_or-take, get_or-drop}
use Rattle.slab.specs.Slab.{Slab, get}
use Rattle.xf_def_forest.specs.declared.content.Node.{Node}
use Rattle.xf_def_forest.specs.Forest.{has_number, node_at, from_node, first_tree, kind_of, kind_at, tree_of as tree_of_node}
use Rattle.xf_tree_rows.specs.declared.rows.Row.{Row}
use Rattle.xf_tree_rows.specs.Rows.{tree_of, no_row}
use Rattle.xf_tree_rows.proofs.CutLemmas.{tree-is-front}
use Rattle.xf_tree_rows.proofs.RowLemmas.{split-at}
use Rattle.xf_tree_rows.proofs.SizedLemmas.{lt-true, lt-false}
use Rattle.xf_tree_contents.specs.Slot.{Slot}
use Rattle.xf_tree_contents.specs.Keys.{number_in}
use Rattle.xf_tree_contents.proofs.AlikeLemmas.{eq-true}
use Rattle.xf_tree_walks.specs.Nodes.{node_of, times, StandsAt}
use Rattle.xf_tree_walks.proofs.NodeLemmas.{parted-from, times-append, times-absent, absent-times}
use Rattle.xf_tree_walks.proofs.PlaceLemmas.{stands, stands-live, below-is}
use Rattle.xf_tree_walks.proofs.StackLemmas.{absent-parts}
use Rattle.xf_tree.specs.State.{IsSound}
use Rattle.xf_tree.proofs.MeansLemmas.{one_of}

pub named-none : (n : ℕ) (p : Node → Bool) (zs : List Node) → has_number n zs ≡ false → list_any (λ (y : Node). (y.number == n) && p y) zs ≡ false
named-none n p [] h = refl
named-none n p (z ∷ zs) h = let q = absent-parts n z zs h in rw q.0 (named-none n p zs q.1)

or_false : (b : Bool) → (b || false) ≡ b
or_false true = refl
or_false false = refl

named-go : (n : ℕ) (p : Node → Bool) (us : List Node) (x : Node) (xs : List Node) → x.number ≡ n → has_number n us ≡ false → has_number n xs ≡ false
    → list_any (λ (y : Node). (y.number == n) && p y) (us ++ (x ∷ xs)) ≡ p x
named-go n p [] x xs e h k = rw (eq-true x.number n e, named-none n p xs k) (or_false (p x))
named-go n p (u ∷ us) x xs e h k = let q = absent-parts n u us h in rw q.0 (named-go n p us x xs e q.1 k)

-- the node with a number meets a test where the one at its row does
pub named-at : (p : Node → Bool) (s : Slab Slot) (n at : ℕ) (rows : List Row) (kept : List ℕ) (next : ℕ) → IsSound s rows kept next → StandsAt s rows n at
    → list_any (λ (y : Node). (y.number == n) && p y) (map (node_of s) rows) ≡ p (node_of s (get_or rows at no_row))
named-at p s n at rows kept next sound here =
    let part = stands s n at rows here (one_of s rows kept next n sound) in
    ap (list_any (λ (y : Node). (y.number == n) && p y)) part.whole ∙ named-go n p _ _ _ part.number part.before part.after

pub node-none : (n : ℕ) (zs : List Node) → has_number n zs ≡ false → node_at n zs ≡ None
node-none n [] h = refl
node-none n (z ∷ zs) h = let q = absent-parts n z zs h in rw q.0 (node-none n zs q.1)

pub kind-none : (n : ℕ) (zs : List Node) → has_number n zs ≡ false → kind_at n zs ≡ None
kind-none n zs h = ap (λ o. option_map kind_of (option_map (λ (x : Node). x.content) o)) (node-none n zs h)

pub from-none : (n : ℕ) (zs : List Node) → has_number n zs ≡ false → from_node n zs ≡ []
from-none n [] h = refl
from-none n (z ∷ zs) h = let q = absent-parts n z zs h in rw q.0 (from-none n zs q.1)

-- ---- within a tree

-- where a node has no row, nothing stands in its tree
pub inside-none : (n m : ℕ) (zs : List Node) → has_number n zs ≡ false → has_number m (tree_of_node n zs) ≡ false
inside-none n m zs h = ap (λ l. has_number m (first_tree l)) (from-none n zs h)

-- the rows before a part, those in it, and those after it
parts : (k at : ℕ) (rows : List Row) → rows ≡ take at rows ++ (take k (drop at rows) ++ drop k (drop at rows))
parts k at rows = sym (take-append-drop at rows) ∙ ap (λ l. take at rows ++ l) (sym (take-append-drop k (drop at rows)))

times-parts : (s : Slab Slot) (m k at : ℕ) (rows : List Row)
    → times m (map (node_of s) rows) ≡ times m (map (node_of s) (take at rows)) + (times m (map (node_of s) (take k (drop at rows))) + times m (map (node_of s) (drop k (drop at rows))))
times-parts s m k at rows =
    let f = node_of s in
    let xs = take at rows in
    let ys = take k (drop at rows) in
    let zs = drop k (drop at rows) in
    ap (λ l. times m (map f l)) (parts k at rows) ∙ ap (times m) (map-append f xs (ys ++ zs)) ∙ times-append m (map f xs) (map f (ys ++ zs))
    ∙ ap (λ n. times m (map f xs) + n) (ap (times m) (map-append f ys zs) ∙ times-append m (map f ys) (map f zs))

once : (s : Slab Slot) (m to : ℕ) (rows : List Row) → StandsAt s rows m to → 1 ≤ times m (map (node_of s) rows)
once s m to rows here = some (times m (map (node_of s) rows)) (λ none. absent-times m (map (node_of s) rows) none) (stands-live s m to rows here)
  where
    some : (t : ℕ) → (t ≡ 0 → has_number m (map (node_of s) rows) ≡ false) → has_number m (map (node_of s) rows) ≡ true → 1 ≤ t
    some zero f h = absurd (let z : has_number m (map (node_of s) rows) ≡ false = f refl in cc)
    some (suc t) f h = omega arith

-- a node stands in a part of the rows where its row does
pub part-has : (s : Slab Slot) (m to k at : ℕ) (rows : List Row) (kept : List ℕ) (next : ℕ) → IsSound s rows kept next → StandsAt s rows m to
    → has_number m (map (node_of s) (take k (drop at rows))) ≡ (nat_le at to && nat_lt to (at + k))
part-has s m to k at rows kept next sound there =
    let f = node_of s in
    let one = one_of s rows kept next m sound in
    let sum = times-parts s m k at rows in
    let in_rows = there.within in
    elim (cases_lt to at) [
      | inl l ↦
          let short : to < length (take at rows) = omega (arith, length-take at rows) in
          let here : StandsAt s (take at rows) m to = record { within = short; number = ap (λ (r : Row). number_in (get s r.key)) (get_or-take at rows to no_row l) ∙ there.number } in
          let some = once s m to (take at rows) here in
          let no : nat_le at to ≡ false = grind (arith, nat_tests, l) in
          absent-times m (map f (take k (drop at rows))) (omega arith) ∙ rw no refl
      | inr l ↦
          let i = to - at in
          let back : at + i ≡ to = omega arith in
          let yes : nat_le at to ≡ true = grind (arith, nat_tests, l) in
          let same = get_or-drop at rows i no_row ∙ ap (λ j. get_or rows j no_row) back in
          let long : i < length (drop at rows) = omega (arith, length-drop at rows) in
          elim (cases_lt to (at + k)) [
            | inl m2 ↦
                let small : i < k = omega arith in
                let short : i < length (take k (drop at rows)) = omega (arith, length-take k (drop at rows)) in
                let here : StandsAt s (take k (drop at rows)) m i = record {
                  within = short;
                  number = ap (λ (r : Row). number_in (get s r.key)) (get_or-take k (drop at rows) i no_row small ∙ same) ∙ there.number;
                } in
                stands-live s m i (take k (drop at rows)) here ∙ rw (yes, lt-true to (at + k) m2) refl
            | inr m2 ↦
                let j = i - k in
                let more : k + j ≡ i = omega arith in
                let in_last : j < length (drop k (drop at rows)) = omega (arith, length-drop k (drop at rows)) in
                let here : StandsAt s (drop k (drop at rows)) m j = record {
                  within = in_last;
                  number = ap (λ (r : Row). number_in (get s r.key)) (get_or-drop k (drop at rows) j no_row ∙ ap (λ e. get_or (drop at rows) e no_row) more ∙ same) ∙ there.number;
                } in
                let some = once s m j (drop k (drop at rows)) here in
                absent-times m (map f (take k (drop at rows))) (omega arith) ∙ rw (yes, lt-false to (at + k) m2) refl
          ]
    ]

-- what stands in a tree, by its rows
pub tree-means : (s : Slab Slot) (n at : ℕ) (rows : List Row) (kept : List ℕ) (next : ℕ) → IsSound s rows kept next → StandsAt s rows n at
    → tree_of_node n (map (node_of s) rows) ≡ map (node_of s) (take (length (tree_of (drop at rows))) (drop at rows))
tree-means s n at rows kept next sound here =
    let f = node_of s in
    let x = get_or rows at no_row in
    let xs = drop (at + 1) rows in
    let p = stands s n at rows here (one_of s rows kept next n sound) in
    ap first_tree (parted-from n _ _ _ _ p) ∙ ap (λ l. f x ∷ l) (below-is s x.depth xs) ∙ sym (ap (λ l. map f (tree_of l)) (split-at at rows no_row here.within))
    ∙ sym (ap (map f) (tree-is-front (drop at rows) (length (tree_of (drop at rows))) refl).0)

-- a node stands in another's tree where its row does
pub inside-means : (s : Slab Slot) (n m at to : ℕ) (rows : List Row) (kept : List ℕ) (next : ℕ) → IsSound s rows kept next → StandsAt s rows n at → StandsAt s rows m to
    → has_number m (tree_of_node n (map (node_of s) rows)) ≡ (nat_le at to && nat_lt to (at + length (tree_of (drop at rows))))
inside-means s n m at to rows kept next sound here there =
    ap (has_number m) (tree-means s n at rows kept next sound here) ∙ part-has s m to (length (tree_of (drop at rows))) at rows kept next sound there

-- nor does what has no row itself
pub inside-other : (s : Slab Slot) (n m at : ℕ) (rows : List Row) (kept : List ℕ) (next : ℕ) → IsSound s rows kept next → StandsAt s rows n at → has_number m (map (node_of s) rows) ≡ false
    → has_number m (tree_of_node n (map (node_of s) rows)) ≡ false
inside-other s n m at rows kept next sound here none =
    let k = length (tree_of (drop at rows)) in
    let zero_all = times-absent m (map (node_of s) rows) none in
    let sum = times-parts s m k at rows in
    ap (has_number m) (tree-means s n at rows kept next sound here) ∙ absent-times m (map (node_of s) (take k (drop at rows))) (omega arith)
