-- What cutting a tree of the rows means for the list of nodes.
use Rattle.std.proofs.Common.{◌≡◌, ℕ, suc, ◌+◌, ◌-◌, ◌<◌, ◌≤◌, ◌==◌, List, [], ◌∷◌, ◌++◌, map, length, take, drop, if◌then◌else◌, reverse, subst, append_assoc, inl, inr, refl, sym, ap, ◌∙◌, arith, get_or}
use Rattle.std.proofs.lemmas.Bool.{cases_lt}
use Rattle.std.proofs.lemmas.List.{take-append-drop, reverse-append, reverse-reverse, map-append}
use Rattle.slab.specs.Slab.{Slab}
use Rattle.xf_def_forest.specs.declared.content.Node.{Node}
use Rattle.xf_def_forest.specs.Forest.{first_tree, tree_of as tree_of_node}
use Rattle.xf_def_forest.specs.Changes.{moved_to, without_tree}
use Rattle.xf_def_forest.specs.Limits.{node_count, all_size}
use Rattle.xf_tree_rows.specs.declared.rows.Row.{Row}
use Rattle.xf_tree_rows.specs.Rows.{deeper, shrunk, raised, tree_of, after_tree, top_depth, IsCut, AreSteps, depths, no_row, AllDeep}
use Rattle.xf_tree_rows.proofs.SizedLemmas.{lt-true, lt-false}
use Rattle.xf_tree_rows.proofs.CutLemmas.{stops-after, all-deeper}
use Rattle.xf_tree_rows.proofs.RowLemmas.{split-at}
use Rattle.xf_tree_contents.specs.Slot.{Slot}
use Rattle.xf_tree_walks.specs.Nodes.{node_of, times, AllLive, AllTops, StandsAt}
use Rattle.xf_tree_walks.proofs.NodeLemmas.{parted-without, parted-from, times-append}
use Rattle.xf_tree_walks.proofs.PlaceLemmas.{stands, below-is, past-is}
use Rattle.xf_tree_walks.proofs.StepLemmas.{most_after, steps-append, steps-parts, steps-lowered, AllAbove}
use Rattle.xf_tree_walks.proofs.CountLemmas.{nodes-append, sizes-append, count-alike, size-alike}
use Rattle.xf_tree_changes.proofs.MapLemmas.{IgnoresSize, map-shrunk, whole-map, live-append}
use Rattle.xf_tree.specs.State.{IsCounted}

-- ---- a cut as parts of the list

-- the rows before the tree, those after it, and the tree raised
pub cut-map : {X : Type 0} (g : Row → X) → IgnoresSize g → (at : ℕ) (old new : List Row) → IsCut at old new
    → map g new ≡ map g (take at old) ++ (map g (after_tree (drop at old)) ++ map g (map (raised (top_depth (drop at old))) (tree_of (drop at old))))
cut-map g same at old new is_cut =
    let here = drop at old in
    let us = take at old in
    let low = map (raised (top_depth here)) (tree_of here) in
    let after = after_tree here in
    ap (map g) is_cut ∙ map-shrunk g same (length (tree_of here)) (top_depth here) (reverse us) (after ++ low)
    ∙ ap (λ l. map g (l ++ (after ++ low))) (reverse-reverse us)
    ∙ map-append g us (after ++ low) ∙ ap (λ l. map g us ++ l) (map-append g after low)

pub node-ignores : (s : Slab Slot) → IgnoresSize (node_of s)
node-ignores s r size = refl

pub depth-ignores : IgnoresSize (λ (r : Row). r.depth)
depth-ignores r size = refl

abbrev pub lifted : ℕ → Node → Node
lifted by y = record { number = y.number; depth = 0 + (y.depth - by); content = y.content }

pub map-lifted : (s : Slab Slot) (by : ℕ) (xs : List Row) → map (node_of s) (map (raised by) xs) ≡ map (lifted by) (map (node_of s) xs)
map-lifted s by [] = refl
map-lifted s by (x ∷ xs) =
    let z : x.depth - by ≡ 0 + (x.depth - by) = omega arith in
    let i = map-lifted s by xs in
    cc

pub cut-means : (s : Slab Slot) (n at : ℕ) (old new : List Row) → StandsAt s old n at → times n (map (node_of s) old) ≤ 1 → IsCut at old new
    → map (node_of s) new ≡ without_tree n (map (node_of s) old) ++ moved_to 0 (tree_of_node n (map (node_of s) old))
cut-means s n at old new here few is_cut =
    let f = node_of s in
    let us = take at old in
    let x = get_or old at no_row in
    let xs = drop (at + 1) old in
    let p = stands s n at old here few in
    let sp = split-at at old no_row here.within in
    let c = cut-map f (node-ignores s) at old new is_cut in
    let w : without_tree n (map f old) ≡ map f us ++ map f (after_tree (x ∷ xs)) = parted-without n _ _ _ _ p ∙ ap (λ l. map f us ++ l) (past-is s x.depth xs) in
    let t : tree_of_node n (map f old) ≡ map f (tree_of (x ∷ xs)) = ap first_tree (parted-from n _ _ _ _ p) ∙ ap (λ l. f x ∷ l) (below-is s x.depth xs) in
    let r : map f (map (raised x.depth) (tree_of (x ∷ xs))) ≡ moved_to 0 (map f (tree_of (x ∷ xs))) = map-lifted s x.depth (tree_of (x ∷ xs)) in
    c ∙ ap (λ l. map f us ++ (map f (after_tree l) ++ map f (map (raised (top_depth l)) (tree_of l)))) sp
    ∙ sym (append_assoc (map f us) (map f (after_tree (x ∷ xs))) (map f (map (raised x.depth) (tree_of (x ∷ xs)))))
    ∙ ap (λ l. l ++ map f (map (raised x.depth) (tree_of (x ∷ xs)))) (sym w)
    ∙ ap (λ l. without_tree n (map f old) ++ l) (r ∙ ap (moved_to 0) (sym t))

-- ---- what a cut keeps

times-lifted : (n by : ℕ) (xs : List Node) → times n (map (lifted by) xs) ≡ times n xs
times-lifted n by [] = refl
times-lifted n by (x ∷ xs) = ap (λ t. (if x.number == n then 1 else 0) + t) (times-lifted n by xs)

pub cut-times : (s : Slab Slot) (n at : ℕ) (old new : List Row) → IsCut at old new → times n (map (node_of s) new) ≡ times n (map (node_of s) old)
cut-times s n at old new is_cut =
    let f = node_of s in
    let here = drop at old in
    let us = map f (take at old) in
    let after = map f (after_tree here) in
    let tree = map f (tree_of here) in
    let low = map f (map (raised (top_depth here)) (tree_of here)) in
    let a = ap (times n) (cut-map f (node-ignores s) at old new is_cut) ∙ times-append n us (after ++ low) in
    let b = times-append n after low in
    let d = ap (times n) (map-lifted s (top_depth here) (tree_of here)) ∙ times-lifted n (top_depth here) tree in
    let e = ap (times n) (whole-map f at old) ∙ times-append n us (tree ++ after) in
    let g = times-append n tree after in
    omega arith

pub cut-counted : (s : Slab Slot) (at total size : ℕ) (old new : List Row) → IsCut at old new → IsCounted s old total size → IsCounted s new total size
cut-counted s at total size old new is_cut counted =
    let f = node_of s in
    let here = drop at old in
    let us = map f (take at old) in
    let after = map f (after_tree here) in
    let tree = map f (tree_of here) in
    let low = map f (map (raised (top_depth here)) (tree_of here)) in
    let lift = map-lifted s (top_depth here) (tree_of here) in
    let is = cut-map f (node-ignores s) at old new is_cut in
    let was = whole-map f at old in
    let n1 = ap node_count is ∙ nodes-append us (after ++ low) in
    let n2 = nodes-append after low in
    let n3 = ap node_count lift ∙ count-alike (lifted (top_depth here)) (λ x. refl) tree in
    let n4 = ap node_count was ∙ nodes-append us (tree ++ after) in
    let n5 = nodes-append tree after in
    let s1 = ap all_size is ∙ sizes-append us (after ++ low) in
    let s2 = sizes-append after low in
    let s3 = ap all_size lift ∙ size-alike (lifted (top_depth here)) (λ x. refl) tree in
    let s4 = ap all_size was ∙ sizes-append us (tree ++ after) in
    let s5 = sizes-append tree after in
    record {
      count = omega (arith, counted.count, n1, n2, n3, n4, n5);
      bytes = omega (arith, counted.bytes, s1, s2, s3, s4, s5);
      small = counted.small;
    }

pub live-parts : (s : Slab Slot) (xs ys : List Row) → AllLive s (xs ++ ys) → AllLive s xs × AllLive s ys
live-parts s [] ys p = (tt, p)
live-parts s (x ∷ xs) ys p = let i = live-parts s xs ys p.1 in ((p.0, i.0), i.1)

pub live-raised : (s : Slab Slot) (by : ℕ) (xs : List Row) → AllLive s xs → AllLive s (map (raised by) xs)
live-raised s by [] p = tt
live-raised s by (x ∷ xs) p = (p.0, live-raised s by xs p.1)

pub live-shrunk : (s : Slab Slot) (by d : ℕ) (ys tail : List Row) → AllLive s ys → AllLive s tail → AllLive s (shrunk by d ys tail)
live-shrunk s by d [] tail p q = q
live-shrunk s by d (y ∷ ys) tail p q =
    elim (cases_lt y.depth d) [
      | inl h ↦ rw (lt-true y.depth d h) (live-shrunk s by y.depth ys _ p.1 (p.0, q))
      | inr h ↦ rw (lt-false y.depth d h) (live-shrunk s by d ys (y ∷ tail) p.1 (p.0, q))
    ]

pub live-reverse : (s : Slab Slot) (xs : List Row) → AllLive s xs → AllLive s (reverse xs)
live-reverse s [] p = tt
live-reverse s (x ∷ xs) p = subst (AllLive s) (sym (reverse-append (x ∷ []) xs)) (live-append s (reverse xs) (x ∷ []) (live-reverse s xs p.1) (p.0, tt))

pub tops-append : (xs ys : List Node) → AllTops xs → AllTops ys → AllTops (xs ++ ys)
tops-append [] ys p q = q
tops-append (x ∷ xs) ys p q = (p.0, tops-append xs ys p.1 q)

pub tops-lifted : (by : ℕ) (xs : List Node) → AllTops xs → AllTops (map (lifted by) xs)
tops-lifted by [] p = tt
tops-lifted by (x ∷ xs) p = (λ e. let z = p.0 e in omega (arith, z), tops-lifted by xs p.1)

-- ---- the depths after a cut

depths-raised : (by : ℕ) (xs : List Row) → depths (map (raised by) xs) ≡ map (λ d. d - by) (depths xs)
depths-raised by [] = refl
depths-raised by (x ∷ xs) = ap (λ l. (x.depth - by) ∷ l) (depths-raised by xs)

pub above-deep : (d : ℕ) (xs : List Row) → AllDeep d xs → AllAbove d (depths xs)
above-deep d [] h = tt
above-deep d (x ∷ xs) h = (h.0, above-deep d xs h.1)

pub first-low : (d most : ℕ) (ys : List Row) → deeper d ys ≡ 0 → d ≤ most → (more : ℕ) → AreSteps more (depths ys) → AreSteps most (depths ys)
first-low d most [] stops h more a = tt
first-low d most (y ∷ ys) stops h more a = elim (cases_lt d y.depth) [
  | inl l ↦ absurd (let z : suc (deeper d ys) ≡ 0 = rw (lt-true d y.depth l) at stops in omega arith)
  | inr l ↦ (omega arith, a.1)
]

cut-steps-parts : (us : List ℕ) (x : Row) (xs : List Row) → AreSteps 0 (us ++ depths (x ∷ xs))
    → AreSteps 0 (us ++ (depths (after_tree (x ∷ xs)) ++ depths (map (raised x.depth) (tree_of (x ∷ xs)))))
cut-steps-parts us x xs steps =
    let rest = take (deeper x.depth xs) xs in
    let after = drop (deeper x.depth xs) xs in
    let one = steps-parts 0 us (depths (x ∷ xs)) steps in
    let split : depths xs ≡ depths rest ++ depths after = ap depths (sym (take-append-drop (deeper x.depth xs) xs)) ∙ map-append (λ (r : Row). r.depth) rest after in
    let two = steps-parts (suc x.depth) (depths rest) (depths after) (subst (AreSteps (suc x.depth)) split one.1.1) in
    let first : AreSteps (most_after 0 us) (depths after) = first-low x.depth (most_after 0 us) after (stops-after x.depth xs) one.1.0 (most_after (suc x.depth) (depths rest)) two.1 in
    let all : AllAbove x.depth (depths rest) = above-deep x.depth rest (all-deeper x.depth xs) in
    let least : x.depth ≤ suc x.depth = omega arith in
    let low = steps-lowered x.depth (suc x.depth) (depths rest) least all two.0 in
    let e : suc x.depth - x.depth ≡ suc (x.depth - x.depth) = omega arith in
    let low2 : AreSteps (suc (x.depth - x.depth)) (depths (map (raised x.depth) rest)) =
    subst (AreSteps (suc (x.depth - x.depth))) (sym (depths-raised x.depth rest)) (subst (λ m. AreSteps m (map (λ d. d - x.depth) (depths rest))) e low) in
    let top : x.depth - x.depth ≤ most_after (most_after 0 us) (depths after) = omega arith in
    steps-append 0 us _ one.0 (steps-append (most_after 0 us) (depths after) _ first (top, low2))

pub cut-stepped : (at : ℕ) (old new : List Row) → at < length old → IsCut at old new → AreSteps 0 (depths old) → AreSteps 0 (depths new)
cut-stepped at old new h is_cut steps =
    let g : Row → ℕ = λ r. r.depth in
    let x = get_or old at no_row in
    let xs = drop (at + 1) old in
    let sp = split-at at old no_row h in
    let was : depths old ≡ depths (take at old) ++ depths (x ∷ xs) = ap depths (sym (take-append-drop at old)) ∙ map-append g (take at old) (drop at old) ∙ ap (λ l. depths (take at old) ++ depths l) sp in
    let is : depths new ≡ depths (take at old) ++ (depths (after_tree (x ∷ xs)) ++ depths (map (raised x.depth) (tree_of (x ∷ xs)))) =
    cut-map g depth-ignores at old new is_cut ∙ ap (λ l. depths (take at old) ++ (depths (after_tree l) ++ depths (map (raised (top_depth l)) (tree_of l)))) sp in
    subst (AreSteps 0) (sym is) (cut-steps-parts (depths (take at old)) x xs (subst (AreSteps 0) was steps))
