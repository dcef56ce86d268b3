-- A tree moved below a node: what every forest keeps.
use Rattle.std.proofs.Common.{◌≡◌, ℕ, suc, ◌+◌, ◌-◌, ◌≤◌, true, false, List, [], ◌∷◌, ◌++◌, map, length, take, drop, get_or, reverse, ◌⊎◌, append_assoc, take-add, refl, sym, ap, ◌∙◌, subst, inl, inr, arith, length-append}
use Rattle.std.proofs.lemmas.List.{take-append-drop, drop-drop, map-append, length-map, take_more}
use Rattle.std.proofs.lemmas.Bool.{cases_lt, cases_Bool, true≢false, false≢true}
use Rattle.slab.specs.Slab.{Slab, get}
use Rattle.xf_def_forest.specs.declared.content.Node.{Node}
use Rattle.xf_def_forest.specs.declared.content.Content.{Content}
use Rattle.xf_def_forest.specs.declared.content.Content.TheVariants.{Root, Element, Attribute, Text}
use Rattle.xf_def_forest.specs.Changes.{shifted}
use Rattle.xf_def_forest.specs.Forest.{is_root, is_element, is_attribute}
use Rattle.xf_def_forest.specs.Limits.{node_count, all_size}
use Rattle.xf_tree_rows.specs.declared.rows.Row.{Row}
use Rattle.xf_tree_rows.specs.Rows.{Sized, deeper, deepened, grown, tree_of, after_tree, rest_of, AreSteps, depths, no_row, AllDeep}
use Rattle.xf_tree_rows.proofs.SizedLemmas.{lt-true, lt-false}
use Rattle.xf_tree_rows.proofs.CutLemmas.{tree-parts}
use Rattle.xf_tree_rows.proofs.RowLemmas.{split-at}
use Rattle.xf_tree_rows.proofs.ParentLemmas.{deep-prefix}
use Rattle.xf_tree_contents.specs.Slot.{Slot}
use Rattle.xf_tree_contents.specs.Keys.{content_in}
use Rattle.xf_tree_walks.specs.Leaves.{is_leaf, parts_in, NotDeeper, AreLeaves}
use Rattle.xf_tree_walks.specs.First.{attribute_depth, AreFirst, AllFrom}
use Rattle.xf_tree_walks.specs.Nodes.{node_of, times, AllLive, AllTops, StandsAt}
use Rattle.xf_tree_walks.proofs.NodeLemmas.{times-append}
use Rattle.xf_tree_walks.proofs.CountLemmas.{nodes-append, sizes-append, count-alike, size-alike}
use Rattle.xf_tree_walks.proofs.StepLemmas.{most_after, steps-append, steps-parts, steps-more, steps-raised, AllAbove}
use Rattle.xf_tree_walks.proofs.LeafLemmas.{leaves-append, leaves-parts, leaves-shifted, parts-append, first-not_deeper}
use Rattle.xf_tree_walks.proofs.FirstLemmas.{depth_behind, first-append, first-parts, first-anywhere}
use Rattle.xf_tree_walks.proofs.RootLemmas.{tops-parts}
use Rattle.xf_tree_changes.specs.Below.{part_at, IsPlaced}
use Rattle.xf_tree_changes.proofs.MapLemmas.{live-append, whole-map}
use Rattle.xf_tree_changes.proofs.PartLemmas.{part-deep}
use Rattle.xf_tree_changes.proofs.RestLemmas.{rest-steps, rest-leaves, rest-first}
use Rattle.xf_tree_changes.proofs.PlacedLemmas.{below-stops}
use Rattle.xf_tree.specs.State.{IsSound, IsState}
use Rattle.xf_tree.proofs.FirstRowLemmas.{tree-first, attribute-tree, part-first}
use Rattle.xf_tree.proofs.ForestLemmas.{live-parts, live-reverse, tops-append, above-deep, first-low, depth-ignores}
use Rattle.xf_tree.proofs.DeepenLemmas.{live-deepened, times-shifted, depths-deepened, no-roots}
use Rattle.xf_tree.proofs.AttachLemmas.{goes_to, new-parts, new-nodes, same-sum}

-- ---- depths

most-append : (most : ℕ) (xs ys : List ℕ) → most_after most (xs ++ ys) ≡ most_after (most_after most xs) ys
most-append most [] ys = refl
most-append most (x ∷ xs) ys = most-append (suc x) xs ys

most-deep : (d most : ℕ) (xs : List ℕ) → d ≤ most → AllAbove d xs → d ≤ most_after most xs
most-deep d most [] h all = h
most-deep d most (x ∷ xs) h all = most-deep d (suc x) xs (omega (arith, all.0)) all.1

above-raised : (by : ℕ) (xs : List ℕ) → AllAbove by (map (λ d. d + by) xs)
above-raised by [] = tt
above-raised by (x ∷ xs) = let l : by ≤ x + by = omega arith in (l, above-raised by xs)

-- ---- leaves

from-deep : (s : Slab Slot) (d : ℕ) (rows : List Row) → AllDeep d rows → AllFrom d (map (λ (p : ℕ × Content). p.0) (parts_in (map (node_of s) rows)))
from-deep s d [] all = tt
from-deep s d (r ∷ rs) all = (all.0, from-deep s d rs all.1)

from-shifted : (d : ℕ) (xs : List Node) → AllFrom d (map (λ (p : ℕ × Content). p.0) (parts_in (map (shifted 0 d) xs)))
from-shifted d [] = tt
from-shifted d (x ∷ xs) = let l : d ≤ d + (x.depth - 0) = omega arith in (l, from-shifted d xs)

-- behind what is no leaf, and things as deep as what comes
leaves-behind : (d : ℕ) (us : List (ℕ × Content)) (p : ℕ × Content) (zs ys : List (ℕ × Content)) → is_leaf p.1 ≡ false → AreLeaves (us ++ (p ∷ zs)) → AllFrom d (map (λ (q : ℕ × Content). q.0) zs)
    → NotDeeper d ys → AreLeaves ys → AreLeaves (us ++ (p ∷ (zs ++ ys)))
leaves-behind d [] p zs ys bears a deep first b = (λ e. absurd (true≢false (sym e ∙ bears)), leaves-append d zs ys deep first a.1 b)
leaves-behind d (u ∷ []) p zs ys bears a deep first b = (a.0, leaves-behind d [] p zs ys bears a.1 deep first b)
leaves-behind d (u ∷ (v ∷ us)) p zs ys bears a deep first b = (a.0, leaves-behind d (v ∷ us) p zs ys bears a.1 deep first b)

element-behind : (e : ℕ) (c : Content) → is_element c ≡ true → attribute_depth e c ≡ e + 1
element-behind e Root is = absurd (false≢true is)
element-behind e (Element name) is = omega arith
element-behind e (Attribute name text) is = absurd (false≢true is)
element-behind e (Text text) is = absurd (false≢true is)

parent-behind : (e : ℕ) (c : Content) → is_leaf c ≡ false → (attribute_depth e c ≡ 0) ⊎ (e + 1 ≤ attribute_depth e c)
parent-behind e Root is = inl refl
parent-behind e (Element name) is = inr (omega arith)
parent-behind e (Attribute name text) is = absurd (true≢false is)
parent-behind e (Text text) is = inl refl

live-grown : (s : Slab Slot) (by d : ℕ) (ys tail : List Row) → AllLive s ys → AllLive s tail → AllLive s (grown by d ys tail)
live-grown s by d [] tail p q = q
live-grown s by d (y ∷ ys) tail p q =
    elim (cases_lt y.depth d) [
      | inl h ↦ rw (lt-true y.depth d h) (live-grown s by y.depth ys _ p.1 (p.0, q))
      | inr h ↦ rw (lt-false y.depth d h) (live-grown s by d ys (y ∷ tail) p.1 (p.0, q))
    ]

module _ (s : Slab Slot) (n m at above place next total size spare : ℕ) (kept : List ℕ) (old new : List Row) (state : IsState s old kept next total size spare) (here : StandsAt s old n at)
    (there : StandsAt s old m above) (top : (get_or old at no_row).depth ≡ 0) (p : IsPlaced at above place s old new) (plain : is_root (content_in (get s (get_or old at no_row).key)) ≡ false)
    (bears : is_leaf (content_in (get s (get_or old above no_row).key)) ≡ false)
    (holds : is_attribute (content_in (get s (get_or old at no_row).key)) ≡ true → is_element (content_in (get s (get_or old above no_row).key)) ≡ true) (is_sized : Sized new) where
  abbrev f : Row → Node
  f = node_of s

  abbrev W : List Row
  W = rest_of at old

  abbrev T : List Row
  T = tree_of (drop at old)

  abbrev d : ℕ
  d = (get_or old above no_row).depth + 1

  abbrev y : Row
  y = get_or (rest_of at old) p.over no_row

  abbrev later : List Row
  later = drop (p.over + 1) (rest_of at old)

  abbrev to : ℕ
  to = goes_to s n m at above place next kept old new state.sound here there top p

  -- how many rows after the parent stand before the tree
  abbrev i : ℕ
  i = part_at (y.depth + 1) place (content_in (get s (get_or old at no_row).key)) (map (node_of s) later)

  steps : AreSteps 0 (depths W) × AreSteps 0 (depths T)
  steps = rest-steps s at old here.within top state.sound.sized state.sound.steps

  leaves : AreLeaves (parts_in (map f W)) × AreLeaves (parts_in (map f T))
  leaves = rest-leaves s at old here.within top state.sound.sized state.sound.leaves

  deep : y.depth + 1 ≡ d
  deep = ap (λ (r : Row). r.depth + 1) p.row

  stops : deeper d (drop to W) ≡ 0
  stops = subst (λ k. deeper k (drop to W) ≡ 0) deep (below-stops s p.over place W _ p.within steps.0 leaves.0)

  passed : AllDeep d (take i later)
  passed = subst (λ k. AllDeep k (take i later)) deep (part-deep s (y.depth + 1) place _ later)

  front : take to W ≡ take p.over W ++ (y ∷ take i later)
  front = take-add (p.over + 1) i W ∙ ap (λ l. l ++ take i later) (take_more W p.over no_row p.within) ∙ append_assoc (take p.over W) (y ∷ []) (take i later)

  new-steps : AreSteps 0 (depths new)
  new-steps =
      let g : Row → ℕ = λ r. r.depth in
      let us = depths (take to W) in
      let vs = depths (drop to W) in
      let low = map (λ e. e + d) (depths T) in
      let w = steps-parts 0 us vs (subst (AreSteps 0) (ap depths (sym (take-append-drop to W)) ∙ map-append g (take to W) (drop to W)) steps.0) in
      let open_at : d ≤ most_after 0 us =
      let e = ap (most_after 0) (ap depths front ∙ map-append g (take p.over W) (y ∷ take i later)) ∙ most-append 0 (depths (take p.over W)) (y.depth ∷ depths (take i later)) in
      let l = most-deep d (suc y.depth) (depths (take i later)) (omega (arith, deep)) (above-deep d (take i later) passed) in
      omega (arith, e, l) in
      let raised : AreSteps (0 + d) low = steps-raised d 0 (depths T) steps.1 in
      let tree : AreSteps (most_after 0 us) low = steps-more (0 + d) (most_after 0 us) low (omega arith) raised in
      let most = most-deep d (most_after 0 us) low open_at (above-raised d (depths T)) in
      let back : AreSteps (most_after (most_after 0 us) low) vs = first-low d (most_after (most_after 0 us) low) (drop to W) stops most (most_after 0 us) w.1 in
      let is : depths new ≡ us ++ (low ++ vs) = new-parts s n m at above place next kept old new state.sound here there top p g depth-ignores ∙ ap (λ l. us ++ (l ++ vs)) (depths-deepened d T) in
      subst (AreSteps 0) (sym is) (steps-append 0 us (low ++ vs) w.0 (steps-append (most_after 0 us) low vs tree back))

  -- the rows that stay and all rows then, about the parent
  old-are : parts_in (map f W) ≡ (parts_in (map f (take p.over W)) ++ ((y.depth, content_in (get s y.key)) ∷ parts_in (map f (take i later)))) ++ parts_in (map f (drop to W))
  old-are =
      let us = map f (take p.over W) in
      let zs = map f (take i later) in
      let vs = map f (drop to W) in
      ap (λ l. parts_in (map f l)) (sym (take-append-drop to W)) ∙ ap parts_in (map-append f (take to W) (drop to W) ∙ ap (λ l. map f l ++ vs) front ∙ ap (λ l. l ++ vs) (map-append f (take p.over W) (y ∷ take i later)))
      ∙ parts-append (us ++ (f y ∷ zs)) vs ∙ ap (λ l. l ++ parts_in vs) (parts-append us (f y ∷ zs))

  new-are : parts_in (map f new)
      ≡ parts_in (map f (take p.over W)) ++ ((y.depth, content_in (get s y.key)) ∷ (parts_in (map f (take i later)) ++ (parts_in (map (shifted 0 d) (map f T)) ++ parts_in (map f (drop to W)))))
  new-are =
      let low = map (shifted 0 d) (map f T) in
      let us = map f (take p.over W) in
      let zs = map f (take i later) in
      let vs = map f (drop to W) in
      ap parts_in (new-nodes s n m at above place next kept old new state.sound here there top p ∙ ap (λ l. map f l ++ (low ++ vs)) front ∙ ap (λ l. l ++ (low ++ vs)) (map-append f (take p.over W) (y ∷ take i later))
      ∙ append_assoc us (f y ∷ zs) (low ++ vs)) ∙ parts-append us (f y ∷ (zs ++ (low ++ vs)))
      ∙ ap (λ l. parts_in us ++ ((y.depth, content_in (get s y.key)) ∷ l)) (parts-append zs (low ++ vs) ∙ ap (λ l. parts_in zs ++ l) (parts-append low vs))

  new-first : AreFirst 0 (parts_in (map f new))
  new-first =
      let c = content_in (get s (get_or old at no_row).key) in
      let us = parts_in (map f (take p.over W)) in
      let zs = parts_in (map f (take i later)) in
      let low = parts_in (map (shifted 0 d) (map f T)) in
      let vs = parts_in (map f (drop to W)) in
      let own = attribute_depth y.depth (content_in (get s y.key)) in
      let w = first-parts 0 us ((y.depth, content_in (get s y.key)) ∷ (zs ++ vs)) (subst (AreFirst 0) (old-are ∙ append_assoc us ((y.depth, content_in (get s y.key)) ∷ zs) vs) (rest-first s at old here.within top state.sound.sized state.sound.first)) in
      let element : is_attribute c ≡ true → own ≡ y.depth + 1 = λ is. element-behind y.depth (content_in (get s y.key)) (ap (λ (r : Row). is_element (content_in (get s r.key))) p.row ∙ holds is) in
      let under : (own ≡ 0) ⊎ (y.depth + 1 ≤ own) = parent-behind y.depth (content_in (get s y.key)) (ap (λ (r : Row). is_leaf (content_in (get s r.key))) p.row ∙ bears) in
      let split : parts_in (map f later) ≡ zs ++ vs =
      ap (λ l. parts_in (map f l)) (sym (take-append-drop i later)) ∙ ap parts_in (map-append f (take i later) (drop i later)) ∙ parts-append (map f (take i later)) (map f (drop i later))
      ∙ ap (λ l. zs ++ parts_in (map f l)) (drop-drop i (p.over + 1) W) in
      let part = part-first s (y.depth + 1) place own c later element under (subst (AreFirst own) (sym split) w.1.1) in
      let tree : AreFirst (depth_behind own zs) low =
      subst (λ k. AreFirst (depth_behind own zs) (parts_in (map (shifted k d) (map f T)))) top (tree-first s at d (depth_behind own zs) old here.within (λ is pos. sym (part.0 is ∙ deep)) state.sound.first) in
      let back : AreFirst (depth_behind (depth_behind own zs) low) vs = elim (cases_Bool (is_attribute c)) [
        | inl is ↦ subst (λ k. AreFirst k vs) (part.0 is ∙ deep ∙ sym (attribute-tree s at d (depth_behind own zs) old here.within top is leaves.1)) (first-parts own zs vs w.1.1).1
        | inr other ↦ first-anywhere _ vs (subst (AreFirst 0) (ap (λ l. parts_in (map f l)) (drop-drop i (p.over + 1) W)) (part.1 other))
      ] in
      subst (AreFirst 0) (sym new-are) (first-append 0 us ((y.depth, content_in (get s y.key)) ∷ (zs ++ (low ++ vs))) w.0 (w.1.0, first-append own zs (low ++ vs) (first-parts own zs vs w.1.1).0 (first-append (depth_behind own zs) low vs tree back)))

  new-leaves : AreLeaves (parts_in (map f new))
  new-leaves =
      let low = map (shifted 0 d) (map f T) in
      let us = map f (take p.over W) in
      let zs = map f (take i later) in
      let vs = map f (drop to W) in
      let part : ℕ × Content = (y.depth, content_in (get s y.key)) in
      let w = leaves-parts (parts_in us ++ (part ∷ parts_in zs)) (parts_in vs) (subst AreLeaves old-are leaves.0) in
      let back = leaves-append d (parts_in low) (parts_in vs) (from-shifted d (map f T)) (first-not_deeper s d (drop to W) stops) (leaves-shifted 0 d (map f T) leaves.1) w.1 in
      let first : NotDeeper d (parts_in low ++ parts_in vs) =
      subst (λ l. NotDeeper d (parts_in (map (shifted 0 d) (map f (tree_of l))) ++ parts_in vs)) (sym (split-at at old no_row here.within)) (omega (arith, top)) in
      let parent : is_leaf (content_in (get s y.key)) ≡ false = ap (λ (r : Row). is_leaf (content_in (get s r.key))) p.row ∙ bears in
      let all = leaves-behind d (parts_in us) part (parts_in zs) (parts_in low ++ parts_in vs) parent w.0 (from-deep s d (take i later) passed) first back in
      subst AreLeaves (sym new-are) all

  new-tops : AllTops (map f new)
  new-tops =
      let us = map f (take to W) in
      let vs = map f (drop to W) in
      let x = get_or old at no_row in
      let xs = drop (at + 1) old in
      let w = tops-parts (map f (take at old)) (map f T ++ map f (after_tree (drop at old))) (subst AllTops (whole-map f at old) state.sound.tops) in
      let v = tops-parts (map f T) (map f (after_tree (drop at old))) w.1 in
      let rest : AllTops (map f W) = subst AllTops (sym (map-append f (take at old) (after_tree (drop at old)))) (tops-append (map f (take at old)) (map f (after_tree (drop at old))) w.0 v.1) in
      let ab = tops-parts us vs (subst AllTops (ap (map f) (sym (take-append-drop to W)) ∙ map-append f (take to W) (drop to W)) rest) in
      let few : deeper x.depth xs ≤ deeper x.depth xs = omega arith in
      let sp = split-at at old no_row here.within in
      let tree : AllTops (map (shifted 0 d) (map f (tree_of (x ∷ xs)))) =
      (λ e. absurd (true≢false (sym e ∙ plain)), no-roots s x.depth d (take (deeper x.depth xs) xs) (deep-prefix x.depth (deeper x.depth xs) xs few) (subst (λ l. AllTops (map f (tree_of l))) sp v.0).1) in
      let tree2 : AllTops (map (shifted 0 d) (map f T)) = subst (λ l. AllTops (map (shifted 0 d) (map f (tree_of l)))) (sym sp) tree in
      subst AllTops (sym (new-nodes s n m at above place next kept old new state.sound here there top p)) (tops-append us (map (shifted 0 d) (map f T) ++ vs) ab.0 (tops-append (map (shifted 0 d) (map f T)) vs tree2 ab.1))

  new-live : AllLive s new
  new-live =
      let a = live-parts s (take at old) (drop at old) (subst (AllLive s) (sym (take-append-drop at old)) state.sound.live) in
      let b = live-parts s T (after_tree (drop at old)) (subst (AllLive s) (sym (tree-parts (drop at old))) a.1) in
      let w = live-parts s (take to W) (drop to W) (subst (AllLive s) (sym (take-append-drop to W)) (live-append s (take at old) (after_tree (drop at old)) a.0 b.1)) in
      subst (AllLive s) (sym p.rows) (live-grown s (length T) d (reverse (take to W)) (map (deepened d) T ++ drop to W) (live-reverse s (take to W) w.0)
      (live-append s (map (deepened d) T) (drop to W) (live-deepened s d T b.0) w.1))

  same : (X : List Node → ℕ) → ((xs ys : List Node) → X (xs ++ ys) ≡ X xs + X ys) → ((xs : List Node) → X (map (shifted 0 d) xs) ≡ X xs) → X (map f new) ≡ X (map f old)
  same = same-sum s n m at above place next kept old new state.sound here there top p

  new-length : length new ≡ length old
  new-length = sym (length-map new f) ∙ same length length-append (λ xs. length-map xs (shifted 0 d)) ∙ length-map old f

  new-sound : IsSound s new kept next
  new-sound = record {
    sized = is_sized;
    steps = new-steps;
    few = omega (arith, state.sound.few, new-length);
    live = new-live;
    kept_live = state.sound.kept_live;
    tops = new-tops;
    leaves = new-leaves;
    first = new-first;
    apart = λ k. omega (arith, state.sound.apart k, same (times k) (times-append k) (times-shifted k d));
    fresh = λ k h. omega (arith, state.sound.fresh k h, same (times k) (times-append k) (times-shifted k d));
  }

  pub placed-state : (spare2 : ℕ) → spare2 ≡ spare → IsState s new kept next total size spare2
  placed-state spare2 room = record {
    sound = new-sound;
    counted = record {
      count = state.counted.count ∙ sym (same node_count nodes-append (count-alike (shifted 0 d) (λ x. refl)));
      bytes = state.counted.bytes ∙ sym (same all_size sizes-append (size-alike (shifted 0 d) (λ x. refl)));
      small = state.counted.small;
    };
    room = omega (arith, state.room, new-length);
  }
