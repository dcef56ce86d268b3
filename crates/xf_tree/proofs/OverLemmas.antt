-- A root over a tree: what the rows stand for.
use Rattle.std.proofs.Common.{◌≡◌, ℕ, suc, ◌+◌, ◌<◌, ◌≤◌, ◌^◌, true, false, if◌then◌else◌, List, [], ◌∷◌, ◌++◌, map, length, take, drop, get_or, IsSome, append_assoc, refl, sym, ap, ◌∙◌, subst, inl, inr, arith, length-append, add-one}
use Rattle.std.proofs.lemmas.List.{take-append-drop, map-append, length-map}
use Rattle.std.proofs.lemmas.Bool.{cases_Bool, true≢false, false≢true}
use Rattle.slab.specs.Slab.{Slab, get}
use Rattle.xf_def_forest.specs.declared.content.Node.{Node}
use Rattle.xf_def_forest.specs.declared.content.Content.{Content}
use Rattle.xf_def_forest.specs.declared.content.Content.TheVariants.{Root, Element, Attribute, Text}
use Rattle.xf_def_forest.specs.Forest.{Forest, first_tree, tree_of, is_root, is_element, is_attribute}
use Rattle.xf_def_forest.specs.Changes.{shifted, moved_to, without_tree, in_instances, in_detached, with_root, is_detached_top}
use Rattle.xf_def_forest.specs.Limits.{node_count, all_size}
use Rattle.xf_tree_rows.specs.declared.rows.Row.{Row}
use Rattle.xf_tree_rows.specs.Rows.{Sized, deeper, deepened, tree_of as row_tree, after_tree, rest_of, AreSteps, depths, no_row}
use Rattle.xf_tree_rows.proofs.SizedLemmas.{lt-true, lt-false, sized-append, sized-front}
use Rattle.xf_tree_rows.proofs.CutLemmas.{all-deep-zero, tree-parts}
use Rattle.xf_tree_rows.proofs.PasteLemmas.{deepened-sized}
use Rattle.xf_tree_rows.proofs.RowLemmas.{split-at}
use Rattle.xf_tree_rows.proofs.ParentLemmas.{deep-prefix}
use Rattle.xf_tree_rows.proofs.RootedLemmas.{first-zero, rest-sized}
use Rattle.xf_tree_contents.specs.Slot.{Slot}
use Rattle.xf_tree_contents.specs.Keys.{number_in, content_in, kept_times}
use Rattle.xf_tree_contents.proofs.AlikeLemmas.{eq-true}
use Rattle.xf_tree_contents.proofs.FreeLemmas.{same-key}
use Rattle.xf_tree_walks.specs.Leaves.{parts_in, AreLeaves}
use Rattle.xf_tree_walks.specs.First.{AreFirst}
use Rattle.xf_tree_walks.specs.Nodes.{node_of, times, AllLive, AllTops, StandsAt}
use Rattle.xf_tree_walks.proofs.NodeLemmas.{parted-without, parted-from, times-append, eq-false}
use Rattle.xf_tree_walks.proofs.PlaceLemmas.{stands, below-is, past-is}
use Rattle.xf_tree_walks.proofs.CountLemmas.{nodes-append, sizes-append, count-alike, size-alike}
use Rattle.xf_tree_walks.proofs.StepLemmas.{most_after, steps-append, steps-parts, steps-raised}
use Rattle.xf_tree_walks.proofs.LeafLemmas.{leaves-top, leaves-parts, leaves-shifted, parts-append, first-not_deeper}
use Rattle.xf_tree_walks.proofs.FirstLemmas.{depth_behind, first-append, first-parts, first-top}
use Rattle.xf_tree_walks.proofs.RootLemmas.{tops-parts}
use Rattle.xf_tree_changes.specs.Trees.{KeepsLive, IsOver}
use Rattle.xf_tree_changes.proofs.FirstRowLemmas.{without-first}
use Rattle.xf_tree_changes.proofs.MapLemmas.{live-append, whole-map}
use Rattle.xf_tree_changes.proofs.RestLemmas.{without-leaves}
use Rattle.xf_tree_changes.proofs.PushLemmas.{kept-nodes, kept-live, insert-keeps, small-insert}
use Rattle.xf_tree.specs.State.{IsSound, IsState, keeping_of}
use Rattle.xf_tree.proofs.DeepenLemmas.{lowered, live-deepened, times-shifted, depths-deepened, no-roots}
use Rattle.xf_tree.proofs.MeansLemmas.{one_of}
use Rattle.xf_tree.proofs.FirstRowLemmas.{tree-first}
use Rattle.xf_tree.proofs.ForestLemmas.{live-parts, tops-append}
use Rattle.xf_tree.proofs.AddLemmas.{kept-same, kept-texts}

-- what is not among the instances is detached
instances-rest : (nodes front rest : List Node) → nodes ≡ front ++ rest → front ≡ in_instances nodes → rest ≡ in_detached nodes
instances-rest nodes front rest e f = same_end front rest (in_detached nodes) (sym e ∙ both nodes ∙ ap (λ l. l ++ in_detached nodes) (sym f))
  where
    both : (nodes : List Node) → nodes ≡ in_instances nodes ++ in_detached nodes
    both [] = refl
    both (x ∷ xs) = elim (cases_Bool (is_detached_top x)) [ inl q ↦ rw q refl | inr q ↦ rw q (ap (λ l. x ∷ l) (both xs)) ]

    same_end : (us vs ws : List Node) → us ++ vs ≡ us ++ ws → vs ≡ ws
    same_end [] vs ws h = h
    same_end (u ∷ us) vs ws h = let t : us ++ vs ≡ us ++ ws = cc in same_end us vs ws t

all-one : (rows : List Row) → deeper 0 (map (deepened 1) rows) ≡ length rows
all-one [] = refl
all-one (r ∷ rs) = let l : 0 < r.depth + 1 = omega arith in rw (lt-true 0 (r.depth + 1) l) (ap suc (all-one rs))

element-plain : (c : Content) → is_element c ≡ true → (is_root c ≡ false) × (is_attribute c ≡ false)
element-plain Root e = absurd (false≢true e)
element-plain (Element name) e = (refl, refl)
element-plain (Attribute name text) e = absurd (false≢true e)
element-plain (Text text) e = absurd (false≢true e)

module _ (s s2 : Slab Slot) (n at key next total size spare : ℕ) (old new : List Row) (kept : List ℕ) (state : IsState s old kept next total size spare) (here : StandsAt s old n at)
    (top : (get_or old at no_row).depth ≡ 0) (over : IsOver at next key s s2 old new) where
  keeps : KeepsLive s s2
  keeps = insert-keeps s s2 key _ over.vacant over.slot

  split : (X : List Node → ℕ) → ((xs ys : List Node) → X (xs ++ ys) ≡ X xs + X ys)
      → X (map (node_of s) old) ≡ X (map (node_of s) (take over.place (rest_of at old))) + X (map (node_of s) (drop over.place (rest_of at old))) + X (map (node_of s) (row_tree (drop at old)))
  split X add =
      let f = node_of s in
      let us = map f (take at old) in
      let tree = map f (row_tree (drop at old)) in
      let after = map f (after_tree (drop at old)) in
      let a = ap X (whole-map f at old) ∙ add us (tree ++ after) in
      let b = add tree after in
      let c = ap X (map-append f (take at old) (after_tree (drop at old))) ∙ add us after in
      let d = ap (λ l. X (map f l)) (sym (take-append-drop over.place (rest_of at old))) ∙ ap X (map-append f (take over.place (rest_of at old)) (drop over.place (rest_of at old)))
      ∙ add (map f (take over.place (rest_of at old))) (map f (drop over.place (rest_of at old))) in
      omega arith

  live-old : AllLive s (take over.place (rest_of at old)) × AllLive s (drop over.place (rest_of at old)) × AllLive s (row_tree (drop at old))
  live-old =
      let a = live-parts s (take at old) (drop at old) (subst (AllLive s) (sym (take-append-drop at old)) state.sound.live) in
      let b = live-parts s (row_tree (drop at old)) (after_tree (drop at old)) (subst (AllLive s) (sym (tree-parts (drop at old))) a.1) in
      let c = live-parts s (take over.place (rest_of at old)) (drop over.place (rest_of at old)) (subst (AllLive s) (sym (take-append-drop over.place (rest_of at old))) (live-append s (take at old) (after_tree (drop at old)) a.0 b.1)) in
      (c.0, c.1, b.0)

  pub over-nodes : map (node_of s2) new
      ≡ map (node_of s) (take over.place (rest_of at old))
      ++ ((record { number = next; depth = 0; content = Root } ∷ map (shifted 0 1) (map (node_of s) (row_tree (drop at old)))) ++ map (node_of s) (drop over.place (rest_of at old)))
  over-nodes =
      let f2 = node_of s2 in
      let A = take over.place (rest_of at old) in
      let B = drop over.place (rest_of at old) in
      let T = row_tree (drop at old) in
      let R : Row = record { key = key; size = length T + 1; depth = 0 } in
      let root : f2 R ≡ record { number = next; depth = 0; content = Root } = ap (λ o. record { number = number_in o; depth = 0; content = content_in o }) over.slot.changed in
      let a = kept-nodes s s2 A live-old.0 keeps in
      let b = kept-nodes s s2 B live-old.1 keeps in
      let t = lowered s2 1 T ∙ ap (map (shifted 0 1)) (kept-nodes s s2 T live-old.2 keeps) in
      ap (map f2) over.rows ∙ map-append f2 A ((R ∷ map (deepened 1) T) ++ B) ∙ ap (λ l. map f2 A ++ l) (map-append f2 (R ∷ map (deepened 1) T) B)
      ∙ ap (λ l. l ++ ((f2 R ∷ map f2 (map (deepened 1) T)) ++ map f2 B)) a
      ∙ ap (λ r. map (node_of s) A ++ ((r ∷ map f2 (map (deepened 1) T)) ++ map f2 B)) root
      ∙ ap (λ l. map (node_of s) A ++ ((record { number = next; depth = 0; content = Root } ∷ l) ++ map f2 B)) t
      ∙ ap (λ l. map (node_of s) A ++ ((record { number = next; depth = 0; content = Root } ∷ map (shifted 0 1) (map (node_of s) T)) ++ l)) b

  -- what adds over lists: the new node comes to what there was
  more : (X : List Node → ℕ) → ((xs ys : List Node) → X (xs ++ ys) ≡ X xs + X ys) → ((xs : List Node) → X (map (shifted 0 1) xs) ≡ X xs) → (r : ℕ)
      → X (record { number = next; depth = 0; content = Root } ∷ []) ≡ r → X (map (node_of s2) new) ≡ X (map (node_of s) old) + r
  more X add alike r one =
      let A = map (node_of s) (take over.place (rest_of at old)) in
      let B = map (node_of s) (drop over.place (rest_of at old)) in
      let T = map (node_of s) (row_tree (drop at old)) in
      let root : Node = record { number = next; depth = 0; content = Root } in
      let a = ap X over-nodes ∙ add A ((root ∷ map (shifted 0 1) T) ++ B) in
      let b = add (root ∷ map (shifted 0 1) T) B in
      let c = add (root ∷ []) (map (shifted 0 1) T) in
      omega (arith, a, b, c, alike T, split X add, one)

  pub over-length : length new ≡ length old + 1
  over-length =
      let A = take over.place (rest_of at old) in
      let B = drop over.place (rest_of at old) in
      let T = row_tree (drop at old) in
      let R : Row = record { key = key; size = length T + 1; depth = 0 } in
      let a = ap length over.rows ∙ length-append A ((R ∷ map (deepened 1) T) ++ B) in
      let b = length-append (R ∷ map (deepened 1) T) B in
      let c = length-map T (deepened 1) in
      let d = ap length (sym (take-append-drop over.place (rest_of at old))) ∙ length-append A B in
      let e = length-append (take at old) (after_tree (drop at old)) in
      let g = ap length (sym (tree-parts (drop at old))) ∙ length-append T (after_tree (drop at old)) in
      let h = ap length (sym (take-append-drop at old)) ∙ length-append (take at old) (drop at old) in
      omega arith

  over-sized : Sized new
  over-sized =
      let A = take over.place (rest_of at old) in
      let B = drop over.place (rest_of at old) in
      let T = row_tree (drop at old) in
      let R : Row = record { key = key; size = length T + 1; depth = 0 } in
      let r = rest-sized at old here.within top state.sound.sized in
      let ab = sized-front 0 A B (all-deep-zero A) over.stops (subst Sized (sym (take-append-drop over.place (rest_of at old))) r.0) in
      let size_is : length T + 1 ≡ deeper 0 (map (deepened 1) T) + 1 = ap (λ k. k + 1) (sym (all-one T)) in
      let tree : Sized (R ∷ map (deepened 1) T) = (size_is, deepened-sized 1 T r.2) in
      let back = sized-append 0 (R ∷ map (deepened 1) T) B (all-deep-zero (R ∷ map (deepened 1) T)) over.stops tree ab.1 in
      subst Sized (sym over.rows) (sized-append 0 A ((R ∷ map (deepened 1) T) ++ B) (all-deep-zero A) refl ab.0 back)

  over-steps : AreSteps 0 (depths new)
  over-steps =
      let g : Row → ℕ = λ r. r.depth in
      let A = take over.place (rest_of at old) in
      let B = drop over.place (rest_of at old) in
      let T = row_tree (drop at old) in
      let after = after_tree (drop at old) in
      let R : Row = record { key = key; size = length T + 1; depth = 0 } in
      let r = rest-sized at old here.within top state.sound.sized in
      let whole = steps-parts 0 (depths (take at old)) (depths (drop at old)) (subst (AreSteps 0) (ap depths (sym (take-append-drop at old)) ∙ map-append g (take at old) (drop at old)) state.sound.steps) in
      let ta = subst (AreSteps (most_after 0 (depths (take at old)))) (ap depths (sym (tree-parts (drop at old))) ∙ map-append g T after) whole.1 in
      let parts = steps-parts (most_after 0 (depths (take at old))) (depths T) (depths after) ta in
      let W : AreSteps 0 (depths (rest_of at old)) = subst (AreSteps 0) (sym (map-append g (take at old) after)) (steps-append 0 (depths (take at old)) (depths after) whole.0 (first-zero after _ r.1 parts.1 (most_after 0 (depths (take at old))))) in
      let ab = steps-parts 0 (depths A) (depths B) (subst (AreSteps 0) (ap depths (sym (take-append-drop over.place (rest_of at old))) ∙ map-append g A B) W) in
      let zero_first : deeper 0 T ≡ 0 = ap (λ l. deeper 0 (row_tree l)) (split-at at old no_row here.within) ∙ rw (lt-false 0 (get_or old at no_row).depth (omega arith)) refl in
      let t0 : AreSteps 0 (depths T) = first-zero T _ zero_first parts.0 0 in
      let one : 0 + 1 ≡ suc 0 = omega arith in
      let t1 : AreSteps (suc 0) (depths (map (deepened 1) T)) = subst (AreSteps (suc 0)) (sym (depths-deepened 1 T)) (subst (λ m. AreSteps m (map (λ d. d + 1) (depths T))) one (steps-raised 1 0 (depths T) t0)) in
      let least : 0 ≤ most_after 0 (depths A) = omega arith in
      let is : depths new ≡ depths A ++ ((0 ∷ depths (map (deepened 1) T)) ++ depths B) =
      ap depths over.rows ∙ map-append g A ((R ∷ map (deepened 1) T) ++ B) ∙ ap (λ l. depths A ++ l) (map-append g (R ∷ map (deepened 1) T) B) in
      subst (AreSteps 0) (sym is) (steps-append 0 (depths A) _ ab.0 (steps-append (most_after 0 (depths A)) (0 ∷ depths (map (deepened 1) T)) (depths B) (least, t1) (first-zero B _ over.stops ab.1 _)))

  over-live : AllLive s2 new
  over-live =
      let A = take over.place (rest_of at old) in
      let B = drop over.place (rest_of at old) in
      let T = row_tree (drop at old) in
      let R : Row = record { key = key; size = length T + 1; depth = 0 } in
      let root : IsSome (get s2 key) = subst IsSome (sym over.slot.changed) refl in
      subst (AllLive s2) (sym over.rows) (live-append s2 A ((R ∷ map (deepened 1) T) ++ B) (kept-live s s2 A live-old.0 keeps)
      (live-append s2 (R ∷ map (deepened 1) T) B (root, live-deepened s2 1 T (kept-live s s2 T live-old.2 keeps)) (kept-live s s2 B live-old.1 keeps)))

  over-tops : is_root (content_in (get s (get_or old at no_row).key)) ≡ false → AllTops (map (node_of s2) new)
  over-tops plain =
      let f = node_of s in
      let A = map f (take over.place (rest_of at old)) in
      let B = map f (drop over.place (rest_of at old)) in
      let x = get_or old at no_row in
      let xs = drop (at + 1) old in
      let T = row_tree (drop at old) in
      let root : Node = record { number = next; depth = 0; content = Root } in
      let w = tops-parts (map f (take at old)) (map f T ++ map f (after_tree (drop at old))) (subst AllTops (whole-map f at old) state.sound.tops) in
      let v = tops-parts (map f T) (map f (after_tree (drop at old))) w.1 in
      let W : AllTops (map f (rest_of at old)) = subst AllTops (sym (map-append f (take at old) (after_tree (drop at old)))) (tops-append (map f (take at old)) (map f (after_tree (drop at old))) w.0 v.1) in
      let ab = tops-parts A B (subst AllTops (ap (map f) (sym (take-append-drop over.place (rest_of at old))) ∙ map-append f (take over.place (rest_of at old)) (drop over.place (rest_of at old))) W) in
      let few : deeper x.depth xs ≤ deeper x.depth xs = omega arith in
      let deep = deep-prefix x.depth (deeper x.depth xs) xs few in
      let sp = split-at at old no_row here.within in
      let vt = subst (λ l. AllTops (map f (row_tree l))) sp v.0 in
      let tree : AllTops (map (shifted 0 1) (map f (row_tree (x ∷ xs)))) = (λ e. absurd (true≢false (sym e ∙ plain)), no-roots s x.depth 1 (take (deeper x.depth xs) xs) deep vt.1) in
      let tree2 : AllTops (map (shifted 0 1) (map f T)) = subst (λ l. AllTops (map (shifted 0 1) (map f (row_tree l)))) (sym sp) tree in
      subst AllTops (sym over-nodes) (tops-append A ((root ∷ map (shifted 0 1) (map f T)) ++ B) ab.0 (tops-append (root ∷ map (shifted 0 1) (map f T)) B (λ e. refl, tree2) ab.1))

  -- the rows that stay, and all rows then
  rest-parts : parts_in (map (node_of s) (take at old)) ++ parts_in (map (node_of s) (after_tree (drop at old)))
      ≡ parts_in (map (node_of s) (take over.place (rest_of at old))) ++ parts_in (map (node_of s) (drop over.place (rest_of at old)))
  rest-parts =
      let f = node_of s in
      let us = map f (take at old) in
      let after = map f (after_tree (drop at old)) in
      let A = map f (take over.place (rest_of at old)) in
      let B = map f (drop over.place (rest_of at old)) in
      let both : us ++ after ≡ A ++ B = sym (map-append f (take at old) (after_tree (drop at old))) ∙ ap (map f) (sym (take-append-drop over.place (rest_of at old)))
      ∙ map-append f (take over.place (rest_of at old)) (drop over.place (rest_of at old)) in
      sym (parts-append us after) ∙ ap parts_in both ∙ parts-append A B

  over-parts : parts_in (map (node_of s2) new)
      ≡ parts_in (map (node_of s) (take over.place (rest_of at old)))
      ++ (parts_in (record { number = next; depth = 0; content = Root } ∷ map (shifted 0 1) (map (node_of s) (row_tree (drop at old)))) ++ parts_in (map (node_of s) (drop over.place (rest_of at old))))
  over-parts =
      let f = node_of s in
      let A = map f (take over.place (rest_of at old)) in
      let B = map f (drop over.place (rest_of at old)) in
      let root : Node = record { number = next; depth = 0; content = Root } in
      let below = root ∷ map (shifted 0 1) (map f (row_tree (drop at old))) in
      ap parts_in over-nodes ∙ parts-append A (below ++ B) ∙ ap (λ l. parts_in A ++ l) (parts-append below B)

  over-first : is_attribute (content_in (get s (get_or old at no_row).key)) ≡ false → AreFirst 0 (parts_in (map (node_of s2) new))
  over-first plain =
      let f = node_of s in
      let A = parts_in (map f (take over.place (rest_of at old))) in
      let B = parts_in (map f (drop over.place (rest_of at old))) in
      let root : Node = record { number = next; depth = 0; content = Root } in
      let T = map (shifted 0 1) (map f (row_tree (drop at old))) in
      let below = parts_in (root ∷ T) in
      let ab = first-parts 0 A B (subst (AreFirst 0) rest-parts (without-first s at old here.within state.sound.first)) in
      let tree = tree-first s at 1 0 old here.within (λ is pos. absurd (true≢false (sym is ∙ plain))) state.sound.first in
      let own : AreFirst 0 (parts_in T) = subst (λ d. AreFirst 0 (parts_in (map (shifted d 1) (map f (row_tree (drop at old)))))) top tree in
      let back = first-top (depth_behind (depth_behind 0 A) below) (depth_behind 0 A) B (first-not_deeper s 0 (drop over.place (rest_of at old)) over.stops) ab.1 in
      subst (AreFirst 0) (sym over-parts) (first-append 0 A (below ++ B) ab.0 (first-append (depth_behind 0 A) below B ((λ is pos. absurd (false≢true is)), own) back))

  over-leaves : AreLeaves (parts_in (map (node_of s2) new))
  over-leaves =
      let f = node_of s in
      let T = map f (row_tree (drop at old)) in
      let A = map f (take over.place (rest_of at old)) in
      let B = map f (drop over.place (rest_of at old)) in
      let root : Node = record { number = next; depth = 0; content = Root } in
      let below = root ∷ map (shifted 0 1) T in
      let w = without-leaves s at old here.within state.sound.leaves in
      let ab = leaves-parts (parts_in A) (parts_in B) (subst AreLeaves rest-parts w.0) in
      let back = leaves-top (parts_in below) (parts_in B) (first-not_deeper s 0 (drop over.place (rest_of at old)) over.stops) (λ e. absurd (false≢true e), leaves-shifted 0 1 T w.1) ab.1 in
      let first : 0 ≤ 0 = omega arith in
      subst AreLeaves (sym over-parts) (leaves-top (parts_in A) (parts_in below ++ parts_in B) first ab.0 back)

  over-sound : is_element (content_in (get s (get_or old at no_row).key)) ≡ true → length old + 1 + length kept < 2 ^ 31 → IsSound s2 new kept (next + 1)
  over-sound element few = record {
    sized = over-sized;
    steps = over-steps;
    few = omega (arith, over-length);
    live = over-live;
    kept_live = kept-texts s s2 kept state.sound.kept_live keeps;
    tops = over-tops (element-plain _ element).0;
    leaves = over-leaves;
    first = over-first (element-plain _ element).1;
    apart = λ m.
        let t = more (times m) (times-append m) (times-shifted m 1) _ refl in
        let k = ap (kept_times m) (kept-same s s2 kept state.sound.kept_live keeps) in
        elim (same-key next m) [
          | inl ne ↦ (let z = ap {B = ℕ} (λ b. if b then 1 else 0) (eq-false next m ne) in omega (arith, state.sound.apart m))
          | inr e ↦ (let z = ap {B = ℕ} (λ b. if b then 1 else 0) (eq-true next m e) in let h : next ≤ m = omega arith in omega (arith, state.sound.fresh m h))
        ];
    fresh = λ m h.
        let t = more (times m) (times-append m) (times-shifted m 1) _ refl in
        let k = ap (kept_times m) (kept-same s s2 kept state.sound.kept_live keeps) in
        let z = ap {B = ℕ} (λ b. if b then 1 else 0) (eq-false next m (λ e. let w : ⊥ = omega arith in w)) in
        let g : next ≤ m = omega arith in
        omega (arith, state.sound.fresh m g);
  }

  pub over-state : (spare2 : ℕ) → is_element (content_in (get s (get_or old at no_row).key)) ≡ true → length old + 1 + length kept < 2 ^ 31 → length old + 1 + length kept ≤ spare2
      → IsState s2 new kept (next + 1) total size spare2
  over-state spare2 element few most = record {
    sound = over-sound element few;
    counted = record {
      count = omega (arith, state.counted.count, more node_count nodes-append (count-alike (shifted 0 1) (λ x. refl)) 0 refl);
      bytes = omega (arith, state.counted.bytes, more all_size sizes-append (size-alike (shifted 0 1) (λ x. refl)) 0 refl);
      small = small-insert s s2 key _ state.counted.small (omega arith) over.slot;
    };
    room = omega (arith, over-length);
  }

  pub over-view : (next, (keeping_of s2 new kept (next + 1)).forest) ≡ with_root n (keeping_of s old kept next).forest
  over-view =
      let f = node_of s in
      let few = one_of s old kept next n state.sound in
      let x = get_or old at no_row in
      let xs = drop (at + 1) old in
      let sp = split-at at old no_row here.within in
      let p = stands s n at old here few in
      let W = map f (rest_of at old) in
      let A = map f (take over.place (rest_of at old)) in
      let B = map f (drop over.place (rest_of at old)) in
      let T = map f (row_tree (drop at old)) in
      let root : Node = record { number = next; depth = 0; content = Root } in
      let w : without_tree n (map f old) ≡ W =
      parted-without n _ _ _ _ p ∙ ap (λ l. map f (take at old) ++ l) (past-is s x.depth xs ∙ ap (λ l. map f (after_tree l)) (sym sp)) ∙ sym (map-append f (take at old) (after_tree (drop at old))) in
      let t : tree_of n (map f old) ≡ map f (row_tree (x ∷ xs)) = ap first_tree (parted-from n _ _ _ _ p) ∙ ap (λ l. f x ∷ l) (below-is s x.depth xs) in
      let m : moved_to 1 (tree_of n (map f old)) ≡ map (shifted 0 1) T =
      ap (moved_to 1) t ∙ ap (λ d. map (shifted d 1) (map f (row_tree (x ∷ xs)))) top ∙ ap (λ l. map (shifted 0 1) (map f (row_tree l))) (sym sp) in
      let whole : W ≡ A ++ B = ap (map f) (sym (take-append-drop over.place (rest_of at old))) ∙ map-append f (take over.place (rest_of at old)) (drop over.place (rest_of at old)) in
      let first : A ≡ in_instances W = over.instances in
      let back : B ≡ in_detached W = instances-rest W A B whole first in
      let nodes : map (node_of s2) new ≡ (in_instances (without_tree n (map f old)) ++ (root ∷ moved_to 1 (tree_of n (map f old)))) ++ in_detached (without_tree n (map f old)) =
      over-nodes ∙ sym (append_assoc A (root ∷ map (shifted 0 1) T) B)
      ∙ ap (λ l. (l ++ (root ∷ map (shifted 0 1) T)) ++ B) (first ∙ ap in_instances (sym w))
      ∙ ap (λ l. (in_instances (without_tree n (map f old)) ++ (root ∷ l)) ++ B) (sym m)
      ∙ ap (λ l. (in_instances (without_tree n (map f old)) ++ (root ∷ moved_to 1 (tree_of n (map f old)))) ++ l) (back ∙ ap in_detached (sym w)) in
      let whole_forest : List Node → ℕ → ℕ × Forest = λ l k. (next, record { nodes = l; next = k }) in
      ap (λ l. whole_forest l (next + 1)) nodes ∙ ap (whole_forest _) (add-one next)
