-- The invariant after a cut.
use Rattle.std.proofs.Common.{◌≡◌, ℕ, ◌<◌, List, ◌++◌, map, length, take, drop, reverse, length-append, subst, append_assoc, refl, sym, ap, ◌∙◌, arith, get_or}
use Rattle.std.proofs.lemmas.List.{take-append-drop, length-map}
use Rattle.slab.specs.Slab.{Slab}
use Rattle.xf_def_forest.specs.Changes.{shifted}
use Rattle.xf_tree_rows.specs.declared.rows.Row.{Row}
use Rattle.xf_tree_rows.specs.Rows.{Sized, raised, tree_of, after_tree, top_depth, IsCut, no_row}
use Rattle.xf_tree_rows.proofs.CutLemmas.{tree-parts}
use Rattle.xf_tree_rows.proofs.RowLemmas.{split-at}
use Rattle.xf_tree_contents.specs.Slot.{Slot}
use Rattle.xf_tree_walks.specs.Leaves.{parts_in, NotDeeper, AreLeaves}
use Rattle.xf_tree_walks.specs.First.{AreFirst}
use Rattle.xf_tree_walks.specs.Nodes.{node_of, AllLive, AllTops}
use Rattle.xf_tree_walks.proofs.FirstLemmas.{depth_behind, first-append, first-anywhere}
use Rattle.xf_tree_walks.proofs.LeafLemmas.{leaves-top, leaves-shifted, parts-append}
use Rattle.xf_tree_walks.proofs.RootLemmas.{tops-parts}
use Rattle.xf_tree_changes.proofs.FirstRowLemmas.{without-first}
use Rattle.xf_tree_changes.proofs.MapLemmas.{whole-map, live-append}
use Rattle.xf_tree_changes.proofs.RestLemmas.{without-leaves}
use Rattle.xf_tree.specs.State.{IsSound, IsState}
use Rattle.xf_tree.proofs.FirstRowLemmas.{tree-first}
use Rattle.xf_tree.proofs.ForestLemmas.{cut-map, node-ignores, depth-ignores, map-lifted, cut-times, cut-counted, cut-stepped, live-parts, live-shrunk, live-reverse, live-raised, tops-append, tops-lifted}

-- the nodes after a cut
cut-parts : (s : Slab Slot) (at : ℕ) (old new : List Row) → IsCut at old new
    → parts_in (map (node_of s) new)
    ≡ (parts_in (map (node_of s) (take at old)) ++ parts_in (map (node_of s) (after_tree (drop at old)))) ++ parts_in (map (shifted (top_depth (drop at old)) 0) (map (node_of s) (tree_of (drop at old))))
cut-parts s at old new is_cut =
    let f = node_of s in
    let here = drop at old in
    let us = map f (take at old) in
    let after = map f (after_tree here) in
    let low = map (shifted (top_depth here) 0) (map f (tree_of here)) in
    ap parts_in (cut-map f (node-ignores s) at old new is_cut ∙ ap (λ l. us ++ (after ++ l)) (map-lifted s (top_depth here) (tree_of here)) ∙ sym (append_assoc us after low))
    ∙ parts-append (us ++ after) low ∙ ap (λ l. l ++ parts_in low) (parts-append us after)

cut-first : (s : Slab Slot) (at : ℕ) (old new : List Row) → at < length old → IsCut at old new → AreFirst 0 (parts_in (map (node_of s) old)) → AreFirst 0 (parts_in (map (node_of s) new))
cut-first s at old new h is_cut first =
    let f = node_of s in
    let here = drop at old in
    let before = parts_in (map f (take at old)) ++ parts_in (map f (after_tree here)) in
    let low = parts_in (map (shifted (top_depth here) 0) (map f (tree_of here))) in
    let tree = tree-first s at 0 0 old h (λ is pos. refl) first in
    let depth : (get_or old at no_row).depth ≡ top_depth here = ap top_depth (sym (split-at at old no_row h)) in
    let own : AreFirst 0 low = subst (λ d. AreFirst 0 (parts_in (map (shifted d 0) (map f (tree_of here))))) depth tree in
    subst (AreFirst 0) (sym (cut-parts s at old new is_cut)) (first-append 0 before low (without-first s at old h first) (first-anywhere (depth_behind 0 before) low own))

cut-leaves : (s : Slab Slot) (at : ℕ) (old new : List Row) → at < length old → IsCut at old new → AreLeaves (parts_in (map (node_of s) old)) → AreLeaves (parts_in (map (node_of s) new))
cut-leaves s at old new h is_cut leaves =
    let f = node_of s in
    let here = drop at old in
    let us = map f (take at old) in
    let after = map f (after_tree here) in
    let low = map (shifted (top_depth here) 0) (map f (tree_of here)) in
    let w = without-leaves s at old h leaves in
    let top : NotDeeper 0 (parts_in low) = subst (λ l. NotDeeper 0 (parts_in (map (shifted (top_depth l) 0) (map f (tree_of l))))) (sym (split-at at old no_row h)) (omega arith) in
    subst AreLeaves (sym (cut-parts s at old new is_cut)) (leaves-top (parts_in us ++ parts_in after) (parts_in low) top w.0 (leaves-shifted (top_depth here) 0 (map f (tree_of here)) w.1))

pub cut-length : (at : ℕ) (old new : List Row) → IsCut at old new → length new ≡ length old
cut-length at old new is_cut =
    let g : Row → ℕ = λ r. r.depth in
    let here = drop at old in
    let low = map (raised (top_depth here)) (tree_of here) in
    let a = ap length (cut-map g depth-ignores at old new is_cut) in
    let b = ap length (whole-map g at old) in
    omega (
      arith,
      a,
      b,
      length-map new g,
      length-map old g,
      length-append (map g (take at old)) (map g (after_tree here) ++ map g low),
      length-append (map g (after_tree here)) (map g low),
      length-append (map g (take at old)) (map g (tree_of here) ++ map g (after_tree here)),
      length-append (map g (tree_of here)) (map g (after_tree here)),
      length-map low g,
      length-map (tree_of here) (raised (top_depth here)),
      length-map (tree_of here) g,
    )

pub cut-sound : (s : Slab Slot) (at next : ℕ) (kept : List ℕ) (old new : List Row) → IsSound s old kept next → at < length old → Sized new → IsCut at old new → IsSound s new kept next
cut-sound s at next kept old new sound h is_sized is_cut =
    let f = node_of s in
    let here = drop at old in
    let p = live-parts s (take at old) here (subst (AllLive s) (sym (take-append-drop at old)) sound.live) in
    let q = live-parts s (tree_of here) (after_tree here) (subst (AllLive s) (sym (tree-parts here)) p.1) in
    let us = map f (take at old) in
    let tree = map f (tree_of here) in
    let after = map f (after_tree here) in
    let t1 = tops-parts us (tree ++ after) (subst AllTops (whole-map f at old) sound.tops) in
    let t2 = tops-parts tree after t1.1 in
    let low : AllTops (map f (map (raised (top_depth here)) (tree_of here))) = subst AllTops (sym (map-lifted s (top_depth here) (tree_of here))) (tops-lifted (top_depth here) tree t2.0) in
    record {
      sized = is_sized;
      steps = cut-stepped at old new h is_cut sound.steps;
      few = omega (arith, sound.few, cut-length at old new is_cut);
      tops = subst AllTops (sym (cut-map f (node-ignores s) at old new is_cut)) (tops-append us _ t1.0 (tops-append after _ t2.1 low));
      apart = λ n. let e = cut-times s n at old new is_cut in let l = sound.apart n in omega (arith, e, l);
      fresh = λ n g. let e = cut-times s n at old new is_cut in let l = sound.fresh n g in omega (arith, e, l);
      kept_live = sound.kept_live;
      leaves = cut-leaves s at old new h is_cut sound.leaves;
      first = cut-first s at old new h is_cut sound.first;
      live = subst (AllLive s) (sym is_cut) (live-shrunk s (length (tree_of here)) (top_depth here) (reverse (take at old)) _ (live-reverse s (take at old) p.0)
          (live-append s (after_tree here) _ q.1 (live-raised s (top_depth here) (tree_of here) q.0)));
    }

pub cut-state : (s : Slab Slot) (at next total size room room2 : ℕ) (kept : List ℕ) (old new : List Row) → IsState s old kept next total size room → at < length old → Sized new → IsCut at old new
    → room2 ≡ room → IsState s new kept next total size room2
cut-state s at next total size room room2 kept old new state h is_sized is_cut same = record {
  sound = cut-sound s at next kept old new state.sound h is_sized is_cut;
  counted = cut-counted s at total size old new is_cut state.counted;
  room = omega (arith, state.room, cut-length at old new is_cut);
}
