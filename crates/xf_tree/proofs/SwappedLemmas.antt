-- The state and the view after a text came in place of an element's texts.
use Rattle.std.proofs.Common.{◌≡◌, ℕ, ◌+◌, ◌-◌, ◌<◌, ◌≤◌, ◌^◌, false, List, ◌++◌, map, length, take, drop, Some, None, sym, ap, ◌∙◌, subst, arith}
use Rattle.std.proofs.lemmas.List.{length-map, map-append, take-append-drop}
use Rattle.slab.specs.Slab.{Slab, get, Updates}
use Rattle.xf_def_forest.specs.declared.content.Kind.TheVariants as kind
use Rattle.xf_def_forest.specs.Forest.{kind_at}
use Rattle.xf_def_forest.specs.Visit.{visits}
use Rattle.xf_def_forest.specs.Shape.{has_elements}
use Rattle.xf_def_forest.specs.Limits.{all_size}
use Rattle.xf_def_forest.specs.Texts.{Before, Keeping, element_texts, one_text, with_texts, kept_from}
use Rattle.xf_tree_rows.specs.declared.rows.Row.{Row}
use Rattle.xf_tree_rows.specs.Rows.{tree_of, deeper}
use Rattle.xf_tree_contents.specs.Slot.{Slot}
use Rattle.xf_tree_contents.specs.Keys.{kept_of, content_in, kept_times}
use Rattle.xf_tree_walks.specs.Nodes.{StandsAt, AllLive, node_of, times}
use Rattle.xf_tree_walks.proofs.CountLemmas.{nodes-most}
use Rattle.xf_tree_walks.proofs.PlaceLemmas.{tree-size}
use Rattle.xf_tree_walks.proofs.NodeLemmas.{times-append}
use Rattle.xf_tree_changes.specs.Texts.{text_slot, text_count, children, keys_of, numbers_at, run_of, depth_at}
use Rattle.xf_tree.specs.State.{IsState, keeping_of}
use Rattle.xf_tree.specs.Settled.{text_written}
use Rattle.xf_tree.specs.Swapped.{IsSwapped}
use Rattle.xf_tree.proofs.AddLemmas.{bytes-most}
use Rattle.xf_tree.proofs.SwapLemmas.{live-run}
use Rattle.xf_tree.proofs.SetLemmas.{children-alike, numbers-alike, added-keeps, content-written}
use Rattle.xf_tree.proofs.TakenLemmas.{state-now, view-now, gone-is, live-children}

-- the rows from the one after the element to the end of its tree
pub run-part : (at end : ℕ) (rows : List Row) → at < length rows → end ≡ at + length (tree_of (drop at rows)) → take (end - (at + 1)) (drop (at + 1) rows) ≡ run_of at rows
run-part at end rows h e =
    let long : end - (at + 1) ≡ deeper (depth_at at rows) (drop (at + 1) rows) = omega (arith, e, tree-size at rows h) in
    ap (λ k. take k (drop (at + 1) rows)) long

-- no number comes more often in a part of the rows than in all
pub part-times : (s : Slab Slot) (n i j : ℕ) (rows : List Row) → times n (map (node_of s) (take i (drop j rows))) ≤ times n (map (node_of s) rows)
part-times s n i j rows =
    let f = node_of s in
    let rest = drop j rows in
    let a = ap (λ l. times n (map f l)) (sym (take-append-drop j rows)) ∙ ap (times n) (map-append f (take j rows) rest) ∙ times-append n (map f (take j rows)) (map f rest) in
    let b = ap (λ l. times n (map f l)) (sym (take-append-drop i rest)) ∙ ap (times n) (map-append f (take i rest) (drop i rest)) ∙ times-append n (map f (take i rest)) (map f (drop i rest)) in
    omega arith

-- as many rows are taken as were counted, although a text has come in
pub taken-long : (s s1 s2 : Slab Slot) (place number at taken : ℕ) (text : List ℕ) (rows part : List Row) → ((key : ℕ) → get s1 key ≡ get s key) → get s1 place ≡ None → Updates s1 s2 place (text_slot number text)
    → AllLive s (run_of at rows) → part ≡ run_of at rows → taken ≡ length (children s (run_of at rows)) → length (children s2 part) ≡ taken
taken-long s s1 s2 place number at taken text rows part same vacant slot live run count =
    let keeps = added-keeps s s1 s2 place number text same vacant slot in
    ap (λ l. length (children s2 l)) run ∙ ap length (children-alike s s2 (run_of at rows) live (λ key some. ap content_in (keeps key some))) ∙ sym count

pub count-few : (s : Slab Slot) (rows : List Row) (kept : List ℕ) (next total size room : ℕ) → IsState s rows kept next total size room → total ≤ 2 ^ 31
count-few s rows kept next total size room state =
    omega (arith, state.counted.count, nodes-most (map (node_of s) rows), length-map rows (node_of s), state.sound.few)

pub size-few : (s : Slab Slot) (rows : List Row) (kept : List ℕ) (next total size room : ℕ) → IsState s rows kept next total size room → size ≤ 2 ^ 100
size-few s rows kept next total size room state =
    omega (arith, state.counted.bytes, bytes-most s rows state.counted.small, state.sound.few)

module _ (s s3 : Slab Slot) (n at number : ℕ) (text : List ℕ) (rows new : List Row) (kept kept2 had : List ℕ) (next total size room room2 : ℕ) (state : IsState s rows kept next total size room) (here : StandsAt s rows n at)
    (kind : kind_at n (map (node_of s) rows) ≡ Some kind.Element) (childless : has_elements (visits (map (node_of s) rows)) n ≡ false)
    (swapped : IsSwapped s s3 rows new kept kept2 had n at number text room2) where
  abbrev went : List Row
  went = children s (run_of at rows)

  same : children swapped.added (run_of at rows) ≡ went
  same = gone-is s swapped.made swapped.added s3 n at swapped.place number text rows new kept next total size room state here kind childless swapped.same swapped.vacant swapped.slot swapped.owned swapped.rows_are

  kept-now : kept2 ≡ kept ++ keys_of went
  kept-now = swapped.kept_are ∙ ap (λ l. kept ++ keys_of l) same

  pub swapped-state : (next2 count2 bytes2 : ℕ) → times number (map (node_of s) rows) + kept_times number (map (kept_of s) kept) ≡ 0 → next ≤ next2 → number + text_count text ≤ next2 → length text ≤ 2 ^ 66
      → count2 ≡ total - length went + text_count text → bytes2 ≡ size - all_size (map (node_of s) went) + length text
      → IsState s3 new kept2 next2 count2 bytes2 room2
  swapped-state next2 count2 bytes2 free later below short count bytes =
      let now = subst (λ l. IsState s3 new l next2 (total - length went + text_count text) (size - all_size (map (node_of s) went) + length text) room2) (sym kept-now)
      (state-now s swapped.made swapped.added s3 n at swapped.place number text rows new kept next total size room state here kind childless swapped.same swapped.vacant swapped.slot swapped.owned swapped.rows_are
      next2 room2 free later below swapped.sized swapped.few swapped.spare short) in
      record { sound = now.sound; counted = record { count = count ∙ now.counted.count; bytes = bytes ∙ now.counted.bytes; small = now.counted.small }; room = now.room }

  pub swapped-view : (next2 : ℕ) → ◌≡◌ {A = Before × Keeping} (element_texts had, keeping_of s3 new kept2 next2) (text_written number next2 n text (keeping_of s rows kept next))
  swapped-view next2 =
      let view = view-now s swapped.made swapped.added s3 n at swapped.place number text rows new kept next total size room state here kind childless swapped.same swapped.vacant swapped.slot swapped.owned swapped.rows_are next2 in
      let keeps = added-keeps s swapped.made swapped.added swapped.place number text swapped.same swapped.vacant swapped.slot in
      let live = live-children s (run_of at rows) (live-run s n at rows kept next state.sound here kind childless) in
      let told : had ≡ numbers_at s went = swapped.had_are ∙ ap (numbers_at swapped.added) same ∙ numbers-alike s swapped.added went live keeps in
      let pair : List ℕ → Keeping → Before × Keeping = λ t k. (element_texts t, k) in
      ap (λ l. pair had (keeping_of s3 new l next2)) kept-now ∙ ap (pair had) view
      ∙ ap (λ t. pair t (record { forest = record { nodes = with_texts n (one_text number text) (map (node_of s) rows); next = next2 }; kept = map (kept_of s) kept ++ kept_from n (map (node_of s) went) })) told
      ∙ sym (content-written s n at number text rows kept next total size room state here kind childless next2)
