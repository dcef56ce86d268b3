-- Older trees move forward over newer ones.
use Rattle.std.proofs.Common.{◌≡◌, ℕ, suc, ◌+◌, ◌-◌, ◌<◌, ◌≤◌, false, List, [], ◌++◌, map, length, take, drop, get_or, refl, sym, ap, ◌∙◌, subst, inl, inr, arith, append_assoc, append-nil, length-append, length-take, length-drop, take-add}
use Rattle.std.specs.Prelude.{filter}
use Rattle.std.specs.List.{copy_within}
use Rattle.std.proofs.lemmas.Bool.{cases_lt}
use Rattle.std.proofs.lemmas.List.{take-append-drop, map-append, take_at, drop_at, drop-drop, get_or-drop}
use Rattle.std.proofs.lemmas.List.Elements.{filter-append}
use Rattle.slab.specs.Slab.{Slab, get}
use Rattle.xf_def_forest.specs.Changes.{in_instances}
use Rattle.xf_def_forest.specs.Limits.{node_count, all_size, size_of}
use Rattle.xf_tree_rows.specs.declared.rows.Row.{Row}
use Rattle.xf_tree_rows.specs.Rows.{Sized, deeper, tree_of, after_tree, no_row}
use Rattle.xf_tree_rows.proofs.SizedLemmas.{lt-true, lt-false}
use Rattle.xf_tree_rows.proofs.CutLemmas.{size-at, tree-within, tree-is-front, stops-after}
use Rattle.xf_tree_rows.proofs.RowLemmas.{split-at}
use Rattle.xf_tree_contents.specs.Slot.{Slot}
use Rattle.xf_tree_contents.specs.Keys.{number_in, content_in}
use Rattle.xf_tree_walks.specs.Nodes.{node_of, times, KeepsBut}
use Rattle.xf_tree_walks.proofs.NodeLemmas.{times-append}
use Rattle.xf_tree_walks.proofs.CountLemmas.{nodes-append, sizes-append}
use Rattle.xf_tree_walks.proofs.RootLemmas.{past-tree}
use Rattle.xf_tree_changes.specs.Older.{is_older, is_newer}
use Rattle.xf_tree_changes.proofs.OlderLemmas.{WholeRows, older-parted}
use Rattle.xf_tree_changes.proofs.OldTreeLemmas.{tree-older, tree-newer, front-older}
use Rattle.xf_tree_changes.proofs.MapLemmas.{whole-map}
use Rattle.xf_tree_changes.proofs.SameLemmas.{SameAt, same-where, nodes-same}

pub moved-none : {X : Type 0} (xs : List X) (at end : ℕ) → at ≤ end → end ≤ length xs → xs ≡ copy_within xs at end at
moved-none xs at end h l =
    sym (take-append-drop at xs) ∙ ap (λ r. take at xs ++ r) (sym (take-append-drop (end - at) (drop at xs)) ∙ ap (λ r. take (end - at) (drop at xs) ++ r) (drop-drop (end - at) at xs))
    ∙ sym (append_assoc (take at xs) (take (end - at) (drop at xs)) (drop (at + (end - at)) xs))

-- ---- as far as the loop has come

pub record Moving (s0 s : Slab Slot) (old rows : List Row) (number at to count0 count bytes0 bytes : ℕ) : Type 0 where
  pub within : at ≤ length old
  pub long : length rows ≡ length old
  pub order : to ≤ at
  pub front : take to rows ≡ filter (is_older s0 number) (take at old)
  pub rest : drop at rows ≡ drop at old
  pub stops : deeper 0 (drop at old) ≡ 0
  pub gone : KeepsBut s0 s (map (node_of s0) (filter (is_newer s0 number) (take at old)))
  pub less : (key : ℕ) → size_of (content_in (get s key)) ≤ size_of (content_in (get s0 key))
  pub total : count ≡ count0 - node_count (map (node_of s0) (filter (is_newer s0 number) (take at old)))
  pub size : bytes ≡ bytes0 - all_size (map (node_of s0) (filter (is_newer s0 number) (take at old)))

pub moving-start : (s : Slab Slot) (old : List Row) (number from total size : ℕ) → from ≤ length old → deeper 0 (drop from old) ≡ 0 → WholeRows s number false old
    → map (node_of s) (take from old) ≡ in_instances (map (node_of s) old) → Moving s s old old number from from total total size size
moving-start s old number from total size h stops w is =
    let f = front-older s number old (take from old) w is in
    let none : map (node_of s) (filter (is_newer s number) (take from old)) ≡ [] = ap (map (node_of s)) f.1 in
    record {
      within = h;
      long = refl;
      order = omega arith;
      front = sym f.0;
      rest = refl;
      stops = stops;
      gone = λ key n. refl;
      less = λ key. omega arith;
      total = omega (arith, ap node_count none);
      size = omega (arith, ap all_size none);
    }

module _ (s0 s : Slab Slot) (old rows : List Row) (number at to total0 total size0 size : ℕ) (h : at < length rows) (m : Moving s0 s old rows number at to total0 total size0 size)
    (sized : Sized old) (w : WholeRows s0 number false old) (apart : (n : ℕ) → times n (map (node_of s0) old) ≤ 1) where
  h0 : at < length old
  h0 = omega (arith, m.long)

  -- the row is still the one that was there
  pub row-is : get_or rows at no_row ≡ get_or old at no_row
  row-is =
      let z : at + 0 ≡ at = omega arith in
      ap (λ k. get_or rows k no_row) (sym z) ∙ sym (get_or-drop at rows 0 no_row) ∙ ap (λ l. get_or l 0 no_row) m.rest ∙ get_or-drop at old 0 no_row ∙ ap (λ k. get_or old k no_row) z

  pub size-is : (get_or rows at no_row).size ≡ length (tree_of (drop at old))
  size-is = ap (λ (r : Row). r.size) row-is ∙ size-at at old no_row h0 sized

  abbrev end : ℕ
  end = at + (get_or rows at no_row).size

  pub end-within : end ≤ length old
  end-within = omega (arith, size-is, tree-within at old h0)

  end-is : end ≡ at + length (tree_of (drop at old))
  end-is = omega (arith, size-is)

  tree-taken : take end old ≡ take at old ++ tree_of (drop at old)
  tree-taken =
      let n = length (tree_of (drop at old)) in
      ap (λ k. take k old) end-is ∙ take-add at n old ∙ ap (λ l. take at old ++ l) (tree-is-front (drop at old) n refl).0

  still : SameAt s0 s (tree_of (drop at old))
  still = same-where s0 s (tree_of (drop at old)) (λ key some.
      let n = number_in (get s0 key) in
      let f = node_of s0 in
      let a = ap (times n) (whole-map f at old) ∙ times-append n (map f (take at old)) (map f (tree_of (drop at old)) ++ map f (after_tree (drop at old))) in
      let b = times-append n (map f (tree_of (drop at old))) (map f (after_tree (drop at old))) in
      let c = older-parted s0 number (times n) (times-append n) (take at old) in
      m.gone key (omega (arith, apart n)))

  pub tree-nodes : map (node_of s) (tree_of (drop at old)) ≡ map (node_of s0) (tree_of (drop at old))
  tree-nodes = nodes-same s0 s (tree_of (drop at old)) still

  pub number-is : number_in (get s (get_or rows at no_row).key) ≡ number_in (get s0 (get_or old at no_row).key)
  number-is =
      let first = subst (λ l. SameAt s0 s (tree_of l)) (split-at at old no_row h0) still in
      ap (λ (r : Row). number_in (get s r.key)) row-is ∙ ap number_in first.0

  pub slice-is : take (end - at) (drop at rows) ≡ tree_of (drop at old)
  slice-is =
      let n : end - at ≡ length (tree_of (drop at old)) = omega (arith, size-is) in
      ap (take (end - at)) m.rest ∙ (tree-is-front (drop at old) (end - at) n).0

  pub slice-apart : (n : ℕ) → times n (map (node_of s) (take (end - at) (drop at rows))) ≤ 1
  slice-apart n =
      let f = node_of s0 in
      let e = ap (λ l. times n (map (node_of s) l)) slice-is ∙ ap (times n) tree-nodes in
      let a = ap (times n) (whole-map f at old) ∙ times-append n (map f (take at old)) (map f (tree_of (drop at old)) ++ map f (after_tree (drop at old))) in
      let b = times-append n (map f (tree_of (drop at old))) (map f (after_tree (drop at old))) in
      omega (arith, apart n)

  stops-end : deeper 0 (drop end old) ≡ 0
  stops-end =
      let x = get_or old at no_row in
      let xs = drop (at + 1) old in
      let sp = split-at at old no_row h0 in
      let top : x.depth ≡ 0 = elim (cases_lt 0 x.depth) [
        | inl l ↦ absurd (let z : suc (deeper 0 xs) ≡ 0 = rw (lt-true 0 x.depth l) at (sym (ap (deeper 0) sp) ∙ m.stops) in omega arith)
        | inr l ↦ omega arith
      ] in
      ap (deeper 0) (past-tree at end old end-is ∙ ap after_tree sp) ∙ ap (λ d. deeper d (drop (deeper x.depth xs) xs)) (sym top) ∙ stops-after x.depth xs

  rest-end : (rows2 : List Row) → drop end rows2 ≡ drop end rows → drop end rows2 ≡ drop end old
  rest-end rows2 e =
      let back : at + (end - at) ≡ end = omega (arith, size-is) in
      e ∙ ap (λ k. drop k rows) (sym back) ∙ sym (drop-drop (end - at) at rows) ∙ ap (drop (end - at)) m.rest ∙ drop-drop (end - at) at old ∙ ap (λ k. drop k old) back

  pub moving-older : (rows2 : List Row) → number_in (get s (get_or rows at no_row).key) < number → rows2 ≡ copy_within rows at end to
      → Moving s0 s old rows2 number end (to + (end - at)) total0 total size0 size
  moving-older rows2 l is =
      let older = lt-true (number_in (get s0 (get_or old at no_row).key)) number (omega (arith, number-is)) in
      let t = tree-older s0 number at old h0 w older in
      let p = is_older s0 number in
      let q = is_newer s0 number in
      let some : filter p (take end old) ≡ filter p (take at old) ++ tree_of (drop at old) = ap (filter p) tree-taken ∙ filter-append p (take at old) (tree_of (drop at old)) ∙ ap (λ l. filter p (take at old) ++ l) t.0 in
      let none : filter q (take end old) ≡ filter q (take at old) =
      ap (filter q) tree-taken ∙ filter-append q (take at old) (tree_of (drop at old)) ∙ ap (λ l. filter q (take at old) ++ l) t.1 ∙ append-nil (filter q (take at old)) in
      let n = end - at in
      let lt : to ≡ length (take to rows) = omega (arith, length-take to rows, m.order) in
      let ls : n ≡ length (take n (drop at rows)) = omega (arith, length-take n (drop at rows), length-drop at rows, m.long, end-within) in
      let whole : rows2 ≡ take to rows ++ (take n (drop at rows) ++ drop (to + n) rows) = is ∙ append_assoc (take to rows) (take n (drop at rows)) (drop (to + n) rows) in
      let both : length (take to rows ++ take n (drop at rows)) ≡ to + n = omega (arith, length-append (take to rows) (take n (drop at rows))) in
      let front : take (to + n) rows2 ≡ take to rows ++ take n (drop at rows) = ap (take (to + n)) is ∙ take_at (take to rows ++ take n (drop at rows)) (drop (to + n) rows) (to + n) both in
      let sum : to + n + (end - (to + n)) ≡ end = omega (arith, m.order, size-is) in
      let later : drop end rows2 ≡ drop end rows =
      ap (λ k. drop k rows2) (sym sum) ∙ sym (drop-drop (end - (to + n)) (to + n) rows2)
      ∙ ap (drop (end - (to + n))) (ap (drop (to + n)) is ∙ drop_at (take to rows ++ take n (drop at rows)) (drop (to + n) rows) (to + n) both)
      ∙ drop-drop (end - (to + n)) (to + n) rows ∙ ap (λ k. drop k rows) sum in
      record {
        within = end-within;
        long = omega (arith, ap length is, length-append (take to rows ++ take n (drop at rows)) (drop (to + n) rows), length-drop (to + n) rows, m.long, m.order, end-within, size-is);
        order = omega (arith, m.order, size-is);
        front = front ∙ ap (λ l. l ++ take n (drop at rows)) m.front ∙ ap (λ l. filter p (take at old) ++ l) slice-is ∙ sym some;
        rest = rest-end rows2 later;
        stops = stops-end;
        gone = subst (λ l. KeepsBut s0 s (map (node_of s0) l)) (sym none) m.gone;
        less = m.less;
        total = m.total ∙ ap (λ l. total0 - node_count (map (node_of s0) l)) (sym none);
        size = m.size ∙ ap (λ l. size0 - all_size (map (node_of s0) l)) (sym none);
      }

  pub moving-newer : (s2 : Slab Slot) (total2 size2 : ℕ) → number ≤ number_in (get s (get_or rows at no_row).key) → KeepsBut s s2 (map (node_of s) (take (end - at) (drop at rows)))
      → ((key : ℕ) → size_of (content_in (get s2 key)) ≤ size_of (content_in (get s key)))
      → total2 ≡ total - node_count (map (node_of s) (take (end - at) (drop at rows))) → size2 ≡ size - all_size (map (node_of s) (take (end - at) (drop at rows)))
      → Moving s0 s2 old rows number end to total0 total2 size0 size2
  moving-newer s2 total2 size2 l keeps less et es =
      let newer = lt-false (number_in (get s0 (get_or old at no_row).key)) number (omega (arith, number-is)) in
      let t = tree-newer s0 number at old h0 w newer in
      let p = is_older s0 number in
      let q = is_newer s0 number in
      let f = node_of s0 in
      let tree = tree_of (drop at old) in
      let none : filter p (take end old) ≡ filter p (take at old) =
      ap (filter p) tree-taken ∙ filter-append p (take at old) tree ∙ ap (λ l. filter p (take at old) ++ l) t.0 ∙ append-nil (filter p (take at old)) in
      let some : map f (filter q (take end old)) ≡ map f (filter q (take at old)) ++ map f tree =
      ap (map f) (ap (filter q) tree-taken ∙ filter-append q (take at old) tree ∙ ap (λ l. filter q (take at old) ++ l) t.1) ∙ map-append f (filter q (take at old)) tree in
      let same : map (node_of s) (take (end - at) (drop at rows)) ≡ map f tree = ap (map (node_of s)) slice-is ∙ tree-nodes in
      let nt = ap node_count some ∙ nodes-append (map f (filter q (take at old))) (map f tree) in
      let ns = ap all_size some ∙ sizes-append (map f (filter q (take at old))) (map f tree) in
      record {
        within = end-within;
        long = m.long;
        order = omega (arith, m.order);
        front = m.front ∙ sym none;
        rest = rest-end rows refl;
        stops = stops-end;
        gone = λ key absent.
            let n = number_in (get s0 key) in
            let a = ap (times n) some ∙ times-append n (map f (filter q (take at old))) (map f tree) in
            let one = m.gone key (omega arith) in
            let absent_here : times (number_in (get s key)) (map (node_of s) (take (end - at) (drop at rows))) ≡ 0 =
            ap (λ o. times (number_in o) (map (node_of s) (take (end - at) (drop at rows)))) one ∙ ap (times n) same ∙ (omega arith) in
            keeps key absent_here ∙ one;
        less = λ key. omega (arith, less key, m.less key);
        total = omega (arith, et, m.total, nt, ap node_count same);
        size = omega (arith, es, m.size, ns, ap all_size same);
      }
