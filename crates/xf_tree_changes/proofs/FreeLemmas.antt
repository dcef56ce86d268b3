-- The slots of rows that are emptied.
use Rattle.std.proofs.Common.{◌≡◌, ℕ, ◌+◌, ◌<◌, ◌≤◌, ◌==◌, not, cond, if◌then◌else◌, List, [], ◌∷◌, ◌++◌, map, length, take, drop, get_or, None, refl, sym, ap, ◌∙◌, inl, inr, arith}
use Rattle.std.proofs.lemmas.List.{take-append-drop, map-append, take_more}
use Rattle.slab.specs.Slab.{Slab, get, Updates}
use Rattle.xf_def_forest.specs.Forest.{is_root}
use Rattle.xf_def_forest.specs.Limits.{node_count, all_size, size_of}
use Rattle.xf_tree_rows.specs.declared.rows.Row.{Row}
use Rattle.xf_tree_rows.specs.Rows.{no_row}
use Rattle.xf_tree_contents.specs.Slot.{Slot}
use Rattle.xf_tree_contents.specs.Keys.{number_in, content_in}
use Rattle.xf_tree_contents.proofs.AlikeLemmas.{eq-true}
use Rattle.xf_tree_contents.proofs.FreeLemmas.{same-key}
use Rattle.xf_tree_walks.specs.Nodes.{node_of, times, KeepsBut}
use Rattle.xf_tree_walks.proofs.NodeLemmas.{times-append}
use Rattle.xf_tree_walks.proofs.CountLemmas.{nodes-append, sizes-append, nodes-cons, sizes-cons}

module _ (s : Slab Slot) (rows : List Row) (i : ℕ) (x : Row) (within : i < length rows) (is : get_or rows i no_row ≡ x) where
  one-more : map (node_of s) (take (i + 1) rows) ≡ map (node_of s) (take i rows) ++ (node_of s x ∷ [])
  one-more = ap (map (node_of s)) (take_more rows i no_row within ∙ ap (λ r. take i rows ++ (r ∷ [])) is) ∙ map-append (node_of s) (take i rows) (x ∷ [])

  pub times-more : (n : ℕ) → times n (map (node_of s) (take (i + 1) rows)) ≡ times n (map (node_of s) (take i rows)) + (if number_in (get s x.key) == n then 1 else 0)
  times-more n = ap (times n) one-more ∙ times-append n (map (node_of s) (take i rows)) (node_of s x ∷ []) ∙ (omega arith)

  pub nodes-more : node_count (map (node_of s) (take (i + 1) rows)) ≡ node_count (map (node_of s) (take i rows)) + cond (not (is_root (content_in (get s x.key)))) 1 0
  nodes-more = ap node_count one-more ∙ nodes-append (map (node_of s) (take i rows)) (node_of s x ∷ []) ∙ (omega (arith, nodes-cons (node_of s x) []))

  pub sizes-more : all_size (map (node_of s) (take (i + 1) rows)) ≡ all_size (map (node_of s) (take i rows)) + size_of (content_in (get s x.key))
  sizes-more = ap all_size one-more ∙ sizes-append (map (node_of s) (take i rows)) (node_of s x ∷ []) ∙ (omega (arith, sizes-cons (node_of s x) []))

  pub free-more : (s1 s2 : Slab Slot) → KeepsBut s s1 (map (node_of s) (take i rows)) → Updates s1 s2 x.key None → KeepsBut s s2 (map (node_of s) (take (i + 1) rows))
  free-more s1 s2 keeps up = λ key none.
      let t = times-more (number_in (get s key)) in
      elim (same-key key x.key) [
        | inl ne ↦ up.others key ne ∙ keeps key (omega arith)
        | inr e ↦ absurd (let one = ap {B = ℕ} (λ b. if b then 1 else 0) (eq-true (number_in (get s x.key)) (number_in (get s key)) (ap (λ k. number_in (get s k)) (sym e))) in omega arith)
      ]

  -- the slot of the next row is still what it was
  pub still-there : (s1 : Slab Slot) → ((n : ℕ) → times n (map (node_of s) rows) ≤ 1) → KeepsBut s s1 (map (node_of s) (take i rows)) → get s1 x.key ≡ get s x.key
  still-there s1 apart keeps =
      let n = number_in (get s x.key) in
      let t = times-more n in
      let one = ap {B = ℕ} (λ b. if b then 1 else 0) (eq-true n n refl) in
      let whole = ap (λ l. times n (map (node_of s) l)) (sym (take-append-drop (i + 1) rows)) ∙ ap (times n) (map-append (node_of s) (take (i + 1) rows) (drop (i + 1) rows)) ∙ times-append n (map (node_of s) (take (i + 1) rows)) (map (node_of s) (drop (i + 1) rows)) in
      keeps x.key (omega (arith, apart n))
