-- Nodes that come in behind all others, and their sizes.
use Rattle.std.proofs.Common.{◌≡◌, ℕ, zero, suc, ◌+◌, ◌-◌, ◌<◌, ◌≤◌, ◌^◌, List, [], ◌∷◌, ◌++◌, map, length, take, drop, get_or, set, Some, None, IsSome, refl, sym, ap, ◌∙◌, subst, inl, inr, arith, append_assoc, length-drop, add-one, length-set}
use Rattle.std.specs.Prelude.{is_some}
use Rattle.std.proofs.lemmas.Bool.{false≢true}
use Rattle.std.proofs.lemmas.List.{take-append-drop, map-append, take_at, drop_at, drop-drop, take-take, get_or-set_same}
use Rattle.slab.specs.Slab.{Slab, get, Updates}
use Rattle.xf_def_forest.specs.declared.content.Node.{Node}
use Rattle.xf_def_forest.specs.declared.content.Content.{Content}
use Rattle.xf_def_forest.specs.Limits.{size_of}
use Rattle.xf_def_forest.specs.Plant.{numbered_from}
use Rattle.xf_tree_rows.specs.declared.rows.Row.{Row}
use Rattle.xf_tree_rows.specs.Rows.{Sized, deeper, tree_of, after_tree, no_row, AllDeep}
use Rattle.xf_tree_rows.proofs.SizedLemmas.{lt-true}
use Rattle.xf_tree_rows.proofs.CutLemmas.{size-at, sized-drop, all-deeper, tree-is-front, tree-within}
use Rattle.xf_tree_rows.proofs.RowLemmas.{split-at, map-drop}
use Rattle.xf_tree_contents.specs.Slot.{Slot}
use Rattle.xf_tree_contents.specs.Keys.{number_in, content_in}
use Rattle.xf_tree_contents.proofs.FreeLemmas.{same-key}
use Rattle.xf_tree_walks.specs.Nodes.{node_of, AllLive, AllPlain}
use Rattle.xf_tree_walks.proofs.PlaceLemmas.{tree-size}
use Rattle.xf_tree_changes.specs.Trees.{KeepsLive, unsized}
use Rattle.xf_tree_changes.proofs.MapLemmas.{live-append}

pub kept-nodes : (s s2 : Slab Slot) (rows : List Row) → AllLive s rows → KeepsLive s s2 → map (node_of s2) rows ≡ map (node_of s) rows
kept-nodes s s2 [] live keeps = refl
kept-nodes s s2 (r ∷ rs) live keeps = let a = keeps r.key live.0 in let b = kept-nodes s s2 rs live.1 keeps in cc

pub kept-live : (s s2 : Slab Slot) (rows : List Row) → AllLive s rows → KeepsLive s s2 → AllLive s2 rows
kept-live s s2 [] live keeps = tt
kept-live s s2 (r ∷ rs) live keeps = (subst IsSome (sym (keeps r.key live.0)) live.0, kept-live s s2 rs live.1 keeps)

pub keeps-all : (s : Slab Slot) → KeepsLive s s
keeps-all s k some = refl

pub keeps-through : (s s1 s2 : Slab Slot) → KeepsLive s s1 → KeepsLive s1 s2 → KeepsLive s s2
keeps-through s s1 s2 a b k some = b k (subst IsSome (sym (a k some)) some) ∙ a k some

pub insert-keeps : (s s2 : Slab Slot) (key : ℕ) (v : Slot) → get s key ≡ None → Updates s s2 key (Some v) → KeepsLive s s2
insert-keeps s s2 key v vacant up k some = up.others k (λ e. false≢true (ap is_some (sym (ap (get s) e ∙ vacant)) ∙ some))

pub small-insert : (s s2 : Slab Slot) (key : ℕ) (v : Slot) → ((k : ℕ) → size_of (content_in (get s k)) ≤ 2 ^ 66) → size_of v.content ≤ 2 ^ 66 → Updates s s2 key (Some v)
    → (k : ℕ) → size_of (content_in (get s2 k)) ≤ 2 ^ 66
small-insert s s2 key v small fits up k = elim (same-key k key) [
  | inl ne ↦ omega (arith, small k, ap (λ o. size_of (content_in o)) (up.others k ne))
  | inr e ↦ omega (arith, ap (λ j. size_of (content_in (get s2 j))) e, ap (λ o. size_of (content_in o)) up.changed)
]

-- ---- one node more

-- as far as the loop has come: the rows before, those of the nodes that came in, and the parts that are left
pub record Pushed (s0 s : Slab Slot) (old rows : List Row) (first number : ℕ) (contents left : List (ℕ × Content)) : Type 0 where
  pub front : take (length old) rows ≡ old
  pub nodes : map (node_of s) (drop (length old) rows) ++ numbered_from number left ≡ numbered_from first contents
  pub live : AllLive s rows
  pub rest : KeepsLive s0 s
  pub small : (key : ℕ) → size_of (content_in (get s key)) ≤ 2 ^ 66
  pub plain : AllPlain left

front-more : {X : Type 0} (old rows : List X) (y : X) → take (length old) rows ≡ old → (take (length old) (rows ++ (y ∷ [])) ≡ old) × (drop (length old) (rows ++ (y ∷ [])) ≡ drop (length old) rows ++ (y ∷ []))
front-more old rows y e =
    let news = drop (length old) rows in
    let whole : rows ≡ old ++ news = sym (take-append-drop (length old) rows) ∙ ap (λ l. l ++ news) e in
    let more : rows ++ (y ∷ []) ≡ old ++ (news ++ (y ∷ [])) = ap (λ l. l ++ (y ∷ [])) whole ∙ append_assoc old news (y ∷ []) in
    (ap (take (length old)) more ∙ take_at old (news ++ (y ∷ [])) (length old) refl, ap (drop (length old)) more ∙ drop_at old (news ++ (y ∷ [])) (length old) refl)

pub push-more : (s0 s s2 : Slab Slot) (old rows rows2 : List Row) (first number key depth : ℕ) (content : Content) (contents left : List (ℕ × Content))
    → Pushed s0 s old rows first number contents ((depth, content) ∷ left) → get s key ≡ None
    → Updates s s2 key (Some (record { number = number; owner = 0; content = content }))
    → rows2 ≡ rows ++ (record { key = key; size = 1; depth = depth } ∷ [])
    → Pushed s0 s2 old rows2 first (number + 1) contents left
push-more s0 s s2 old rows rows2 first number key depth content contents left p vacant up is =
    let r : Row = record { key = key; size = 1; depth = depth } in
    let keeps = insert-keeps s s2 key _ vacant up in
    let parts = front-more old rows r p.front in
    let news = drop (length old) rows in
    let news_live = live-drop s (length old) rows p.live in
    let one : node_of s2 r ≡ record { number = number; depth = depth; content = content } = ap (λ o. record { number = number_in o; depth = depth; content = content_in o }) up.changed in
    let nodes : map (node_of s2) (news ++ (r ∷ [])) ≡ map (node_of s) news ++ (record { number = number; depth = depth; content = content } ∷ []) =
    map-append (node_of s2) news (r ∷ []) ∙ ap (λ l. l ++ (node_of s2 r ∷ [])) (kept-nodes s s2 news news_live keeps) ∙ ap (λ x. map (node_of s) news ++ (x ∷ [])) one in
    record {
      front = ap (take (length old)) is ∙ parts.0;
      nodes = ap (λ l. map (node_of s2) (drop (length old) l) ++ numbered_from (number + 1) left) is ∙ ap (λ l. map (node_of s2) l ++ numbered_from (number + 1) left) parts.1
          ∙ ap (λ l. l ++ numbered_from (number + 1) left) nodes
          ∙ append_assoc (map (node_of s) news) (record { number = number; depth = depth; content = content } ∷ []) (numbered_from (number + 1) left)
          ∙ ap (λ k. map (node_of s) news ++ (record { number = number; depth = depth; content = content } ∷ numbered_from k left)) (add-one number)
          ∙ p.nodes;
      live = subst (AllLive s2) (sym is) (live-append s2 rows (r ∷ []) (kept-live s s2 rows p.live keeps) (subst IsSome (sym up.changed) refl, tt));
      rest = keeps-through s0 s s2 p.rest keeps;
      small = small-insert s s2 key _ p.small p.plain.1 up;
      plain = p.plain.2;
    }
  where
    live-drop : (s : Slab Slot) (n : ℕ) (xs : List Row) → AllLive s xs → AllLive s (drop n xs)
    live-drop s zero xs h = h
    live-drop s (suc n) [] h = tt
    live-drop s (suc n) (x ∷ xs) h = live-drop s n xs h.1

-- ---- the sizes

-- a deeper row in front of others: its whole tree is below
pub deeper-tree : (d : ℕ) (x : Row) (xs : List Row) → d < x.depth → deeper d (x ∷ xs) ≡ length (tree_of (x ∷ xs)) + deeper d (after_tree (x ∷ xs))
deeper-tree d x xs h =
    let rest = take (deeper x.depth xs) xs in
    let after = drop (deeper x.depth xs) xs in
    let whole : xs ≡ rest ++ after = sym (take-append-drop (deeper x.depth xs) xs) in
    rw (lt-true d x.depth h) (ap (λ l. suc (deeper d l)) whole ∙ (let i = deep-all d x.depth rest after h (all-deeper x.depth xs) in omega arith))
  where
    deep-all : (e d : ℕ) (xs ys : List Row) → e < d → AllDeep d xs → deeper e (xs ++ ys) ≡ deeper e ys + length xs
    deep-all e d [] ys h all = omega arith
    deep-all e d (x ∷ xs) ys h all =
        let l : e < x.depth = omega (arith, all.0) in
        let i = deep-all e d xs ys h all.1 in
        rw (lt-true e x.depth l) (omega (arith, i))

-- one child more is passed
pub end-more : (rows : List Row) (at next d : ℕ) → at + 1 ≤ next → next < length rows → Sized (drop (at + 1) rows) → d < (get_or rows next no_row).depth
    → deeper d (drop next rows) ≡ (get_or rows next no_row).size + deeper d (drop (next + (get_or rows next no_row).size) rows)
end-more rows at next d h l sized deep =
    let x = get_or rows next no_row in
    let xs = drop (next + 1) rows in
    let n = length (tree_of (drop next rows)) in
    let sp = split-at next rows no_row l in
    let k = next - (at + 1) in
    let sum : at + 1 + k ≡ next = omega arith in
    let here : drop k (drop (at + 1) rows) ≡ drop next rows = drop-drop k (at + 1) rows ∙ ap (λ j. drop j rows) sum in
    let sized_here : Sized (drop next rows) = subst Sized here (sized-drop k (drop (at + 1) rows) sized) in
    let some : 0 < length (drop next rows) = omega (arith, length-drop next rows) in
    let first = size-at 0 (drop next rows) no_row some sized_here in
    let is : get_or (drop next rows) 0 no_row ≡ x = ap (λ r. get_or r 0 no_row) sp in
    let size : x.size ≡ n = ap (λ (r : Row). r.size) (sym is) ∙ first in
    let t = ap (deeper d) sp ∙ deeper-tree d x xs deep in
    let rest : drop (next + x.size) rows ≡ after_tree (x ∷ xs) =
    ap (λ j. drop (next + j) rows) size ∙ sym (drop-drop n next rows) ∙ (tree-is-front (drop next rows) n refl).1 ∙ ap after_tree sp in
    let long : length (tree_of (x ∷ xs)) ≡ x.size = ap (λ r. length (tree_of r)) (sym sp) ∙ sym size in
    t ∙ ap (λ j. j + deeper d (after_tree (x ∷ xs))) long ∙ ap (λ r. x.size + deeper d r) (sym rest)

-- the tree of a row within a part whose sizes are right
pub size-within : (rows : List Row) (from next : ℕ) → from ≤ next → next < length rows → Sized (drop from rows)
    → (get_or rows next no_row).size ≡ length (tree_of (drop next rows))
size-within rows from next h l sized =
    let k = next - from in
    let sum : from + k ≡ next = omega arith in
    let here : drop k (drop from rows) ≡ drop next rows = drop-drop k from rows ∙ ap (λ j. drop j rows) sum in
    let sized_here : Sized (drop next rows) = subst Sized here (sized-drop k (drop from rows) sized) in
    let some : 0 < length (drop next rows) = omega (arith, length-drop next rows) in
    ap (λ (r : Row). r.size) (sym (ap (λ r. get_or r 0 no_row) (split-at next rows no_row l))) ∙ size-at 0 (drop next rows) no_row some sized_here

pub next-within : (rows : List Row) (from next : ℕ) → from ≤ next → next < length rows → Sized (drop from rows)
    → (0 < (get_or rows next no_row).size) × (next + (get_or rows next no_row).size ≤ length rows)
next-within rows from next h l sized =
    let size = size-within rows from next h l sized in
    let t = tree-size next rows l in
    (omega arith, omega (arith, tree-within next rows l))

-- a row whose size is set
pub size-step : (rows old : List Row) (at start end : ℕ) (r : Row) → at < length rows → r ≡ get_or rows at no_row → start ≤ at → Sized (drop (at + 1) rows) → end ≡ at + 1 + deeper r.depth (drop (at + 1) rows)
    → take (at + 1) rows ≡ take (at + 1) old → map unsized rows ≡ map unsized old
    → Sized (drop at (set rows at (record { key = r.key; size = end - at; depth = r.depth })))
    × (take at (set rows at (record { key = r.key; size = end - at; depth = r.depth })) ≡ take at old)
    × (map unsized (set rows at (record { key = r.key; size = end - at; depth = r.depth })) ≡ map unsized old)
size-step rows old at start end r h is first sized answer front same =
    let v : Row = record { key = r.key; size = end - at; depth = r.depth } in
    let new = set rows at v in
    let long : at < length new = omega (arith, length-set rows at v) in
    let here : get_or new at no_row ≡ v = get_or-set_same rows at v no_row h in
    let later : drop (at + 1) new ≡ drop (at + 1) rows = drop-set_past rows at v in
    let d1 : drop at new ≡ v ∷ drop (at + 1) rows = split-at at new no_row long ∙ ap (λ x. x ∷ drop (at + 1) new) here ∙ ap (λ l. v ∷ l) later in
    let size : v.size ≡ deeper v.depth (drop (at + 1) rows) + 1 = omega arith in (
      subst Sized (sym d1) (size, sized),
      take-set_before rows at v ∙ take-less at rows old front,
      unsized-set rows at v h (ap unsized is) ∙ same,
    )
  where
    drop-set_past : (rows : List Row) (at : ℕ) (v : Row) → drop (at + 1) (set rows at v) ≡ drop (at + 1) rows
    drop-set_past rows at v = rw add-one (go rows at v)
      where
        go : (rows : List Row) (at : ℕ) (v : Row) → drop (suc at) (set rows at v) ≡ drop (suc at) rows
        go [] at v = refl
        go (x ∷ xs) zero v = refl
        go (x ∷ xs) (suc at) v = go xs at v

    take-set_before : (rows : List Row) (at : ℕ) (v : Row) → take at (set rows at v) ≡ take at rows
    take-set_before [] at v = refl
    take-set_before (x ∷ xs) zero v = refl
    take-set_before (x ∷ xs) (suc at) v = ap (λ l. x ∷ l) (take-set_before xs at v)

    take-less : (at : ℕ) (xs ys : List Row) → take (at + 1) xs ≡ take (at + 1) ys → take at xs ≡ take at ys
    take-less at xs ys e =
        let m : at ≤ at + 1 = omega arith in
        sym (take-take at (at + 1) xs m) ∙ ap (take at) e ∙ take-take at (at + 1) ys m

    unsized-set : (rows : List Row) (at : ℕ) (v : Row) → at < length rows → unsized v ≡ unsized (get_or rows at no_row) → map unsized (set rows at v) ≡ map unsized rows
    unsized-set [] at v h e = refl
    unsized-set (x ∷ xs) zero v h e = ap (λ p. p ∷ map unsized xs) e
    unsized-set (x ∷ xs) (suc at) v h e = ap (λ l. unsized x ∷ l) (unsized-set xs at v (omega arith) e)

-- ---- what does not look at sizes

pub nodes-unsized : (s : Slab Slot) (xs ys : List Row) → map unsized xs ≡ map unsized ys → map (node_of s) xs ≡ map (node_of s) ys
nodes-unsized s [] [] e = refl
nodes-unsized s [] (y ∷ ys) e = absurd (nothing e)
  where
    nothing : {p : ℕ × ℕ} {ps : List (ℕ × ℕ)} → [] ≡ p ∷ ps → ⊥
    nothing e = cc
nodes-unsized s (x ∷ xs) [] e = absurd (nothing e)
  where
    nothing : {p : ℕ × ℕ} {ps : List (ℕ × ℕ)} → p ∷ ps ≡ [] → ⊥
    nothing e = cc
nodes-unsized s (x ∷ xs) (y ∷ ys) e =
    let head : unsized x ≡ unsized y = cc in
    let rest : map unsized xs ≡ map unsized ys = cc in
    let one : ℕ × ℕ → Node = λ p. record { number = number_in (get s p.0); depth = p.1; content = content_in (get s p.0) } in
    ap (λ n. n ∷ map (node_of s) xs) (ap one head) ∙ ap (λ l. node_of s y ∷ l) (nodes-unsized s xs ys rest)

pub live-unsized : (s : Slab Slot) (xs ys : List Row) → map unsized xs ≡ map unsized ys → AllLive s ys → AllLive s xs
live-unsized s [] ys e live = tt
live-unsized s (x ∷ xs) [] e live = absurd (nothing e)
  where
    nothing : {p : ℕ × ℕ} {ps : List (ℕ × ℕ)} → p ∷ ps ≡ [] → ⊥
    nothing e = cc
live-unsized s (x ∷ xs) (y ∷ ys) e live =
    let head : unsized x ≡ unsized y = cc in
    let rest : map unsized xs ≡ map unsized ys = cc in
    (subst (λ p. IsSome (get s p.0)) (sym head) live.0, live-unsized s xs ys rest live.1)

pub nodes-later : (s : Slab Slot) (n : ℕ) (xs ys : List Row) → map unsized xs ≡ map unsized ys → map (node_of s) (drop n xs) ≡ map (node_of s) (drop n ys)
nodes-later s n xs ys e = nodes-unsized s (drop n xs) (drop n ys) (map-drop unsized n xs ∙ ap (drop n) e ∙ sym (map-drop unsized n ys))
