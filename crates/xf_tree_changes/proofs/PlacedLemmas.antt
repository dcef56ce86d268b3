-- A tree moved below a row outside it: the rows.
use Rattle.std.proofs.Common.{◌≡◌, ℕ, ◌+◌, ◌-◌, ◌<◌, ◌≤◌, ◌^◌, List, ◌++◌, map, length, take, drop, get_or, reverse, refl, sym, ap, ◌∙◌, subst, arith, add-one, length-append, length-take, length-drop}
use Rattle.std.specs.List.{All}
use Rattle.std.proofs.lemmas.List.{take-append-drop, take-append-le, drop-append-le, drop-take, drop-drop, take-take, take_at, get_or-take, length-map}
use Rattle.slab.specs.Slab.{Slab, get}
use Rattle.xf_def_forest.specs.declared.content.Content.{Content}
use Rattle.xf_tree_rows.specs.declared.rows.Row.{Row}
use Rattle.xf_tree_rows.specs.Rows.{Sized, deeper, deepened, grown, tree_of, after_tree, rest_of, IsPaste, no_row, AreSteps, depths}
use Rattle.xf_tree_rows.proofs.SizedLemmas.{lt-false, deeper-append, deeper-less, sized-front}
use Rattle.xf_tree_rows.proofs.CutLemmas.{all-deep-zero, tree-parts}
use Rattle.xf_tree_rows.proofs.RowLemmas.{split-at}
use Rattle.xf_tree_rows.proofs.RootedLemmas.{rest-sized, AllUnder, under-append, under-parts, under-index}
use Rattle.xf_tree_contents.specs.Slot.{Slot}
use Rattle.xf_tree_contents.specs.Keys.{content_in}
use Rattle.xf_tree_walks.specs.Leaves.{parts_in, NotDeeper, AreLeaves}
use Rattle.xf_tree_walks.specs.Nodes.{node_of}
use Rattle.xf_tree_changes.specs.Below.{part_at, row_below, IsBehind, IsPlaced}
use Rattle.xf_tree_changes.proofs.PartLemmas.{part-within, part-front, part-stops}
use Rattle.xf_tree_changes.proofs.RestLemmas.{rest-steps, rest-leaves, rest-under, later-steps, later-leaves, steps-first}

-- where a tree goes below a row: what stands there is no deeper
pub below-stops : (s : Slab Slot) (over place : ℕ) (rows : List Row) (c : Content) → over < length rows → AreSteps 0 (depths rows) → AreLeaves (parts_in (map (node_of s) rows))
    → deeper ((get_or rows over no_row).depth + 1) (drop (row_below s rows over c place) rows) ≡ 0
below-stops s over place rows c h steps leaves =
    let d = (get_or rows over no_row).depth + 1 in
    let later = drop (over + 1) rows in
    let first : NotDeeper d (parts_in (map (node_of s) later)) = subst (λ n. NotDeeper n (parts_in (map (node_of s) later))) (sym (add-one (get_or rows over no_row).depth)) (steps-first s _ later (later-steps over rows h steps)) in
    ap (deeper d) (sym (drop-drop (part_at d place c (map (node_of s) later)) (over + 1) rows)) ∙ part-stops s d place c later (later-leaves s (over + 1) rows leaves) first

module _ (s : Slab Slot) (at above from over place : ℕ) (old mid : List Row) (h : at < length old) (top : (get_or old at no_row).depth ≡ 0) (sized : Sized old) (steps : AreSteps 0 (depths old))
    (few : length old < 2 ^ 31) (leaves : AreLeaves (parts_in (map (node_of s) old))) (mid_sized : Sized mid) (behind : IsBehind at above from over old mid) where
  abbrev W : List Row
  W = rest_of at old

  abbrev F : List Row
  F = take from mid

  abbrev A : List Row
  A = after_tree (drop from mid)

  abbrev x : Row
  x = get_or old above no_row

  abbrev d : ℕ
  d = (get_or old above no_row).depth + 1

  abbrev c : Content
  c = content_in (get s (get_or old at no_row).key)

  front-length : length F ≡ from
  front-length = let w = behind.within in omega (arith, length-take from mid)

  over-in : over < length F
  over-in = let o = behind.order in omega (arith, front-length)

  over-row : get_or F over no_row ≡ x
  over-row = get_or-take from mid over no_row behind.order ∙ behind.row

  front-rest : take from W ≡ F
  front-rest = ap (take from) (sym behind.rest) ∙ take_at F A from front-length

  rest-row : get_or W over no_row ≡ x
  rest-row = sym (get_or-take from W over no_row behind.order) ∙ ap (λ l. get_or l over no_row) front-rest ∙ over-row

  mid-top : (get_or mid from no_row).depth ≡ 0
  mid-top =
      let one = ap (λ l. get_or (tree_of l) 0 no_row) (split-at from mid no_row behind.within) in
      let two = ap (λ l. get_or (tree_of l) 0 no_row) (split-at at old no_row h) in
      ap (λ (r : Row). r.depth) (sym one ∙ ap (λ l. get_or l 0 no_row) behind.tree ∙ two) ∙ top

  parts : Sized (rest_of from mid) × (deeper 0 A ≡ 0) × Sized (tree_of (drop from mid))
  parts = rest-sized from mid behind.within mid-top mid_sized

  pub front-sized : Sized (take from mid)
  front-sized = (sized-front 0 F A (all-deep-zero F) parts.1 parts.0).0

  depth-small : d < 2 ^ 31 + 1
  depth-small =
      let most : length old ≤ 2 ^ 31 = omega arith in
      let all = (rest-under s at old h top sized (2 ^ 31) steps most).0 in
      let len : length W ≡ length F + length A = ap length (sym behind.rest) ∙ length-append F A in
      let within : over < length W = omega (arith, over-in) in
      let u = under-index (2 ^ 31) W over no_row all within in
      omega (arith, ap (λ (r : Row). r.depth) rest-row)

  pub front-fits : (get_or (take from mid) over no_row).depth + 1 < 2 ^ 32
  front-fits = omega (arith, ap (λ (r : Row). r.depth) over-row, depth-small)

  pub mid-fits : (get_or mid over no_row).depth + 1 < 2 ^ 32
  mid-fits = omega (arith, ap (λ (r : Row). r.depth) (get_or-take from mid over no_row behind.order), front-fits)

  stops-here : deeper 0 (drop from mid) ≡ 0
  stops-here =
      let none : (get_or mid from no_row).depth ≤ 0 = omega (arith, mid-top) in
      ap (deeper 0) (split-at from mid no_row behind.within) ∙ rw (lt-false 0 (get_or mid from no_row).depth none) refl

  -- the tree itself changes nothing of where it goes
  pub mid-place : (content : Content) → row_below s mid over content place ≡ row_below s (take from mid) over content place
  mid-place content =
      let f = node_of s in
      let deep = (get_or F over no_row).depth + 1 in
      let some : 0 < deep = omega arith in
      let inside : over + 1 ≤ length F = omega (arith, over-in) in
      let later : drop (over + 1) mid ≡ drop (over + 1) F ++ drop from mid = ap (drop (over + 1)) (sym (take-append-drop from mid)) ∙ drop-append-le (over + 1) F (drop from mid) inside in
      ap (λ (r : Row). over + 1 + part_at (r.depth + 1) place content (map f (drop (over + 1) mid))) (sym (get_or-take from mid over no_row behind.order))
      ∙ ap (λ l. over + 1 + part_at deep place content (map f l)) later
      ∙ ap (λ n. over + 1 + n) (part-front s deep place content (drop (over + 1) F) (drop from mid) some stops-here)

  -- where the tree goes: among the rows before it, and so among those that stay
  abbrev pub to : ℕ
  to = row_below s (take from mid) over (content_in (get s (get_or old at no_row).key)) place

  same-depth : (get_or F over no_row).depth + 1 ≡ d
  same-depth = ap (λ (r : Row). r.depth + 1) over-row

  later-rest : drop (over + 1) W ≡ drop (over + 1) F ++ A
  later-rest = let o : over + 1 ≤ length F = omega (arith, over-in) in ap (drop (over + 1)) (sym behind.rest) ∙ drop-append-le (over + 1) F A o

  pub same-place : to ≡ row_below s (rest_of at old) over (content_in (get s (get_or old at no_row).key)) place
  same-place =
      let f = node_of s in
      let some : 0 < d = omega arith in
      let a = ap (λ n. over + 1 + part_at n place c (map f (drop (over + 1) F))) same-depth in
      let b = ap (λ n. over + 1 + n) (sym (part-front s d place c (drop (over + 1) F) A some parts.1)) in
      let e = ap (λ l. over + 1 + part_at d place c (map f l)) (sym later-rest) in
      let g = ap (λ (r : Row). over + 1 + part_at (r.depth + 1) place c (map f (drop (over + 1) W))) (sym rest-row) in
      a ∙ b ∙ e ∙ g

  pub place-order : to ≤ from
  place-order =
      let later = drop (over + 1) F in
      omega (arith, part-within s ((get_or F over no_row).depth + 1) place c (map (node_of s) later), length-map later (node_of s), length-drop (over + 1) F, front-length, over-in)

  in-front : to ≤ length F
  in-front = omega (arith, place-order, front-length)

  whole : mid ≡ F ++ drop from mid
  whole = sym (take-append-drop from mid)

  pub place-stops : deeper d (drop to mid) ≡ 0
  place-stops =
      let r = rest-steps s at old h top sized steps in
      let l = rest-leaves s at old h top sized leaves in
      let within : over < length W = omega (arith, over-in, ap length (sym behind.rest), length-append F A) in
      let low : 0 ≤ d = omega arith in
      let last : deeper d (drop from mid) ≡ 0 = ap (deeper d) (split-at from mid no_row behind.within) ∙ rw (lt-false d (get_or mid from no_row).depth (omega (arith, mid-top))) refl in
      let a : deeper d (drop to W) ≡ 0 = ap (λ n. deeper d (drop n W)) same-place ∙ ap (λ (q : Row). deeper (q.depth + 1) (drop (row_below s W over c place) W)) (sym rest-row) ∙ below-stops s over place W c within r.0 l.0 in
      let b : drop to W ≡ drop to F ++ A = ap (drop to) (sym behind.rest) ∙ drop-append-le to F A in-front in
      let e : drop to mid ≡ drop to F ++ drop from mid = ap (drop to) whole ∙ drop-append-le to F (drop from mid) in-front in
      ap (deeper d) e ∙ deeper-append d (drop to F) (drop from mid) last ∙ sym (deeper-append d (drop to F) A (deeper-less 0 d A low parts.1)) ∙ ap (deeper d) (sym b) ∙ a

  pub place-fits : All (λ (r : Row). r.depth + d < 2 ^ 32) mid
  place-fits = λ k e l.
      let most : length old ≤ 2 ^ 31 = omega arith in
      let all = rest-under s at old h top sized (2 ^ 31) steps most in
      let p = under-parts (2 ^ 31) F A (subst (AllUnder (2 ^ 31)) (sym behind.rest) all.0) in
      let t = subst (AllUnder (2 ^ 31)) (sym behind.tree) all.1 in
      let back = subst (AllUnder (2 ^ 31)) (tree-parts (drop from mid)) (under-append (2 ^ 31) (tree_of (drop from mid)) A t p.1) in
      let u = under-index (2 ^ 31) mid k e (subst (AllUnder (2 ^ 31)) (sym whole) (under-append (2 ^ 31) F (drop from mid) p.0 back)) l in
      omega (arith, depth-small)

  pub placed-is : (new : List Row) → IsPaste from to d mid new → IsPlaced at above place s old new
  placed-is new is =
      let T = tree_of (drop at old) in
      let gap : to + (from - to) ≡ from = omega (arith, place-order) in
      let least : to ≤ from = place-order in
      let front : take to mid ≡ take to W =
      sym (take-take to from mid least) ∙ sym (take-append-le to F A in-front) ∙ ap (take to) behind.rest in
      let back : take (from - to) (drop to mid) ++ A ≡ drop to W =
      ap (λ l. l ++ A) (sym (drop-take to (from - to) mid) ∙ ap (λ n. drop to (take n mid)) gap) ∙ sym (drop-append-le to F A in-front) ∙ ap (drop to) behind.rest in
      let one : new ≡ grown (length T) d (reverse (take to mid)) (map (deepened d) T ++ (take (from - to) (drop to mid) ++ A)) =
      is ∙ ap (λ l. grown (length l) d (reverse (take to mid)) (map (deepened d) l ++ (take (from - to) (drop to mid) ++ A))) behind.tree in
      let two : new ≡ grown (length T) d (reverse (take to W)) (map (deepened d) T ++ drop to W) =
      one ∙ ap (λ l. grown (length T) d (reverse l) (map (deepened d) T ++ (take (from - to) (drop to mid) ++ A))) front ∙ ap (λ l. grown (length T) d (reverse (take to W)) (map (deepened d) T ++ l)) back in
      record {
        over = over;
        within = omega (arith, over-in, ap length (sym behind.rest), length-append F A);
        row = rest-row;
        rows = two ∙ ap (λ n. grown (length T) d (reverse (take n W)) (map (deepened d) T ++ drop n W)) same-place;
      }
