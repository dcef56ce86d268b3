-- The texts of the rows of a tree that are not empty are the pieces of its string value.
use Rattle.std.proofs.Common.{◌≡◌, ℕ, ◌+◌, ◌-◌, ◌<◌, Some, true, false, cond, List, [], ◌∷◌, ◌++◌, map, length, take, drop, get_or, nat_lt, refl, sym, ap, ◌∙◌, inl, inr}
use Rattle.std.specs.Prelude.{filter}
use Rattle.std.proofs.lemmas.Bool.{cases_Bool}
use Rattle.std.proofs.lemmas.List.{map-append}
use Rattle.std.proofs.lemmas.List.Elements.{filter-append}
use Rattle.slab.specs.Slab.{Slab, get}
use Rattle.xf_def_forest.specs.declared.content.Node.{Node}
use Rattle.xf_def_forest.specs.Forest.{has_number, below, own_text}
use Rattle.xf_def_forest.specs.Visit.{Visit, still_above, numbers, visit, visits_from, visits, has}
use Rattle.xf_def_forest.specs.StringValue.{characters, text_below, has_character, whole}
use Rattle.xf_def_forest.proofs.RunLemmas.{AreDeeper}
use Rattle.xf_tree_rows.specs.declared.rows.Row.{Row}
use Rattle.xf_tree_rows.specs.Rows.{tree_of, no_row}
use Rattle.xf_tree_rows.proofs.RowLemmas.{split-at}
use Rattle.xf_tree_contents.specs.Slot.{Slot}
use Rattle.xf_tree_contents.specs.Keys.{content_in}
use Rattle.xf_tree_walks.specs.Reads.{pieces_left, pieces_at}
use Rattle.xf_tree_walks.proofs.NodeLemmas.{Parted}
use Rattle.xf_tree_walks.proofs.StackLemmas.{stack, visits-append, absent-above, absent-cons, absent-parts, absent-stack, has-numbers, has-middle, deeper-above, above-inside, above-past}

-- the texts below a node that are not empty
abbrev pub filled : ℕ → List Visit → List (List ℕ)
filled n vs = filter has_character (map (text_below n) vs)

abbrev pub own : List Node → List (List ℕ)
own ys = filter has_character (map (λ (y : Node). characters y.content) ys)

-- where a number is not there, no text is below it
filled-none : (n : ℕ) (above us : List Node) → has_number n above ≡ false → has_number n us ≡ false → filled n (visits_from above us) ≡ []
filled-none n above [] h k = refl
filled-none n above (u ∷ us) h k =
    let p = absent-parts n u us k in
    let a = absent-above n u.depth above h in
    let no : has n (numbers (still_above u.depth above)) ≡ false = has-numbers n (still_above u.depth above) ∙ a in
    let rest = filled-none n (u ∷ still_above u.depth above) us (absent-cons n u (still_above u.depth above) p.0 a) p.1 in
    rw no rest

filled-inside : (n : ℕ) (ts : List Node) (x : Node) (stay xs : List Node) → x.number ≡ n → AreDeeper x.depth ts → has_number n stay ≡ false → has_number n xs ≡ false
    → filled n (visits_from (ts ++ (x ∷ stay)) xs) ≡ own (below x.depth xs)
filled-inside n ts x stay [] e deep h k = refl
filled-inside n ts x stay (y ∷ ys) e deep h k =
    let p = absent-parts n y ys k in
    elim (cases_Bool (nat_lt x.depth y.depth)) [
      | inl q ↦
          let s = above-inside y.depth ts x stay q in
          let yes : has n (numbers (still_above y.depth (ts ++ (x ∷ stay)))) ≡ true = ap (λ l. has n (numbers l)) s ∙ has-middle n (still_above y.depth ts) x stay e in
          let more : AreDeeper x.depth (y ∷ still_above y.depth ts) = (q, deeper-above x.depth y.depth ts deep) in
          let rest = filled-inside n (y ∷ still_above y.depth ts) x stay ys e more h p.1 in
          rw (q, yes) (ap (λ l. with_piece (characters y.content) (filled n (visits_from (y ∷ l) ys))) s ∙ ap (with_piece (characters y.content)) rest)
      | inr q ↦
          let s = above-past y.depth ts x stay q deep in
          let a = absent-above n y.depth stay h in
          let no : has n (numbers (still_above y.depth (ts ++ (x ∷ stay)))) ≡ false = ap (λ l. has n (numbers l)) s ∙ has-numbers n (still_above y.depth stay) ∙ a in
          let rest = filled-none n (y ∷ still_above y.depth stay) ys (absent-cons n y (still_above y.depth stay) p.0 a) p.1 in
          rw (q, no) (ap (λ l. filled n (visits_from (y ∷ l) ys)) s ∙ rest)
    ]
  where
    with_piece : List ℕ → List (List ℕ) → List (List ℕ)
    with_piece text l = cond (has_character text) (text ∷ l) l

filled-append : (n : ℕ) (vs ws : List Visit) → filled n (vs ++ ws) ≡ filled n vs ++ filled n ws
filled-append n vs ws = ap (filter has_character) (map-append (text_below n) vs ws) ∙ filter-append has_character (map (text_below n) vs) (map (text_below n) ws)

pub parted-filled : (n : ℕ) (nodes us : List Node) (x : Node) (xs : List Node) → Parted n nodes us x xs → filled n (visits nodes) ≡ own (below x.depth xs)
parted-filled n nodes us x xs p =
    let s = stack [] us in
    let stay = still_above x.depth s in
    let none : has_number n [] ≡ false = refl in
    let stay_none = absent-above n x.depth s (absent-stack n [] us none p.before) in
    let vs = visits_from [] us in
    let ws = visits_from (x ∷ stay) xs in
    let all : visits nodes ≡ vs ++ (visit s x ∷ ws) = ap visits p.whole ∙ visits-append [] us (x ∷ xs) in
    let front = filled-none n [] us none p.before in
    let no : has n (numbers stay) ≡ false = has-numbers n stay ∙ stay_none in
    let here : filled n (visit s x ∷ ws) ≡ filled n ws = rw no refl in
    let back = filled-inside n [] x stay xs p.number tt stay_none p.after in
    ap (filled n) all ∙ filled-append n vs (visit s x ∷ ws) ∙ ap (λ l. l ++ filled n (visit s x ∷ ws)) front ∙ here ∙ back

-- ---- a step

-- a node with no text of its own, over one row: its value is one text
whole-text : (text : List ℕ) → Some text ≡ whole (filter has_character (text ∷ []))
whole-text [] = refl
whole-text (c ∷ cs) = refl

pub whole-one : (s : Slab Slot) (rows : List Row) (at : ℕ) → at + 1 < length rows → length (tree_of (drop at rows)) ≡ 2 → own_text (content_in (get s (get_or rows at no_row).key)) ≡ []
    → Some (characters (content_in (get s (get_or rows (at + 1) no_row).key))) ≡ whole (pieces_at s rows at)
whole-one s rows at h size none =
    let text = own_text (content_in (get s (get_or rows at no_row).key)) in
    let x = get_or rows (at + 1) no_row in
    let one : take 1 (drop (at + 1) rows) ≡ x ∷ [] = ap (take 1) (split-at (at + 1) rows no_row h) in
    let left : pieces_at s rows at ≡ pieces_left s [] (x ∷ []) =
    ap (λ k. pieces_left s text (take (k - 1) (drop (at + 1) rows))) size ∙ ap (pieces_left s text) one ∙ ap (λ t. pieces_left s t (x ∷ [])) none in
    whole-text (characters (content_in (get s x.key))) ∙ sym (ap whole left)
