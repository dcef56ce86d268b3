-- A parent's row, the rows between, and a node's place among its siblings.
use Rattle.std.proofs.Common.{◌≡◌, ℕ, suc, ◌+◌, ◌-◌, ◌<◌, ◌≤◌, ◌==◌, not, Bool, true, false, List, [], ◌∷◌, ◌++◌, map, length, take, drop, if◌then◌else◌, Some, length-take, subst, inl, inr, refl, sym, ap, ◌∙◌, arith, get_or}
use Rattle.std.specs.Prelude.{count_by, filter}
use Rattle.std.proofs.lemmas.Bool.{cases_Bool}
use Rattle.std.proofs.lemmas.List.{take-append-drop, map-append, get_or-take, get_or-drop, take-take}
use Rattle.slab.specs.Slab.{Slab, get}
use Rattle.xf_def_forest.specs.declared.content.Content.{Content}
use Rattle.xf_def_forest.specs.Forest.{is_attribute, below}
use Rattle.xf_def_forest.specs.Changes.{place_in, place_among, with_place, standing}
use Rattle.xf_def_forest.specs.Visit.{visits, numbers, has, attributes_of, children_of, parent_of}
use Rattle.xf_tree_rows.specs.declared.rows.Row.{Row}
use Rattle.xf_tree_rows.specs.Rows.{deeper, parent_row_of, no_row, AreSteps, depths}
use Rattle.xf_tree_rows.proofs.CutLemmas.{deeper-length}
use Rattle.xf_tree_contents.specs.Slot.{Slot}
use Rattle.xf_tree_contents.specs.Keys.{number_in, content_in}
use Rattle.xf_tree_contents.proofs.AlikeLemmas.{eq-true}
use Rattle.xf_tree_walks.specs.Nodes.{node_of, StandsAt, times, is_kin, kin_before, number_at}
use Rattle.xf_tree_walks.specs.Kids.{is_kid}
use Rattle.xf_tree_walks.proofs.ParentLemmas.{parent-means}
use Rattle.xf_tree_walks.proofs.PlaceLemmas.{stands, below-is, tree-size, parted-at}
use Rattle.xf_tree_walks.proofs.NodeLemmas.{part, times-append}
use Rattle.xf_tree_walks.proofs.KidLemmas.{parted-kids, place-of_kin, has-kin, node_depths}
use Rattle.xf_tree_walks.proofs.AboveLemmas.{Above, above-inside, child-depth, above-is}
use Rattle.xf_tree.specs.State.{IsSound}
use Rattle.xf_tree.proofs.MeansLemmas.{one_of}

abbrev no_attribute : Content → Bool
no_attribute c = not (is_attribute c)

pub depths-of : (s : Slab Slot) (rows : List Row) → node_depths (map (node_of s) rows) ≡ depths rows
depths-of s [] = refl
depths-of s (x ∷ xs) = ap (λ l. x.depth ∷ l) (depths-of s xs)

pub place-means : (s : Slab Slot) (rows : List Row) (kept : List ℕ) (next n m above at : ℕ) → IsSound s rows kept next → StandsAt s rows n at → StandsAt s rows m above
    → Above rows above at → place_in (visits (map (node_of s) rows)) n m ≡ kin_before s rows above at
place-means s rows kept next n m above at sound here there a =
    let f = node_of s in
    let all = visits (map f rows) in
    let x = get_or rows above no_row in
    let y = get_or rows at no_row in
    let later = drop (above + 1) rows in
    let k = at - (above + 1) in
    let o = a.order in
    let wide = deeper x.depth later in
    let size = tree-size above rows there.within in
    let inside = above-inside rows above at here.within a in
    let few : k < wide = omega arith in
    let in_later : k < length (take wide later) = omega (arith, length-take wide later, deeper-length x.depth later) in
    let sum : above + 1 + k ≡ at = omega arith in
    let same : get_or (take wide later) k no_row ≡ y = get_or-take wide later k no_row few ∙ get_or-drop (above + 1) rows k no_row ∙ ap (λ j. get_or rows j no_row) sum in
    let front : take k (take wide later) ≡ take k later = take-short k wide later (omega arith) in
    let bs = map f (take k later) in
    let cs = map f (drop (k + 1) (take wide later)) in
    let low : below x.depth (map f later) ≡ bs ++ (f y ∷ cs) =
    below-is s x.depth later ∙ parted-at f k (take wide later) no_row in_later ∙ ap (λ l. map f l ++ (f (get_or (take wide later) k no_row) ∷ cs)) front ∙ ap (λ r. bs ++ (f r ∷ cs)) same in
    let one = one_of s rows kept next n sound in
    let split : map f rows ≡ map f (take (above + 1) rows) ++ (map f (take wide later) ++ map f (drop wide later)) =
    ap (map f) (sym (take-append-drop (above + 1) rows)) ∙ map-append f (take (above + 1) rows) later ∙ ap (λ l. map f (take (above + 1) rows) ++ l) (ap (map f) (sym (take-append-drop wide later)) ∙ map-append f (take wide later) (drop wide later)) in
    let t1 = ap (times n) split ∙ times-append n (map f (take (above + 1) rows)) (map f (take wide later) ++ map f (drop wide later)) in
    let t2 = times-append n (map f (take wide later)) (map f (drop wide later)) in
    let low2 : map f (take wide later) ≡ bs ++ (f y ∷ cs) = sym (below-is s x.depth later) ∙ low in
    let p = part n (map f (take wide later)) bs (f y) cs low2 here.number (omega arith) in
    let up = stands s m above rows there (one_of s rows kept next m sound) in
    let steps : AreSteps 0 (node_depths (map f rows)) = subst (AreSteps 0) (sym (depths-of s rows)) sound.steps in
    let attributes = parted-kids is_attribute m 0 _ _ _ _ up steps ∙ ap (λ l. numbers (filter (is_kid is_attribute (suc x.depth)) l)) low in
    let children = parted-kids no_attribute m 0 _ _ _ _ up steps ∙ ap (λ l. numbers (filter (is_kid no_attribute (suc x.depth)) l)) low in
    let depth : y.depth ≡ suc x.depth = omega (arith, child-depth rows above at here.within sound.steps a) in
    let deep_test : (y.depth == suc x.depth) ≡ true = eq-true y.depth (suc x.depth) depth in
    let has_n : has n (attributes_of m all) ≡ is_kid is_attribute (suc x.depth) (f y) = ap (has n) attributes ∙ has-kin n (is_kid is_attribute (suc x.depth)) bs (f y) cs here.number p.before p.after in
    elim (cases_Bool (is_attribute (content_in (get s y.key)))) [
      | inl e ↦
          let is : is_kid is_attribute (suc x.depth) (f y) ≡ true = rw (deep_test, e) refl in
          let at_place = ap (place_among n) attributes ∙ place-of_kin n (is_kid is_attribute (suc x.depth)) bs (f y) cs here.number p.before is in
          ap (λ b. if b then place_among n (attributes_of m all) else place_among n (children_of m all)) (has_n ∙ is) ∙ at_place
          ∙ ap (λ d. count_by (is_kin d true) bs) (sym depth) ∙ ap (λ w. count_by (is_kin y.depth w) bs) (sym e)
      | inr e ↦
          let is_no : is_kid is_attribute (suc x.depth) (f y) ≡ false = rw (deep_test, e) refl in
          let is : is_kid no_attribute (suc x.depth) (f y) ≡ true = rw (deep_test, e) refl in
          let at_place = ap (place_among n) children ∙ place-of_kin n (is_kid no_attribute (suc x.depth)) bs (f y) cs here.number p.before is in
          ap (λ b. if b then place_among n (attributes_of m all) else place_among n (children_of m all)) (has_n ∙ is_no) ∙ at_place
          ∙ ap (λ d. count_by (is_kin d false) bs) (sym depth) ∙ ap (λ w. count_by (is_kin y.depth w) bs) (sym e)
    ]
  where
    take-short : (i j : ℕ) (xs : List Row) → i ≤ j → take i (take j xs) ≡ take i xs
    take-short i j xs h = take-take i j xs h

pub standing-means : (s : Slab Slot) (rows : List Row) (kept : List ℕ) (next n above at : ℕ) → IsSound s rows kept next → StandsAt s rows n at → Some above ≡ parent_row_of rows at
    → standing n (map (node_of s) rows) ≡ Some (number_in (get s (get_or rows above no_row).key), kin_before s rows above at)
standing-means s rows kept next n above at sound here is =
    let f = node_of s in
    let a = above-is rows above at here.within is in
    let o = a.order in
    let m = number_in (get s (get_or rows above no_row).key) in
    let in_rows : above < length rows = omega (arith, here.within) in
    let there : StandsAt s rows m above = record { within = in_rows; number = refl } in
    let parent : parent_of n (visits (map f rows)) ≡ Some m = parent-means s n at rows here (one_of s rows kept next n sound) ∙ ap (number_at s rows) (sym is) in
    ap (with_place (visits (map f rows)) n) parent ∙ ap (λ p. Some (m, p)) (place-means s rows kept next n m above at sound here there a)
