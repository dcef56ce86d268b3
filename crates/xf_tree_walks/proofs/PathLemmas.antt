-- What a path has for the node at a place.
use Rattle.std.proofs.Common.{◌≡◌, ℕ, suc, ◌+◌, ◌<◌, ◌≤◌, ◌&&◌, Bool, true, false, if◌then◌else◌, List, [], ◌∷◌, ◌++◌, map, length, take, drop, get_or, nat_lt, reverse, codes, Option, Some, None, refl, sym, ap, ◌∙◌, inl, inr, arith, length-append}
use Rattle.std.specs.Prelude.{filter}
use Rattle.std.specs.List.{flat_map}
use Rattle.std.specs.Str.{bytes_eq}
use Rattle.std.proofs.lemmas.Bool.{cases_lt}
use Rattle.std.proofs.lemmas.List.{length-map}
use Rattle.std.proofs.lemmas.List.Sums.{length-filter, count_by-le-length}
use Rattle.slab.specs.Slab.{Slab, get}
use Rattle.xf_def_forest.specs.declared.content.Node.{Node}
use Rattle.xf_def_forest.specs.declared.content.Name.{Name}
use Rattle.xf_def_forest.specs.declared.content.Content.{Content}
use Rattle.xf_def_forest.specs.declared.content.Content.TheVariants.{Root, Element, Attribute, Text}
use Rattle.xf_def_forest.specs.Forest.{is_element, is_text, name_in, written, written_in}
use Rattle.xf_def_forest.specs.Visit.{Visit, numbers, visits, first_of, is_first, same_parent, ancestors_of}
use Rattle.xf_def_forest.specs.Axis.{before}
use Rattle.xf_def_forest.specs.Path.{is_namesake, is_text_beside, bracketed, index_if, step_by, step_in, step_of, or_slash, path_of}
use Rattle.xf_tree_rows.specs.declared.rows.Row.{Row}
use Rattle.xf_tree_rows.specs.Rows.{tree_of, parent_row_of, no_row}
use Rattle.xf_tree_rows.proofs.SizedLemmas.{lt-true, lt-false}
use Rattle.xf_tree_contents.specs.Slot.{Slot}
use Rattle.xf_tree_contents.specs.Keys.{number_in, content_in}
use Rattle.xf_tree_contents.proofs.AlikeLemmas.{eq-true}
use Rattle.xf_tree_walks.specs.Nodes.{node_of, number_at}
use Rattle.xf_tree_walks.specs.Walks.{between, chosen, number_of_row, AreNodes}
use Rattle.xf_tree_walks.specs.Siblings.{same_sort, is_like, like_before, like_after, index_among, index_text, rows_up}
use Rattle.xf_tree_walks.specs.Kids.{is_kid}
use Rattle.xf_tree_walks.proofs.StackLemmas.{parted-visit, parted-ancestors, le-from}
use Rattle.xf_tree_walks.proofs.KidLemmas.{kids}
use Rattle.xf_tree_walks.proofs.WalkLemmas.{chosen-append, chosen-yes}
use Rattle.xf_tree_walks.proofs.FoundLemmas.{found-alike, found-none, visits-before}
use Rattle.xf_tree_walks.proofs.AxisLemmas.{beside}
use Rattle.xf_tree_walks.proofs.SiblingLemmas.{visit_at, parted-here, above-rows, first-is, same-first, same-none, family}

-- ---- counting

pub chosen-few : (s : Slab Slot) (test : Node → Bool) (xs : List Row) → length (chosen s test xs) ≤ length xs
chosen-few s test xs =
    let a = length-map (filter test (map (node_of s) xs)) (λ (x : Node). x.number) in
    let b = length-filter test (map (node_of s) xs) in
    let c = count_by-le-length test (map (node_of s) xs) in
    omega (arith, length-map xs (node_of s))

-- those before the node at a place, by its parent's row
abbrev kids_before : (Content → Bool) → Slab Slot → List Row → ℕ → Option ℕ → List ℕ
kids_before q s rows at None = []
kids_before q s rows at (Some above) = chosen s (is_kid q (get_or rows at no_row).depth) (between (above + 1) at rows)

-- all of them
abbrev kids_beside : (Content → Bool) → Slab Slot → List Row → ℕ → Option ℕ → List ℕ
kids_beside q s rows at None = []
kids_beside q s rows at (Some above) = chosen s (is_kid q (get_or rows at no_row).depth) (between (above + 1) (above + length (tree_of (drop above rows))) rows)

-- a test of visits that asks for the parent and for the content
abbrev Beside : (Content → Bool) → Slab Slot → List Row → ℕ → (Visit → Bool) → Type 0
Beside q s rows at test = (y : Visit) → test y ≡ (same_parent (visit_at s rows at).above y.above && q y.content)

count-is : (q : Content → Bool) (s : Slab Slot) (rows : List Row) (at : ℕ) (test : Visit → Bool) (above : ℕ) (vs : List Visit) → Beside q s rows at test
    → first_of (visit_at s rows at).above ≡ Some (number_of_row s rows above) → length (filter test vs) ≡ length (kids q (number_of_row s rows above) vs)
count-is q s rows at test above vs same first =
    let m = number_of_row s rows above in
    sym (length-map (filter test vs) (λ (v : Visit). v.number))
    ∙ ap length (found-alike test (λ y. is_first m y.above && q y.content) vs (λ y. same y ∙ ap (λ b. b && q y.content) (same-first (visit_at s rows at).above y.above m first)))

count-none : (q : Content → Bool) (s : Slab Slot) (rows : List Row) (at : ℕ) (test : Visit → Bool) (vs : List Visit) → Beside q s rows at test → first_of (visit_at s rows at).above ≡ None → length (filter test vs) ≡ 0
count-none q s rows at test vs same first =
    sym (length-map (filter test vs) (λ (v : Visit). v.number)) ∙ ap length (found-none test vs (λ y. same y ∙ ap (λ b. b && q y.content) (same-none (visit_at s rows at).above y.above first)))

earlier-count : (q : Content → Bool) (s : Slab Slot) (rows : List Row) (at : ℕ) (test : Visit → Bool) (above : Option ℕ) → AreNodes s rows → at < length rows → above ≡ parent_row_of rows at → Beside q s rows at test
    → length (filter test (before (number_of_row s rows at) (visits (map (node_of s) rows)))) ≡ length (kids_before q s rows at above)
earlier-count q s rows at test None nodes h e same =
    count-none q s rows at test (before (number_of_row s rows at) (visits (map (node_of s) rows))) same (first-is s rows at nodes h ∙ ap (number_at s rows) (sym e))
earlier-count q s rows at test (Some above) nodes h e same =
    let p = parted-here s rows at nodes h in
    let f = family q s rows above at nodes h e in
    let front : before (number_of_row s rows at) (visits (map (node_of s) rows)) ≡ visits (map (node_of s) (take at rows)) =
    ap (λ l. before (number_of_row s rows at) (visits l)) p.whole ∙ visits-before (number_of_row s rows at) [] _ _ _ refl p.before in
    ap (λ l. length (filter test l)) front ∙ count-is q s rows at test above (visits (map (node_of s) (take at rows))) same f.first ∙ ap length f.earlier

whole-count : (q : Content → Bool) (s : Slab Slot) (rows : List Row) (at : ℕ) (test : Visit → Bool) (above : Option ℕ) → AreNodes s rows → at < length rows → above ≡ parent_row_of rows at → Beside q s rows at test
    → length (filter test (visits (map (node_of s) rows))) ≡ length (kids_beside q s rows at above)
whole-count q s rows at test None nodes h e same = count-none q s rows at test (visits (map (node_of s) rows)) same (first-is s rows at nodes h ∙ ap (number_at s rows) (sym e))
whole-count q s rows at test (Some above) nodes h e same =
    let f = family q s rows above at nodes h e in
    count-is q s rows at test above (visits (map (node_of s) rows)) same f.first ∙ ap length f.whole

-- the rows behind the tree at a place have all that are counted after it
pub later-same : (s : Slab Slot) (rows : List Row) (like : Content) (above at stop end : ℕ) → AreNodes s rows → at < length rows → Some above ≡ parent_row_of rows at
    → stop ≡ at + length (tree_of (drop at rows)) → end ≡ above + length (tree_of (drop above rows))
    → chosen s (is_like (get_or rows at no_row).depth like) (between stop end rows) ≡ like_after s rows like at (parent_row_of rows at)
later-same s rows like above at stop end nodes h e to last =
    let f = family (same_sort like) s rows above at nodes h e in
    (beside (same_sort like) s rows above at stop end f to last).same
    ∙ ap (λ k. chosen s (is_like (get_or rows at no_row).depth like) (between (at + 1) k rows)) last ∙ ap (like_after s rows like at) e

pub index-none : (earlier later : List ℕ) → length earlier ≡ 0 → nat_lt 0 (length later) ≡ false → None ≡ index_among earlier later
index-none earlier later e f = rw e (rw (lt-false 0 (0 + length later) (sum f)) refl)
  where
    sum : nat_lt 0 (length later) ≡ false → 0 + length later ≤ 0
    sum f = let l = le-from 0 (length later) f in omega arith

pub index-some : (k : ℕ) (earlier later : List ℕ) → k ≡ length earlier → 0 < length earlier + length later → Some (k + 1) ≡ index_among earlier later
index-some k earlier later e l = let n : k + 1 ≡ suc (length earlier) = omega arith in rw (lt-true 0 (length earlier + length later) l) (ap Some n)

-- ---- the step of a node

step-at : (s : Slab Slot) (rows : List Row) (at : ℕ) (content : Content) → AreNodes s rows → at < length rows → content_in (get s (get_or rows at no_row).key) ≡ content
    → step_of (visits (map (node_of s) rows)) (number_of_row s rows at) ≡ step_by content (visits (map (node_of s) rows)) (visit_at s rows at)
step-at s rows at content nodes h e =
    let all = visits (map (node_of s) rows) in
    ap (step_in all) (parted-visit (number_of_row s rows at) _ _ _ _ (parted-here s rows at nodes h)) ∙ ap (λ c. step_by c all (visit_at s rows at)) e

pub root-step : (s : Slab Slot) (rows : List Row) (at : ℕ) → AreNodes s rows → at < length rows → content_in (get s (get_or rows at no_row).key) ≡ Root
    → step_of (visits (map (node_of s) rows)) (number_of_row s rows at) ≡ []
root-step s rows at nodes h e = step-at s rows at Root nodes h e

pub attribute-step : (s : Slab Slot) (rows : List Row) (at : ℕ) (name : Name) (text : List ℕ) → AreNodes s rows → at < length rows → content_in (get s (get_or rows at no_row).key) ≡ Attribute name text
    → step_of (visits (map (node_of s) rows)) (number_of_row s rows at) ≡ 47 ∷ 64 ∷ written name
attribute-step s rows at name text nodes h e = step-at s rows at (Attribute name text) nodes h e

pub text-step : (s : Slab Slot) (rows : List Row) (at : ℕ) (text : List ℕ) → AreNodes s rows → at < length rows → content_in (get s (get_or rows at no_row).key) ≡ Text text
    → step_of (visits (map (node_of s) rows)) (number_of_row s rows at) ≡ codes "/text()" ++ bracketed (suc (length (like_before s rows (Text text) at (parent_row_of rows at))))
text-step s rows at text nodes h e =
    let v = visit_at s rows at in
    let same : Beside is_text s rows at (is_text_beside v) = λ y. refl in
    step-at s rows at (Text text) nodes h e
    ∙ ap (λ n. codes "/text()" ++ bracketed (suc n)) (earlier-count is_text s rows at (is_text_beside v) (parent_row_of rows at) nodes h refl same ∙ like-is (parent_row_of rows at))
  where
    like-is : (above : Option ℕ) → length (kids_before is_text s rows at above) ≡ length (like_before s rows (Text text) at above)
    like-is None = refl
    like-is (Some above) = refl

and-moved : (a b c : Bool) → ((a && b) && c) ≡ (a && (b && c))
and-moved true b c = refl
and-moved false b c = refl

same-bytes : (xs : List ℕ) → bytes_eq xs xs ≡ true
same-bytes [] = refl
same-bytes (x ∷ xs) = rw (eq-true x x refl) (same-bytes xs)

index-is : (whole earlier later : ℕ) → whole ≡ earlier + suc later
    → (if nat_lt 1 whole then bracketed (suc earlier) else []) ≡ index_text (if nat_lt 0 (earlier + later) then Some (suc earlier) else None)
index-is whole earlier later e = elim (cases_lt 0 (earlier + later)) [
  | inl l ↦ let m : 1 < whole = omega arith in rw (lt-true 0 (earlier + later) l, lt-true 1 whole m) refl
  | inr l ↦ let m : whole ≤ 1 = omega arith in rw (lt-false 0 (earlier + later) l, lt-false 1 whole m) refl
]

namesake-index : (s : Slab Slot) (rows : List Row) (at : ℕ) (name : Name) (above : Option ℕ) (all earlier : List Visit) → AreNodes s rows → at < length rows → above ≡ parent_row_of rows at
    → content_in (get s (get_or rows at no_row).key) ≡ Element name
    → length all ≡ length (kids_beside (same_sort (Element name)) s rows at above) → length earlier ≡ length (kids_before (same_sort (Element name)) s rows at above)
    → index_if all earlier ≡ index_text (index_among (like_before s rows (Element name) at above) (like_after s rows (Element name) at above))
namesake-index s rows at name None all earlier nodes h e is a b = ap (λ n. if nat_lt 1 n then bracketed (suc (length earlier)) else []) a
namesake-index s rows at name (Some above) all earlier nodes h e is a b =
    let q = same_sort (Element name) in
    let x = get_or rows at no_row in
    let f = family q s rows above at nodes h e in
    let mid = between (above + 1) at rows in
    let rest = between (at + 1) (above + length (tree_of (drop above rows))) rows in
    let test = is_kid q x.depth in
    let own : test (node_of s x) ≡ true = rw (eq-true x.depth x.depth refl) (ap q is ∙ same-bytes (written name)) in
    let parts = a ∙ ap (λ l. length (chosen s test l)) f.split ∙ ap length (chosen-append s test mid (x ∷ rest) ∙ ap (λ l. chosen s test mid ++ l) (chosen-yes s test x rest own)) in
    let n = number_in (get s x.key) in
    let sum : length all ≡ length (chosen s test mid) + suc (length (chosen s test rest)) = omega (arith, parts, length-append (chosen s test mid) (n ∷ chosen s test rest)) in
    ap (λ k. if nat_lt 1 (length all) then bracketed (suc k) else []) b ∙ index-is (length all) (length (chosen s test mid)) (length (chosen s test rest)) sum

pub element-step : (s : Slab Slot) (rows : List Row) (at : ℕ) (name : Name) → AreNodes s rows → at < length rows → content_in (get s (get_or rows at no_row).key) ≡ Element name
    → step_of (visits (map (node_of s) rows)) (number_of_row s rows at)
    ≡ 47 ∷ written name ++ index_text (index_among (like_before s rows (Element name) at (parent_row_of rows at)) (like_after s rows (Element name) at (parent_row_of rows at)))
element-step s rows at name nodes h e =
    let v = visit_at s rows at in
    let all = visits (map (node_of s) rows) in
    let test = is_namesake (written name) v in
    let same = λ (y : Visit). and-moved (same_parent v.above y.above) (is_element y.content) (bytes_eq (written name) (written_in (name_in y.content))) in
    step-at s rows at (Element name) nodes h e
    ∙ ap (λ l. 47 ∷ written name ++ l) (namesake-index s rows at name (parent_row_of rows at) (filter test all) (filter test (before (number_of_row s rows at) all)) nodes h refl e
    (whole-count (same_sort (Element name)) s rows at test (parent_row_of rows at) nodes h refl same) (earlier-count (same_sort (Element name)) s rows at test (parent_row_of rows at) nodes h refl same))

-- ---- the whole path

row-numbers : (s : Slab Slot) (rows : List Row) (places : List ℕ) → map (number_of_row s rows) places ≡ numbers (map (node_of s) (map (λ p. get_or rows p no_row) places))
row-numbers s rows [] = refl
row-numbers s rows (p ∷ ps) = ap (λ l. number_of_row s rows p ∷ l) (row-numbers s rows ps)

pub path-is : (s : Slab Slot) (rows : List Row) (at : ℕ) (places : List ℕ) → AreNodes s rows → at < length rows → map (λ p. get_or rows p no_row) places ≡ rows_up rows (Some at)
    → path_of (number_of_row s rows at) (visits (map (node_of s) rows)) ≡ or_slash (flat_map (step_of (visits (map (node_of s) rows))) (reverse (map (number_of_row s rows) places)))
path-is s rows at places nodes h e =
    let n = number_of_row s rows at in
    let all = visits (map (node_of s) rows) in
    let up : n ∷ ancestors_of n all ≡ map (number_of_row s rows) places =
    ap (λ l. n ∷ l) (parted-ancestors n _ _ _ _ (parted-here s rows at nodes h) ∙ above-rows s rows at h) ∙ sym (row-numbers s rows places ∙ ap (λ l. numbers (map (node_of s) l)) e) in
    ap (λ l. or_slash (flat_map (step_of all) (reverse l))) up
