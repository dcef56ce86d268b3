-- What stands on each axis from the node at a place, by rows.
use Rattle.std.proofs.Common.{◌≡◌, ℕ, zero, suc, ◌+◌, ◌-◌, ◌<◌, ◌≤◌, ◌==◌, ◌&&◌, ◌||◌, not, Bool, true, false, List, [], ◌∷◌, map, length, take, drop, get_or, reverse, Option, Some, None, refl, sym, ap, ◌∙◌, subst, arith, add-one}
use Rattle.std.specs.Prelude.{filter}
use Rattle.std.proofs.lemmas.List.{drop-drop}
use Rattle.slab.specs.Slab.{Slab, get}
use Rattle.xf_name.specs.declared.axis.Axis.{Axis}
use Rattle.xf_name.specs.declared.axis.Axis.TheVariants as axis
use Rattle.xf_def_forest.specs.declared.content.Node.{Node}
use Rattle.xf_def_forest.specs.declared.content.Content.{Content}
use Rattle.xf_def_forest.specs.Forest.{is_attribute}
use Rattle.xf_def_forest.specs.Visit.{Visit, numbers, visits, still_above, has, is_first, first_of, same_parent}
use Rattle.xf_def_forest.specs.Axis.{axis_of, axis_from, on_axis, in_proximity, are_siblings, before, after}
use Rattle.xf_def_forest.proofs.RenumberLaws.{map-reverse}
use Rattle.xf_tree_rows.specs.declared.rows.Row.{Row}
use Rattle.xf_tree_rows.specs.Rows.{AllDeep, deeper, tree_of, parent_row_of, no_row, depths, AreSteps}
use Rattle.xf_tree_rows.proofs.SizedLemmas.{lt-true, lt-false}
use Rattle.xf_tree_rows.proofs.ParentLemmas.{deep-prefix}
use Rattle.xf_tree_contents.specs.Slot.{Slot}
use Rattle.xf_tree_contents.specs.Keys.{content_in}
use Rattle.xf_tree_walks.specs.declared.walk.Left.TheVariants.{Nothing}
use Rattle.xf_tree_walks.specs.Nodes.{node_of, is_kin, number_at, times}
use Rattle.xf_tree_walks.specs.Walks.{between, attributes_ahead, chosen, is_plain, ancestor_rows, number_of_row, walk_of, AreNodes}
use Rattle.xf_tree_walks.specs.Kids.{is_kid}
use Rattle.xf_tree_walks.proofs.NodeLemmas.{eq-turned}
use Rattle.xf_tree_walks.proofs.StackLemmas.{stack, parted-visit, still-shut}
use Rattle.xf_tree_walks.proofs.PlaceLemmas.{below-is, tree-size}
use Rattle.xf_tree_walks.proofs.ParentLemmas.{opened}
use Rattle.xf_tree_walks.proofs.KidLemmas.{kids}
use Rattle.xf_tree_walks.proofs.WalkLemmas.{behind, deep-behind}
use Rattle.xf_tree_walks.proofs.FoundLemmas.{found, found-alike, found-none, by-number, one-equal, filter-alike, filter-none, open-found, parted-under, visits-before, visits-after}
use Rattle.xf_tree_walks.proofs.AheadLemmas.{later-first, ahead-all}
use Rattle.xf_tree_walks.proofs.SiblingLemmas.{visit_at, visits_behind, parted-here, stack-is, above-rows, first-is, first-test, no-first, same-first, same-none, tree-between, kids-below, Family, family, later-kids}

abbrev pub no_attribute : Content → Bool
no_attribute c = not (is_attribute c)

-- the axis from the visit of the node at a place
at-visit : (a : Axis) (s : Slab Slot) (rows : List Row) (at : ℕ) → AreNodes s rows → at < length rows
    → axis_of a (number_of_row s rows at) (visits (map (node_of s) rows))
    ≡ map (λ (v : Visit). v.number) (in_proximity a (on_axis a (visits (map (node_of s) rows)) (visit_at s rows at)))
at-visit a s rows at nodes h =
    ap (λ o. map (λ (v : Visit). v.number) (axis_from a (visits (map (node_of s) rows)) o)) (parted-visit (number_of_row s rows at) _ _ _ _ (parted-here s rows at nodes h))

pub self-axis : (s : Slab Slot) (rows : List Row) (at : ℕ) → AreNodes s rows → at < length rows
    → number_of_row s rows at ∷ [] ≡ axis_of axis.Self_ (number_of_row s rows at) (visits (map (node_of s) rows))
self-axis s rows at nodes h =
    let n = number_of_row s rows at in
    sym (at-visit axis.Self_ s rows at nodes h ∙ by-number (λ m. n == m) [] (map (node_of s) rows) ∙ one-equal n _ _ _ _ (parted-here s rows at nodes h))

pub child-axis : (s : Slab Slot) (rows : List Row) (at : ℕ) → AreNodes s rows → at < length rows
    → chosen s (is_kin ((get_or rows at no_row).depth + 1) false) (between (at + 1) (at + length (tree_of (drop at rows))) rows) ≡ axis_of axis.Child (number_of_row s rows at) (visits (map (node_of s) rows))
child-axis s rows at nodes h = sym (at-visit axis.Child s rows at nodes h ∙ kids-below no_attribute s rows at nodes h)

pub attribute-axis : (s : Slab Slot) (rows : List Row) (at : ℕ) → AreNodes s rows → at < length rows
    → numbers (attributes_ahead ((get_or rows at no_row).depth + 1) (map (node_of s) (drop (at + 1) rows))) ≡ axis_of axis.Attribute (number_of_row s rows at) (visits (map (node_of s) rows))
attribute-axis s rows at nodes h =
    let d = (get_or rows at no_row).depth in
    let later = drop (at + 1) rows in
    let all = between (at + 1) (at + length (tree_of (drop at rows))) rows in
    ap (λ e. numbers (attributes_ahead e (map (node_of s) later))) (add-one d) ∙ ap numbers (sym (ahead-all s d _ later (later-first s at rows h nodes.first)))
    ∙ ap (chosen s (is_kin (suc d) true)) (tree-between at rows h) ∙ ap (λ e. chosen s (is_kin e true) all) (sym (add-one d))
    ∙ sym (at-visit axis.Attribute s rows at nodes h ∙ kids-below is_attribute s rows at nodes h)

below-rows : (s : Slab Slot) (rows : List Row) (at : ℕ) → at < length rows
    → numbers (filter is_plain (map (node_of s) (take (deeper (get_or rows at no_row).depth (drop (at + 1) rows)) (drop (at + 1) rows))))
    ≡ chosen s is_plain (between (at + 1) (at + length (tree_of (drop at rows))) rows)
below-rows s rows at h = ap (chosen s is_plain) (tree-between at rows h)

pub descendant-axis : (s : Slab Slot) (rows : List Row) (at : ℕ) → AreNodes s rows → at < length rows
    → chosen s is_plain (between (at + 1) (at + length (tree_of (drop at rows))) rows) ≡ axis_of axis.Descendant (number_of_row s rows at) (visits (map (node_of s) rows))
descendant-axis s rows at nodes h =
    let n = number_of_row s rows at in
    let x = get_or rows at no_row in
    sym (at-visit axis.Descendant s rows at nodes h ∙ (parted-under no_attribute n _ _ _ _ (parted-here s rows at nodes h)).without
    ∙ ap (λ l. numbers (filter is_plain l)) (below-is s x.depth (drop (at + 1) rows)) ∙ below-rows s rows at h)

pub descendant-or_self-axis : (s : Slab Slot) (rows : List Row) (at : ℕ) → AreNodes s rows → at < length rows
    → number_of_row s rows at ∷ chosen s is_plain (between (at + 1) (at + length (tree_of (drop at rows))) rows) ≡ axis_of axis.DescendantOrSelf (number_of_row s rows at) (visits (map (node_of s) rows))
descendant-or_self-axis s rows at nodes h =
    let n = number_of_row s rows at in
    let x = get_or rows at no_row in
    sym (at-visit axis.DescendantOrSelf s rows at nodes h ∙ (parted-under no_attribute n _ _ _ _ (parted-here s rows at nodes h)).with_it
    ∙ ap (λ l. n ∷ l) (ap (λ l. numbers (filter is_plain l)) (below-is s x.depth (drop (at + 1) rows)) ∙ below-rows s rows at h))

-- ---- upwards

-- on a reverse axis that asks for numbers
backwards : (t : ℕ → Bool) (nodes : List Node) → map (λ (v : Visit). v.number) (reverse (filter (λ (v : Visit). t v.number) (visits nodes))) ≡ reverse (filter t (numbers nodes))
backwards t nodes = map-reverse (λ (v : Visit). v.number) (filter (λ (v : Visit). t v.number) (visits nodes)) ∙ ap reverse (by-number t [] nodes)

above-opened : (s : Slab Slot) (rows : List Row) (at : ℕ) → at < length rows → still_above (get_or rows at no_row).depth (stack [] (map (node_of s) (take at rows)))
    ≡ still_above (get_or rows at no_row).depth (opened (node_of s (get_or rows at no_row) ∷ reverse (map (node_of s) (take at rows))))
above-opened s rows at h =
    let x = get_or rows at no_row in
    let us = map (node_of s) (take at rows) in
    let e : x.depth ≤ x.depth = omega arith in
    let inside : still_above x.depth (opened (node_of s x ∷ reverse us)) ≡ still_above x.depth (opened (reverse us)) = rw (lt-false x.depth x.depth e) (still-shut x.depth x.depth (opened (reverse us)) e) in
    ap (still_above x.depth) (stack-is us) ∙ sym inside

pub ancestor-axis : (s : Slab Slot) (rows : List Row) (at : ℕ) → AreNodes s rows → at < length rows
    → numbers (map (node_of s) (ancestor_rows rows at)) ≡ axis_of axis.Ancestor (number_of_row s rows at) (visits (map (node_of s) rows))
ancestor-axis s rows at nodes h =
    let x = get_or rows at no_row in
    let us = map (node_of s) (take at rows) in
    let xs = map (node_of s) (drop (at + 1) rows) in
    let all = map (node_of s) rows in
    let p = parted-here s rows at nodes h in
    let same = ap numbers (above-opened s rows at h) in
    let goes = λ (ns : List ℕ). reverse (filter (λ m. has m ns) (numbers all)) ≡ ns in
    let few = λ (n : ℕ). subst (λ l. times n l ≤ 1) p.whole (nodes.apart n) in
    let o = subst (λ l. reverse (filter (λ m. has m (numbers (still_above x.depth (opened (node_of s x ∷ reverse us))))) (numbers l)) ≡ numbers (still_above x.depth (opened (node_of s x ∷ reverse us)))) (sym p.whole) (open-found x.depth us (node_of s x) xs few) in
    sym (at-visit axis.Ancestor s rows at nodes h ∙ backwards (λ m. has m (visit_at s rows at).above) all ∙ subst goes (sym same) o ∙ above-rows s rows at h)

or-turned : (b c : Bool) → (b || c) ≡ (c || b)
or-turned true true = refl
or-turned true false = refl
or-turned false true = refl
or-turned false false = refl

pub ancestor-or_self-axis : (s : Slab Slot) (rows : List Row) (at : ℕ) → AreNodes s rows → at < length rows
    → number_of_row s rows at ∷ numbers (map (node_of s) (ancestor_rows rows at)) ≡ axis_of axis.AncestorOrSelf (number_of_row s rows at) (visits (map (node_of s) rows))
ancestor-or_self-axis s rows at nodes h =
    let x = get_or rows at no_row in
    let n = number_of_row s rows at in
    let us = map (node_of s) (take at rows) in
    let xs = map (node_of s) (drop (at + 1) rows) in
    let all = map (node_of s) rows in
    let ns = (visit_at s rows at).above in
    let p = parted-here s rows at nodes h in
    let less : x.depth < suc x.depth = omega arith in
    let same : numbers (still_above (suc x.depth) (opened (node_of s x ∷ reverse us))) ≡ n ∷ ns =
    rw (lt-true x.depth (suc x.depth) less) (ap (λ l. n ∷ numbers (still_above x.depth l)) (sym (stack-is us))) in
    let goes = λ (ms : List ℕ). reverse (filter (λ m. has m ms) (numbers all)) ≡ ms in
    let few = λ (k : ℕ). subst (λ l. times k l ≤ 1) p.whole (nodes.apart k) in
    let o = subst (λ l. reverse (filter (λ m. has m (numbers (still_above (suc x.depth) (opened (node_of s x ∷ reverse us))))) (numbers l)) ≡ numbers (still_above (suc x.depth) (opened (node_of s x ∷ reverse us)))) (sym p.whole) (open-found (suc x.depth) us (node_of s x) xs few) in
    let test = λ (m : ℕ). has m ns || (n == m) in
    let turned = filter-alike test (λ m. has m (n ∷ ns)) (numbers all) (λ m. or-turned (has m ns) (n == m) ∙ ap (λ b. b || has m ns) (eq-turned n m)) in
    sym (at-visit axis.AncestorOrSelf s rows at nodes h ∙ backwards test all ∙ ap reverse turned ∙ subst goes same o ∙ ap (λ l. n ∷ l) (above-rows s rows at h))

pub parent-axis : (s : Slab Slot) (rows : List Row) (at : ℕ) (above : Option ℕ) → AreNodes s rows → at < length rows → above ≡ parent_row_of rows at
    → walk_of s rows above Nothing ≡ axis_of axis.Parent (number_of_row s rows at) (visits (map (node_of s) rows))
parent-axis s rows at None nodes h e =
    let ns = (visit_at s rows at).above in
    let none : first_of ns ≡ None = first-is s rows at nodes h ∙ ap (number_at s rows) (sym e) in
    sym (at-visit axis.Parent s rows at nodes h ∙ backwards (λ m. is_first m ns) (map (node_of s) rows) ∙ ap reverse (filter-none (λ m. is_first m ns) (numbers (map (node_of s) rows)) (λ m. no-first ns m none)))
parent-axis s rows at (Some above) nodes h e =
    let ns = (visit_at s rows at).above in
    let m = number_of_row s rows above in
    let f = family no_attribute s rows above at nodes h e in
    let in_rows : above < length rows = omega (arith, f.order) in
    let one = filter-alike (λ k. is_first k ns) (λ k. m == k) (numbers (map (node_of s) rows)) (λ k. first-test ns m k f.first ∙ eq-turned k m) in
    sym (at-visit axis.Parent s rows at nodes h ∙ backwards (λ k. is_first k ns) (map (node_of s) rows) ∙ ap reverse (one ∙ one-equal m _ _ _ _ (parted-here s rows above nodes in_rows)))

-- ---- beside

-- a top has no siblings
alone : (s : Slab Slot) (rows : List Row) (at : ℕ) (vs : List Visit) → AreNodes s rows → at < length rows → None ≡ parent_row_of rows at → found (are_siblings (visit_at s rows at)) vs ≡ []
alone s rows at vs nodes h e =
    let v = visit_at s rows at in
    let none : first_of v.above ≡ None = first-is s rows at nodes h ∙ ap (number_at s rows) (sym e) in
    found-none (are_siblings v) vs (λ y. rw (same-none v.above y.above none) refl)

and-false : (b c : Bool) → ((b && false) && c) ≡ false
and-false true c = refl
and-false false c = refl

and-true : (b c : Bool) → ((b && true) && c) ≡ (b && c)
and-true true c = refl
and-true false c = refl

-- nor has an attribute
of-attribute : (s : Slab Slot) (rows : List Row) (at : ℕ) (vs : List Visit) → is_attribute (content_in (get s (get_or rows at no_row).key)) ≡ true → found (are_siblings (visit_at s rows at)) vs ≡ []
of-attribute s rows at vs is =
    let v = visit_at s rows at in
    found-none (are_siblings v) vs (λ y. rw is (and-false (same_parent v.above y.above) (not (is_attribute y.content))))

siblings-are : (s : Slab Slot) (rows : List Row) (above at : ℕ) (vs : List Visit) → Family no_attribute s rows above at → is_attribute (content_in (get s (get_or rows at no_row).key)) ≡ false
    → found (are_siblings (visit_at s rows at)) vs ≡ kids no_attribute (number_of_row s rows above) vs
siblings-are s rows above at vs f other =
    let v = visit_at s rows at in
    let m = number_of_row s rows above in
    found-alike (are_siblings v) (λ y. is_first m y.above && no_attribute y.content) vs
    (λ y. rw (same-first v.above y.above m f.first, other) (and-true (is_first m y.above) (not (is_attribute y.content))))

following-is : (s : Slab Slot) (rows : List Row) (at : ℕ) → AreNodes s rows → at < length rows
    → axis_of axis.FollowingSibling (number_of_row s rows at) (visits (map (node_of s) rows)) ≡ found (are_siblings (visit_at s rows at)) (visits_behind s rows at)
following-is s rows at nodes h =
    let p = parted-here s rows at nodes h in
    at-visit axis.FollowingSibling s rows at nodes h
    ∙ ap (found (are_siblings (visit_at s rows at))) (ap (λ l. after (number_of_row s rows at) (visits l)) p.whole ∙ visits-after (number_of_row s rows at) [] _ _ _ refl p.before)

preceding-is : (s : Slab Slot) (rows : List Row) (at : ℕ) → AreNodes s rows → at < length rows
    → axis_of axis.PrecedingSibling (number_of_row s rows at) (visits (map (node_of s) rows)) ≡ reverse (found (are_siblings (visit_at s rows at)) (visits (map (node_of s) (take at rows))))
preceding-is s rows at nodes h =
    let p = parted-here s rows at nodes h in
    at-visit axis.PrecedingSibling s rows at nodes h
    ∙ map-reverse (λ (v : Visit). v.number) (filter (are_siblings (visit_at s rows at)) (before (number_of_row s rows at) (visits (map (node_of s) rows))))
    ∙ ap (λ l. reverse (found (are_siblings (visit_at s rows at)) l)) (ap (λ l. before (number_of_row s rows at) (visits l)) p.whole ∙ visits-before (number_of_row s rows at) [] _ _ _ refl p.before)

pub following-alone : (s : Slab Slot) (rows : List Row) (at : ℕ) → AreNodes s rows → at < length rows → None ≡ parent_row_of rows at
    → [] ≡ axis_of axis.FollowingSibling (number_of_row s rows at) (visits (map (node_of s) rows))
following-alone s rows at nodes h e = sym (following-is s rows at nodes h ∙ alone s rows at (visits_behind s rows at) nodes h e)

pub preceding-alone : (s : Slab Slot) (rows : List Row) (at : ℕ) → AreNodes s rows → at < length rows → None ≡ parent_row_of rows at
    → [] ≡ axis_of axis.PrecedingSibling (number_of_row s rows at) (visits (map (node_of s) rows))
preceding-alone s rows at nodes h e = sym (preceding-is s rows at nodes h ∙ ap reverse (alone s rows at (visits (map (node_of s) (take at rows))) nodes h e))

pub following-attribute : (s : Slab Slot) (rows : List Row) (at : ℕ) → AreNodes s rows → at < length rows → is_attribute (content_in (get s (get_or rows at no_row).key)) ≡ true
    → [] ≡ axis_of axis.FollowingSibling (number_of_row s rows at) (visits (map (node_of s) rows))
following-attribute s rows at nodes h is = sym (following-is s rows at nodes h ∙ of-attribute s rows at (visits_behind s rows at) is)

pub preceding-attribute : (s : Slab Slot) (rows : List Row) (at : ℕ) → AreNodes s rows → at < length rows → is_attribute (content_in (get s (get_or rows at no_row).key)) ≡ true
    → [] ≡ axis_of axis.PrecedingSibling (number_of_row s rows at) (visits (map (node_of s) rows))
preceding-attribute s rows at nodes h is = sym (preceding-is s rows at nodes h ∙ ap reverse (of-attribute s rows at (visits (map (node_of s) (take at rows))) is))

pub preceding-axis : (s : Slab Slot) (rows : List Row) (above at : ℕ) → AreNodes s rows → at < length rows → Some above ≡ parent_row_of rows at
    → is_attribute (content_in (get s (get_or rows at no_row).key)) ≡ false
    → reverse (chosen s (is_kin (get_or rows at no_row).depth false) (between (above + 1) at rows)) ≡ axis_of axis.PrecedingSibling (number_of_row s rows at) (visits (map (node_of s) rows))
preceding-axis s rows above at nodes h e other =
    let f = family no_attribute s rows above at nodes h e in
    sym (preceding-is s rows at nodes h ∙ ap reverse (siblings-are s rows above at (visits (map (node_of s) (take at rows))) f other ∙ f.earlier))

-- the rows behind the tree at a place, to the end of its parent's
pub record Beside (q : Content → Bool) (s : Slab Slot) (rows : List Row) (at stop end : ℕ) : Type 0 where
  pub deep : AllDeep (get_or rows at no_row).depth (between stop end rows)
  pub same : chosen s (is_kid q (get_or rows at no_row).depth) (between stop end rows) ≡ chosen s (is_kid q (get_or rows at no_row).depth) (between (at + 1) end rows)

pub beside : (q : Content → Bool) (s : Slab Slot) (rows : List Row) (above at stop end : ℕ) → Family q s rows above at → stop ≡ at + length (tree_of (drop at rows)) → end ≡ above + length (tree_of (drop above rows))
    → Beside q s rows at stop end
beside q s rows above at stop end f e g =
    let p = get_or rows above no_row in
    let x = get_or rows at no_row in
    let later = drop (above + 1) rows in
    let o = f.order in
    let i = f.inside in
    let w = f.within in
    let in_rows : above < length rows = omega arith in
    let size = tree-size above rows in_rows in
    let most : end - (above + 1) ≤ deeper p.depth later = omega arith in
    let all = deep-prefix p.depth (end - (above + 1)) later most in
    let k = at - (above + 1) in
    let sum : above + 1 + k ≡ at = omega arith in
    let left : end - (above + 1) - k ≡ end - at = omega arith in
    let from_at : AllDeep (p.depth + 1) (between at end rows) =
    subst (AllDeep (p.depth + 1)) (ap (λ n. take n (drop k later)) left ∙ ap (take (end - at)) (drop-drop k (above + 1) rows ∙ ap (λ n. drop n rows) sum)) (deep-behind (p.depth + 1) (end - (above + 1)) k later all) in
    let deep = subst (λ d. AllDeep d (between at end rows)) (sym f.depth) from_at in
    let b = behind s x.depth q rows at end stop (omega arith) (omega arith) deep e in
    record { deep = b.deep; same = b.same }

pub following-axis : (s : Slab Slot) (rows : List Row) (above at stop end : ℕ) → AreNodes s rows → at < length rows → Some above ≡ parent_row_of rows at
    → is_attribute (content_in (get s (get_or rows at no_row).key)) ≡ false → stop ≡ at + length (tree_of (drop at rows)) → end ≡ above + length (tree_of (drop above rows))
    → chosen s (is_kin (get_or rows at no_row).depth false) (between stop end rows) ≡ axis_of axis.FollowingSibling (number_of_row s rows at) (visits (map (node_of s) rows))
following-axis s rows above at stop end nodes h e other to last =
    let f = family no_attribute s rows above at nodes h e in
    let b = beside no_attribute s rows above at stop end f to last in
    let d = (get_or rows at no_row).depth in
    sym (following-is s rows at nodes h ∙ siblings-are s rows above at (visits_behind s rows at) f other ∙ later-kids no_attribute s rows above at nodes h f
    ∙ ap (λ k. chosen s (is_kin d false) (between (at + 1) k rows)) (sym last) ∙ sym b.same)

-- ---- what the first places hold to

-- no depth is greater than its place
pub depth-small : (rows : List Row) (at : ℕ) → AreSteps 0 (depths rows) → at < length rows → (get_or rows at no_row).depth ≤ at
depth-small rows at steps h = omega (arith, bound 0 rows at steps h)
  where
    bound : (most : ℕ) (xs : List Row) (i : ℕ) → AreSteps most (depths xs) → i < length xs → (get_or xs i no_row).depth ≤ most + i
    bound most [] i a l = absurd (omega arith)
    bound most (x ∷ xs) zero a l = omega (arith, a.0)
    bound most (x ∷ xs) (suc i) a l = omega (arith, a.0, bound (suc x.depth) xs i a.1 (omega arith))

pub tree-deep : (rows : List Row) (at : ℕ) → at < length rows → AllDeep ((get_or rows at no_row).depth + 1) (between (at + 1) (at + length (tree_of (drop at rows))) rows)
tree-deep rows at h =
    let x = get_or rows at no_row in
    let later = drop (at + 1) rows in
    let least : deeper x.depth later ≤ deeper x.depth later = omega arith in
    subst (AllDeep (x.depth + 1)) (tree-between at rows h) (deep-prefix x.depth (deeper x.depth later) later least)
