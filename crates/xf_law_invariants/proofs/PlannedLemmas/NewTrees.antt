-- The tree of an element or attribute that stands, made anew or cut off: its texts stand in elements as before.
use Rattle.std.proofs.Common.{◌≡◌, ℕ, suc, ◌+◌, ◌-◌, ◌==◌, Bool, true, false, not, cond, ◌&&◌, ◌||◌, List, [], ◌∷◌, ◌++◌, map, length, nat_lt, Option, Some, None, option_map, refl, sym, ap, ◌∙◌, subst, inl, inr, arith}
use Rattle.std.specs.Prelude.{◌⊎◌}
use Rattle.std.specs.List.{list_all, list_any}
use Rattle.std.proofs.lemmas.Bool.{eqb-true}
use Rattle.std.proofs.lemmas.Bool.Decides.{nat_tests}
use Rattle.xf_def_forest.specs.declared.content.Content.{Content}
use Rattle.xf_def_forest.specs.declared.content.Content.TheVariants as content
use Rattle.xf_def_forest.specs.declared.content.Kind.TheVariants as kind
use Rattle.xf_def_forest.specs.declared.content.Node.{Node}
use Rattle.xf_def_forest.specs.declared.fault.TreeFault.TheVariants as fault
use Rattle.xf_def_forest.specs.Changes.{contents_in, detached, moved_to, shifted, with_below, with_part, without_tree}
use Rattle.xf_def_forest.specs.Forest.{Forest, has_number, is_root, is_text, kind_at, kind_of, node_at, past, tree_of}
use Rattle.xf_def_forest.specs.Limits.{Limits, all_size, node_count, passed_by_all, unless}
use Rattle.xf_def_forest.specs.Plant.{numbered_from}
use Rattle.xf_def_forest.specs.WellFormed.{HasTrees, are_below}
use Rattle.xf_def_forest.proofs.BackLaws.{and-true, not-true, or-false}
use Rattle.xf_law_recalculation.specs.Agree.Hung.{are_hung, are_hung_from, hangs, rooted_by}
use Rattle.xf_law_recalculation.specs.Agree.Hung as hung
use Rattle.xf_law_recalculation.proofs.AgreeLemmas.HungChanges.{hung_copied, hung_grown, hung_placed}
use Rattle.xf_law_forests.specs.Rollback.Made.{IsGrowth, begins_at_top}
use Rattle.xf_law_forests.specs.Root.Roots.{IsNoRoot}
use Rattle.xf_law_forests.proofs.RootLemmas.Parts.{tree-rootless}
use Rattle.xf_law_forests.proofs.RootLemmas.Shown.{rootless}

-- ---- the contents of a tree without a root

contents-top : (xs : List Node) → begins_at_top (contents_in xs) ≡ true
contents-top [] = refl
contents-top (x ∷ xs) = let e : 0 + (x.depth - x.depth) ≡ 0 = omega arith in grind (arith, nat_tests, e)

contents-rootless : (xs : List Node) → rootless xs ≡ true → list_any (λ p. is_root p.1) (contents_in xs) ≡ false
contents-rootless [] h = refl
contents-rootless (x ∷ xs) h = moved x.depth (x ∷ xs) h
  where
    moved : (from : ℕ) (ys : List Node) → rootless ys ≡ true → list_any (λ (p : ℕ × Content). is_root p.1) (map (λ (y : Node). (y.depth, y.content)) (map (shifted from 0) ys)) ≡ false
    moved from [] i = refl
    moved from (y ∷ ys) i =
        let ps = and-true (not (is_root y.content)) (rootless ys) i in
        ap (λ b. b || list_any (λ (p : ℕ × Content). is_root p.1) (map (λ (z : Node). (z.depth, z.content)) (map (shifted from 0) ys))) (not-true (is_root y.content) ps.0) ∙ moved from ys ps.1

some-same : {X : Type 0} {x y : X} → ◌≡◌ {A = Option X} (Some x) (Some y) → x ≡ y
some-same e = cc e

-- no node with this number is a root
no-root : (n : ℕ) (forest : Forest) → IsNoRoot n forest → (z : Node) → node_at n forest.nodes ≡ Some z → is_root z.content ≡ false
no-root n forest h z e = elim h [ inl i ↦ of (inl (some-same (told i))) | inr i ↦ of (inr (some-same (told i))) ]
  where
    told : {k : Option _} → kind_at n forest.nodes ≡ k → Some (kind_of z.content) ≡ k
    told i = sym (ap (λ o. option_map kind_of (option_map (λ (y : Node). y.content) o)) e) ∙ i

    of : (kind_of z.content ≡ kind.Element) ⊎ (kind_of z.content ≡ kind.Attribute) → is_root z.content ≡ false
    of i = by z.content i
      where
        by : (c : Content) → (kind_of c ≡ kind.Element) ⊎ (kind_of c ≡ kind.Attribute) → is_root c ≡ false
        by content.Root (inl j) = cc j
        by content.Root (inr j) = cc j
        by (content.Element name) j = refl
        by (content.Attribute name text) j = refl
        by (content.Text text) j = refl

pub again-growth : (n : ℕ) (forest : Forest) → HasTrees forest → IsNoRoot n forest → IsGrowth (contents_in (tree_of n forest.nodes))
again-growth n forest trees kinds = record {
  top = contents-top (tree_of n forest.nodes);
  rootless = contents-rootless (tree_of n forest.nodes) (tree-rootless n forest.nodes trees.tops (no-root n forest kinds));
}

-- ---- texts in elements

both-true : (a b : Bool) → a ≡ true → b ≡ true → (a && b) ≡ true
both-true true b h k = k
both-true false b h k = h

-- nodes that begin at a top are hung as behind others
flat : (r : Bool) (y : Node) → y.depth ≡ 0 → hangs r y ≡ hangs true y
flat r y e = ap (λ d. not (is_text y.content) || nat_lt 1 d || ((d == 1) && not r)) e ∙ sym (ap (λ d. not (is_text y.content) || nat_lt 1 d || ((d == 1) && not true)) e)

flat-rooted : (r : Bool) (y : Node) → y.depth ≡ 0 → rooted_by r y ≡ rooted_by true y
flat-rooted r y e = ap (λ d. cond (d == 0) (is_root y.content) r) e ∙ sym (ap (λ d. cond (d == 0) (is_root y.content) true) e)

second-hung : (r : Bool) (next : ℕ) (xs : List Node) (cs : List (ℕ × Content)) → begins_at_top cs ≡ true → are_hung_from r (xs ++ numbered_from next cs) ≡ true → are_hung_from true (numbered_from next cs) ≡ true
second-hung r next [] [] t h = refl
second-hung r next [] (c ∷ cs) t h =
    let x : Node = record { number = next; depth = c.0; content = c.1 } in
    let top : c.0 ≡ 0 = eqb-true c.0 0 t in
    let parts = and-true (hangs r x) (are_hung_from (rooted_by r x) (numbered_from (suc next) cs)) h in
    both-true (hangs true x) (are_hung_from (rooted_by true x) (numbered_from (suc next) cs)) (sym (flat r x top) ∙ parts.0)
    (ap (λ s. are_hung_from s (numbered_from (suc next) cs)) (sym (flat-rooted r x top)) ∙ parts.1)
second-hung r next (x ∷ xs) cs t h = second-hung (rooted_by r x) next xs cs t (and-true (hangs r x) (are_hung_from (rooted_by r x) (xs ++ numbered_from next cs)) h).1

-- numbers do not count
pub unnumbered : (r : Bool) (next : ℕ) (ys : List Node) → are_hung_from r (numbered_from next (map (λ (x : Node). (x.depth, x.content)) ys)) ≡ are_hung_from r ys
unnumbered r next [] = refl
unnumbered r next (y ∷ ys) = ap (λ b. hangs r y && b) (unnumbered (rooted_by r y) (suc next) ys)

not-less : (n : ℕ) → nat_lt n n ≡ false
not-less n = grind (arith, nat_tests)

-- limits that are not passed
abbrev wide : List Node → Limits
wide nodes = record { nodes = node_count nodes; text = 0; all = all_size nodes; depth = 0 }

none-passed : (nodes : List Node) → passed_by_all (wide nodes) nodes ≡ None
none-passed nodes =
    ap (λ b. cond b (Some fault.Nodes) (cond (nat_lt (all_size nodes) (all_size nodes)) (Some fault.AllText) None)) (not-less (node_count nodes)) ∙ ap (λ b. cond b (Some fault.AllText) None) (not-less (all_size nodes))

-- its tree alone, with a top of depth 0
pub tree-hung : (n : ℕ) (forest : Forest) → HasTrees forest → IsNoRoot n forest → are_hung forest.nodes ≡ true → are_hung (moved_to 0 (tree_of n forest.nodes)) ≡ true
tree-hung n forest trees kinds h =
    let contents = contents_in (tree_of n forest.nodes) in
    let growth = again-growth n forest trees kinds in
    let after : Forest = record { nodes = forest.nodes ++ numbered_from forest.next contents; next = forest.next + length (tree_of n forest.nodes) } in
    let whole : are_hung after.nodes ≡ true = hung_copied (wide after.nodes) forest after n forest.next kinds (ap (λ o. unless o (forest.next, after)) (none-passed after.nodes)) h in
    sym (unnumbered true forest.next (moved_to 0 (tree_of n forest.nodes))) ∙ second-hung true forest.next forest.nodes contents growth.top whole

pub again-hung : (n next : ℕ) (forest : Forest) → HasTrees forest → IsNoRoot n forest → are_hung forest.nodes ≡ true → are_hung (numbered_from next (contents_in (tree_of n forest.nodes))) ≡ true
again-hung n next forest trees kinds h = unnumbered true next (moved_to 0 (tree_of n forest.nodes)) ∙ tree-hung n forest trees kinds h

-- ---- a tree that is cut off

pub new-number : (next : ℕ) (xs : List Node) → are_below next xs ≡ true → has_number next xs ≡ false
new-number next [] h = refl
new-number next (x ∷ xs) h =
    let parts = and-true (nat_lt x.number next) (list_all (λ (y : Node). nat_lt y.number next) xs) h in
    let less = parts.0 in
    let other : (x.number == next) ≡ false = grind (arith, nat_tests, less) in
    rw other (new-number next xs parts.1)

past-number : (k d : ℕ) (xs : List Node) → has_number k xs ≡ false → has_number k (past d xs) ≡ false
past-number k d [] h = refl
past-number k d (x ∷ xs) h = by (nat_lt d x.depth) (past-number k d xs (or-false (x.number == k) (has_number k xs) h).1)
  where
    by : (b : Bool) → has_number k (past d xs) ≡ false → has_number k (cond b (past d xs) (x ∷ xs)) ≡ false
    by true i = i
    by false i = h

without-number : (k n : ℕ) (xs : List Node) → has_number k xs ≡ false → has_number k (without_tree n xs) ≡ false
without-number k n [] h = refl
without-number k n (x ∷ xs) h = by (x.number == n) (without-number k n xs parts.1)
  where
    parts : ((x.number == k) ≡ false) × (has_number k xs ≡ false)
    parts = or-false (x.number == k) (has_number k xs) h

    by : (b : Bool) → has_number k (without_tree n xs) ≡ false → has_number k (cond b (past x.depth xs) (x ∷ without_tree n xs)) ≡ false
    by true i = past-number k x.depth xs parts.1
    by false i = rw parts.0 i

below-nothing : (p place : ℕ) (tree xs : List Node) → has_number p xs ≡ false → with_below p place tree xs ≡ xs
below-nothing p place tree [] h = refl
below-nothing p place tree (x ∷ xs) h =
    let parts = or-false (x.number == p) (has_number p xs) h in
    ap (λ b. cond b (x ∷ with_part (suc x.depth) place tree xs) (x ∷ with_below p place tree xs)) parts.0 ∙ ap (λ l. x ∷ l) (below-nothing p place tree xs parts.1)

pub hung-cut : (n : ℕ) (forest : Forest) → HasTrees forest → IsNoRoot n forest → are_hung forest.nodes ≡ true → are_hung (detached n forest).nodes ≡ true
hung-cut n forest trees kinds h =
    let gone : has_number forest.next (without_tree n forest.nodes) ≡ false = without-number forest.next n forest.nodes (new-number forest.next forest.nodes trees.below) in
    let rest : are_hung (without_tree n forest.nodes) ≡ true
    = subst (λ l. are_hung l ≡ true) (below-nothing forest.next 0 (tree_of n forest.nodes) (without_tree n forest.nodes) gone) (hung_placed forest n forest.next 0 kinds h) in
    hung_grown (without_tree n forest.nodes) (moved_to 0 (tree_of n forest.nodes)) (top (tree_of n forest.nodes)) rest (tree-hung n forest trees kinds h)
  where
    top : (xs : List Node) → hung.begins_at_top (moved_to 0 xs) ≡ true
    top [] = refl
    top (x ∷ xs) = let e : 0 + (x.depth - x.depth) ≡ 0 = omega arith in grind (arith, nat_tests, e)
