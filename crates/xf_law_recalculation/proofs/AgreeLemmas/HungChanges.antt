-- Changes leave texts in elements: a tree that moves has no text as its top, so that its texts stay below that.
use Rattle.std.proofs.Common.{◌≡◌, ℕ, zero, suc, ◌+◌, ◌-◌, ◌==◌, Bool, true, false, not, cond, ◌&&◌, ◌||◌, List, [], ◌∷◌, ◌++◌, map, find, length, Option, Some, None, option_map, nat_lt, refl, sym, ap, ◌∙◌, inl, inr, arith}
use Rattle.std.specs.Prelude.{◌⊎◌, filter, Ok}
use Rattle.std.proofs.lemmas.Bool.Decides.{nat_tests}
use Rattle.xf_def_forest.specs.declared.content.Node.{Node}
use Rattle.xf_def_forest.specs.declared.content.Content.{Content}
use Rattle.xf_def_forest.specs.declared.content.Content.TheVariants as content
use Rattle.xf_def_forest.specs.declared.content.Kind.{Kind}
use Rattle.xf_def_forest.specs.declared.content.Kind.TheVariants as kind
use Rattle.xf_def_forest.specs.Changes.{shifted, moved_to, without_tree, is_detached_top, in_instances, contents_in, at_place, with_child, with_attribute, with_part, with_below}
use Rattle.xf_def_forest.specs.Forest.{Forest, is_root, is_element, is_attribute, is_text, kind_of, kind_at, below, past, first_tree, from_node, tree_of}
use Rattle.xf_def_forest.specs.declared.fault.TreeFault.{TreeFault}
use Rattle.xf_def_forest.specs.Limits.{passed_by_all, unless}
use Rattle.xf_def_forest.specs.Plant.{numbered_from}
use Rattle.xf_def_forest.specs.Settle.{with_numbered_text}
use Rattle.xf_def_forest.specs.Texts.{one_text, at_depth, with_content, with_texts, with_value, valued}
use Rattle.xf_def_forest.proofs.BackLaws.{and-true, HasText}
use Rattle.xf_def_forest.proofs.RunLemmas.{IsRun, IsLeafAt, attribute-no_text}
use Rattle.xf_def_forest.proofs.TextLaws.{has_text}
use Rattle.xf_def_xpath.proofs.VisitFacts.{no, some-same}
use Rattle.xf_law_recalculation.specs.Agree.Hung.{hangs, rooted_by, are_hung_from, begins_at_top, HungText, HungDetached, HungPlaced, HungGrown, HungCopied, HungInstances}

both-true : (a b : Bool) → a ≡ true → b ≡ true → (a && b) ≡ true
both-true true b h k = k
both-true false b h k = h

-- ---- parts of a list

last_rooted : Bool → List Node → Bool
last_rooted r [] = r
last_rooted r (x ∷ xs) = last_rooted (rooted_by r x) xs

hung-append : (r : Bool) (xs ys : List Node) → are_hung_from r xs ≡ true → are_hung_from (last_rooted r xs) ys ≡ true → are_hung_from r (xs ++ ys) ≡ true
unfolding last_rooted
hung-append r [] ys h k = k
hung-append r (x ∷ xs) ys h k =
    let parts = and-true (hangs r x) (are_hung_from (rooted_by r x) xs) h in
    both-true (hangs r x) (are_hung_from (rooted_by r x) (xs ++ ys)) parts.0 (hung-append (rooted_by r x) xs ys parts.1 k)

last-append : (r : Bool) (xs ys : List Node) → last_rooted r (xs ++ ys) ≡ last_rooted (last_rooted r xs) ys
unfolding last_rooted
last-append r [] ys = refl
last-append r (x ∷ xs) ys = last-append (rooted_by r x) xs ys

-- a node that is no text may stand anywhere, a deep one too
hangs-plain : (r : Bool) (x : Node) → is_text x.content ≡ false → hangs r x ≡ true
hangs-plain r x t = ap (λ b. not b || nat_lt 1 x.depth || ((x.depth == 1) && not r)) t

or-right : (a b c : Bool) → b ≡ true → (a || b || c) ≡ true
or-right true b c h = refl
or-right false true c h = refl
or-right false false c h = no h

hangs-deep : (r : Bool) (x : Node) → nat_lt 1 x.depth ≡ true → hangs r x ≡ true
hangs-deep r x h = or-right (not (is_text x.content)) (nat_lt 1 x.depth) ((x.depth == 1) && not r) h

hangs-below : (x : Node) → nat_lt 0 x.depth ≡ true → hangs false x ≡ true
hangs-below x h = by (is_text x.content) (nat_lt 1 x.depth) refl
  where
    by : (a b : Bool) → nat_lt 1 x.depth ≡ b → (not a || b || ((x.depth == 1) && true)) ≡ true
    by false b e = refl
    by true true e = refl
    by true false e = let one : (x.depth == 1) ≡ true = grind (arith, nat_tests, h, e) in ap (λ c. c && true) one

rooted-below : (r : Bool) (x : Node) → nat_lt 0 x.depth ≡ true → rooted_by r x ≡ r
rooted-below r x h = let deep : (x.depth == 0) ≡ false = grind (arith, nat_tests, h) in ap (λ b. cond b (is_root x.content) r) deep

-- behind a top nothing before it counts
abbrev BeginsLow : ℕ → List Node → Type 0
BeginsLow d [] = Unit {0}
BeginsLow d (x ∷ xs) = nat_lt d x.depth ≡ false

top-any : (r s : Bool) (xs : List Node) → BeginsLow 0 xs → are_hung_from r xs ≡ true → are_hung_from s xs ≡ true
top-any r s [] b h = refl
top-any r s (x ∷ xs) b h =
    let top : (x.depth == 0) ≡ true = grind (arith, nat_tests, b) in
    let parts = and-true (hangs r x) (are_hung_from (rooted_by r x) xs) h in
    let plain : is_text x.content ≡ false = none (is_text x.content) (nat_lt 1 x.depth) (x.depth == 1) r (shallow top) (flat top) parts.0 in
    both-true (hangs s x) (are_hung_from (rooted_by s x) xs) (hangs-plain s x plain)
    (ap (λ c. are_hung_from (cond c (is_root x.content) s) xs) top ∙ sym (ap (λ c. are_hung_from (cond c (is_root x.content) r) xs) top) ∙ parts.1)
  where
    shallow : (x.depth == 0) ≡ true → nat_lt 1 x.depth ≡ false
    shallow e = grind (arith, nat_tests, e)

    flat : (x.depth == 0) ≡ true → (x.depth == 1) ≡ false
    flat e = grind (arith, nat_tests, e)

    none : (t a b c : Bool) → a ≡ false → b ≡ false → (not t || a || (b && not c)) ≡ true → t ≡ false
    none false a b c i j k = refl
    none true true b c i j k = i
    none true false true c i j k = no (sym j)
    none true false false c i j k = sym k

past-low : (d : ℕ) (xs : List Node) → BeginsLow d (past d xs)
past-low d [] = tt
past-low d (x ∷ xs) = by (nat_lt d x.depth) refl (past-low d xs)
  where
    by : (b : Bool) → nat_lt d x.depth ≡ b → BeginsLow d (past d xs) → BeginsLow d (cond b (past d xs) (x ∷ xs))
    by true e i = i
    by false e i = e

-- what is deeper goes, and the tops stay
past-hung : (r : Bool) (d : ℕ) (xs : List Node) → are_hung_from r xs ≡ true → are_hung_from r (past d xs) ≡ true
past-hung r d [] h = h
past-hung r d (x ∷ xs) h = by (nat_lt d x.depth) refl (past-hung r d xs)
  where
    by : (b : Bool) → nat_lt d x.depth ≡ b → (are_hung_from r xs ≡ true → are_hung_from r (past d xs) ≡ true) → are_hung_from r (cond b (past d xs) (x ∷ xs)) ≡ true
    by true e later =
        let deep : nat_lt 0 x.depth ≡ true = grind (arith, nat_tests, e) in
        later (ap (λ s. are_hung_from s xs) (sym (rooted-below r x deep)) ∙ (and-true (hangs r x) (are_hung_from (rooted_by r x) xs) h).1)
    by false e later = h

-- behind a node, what is past it, as if the node were not there
past-without : (r : Bool) (x : Node) (xs : List Node) → are_hung_from (rooted_by r x) xs ≡ true → are_hung_from r (past x.depth xs) ≡ true
past-without r x xs h = by x.depth refl
  where
    by : (d : ℕ) → x.depth ≡ d → are_hung_from r (past d xs) ≡ true
    by zero e = top-any (rooted_by r x) r (past 0 xs) (past-low 0 xs) (past-hung (rooted_by r x) 0 xs h)
    by (suc d) e =
        let deep : nat_lt 0 x.depth ≡ true = grind (arith, nat_tests, e) in
        past-hung r (suc d) xs (ap (λ s. are_hung_from s xs) (sym (rooted-below r x deep)) ∙ h)

without-hung : (n : ℕ) (r : Bool) (nodes : List Node) → are_hung_from r nodes ≡ true → are_hung_from r (without_tree n nodes) ≡ true
without-hung n r [] h = h
without-hung n r (x ∷ xs) h = by (x.number == n) (without-hung n (rooted_by r x) xs parts.1)
  where
    parts : (hangs r x ≡ true) × (are_hung_from (rooted_by r x) xs ≡ true)
    parts = and-true (hangs r x) (are_hung_from (rooted_by r x) xs) h

    by : (b : Bool) → are_hung_from (rooted_by r x) (without_tree n xs) ≡ true → are_hung_from r (cond b (past x.depth xs) (x ∷ without_tree n xs)) ≡ true
    by true i = past-without r x xs parts.1
    by false i = both-true (hangs r x) (are_hung_from (rooted_by r x) (without_tree n xs)) parts.0 i

-- ---- a tree that moves

-- its nodes below the top, at a depth or in no root
below-moved : (d to : ℕ) (r : Bool) (xs : List Node) → (to ≡ 0 → r ≡ false) → (are_hung_from r (map (shifted d to) (below d xs)) ≡ true) × (last_rooted r (map (shifted d to) (below d xs)) ≡ r)
unfolding last_rooted
below-moved d to r [] h = (refl, refl)
below-moved d to r (x ∷ xs) h = by (nat_lt d x.depth) refl (below-moved d to r xs h)
  where
    deep : nat_lt d x.depth ≡ true → nat_lt 0 (shifted d to x).depth ≡ true
    deep e = grind (arith, nat_tests, e)

    deeper : (t : ℕ) → nat_lt d x.depth ≡ true → nat_lt 1 (shifted d (suc t) x).depth ≡ true
    deeper t e = grind (arith, nat_tests, e)

    here : (t : ℕ) → to ≡ t → nat_lt d x.depth ≡ true → hangs r (shifted d to x) ≡ true
    here zero e l = ap (λ s. hangs s (shifted d to x)) (h e) ∙ hangs-below (shifted d to x) (deep l)
    here (suc t) e l = hangs-deep r (shifted d to x) (ap (λ u. nat_lt 1 (shifted d u x).depth) e ∙ deeper t l)

    by : (b : Bool) → nat_lt d x.depth ≡ b → (are_hung_from r (map (shifted d to) (below d xs)) ≡ true) × (last_rooted r (map (shifted d to) (below d xs)) ≡ r) →
        (are_hung_from r (map (shifted d to) (cond b (x ∷ below d xs) [])) ≡ true) × (last_rooted r (map (shifted d to) (cond b (x ∷ below d xs) [])) ≡ r)
    by false e i = (refl, refl)
    by true e i =
        let same = rooted-below r (shifted d to x) (deep e) in (
          both-true (hangs r (shifted d to x)) (are_hung_from (rooted_by r (shifted d to x)) (map (shifted d to) (below d xs))) (here to refl e) (ap (λ s. are_hung_from s (map (shifted d to) (below d xs))) same ∙ i.0),
          ap (λ s. last_rooted s (map (shifted d to) (below d xs))) same ∙ i.1,
        )

abbrev IsPlain : Node → Type 0
IsPlain x = (is_text x.content ≡ false) × (is_root x.content ≡ false)

-- as a tree of its own, whatever is before it
alone-hung : (r : Bool) (x : Node) (xs : List Node) → IsPlain x → are_hung_from r (moved_to 0 (x ∷ below x.depth xs)) ≡ true
alone-hung r x xs p =
    let top : ((shifted x.depth 0 x).depth == 0) ≡ true = at x.depth in
    both-true (hangs r (shifted x.depth 0 x)) (are_hung_from (rooted_by r (shifted x.depth 0 x)) (map (shifted x.depth 0) (below x.depth xs)))
    (hangs-plain r (shifted x.depth 0 x) p.0)
    (ap (λ s. are_hung_from s (map (shifted x.depth 0) (below x.depth xs))) (ap (λ c. cond c (is_root x.content) r) top ∙ p.1) ∙ (below-moved x.depth 0 false xs (λ e. refl)).0)
  where
    at : (d : ℕ) → ((0 + (d - d)) == 0) ≡ true
    at d = grind (arith, nat_tests)

-- below a parent
under-hung : (r : Bool) (to : ℕ) (x : Node) (xs : List Node) → IsPlain x →
    (are_hung_from r (moved_to (suc to) (x ∷ below x.depth xs)) ≡ true) × (last_rooted r (moved_to (suc to) (x ∷ below x.depth xs)) ≡ r)
unfolding last_rooted
under-hung r to x xs p =
    let same : rooted_by r (shifted x.depth (suc to) x) ≡ r = rooted-below r (shifted x.depth (suc to) x) (deep x.depth) in
    let rest = below-moved x.depth (suc to) r xs (λ e. cc e) in (
      both-true (hangs r (shifted x.depth (suc to) x)) (are_hung_from (rooted_by r (shifted x.depth (suc to) x)) (map (shifted x.depth (suc to)) (below x.depth xs)))
          (hangs-plain r (shifted x.depth (suc to) x) p.0) (ap (λ s. are_hung_from s (map (shifted x.depth (suc to)) (below x.depth xs))) same ∙ rest.0),
      ap (λ s. last_rooted s (map (shifted x.depth (suc to)) (below x.depth xs))) same ∙ rest.1,
    )
  where
    deep : (d : ℕ) → nat_lt 0 (suc to + (d - d)) ≡ true
    deep d = grind (arith, nat_tests)

-- the tree of a node that is no text and no root
kinds : (k : Kind) → (k ≡ kind.Element) ⊎ (k ≡ kind.Attribute) → (c : Content) → kind_of c ≡ k → (is_text c ≡ false) × (is_root c ≡ false)
kinds k h content.Root e = by h
  where
    by : (k ≡ kind.Element) ⊎ (k ≡ kind.Attribute) → (is_text content.Root ≡ false) × (is_root content.Root ≡ false)
    by (inl i) = cc (e, i)
    by (inr i) = cc (e, i)
kinds k h (content.Element name) e = (refl, refl)
kinds k h (content.Attribute name text) e = (refl, refl)
kinds k h (content.Text text) e = by h
  where
    by : (k ≡ kind.Element) ⊎ (k ≡ kind.Attribute) → (is_text (content.Text text) ≡ false) × (is_root (content.Text text) ≡ false)
    by (inl i) = cc (e, i)
    by (inr i) = cc (e, i)

-- it is empty, or has such a top
abbrev IsTree : List Node → Type 0
IsTree t = (t ≡ []) ⊎ ((x : Node) × (xs : List Node) × (t ≡ x ∷ below x.depth xs) × IsPlain x)

tree-at : (n : ℕ) (nodes : List Node) → (kind_at n nodes ≡ Some kind.Element) ⊎ (kind_at n nodes ≡ Some kind.Attribute) → IsTree (tree_of n nodes)
tree-at n [] h = inl refl
tree-at n (x ∷ xs) h = by (x.number == n) h (tree-at n xs)
  where
    by : (b : Bool) → (option_map kind_of (option_map (λ (z : Node). z.content) (cond b (Some x) (find (λ z. z.number == n) xs))) ≡ Some kind.Element)
        ⊎ (option_map kind_of (option_map (λ (z : Node). z.content) (cond b (Some x) (find (λ z. z.number == n) xs))) ≡ Some kind.Attribute) →
        ((kind_at n xs ≡ Some kind.Element) ⊎ (kind_at n xs ≡ Some kind.Attribute) → IsTree (tree_of n xs)) → IsTree (first_tree (cond b (x ∷ xs) (from_node n xs)))
    by true (inl i) later = inr (x, xs, refl, kinds kind.Element (inl refl) x.content (some-same i))
    by true (inr i) later = inr (x, xs, refl, kinds kind.Attribute (inr refl) x.content (some-same i))
    by false i later = later i

pub hung_detached : HungDetached
hung_detached forest n may hung =
    hung-append true (without_tree n forest.nodes) (moved_to 0 (tree_of n forest.nodes)) (without-hung n true forest.nodes hung) (of (last_rooted true (without_tree n forest.nodes)) (tree_of n forest.nodes) (tree-at n forest.nodes may.kind))
  where
    of : (r : Bool) (t : List Node) → IsTree t → are_hung_from r (moved_to 0 t) ≡ true
    of r t (inl e) = ap (λ u. are_hung_from r (moved_to 0 u)) e
    of r t (inr s) = ap (λ u. are_hung_from r (moved_to 0 u)) s.2 ∙ alone-hung r s.0 s.1 s.3

-- ---- a tree that comes in

-- a part that may stand anywhere, and after which all is as before
abbrev Fits : List Node → Type 0
Fits t = (r : Bool) → (are_hung_from r t ≡ true) × (last_rooted r t ≡ r)

fit-before : (t ys : List Node) → Fits t → (r : Bool) → are_hung_from r ys ≡ true → are_hung_from r (t ++ ys) ≡ true
fit-before t ys f r h = hung-append r t ys (f r).0 (ap (λ s. are_hung_from s ys) (f r).1 ∙ h)

child-hung : (depth place : ℕ) (t : List Node) → Fits t → (r : Bool) (ys : List Node) → are_hung_from r ys ≡ true → are_hung_from r (with_child depth place t ys) ≡ true
child-hung depth place t f r [] h = (f r).0
child-hung depth place t f r (y ∷ ys) h = by (nat_lt y.depth depth) (nat_lt depth y.depth || is_attribute y.content) (λ p. child-hung depth p t f (rooted_by r y) ys parts.1)
  where
    parts : (hangs r y ≡ true) × (are_hung_from (rooted_by r y) ys ≡ true)
    parts = and-true (hangs r y) (are_hung_from (rooted_by r y) ys) h

    on : (zs : List Node) → are_hung_from (rooted_by r y) zs ≡ true → are_hung_from r (y ∷ zs) ≡ true
    on zs i = both-true (hangs r y) (are_hung_from (rooted_by r y) zs) parts.0 i

    placed-at : (p : ℕ) → ((q : ℕ) → are_hung_from (rooted_by r y) (with_child depth q t ys) ≡ true) → are_hung_from r (at_place p (t ++ y ∷ ys) (λ q. y ∷ with_child depth q t ys)) ≡ true
    placed-at zero later = fit-before t (y ∷ ys) f r h
    placed-at (suc p) later = on (with_child depth p t ys) (later p)

    by : (a b : Bool) → ((p : ℕ) → are_hung_from (rooted_by r y) (with_child depth p t ys) ≡ true) →
        are_hung_from r (cond a (t ++ y ∷ ys) (cond b (y ∷ with_child depth place t ys) (at_place place (t ++ y ∷ ys) (λ left. y ∷ with_child depth left t ys)))) ≡ true
    by true b later = fit-before t (y ∷ ys) f r h
    by false true later = on (with_child depth place t ys) (later place)
    by false false later = placed-at place later

attribute-hung : (depth place : ℕ) (t : List Node) → Fits t → (r : Bool) (ys : List Node) → are_hung_from r ys ≡ true → are_hung_from r (with_attribute depth place t ys) ≡ true
attribute-hung depth place t f r [] h = (f r).0
attribute-hung depth place t f r (y ∷ ys) h = by ((y.depth == depth) && is_attribute y.content) (λ p. attribute-hung depth p t f (rooted_by r y) ys parts.1)
  where
    parts : (hangs r y ≡ true) × (are_hung_from (rooted_by r y) ys ≡ true)
    parts = and-true (hangs r y) (are_hung_from (rooted_by r y) ys) h

    placed-at : (p : ℕ) → ((q : ℕ) → are_hung_from (rooted_by r y) (with_attribute depth q t ys) ≡ true) → are_hung_from r (at_place p (t ++ y ∷ ys) (λ q. y ∷ with_attribute depth q t ys)) ≡ true
    placed-at zero later = fit-before t (y ∷ ys) f r h
    placed-at (suc p) later = both-true (hangs r y) (are_hung_from (rooted_by r y) (with_attribute depth p t ys)) parts.0 (later p)

    by : (a : Bool) → ((p : ℕ) → are_hung_from (rooted_by r y) (with_attribute depth p t ys) ≡ true) → are_hung_from r (cond a (at_place place (t ++ y ∷ ys) (λ left. y ∷ with_attribute depth left t ys)) (t ++ y ∷ ys)) ≡ true
    by true later = placed-at place later
    by false later = fit-before t (y ∷ ys) f r h

part-hung : (to place : ℕ) (t : List Node) → IsTree t → (r : Bool) (ys : List Node) → are_hung_from r ys ≡ true → are_hung_from r (with_part (suc to) place t ys) ≡ true
part-hung to place t (inl e) r ys h = ap (λ u. are_hung_from r (with_part (suc to) place u ys)) e ∙ h
part-hung to place t (inr s) r ys h = ap (λ u. are_hung_from r (with_part (suc to) place u ys)) s.2 ∙ by (is_attribute s.0.content)
  where
    fits : Fits (moved_to (suc to) (s.0 ∷ below s.0.depth s.1))
    fits q = under-hung q to s.0 s.1 s.3

    by : (b : Bool) → are_hung_from r (cond b (with_attribute (suc to) place (moved_to (suc to) (s.0 ∷ below s.0.depth s.1)) ys) (with_child (suc to) place (moved_to (suc to) (s.0 ∷ below s.0.depth s.1)) ys)) ≡ true
    by true = attribute-hung (suc to) place (moved_to (suc to) (s.0 ∷ below s.0.depth s.1)) fits r ys h
    by false = child-hung (suc to) place (moved_to (suc to) (s.0 ∷ below s.0.depth s.1)) fits r ys h

below-hung : (parent place : ℕ) (t : List Node) → IsTree t → (r : Bool) (nodes : List Node) → are_hung_from r nodes ≡ true → are_hung_from r (with_below parent place t nodes) ≡ true
below-hung parent place t s r [] h = h
below-hung parent place t s r (x ∷ xs) h = by (x.number == parent) (below-hung parent place t s (rooted_by r x) xs parts.1)
  where
    parts : (hangs r x ≡ true) × (are_hung_from (rooted_by r x) xs ≡ true)
    parts = and-true (hangs r x) (are_hung_from (rooted_by r x) xs) h

    by : (b : Bool) → are_hung_from (rooted_by r x) (with_below parent place t xs) ≡ true → are_hung_from r (cond b (x ∷ with_part (suc x.depth) place t xs) (x ∷ with_below parent place t xs)) ≡ true
    by true i = both-true (hangs r x) (are_hung_from (rooted_by r x) (with_part (suc x.depth) place t xs)) parts.0 (part-hung x.depth place t s (rooted_by r x) xs parts.1)
    by false i = both-true (hangs r x) (are_hung_from (rooted_by r x) (with_below parent place t xs)) parts.0 i

pub hung_placed : HungPlaced
hung_placed forest n parent place kind hung = below-hung parent place (tree_of n forest.nodes) (tree-at n forest.nodes kind) true (without_tree n forest.nodes) (without-hung n true forest.nodes hung)

-- ---- new trees, and those of the instances

pub hung_grown : HungGrown
hung_grown nodes trees top hung new = hung-append true nodes trees hung (top-any true (last_rooted true nodes) trees (low trees top) new)
  where
    low : (ts : List Node) → begins_at_top ts ≡ true → BeginsLow 0 ts
    low [] e = tt
    low (x ∷ xs) e = grind (arith, nat_tests, e)

-- the numbers of nodes do not count
numbered-hung : (r : Bool) (k : ℕ) (xs : List Node) → are_hung_from r xs ≡ true → are_hung_from r (numbered_from k (map (λ x. (x.depth, x.content)) xs)) ≡ true
numbered-hung r k [] h = refl
numbered-hung r k (x ∷ xs) h =
    let parts = and-true (hangs r x) (are_hung_from (rooted_by r x) xs) h in
    both-true (hangs r x) (are_hung_from (rooted_by r x) (numbered_from (suc k) (map (λ (y : Node). (y.depth, y.content)) xs))) parts.0 (numbered-hung (rooted_by r x) (suc k) xs parts.1)

unless-ok : {X : Type 0} (o : Option TreeFault) (x y : X) → unless o x ≡ Ok y → x ≡ y
unless-ok None x y h = cc h
unless-ok (Some fault) x y h = cc h

pub hung_copied : HungCopied
hung_copied l forest after n k kind made hung =
    ap (λ (p : ℕ × Forest). are_hung_from true p.1.nodes) (sym (unless-ok (passed_by_all l (forest.nodes ++ numbered_from forest.next (contents_in (tree_of n forest.nodes)))) (forest.next, record { nodes = forest.nodes ++ numbered_from forest.next (contents_in (tree_of n forest.nodes)); next = forest.next + length (tree_of n forest.nodes) }) (k, after) made))
    ∙ hung-append true forest.nodes (numbered_from forest.next (contents_in (tree_of n forest.nodes))) hung (of (last_rooted true forest.nodes) (tree_of n forest.nodes) (tree-at n forest.nodes kind))
  where
    of : (r : Bool) (t : List Node) → IsTree t → are_hung_from r (numbered_from forest.next (contents_in t)) ≡ true
    of r t (inl e) = ap (λ u. are_hung_from r (numbered_from forest.next (contents_in u))) e
    of r t (inr s) = ap (λ u. are_hung_from r (numbered_from forest.next (contents_in u))) s.2 ∙ numbered-hung r forest.next (moved_to 0 (s.0 ∷ below s.0.depth s.1)) (alone-hung r s.0 s.1 s.3)

instances-hung : (r : Bool) (nodes : List Node) → are_hung_from r nodes ≡ true → are_hung_from r (in_instances nodes) ≡ true
instances-hung r [] h = h
instances-hung r (x ∷ xs) h = by (is_detached_top x) (instances-hung (rooted_by r x) xs parts.1)
  where
    parts : (hangs r x ≡ true) × (are_hung_from (rooted_by r x) xs ≡ true)
    parts = and-true (hangs r x) (are_hung_from (rooted_by r x) xs) h

    by : (b : Bool) → are_hung_from (rooted_by r x) (in_instances xs) ≡ true → are_hung_from r (cond b [] (x ∷ in_instances xs)) ≡ true
    by true i = refl
    by false i = both-true (hangs r x) (are_hung_from (rooted_by r x) (in_instances xs)) parts.0 i

pub hung_instances : HungInstances
hung_instances nodes hung = instances-hung true nodes hung

-- ---- a text that is set

value-text : (text : List ℕ) (c : Content) → (is_text (with_value text c) ≡ is_text c) × (is_root (with_value text c) ≡ is_root c)
value-text text content.Root = (refl, refl)
value-text text (content.Element name) = (refl, refl)
value-text text (content.Attribute name old) = (refl, refl)
value-text text (content.Text old) = (refl, refl)

valued-hung : (n : ℕ) (text : List ℕ) (r : Bool) (xs : List Node) → are_hung_from r xs ≡ true → are_hung_from r (map (valued n text) xs) ≡ true
valued-hung n text r [] h = h
valued-hung n text r (x ∷ xs) h = by (x.number == n) (valued-hung n text (rooted_by r x) xs parts.1)
  where
    parts : (hangs r x ≡ true) × (are_hung_from (rooted_by r x) xs ≡ true)
    parts = and-true (hangs r x) (are_hung_from (rooted_by r x) xs) h

    by : (b : Bool) → are_hung_from (rooted_by r x) (map (valued n text) xs) ≡ true → are_hung_from r (cond b (record x { content = with_value text x.content }) x ∷ map (valued n text) xs) ≡ true
    by true i = both-true (hangs r (record x { content = with_value text x.content })) (are_hung_from (rooted_by r (record x { content = with_value text x.content })) (map (valued n text) xs))
        (ap (λ b. not b || nat_lt 1 x.depth || ((x.depth == 1) && not r)) (value-text text x.content).0 ∙ parts.0)
        (ap (λ b. are_hung_from (cond (x.depth == 0) b r) (map (valued n text) xs)) (value-text text x.content).1 ∙ i)
    by false i = both-true (hangs r x) (are_hung_from (rooted_by r x) (map (valued n text) xs)) parts.0 i

-- the attributes of an element may stand, and so may its text
attributes-fit : (d : ℕ) (r : Bool) (xs : List Node) → (are_hung_from r (filter (λ y. is_attribute y.content) (below d xs)) ≡ true) × (last_rooted r (filter (λ y. is_attribute y.content) (below d xs)) ≡ r)
unfolding last_rooted
attributes-fit d r [] = (refl, refl)
attributes-fit d r (x ∷ xs) = by (nat_lt d x.depth) refl (attributes-fit d r xs)
  where
    by : (b : Bool) → nat_lt d x.depth ≡ b → (are_hung_from r (filter (λ y. is_attribute y.content) (below d xs)) ≡ true) × (last_rooted r (filter (λ y. is_attribute y.content) (below d xs)) ≡ r) →
        (are_hung_from r (filter (λ y. is_attribute y.content) (cond b (x ∷ below d xs) [])) ≡ true) × (last_rooted r (filter (λ y. is_attribute y.content) (cond b (x ∷ below d xs) [])) ≡ r)
    by false e i = (refl, refl)
    by true e i = of (is_attribute x.content) refl
      where
        of : (c : Bool) → is_attribute x.content ≡ c → (are_hung_from r (cond c (x ∷ filter (λ y. is_attribute y.content) (below d xs)) (filter (λ y. is_attribute y.content) (below d xs))) ≡ true)
            × (last_rooted r (cond c (x ∷ filter (λ y. is_attribute y.content) (below d xs)) (filter (λ y. is_attribute y.content) (below d xs))) ≡ r)
        of false j = i
        of true j =
            let deep : nat_lt 0 x.depth ≡ true = grind (arith, nat_tests, e) in
            let same = rooted-below r x deep in (
              both-true (hangs r x) (are_hung_from (rooted_by r x) (filter (λ (y : Node). is_attribute y.content) (below d xs))) (hangs-plain r x (attribute-no_text x.content j))
                  (ap (λ s. are_hung_from s (filter (λ (y : Node). is_attribute y.content) (below d xs))) same ∙ i.0),
              ap (λ s. last_rooted s (filter (λ (y : Node). is_attribute y.content) (below d xs))) same ∙ i.1,
            )

-- one text below an element
text-fits : (k d : ℕ) (text : List ℕ) (r : Bool) → (d ≡ 0 → r ≡ false) → (are_hung_from r (map (at_depth (suc d)) (one_text k text)) ≡ true) × (last_rooted r (map (at_depth (suc d)) (one_text k text)) ≡ r)
unfolding last_rooted
text-fits k d [] r h = (refl, refl)
text-fits k zero (c ∷ cs) r h = (ap (λ s. (false || false || (true && not s)) && true) (h refl), refl)
text-fits k (suc d) (c ∷ cs) r h =
    let placed_text : Node = record { number = k; depth = suc (suc d); content = content.Text (c ∷ cs) } in
    (both-true (hangs r placed_text) true (hangs-deep r placed_text two) refl, rooted-below r placed_text deep)
  where
    two : nat_lt 1 (suc (suc d)) ≡ true
    two = grind (arith, nat_tests)

    deep : nat_lt 0 (suc (suc d)) ≡ true
    deep = grind (arith, nat_tests)

element-root : (c : Content) → is_element c ≡ true → is_root c ≡ false
element-root content.Root h = no h
element-root (content.Element name) h = refl
element-root (content.Attribute name text) h = refl
element-root (content.Text text) h = refl

texts-hung : (k n : ℕ) (text : List ℕ) (r : Bool) (nodes : List Node) → IsLeafAt n nodes → are_hung_from r nodes ≡ true → are_hung_from r (with_texts n (one_text k text) nodes) ≡ true
texts-hung k n text r [] leaf h = h
texts-hung k n text r (x ∷ xs) leaf h = by (x.number == n) leaf (λ l. texts-hung k n text (rooted_by r x) xs l parts.1)
  where
    parts : (hangs r x ≡ true) × (are_hung_from (rooted_by r x) xs ≡ true)
    parts = and-true (hangs r x) (are_hung_from (rooted_by r x) xs) h

    none : is_element x.content ≡ true → x.depth ≡ 0 → rooted_by r x ≡ false
    none el e = let top : (x.depth == 0) ≡ true = grind (arith, nat_tests, e) in ap (λ b. cond b (is_root x.content) r) top ∙ element-root x.content el

    content-hung : is_element x.content ≡ true → are_hung_from (rooted_by r x) (with_content x.depth (one_text k text) xs) ≡ true
    content-hung el =
        let attributes = attributes-fit x.depth (rooted_by r x) xs in
        let new = text-fits k x.depth text (rooted_by r x) (none el) in
        hung-append (rooted_by r x) (filter (λ (y : Node). is_attribute y.content) (below x.depth xs) ++ map (at_depth (suc x.depth)) (one_text k text)) (past x.depth xs)
        (hung-append (rooted_by r x) (filter (λ (y : Node). is_attribute y.content) (below x.depth xs)) (map (at_depth (suc x.depth)) (one_text k text)) attributes.0 (ap (λ s. are_hung_from s (map (at_depth (suc x.depth)) (one_text k text))) attributes.1 ∙ new.0))
        (ap (λ s. are_hung_from s (past x.depth xs)) (last-append (rooted_by r x) (filter (λ (y : Node). is_attribute y.content) (below x.depth xs)) (map (at_depth (suc x.depth)) (one_text k text)) ∙ ap (λ s. last_rooted s (map (at_depth (suc x.depth)) (one_text k text))) attributes.1 ∙ new.1)
        ∙ past-hung (rooted_by r x) x.depth xs parts.1)

    by : (b : Bool) → cond b ((is_element x.content ≡ true) × IsRun x.depth (below x.depth xs)) (IsLeafAt n xs) → (IsLeafAt n xs → are_hung_from (rooted_by r x) (with_texts n (one_text k text) xs) ≡ true) →
        are_hung_from r (cond b (x ∷ with_content x.depth (one_text k text) xs) (x ∷ with_texts n (one_text k text) xs)) ≡ true
    by true l later = both-true (hangs r x) (are_hung_from (rooted_by r x) (with_content x.depth (one_text k text) xs)) parts.0 (content-hung l.0)
    by false l later = both-true (hangs r x) (are_hung_from (rooted_by r x) (with_texts n (one_text k text) xs)) parts.0 (later l)

pub hung_text : HungText
hung_text forest number n text trees able hung = by (has_text n forest trees able)
  where
    by : HasText n forest.nodes → are_hung_from true (with_numbered_text number n text forest.nodes) ≡ true
    by (inl h) = ap (λ b. are_hung_from true (cond b (map (valued n text) forest.nodes) (with_texts n (one_text number text) forest.nodes))) h ∙ valued-hung n text true forest.nodes hung
    by (inr h) = ap (λ b. are_hung_from true (cond b (map (valued n text) forest.nodes) (with_texts n (one_text number text) forest.nodes))) h.0 ∙ texts-hung number n text true forest.nodes h.1 hung
