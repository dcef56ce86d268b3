-- New trees without a root: those of an element with resolved names, and those of an element or attribute that stands. Their texts stand in elements.
use Rattle.std.proofs.Common.{◌≡◌, ℕ, suc, ◌+◌, ◌≤◌, ◌==◌, Bool, true, false, not, cond, ◌&&◌, ◌||◌, List, [], ◌∷◌, ◌++◌, map, flat_map, length, nat_lt, Some, None, refl, sym, ap, ◌∙◌, subst, arith}
use Rattle.std.specs.Prelude.{count_by}
use Rattle.std.specs.List.{list_all, list_any}
use Rattle.std.proofs.lemmas.Bool.{eqb-true}
use Rattle.std.proofs.lemmas.Bool.Decides.{nat_tests}
use Rattle.std.proofs.lemmas.List.Recursion.{is_count_by}
use Rattle.xf_name.specs.Bindings.{Bindings}
use Rattle.xf_def_forest.specs.declared.bare.Bare.{Bare}
use Rattle.xf_def_forest.specs.declared.bare.Bare.TheOpen.{Bare-F, BareElement-F}
use Rattle.xf_def_forest.specs.declared.bare.Bare.TheFolds.{fold-roll-Bare, fold-roll-BareElement, map-Bare, ind-BareElement}
use Rattle.xf_def_forest.specs.declared.bare.Bare.TheViews.{roll-Bare, roll-BareElement}
use Rattle.xf_def_forest.specs.declared.bare.Bare.TheVariants as bare
use Rattle.xf_def_forest.specs.declared.bare.BareAttribute.{BareAttribute}
use Rattle.xf_def_forest.specs.declared.bare.BareElement.{BareElement, fold-BareElement}
use Rattle.xf_def_forest.specs.declared.content.Content.{Content}
use Rattle.xf_def_forest.specs.declared.content.Content.TheVariants.{Element, Text}
use Rattle.xf_def_forest.specs.declared.content.Node.{Node}
use Rattle.xf_def_forest.specs.declared.fault.TreeFault.TheVariants as fault
use Rattle.xf_def_forest.specs.Changes.{contents_in}
use Rattle.xf_def_forest.specs.Forest.{Forest, is_root, is_text, tree_of}
use Rattle.xf_def_forest.specs.Limits.{Limits, all_size, node_count, passed_by_all, unless}
use Rattle.xf_def_forest.specs.Plant.{Contents, at_depth, in_order, in_place, is_less, name_for, numbered_from, text_contents, written_of}
use Rattle.xf_def_forest.specs.Planted.{bare_attribute, bare_contents, bare_element_contents, contents_of_bare}
use Rattle.xf_def_forest.proofs.BackLaws.{and-true, or-false}
use Rattle.xf_law_recalculation.specs.Agree.Hung.{are_hung, are_hung_from, hangs, rooted_by}
use Rattle.xf_law_recalculation.proofs.AgreeLemmas.HungChanges.{hung_copied}
use Rattle.xf_law_forests.specs.Rollback.Made.{begins_at_top}
use Rattle.xf_law_rebuild.specs.Trees.{GrownAgain, GrownBare, IsGrown}
use Rattle.xf_law_rebuild.proofs.Places.{again-growth}

both-true : (a b : Bool) → a ≡ true → b ≡ true → (a && b) ≡ true
both-true true b h k = k
both-true false b h k = h

-- ---- contents below a top: they are deep and without a root

abbrev is_below : ℕ × Content → Bool
is_below p = not (is_root p.1) && nat_lt 0 p.0

abbrev AreBelow : List (ℕ × Content) → Type 0
AreBelow contents = list_all is_below contents ≡ true

below-append : (xs ys : List (ℕ × Content)) → AreBelow xs → AreBelow ys → AreBelow (xs ++ ys)
below-append [] ys h k = k
below-append (x ∷ xs) ys h k = let parts = and-true (is_below x) (list_all is_below xs) h in both-true (is_below x) (list_all is_below (xs ++ ys)) parts.0 (below-append xs ys parts.1 k)

deep-suc : (d : ℕ) → nat_lt 0 (suc d) ≡ true
deep-suc d = grind (arith, nat_tests)

below-depth : (depth : ℕ) (cs : List Content) → list_any is_root cs ≡ false → AreBelow (at_depth (suc depth) cs)
below-depth depth [] h = refl
below-depth depth (c ∷ cs) h =
    let parts = or-false (is_root c) (list_any is_root cs) h in
    both-true (is_below (suc depth, c)) (list_all is_below (at_depth (suc depth) cs)) (ap (λ b. not b && nat_lt 0 (suc depth)) parts.0 ∙ deep-suc depth) (below-depth depth cs parts.1)

rootless-place : (c : Content) (cs : List Content) → is_root c ≡ false → list_any is_root cs ≡ false → list_any is_root (in_place c cs) ≡ false
rootless-place c [] h k = rw h refl
rootless-place c (x ∷ xs) h k =
    let parts = or-false (is_root x) (list_any is_root xs) k in
    by (is_less (written_of x) (written_of c)) parts.0 (rootless-place c xs h parts.1)
  where
    by : (b : Bool) → is_root x ≡ false → list_any is_root (in_place c xs) ≡ false → list_any is_root (cond b (x ∷ in_place c xs) (c ∷ x ∷ xs)) ≡ false
    by true e f = rw e f
    by false e f = rw h k

rootless-order : (cs : List Content) → list_any is_root cs ≡ false → list_any is_root (in_order cs) ≡ false
rootless-order [] h = refl
rootless-order (c ∷ cs) h = let parts = or-false (is_root c) (list_any is_root cs) h in rootless-place c (in_order cs) parts.0 (rootless-order cs parts.1)

attributes-rootless : (b : Bindings) (attributes : List BareAttribute) → list_any is_root (map (bare_attribute b) attributes) ≡ false
attributes-rootless b [] = refl
attributes-rootless b (a ∷ more) = attributes-rootless b more

-- ---- below an element with resolved names

abbrev GoBelow : Contents → Type 0
GoBelow w = (space depth : ℕ) → AreBelow (w space (suc depth))

text-below : (text : List ℕ) → GoBelow (text_contents text)
text-below [] space depth = let deep : (suc depth == 0) ≡ false = grind (arith, nat_tests) in ap (λ b. list_all is_below (cond b (at_depth 0 (Text [] ∷ [])) [])) deep
text-below (c ∷ cs) space depth = both-true (nat_lt 0 (suc depth)) true (deep-suc depth) refl

-- what stands in an element, whatever depth that has
abbrev AreIn : Bindings → BareElement-F Contents Contents → Type 0
AreIn b e = (space depth : ℕ) → AreBelow (at_depth (suc depth) (in_order (map (bare_attribute b) e.attributes)) ++ flat_map (λ child. child space (suc depth)) e.children)

abbrev Holds : Bindings → (e : BareElement-F Contents Contents) → Type 0
Holds b e = (space depth : ℕ) → AreBelow (flat_map (λ child. child space (suc depth)) e.children)

element-in : (b : Bindings) (e : BareElement-F Contents Contents) → Holds b e → AreIn b e
element-in b e h space depth =
    below-append (at_depth (suc depth) (in_order (map (bare_attribute b) e.attributes))) (flat_map (λ child. child space (suc depth)) e.children)
    (below-depth depth (in_order (map (bare_attribute b) e.attributes)) (rootless-order (map (bare_attribute b) e.attributes) (attributes-rootless b e.attributes))) (h space depth)

-- an element: its top, and what goes below it
record IsElement (w : Contents) : Type 0 where
  pub top : ℕ → Content
  pub rest : ℕ → ℕ → List (ℕ × Content)
  pub is : (space depth : ℕ) → w space depth ≡ (depth, top depth) ∷ rest space depth
  pub plain : (depth : ℕ) → (is_root (top depth) ≡ false) × (is_text (top depth) ≡ false)
  pub below : (space depth : ℕ) → AreBelow (rest space depth)

element-is : (b : Bindings) (e : BareElement-F Contents Contents) → Holds b e → IsElement (bare_element_contents b e)
element-is b e h = record {
  top = λ depth. Element (name_for b e.name);
  rest = λ space depth. at_depth (suc depth) (in_order (map (bare_attribute b) e.attributes)) ++ flat_map (λ child. child space (suc depth)) e.children;
  is = λ space depth. refl;
  plain = λ depth. (refl, refl);
  below = element-in b e h;
}

element-below : (w : Contents) → IsElement w → GoBelow w
element-below w i space depth =
    ap (list_all is_below) (i.is space (suc depth))
    ∙ both-true (is_below (suc depth, i.top (suc depth))) (list_all is_below (i.rest space (suc depth))) (ap (λ b. not b && nat_lt 0 (suc depth)) (i.plain (suc depth)).0 ∙ deep-suc depth) (i.below space (suc depth))

abbrev bare_of : Bindings → BareElement → Contents
bare_of b = fold-BareElement Contents Contents bare_contents (bare_element_contents b)

abbrev BareBelow : Bindings → Type 0
BareBelow b = (x : Bare) × GoBelow (contents_of_bare b x)

abbrev BarePart : Bindings → Type 0
BarePart b = (e : BareElement) × IsElement (bare_of b e)

bare-children : (b : Bindings) (ys : List (BareBelow b)) (space depth : ℕ) → AreBelow (flat_map (λ child. child space (suc depth)) (map (contents_of_bare b) (map (λ y. y.0) ys)))
bare-children b [] space depth = refl
bare-children b (y ∷ ys) space depth = below-append (contents_of_bare b y.0 space (suc depth)) _ (y.1 space depth) (bare-children b ys space depth)

bare-level : (b : Bindings) (y : Bare-F (BareBelow b) (BarePart b)) → GoBelow (contents_of_bare b (roll-Bare (map-Bare (BareBelow b) (BarePart b) Bare BareElement (λ c. c.0) (λ c. c.0) y)))
bare-level b (Bare-F.Text t) = subst GoBelow (sym (fold-roll-Bare Contents Contents bare_contents (bare_element_contents b) (Bare-F.Text t))) (text-below t)
bare-level b (Bare-F.Element e) = subst GoBelow (sym (fold-roll-Bare Contents Contents bare_contents (bare_element_contents b) (Bare-F.Element e.0))) (element-below (bare_of b e.0) e.1)

bare-part : (b : Bindings) (y : BareElement-F (BareBelow b) (BarePart b)) → IsElement (bare_of b (roll-BareElement (record { name = y.name; attributes = y.attributes; children = map (λ c. c.0) y.children })))
bare-part b y =
    subst IsElement (sym (fold-roll-BareElement Contents Contents bare_contents (bare_element_contents b) (record { name = y.name; attributes = y.attributes; children = map (λ c. c.0) y.children })))
    (element-is b (record { name = y.name; attributes = y.attributes; children = map (contents_of_bare b) (map (λ c. c.0) y.children) }) (bare-children b y.children))

bare-element : (b : Bindings) (e : BareElement) → IsElement (bare_of b e)
bare-element b = ind-BareElement (λ x. GoBelow (contents_of_bare b x)) (λ e. IsElement (bare_of b e))
    (λ x y is. subst (λ z. GoBelow (contents_of_bare b (roll-Bare z))) is (bare-level b y)) (λ x y is. subst (λ z. IsElement (bare_of b (roll-BareElement z))) is (bare-part b y))

-- ---- trees without a root

below-rootless : (cs : List (ℕ × Content)) → AreBelow cs → list_any (λ p. is_root p.1) cs ≡ false
below-rootless [] h = refl
below-rootless (c ∷ cs) h =
    let parts = and-true (is_below c) (list_all is_below cs) h in
    let first = and-true (not (is_root c.1)) (nat_lt 0 c.0) parts.0 in
    by (is_root c.1) first.0 (below-rootless cs parts.1)
  where
    by : (r : Bool) → not r ≡ true → list_any (λ p. is_root p.1) cs ≡ false → (r || list_any (λ p. is_root p.1) cs) ≡ false
    by true i j = cc i
    by false i j = j

-- below a top that is no root all may stand
deep-hangs : (x : Node) → nat_lt 0 x.depth ≡ true → hangs false x ≡ true
deep-hangs x h = by (is_text x.content) (nat_lt 1 x.depth) refl
  where
    by : (a b : Bool) → nat_lt 1 x.depth ≡ b → (not a || b || ((x.depth == 1) && true)) ≡ true
    by false b e = refl
    by true true e = refl
    by true false e = let one : (x.depth == 1) ≡ true = grind (arith, nat_tests, h, e) in ap (λ c. c && true) one

deep-rooted : (r : Bool) (x : Node) → nat_lt 0 x.depth ≡ true → rooted_by r x ≡ r
deep-rooted r x h = let deep : (x.depth == 0) ≡ false = grind (arith, nat_tests, h) in ap (λ b. cond b (is_root x.content) r) deep

below-hung : (next : ℕ) (cs : List (ℕ × Content)) → AreBelow cs → are_hung_from false (numbered_from next cs) ≡ true
below-hung next [] h = refl
below-hung next (c ∷ cs) h =
    let parts = and-true (is_below c) (list_all is_below cs) h in
    let first = and-true (not (is_root c.1)) (nat_lt 0 c.0) parts.0 in
    let x : Node = record { number = next; depth = c.0; content = c.1 } in
    both-true (hangs false x) (are_hung_from (rooted_by false x) (numbered_from (suc next) cs)) (deep-hangs x first.1)
    (ap (λ r. are_hung_from r (numbered_from (suc next) cs)) (deep-rooted false x first.1) ∙ below-hung (suc next) cs parts.1)

element-grown : (w : Contents) → IsElement w → (space : ℕ) → IsGrown (w space 0)
element-grown w i space =
    let plain = i.plain 0 in
    subst IsGrown (sym (i.is space 0)) (record {
      growth = record { top = refl; rootless = ap (λ r. r || list_any (λ p. is_root p.1) (i.rest space 0)) plain.0 ∙ below-rootless (i.rest space 0) (i.below space 0) };
      hung = λ next.
          both-true (hangs true (record { number = next; depth = 0; content = i.top 0 })) (are_hung_from (is_root (i.top 0)) (numbered_from (suc next) (i.rest space 0)))
          (ap (λ t. not t || false || (false && false)) plain.1)
          (ap (λ r. are_hung_from r (numbered_from (suc next) (i.rest space 0))) plain.0 ∙ below-hung (suc next) (i.rest space 0) (i.below space 0));
    })

element-contents : (b : Bindings) (e : BareElement) → contents_of_bare b (bare.Element e) ≡ bare_of b e
element-contents b e = ap (contents_of_bare b) (sym (bare.rolls-Element e)) ∙ fold-roll-Bare Contents Contents bare_contents (bare_element_contents b) (Bare-F.Element e)

pub grown_bare : GrownBare
grown_bare b e space = subst (λ (w : Contents). IsGrown (w space 0)) (sym (element-contents b e)) (element-grown (bare_of b e) (bare-element b e) space)

-- ---- trees that stand

-- nodes that begin at a top are hung as behind others
flat : (r : Bool) (y : Node) → y.depth ≡ 0 → hangs r y ≡ hangs true y
flat r y e = ap (λ d. not (is_text y.content) || nat_lt 1 d || ((d == 1) && not r)) e ∙ sym (ap (λ d. not (is_text y.content) || nat_lt 1 d || ((d == 1) && not true)) e)

flat-rooted : (r : Bool) (y : Node) → y.depth ≡ 0 → rooted_by r y ≡ rooted_by true y
flat-rooted r y e = ap (λ d. cond (d == 0) (is_root y.content) r) e ∙ sym (ap (λ d. cond (d == 0) (is_root y.content) true) e)

second-hung : (r : Bool) (next : ℕ) (xs : List Node) (cs : List (ℕ × Content)) → begins_at_top cs ≡ true → are_hung_from r (xs ++ numbered_from next cs) ≡ true → are_hung_from true (numbered_from next cs) ≡ true
second-hung r next [] [] t h = refl
second-hung r next [] (c ∷ cs) t h =
    let x : Node = record { number = next; depth = c.0; content = c.1 } in
    let top : c.0 ≡ 0 = eqb-true c.0 0 t in
    let parts = and-true (hangs r x) (are_hung_from (rooted_by r x) (numbered_from (suc next) cs)) h in
    both-true (hangs true x) (are_hung_from (rooted_by true x) (numbered_from (suc next) cs)) (sym (flat r x top) ∙ parts.0)
    (ap (λ s. are_hung_from s (numbered_from (suc next) cs)) (sym (flat-rooted r x top)) ∙ parts.1)
second-hung r next (x ∷ xs) cs t h = second-hung (rooted_by r x) next xs cs t (and-true (hangs r x) (are_hung_from (rooted_by r x) (xs ++ numbered_from next cs)) h).1

-- numbers do not count
renumbered : (r : Bool) (next other : ℕ) (cs : List (ℕ × Content)) → are_hung_from r (numbered_from next cs) ≡ are_hung_from r (numbered_from other cs)
renumbered r next other [] = refl
renumbered r next other (c ∷ cs) =
    let x : Node = record { number = next; depth = c.0; content = c.1 } in
    ap (λ b. hangs r x && b) (renumbered (rooted_by r x) (suc next) (suc other) cs)

not-less : (n : ℕ) → nat_lt n n ≡ false
not-less n = grind (arith, nat_tests)

-- limits that are not passed
abbrev wide : List Node → Limits
wide nodes = record { nodes = node_count nodes; text = 0; all = all_size nodes; depth = 0 }

none-passed : (nodes : List Node) → passed_by_all (wide nodes) nodes ≡ None
none-passed nodes =
    ap (λ b. cond b (Some fault.Nodes) (cond (nat_lt (all_size nodes) (all_size nodes)) (Some fault.AllText) None)) (not-less (node_count nodes)) ∙ ap (λ b. cond b (Some fault.AllText) None) (not-less (all_size nodes))

pub grown_again : GrownAgain
grown_again n forest trees hung kinds =
    let contents = contents_in (tree_of n forest.nodes) in
    let growth = again-growth n forest trees kinds in
    let after : Forest = record { nodes = forest.nodes ++ numbered_from forest.next contents; next = forest.next + length (tree_of n forest.nodes) } in
    let whole : are_hung after.nodes ≡ true = hung_copied (wide after.nodes) forest after n forest.next kinds (ap (λ o. unless o (forest.next, after)) (none-passed after.nodes)) hung in
    record { growth = growth; hung = λ next. renumbered true next forest.next contents ∙ second-hung true forest.next forest.nodes contents growth.top whole }

-- ---- how many come

abbrev counted : {X : Type 0} → (X → Bool) → List X → ℕ
counted p [] = 0
counted p (x ∷ xs) = cond (p x) (1 + counted p xs) (counted p xs)

counted-is : {X : Type 0} (p : X → Bool) (xs : List X) → counted p xs ≡ count_by p xs
counted-is p xs = is_count_by (counted p) p refl (λ x xs. refl) xs

-- no fewer are counted behind others
more-counted : {X : Type 0} (p : X → Bool) (xs ys : List X) → counted p ys ≤ counted p (xs ++ ys)
more-counted p [] ys = omega arith
more-counted p (x ∷ xs) ys = by (p x) (more-counted p xs ys)
  where
    by : (b : Bool) → counted p ys ≤ counted p (xs ++ ys) → counted p ys ≤ cond b (1 + counted p (xs ++ ys)) (counted p (xs ++ ys))
    by true h = omega (arith, h)
    by false h = h

abbrev is_counted : Node → Bool
is_counted x = not (is_root x.content)

all-counted : (next : ℕ) (cs : List (ℕ × Content)) → list_any (λ p. is_root p.1) cs ≡ false → length cs ≤ counted is_counted (numbered_from next cs)
all-counted next [] h = omega arith
all-counted next (c ∷ cs) h = let parts = or-false (is_root c.1) (list_any (λ p. is_root p.1) cs) h in by (is_root c.1) parts.0 (all-counted (suc next) cs parts.1)
  where
    by : (b : Bool) → b ≡ false → length cs ≤ counted is_counted (numbered_from (suc next) cs)
        → suc (length cs) ≤ cond (not b) (1 + counted is_counted (numbered_from (suc next) cs)) (counted is_counted (numbered_from (suc next) cs))
    by true e i = cc e
    by false e i = omega (arith, i)

not-more : (n most : ℕ) → nat_lt most n ≡ false → n ≤ most
not-more n most h = grind (arith, nat_tests, h)

-- no more than the limit
pub few-come : (most next : ℕ) (nodes : List Node) (cs : List (ℕ × Content)) → list_any (λ p. is_root p.1) cs ≡ false → nat_lt most (node_count (nodes ++ numbered_from next cs)) ≡ false → length cs ≤ most
few-come most next nodes cs rootless h =
    let more = more-counted is_counted nodes (numbered_from next cs) in
    let all = all-counted next cs rootless in
    let is = counted-is is_counted (nodes ++ numbered_from next cs) in
    let bound = not-more (node_count (nodes ++ numbered_from next cs)) most h in
    omega (arith, more, all, is, bound)
