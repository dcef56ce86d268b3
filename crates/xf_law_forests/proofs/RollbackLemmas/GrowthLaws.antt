-- New trees for callers: a literal tree that is planted, with names resolved or not, and a copy are growth of what was made.
use Rattle.std.proofs.Common.{◌≡◌, ℕ, suc, ◌+◌, ◌-◌, ◌==◌, Bool, true, false, not, cond, ◌&&◌, ◌||◌, List, [], ◌∷◌, ◌++◌, map, flat_map, length, Option, Some, None, Ok, Err, refl, sym, ap, ◌∙◌, subst, arith}
use Rattle.std.specs.Prelude.{Result, if◌then◌else◌}
use Rattle.std.specs.List.{list_any, filter_map, cons_option}
use Rattle.std.proofs.lemmas.Bool.Decides.{nat_tests}
use Rattle.xf_name.specs.Part.{Kind, no_declaration, kind_of}
use Rattle.xf_name.specs.Bindings.{Bindings, resolved}
use Rattle.xf_name.specs.declared.lit.Pair.{Pair}
use Rattle.xf_name.specs.declared.lit.Lit.{Lit}
use Rattle.xf_name.specs.declared.lit.Lit.TheOpen.{Lit-F, LitElement-F}
use Rattle.xf_name.specs.declared.lit.Lit.TheFolds.{fold-roll-Lit, fold-roll-LitElement, map-Lit, ind-Lit}
use Rattle.xf_name.specs.declared.lit.Lit.TheViews.{roll-Lit, roll-LitElement}
use Rattle.xf_name.specs.declared.lit.LitElement.{LitElement, fold-LitElement}
use Rattle.xf_name.specs.declared.qname.QName.{QName}
use Rattle.xf_name.specs.declared.fault.NameFault.{NameFault}
use Rattle.xf_def_forest.specs.declared.bare.Bare.{Bare}
use Rattle.xf_def_forest.specs.declared.bare.Bare.TheOpen.{Bare-F, BareElement-F}
use Rattle.xf_def_forest.specs.declared.bare.Bare.TheFolds.{fold-roll-Bare, fold-roll-BareElement, map-Bare, ind-Bare}
use Rattle.xf_def_forest.specs.declared.bare.Bare.TheViews.{roll-Bare, roll-BareElement}
use Rattle.xf_def_forest.specs.declared.bare.BareElement.{BareElement, fold-BareElement}
use Rattle.xf_def_forest.specs.declared.bare.BareAttribute.{BareAttribute}
use Rattle.xf_def_forest.specs.declared.content.Node.{Node}
use Rattle.xf_def_forest.specs.declared.content.Content.{Content}
use Rattle.xf_def_forest.specs.declared.content.Content.TheVariants.{Text}
use Rattle.xf_def_forest.specs.declared.fault.TreeFault.{TreeFault}
use Rattle.xf_def_forest.specs.Forest.{Forest, is_root, tree_of}
use Rattle.xf_def_forest.specs.Limits.{Limits}
use Rattle.xf_def_forest.specs.Plant.{Contents, text_contents, lit_contents, element_contents, contents_of, attribute_by, attribute_in, is_less, written_of, in_place, in_order, at_depth, numbered_from}
use Rattle.xf_def_forest.specs.Planted.{bare_attribute, bare_contents, bare_element_contents, contents_of_bare, with_tree, unless_fault, planted, planted_bare}
use Rattle.xf_def_forest.specs.Changes.{shifted, contents_in, copied}
use Rattle.xf_def_forest.specs.Texts.{Keeping}
use Rattle.xf_def_forest.specs.Needs.{MayCopy}
use Rattle.xf_def_forest.specs.WellFormed.{AreTrees}
use Rattle.xf_def_forest.specs.Undo.{Ledger}
use Rattle.xf_def_forest.proofs.BackLaws.{or-false, not-true}
use Rattle.xf_law_forests.specs.Rollback.Made.{Made, grown, begins_at_top, IsGrowth, with_growth}
use Rattle.xf_law_forests.proofs.RollbackLemmas.Trees.{Trees, none, tree, times}
use Rattle.xf_law_forests.proofs.RollbackLemmas.TreeShape.{Sound}
use Rattle.xf_law_forests.proofs.RollbackLemmas.TreeMoved.{some}
use Rattle.xf_law_forests.proofs.RollbackLemmas.TreeFacts.{is_at, at-times, some-followed}
use Rattle.xf_law_forests.proofs.RollbackLemmas.KeepingTrees.{Stands, stands, any-onto, any-is}
use Rattle.xf_law_forests.proofs.RollbackLemmas.TreeMoves.{found, tree-onto}
use Rattle.xf_law_forests.proofs.RollbackLemmas.TreeTops.{at-first}
use Rattle.xf_law_forests.proofs.RollbackLemmas.JoinSteps.{no-other}
use Rattle.xf_law_forests.proofs.RollbackLemmas.Outcomes.{unless-ok}

-- ---- contents without a root

abbrev Rootless : List (ℕ × Content) → Type 0
Rootless contents = list_any (λ p. is_root p.1) contents ≡ false

rootless-append : (xs ys : List (ℕ × Content)) → Rootless xs → Rootless ys → Rootless (xs ++ ys)
rootless-append [] ys h k = k
rootless-append (x ∷ xs) ys h k = let parts = or-false (is_root x.1) (list_any (λ (p : ℕ × Content). is_root p.1) xs) h in rw parts.0 (rootless-append xs ys parts.1 k)

rootless-depth : (depth : ℕ) (cs : List Content) → list_any is_root cs ≡ false → Rootless (at_depth depth cs)
rootless-depth depth [] h = refl
rootless-depth depth (c ∷ cs) h = let parts = or-false (is_root c) (list_any is_root cs) h in rw parts.0 (rootless-depth depth cs parts.1)

rootless-place : (c : Content) (cs : List Content) → is_root c ≡ false → list_any is_root cs ≡ false → list_any is_root (in_place c cs) ≡ false
rootless-place c [] h k = rw h refl
rootless-place c (x ∷ xs) h k =
    let parts = or-false (is_root x) (list_any is_root xs) k in
    by (is_less (written_of x) (written_of c)) parts.0 (rootless-place c xs h parts.1)
  where
    by : (b : Bool) → is_root x ≡ false → list_any is_root (in_place c xs) ≡ false → list_any is_root (cond b (x ∷ in_place c xs) (c ∷ x ∷ xs)) ≡ false
    by true e f = rw e f
    by false e f = rw h k

rootless-order : (cs : List Content) → list_any is_root cs ≡ false → list_any is_root (in_order cs) ≡ false
rootless-order [] h = refl
rootless-order (c ∷ cs) h = let parts = or-false (is_root c) (list_any is_root cs) h in rootless-place c (in_order cs) parts.0 (rootless-order cs parts.1)

-- those of a tree begin at its top
abbrev Grows : Contents → Type 0
Grows w = ((space : ℕ) → begins_at_top (w space 0) ≡ true) × ((space depth : ℕ) → Rootless (w space depth))

text-grows : (text : List ℕ) → Grows (text_contents text)
text-grows [] = (λ space. refl, λ space depth. by (depth == 0))
  where
    by : (b : Bool) → Rootless (cond b (at_depth 0 (Text [] ∷ [])) [])
    by true = refl
    by false = refl
text-grows (c ∷ cs) = (λ space. refl, λ space depth. refl)

-- ---- a literal tree

lit-attributes : (b : Bindings) (ps : List Pair) → list_any is_root (filter_map (attribute_in b) ps) ≡ false
lit-attributes b [] = refl
lit-attributes b (p ∷ ps) = by (kind_of p.name) (resolved b p.name 0) (lit-attributes b ps)
  where
    by : (kind : Kind) (name : Result QName NameFault) → list_any is_root (filter_map (attribute_in b) ps) ≡ false → list_any is_root (cons_option (attribute_by b kind p.text name) (filter_map (attribute_in b) ps)) ≡ false
    by no_declaration (Ok name) h = h
    by no_declaration (Err fault) h = h
    by kind name h = h

lit-element : (b : Bindings) (e : LitElement-F Contents Contents) → ((space depth : ℕ) → Rootless (flat_map (λ child. child space depth) e.children)) → Grows (element_contents b e)
lit-element b e below = (
  λ space. refl,
  λ space depth. rootless-append (at_depth (suc depth) (in_order (filter_map (attribute_in b) e.attributes))) _ (rootless-depth (suc depth) (in_order (filter_map (attribute_in b) e.attributes)) (rootless-order (filter_map (attribute_in b) e.attributes) (lit-attributes b e.attributes))) (below _ (suc depth)),
)

abbrev element_of : Bindings → LitElement → Contents
element_of b = fold-LitElement Contents Contents lit_contents (element_contents b)

abbrev LitBelow : Bindings → Type 0
LitBelow b = (x : Lit) × Grows (contents_of b x)

abbrev LitPart : Bindings → Type 0
LitPart b = (e : LitElement) × Grows (element_of b e)

lit-children : (b : Bindings) (ys : List (LitBelow b)) (space depth : ℕ) → Rootless (flat_map (λ child. child space depth) (map (contents_of b) (map (λ y. y.0) ys)))
lit-children b [] space depth = refl
lit-children b (y ∷ ys) space depth = rootless-append (contents_of b y.0 space depth) _ (y.1.1 space depth) (lit-children b ys space depth)

lit-level : (b : Bindings) (y : Lit-F (LitBelow b) (LitPart b)) → Grows (contents_of b (roll-Lit (map-Lit (LitBelow b) (LitPart b) Lit LitElement (λ c. c.0) (λ c. c.0) y)))
lit-level b (Lit-F.Text t) = subst Grows (sym (fold-roll-Lit Contents Contents lit_contents (element_contents b) (Lit-F.Text t))) (text-grows t)
lit-level b (Lit-F.Element e) = subst Grows (sym (fold-roll-Lit Contents Contents lit_contents (element_contents b) (Lit-F.Element e.0))) e.1

lit-part : (b : Bindings) (y : LitElement-F (LitBelow b) (LitPart b)) → Grows (element_of b (roll-LitElement (record { name = y.name; attributes = y.attributes; children = map (λ c. c.0) y.children })))
lit-part b y =
    subst Grows (sym (fold-roll-LitElement Contents Contents lit_contents (element_contents b) (record { name = y.name; attributes = y.attributes; children = map (λ c. c.0) y.children })))
    (lit-element b (record { name = y.name; attributes = y.attributes; children = map (contents_of b) (map (λ c. c.0) y.children) }) (lit-children b y.children))

lit-grows : (b : Bindings) (lit : Lit) → Grows (contents_of b lit)
lit-grows b = ind-Lit (λ x. Grows (contents_of b x)) (λ e. Grows (element_of b e))
    (λ x y is. subst (λ z. Grows (contents_of b (roll-Lit z))) is (lit-level b y)) (λ x y is. subst (λ z. Grows (element_of b (roll-LitElement z))) is (lit-part b y))

-- ---- a tree with resolved names

bare-attributes : (b : Bindings) (attributes : List BareAttribute) → list_any is_root (map (bare_attribute b) attributes) ≡ false
bare-attributes b [] = refl
bare-attributes b (a ∷ more) = bare-attributes b more

bare-element : (b : Bindings) (e : BareElement-F Contents Contents) → ((space depth : ℕ) → Rootless (flat_map (λ child. child space depth) e.children)) → Grows (bare_element_contents b e)
bare-element b e below = (
  λ space. refl,
  λ space depth. rootless-append (at_depth (suc depth) (in_order (map (bare_attribute b) e.attributes))) _ (rootless-depth (suc depth) (in_order (map (bare_attribute b) e.attributes)) (rootless-order (map (bare_attribute b) e.attributes) (bare-attributes b e.attributes))) (below space (suc depth)),
)

abbrev bare_of : Bindings → BareElement → Contents
bare_of b = fold-BareElement Contents Contents bare_contents (bare_element_contents b)

abbrev BareBelow : Bindings → Type 0
BareBelow b = (x : Bare) × Grows (contents_of_bare b x)

abbrev BarePart : Bindings → Type 0
BarePart b = (e : BareElement) × Grows (bare_of b e)

bare-children : (b : Bindings) (ys : List (BareBelow b)) (space depth : ℕ) → Rootless (flat_map (λ child. child space depth) (map (contents_of_bare b) (map (λ y. y.0) ys)))
bare-children b [] space depth = refl
bare-children b (y ∷ ys) space depth = rootless-append (contents_of_bare b y.0 space depth) _ (y.1.1 space depth) (bare-children b ys space depth)

bare-level : (b : Bindings) (y : Bare-F (BareBelow b) (BarePart b)) → Grows (contents_of_bare b (roll-Bare (map-Bare (BareBelow b) (BarePart b) Bare BareElement (λ c. c.0) (λ c. c.0) y)))
bare-level b (Bare-F.Text t) = subst Grows (sym (fold-roll-Bare Contents Contents bare_contents (bare_element_contents b) (Bare-F.Text t))) (text-grows t)
bare-level b (Bare-F.Element e) = subst Grows (sym (fold-roll-Bare Contents Contents bare_contents (bare_element_contents b) (Bare-F.Element e.0))) e.1

bare-part : (b : Bindings) (y : BareElement-F (BareBelow b) (BarePart b)) → Grows (bare_of b (roll-BareElement (record { name = y.name; attributes = y.attributes; children = map (λ c. c.0) y.children })))
bare-part b y =
    subst Grows (sym (fold-roll-BareElement Contents Contents bare_contents (bare_element_contents b) (record { name = y.name; attributes = y.attributes; children = map (λ c. c.0) y.children })))
    (bare-element b (record { name = y.name; attributes = y.attributes; children = map (contents_of_bare b) (map (λ c. c.0) y.children) }) (bare-children b y.children))

bare-grows : (b : Bindings) (bare : Bare) → Grows (contents_of_bare b bare)
bare-grows b = ind-Bare (λ x. Grows (contents_of_bare b x)) (λ e. Grows (bare_of b e))
    (λ x y is. subst (λ z. Grows (contents_of_bare b (roll-Bare z))) is (bare-level b y)) (λ x y is. subst (λ z. Grows (bare_of b (roll-BareElement z))) is (bare-part b y))

-- ---- a copy

moved-any : (p : Content → Bool) (from to : ℕ) (xs : List Node) → list_any (λ (c : ℕ × Content). p c.1) (map (λ (x : Node). (x.depth, x.content)) (map (shifted from to) xs)) ≡ list_any (λ (x : Node). p x.content) xs
moved-any p from to [] = refl
moved-any p from to (x ∷ xs) = ap (λ b. p x.content || b) (moved-any p from to xs)

contents-any : (p : Content → Bool) (xs : List Node) → list_any (λ (c : ℕ × Content). p c.1) (contents_in xs) ≡ list_any (λ (x : Node). p x.content) xs
contents-any p [] = refl
contents-any p (x ∷ xs) = moved-any p x.depth 0 (x ∷ xs)

moved-length : (from to : ℕ) (xs : List Node) → length {A = ℕ × Content} (map (λ (x : Node). (x.depth, x.content)) (map (shifted from to) xs)) ≡ length xs
moved-length from to [] = refl
moved-length from to (x ∷ xs) = ap suc (moved-length from to xs)

contents-length : (xs : List Node) → length (contents_in xs) ≡ length xs
contents-length [] = refl
contents-length (x ∷ xs) = moved-length x.depth 0 (x ∷ xs)

contents-top : (xs : List Node) → begins_at_top (contents_in xs) ≡ true
contents-top [] = refl
contents-top (x ∷ xs) = let e : 0 + (x.depth - x.depth) ≡ 0 = omega arith in grind (arith, nat_tests, e)

-- below a node stands no root
inside-rootless : (t : Trees) → Sound true t → some (λ n c. is_root c) t ≡ false
inside-rootless none h = refl
inside-rootless (tree n c k r) h = rw (plain (is_root c) h.1, inside-rootless k h.2) (inside-rootless r h.3)
  where
    plain : (b : Bool) → (b && true) ≡ false → b ≡ false
    plain true e = e
    plain false e = e

found-rootless : (inside : Bool) (n : ℕ) (t : Trees) → Sound inside t → is_at is_root n t ≡ false → some (λ n c. is_root c) (found n t) ≡ false
found-rootless inside n none s h = refl
found-rootless inside n (tree m c k r) s h =
    let inner = or-false (is_at is_root n k) (is_at is_root n r) (or-false ((m == n) && is_root c) (is_at is_root n k || is_at is_root n r) h).1 in
    some-followed (λ n c. is_root c) (if m == n then tree m c k none else found n k) (found n r)
    ∙ ap (λ b. b || some (λ n c. is_root c) (found n r)) (by (m == n) refl (found-rootless true n k s.2 inner.0)) ∙ found-rootless inside n r s.3 inner.1
  where
    by : (b : Bool) → (m == n) ≡ b → some (λ n c. is_root c) (found n k) ≡ false → some (λ n c. is_root c) (cond b (tree m c k none) (found n k)) ≡ false
    by true e f = rw (at-first n m c k r e h, inside-rootless k s.2) refl
    by false e f = f

copy-rootless : (n : ℕ) (k : Keeping) → MayCopy n k.forest → (s : Stands k) → Rootless (contents_in (tree_of n k.forest.nodes))
copy-rootless n k may s =
    let at : is_at (λ c. not (is_root c)) n s.trees ≡ true = sym (any-is (λ c. not (is_root c)) n s.trees) ∙ ap (list_any (λ (x : Node). (x.number == n) && not (is_root x.content))) (sym s.nodes) ∙ may in
    let few = at-times (λ c. not (is_root c)) n s.trees at in
    let most = s.once n in
    let one : times n s.trees ≡ 1 = omega (arith, few, most) in
    let plain = no-other is_root (λ c. not (is_root c)) (λ c e. not-true (is_root c) e) n s.trees (omega (arith, one)) at in
    let there = tree-onto n 0 s.trees [] one tt in
    contents-any is_root (tree_of n k.forest.nodes) ∙ ap (λ l. list_any (λ (x : Node). is_root x.content) (tree_of n l)) s.nodes ∙ ap (list_any (λ (x : Node). is_root x.content)) there.is
    ∙ any-onto (λ n c. is_root c) there.depth (found n s.trees) [] ∙ ap (λ b. b || false) (found-rootless false n s.trees s.sound plain)

-- ---- what was made, with new trees

-- contents that begin at a top, without a root
grown-made : {start : Keeping} {l : Ledger} {k : Keeping} (contents : List (ℕ × Content)) (f : Forest) → Made start l k → AreTrees k → IsGrowth contents
    → (with_growth contents k).forest ≡ f → AreTrees (record k { forest = f }) → Made start l (record k { forest = f })
grown-made {start = start} {l = l} {k = k} contents f made sound growth is after =
    subst (λ f. Made start l (record k { forest = f })) is (grown contents made sound growth (subst (λ f. AreTrees (record k { forest = f })) (sym is) after))

unless-planted : (fault : Option TreeFault) (v : Result (ℕ × Forest) TreeFault) (w : ℕ × Forest) → unless_fault fault v ≡ Ok w → v ≡ Ok w
unless-planted None v w e = e
unless-planted (Some fault) v w e = cc e

with_tree-is : (limits : Limits) (contents : List (ℕ × Content)) (k : Keeping) (n : ℕ) (f : Forest) → with_tree limits contents k.forest ≡ Ok (n, f) → (with_growth contents k).forest ≡ f
with_tree-is limits contents k n f e = ap (λ w. w.1) (unless-ok _ (k.forest.next, (with_growth contents k).forest) (n, f) e)

-- a literal tree was planted
pub planted-made : {start : Keeping} {l : Ledger} {k : Keeping} (limits : Limits) (b : Bindings) (space : ℕ) (lit : Lit) (n : ℕ) (f : Forest) → Made start l k → AreTrees k
    → planted limits b space lit k.forest ≡ Ok (n, f) → AreTrees (record k { forest = f }) → Made start l (record k { forest = f })
planted-made {k = k} limits b space lit n f made sound e after =
    let grows = lit-grows b lit in
    let contents = contents_of b lit space 0 in
    grown-made contents f made sound (record { top = grows.0 space; rootless = grows.1 space 0 }) (with_tree-is limits contents k n f (unless-planted _ (with_tree limits contents k.forest) (n, f) e)) after

-- a tree with resolved names was planted
pub planted_bare-made : {start : Keeping} {l : Ledger} {k : Keeping} (limits : Limits) (b : Bindings) (bare : Bare) (n : ℕ) (f : Forest) → Made start l k → AreTrees k
    → planted_bare limits b bare k.forest ≡ Ok (n, f) → AreTrees (record k { forest = f }) → Made start l (record k { forest = f })
planted_bare-made {k = k} limits b bare n f made sound e after =
    let grows = bare-grows b bare in
    let contents = contents_of_bare b bare 0 0 in
    grown-made contents f made sound (record { top = grows.0 0; rootless = grows.1 0 0 }) (with_tree-is limits contents k n f (unless-planted _ (with_tree limits contents k.forest) (n, f) e)) after

-- a tree was copied
pub copied-made : {start : Keeping} {l : Ledger} {k : Keeping} (limits : Limits) (n m : ℕ) (f : Forest) → Made start l k → AreTrees k → MayCopy n k.forest
    → copied limits n k.forest ≡ Ok (m, f) → AreTrees (record k { forest = f }) → Made start l (record k { forest = f })
copied-made {k = k} limits n m f made sound may e after =
    let copy = tree_of n k.forest.nodes in
    let contents = contents_in copy in
    let nodes = k.forest.nodes ++ numbered_from k.forest.next contents in
    let is : (with_growth contents k).forest ≡ f
    = ap (λ (i : ℕ). record { nodes = nodes; next = k.forest.next + i }) (contents-length copy) ∙ ap (λ w. w.1) (unless-ok _ (k.forest.next, record { nodes = nodes; next = k.forest.next + length copy }) (m, f) e) in
    grown-made contents f made sound (record { top = contents-top copy; rootless = copy-rootless n k may (stands k sound) }) is after
