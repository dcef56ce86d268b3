-- A tree that is planted is one tree, so that no detached tree is left once it has a root.
use Rattle.std.proofs.Common.{◌≡◌, ℕ, suc, ◌+◌, ◌-◌, ◌≤◌, ◌==◌, Bool, true, false, not, cond, ◌&&◌, List, [], ◌∷◌, ◌++◌, map, flat_map, nat_lt, refl, sym, ap, ◌∙◌, subst, arith, append-nil, append_assoc}
use Rattle.std.specs.List.{filter_map}
use Rattle.std.proofs.lemmas.Bool.Decides.{nat_tests}
use Rattle.xf_name.specs.Bindings.{Bindings}
use Rattle.xf_name.specs.declared.lit.Lit.{Lit}
use Rattle.xf_name.specs.declared.lit.Lit.TheOpen.{Lit-F, LitElement-F}
use Rattle.xf_name.specs.declared.lit.Lit.TheFolds.{fold-roll-Lit, fold-roll-LitElement, map-Lit, ind-Lit}
use Rattle.xf_name.specs.declared.lit.Lit.TheViews.{roll-Lit, roll-LitElement}
use Rattle.xf_name.specs.declared.lit.LitElement.{LitElement, fold-LitElement}
use Rattle.xf_def_forest.specs.declared.content.Node.{Node}
use Rattle.xf_def_forest.specs.declared.content.Content.{Content}
use Rattle.xf_def_forest.specs.declared.content.Content.TheVariants.{Root, Text}
use Rattle.xf_def_forest.specs.Changes.{in_detached, in_instances, is_detached_top, moved_to, shifted, with_root, without_tree}
use Rattle.xf_def_forest.specs.Forest.{Forest, has_number, is_root, past, tree_of}
use Rattle.xf_def_forest.specs.Plant.{Contents, text_contents, lit_contents, element_contents, contents_of, attribute_in, in_order, at_depth, numbered_from}
use Rattle.xf_def_forest.proofs.MoveLemmas.{without-behind}

-- ---- the depths of a tree

abbrev AllDeep : ℕ → List (ℕ × Content) → Type 0
AllDeep d [] = Unit {0}
AllDeep d (p ∷ ps) = (d ≤ p.0) × AllDeep d ps

-- the first stands at this depth, and all others below it
abbrev Top : ℕ → List (ℕ × Content) → Type 0
Top d [] = Unit {0}
Top d (p ∷ ps) = (p.0 ≡ d) × AllDeep (suc d) ps

deep-append : (d : ℕ) (xs ys : List (ℕ × Content)) → AllDeep d xs → AllDeep d ys → AllDeep d (xs ++ ys)
deep-append d [] ys h k = k
deep-append d (x ∷ xs) ys h k = (h.0, deep-append d xs ys h.1 k)

deep-depth : (d : ℕ) (cs : List Content) → AllDeep d (at_depth d cs)
deep-depth d [] = tt
deep-depth d (c ∷ cs) = (omega arith, deep-depth d cs)

deep-less : (d : ℕ) (xs : List (ℕ × Content)) → AllDeep (suc d) xs → AllDeep d xs
deep-less d [] h = tt
deep-less d (x ∷ xs) h = let k = h.0 in (omega (arith, k), deep-less d xs h.1)

deep-top : (d : ℕ) (xs : List (ℕ × Content)) → Top d xs → AllDeep d xs
deep-top d [] h = tt
deep-top d (x ∷ xs) h = let k = h.0 in (omega (arith, k), deep-less d xs h.1)

abbrev Tops : Contents → Type 0
Tops w = (space depth : ℕ) → Top depth (w space depth)

text-top : (text : List ℕ) → Tops (text_contents text)
text-top [] space depth = by (depth == 0) refl
  where
    by : (b : Bool) → (depth == 0) ≡ b → Top depth (cond b (at_depth 0 (Text [] ∷ [])) [])
    by true e = let same : 0 ≡ depth = grind (arith, nat_tests, e) in (same, tt)
    by false e = tt
text-top (c ∷ cs) space depth = (refl, tt)

lit-element : (b : Bindings) (e : LitElement-F Contents Contents) → ((space depth : ℕ) → AllDeep depth (flat_map (λ child. child space depth) e.children)) → Tops (element_contents b e)
lit-element b e below space depth = (
  refl,
  deep-append (suc depth) (at_depth (suc depth) (in_order (filter_map (attribute_in b) e.attributes))) _ (deep-depth (suc depth) (in_order (filter_map (attribute_in b) e.attributes))) (below _ (suc depth)),
)

abbrev element_of : Bindings → LitElement → Contents
element_of b = fold-LitElement Contents Contents lit_contents (element_contents b)

abbrev LitBelow : Bindings → Type 0
LitBelow b = (x : Lit) × Tops (contents_of b x)

abbrev LitPart : Bindings → Type 0
LitPart b = (e : LitElement) × Tops (element_of b e)

lit-children : (b : Bindings) (ys : List (LitBelow b)) (space depth : ℕ) → AllDeep depth (flat_map (λ child. child space depth) (map (contents_of b) (map (λ y. y.0) ys)))
lit-children b [] space depth = tt
lit-children b (y ∷ ys) space depth = deep-append depth (contents_of b y.0 space depth) _ (deep-top depth (contents_of b y.0 space depth) (y.1 space depth)) (lit-children b ys space depth)

lit-level : (b : Bindings) (y : Lit-F (LitBelow b) (LitPart b)) → Tops (contents_of b (roll-Lit (map-Lit (LitBelow b) (LitPart b) Lit LitElement (λ c. c.0) (λ c. c.0) y)))
lit-level b (Lit-F.Text t) = subst Tops (sym (fold-roll-Lit Contents Contents lit_contents (element_contents b) (Lit-F.Text t))) (text-top t)
lit-level b (Lit-F.Element e) = subst Tops (sym (fold-roll-Lit Contents Contents lit_contents (element_contents b) (Lit-F.Element e.0))) e.1

lit-part : (b : Bindings) (y : LitElement-F (LitBelow b) (LitPart b)) → Tops (element_of b (roll-LitElement (record { name = y.name; attributes = y.attributes; children = map (λ c. c.0) y.children })))
lit-part b y =
    subst Tops (sym (fold-roll-LitElement Contents Contents lit_contents (element_contents b) (record { name = y.name; attributes = y.attributes; children = map (λ c. c.0) y.children })))
    (lit-element b (record { name = y.name; attributes = y.attributes; children = map (contents_of b) (map (λ c. c.0) y.children) }) (lit-children b y.children))

lit-tops : (b : Bindings) (lit : Lit) → Tops (contents_of b lit)
lit-tops b = ind-Lit (λ x. Tops (contents_of b x)) (λ e. Tops (element_of b e))
    (λ x y is. subst (λ z. Tops (contents_of b (roll-Lit z))) is (lit-level b y)) (λ x y is. subst (λ z. Tops (element_of b (roll-LitElement z))) is (lit-part b y))

-- ---- its nodes go as one

deeper : (d e : ℕ) → suc d ≤ e → nat_lt d e ≡ true
deeper d e h = grind (arith, nat_tests, h)

none-past : (n d : ℕ) (ps : List (ℕ × Content)) → AllDeep (suc d) ps → past d (numbered_from n ps) ≡ []
none-past n d [] h = refl
none-past n d (p ∷ ps) h = rw (deeper d p.0 h.0) (none-past (suc n) d ps h.1)

self : (n : ℕ) → (n == n) ≡ true
self n = grind (arith, nat_tests)

none-without : (n d : ℕ) (ps : List (ℕ × Content)) → Top d ps → without_tree n (numbered_from n ps) ≡ []
none-without n d [] h = refl
none-without n d (p ∷ ps) h = rw (self n) (none-past (suc n) p.0 ps (subst (λ k. AllDeep (suc k) ps) (sym h.0) h.1))

-- ---- detached trees

none-instances : (xs ys : List Node) → in_detached (in_instances xs ++ ys) ≡ in_detached ys
none-instances [] ys = refl
none-instances (x ∷ xs) ys = by (none-instances xs ys) (is_detached_top x) refl
  where
    by : in_detached (in_instances xs ++ ys) ≡ in_detached ys → (b : Bool) → is_detached_top x ≡ b → in_detached (cond b [] (x ∷ in_instances xs) ++ ys) ≡ in_detached ys
    by later true e = refl
    by later false e = rw e later

not-top : (d : ℕ) (b : Bool) → 1 ≤ d → ((d == 0) && b) ≡ false
not-top d b h = let e : (d == 0) ≡ false = grind (arith, nat_tests, h) in rw e refl

none-shifted : (from : ℕ) (xs ys : List Node) → in_detached (map (shifted from 1) xs ++ ys) ≡ in_detached ys
none-shifted from [] ys = refl
none-shifted from (x ∷ xs) ys =
    let h : 1 ≤ 1 + (x.depth - from) = omega arith in
    rw (not-top (1 + (x.depth - from)) (not (is_root x.content)) h) (none-shifted from xs ys)

none-moved : (xs ys : List Node) → in_detached (moved_to 1 xs ++ ys) ≡ in_detached ys
none-moved [] ys = refl
none-moved (x ∷ xs) ys = none-shifted x.depth (x ∷ xs) ys

pub all-instances : (xs : List Node) → in_detached xs ≡ [] → in_instances xs ≡ xs
all-instances [] e = refl
all-instances (x ∷ xs) e = by (all-instances xs) (is_detached_top x) e
  where
    by : (in_detached xs ≡ [] → in_instances xs ≡ xs) → (b : Bool) → cond b (x ∷ xs) (in_detached xs) ≡ [] → cond b [] (x ∷ in_instances xs) ≡ x ∷ xs
    by later true i = cc i
    by later false i = ap (λ l. x ∷ l) (later i)

-- without the tree what stood before is left
pub planted-apart : (b : Bindings) (lit : Lit) (space : ℕ) (forest f : Forest) → has_number forest.next forest.nodes ≡ false
    → f.nodes ≡ forest.nodes ++ numbered_from forest.next (contents_of b lit space 0) → without_tree forest.next f.nodes ≡ forest.nodes
planted-apart b lit space forest f new e =
    ap (without_tree forest.next) e
    ∙ without-behind forest.next forest.nodes (numbered_from forest.next (contents_of b lit space 0)) new
    ∙ ap (λ l. forest.nodes ++ l) (none-without forest.next 0 (contents_of b lit space 0) (lit-tops b lit space 0))
    ∙ append-nil forest.nodes

-- once it has a root no tree is detached, where none was beside it
pub none-rooted : (top : ℕ) (forest : Forest) → in_detached (without_tree top forest.nodes) ≡ [] → in_detached (with_root top forest).1.nodes ≡ []
none-rooted top forest none =
    let rest = without_tree top forest.nodes in
    let root : Node = record { number = forest.next; depth = 0; content = Root } in
    let tree = moved_to 1 (tree_of top forest.nodes) in
    ap in_detached (append_assoc (in_instances rest) (root ∷ tree) (in_detached rest))
    ∙ none-instances rest ((root ∷ tree) ++ in_detached rest)
    ∙ none-moved (tree_of top forest.nodes) (in_detached rest)
    ∙ ap in_detached none
