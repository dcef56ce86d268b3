-- New trees are without a root and begin at a top: a literal tree that is planted, with names resolved or not, and a copy. So they leave the part.
use Rattle.std.proofs.Common.{◌≡◌, ℕ, suc, ◌+◌, ◌-◌, ◌==◌, Bool, true, false, not, cond, ◌&&◌, ◌||◌, List, [], ◌∷◌, ◌++◌, map, flat_map, length, Option, Some, None, Ok, Err, refl, sym, ap, ◌∙◌, subst, arith}
use Rattle.std.specs.Prelude.{Result}
use Rattle.std.specs.List.{list_any, filter_map, cons_option}
use Rattle.std.proofs.lemmas.Bool.{eqb-true}
use Rattle.std.proofs.lemmas.Bool.Decides.{nat_tests}
use Rattle.xf_def_syntax.specs.declared.form.Instance.{Instance}
use Rattle.xf_name.specs.Part.{Kind, no_declaration, kind_of}
use Rattle.xf_name.specs.Bindings.{Bindings, resolved}
use Rattle.xf_name.specs.declared.lit.Pair.{Pair}
use Rattle.xf_name.specs.declared.lit.Lit.{Lit}
use Rattle.xf_name.specs.declared.lit.Lit.TheOpen.{Lit-F, LitElement-F}
use Rattle.xf_name.specs.declared.lit.Lit.TheFolds.{fold-roll-Lit, fold-roll-LitElement, map-Lit, ind-Lit}
use Rattle.xf_name.specs.declared.lit.Lit.TheViews.{roll-Lit, roll-LitElement}
use Rattle.xf_name.specs.declared.lit.LitElement.{LitElement, fold-LitElement}
use Rattle.xf_name.specs.declared.qname.QName.{QName}
use Rattle.xf_name.specs.declared.fault.NameFault.{NameFault}
use Rattle.xf_def_forest.specs.declared.bare.Bare.{Bare}
use Rattle.xf_def_forest.specs.declared.bare.Bare.TheOpen.{Bare-F, BareElement-F}
use Rattle.xf_def_forest.specs.declared.bare.Bare.TheFolds.{fold-roll-Bare, fold-roll-BareElement, map-Bare, ind-Bare}
use Rattle.xf_def_forest.specs.declared.bare.Bare.TheViews.{roll-Bare, roll-BareElement}
use Rattle.xf_def_forest.specs.declared.bare.BareElement.{BareElement, fold-BareElement}
use Rattle.xf_def_forest.specs.declared.bare.BareAttribute.{BareAttribute}
use Rattle.xf_def_forest.specs.declared.content.Node.{Node}
use Rattle.xf_def_forest.specs.declared.content.Content.{Content}
use Rattle.xf_def_forest.specs.declared.content.Content.TheVariants.{Text}
use Rattle.xf_def_forest.specs.declared.fault.TreeFault.{TreeFault}
use Rattle.xf_def_forest.specs.Forest.{Forest, is_root, has_number, node_at, tree_of}
use Rattle.xf_def_forest.specs.Limits.{Limits}
use Rattle.xf_def_forest.specs.Plant.{Contents, text_contents, lit_contents, element_contents, contents_of, attribute_by, attribute_in, is_less, written_of, in_place, in_order, at_depth, numbered_from}
use Rattle.xf_def_forest.specs.Planted.{bare_attribute, bare_contents, bare_element_contents, contents_of_bare, with_tree, unless_fault}
use Rattle.xf_def_forest.specs.Changes.{shifted, contents_in}
use Rattle.xf_def_forest.specs.WellFormed.{are_apart, HasTrees}
use Rattle.xf_def_forest.proofs.BackLaws.{and-true, or-false, not-true}
use Rattle.xf_law_forests.specs.Rollback.Made.{begins_at_top, IsGrowth}
use Rattle.xf_law_forests.proofs.RollbackLemmas.Outcomes.{unless-ok}
use Rattle.xf_law_forests.proofs.RootLemmas.Shown.{rootless}
use Rattle.xf_law_forests.proofs.RootLemmas.Parts.{tree-rootless}
use Rattle.xf_law_recalculation.specs.Elsewhere.Parts.{IsPart}
use Rattle.xf_law_recalculation.specs.Elsewhere.Stays.{PartStaysCopied, PartStaysPlanted, PartStaysPlantedBare}
use Rattle.xf_law_recalculation.proofs.ElsewhereLemmas.Stays.{part_stays_grown}

-- ---- contents without a root

abbrev Rootless : List (ℕ × Content) → Type 0
Rootless contents = list_any (λ p. is_root p.1) contents ≡ false

rootless-append : (xs ys : List (ℕ × Content)) → Rootless xs → Rootless ys → Rootless (xs ++ ys)
rootless-append [] ys h k = k
rootless-append (x ∷ xs) ys h k = let parts = or-false (is_root x.1) (list_any (λ (p : ℕ × Content). is_root p.1) xs) h in rw parts.0 (rootless-append xs ys parts.1 k)

rootless-depth : (depth : ℕ) (cs : List Content) → list_any is_root cs ≡ false → Rootless (at_depth depth cs)
rootless-depth depth [] h = refl
rootless-depth depth (c ∷ cs) h = let parts = or-false (is_root c) (list_any is_root cs) h in rw parts.0 (rootless-depth depth cs parts.1)

rootless-place : (c : Content) (cs : List Content) → is_root c ≡ false → list_any is_root cs ≡ false → list_any is_root (in_place c cs) ≡ false
rootless-place c [] h k = rw h refl
rootless-place c (x ∷ xs) h k =
    let parts = or-false (is_root x) (list_any is_root xs) k in
    by (is_less (written_of x) (written_of c)) parts.0 (rootless-place c xs h parts.1)
  where
    by : (b : Bool) → is_root x ≡ false → list_any is_root (in_place c xs) ≡ false → list_any is_root (cond b (x ∷ in_place c xs) (c ∷ x ∷ xs)) ≡ false
    by true e f = rw e f
    by false e f = rw h k

rootless-order : (cs : List Content) → list_any is_root cs ≡ false → list_any is_root (in_order cs) ≡ false
rootless-order [] h = refl
rootless-order (c ∷ cs) h = let parts = or-false (is_root c) (list_any is_root cs) h in rootless-place c (in_order cs) parts.0 (rootless-order cs parts.1)

-- those of a tree begin at its top
abbrev Grows : Contents → Type 0
Grows w = ((space : ℕ) → begins_at_top (w space 0) ≡ true) × ((space depth : ℕ) → Rootless (w space depth))

text-grows : (text : List ℕ) → Grows (text_contents text)
text-grows [] = (λ space. refl, λ space depth. by (depth == 0))
  where
    by : (b : Bool) → Rootless (cond b (at_depth 0 (Text [] ∷ [])) [])
    by true = refl
    by false = refl
text-grows (c ∷ cs) = (λ space. refl, λ space depth. refl)

-- ---- a literal tree

lit-attributes : (b : Bindings) (ps : List Pair) → list_any is_root (filter_map (attribute_in b) ps) ≡ false
lit-attributes b [] = refl
lit-attributes b (p ∷ ps) = by (kind_of p.name) (resolved b p.name 0) (lit-attributes b ps)
  where
    by : (kind : Kind) (name : Result QName NameFault) → list_any is_root (filter_map (attribute_in b) ps) ≡ false → list_any is_root (cons_option (attribute_by b kind p.text name) (filter_map (attribute_in b) ps)) ≡ false
    by no_declaration (Ok name) h = h
    by no_declaration (Err fault) h = h
    by kind name h = h

lit-element : (b : Bindings) (e : LitElement-F Contents Contents) → ((space depth : ℕ) → Rootless (flat_map (λ child. child space depth) e.children)) → Grows (element_contents b e)
lit-element b e below = (
  λ space. refl,
  λ space depth. rootless-append (at_depth (suc depth) (in_order (filter_map (attribute_in b) e.attributes))) _ (rootless-depth (suc depth) (in_order (filter_map (attribute_in b) e.attributes)) (rootless-order (filter_map (attribute_in b) e.attributes) (lit-attributes b e.attributes))) (below _ (suc depth)),
)

abbrev element_of : Bindings → LitElement → Contents
element_of b = fold-LitElement Contents Contents lit_contents (element_contents b)

abbrev LitBelow : Bindings → Type 0
LitBelow b = (x : Lit) × Grows (contents_of b x)

abbrev LitPart : Bindings → Type 0
LitPart b = (e : LitElement) × Grows (element_of b e)

lit-children : (b : Bindings) (ys : List (LitBelow b)) (space depth : ℕ) → Rootless (flat_map (λ child. child space depth) (map (contents_of b) (map (λ y. y.0) ys)))
lit-children b [] space depth = refl
lit-children b (y ∷ ys) space depth = rootless-append (contents_of b y.0 space depth) _ (y.1.1 space depth) (lit-children b ys space depth)

lit-level : (b : Bindings) (y : Lit-F (LitBelow b) (LitPart b)) → Grows (contents_of b (roll-Lit (map-Lit (LitBelow b) (LitPart b) Lit LitElement (λ c. c.0) (λ c. c.0) y)))
lit-level b (Lit-F.Text t) = subst Grows (sym (fold-roll-Lit Contents Contents lit_contents (element_contents b) (Lit-F.Text t))) (text-grows t)
lit-level b (Lit-F.Element e) = subst Grows (sym (fold-roll-Lit Contents Contents lit_contents (element_contents b) (Lit-F.Element e.0))) e.1

lit-part : (b : Bindings) (y : LitElement-F (LitBelow b) (LitPart b)) → Grows (element_of b (roll-LitElement (record { name = y.name; attributes = y.attributes; children = map (λ c. c.0) y.children })))
lit-part b y =
    subst Grows (sym (fold-roll-LitElement Contents Contents lit_contents (element_contents b) (record { name = y.name; attributes = y.attributes; children = map (λ c. c.0) y.children })))
    (lit-element b (record { name = y.name; attributes = y.attributes; children = map (contents_of b) (map (λ c. c.0) y.children) }) (lit-children b y.children))

lit-grows : (b : Bindings) (lit : Lit) → Grows (contents_of b lit)
lit-grows b = ind-Lit (λ x. Grows (contents_of b x)) (λ e. Grows (element_of b e))
    (λ x y is. subst (λ z. Grows (contents_of b (roll-Lit z))) is (lit-level b y)) (λ x y is. subst (λ z. Grows (element_of b (roll-LitElement z))) is (lit-part b y))

-- ---- a tree with resolved names

bare-attributes : (b : Bindings) (attributes : List BareAttribute) → list_any is_root (map (bare_attribute b) attributes) ≡ false
bare-attributes b [] = refl
bare-attributes b (a ∷ more) = bare-attributes b more

bare-element : (b : Bindings) (e : BareElement-F Contents Contents) → ((space depth : ℕ) → Rootless (flat_map (λ child. child space depth) e.children)) → Grows (bare_element_contents b e)
bare-element b e below = (
  λ space. refl,
  λ space depth. rootless-append (at_depth (suc depth) (in_order (map (bare_attribute b) e.attributes))) _ (rootless-depth (suc depth) (in_order (map (bare_attribute b) e.attributes)) (rootless-order (map (bare_attribute b) e.attributes) (bare-attributes b e.attributes))) (below space (suc depth)),
)

abbrev bare_of : Bindings → BareElement → Contents
bare_of b = fold-BareElement Contents Contents bare_contents (bare_element_contents b)

abbrev BareBelow : Bindings → Type 0
BareBelow b = (x : Bare) × Grows (contents_of_bare b x)

abbrev BarePart : Bindings → Type 0
BarePart b = (e : BareElement) × Grows (bare_of b e)

bare-children : (b : Bindings) (ys : List (BareBelow b)) (space depth : ℕ) → Rootless (flat_map (λ child. child space depth) (map (contents_of_bare b) (map (λ y. y.0) ys)))
bare-children b [] space depth = refl
bare-children b (y ∷ ys) space depth = rootless-append (contents_of_bare b y.0 space depth) _ (y.1.1 space depth) (bare-children b ys space depth)

bare-level : (b : Bindings) (y : Bare-F (BareBelow b) (BarePart b)) → Grows (contents_of_bare b (roll-Bare (map-Bare (BareBelow b) (BarePart b) Bare BareElement (λ c. c.0) (λ c. c.0) y)))
bare-level b (Bare-F.Text t) = subst Grows (sym (fold-roll-Bare Contents Contents bare_contents (bare_element_contents b) (Bare-F.Text t))) (text-grows t)
bare-level b (Bare-F.Element e) = subst Grows (sym (fold-roll-Bare Contents Contents bare_contents (bare_element_contents b) (Bare-F.Element e.0))) e.1

bare-part : (b : Bindings) (y : BareElement-F (BareBelow b) (BarePart b)) → Grows (bare_of b (roll-BareElement (record { name = y.name; attributes = y.attributes; children = map (λ c. c.0) y.children })))
bare-part b y =
    subst Grows (sym (fold-roll-BareElement Contents Contents bare_contents (bare_element_contents b) (record { name = y.name; attributes = y.attributes; children = map (λ c. c.0) y.children })))
    (bare-element b (record { name = y.name; attributes = y.attributes; children = map (contents_of_bare b) (map (λ c. c.0) y.children) }) (bare-children b y.children))

bare-grows : (b : Bindings) (bare : Bare) → Grows (contents_of_bare b bare)
bare-grows b = ind-Bare (λ x. Grows (contents_of_bare b x)) (λ e. Grows (bare_of b e))
    (λ x y is. subst (λ z. Grows (contents_of_bare b (roll-Bare z))) is (bare-level b y)) (λ x y is. subst (λ z. Grows (bare_of b (roll-BareElement z))) is (bare-part b y))

-- ---- a copy

contents-top : (xs : List Node) → begins_at_top (contents_in xs) ≡ true
contents-top [] = refl
contents-top (x ∷ xs) = let e : 0 + (x.depth - x.depth) ≡ 0 = omega arith in grind (arith, nat_tests, e)

contents-rootless : (xs : List Node) → rootless xs ≡ true → Rootless (contents_in xs)
contents-rootless [] h = refl
contents-rootless (x ∷ xs) h = moved x.depth (x ∷ xs) h
  where
    moved : (from : ℕ) (ys : List Node) → rootless ys ≡ true → Rootless (map (λ (y : Node). (y.depth, y.content)) (map (shifted from 0) ys))
    moved from [] i = refl
    moved from (y ∷ ys) i =
        let ps = and-true (not (is_root y.content)) (rootless ys) i in
        ap (λ b. b || list_any (λ (p : ℕ × Content). is_root p.1) (map (λ (z : Node). (z.depth, z.content)) (map (shifted from 0) ys))) (not-true (is_root y.content) ps.0) ∙ moved from ys ps.1

copied-root : (n : ℕ) (nodes : List Node) → are_apart nodes ≡ true → list_any (λ x. (x.number == n) && not (is_root x.content)) nodes ≡ true → (z : Node) → node_at n nodes ≡ Some z → is_root z.content ≡ false
copied-root n [] a h z e = cc h
copied-root n (x ∷ xs) a h z e = by (x.number == n) refl h e (λ i j. copied-root n xs ps.1 i z j)
  where
    ps : (not (has_number x.number xs) ≡ true) × (are_apart xs ≡ true)
    ps = and-true (not (has_number x.number xs)) (are_apart xs) a

    none : (ys : List Node) → has_number n ys ≡ false → list_any (λ y. (y.number == n) && not (is_root y.content)) ys ≡ false
    none [] i = refl
    none (y ∷ ys) i = let qs = or-false (y.number == n) (has_number n ys) i in ap (λ b. (b && not (is_root y.content)) || list_any (λ z. (z.number == n) && not (is_root z.content)) ys) qs.0 ∙ none ys qs.1

    here : (r : Bool) → is_root x.content ≡ r → (not r || list_any (λ y. (y.number == n) && not (is_root y.content)) xs) ≡ true → (x.number == n) ≡ true → is_root x.content ≡ false
    here true i j k = cc (sym j ∙ none xs (ap (λ m. has_number m xs) (sym (eqb-true x.number n k)) ∙ not-true (has_number x.number xs) ps.0))
    here false i j k = i

    by : (b : Bool) → (x.number == n) ≡ b → ((b && not (is_root x.content)) || list_any (λ y. (y.number == n) && not (is_root y.content)) xs) ≡ true → cond b (Some x) (node_at n xs) ≡ Some z →
        (list_any (λ y. (y.number == n) && not (is_root y.content)) xs ≡ true → node_at n xs ≡ Some z → is_root z.content ≡ false) → is_root z.content ≡ false
    by true k i j f = let one : x ≡ z = cc j in ap (λ (y : Node). is_root y.content) (sym one) ∙ here (is_root x.content) refl i k
    by false k i j f = f i j

pub part_stays_copied : PartStaysCopied
part_stays_copied instances model l n m part forest after h trees may e =
    let copy = tree_of n forest.nodes in
    let made = numbered_from forest.next (contents_in copy) in
    let is = ap (λ (w : ℕ × Forest). w.1) (unless-ok _ (forest.next, record { nodes = forest.nodes ++ made; next = forest.next + length copy }) (m, after) e) in
    subst (λ f. IsPart instances model part f) is
    (part_stays_grown instances model (forest.next + length copy) (contents_in copy) part forest h trees
    (record { top = contents-top copy; rootless = contents-rootless copy (tree-rootless n forest.nodes trees.tops (copied-root n forest.nodes trees.apart may)) }))

-- ---- a tree that is planted

unless-planted : (fault : Option TreeFault) (v : Result (ℕ × Forest) TreeFault) (w : ℕ × Forest) → unless_fault fault v ≡ Ok w → v ≡ Ok w
unless-planted None v w e = e
unless-planted (Some fault) v w e = cc e

tree-stays : (instances : List Instance) (model : ℕ) (l : Limits) (contents : List (ℕ × Content)) (m : ℕ) (part forest after : Forest) → IsPart instances model part forest → HasTrees forest → IsGrowth contents →
    with_tree l contents forest ≡ Ok (m, after) → IsPart instances model part after
tree-stays instances model l contents m part forest after h trees growth e =
    subst (λ f. IsPart instances model part f) (ap (λ (w : ℕ × Forest). w.1) (unless-ok _ (forest.next, record { nodes = forest.nodes ++ numbered_from forest.next contents; next = forest.next + length contents }) (m, after) e))
    (part_stays_grown instances model (forest.next + length contents) contents part forest h trees growth)

pub part_stays_planted : PartStaysPlanted
part_stays_planted instances model l b space lit m part forest after h trees e =
    let grows = lit-grows b lit in
    tree-stays instances model l (contents_of b lit space 0) m part forest after h trees (record { top = grows.0 space; rootless = grows.1 space 0 }) (unless-planted _ (with_tree l (contents_of b lit space 0) forest) (m, after) e)

pub part_stays_planted_bare : PartStaysPlantedBare
part_stays_planted_bare instances model l b tree m part forest after h trees e =
    let grows = bare-grows b tree in
    tree-stays instances model l (contents_of_bare b tree 0 0) m part forest after h trees (record { top = grows.0 0; rootless = grows.1 0 0 }) (unless-planted _ (with_tree l (contents_of_bare b tree 0 0) forest) (m, after) e)
