-- What comes into a forest stands in it: a planted tree, a copy, a new root.
use Rattle.std.proofs.Common.{◌≡◌, ℕ, suc, ◌+◌, ◌-◌, ◌==◌, Bool, true, false, cond, ◌||◌, List, [], ◌∷◌, ◌++◌, map, length, Option, Some, None, Ok, refl, sym, ap, subst, arith}
use Rattle.std.specs.Prelude.{Result}
use Rattle.std.proofs.lemmas.Bool.Decides.{nat_tests}
use Rattle.xf_name.specs.Bindings.{Bindings}
use Rattle.xf_name.specs.declared.lit.Lit.{Lit}
use Rattle.xf_name.specs.declared.lit.Lit.TheOpen.{Lit-F, LitElement-F}
use Rattle.xf_name.specs.declared.lit.Lit.TheFolds.{fold-roll-Lit, fold-roll-LitElement, map-Lit, ind-Lit}
use Rattle.xf_name.specs.declared.lit.Lit.TheViews.{roll-Lit, roll-LitElement}
use Rattle.xf_name.specs.declared.lit.LitElement.{LitElement, fold-LitElement}
use Rattle.xf_def_forest.specs.declared.bare.Bare.{Bare}
use Rattle.xf_def_forest.specs.declared.bare.Bare.TheOpen.{Bare-F, BareElement-F}
use Rattle.xf_def_forest.specs.declared.bare.Bare.TheFolds.{fold-roll-Bare, fold-roll-BareElement, map-Bare, ind-Bare}
use Rattle.xf_def_forest.specs.declared.bare.Bare.TheViews.{roll-Bare, roll-BareElement}
use Rattle.xf_def_forest.specs.declared.bare.BareElement.{BareElement, fold-BareElement}
use Rattle.xf_def_forest.specs.declared.content.Node.{Node}
use Rattle.xf_def_forest.specs.declared.content.Content.{Content}
use Rattle.xf_def_forest.specs.declared.content.Content.TheVariants.{Root}
use Rattle.xf_def_forest.specs.declared.fault.TreeFault.{TreeFault}
use Rattle.xf_def_forest.specs.Forest.{Forest, IsLive, has_number, from_node, first_tree, tree_of}
use Rattle.xf_def_forest.specs.Changes.{copied, contents_in, with_root, without_tree, in_instances, in_detached, moved_to}
use Rattle.xf_def_forest.specs.Limits.{Limits, unless}
use Rattle.xf_def_forest.specs.Plant.{Contents, numbered_from, contents_of, text_contents, lit_contents, element_contents}
use Rattle.xf_def_forest.specs.Planted.{planted, planted_bare, with_tree, unless_fault, contents_of_bare, bare_contents, bare_element_contents}

right : (a b : Bool) → b ≡ true → (a || b) ≡ true
right true b h = refl
right false b h = h

-- behind other nodes
behind : (n : ℕ) (xs ys : List Node) → has_number n ys ≡ true → has_number n (xs ++ ys) ≡ true
behind n [] ys h = h
behind n (x ∷ xs) ys h = right (x.number == n) (has_number n (xs ++ ys)) (behind n xs ys h)

-- and before them
ahead : (n : ℕ) (xs ys : List Node) → has_number n xs ≡ true → has_number n (xs ++ ys) ≡ true
ahead n [] ys h = cc h
ahead n (x ∷ xs) ys h = by (ahead n xs ys) (x.number == n) h
  where
    by : (has_number n xs ≡ true → has_number n (xs ++ ys) ≡ true) → (b : Bool) → (b || has_number n xs) ≡ true → (b || has_number n (xs ++ ys)) ≡ true
    by later true i = refl
    by later false i = later i

first : (n : ℕ) (x : Node) (xs : List Node) → x.number ≡ n → has_number n (x ∷ xs) ≡ true
first n x xs e = let same : (x.number == n) ≡ true = grind (arith, nat_tests, e) in ap (λ b. b || has_number n xs) same

-- a list that is not empty
abbrev begins : {X : Type 0} → List X → Bool
begins [] = false
begins (x ∷ xs) = true

new-live : (next : ℕ) (contents : List (ℕ × Content)) (nodes : List Node) → begins contents ≡ true → has_number next (nodes ++ numbered_from next contents) ≡ true
new-live next [] nodes h = cc h
new-live next (c ∷ cs) nodes h = behind next nodes (numbered_from next (c ∷ cs)) (first next (record { number = next; depth = c.0; content = c.1 }) (numbered_from (suc next) cs) refl)

unless-ok : {X : Type 0} (fault : Option TreeFault) (v w : X) → unless fault v ≡ Ok w → v ≡ w
unless-ok None v w e = cc e
unless-ok (Some fault) v w e = cc e

unless-made : (fault : Option TreeFault) (v : Result (ℕ × Forest) TreeFault) (w : ℕ × Forest) → unless_fault fault v ≡ Ok w → v ≡ Ok w
unless-made None v w e = e
unless-made (Some fault) v w e = cc e

grown-live : (m : ℕ) (contents : List (ℕ × Content)) (forest f : Forest) (next : ℕ) → begins contents ≡ true
    → ◌≡◌ {A = ℕ × Forest} (forest.next, record { nodes = forest.nodes ++ numbered_from forest.next contents; next = next }) (m, f) → IsLive m f
grown-live m contents forest f next some e =
    subst (λ (w : ℕ × Forest). has_number w.0 w.1.nodes ≡ true) e (new-live forest.next contents forest.nodes some)

tree-begins : (n : ℕ) (nodes : List Node) → has_number n nodes ≡ true → begins (contents_in (tree_of n nodes)) ≡ true
tree-begins n [] h = cc h
tree-begins n (x ∷ xs) h = by (tree-begins n xs) (x.number == n) h
  where
    by : (has_number n xs ≡ true → begins (contents_in (tree_of n xs)) ≡ true) → (b : Bool) → (b || has_number n xs) ≡ true
        → begins (contents_in (first_tree (cond b (x ∷ xs) (from_node n xs)))) ≡ true
    by later true i = refl
    by later false i = later i

-- a copy
pub copied-live : (l : Limits) (n m : ℕ) (forest f : Forest) → IsLive n forest → copied l n forest ≡ Ok (m, f) → IsLive m f
copied-live l n m forest f live e =
    grown-live m (contents_in (tree_of n forest.nodes)) forest f (forest.next + length (tree_of n forest.nodes)) (tree-begins n forest.nodes live) (unless-ok _ _ (m, f) e)

-- a new root
pub root-made : (top : ℕ) (forest : Forest) → IsLive (with_root top forest).0 (with_root top forest).1
root-made top forest =
    let rest = without_tree top forest.nodes in
    let root : Node = record { number = forest.next; depth = 0; content = Root } in
    let tree = moved_to 1 (tree_of top forest.nodes) in
    ahead forest.next (in_instances rest ++ root ∷ tree) (in_detached rest) (behind forest.next (in_instances rest) (root ∷ tree) (first forest.next root tree refl))

-- ---- a planted tree

-- the contents of a tree are not empty
abbrev Comes : Contents → Type 0
Comes w = (space : ℕ) → begins (w space 0) ≡ true

text-comes : (text : List ℕ) → Comes (text_contents text)
text-comes [] = λ space. refl
text-comes (c ∷ cs) = λ space. refl

abbrev element_of : Bindings → LitElement → Contents
element_of b = fold-LitElement Contents Contents lit_contents (element_contents b)

abbrev LitBelow : Bindings → Type 0
LitBelow b = (x : Lit) × Comes (contents_of b x)

abbrev LitPart : Bindings → Type 0
LitPart b = (e : LitElement) × Comes (element_of b e)

lit-level : (b : Bindings) (y : Lit-F (LitBelow b) (LitPart b)) → Comes (contents_of b (roll-Lit (map-Lit (LitBelow b) (LitPart b) Lit LitElement (λ c. c.0) (λ c. c.0) y)))
lit-level b (Lit-F.Text t) = subst Comes (sym (fold-roll-Lit Contents Contents lit_contents (element_contents b) (Lit-F.Text t))) (text-comes t)
lit-level b (Lit-F.Element e) = subst Comes (sym (fold-roll-Lit Contents Contents lit_contents (element_contents b) (Lit-F.Element e.0))) e.1

lit-part : (b : Bindings) (y : LitElement-F (LitBelow b) (LitPart b)) → Comes (element_of b (roll-LitElement (record { name = y.name; attributes = y.attributes; children = map (λ c. c.0) y.children })))
lit-part b y =
    subst Comes (sym (fold-roll-LitElement Contents Contents lit_contents (element_contents b) (record { name = y.name; attributes = y.attributes; children = map (λ c. c.0) y.children }))) (λ space. refl)

lit-comes : (b : Bindings) (lit : Lit) → Comes (contents_of b lit)
lit-comes b = ind-Lit (λ x. Comes (contents_of b x)) (λ e. Comes (element_of b e))
    (λ x y is. subst (λ z. Comes (contents_of b (roll-Lit z))) is (lit-level b y)) (λ x y is. subst (λ z. Comes (element_of b (roll-LitElement z))) is (lit-part b y))

pub planted-live : (l : Limits) (b : Bindings) (space : ℕ) (tree : Lit) (m : ℕ) (forest f : Forest) → planted l b space tree forest ≡ Ok (m, f) → IsLive m f
planted-live l b space tree m forest f e =
    let contents = contents_of b tree space 0 in
    grown-live m contents forest f (forest.next + length contents) (lit-comes b tree space) (unless-ok _ _ (m, f) (unless-made _ (with_tree l contents forest) (m, f) e))

-- ---- one with resolved names

abbrev bare_of : Bindings → BareElement → Contents
bare_of b = fold-BareElement Contents Contents bare_contents (bare_element_contents b)

abbrev BareBelow : Bindings → Type 0
BareBelow b = (x : Bare) × Comes (contents_of_bare b x)

abbrev BarePart : Bindings → Type 0
BarePart b = (e : BareElement) × Comes (bare_of b e)

bare-level : (b : Bindings) (y : Bare-F (BareBelow b) (BarePart b)) → Comes (contents_of_bare b (roll-Bare (map-Bare (BareBelow b) (BarePart b) Bare BareElement (λ c. c.0) (λ c. c.0) y)))
bare-level b (Bare-F.Text t) = subst Comes (sym (fold-roll-Bare Contents Contents bare_contents (bare_element_contents b) (Bare-F.Text t))) (text-comes t)
bare-level b (Bare-F.Element e) = subst Comes (sym (fold-roll-Bare Contents Contents bare_contents (bare_element_contents b) (Bare-F.Element e.0))) e.1

bare-part : (b : Bindings) (y : BareElement-F (BareBelow b) (BarePart b)) → Comes (bare_of b (roll-BareElement (record { name = y.name; attributes = y.attributes; children = map (λ c. c.0) y.children })))
bare-part b y =
    subst Comes (sym (fold-roll-BareElement Contents Contents bare_contents (bare_element_contents b) (record { name = y.name; attributes = y.attributes; children = map (λ c. c.0) y.children }))) (λ space. refl)

bare-comes : (b : Bindings) (bare : Bare) → Comes (contents_of_bare b bare)
bare-comes b = ind-Bare (λ x. Comes (contents_of_bare b x)) (λ e. Comes (bare_of b e))
    (λ x y is. subst (λ z. Comes (contents_of_bare b (roll-Bare z))) is (bare-level b y)) (λ x y is. subst (λ z. Comes (bare_of b (roll-BareElement z))) is (bare-part b y))

pub planted_bare-live : (l : Limits) (b : Bindings) (tree : Bare) (m : ℕ) (forest f : Forest) → planted_bare l b tree forest ≡ Ok (m, f) → IsLive m f
planted_bare-live l b tree m forest f e =
    let contents = contents_of_bare b tree 0 0 in
    grown-live m contents forest f (forest.next + length contents) (bare-comes b tree 0) (unless-ok _ _ (m, f) (unless-made _ (with_tree l contents forest) (m, f) e))
