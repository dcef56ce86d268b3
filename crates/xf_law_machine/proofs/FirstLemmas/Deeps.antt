-- The tree of a literal: its top stands alone above the rest.
use Rattle.std.proofs.Common.{◌≡◌, ℕ, suc, ◌≤◌, ◌==◌, Bool, true, false, cond, List, [], ◌∷◌, ◌++◌, map, flat_map, refl, sym, subst, arith}
use Rattle.std.specs.List.{filter_map, cons_option}
use Rattle.std.specs.Prelude.{Result, Ok, Err}
use Rattle.std.proofs.lemmas.Bool.Decides.{nat_tests}
use Rattle.xf_name.specs.Part.{Kind, no_declaration, kind_of}
use Rattle.xf_name.specs.Bindings.{Bindings, resolved}
use Rattle.xf_name.specs.declared.fault.NameFault.{NameFault}
use Rattle.xf_name.specs.declared.lit.Lit.{Lit}
use Rattle.xf_name.specs.declared.lit.Lit.TheOpen.{Lit-F, LitElement-F}
use Rattle.xf_name.specs.declared.lit.Lit.TheFolds.{fold-roll-Lit, fold-roll-LitElement, map-Lit, ind-Lit}
use Rattle.xf_name.specs.declared.lit.Lit.TheViews.{roll-Lit, roll-LitElement}
use Rattle.xf_name.specs.declared.lit.LitElement.{LitElement, fold-LitElement}
use Rattle.xf_name.specs.declared.lit.Pair.{Pair}
use Rattle.xf_name.specs.declared.qname.QName.{QName}
use Rattle.xf_def_forest.specs.declared.content.Content.{Content}
use Rattle.xf_def_forest.specs.declared.content.Content.TheVariants.{Text}
use Rattle.xf_def_forest.specs.Forest.{is_attribute, is_root}
use Rattle.xf_def_forest.specs.Plant.{Contents, text_contents, lit_contents, element_contents, contents_of, attribute_by, attribute_in, in_order, in_place, is_less, written_of, at_depth}
use Rattle.xf_law_machine.proofs.FirstLemmas.Rooted.{AllBelow, IsTree}

-- all stand at this depth or below it, and none is a root
abbrev AllDeep : ℕ → List (ℕ × Content) → Type 0
AllDeep d [] = Unit {0}
AllDeep d (p ∷ ps) = (d ≤ p.0) × (is_root p.1 ≡ false) × AllDeep d ps

-- the first stands at this depth, and all others below it
abbrev Top : ℕ → List (ℕ × Content) → Type 0
Top d [] = (d == 0) ≡ false
Top d (p ∷ ps) = (p.0 ≡ d) × (is_attribute p.1 ≡ false) × (is_root p.1 ≡ false) × AllDeep (suc d) ps

abbrev Rootless : List Content → Type 0
Rootless [] = Unit {0}
Rootless (c ∷ cs) = (is_root c ≡ false) × Rootless cs

deep-append : (d : ℕ) (xs ys : List (ℕ × Content)) → AllDeep d xs → AllDeep d ys → AllDeep d (xs ++ ys)
deep-append d [] ys h k = k
deep-append d (x ∷ xs) ys h k = (h.0, h.1, deep-append d xs ys h.2 k)

deep-depth : (d : ℕ) (cs : List Content) → Rootless cs → AllDeep d (at_depth d cs)
deep-depth d [] h = tt
deep-depth d (c ∷ cs) h = (omega arith, h.0, deep-depth d cs h.1)

deep-less : (d : ℕ) (xs : List (ℕ × Content)) → AllDeep (suc d) xs → AllDeep d xs
deep-less d [] h = tt
deep-less d (x ∷ xs) h = let k : suc d ≤ x.0 = h.0 in (omega (arith, k), h.1, deep-less d xs h.2)

deep-top : (d : ℕ) (xs : List (ℕ × Content)) → Top d xs → AllDeep d xs
deep-top d [] h = tt
deep-top d (x ∷ xs) h = let k : x.0 ≡ d = h.0 in (omega (arith, k), h.2, deep-less d xs h.3)

-- ---- attributes

rootless-place : (c : Content) (cs : List Content) → is_root c ≡ false → Rootless cs → Rootless (in_place c cs)
rootless-place c [] h k = (h, tt)
rootless-place c (x ∷ xs) h k = by (is_less (written_of x) (written_of c)) (rootless-place c xs h k.1)
  where
    by : (b : Bool) → Rootless (in_place c xs) → Rootless (cond b (x ∷ in_place c xs) (c ∷ x ∷ xs))
    by true f = (k.0, f)
    by false f = (h, k)

rootless-order : (cs : List Content) → Rootless cs → Rootless (in_order cs)
rootless-order [] h = tt
rootless-order (c ∷ cs) h = rootless-place c (in_order cs) h.0 (rootless-order cs h.1)

rootless-attributes : (b : Bindings) (ps : List Pair) → Rootless (filter_map (attribute_in b) ps)
rootless-attributes b [] = tt
rootless-attributes b (p ∷ ps) = by (kind_of p.name) (resolved b p.name 0) (rootless-attributes b ps)
  where
    by : (kind : Kind) (name : Result QName NameFault) → Rootless (filter_map (attribute_in b) ps) → Rootless (cons_option (attribute_by b kind p.text name) (filter_map (attribute_in b) ps))
    by no_declaration (Ok name) h = (refl, h)
    by no_declaration (Err fault) h = h
    by kind name h = h

-- ---- the tree

abbrev Tops : Contents → Type 0
Tops w = (space depth : ℕ) → Top depth (w space depth)

text-top : (text : List ℕ) → Tops (text_contents text)
text-top [] space depth = by (depth == 0) refl
  where
    by : (b : Bool) → (depth == 0) ≡ b → Top depth (cond b (at_depth 0 (Text [] ∷ [])) [])
    by true e = let same : 0 ≡ depth = grind (arith, nat_tests, e) in (same, refl, refl, tt)
    by false e = e
text-top (c ∷ cs) space depth = (refl, refl, refl, tt)

lit-element : (b : Bindings) (e : LitElement-F Contents Contents) → ((space depth : ℕ) → AllDeep depth (flat_map (λ child. child space depth) e.children)) → Tops (element_contents b e)
lit-element b e below space depth = (
  refl,
  refl,
  refl,
  deep-append (suc depth) (at_depth (suc depth) (in_order (filter_map (attribute_in b) e.attributes))) _
      (deep-depth (suc depth) (in_order (filter_map (attribute_in b) e.attributes)) (rootless-order (filter_map (attribute_in b) e.attributes) (rootless-attributes b e.attributes))) (below _ (suc depth)),
)

abbrev element_of : Bindings → LitElement → Contents
element_of b = fold-LitElement Contents Contents lit_contents (element_contents b)

abbrev LitBelow : Bindings → Type 0
LitBelow b = (x : Lit) × Tops (contents_of b x)

abbrev LitPart : Bindings → Type 0
LitPart b = (e : LitElement) × Tops (element_of b e)

lit-children : (b : Bindings) (ys : List (LitBelow b)) (space depth : ℕ) → AllDeep depth (flat_map (λ child. child space depth) (map (contents_of b) (map (λ y. y.0) ys)))
lit-children b [] space depth = tt
lit-children b (y ∷ ys) space depth = deep-append depth (contents_of b y.0 space depth) _ (deep-top depth (contents_of b y.0 space depth) (y.1 space depth)) (lit-children b ys space depth)

lit-level : (b : Bindings) (y : Lit-F (LitBelow b) (LitPart b)) → Tops (contents_of b (roll-Lit (map-Lit (LitBelow b) (LitPart b) Lit LitElement (λ c. c.0) (λ c. c.0) y)))
lit-level b (Lit-F.Text t) = subst Tops (sym (fold-roll-Lit Contents Contents lit_contents (element_contents b) (Lit-F.Text t))) (text-top t)
lit-level b (Lit-F.Element e) = subst Tops (sym (fold-roll-Lit Contents Contents lit_contents (element_contents b) (Lit-F.Element e.0))) e.1

lit-part : (b : Bindings) (y : LitElement-F (LitBelow b) (LitPart b)) → Tops (element_of b (roll-LitElement (record { name = y.name; attributes = y.attributes; children = map (λ c. c.0) y.children })))
lit-part b y =
    subst Tops (sym (fold-roll-LitElement Contents Contents lit_contents (element_contents b) (record { name = y.name; attributes = y.attributes; children = map (λ c. c.0) y.children })))
    (lit-element b (record { name = y.name; attributes = y.attributes; children = map (contents_of b) (map (λ c. c.0) y.children) }) (lit-children b y.children))

lit-tops : (b : Bindings) (lit : Lit) → Tops (contents_of b lit)
lit-tops b = ind-Lit (λ x. Tops (contents_of b x)) (λ e. Tops (element_of b e))
    (λ x y is. subst (λ z. Tops (contents_of b (roll-Lit z))) is (lit-level b y)) (λ x y is. subst (λ z. Tops (element_of b (roll-LitElement z))) is (lit-part b y))

deep-below : (ps : List (ℕ × Content)) → AllDeep 1 ps → AllBelow ps
deep-below [] h = tt
deep-below (p ∷ ps) h = (h.0, deep-below ps h.2)

top-tree : (d : List (ℕ × Content)) → Top 0 d → IsTree d
top-tree [] h = absurd (no h)
  where
    no : true ≡ false → ⊥
    no e = cc e
top-tree (p ∷ ps) h = (h.0, deep-below ps h.3)

pub lit-tree : (b : Bindings) (lit : Lit) (space : ℕ) → IsTree (contents_of b lit space 0)
lit-tree b lit space = top-tree (contents_of b lit space 0) (lit-tops b lit space 0)
