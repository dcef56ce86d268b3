-- The contents of a tree with resolved names: an element stands alone above the rest, and no root is in it.
use Rattle.std.proofs.Common.{◌≡◌, ℕ, suc, ◌≤◌, ◌==◌, Bool, true, false, cond, List, [], ◌∷◌, ◌++◌, map, flat_map, refl, sym, ap, ◌∙◌, subst, arith}
use Rattle.std.proofs.lemmas.Bool.Decides.{nat_tests}
use Rattle.xf_name.specs.Bindings.{Bindings}
use Rattle.xf_def_forest.specs.declared.bare.Bare.{Bare}
use Rattle.xf_def_forest.specs.declared.bare.Bare.TheOpen.{Bare-F, BareElement-F}
use Rattle.xf_def_forest.specs.declared.bare.Bare.TheFolds.{fold-roll-Bare, fold-roll-BareElement, map-Bare, ind-BareElement}
use Rattle.xf_def_forest.specs.declared.bare.Bare.TheViews.{roll-Bare, roll-BareElement}
use Rattle.xf_def_forest.specs.declared.bare.Bare.TheVariants as bare
use Rattle.xf_def_forest.specs.declared.bare.BareElement.{BareElement, fold-BareElement}
use Rattle.xf_def_forest.specs.declared.bare.BareAttribute.{BareAttribute}
use Rattle.xf_def_forest.specs.declared.content.Content.{Content}
use Rattle.xf_def_forest.specs.declared.content.Content.TheVariants.{Root, Element, Attribute, Text}
use Rattle.xf_def_forest.specs.Forest.{is_element, is_root}
use Rattle.xf_def_forest.specs.Plant.{Contents, text_contents, in_order, in_place, is_less, written_of, at_depth}
use Rattle.xf_def_forest.specs.Planted.{contents_of_bare, bare_contents, bare_element_contents, bare_attribute}

-- all stand at this depth or below it, and none is a root
abbrev pub AllDeep : ℕ → List (ℕ × Content) → Type 0
AllDeep d [] = Unit {0}
AllDeep d (p ∷ ps) = (d ≤ p.0) × (is_root p.1 ≡ false) × AllDeep d ps

-- the first is an element at this depth, and all others stand below it
abbrev pub Top : ℕ → List (ℕ × Content) → Type 0
Top d [] = ⊥
Top d (p ∷ ps) = (p.0 ≡ d) × (is_element p.1 ≡ true) × AllDeep (suc d) ps

abbrev Rootless : List Content → Type 0
Rootless [] = Unit {0}
Rootless (c ∷ cs) = (is_root c ≡ false) × Rootless cs

deep-append : (d : ℕ) (xs ys : List (ℕ × Content)) → AllDeep d xs → AllDeep d ys → AllDeep d (xs ++ ys)
deep-append d [] ys h k = k
deep-append d (x ∷ xs) ys h k = (h.0, h.1, deep-append d xs ys h.2 k)

deep-depth : (d : ℕ) (cs : List Content) → Rootless cs → AllDeep d (at_depth d cs)
deep-depth d [] h = tt
deep-depth d (c ∷ cs) h = (omega arith, h.0, deep-depth d cs h.1)

deep-less : (d : ℕ) (xs : List (ℕ × Content)) → AllDeep (suc d) xs → AllDeep d xs
deep-less d [] h = tt
deep-less d (x ∷ xs) h = let k : suc d ≤ x.0 = h.0 in (omega (arith, k), h.1, deep-less d xs h.2)

no-root : (c : Content) → is_element c ≡ true → is_root c ≡ false
no-root Root h = cc h
no-root (Element name) h = refl
no-root (Attribute name text) h = refl
no-root (Text text) h = refl

deep-top : (d : ℕ) (xs : List (ℕ × Content)) → Top d xs → AllDeep d xs
deep-top d [] h = absurd h
deep-top d (x ∷ xs) h = let k : x.0 ≡ d = h.0 in (omega (arith, k), no-root x.1 h.1, deep-less d xs h.2)

-- ---- attributes

rootless-place : (c : Content) (cs : List Content) → is_root c ≡ false → Rootless cs → Rootless (in_place c cs)
rootless-place c [] h k = (h, tt)
rootless-place c (x ∷ xs) h k = by (is_less (written_of x) (written_of c)) (rootless-place c xs h k.1)
  where
    by : (b : Bool) → Rootless (in_place c xs) → Rootless (cond b (x ∷ in_place c xs) (c ∷ x ∷ xs))
    by true f = (k.0, f)
    by false f = (h, k)

rootless-order : (cs : List Content) → Rootless cs → Rootless (in_order cs)
rootless-order [] h = tt
rootless-order (c ∷ cs) h = rootless-place c (in_order cs) h.0 (rootless-order cs h.1)

rootless-attributes : (b : Bindings) (ys : List BareAttribute) → Rootless (map (bare_attribute b) ys)
rootless-attributes b [] = tt
rootless-attributes b (y ∷ ys) = (refl, rootless-attributes b ys)

-- ---- the tree

abbrev Below : Contents → Type 0
Below w = (space depth : ℕ) → AllDeep depth (w space depth)

abbrev Tops : Contents → Type 0
Tops w = (space depth : ℕ) → Top depth (w space depth)

text-below : (text : List ℕ) → Below (text_contents text)
text-below [] space depth = by (depth == 0) refl
  where
    by : (b : Bool) → (depth == 0) ≡ b → AllDeep depth (cond b (at_depth 0 (Text [] ∷ [])) [])
    by true e = let low : depth ≤ 0 = grind (arith, nat_tests, e) in (low, refl, tt)
    by false e = tt
text-below (c ∷ cs) space depth = (omega arith, refl, tt)

module _ (b : Bindings) where
  abbrev of_element : BareElement → Contents
  of_element = fold-BareElement Contents Contents bare_contents (bare_element_contents b)

  element-tops : (e : BareElement-F Contents Contents) → ((space depth : ℕ) → AllDeep depth (flat_map (λ child. child space depth) e.children)) → Tops (bare_element_contents b e)
  element-tops e below space depth = (
    refl,
    refl,
    deep-append (suc depth) (at_depth (suc depth) (in_order (map (bare_attribute b) e.attributes))) _
        (deep-depth (suc depth) (in_order (map (bare_attribute b) e.attributes)) (rootless-order (map (bare_attribute b) e.attributes) (rootless-attributes b e.attributes))) (below space (suc depth)),
  )

  abbrev Child : Type 0
  Child = (x : Bare) × Below (contents_of_bare b x)

  abbrev Inner : Type 0
  Inner = (e : BareElement) × Tops (of_element e)

  children-below : (ys : List Child) (space depth : ℕ) → AllDeep depth (flat_map (λ child. child space depth) (map (contents_of_bare b) (map (λ y. y.0) ys)))
  children-below [] space depth = tt
  children-below (y ∷ ys) space depth = deep-append depth (contents_of_bare b y.0 space depth) _ (y.1 space depth) (children-below ys space depth)

  level : (y : Bare-F Child Inner) → Below (contents_of_bare b (roll-Bare (map-Bare Child Inner Bare BareElement (λ c. c.0) (λ c. c.0) y)))
  level (Bare-F.Text text) = subst Below (sym (fold-roll-Bare Contents Contents bare_contents (bare_element_contents b) (Bare-F.Text text))) (text-below text)
  level (Bare-F.Element e) =
      subst Below (sym (fold-roll-Bare Contents Contents bare_contents (bare_element_contents b) (Bare-F.Element e.0)))
      (λ space depth. deep-top depth (of_element e.0 space depth) (e.1 space depth))

  part-level : (y : BareElement-F Child Inner) → Tops (of_element (roll-BareElement (record { name = y.name; attributes = y.attributes; children = map (λ c. c.0) y.children })))
  part-level y =
      subst Tops (sym (fold-roll-BareElement Contents Contents bare_contents (bare_element_contents b) (record { name = y.name; attributes = y.attributes; children = map (λ c. c.0) y.children })))
      (element-tops (record { name = y.name; attributes = y.attributes; children = map (contents_of_bare b) (map (λ c. c.0) y.children) }) (children-below y.children))

  every-element : (e : BareElement) → Tops (of_element e)
  every-element = ind-BareElement (λ x. Below (contents_of_bare b x)) (λ e. Tops (of_element e))
      (λ x y is. subst (λ z. Below (contents_of_bare b (roll-Bare z))) is (level y)) (λ x y is. subst (λ z. Tops (of_element (roll-BareElement z))) is (part-level y))

  pub bare-top : (e : BareElement) (depth : ℕ) → Top depth (contents_of_bare b (bare.Element e) 0 depth)
  bare-top e depth =
      subst (λ (w : Contents). Top depth (w 0 depth)) (sym (ap (contents_of_bare b) (sym (bare.rolls-Element e)) ∙ fold-roll-Bare Contents Contents bare_contents (bare_element_contents b) (Bare-F.Element e)))
      (every-element e 0 depth)
