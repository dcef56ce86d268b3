-- What a content is and is not, and small facts of tests.
use Rattle.std.proofs.Common.{◌≡◌, ℕ, zero, suc, Bool, true, false, not, ◌&&◌, ◌||◌, List, refl, inl, inr, arith}
use Rattle.std.specs.Prelude.{◌⊎◌, ◌≤◌}
use Rattle.std.specs.Str.{bytes_eq}
use Rattle.std.proofs.lemmas.Slice.Eq.{bytes_eq-Decides}
use Rattle.xf_def_forest.specs.declared.content.Content.{Content}
use Rattle.xf_def_forest.specs.declared.content.Content.TheVariants.{Root, Element, Attribute, Text}
use Rattle.xf_def_forest.specs.Forest.{is_element, is_attribute, is_text}
use Rattle.xf_law_forests.proofs.RollbackLemmas.TreeShape.{is_leaf}

-- ---- contents

pub attribute-no_element : (c : Content) → is_attribute c ≡ true → is_element c ≡ false
attribute-no_element Root e = refl
attribute-no_element (Element name) e = let no : false ≡ true = e in cc
attribute-no_element (Attribute name text) e = refl
attribute-no_element (Text text) e = refl

pub element-no_attribute : (c : Content) → is_element c ≡ true → is_attribute c ≡ false
element-no_attribute Root e = refl
element-no_attribute (Element name) e = refl
element-no_attribute (Attribute name text) e = let no : false ≡ true = e in cc
element-no_attribute (Text text) e = refl

pub attribute-no_text : (c : Content) → is_attribute c ≡ true → is_text c ≡ false
attribute-no_text Root e = refl
attribute-no_text (Element name) e = refl
attribute-no_text (Attribute name text) e = refl
attribute-no_text (Text text) e = let no : false ≡ true = e in cc

pub element-no_text : (c : Content) → is_element c ≡ true → is_text c ≡ false
element-no_text Root e = refl
element-no_text (Element name) e = refl
element-no_text (Attribute name text) e = refl
element-no_text (Text text) e = let no : false ≡ true = e in cc

pub text-no_attribute : (c : Content) → is_text c ≡ true → is_attribute c ≡ false
text-no_attribute Root e = refl
text-no_attribute (Element name) e = refl
text-no_attribute (Attribute name text) e = let no : false ≡ true = e in cc
text-no_attribute (Text text) e = refl

pub text-no_element : (c : Content) → is_text c ≡ true → is_element c ≡ false
text-no_element Root e = refl
text-no_element (Element name) e = let no : false ≡ true = e in cc
text-no_element (Attribute name text) e = refl
text-no_element (Text text) e = refl

-- attributes and texts are leaves
pub attribute-leaf : (c : Content) → is_attribute c ≡ true → is_leaf c ≡ true
attribute-leaf Root e = let no : false ≡ true = e in cc
attribute-leaf (Element name) e = let no : false ≡ true = e in cc
attribute-leaf (Attribute name text) e = refl
attribute-leaf (Text text) e = refl

pub leaf-no_element : (c : Content) → is_leaf c ≡ true → is_element c ≡ false
leaf-no_element Root e = refl
leaf-no_element (Element name) e = let no : false ≡ true = e in cc
leaf-no_element (Attribute name text) e = refl
leaf-no_element (Text text) e = refl

pub leaf-text : (c : Content) → is_leaf c ≡ true → is_attribute c ≡ false → is_text c ≡ true
leaf-text Root e f = e
leaf-text (Element name) e f = e
leaf-text (Attribute name text) e f = let no : true ≡ false = f in cc
leaf-text (Text text) e f = refl

-- ---- tests and numbers

pub same-bytes : (xs ys : List ℕ) → bytes_eq xs ys ≡ true → xs ≡ ys
same-bytes xs ys e = grind (arith, bytes_eq-Decides)

pub few : (x : ℕ) → x ≤ 1 → (x ≡ 0) ⊎ (x ≡ 1)
few zero h = inl refl
few (suc x) h = inr (omega (arith, h))

pub or-parts : (a b : Bool) → (a || b) ≡ false → (a ≡ false) × (b ≡ false)
or-parts true b h = let no : true ≡ false = h in cc
or-parts false b h = (refl, h)

pub and-parts : (a b : Bool) → (a && b) ≡ true → (a ≡ true) × (b ≡ true)
and-parts true b h = (refl, h)
and-parts false b h = let no : false ≡ true = h in cc

pub not-true : (b : Bool) → not b ≡ true → b ≡ false
not-true true h = let no : false ≡ true = h in cc
not-true false h = refl

pub and-none : (b : Bool) → (b && false) ≡ false
and-none true = refl
and-none false = refl
