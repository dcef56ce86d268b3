-- Trees as reading gives them.
use Rattle.std.specs.Prelude.{◌≡◌, ◌≤◌, ℕ, suc, max, List, [], ◌∷◌, Bool, true, false, not, ◌&&◌}
use Rattle.xf_name.specs.declared.lit.Lit.{Lit, fold-Lit}
use Rattle.xf_name.specs.declared.lit.Lit.TheOpen.{Lit-F, LitElement-F}
use Rattle.xf_name.specs.declared.lit.LitElement.{LitElement, fold-LitElement}
use Rattle.xf_json.specs.Printed.{are_rising}

-- whether a tree is a text; whether it has no empty and no neighbouring texts, and attributes in strict order; and how many elements
-- stand in one another
pub record Shape : Type 0 where
  pub is_text : Bool
  pub is_plain : Bool
  pub nesting : ℕ

abbrev pub is_some_text : List ℕ → Bool
is_some_text [] = false
is_some_text (b ∷ bs) = true

-- every tree is plain, and no text stands behind another; the first says whether a text stands before
abbrev pub are_apart : Bool → List Shape → Bool
are_apart after [] = true
are_apart after (s ∷ ss) = s.is_plain && not (after && s.is_text) && are_apart s.is_text ss

abbrev pub deepest : List Shape → ℕ
deepest [] = 0
deepest (s ∷ ss) = max s.nesting (deepest ss)

abbrev pub lit_shape : Lit-F Shape Shape → Shape
lit_shape (Lit-F.Text text) = record { is_text = true; is_plain = is_some_text text; nesting = 0 }
lit_shape (Lit-F.Element shape) = shape

abbrev pub element_shape : LitElement-F Shape Shape → Shape
element_shape e = record { is_text = false; is_plain = are_rising e.attributes && are_apart false e.children; nesting = suc (deepest e.children) }

abbrev pub shape_of : Lit → Shape
shape_of = fold-Lit Shape Shape lit_shape element_shape

abbrev pub shape_of_element : LitElement → Shape
shape_of_element = fold-LitElement Shape Shape lit_shape element_shape

-- a tree that reading gives back: an element, plain, and nested at most 126 deep, as JSON nests 127 deep with the last object
pub record IsPlain (lit : Lit) : Type 0 where
  pub element : (shape_of lit).is_text ≡ false
  pub plain : (shape_of lit).is_plain ≡ true
  pub shallow : (shape_of lit).nesting ≤ 126
