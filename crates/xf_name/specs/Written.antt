-- A form as the list of its elements in document order.
use Rattle.std.specs.Prelude.{ℕ, suc, List, [], ◌∷◌, codes, flat_map, if◌then◌else◌}
use Rattle.std.specs.Str.{bytes_eq}
use Rattle.xf_name.specs.declared.lit.Pair.{Pair}
use Rattle.xf_name.specs.declared.lit.Lit.{Lit, fold-Lit}
use Rattle.xf_name.specs.declared.lit.Lit.TheOpen.{Lit-F, LitElement-F}
use Rattle.xf_name.specs.declared.lit.LitElement.{LitElement, fold-LitElement}

-- an element as it is written, the default namespace in force at it, [] where there is none, and how many elements are around it
pub record Written : Type 0 where
  pub name : List ℕ
  pub attributes : List Pair
  pub default : List ℕ
  pub depth : ℕ

-- the default namespace below attributes, where one is in force above
abbrev pub default_below : List ℕ → List Pair → List ℕ
default_below above [] = above
default_below above (p ∷ ps) = if bytes_eq p.name (codes "xmlns") then p.text else default_below above ps

-- the elements of a part of a form, from the default namespace and the depth at which it stands
abbrev pub Walk : Type 0
Walk = List ℕ → ℕ → List Written

abbrev pub lit_walk : Lit-F Walk Walk → Walk
lit_walk (Lit-F.Text text) = λ above depth. []
lit_walk (Lit-F.Element walk) = walk

abbrev pub element_walk : LitElement-F Walk Walk → Walk
element_walk e = λ above depth.
    let own = default_below above e.attributes in
    record { name = e.name; attributes = e.attributes; default = own; depth = depth } ∷ flat_map (λ child. child own (suc depth)) e.children

abbrev pub walk_of : Lit → Walk
walk_of = fold-Lit Walk Walk lit_walk element_walk

abbrev pub walk_of_element : LitElement → Walk
walk_of_element = fold-LitElement Walk Walk lit_walk element_walk

-- the elements of a form
abbrev pub elements_of : Lit → List Written
elements_of form = walk_of form [] 0
