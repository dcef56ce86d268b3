-- A form as the list of its elements in document order: an element, then what stands in it, from left to right.
use Rattle.std.specs.Prelude.{◌≡◌, ℕ, ◌+◌, Bool, true, false, ◌&&◌, if◌then◌else◌, List, [], ◌∷◌, ◌++◌, length}
use Rattle.xf_def_syntax.specs.declared.element.Part.{Part}
use Rattle.xf_def_syntax.specs.declared.element.Part.TheVariants as part
use Rattle.xf_name.specs.Bindings.{Bindings}
use Rattle.xf_name.specs.declared.lit.Lit.{Lit, fold-Lit}
use Rattle.xf_name.specs.declared.lit.Lit.TheOpen.{Lit-F, LitElement-F}
use Rattle.xf_name.specs.declared.lit.LitElement.{LitElement, fold-LitElement}
use Rattle.xf_form_vocabulary.specs.Classes.{keeps_text}
use Rattle.xf_form_vocabulary.specs.Tags as tags
use Rattle.xf_form_vocabulary.specs.declared.tag.Tag.{Tag}
use Rattle.xf_form_vocabulary.specs.declared.tag.Tag.TheVariants as tag
use Rattle.xf_form_refusals.specs.declared.standing.Standing.{Standing}
use Rattle.xf_form_refusals.specs.declared.standing.Zone.{Zone}
use Rattle.xf_form_refusals.specs.Rows.{Seen}
use Rattle.xf_form_refusals.specs.Standing.{is_outside, is_in_schema, space_below, at_root, below}

-- the elements of a part of a form, by its surroundings, its place among what stands in its parent, and its place in the list
abbrev pub Walk : Type 0
Walk = Standing → ℕ → ℕ → List Seen

-- what stands in an element: a text, or an element
pub data Piece : Type 0 where
  text : List ℕ → Piece
  element : Walk → Piece

abbrev pub rows_in : Piece → Standing → ℕ → ℕ → List Seen
rows_in (text t) inside at n = []
rows_in (element walk) inside at n = walk inside at n

abbrev pub text_if : Bool → List ℕ → List Part
text_if true t = part.Text t ∷ []
text_if false t = []

abbrev pub parts_in : Piece → Bool → ℕ → List Part
parts_in (text t) keep n = text_if keep t
parts_in (element walk) keep n = part.Element n ∷ []

-- all that stands in an element, from a place among it on
abbrev pub rows_from : Standing → ℕ → ℕ → List Piece → List Seen
rows_from inside at n [] = []
rows_from inside at n (p ∷ ps) = rows_in p inside at n ++ rows_from inside (at + 1) (n + length (rows_in p inside at n)) ps

abbrev pub parts_from : Bool → Standing → ℕ → ℕ → List Piece → List Part
parts_from keep inside at n [] = []
parts_from keep inside at n (p ∷ ps) = parts_in p keep n ++ parts_from keep inside (at + 1) (n + length (rows_in p inside at n)) ps

-- inside an instance and in what is passed over names have no meaning, and in a schema those of schemas alone
abbrev pub tag_in : Bindings → Zone → List ℕ → ℕ → Tag
tag_in b z written space =
    if is_outside z then tags.tag_of b written space else (if is_in_schema z then tags.schema_tag_of b written space else tag.Host)

-- the texts in these surroundings count
abbrev pub keeps : Standing → Bool
keeps inside = is_outside inside.zone && keeps_text inside.nearest

abbrev pub piece : Lit-F Piece Walk → Piece
piece (Lit-F.Text t) = text t
piece (Lit-F.Element walk) = element walk

abbrev pub inside_of : Bindings → List ℕ → ℕ → Standing → ℕ → Standing
inside_of b name space s n = below s (tag_in b s.zone name space) space n

abbrev pub walk : Bindings → LitElement-F Piece Walk → Walk
walk b e = λ s at n.
    let space = space_below b s.space e.attributes in
    let inside = inside_of b e.name space s n in
    record {
      name = e.name;
      attributes = e.attributes;
      tag = tag_in b s.zone e.name space;
      standing = s;
      at = at;
      parts = parts_from (keeps inside) inside 0 (n + 1) e.children;
    } ∷ rows_from inside 0 (n + 1) e.children

abbrev pub piece_of : Bindings → Lit → Piece
piece_of b = fold-Lit Piece Walk piece (walk b)

abbrev pub walk_of : Bindings → LitElement → Walk
walk_of b = fold-LitElement Piece Walk piece (walk b)

-- the elements of a form
abbrev pub rows_of : Bindings → Lit → List Seen
rows_of b lit = rows_in (piece_of b lit) at_root 0 0

-- all that stands in an element has come behind the elements before it
pub record AddsAll (ps : List Piece) (inside : Standing) (old new : List Seen) (parts : List Part) : Type 0 where
  pub rows : new ≡ old ++ rows_from inside 0 (length old) ps
  pub parts_are : parts ≡ parts_from (keeps inside) inside 0 (length old) ps
