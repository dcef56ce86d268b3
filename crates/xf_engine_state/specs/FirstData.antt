-- The data as construction left them, which a reset puts back (XForms 1.1, section 4.3.7).
use Rattle.std.specs.Prelude.{ℕ, ◌≡◌, List, [], ◌∷◌, Option, Some, None, slice_get}
use Rattle.xf_name.specs.declared.lit.Lit.{Lit}
use Rattle.xf_name.specs.declared.lit.Lit.TheVariants as lit
use Rattle.xf_name.specs.declared.lit.LitElement.{LitElement}
use Rattle.xf_def_syntax.specs.declared.form.Instance.{Instance}
use Rattle.xf_def_forest.specs.declared.bare.Bare.{Bare}
use Rattle.xf_def_forest.specs.declared.bare.Bare.TheVariants as bare
use Rattle.xf_def_forest.specs.declared.bare.BareElement.{BareElement}
use Rattle.xf_def_forest.specs.declared.content.Kind.TheVariants as kind
use Rattle.xf_def_forest.specs.declared.content.Node.{Node}
use Rattle.xf_def_forest.specs.Changes.{root_of}
use Rattle.xf_def_forest.specs.Forest.{kind_at}
use Rattle.xf_def_forest.specs.Literal.{bare_of}
use Rattle.xf_def_forest.specs.Planted.{contents_of_bare}
use Rattle.xf_def_machine.specs.Construct.{construct, first_contents}
use Rattle.xf_form.specs.Data.{lit_at}
use Rattle.xf_form.specs.declared.loaded.Loaded.{Loaded}
use Rattle.xf_def_form.specs.Formed.{profile, program_in}
use Rattle.xf_engine_state.specs.Around.{document_below}

-- the tree of an element that gives the contents that the document element of an instance had
pub record IsFirst (l : Loaded) (place : ℕ) (tree : Bare) : Type 0 where
  pub element : BareElement
  pub is_element : tree ≡ bare.Element element
  pub contents : contents_of_bare l.prefixes tree 0 0 ≡ first_contents (construct profile (program_in l)) place

-- of each instance
abbrev pub AreContents : Loaded → List Bare → Type 0
AreContents l trees = (place : ℕ) (tree : Bare) → slice_get trees place ≡ Some tree → IsFirst l place tree

-- nothing is kept before construction has ended
abbrev pub AreFirst : Loaded → Option (List Bare) → Type 0
AreFirst l None = Unit {0}
AreFirst l (Some trees) = AreContents l trees

-- the tree of the document element of an instance
pub record IsDocument (place : ℕ) (nodes : List Node) (tree : Bare) : Type 0 where
  pub number : ℕ
  pub document : document_below nodes (root_of place nodes) ≡ Some number
  pub is_element : kind_at number nodes ≡ Some kind.Element
  pub is_bare : bare_of number nodes ≡ Some tree

-- those of the first instances
abbrev pub AreDocuments : List Node → List Bare → Type 0
AreDocuments nodes trees = (place : ℕ) (tree : Bare) → slice_get trees place ≡ Some tree → IsDocument place nodes tree

-- the data with which an instance begins are those of an element
abbrev pub IsOfElement : Lit → Instance → Type 0
IsOfElement tree i = (e : LitElement) × (lit_at i.place tree ≡ Some (lit.Element e))

abbrev pub AreOfElements : Lit → List Instance → Type 0
AreOfElements tree [] = Unit {0}
AreOfElements tree (i ∷ is) = IsOfElement tree i × AreOfElements tree is
