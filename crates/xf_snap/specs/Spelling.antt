-- The bytes of a snapshot.
use Rattle.std.specs.Prelude.{ℕ, List, [], ◌∷◌, ◌++◌, length}
use Rattle.std.specs.List.{flat_map}
use Rattle.xf_name.specs.declared.qname.QName.{QName}
use Rattle.xf_def_forest.specs.declared.bare.Bare.{Bare, fold-Bare}
use Rattle.xf_def_forest.specs.declared.bare.Bare.TheOpen.{Bare-F, BareElement-F}
use Rattle.xf_def_forest.specs.declared.bare.BareElement.{BareElement, fold-BareElement}
use Rattle.xf_def_forest.specs.declared.bare.BareAttribute.{BareAttribute}
use Rattle.xf_snap.specs.declared.snap.Snap.{Snap}
use Rattle.xf_snap.specs.Numbers.{two, four, eight}

-- a text with its length before it
abbrev pub text_bytes : List ℕ → List ℕ
text_bytes text = four (length text) ++ text

-- a name: its namespace, its prefix, and its local part with its length before it
abbrev pub name_bytes : QName → List ℕ
name_bytes name = two name.space ++ (two name.prefix ++ (length name.local ∷ name.local))

abbrev pub attribute_bytes : BareAttribute → List ℕ
attribute_bytes attribute = name_bytes attribute.name ++ text_bytes attribute.text

-- a tree: 1 and a text, or 0 and an element
abbrev pub tree_level : Bare-F (List ℕ) (List ℕ) → List ℕ
tree_level (Bare-F.Text text) = 1 ∷ text_bytes text
tree_level (Bare-F.Element element) = 0 ∷ element

-- an element: its name, the number of its attributes and each of them, the number of its children and each of them
abbrev pub element_level : BareElement-F (List ℕ) (List ℕ) → List ℕ
element_level e =
    name_bytes e.name ++ (two (length e.attributes) ++ (flat_map attribute_bytes e.attributes ++ (four (length e.children) ++ flat_map (λ child. child) e.children)))

abbrev pub tree_bytes : Bare → List ℕ
tree_bytes = fold-Bare (List ℕ) (List ℕ) tree_level element_level

abbrev pub element_bytes : BareElement → List ℕ
element_bytes = fold-BareElement (List ℕ) (List ℕ) tree_level element_level

-- a snapshot: how many events were accepted, and of the documents, the indexes and the cases their number and each of them
abbrev pub bytes_of : Snap → List ℕ
bytes_of snap =
    eight snap.accepted
    ++ (two (length snap.documents) ++ (flat_map tree_bytes snap.documents
    ++ (two (length snap.indexes) ++ (flat_map four snap.indexes
    ++ (two (length snap.cases) ++ flat_map two snap.cases)))))
