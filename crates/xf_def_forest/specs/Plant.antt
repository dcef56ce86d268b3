-- The nodes of a literal tree, its names resolved (XPath 1.0, section 5; Namespaces in XML 1.0, sections 5 and 6).
use Rattle.std.specs.Prelude.{ℕ, suc, Bool, List, [], ◌∷◌, ◌++◌, map, flat_map, Option, Some, None, unwrap_or, Result, Ok, Err, ◌==◌, codes, if◌then◌else◌}
use Rattle.std.specs.List.{filter_map}
use Rattle.std.specs.Str.{bytes_eq}
use Rattle.std.specs.Cmp.Lexicographic.{slice_cmp}
use Rattle.std.specs.Ordering.{nat_cmp, is_lt}
use Rattle.xf_name.specs.Part.{Kind, no_declaration, kind_of}
use Rattle.xf_name.specs.Bindings.{Bindings, space_number, text_of_prefix, resolved}
use Rattle.xf_name.specs.declared.lit.Pair.{Pair}
use Rattle.xf_name.specs.declared.lit.Lit.{Lit, fold-Lit}
use Rattle.xf_name.specs.declared.lit.Lit.TheOpen.{Lit-F, LitElement-F}
use Rattle.xf_name.specs.declared.qname.QName.{QName}
use Rattle.xf_name.specs.declared.fault.NameFault.{NameFault}
use Rattle.xf_def_forest.specs.declared.content.Node.{Node}
use Rattle.xf_def_forest.specs.declared.content.Name.{Name}
use Rattle.xf_def_forest.specs.declared.content.Content.{Content}
use Rattle.xf_def_forest.specs.declared.content.Content.TheVariants.{Element, Attribute, Text}
use Rattle.xf_def_forest.specs.Forest.{written_in, name_in}

-- the contents of a tree in document order, each with its depth, from the default namespace in force above and the depth of its top
abbrev pub Contents : Type 0
Contents = ℕ → ℕ → List (ℕ × Content)

-- ---- names

abbrev pub name_for : Bindings → QName → Name
name_for b name = record { meaning = name; prefix = unwrap_or (text_of_prefix b name.prefix) [] }

abbrev pub no_name : QName
no_name = record { space = 0; prefix = 0; local = [] }

abbrev pub element_name : Bindings → Result QName NameFault → Name
element_name b (Ok name) = name_for b name
element_name b (Err fault) = name_for b no_name

-- the number of a namespace that `xmlns` gives: the empty text is none
abbrev pub default_number : Bindings → List ℕ → ℕ
default_number b [] = 0
default_number b (c ∷ cs) = unwrap_or (space_number b (c ∷ cs)) 0

-- the default namespace below attributes, where one is in force above
abbrev pub default_below : Bindings → ℕ → List Pair → ℕ
default_below b above [] = above
default_below b above (p ∷ ps) = if bytes_eq p.name (codes "xmlns") then default_number b p.text else default_below b above ps

-- ---- attributes

abbrev pub attribute_by : Bindings → Kind → List ℕ → Result QName NameFault → Option Content
attribute_by b no_declaration text (Ok name) = Some (Attribute (name_for b name) text)
attribute_by b kind text name = None

-- an attribute without a prefix has no namespace; a declaration of one is no node
abbrev pub attribute_in : Bindings → Pair → Option Content
attribute_in b p = attribute_by b (kind_of p.name) p.text (resolved b p.name 0)

abbrev pub written_of : Content → List ℕ
written_of content = written_in (name_in content)

-- the first written name is less than the second, by bytes
abbrev pub is_less : List ℕ → List ℕ → Bool
is_less first second = is_lt (slice_cmp nat_cmp first second)

abbrev pub in_place : Content → List Content → List Content
in_place content [] = content ∷ []
in_place content (x ∷ xs) = if is_less (written_of x) (written_of content) then x ∷ in_place content xs else content ∷ x ∷ xs

-- in the order of the bytes of their written names
abbrev pub in_order : List Content → List Content
in_order [] = []
in_order (x ∷ xs) = in_place x (in_order xs)

abbrev pub at_depth : ℕ → List Content → List (ℕ × Content)
at_depth depth contents = map (λ c. (depth, c)) contents

-- ---- the tree

-- a text that is a child of an element has a character at least
abbrev pub text_contents : List ℕ → Contents
text_contents [] = λ space depth. if depth == 0 then at_depth 0 (Text [] ∷ []) else []
text_contents (c ∷ cs) = λ space depth. (depth, Text (c ∷ cs)) ∷ []

abbrev pub lit_contents : Lit-F Contents Contents → Contents
lit_contents (Lit-F.Text text) = text_contents text
lit_contents (Lit-F.Element contents) = contents

abbrev pub element_contents : Bindings → LitElement-F Contents Contents → Contents
element_contents b e = λ space depth.
    let own = default_below b space e.attributes in
    (depth, Element (element_name b (resolved b e.name own)))
    ∷ at_depth (suc depth) (in_order (filter_map (attribute_in b) e.attributes))
    ++ flat_map (λ child. child own (suc depth)) e.children

abbrev pub contents_of : Bindings → Lit → Contents
contents_of b = fold-Lit Contents Contents lit_contents (element_contents b)

-- new nodes take the next numbers in document order
abbrev pub numbered_from : ℕ → List (ℕ × Content) → List Node
numbered_from next [] = []
numbered_from next (c ∷ cs) = record { number = next; depth = c.0; content = c.1 } ∷ numbered_from (suc next) cs
