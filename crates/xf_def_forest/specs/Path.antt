-- Paths as they are printed: `/` before each name as it is written, `@` before an attribute's, and `[k]` after an element that has a
-- sibling of the same written name; a text is `text()[k]`. They are location paths (XPath 1.0, section 2.5) where prefixes are known.
use Rattle.std.specs.Prelude.{ℕ, suc, Bool, ◌&&◌, List, [], ◌∷◌, ◌++◌, length, find, filter, reverse, Option, Some, None, nat_lt, ◌==◌, codes, decimal, if◌then◌else◌}
use Rattle.std.specs.Str.{bytes_eq}
use Rattle.std.specs.List.{flat_map}
use Rattle.xf_def_forest.specs.declared.content.Content.{Content}
use Rattle.xf_def_forest.specs.declared.content.Content.TheVariants.{Root, Element, Attribute, Text}
use Rattle.xf_def_forest.specs.Forest.{is_element, is_text, name_in, written, written_in}
use Rattle.xf_def_forest.specs.Visit.{Visit, same_parent, ancestors_of}
use Rattle.xf_def_forest.specs.Axis.{before}

-- y is an element beside x, or x itself, with this written name
abbrev pub is_namesake : List ℕ → Visit → Visit → Bool
is_namesake name x y = same_parent x.above y.above && is_element y.content && bytes_eq name (written_in (name_in y.content))

abbrev pub is_text_beside : Visit → Visit → Bool
is_text_beside x y = same_parent x.above y.above && is_text y.content

abbrev pub bracketed : ℕ → List ℕ
bracketed k = 91 ∷ decimal k ++ 93 ∷ []

-- the place among those of its kind, from 1, where there are others
abbrev pub index_if : List Visit → List Visit → List ℕ
index_if of_kind earlier = if nat_lt 1 (length of_kind) then bracketed (suc (length earlier)) else []

abbrev pub step_by : Content → List Visit → Visit → List ℕ
step_by Root all x = []
step_by (Element name) all x =
    47 ∷ written name ++ index_if (filter (is_namesake (written name) x) all) (filter (is_namesake (written name) x) (before x.number all))
step_by (Attribute name text) all x = 47 ∷ 64 ∷ written name
step_by (Text text) all x = codes "/text()" ++ bracketed (suc (length (filter (is_text_beside x) (before x.number all))))

abbrev pub step_in : List Visit → Option Visit → List ℕ
step_in all None = []
step_in all (Some x) = step_by x.content all x

-- what the path has for one node
abbrev pub step_of : List Visit → ℕ → List ℕ
step_of all n = step_in all (find (λ x. x.number == n) all)

-- a root alone is `/`
abbrev pub or_slash : List ℕ → List ℕ
or_slash [] = 47 ∷ []
or_slash (c ∷ cs) = c ∷ cs

-- the path of a node, from the top of its tree
abbrev pub path_of : ℕ → List Visit → List ℕ
path_of n all = or_slash (flat_map (step_of all) (reverse (n ∷ ancestors_of n all)))
