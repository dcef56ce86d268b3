-- The printed path of a node names one node of an instance.
use Rattle.std.specs.Prelude.{ℕ, ◌≡◌, ◌<◌, ◌^◌, Bool, true, not, ◌&&◌, ◌||◌, ◌==◌, ◌⊎◌, List, [], length, Some}
use Rattle.std.specs.List.{list_any, list_all}
use Rattle.std.specs.Str.{IsUtf8}
use Rattle.xf_name.specs.Part.{is_part}
use Rattle.xf_def_forest.specs.declared.content.Name.{Name}
use Rattle.xf_def_forest.specs.declared.content.Content.{Content}
use Rattle.xf_def_forest.specs.declared.content.Content.TheVariants.{Root, Element, Attribute}
use Rattle.xf_def_forest.specs.Forest.{Forest, is_attribute, name_in, written, written_in, content_at, has_number}
use Rattle.xf_def_forest.specs.Visit.{Visit, visits, same_parent, top_of}
use Rattle.xf_def_forest.specs.Path.{path_of}
use Rattle.xf_def_forest.specs.WellFormed.{HasTrees}
use Rattle.xf_def_xpath.specs.Asked.{found}

-- the bytes that a path has beside names: an opening parenthesis, `/`, `@`, an opening bracket
abbrev pub is_path_byte : ℕ → Bool
is_path_byte c = (c == 40) || (c == 47) || (c == 64) || (c == 91)

abbrev pub is_free : List ℕ → Bool
is_free name = not (list_any is_path_byte name)

-- a written name has none of them, and that of an element has a byte: so it is with names (Namespaces in XML 1.0, section 3)
abbrev pub is_named : Content → Bool
is_named (Element name) = not (length (written name) == 0) && is_free (written name)
is_named (Attribute name text) = is_free (written name)
is_named content = true

-- the forests of which the law speaks
pub record ArePathed (forest : Forest) : Type 0 where
  pub trees : HasTrees forest
  pub few : length forest.nodes < 2 ^ 64
  pub named : list_all (λ x. is_named x.content) forest.nodes ≡ true
  -- no element has two attributes of one written name
  pub attributes : (m n : ℕ) (x y : Visit) → found m (visits forest.nodes) ≡ Some x → found n (visits forest.nodes) ≡ Some y → is_attribute x.content ≡ true → is_attribute y.content ≡ true →
      same_parent x.above y.above ≡ true → written_in (name_in x.content) ≡ written_in (name_in y.content) → m ≡ n

abbrev pub PathNamesOne : Type 0
PathNamesOne = (forest : Forest) (root m n : ℕ) → ArePathed forest → content_at root forest.nodes ≡ Some Root → has_number m forest.nodes ≡ true → has_number n forest.nodes ≡ true →
    top_of m (visits forest.nodes) ≡ root → top_of n (visits forest.nodes) ≡ root → path_of m (visits forest.nodes) ≡ path_of n (visits forest.nodes) → m ≡ n

-- names that consist of parts (Namespaces in XML 1.0, section 3) are such names
abbrev pub NamesFree : Type 0
NamesFree = (name : Name) (text : List ℕ) → IsUtf8 name.prefix → IsUtf8 name.meaning.local → is_part name.meaning.local ≡ true → (name.prefix ≡ []) ⊎ (is_part name.prefix ≡ true) →
    (is_named (Element name) ≡ true) × (is_named (Attribute name text) ≡ true)
