-- The places of the children of a node among those of their kind, as a path has them.
use Rattle.std.specs.List.{All}
use Rattle.std.specs.Prelude.{IfSome, ℕ, suc, String, ◌≡◌, Bool, false, ◌&&◌, List, [], ◌∷◌, ◌++◌, length, codes, find, filter, count_by, unwrap_or, Option, Some, None, ◌==◌}
use Rattle.std.specs.HashMap.{HashMap, get_by_text}
use Rattle.std.specs.Str.{bytes_eq}
use Rattle.xf_def_forest.specs.declared.content.Node.{Node}
use Rattle.xf_def_forest.specs.declared.content.Content.{Content}
use Rattle.xf_def_forest.specs.declared.content.Content.TheVariants.{Root, Element, Attribute, Text}
use Rattle.xf_def_forest.specs.Forest.{is_element, is_text, name_in, written, written_in, content_at}
use Rattle.xf_def_forest.specs.Visit.{Visit, visits, parent_of}
use Rattle.xf_def_forest.specs.Axis.{before}
use Rattle.xf_def_forest.specs.Path.{is_namesake, is_text_beside, bracketed, index_if}
use Rattle.xf_tree_paths.specs.declared.family.Family.{Family}
use Rattle.xf_tree_paths.specs.declared.family.Kid.{Kid}
use Rattle.xf_tree_paths.specs.declared.family.Sort.{Sort}
use Rattle.xf_tree_paths.specs.declared.family.Sort.TheVariants as sort

abbrev pub index_text : Option ℕ → List ℕ
index_text None = []
index_text (Some k) = bracketed k

-- ---- what a path has in brackets for a node

abbrev pub index_by : Content → List Visit → Visit → List ℕ
index_by Root all x = []
index_by (Element name) all x = index_if (filter (is_namesake (written name) x) all) (filter (is_namesake (written name) x) (before x.number all))
index_by (Attribute name text) all x = []
index_by (Text text) all x = bracketed (suc (length (filter (is_text_beside x) (before x.number all))))

abbrev pub index_in : List Visit → Option Visit → List ℕ
index_in all None = []
index_in all (Some x) = index_by x.content all x

abbrev pub index_of : List Visit → ℕ → List ℕ
index_of all n = index_in all (find (λ x. x.number == n) all)

-- what a path has for a node that is this, with what it has in brackets
abbrev pub step_with : Content → List ℕ → List ℕ
step_with Root index = []
step_with (Element name) index = 47 ∷ written name ++ index
step_with (Attribute name text) index = 47 ∷ 64 ∷ written name
step_with (Text text) index = codes "/text()" ++ index

-- ---- children, counted

abbrev pub meets : (Content → Bool) → Option Content → Bool
meets test None = false
meets test (Some content) = test content

-- how many of these nodes have a content that meets the test
abbrev pub count_in : (Content → Bool) → List Node → List ℕ → ℕ
count_in test nodes ns = count_by (λ n. meets test (content_at n nodes)) ns

abbrev pub is_named : List ℕ → Content → Bool
is_named name content = is_element content && bytes_eq name (written_in (name_in content))

-- what a content is, as far as it is counted
abbrev pub IsSort : Option Content → Sort → Type 0
IsSort content (sort.Element name) = content ≡ Some (Element name.now)
IsSort content (sort.Text text) = content ≡ Some (Text text.now)
IsSort content sort.Other = (meets is_element content ≡ false) × (meets is_text content ≡ false)

-- how often a name was counted
abbrev pub tallied : {Y S : Type 0} → HashMap (String Y) ℕ S → List ℕ → ℕ
tallied tally name = unwrap_or (get_by_text tally name) 0

-- a child of a node, with what it is and the index that its path has
pub record IsKid (nodes : List Node) (parent : ℕ) (kid : Kid) : Type 0 where
  pub sort : IsSort (content_at kid.number nodes) kid.sort
  pub index : index_text kid.index ≡ index_of (visits nodes) kid.number
  pub below : parent_of kid.number (visits nodes) ≡ Some parent

-- children of a node
pub record HasKids (nodes : List Node) (parent : ℕ) (family : Family) : Type 0 where
  pub next : IfSome family.next (IsKid nodes parent)
  pub later : All (IsKid nodes parent) family.later.items
