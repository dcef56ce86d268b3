-- The data of a form's instances as it was read, and its limits: its elements, attributes and texts are nodes, declarations of namespaces
-- are none, and what stands beside the document element is passed over (XPath 1.0, section 5).
use Rattle.std.specs.Prelude.{ℕ, ◌+◌, Bool, true, false, not, ◌&&◌, ◌||◌, nat_lt, List, [], ◌∷◌, length, codes, count_by, sum_by, slice_get, option_and_then, Option, Some, None, if◌then◌else◌}
use Rattle.std.specs.List.{list_any}
use Rattle.xf_base.specs.Limits.{node_limit, text_limit}
use Rattle.xf_def_syntax.specs.declared.form.Instance.{Instance}
use Rattle.xf_name.specs.Part.{Kind, no_declaration, of_default, of_prefix, kind_of}
use Rattle.xf_name.specs.declared.lit.Lit.{Lit, fold-Lit}
use Rattle.xf_name.specs.declared.lit.Lit.TheOpen.{Lit-F, LitElement-F}
use Rattle.xf_name.specs.declared.lit.Lit.TheViews.{out-Lit}
use Rattle.xf_name.specs.declared.lit.LitElement.{LitElement, fold-LitElement}
use Rattle.xf_name.specs.declared.lit.Pair.{Pair}

-- ---- the trees of instances

abbrev pub children_by : Lit-F Lit LitElement → List Lit
children_by (Lit-F.Text text) = []
children_by (Lit-F.Element e) = e.children

abbrev pub children_in : Lit → List Lit
children_in lit = children_by (out-Lit lit)

-- what stands at places in a tree, each within the one before
abbrev pub lit_at : List ℕ → Lit → Option Lit
lit_at [] lit = Some lit
lit_at (place ∷ places) lit = option_and_then (lit_at places) (slice_get (children_in lit) place)

-- ---- how large they are

-- how many nodes a tree has, and whether one of its texts or attributes is too long
pub record Extent : Type 0 where
  pub nodes : ℕ
  pub is_long : Bool

abbrev pub is_long_text : List ℕ → Bool
is_long_text text = nat_lt text_limit (length text)

abbrev pub declares : Kind → Bool
declares no_declaration = false
declares of_default = true
declares (of_prefix name) = true

abbrev pub is_node : Pair → Bool
is_node p = not (declares (kind_of p.name))

abbrev pub is_long_attribute : Pair → Bool
is_long_attribute p = is_node p && is_long_text p.text

abbrev pub lit_extent : Lit-F Extent Extent → Extent
lit_extent (Lit-F.Text text) = record { nodes = 1; is_long = is_long_text text }
lit_extent (Lit-F.Element e) = e

abbrev pub element_extent : LitElement-F Extent Extent → Extent
element_extent e = record {
  nodes = 1 + count_by is_node e.attributes + sum_by (λ c. c.nodes) e.children;
  is_long = list_any is_long_attribute e.attributes || list_any (λ c. c.is_long) e.children;
}

abbrev pub extent_of : Lit → Extent
extent_of = fold-Lit Extent Extent lit_extent element_extent

abbrev pub extent_of_element : LitElement → Extent
extent_of_element = fold-LitElement Extent Extent lit_extent element_extent

-- ---- all instances

abbrev pub extent_at : Option Lit → Extent
extent_at None = record { nodes = 0; is_long = false }
extent_at (Some lit) = extent_of lit

abbrev pub extent_in : Lit → Instance → Extent
extent_in form instance = extent_at (lit_at instance.place form)

-- the word of the first limit that the data passes
abbrev pub data_limit : Lit → List Instance → Option (List ℕ)
data_limit form instances =
    if nat_lt node_limit (sum_by (λ i. (extent_in form i).nodes) instances) then Some (codes "nodes")
    else (if list_any (λ i. (extent_in form i).is_long) instances then Some (codes "text") else None)
