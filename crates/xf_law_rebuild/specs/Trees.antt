-- What each change of trees leaves built (XForms 1.1, sections 10.3, 10.4 and 4.3.7): all models where a tree comes as a detached one, all but the one
-- that holds the parent where a tree comes below it or is cut off.
use Rattle.std.specs.Prelude.{ℕ, ◌≡◌, ◌<◌, ◌^◌, true, false, List, Some, Ok}
use Rattle.xf_def_syntax.specs.declared.form.Instance.{Instance}
use Rattle.xf_def_syntax.specs.declared.form.Tables.{Tables}
use Rattle.xf_name.specs.Bindings.{Bindings}
use Rattle.xf_def_forest.specs.declared.bare.Bare.TheVariants as bare
use Rattle.xf_def_forest.specs.declared.bare.BareElement.{BareElement}
use Rattle.xf_def_forest.specs.declared.content.Content.{Content}
use Rattle.xf_def_forest.specs.Changes.{attached, contents_in, copied, detached, in_instances}
use Rattle.xf_def_forest.specs.Forest.{Forest, tree_of}
use Rattle.xf_def_forest.specs.Limits.{Limits, limits}
use Rattle.xf_def_forest.specs.Needs.{MayAttach, MayDetach}
use Rattle.xf_def_forest.specs.Plant.{numbered_from}
use Rattle.xf_def_forest.specs.Planted.{contents_of_bare, planted_bare, with_tree}
use Rattle.xf_def_forest.specs.Visit.{parent_of, visits}
use Rattle.xf_def_forest.specs.WellFormed.{HasTrees}
use Rattle.xf_def_values.specs.Functions.{Functions}
use Rattle.xf_def_xpath.specs.Given.{Given}
use Rattle.xf_law_recalculation.specs.Agree.Hung.{are_hung}
use Rattle.xf_law_forests.specs.Rollback.Made.{IsGrowth}
use Rattle.xf_law_forests.specs.Root.Roots.{AreAhead, IsNoRoot}
use Rattle.xf_law_recalculation.specs.Held.Held.{holder, is_held}
use Rattle.xf_law_rebuild.specs.Data.{IsData, Presents}
use Rattle.xf_law_rebuild.specs.Elsewhere.{BuiltStays}

-- ---- new trees

-- the contents of one tree without a root, with texts in elements
pub record IsGrown (contents : List (ℕ × Content)) : Type 0 where
  pub growth : IsGrowth contents
  pub hung : (next : ℕ) → are_hung (numbered_from next contents) ≡ true

-- those of an element with resolved names
abbrev pub GrownBare : Type 0
GrownBare = (b : Bindings) (e : BareElement) (space : ℕ) → IsGrown (contents_of_bare b (bare.Element e) space 0)

-- those of an element or attribute that stands
abbrev pub GrownAgain : Type 0
GrownAgain = (n : ℕ) (forest : Forest) → HasTrees forest → are_hung forest.nodes ≡ true → IsNoRoot n forest → IsGrown (contents_in (tree_of n forest.nodes))

-- the data after it, and what is built over them
pub record AfterChange (functions : Functions) (given : Forest → Given) (tables : Tables) (forest after : Forest) : Type 0 where
  pub now : IsData after
  pub built : (model : ℕ) → BuiltStays functions given tables model forest after

abbrev pub BuiltPlanted : Type 0
BuiltPlanted = (functions : Functions) (given : Forest → Given) (tables : Tables) (instances : List Instance) (contents : List (ℕ × Content)) (m : ℕ) (forest after : Forest) → Presents instances given →
    IsData forest → forest.next < 2 ^ 126 → HasTrees after → IsGrown contents → with_tree limits contents forest ≡ Ok (m, after) → AfterChange functions given tables forest after

abbrev pub BuiltPlantedBare : Type 0
BuiltPlantedBare = (functions : Functions) (given : Forest → Given) (tables : Tables) (instances : List Instance) (b : Bindings) (e : BareElement) (m : ℕ) (forest after : Forest) → Presents instances given →
    IsData forest → forest.next < 2 ^ 126 → HasTrees after → planted_bare limits b (bare.Element e) forest ≡ Ok (m, after) → AfterChange functions given tables forest after

abbrev pub BuiltCopied : Type 0
BuiltCopied = (functions : Functions) (given : Forest → Given) (tables : Tables) (instances : List Instance) (n m : ℕ) (forest after : Forest) → Presents instances given →
    IsData forest → forest.next < 2 ^ 126 → HasTrees after → IsNoRoot n forest → copied limits n forest ≡ Ok (m, after) → AfterChange functions given tables forest after

-- ---- a tree that is cut off, or comes below a parent

-- what is built of models that do not hold the parent
pub record AfterMove (functions : Functions) (given : Forest → Given) (tables : Tables) (instances : List Instance) (parent : ℕ) (forest after : Forest) : Type 0 where
  pub now : IsData after
  pub built : (model : ℕ) → is_held model (holder instances parent forest.nodes) ≡ false → BuiltStays functions given tables model forest after

abbrev pub BuiltDetached : Type 0
BuiltDetached = (functions : Functions) (given : Forest → Given) (tables : Tables) (instances : List Instance) (n parent : ℕ) (forest : Forest) → Presents instances given →
    IsData forest → HasTrees (detached n forest) → MayDetach n forest → parent_of n (visits forest.nodes) ≡ Some parent → AfterMove functions given tables instances parent forest (detached n forest)

abbrev pub BuiltAttached : Type 0
BuiltAttached = (functions : Functions) (given : Forest → Given) (tables : Tables) (instances : List Instance) (l : Limits) (n parent place : ℕ) (forest after : Forest) → Presents instances given →
    IsData forest → HasTrees after → MayAttach n parent place forest → attached l n parent place forest ≡ Ok after → AfterMove functions given tables instances parent forest after

-- what holds a node holds its parent
abbrev pub HeldWithParent : Type 0
HeldWithParent = (instances : List Instance) (n parent : ℕ) (forest : Forest) → HasTrees forest → parent_of n (visits forest.nodes) ≡ Some parent → holder instances n forest.nodes ≡ holder instances parent forest.nodes

-- ---- detached trees that are dropped

abbrev pub BuiltDropped : Type 0
BuiltDropped = (functions : Functions) (given : Forest → Given) (tables : Tables) (instances : List Instance) (forest : Forest) → Presents instances given →
    IsData forest → HasTrees (record forest { nodes = in_instances forest.nodes }) → AreAhead forest.nodes → AfterChange functions given tables forest (record forest { nodes = in_instances forest.nodes })
