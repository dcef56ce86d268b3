-- What changes elsewhere leave the part of a model as it is: a text of a node that is not in it, a tree that comes or goes outside of it.
use Rattle.std.specs.Prelude.{ℕ, ◌≡◌, Bool, false, ◌==◌, List, ◌++◌, length, Some, Ok, slice_get}
use Rattle.std.specs.List.{list_any}
use Rattle.xf_def_syntax.specs.declared.form.Instance.{Instance}
use Rattle.xf_name.specs.Bindings.{Bindings}
use Rattle.xf_name.specs.declared.lit.Lit.{Lit}
use Rattle.xf_def_forest.specs.declared.bare.Bare.{Bare}
use Rattle.xf_def_forest.specs.declared.content.Content.{Content}
use Rattle.xf_def_forest.specs.Forest.{Forest, has_number}
use Rattle.xf_def_forest.specs.Limits.{Limits}
use Rattle.xf_def_forest.specs.Needs.{MayRoot, MayCopy, MayDetach, MayAttach, MayPlace}
use Rattle.xf_def_forest.specs.Planted.{planted, planted_bare}
use Rattle.xf_def_forest.specs.Plant.{numbered_from}
use Rattle.xf_def_forest.specs.Changes.{in_instances, with_root, copied, detached, attached, placed}
use Rattle.xf_def_forest.specs.Texts.{Before, Keeping, text_set}
use Rattle.xf_def_forest.specs.Settle.{reserved, with_numbered_text}
use Rattle.xf_def_forest.specs.WellFormed.{HasTrees, AreTrees}
use Rattle.xf_def_forest.specs.Undo.{Ledger, rolled_back}
use Rattle.xf_law_forests.specs.Rollback.Made.{Made, IsGrowth}
use Rattle.xf_law_forests.specs.Settle.Written.{Contents, written}
use Rattle.xf_law_forests.specs.Root.Roots.{AreAhead, HasRoots, roots_in}
use Rattle.xf_law_recalculation.specs.Elsewhere.Parts.{IsPart}

-- the node is not in the part
abbrev pub IsElsewhere : ℕ → Forest → Type 0
IsElsewhere n part = has_number n part.nodes ≡ false

-- ---- texts

-- a text that is set elsewhere, whatever number it has
abbrev pub PartStaysNumbered : Type 0
PartStaysNumbered = (instances : List Instance) (model number n next : ℕ) (text : List ℕ) (part forest : Forest) → IsPart instances model part forest → HasTrees forest → IsElsewhere n part →
    IsPart instances model part (record { nodes = with_numbered_text number n text forest.nodes; next = next })

abbrev pub PartStaysText : Type 0
PartStaysText = (instances : List Instance) (model : ℕ) (l : Limits) (n : ℕ) (text : List ℕ) (part : Forest) (before : Before) (k after : Keeping) →
    IsPart instances model part k.forest → HasTrees k.forest → IsElsewhere n part → text_set l n text k ≡ Ok (before, after) → IsPart instances model part after.forest

-- contents elsewhere that are written, all of them or some, as a recalculation of another model writes them
abbrev pub PartStaysWritten : Type 0
PartStaysWritten = (instances : List Instance) (model number next : ℕ) (done : ℕ → Bool) (contents : Contents) (part forest : Forest) → IsPart instances model part forest → HasTrees forest →
    list_any (λ p. has_number p.0 part.nodes) contents ≡ false → IsPart instances model part (record { nodes = written done number contents forest.nodes; next = next })

-- numbers that are reserved
abbrev pub PartStaysReserved : Type 0
PartStaysReserved = (instances : List Instance) (model count : ℕ) (part forest : Forest) → IsPart instances model part forest → IsPart instances model part (reserved count forest)

-- ---- trees

-- new trees behind all others
abbrev pub PartStaysGrown : Type 0
PartStaysGrown = (instances : List Instance) (model next : ℕ) (contents : List (ℕ × Content)) (part forest : Forest) → IsPart instances model part forest → HasTrees forest → IsGrowth contents →
    IsPart instances model part (record { nodes = forest.nodes ++ numbered_from forest.next contents; next = next })

-- a copy, be it of a tree of the part
abbrev pub PartStaysCopied : Type 0
PartStaysCopied = (instances : List Instance) (model : ℕ) (l : Limits) (n m : ℕ) (part forest after : Forest) → IsPart instances model part forest → HasTrees forest → MayCopy n forest →
    copied l n forest ≡ Ok (m, after) → IsPart instances model part after

-- a tree that is planted
abbrev pub PartStaysPlanted : Type 0
PartStaysPlanted = (instances : List Instance) (model : ℕ) (l : Limits) (b : Bindings) (space : ℕ) (lit : Lit) (m : ℕ) (part forest after : Forest) → IsPart instances model part forest → HasTrees forest →
    planted l b space lit forest ≡ Ok (m, after) → IsPart instances model part after

abbrev pub PartStaysPlantedBare : Type 0
PartStaysPlantedBare = (instances : List Instance) (model : ℕ) (l : Limits) (b : Bindings) (tree : Bare) (m : ℕ) (part forest after : Forest) → IsPart instances model part forest → HasTrees forest →
    planted_bare l b tree forest ≡ Ok (m, after) → IsPart instances model part after

-- a tree that is detached elsewhere
abbrev pub PartStaysDetached : Type 0
PartStaysDetached = (instances : List Instance) (model n : ℕ) (part forest : Forest) → IsPart instances model part forest → HasTrees forest → MayDetach n forest → IsElsewhere n part →
    IsPart instances model part (detached n forest)

-- a detached tree that comes below a node elsewhere
abbrev pub PartStaysPlaced : Type 0
PartStaysPlaced = (instances : List Instance) (model n parent place : ℕ) (part forest : Forest) → IsPart instances model part forest → HasTrees forest → MayPlace n parent forest → IsElsewhere parent part →
    IsPart instances model part (placed n parent place forest)

abbrev pub PartStaysAttached : Type 0
PartStaysAttached = (instances : List Instance) (model : ℕ) (l : Limits) (n parent place : ℕ) (part forest after : Forest) → IsPart instances model part forest → HasTrees forest →
    MayAttach n parent place forest → IsElsewhere parent part → attached l n parent place forest ≡ Ok after → IsPart instances model part after

-- detached trees that are dropped
abbrev pub PartStaysDropped : Type 0
PartStaysDropped = (instances : List Instance) (model next : ℕ) (part forest : Forest) → IsPart instances model part forest → HasTrees forest → AreAhead forest.nodes →
    IsPart instances model part (record { nodes = in_instances forest.nodes; next = next })

-- a new root, which is that of no instance of the model
abbrev pub PartStaysRooted : Type 0
PartStaysRooted = (instances : List Instance) (model top : ℕ) (part forest : Forest) → IsPart instances model part forest → HasTrees forest → MayRoot top forest → HasRoots forest.nodes →
    ((i : Instance) → slice_get instances (length (roots_in forest.nodes)) ≡ Some i → (i.model == model) ≡ false) → IsPart instances model part (with_root top forest).1

-- ---- all that was made since a forest was kept is undone

abbrev pub PartRolledBack : Type 0
PartRolledBack = (instances : List Instance) (model : ℕ) (part : Forest) (start k : Keeping) (l : Ledger) → Made start l k → AreTrees k → IsPart instances model part start.forest →
    IsPart instances model part (rolled_back l k).forest
