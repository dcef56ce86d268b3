-- Trees that come and go in the data (XForms 1.1, sections 10.3 and 10.4): what a change of a list of nodes means for the model that holds it, and
-- what each change of a draft does and why it is refused.
use Rattle.std.specs.Prelude.{ℕ, ◌≡◌, ◌⊎◌, ◌<◌, ◌^◌, ◌+◌, true, false, List, [], ◌∷◌, ◌++◌, length, Option, Some, None, nat_lt, slice_set, Result, Ok, Err}
use Rattle.xf_base.specs.Limits.{made_limit}
use Rattle.xf_name.specs.Bindings.{Bindings}
use Rattle.xf_name.specs.declared.lit.Lit.{Lit}
use Rattle.xf_name.specs.declared.lit.Lit.TheVariants as lit
use Rattle.xf_name.specs.declared.lit.LitElement.{LitElement}
use Rattle.xf_def_syntax.specs.declared.form.Instance.{Instance}
use Rattle.xf_def_forest.specs.declared.content.Kind.TheVariants.{Element, Attribute}
use Rattle.xf_def_forest.specs.declared.fault.TreeFault.{TreeFault}
use Rattle.xf_def_forest.specs.declared.node.NodeId.{NodeId}
use Rattle.xf_def_forest.specs.Changes.{attached}
use Rattle.xf_def_forest.specs.Forest.{Forest, kind_at}
use Rattle.xf_def_forest.specs.Limits.{limits}
use Rattle.xf_def_forest.specs.Needs.{MayAttach, MayCopy, MayDetach}
use Rattle.xf_def_forest.specs.Planted.{lit_fault}
use Rattle.xf_def_forest.specs.Visit.{parent_of, visits}
use Rattle.xf_binds.specs.Kept.{Kept}
use Rattle.xf_binds.specs.Table.{kept_at, with_kept}
use Rattle.xf_def_machine.specs.Primitives.{grown}
use Rattle.xf_def_machine.specs.State.{State}
use Rattle.xf_def_form.specs.Formed.{profile}
use Rattle.xf_undo.specs.Draft.{Draft, changed}
use Rattle.xf_engine_state.specs.declared.fault.WorkFault.{WorkFault}
use Rattle.xf_engine_state.specs.declared.fault.WorkFault.TheVariants.{Refused, Memory}
use Rattle.xf_engine_state.specs.declared.flags.Flags.{Flags}
use Rattle.xf_engine_state.specs.declared.knowing.Knowledge.{Knowledge}
use Rattle.xf_engine_state.specs.declared.tally.Tally.{Tally}
use Rattle.xf_engine_state.specs.Does.{IsRefused}
use Rattle.xf_engine_state.specs.Grown.{with_more}
use Rattle.xf_engine_state.specs.Setting.{SaysLimit, holder_of}

-- ---- the model whose list of nodes is another one

abbrev pub all_due : Flags
all_due = record { rebuild = true; recalculate = true; revalidate = true; refresh = true }

abbrev pub with_list : ℕ → Kept → Kept
with_list n k = record k { lists = k.lists ++ n ∷ [] }

-- the parent is marked
abbrev pub listed : Option ℕ → ℕ → List Kept → List Kept
listed None n table = table
listed (Some model) n table = with_kept table model (with_list n (kept_at table model))

-- all four behaviours are due of it
abbrev pub all_due_of : Option ℕ → List Flags → List Flags
all_due_of None flags = flags
all_due_of (Some model) flags = slice_set flags model all_due

-- there is such a model
abbrev pub IsWithin : Option ℕ → List Flags → Type 0
IsWithin None flags = Unit {0}
IsWithin (Some model) flags = model < length flags

pub record AreListed (holder : Option ℕ) (n : ℕ) (table after : List Kept) (flags others : List Flags) : Type 0 where
  pub within : IsWithin holder flags
  pub marks : after ≡ listed holder n table
  pub dues : others ≡ all_due_of holder flags

-- ---- what is known no more

abbrev pub nothing_known : Knowledge
nothing_known = record { known = None; is_steady = false; is_planted = false; is_alone = false }

-- ---- what may move

-- an element or an attribute
abbrev pub IsMovable : ℕ → Forest → Type 0
IsMovable n forest = (kind_at n forest.nodes ≡ Some Element) ⊎ (kind_at n forest.nodes ≡ Some Attribute)

-- a copy may be made of it
pub record IsCopyable (n : ℕ) (forest : Forest) : Type 0 where
  pub may : MayCopy n forest
  pub movable : IsMovable n forest

-- it may come below the parent, which this model holds
pub record MayCome (instances : List Instance) (n parent place : ℕ) (forest : Forest) (holder : Option ℕ) : Type 0 where
  pub may : MayAttach n parent place forest
  pub held : holder ≡ holder_of instances forest parent

-- it may be cut off its parent, which this model holds
pub record MayGo (instances : List Instance) (n : ℕ) (forest : Forest) (parent : ℕ) (holder : Option ℕ) : Type 0 where
  pub may : MayDetach n forest
  pub below : parent_of n (visits forest.nodes) ≡ Some parent
  pub held : holder ≡ holder_of instances forest parent

-- ---- a tree that comes as a detached one

abbrev pub fault_in : {X : Type 0} → Result X TreeFault → Option TreeFault
fault_in (Ok x) = None
fault_in (Err fault) = Some fault

-- the machine refuses it so, whatever else stands
abbrev pub IsRefusedBy : ℕ → Tally → Result (ℕ × Forest) TreeFault → WorkFault → Type 0
IsRefusedBy count t given (Refused refusal) = (s : State) → s.made ≡ t.made → s.calls ≡ [] → IsRefused refusal (grown profile count given s)
IsRefusedBy count t given Memory = Unit {0}

-- it came with this top, and so many nodes were counted; or a limit is passed
abbrev pub IsGrownBy : Result NodeId WorkFault → ℕ → Result (ℕ × Forest) TreeFault → Draft → Tally → Tally → Type 0
IsGrownBy (Ok top) count given after t u = (given ≡ Ok (top.number, after.now)) × (u ≡ with_more count 0 t) × (nat_lt made_limit (t.made + count) ≡ false)
IsGrownBy (Err fault) count given after t u = IsRefusedBy count t given fault

-- the draft as it was, or with the tree, where numbers are left for it
abbrev pub IsBetween : Draft → Draft → Result (ℕ × Forest) TreeFault → Type 0
IsBetween before after (Ok p) = (after ≡ before) ⊎ ((after ≡ changed before p.1) × (before.now.next < 2 ^ 126))
IsBetween before after (Err fault) = after ≡ before

-- a literal tree may come: it is that of an element, and its names have no fault
pub record IsPlantable (b : Bindings) (tree : Lit) : Type 0 where
  pub element : LitElement
  pub is_element : tree ≡ lit.Element element
  pub named : lit_fault b tree ≡ None

-- ---- a tree that comes below a parent

abbrev pub IsPlaced : {X : Type 0} → Result X WorkFault → ℕ → ℕ → ℕ → Draft → Draft → Type 0
IsPlaced (Ok x) n parent place before after = (after ≡ changed before after.now) × (attached limits n parent place before.now ≡ Ok after.now)
IsPlaced (Err fault) n parent place before after = SaysLimit fault (fault_in (attached limits n parent place before.now))
