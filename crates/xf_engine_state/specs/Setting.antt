-- A text that is set at a node (XForms 1.1, section 10.2): what it needs, and what follows in the model whose instance holds the node.
use Rattle.std.specs.Prelude.{ℕ, ◌≡◌, Bool, true, false, not, ◌||◌, List, [], ◌∷◌, ◌++◌, length, Option, Some, None, option_map, option_and_then, nat_lt, bytes_eq, get_or, slice_get, slice_set, Result, Ok, Err}
use Rattle.xf_def_syntax.specs.declared.form.Instance.{Instance}
use Rattle.xf_def_forest.specs.declared.fault.TreeFault.{TreeFault}
use Rattle.xf_def_forest.specs.Forest.{Forest}
use Rattle.xf_def_forest.specs.Limits.{limits, passed_by_text}
use Rattle.xf_def_forest.specs.Needs.{IsSettable}
use Rattle.xf_def_forest.specs.Order.{instance_of}
use Rattle.xf_def_forest.specs.Shape.{has_elements}
use Rattle.xf_def_forest.specs.StringValue.{string_value}
use Rattle.xf_def_forest.specs.Texts.{new_texts, with_text}
use Rattle.xf_def_forest.specs.Visit.{Visit, children_of, top_of, visits}
use Rattle.xf_def_machine.specs.declared.limit.LimitWord.{LimitWord}
use Rattle.xf_def_machine.specs.Refusal.{words_of}
use Rattle.xf_def_machine.specs.declared.refusal.Refusal.TheVariants.{Binding, Limit}
use Rattle.xf_tree_paths.specs.Holding.{IsPath}
use Rattle.xf_undo.specs.Draft.{Draft, changed}
use Rattle.xf_binds.specs.Kept.{Kept}
use Rattle.xf_binds.specs.Table.{kept_at, with_kept}
use Rattle.xf_engine_state.specs.declared.fault.WorkFault.{WorkFault}
use Rattle.xf_engine_state.specs.declared.fault.WorkFault.TheVariants.{Refused, Memory}
use Rattle.xf_engine_state.specs.declared.flags.Flags.{Flags}
use Rattle.xf_engine_state.specs.Flags.{none_due, with_texts}

-- it has another text, or had several
abbrev pub is_other : List Visit → ℕ → List ℕ → Bool
is_other all n text = not (bytes_eq (string_value n all) text) || nat_lt 1 (length (children_of n all))

-- the model whose instance holds a node
abbrev pub holder_of : List Instance → Forest → ℕ → Option ℕ
holder_of instances forest n =
    option_and_then (λ place. option_map (λ i. i.model) (slice_get instances place)) (instance_of (top_of n (visits forest.nodes)) forest.nodes)

-- where the text is another one the node is marked
abbrev pub mark_if : Bool → ℕ → Kept → Kept
mark_if true n k = record k { texts = k.texts ++ n ∷ [] }
mark_if false n k = k

abbrev pub marked : Option ℕ → Bool → ℕ → List Kept → List Kept
marked None other n table = table
marked (Some model) other n table = with_kept table model (mark_if other n (kept_at table model))

-- all but the rebuild are due of it
abbrev pub due : Option ℕ → List Flags → List Flags
due None flags = flags
due (Some model) flags = slice_set flags model (with_texts (get_or flags model none_due))

pub record AreMarked (holder : Option ℕ) (other : Bool) (n : ℕ) (table after : List Kept) (flags others : List Flags) : Type 0 where
  pub marks : after ≡ marked holder other n table
  pub dues : others ≡ due holder flags

-- ---- what is refused: only want of memory is free

-- with the path of the node
abbrev pub IsBound : List Instance → Forest → ℕ → WorkFault → Type 0
IsBound instances forest n (Refused (Binding path)) = IsPath instances forest n path
IsBound instances forest n (Refused other) = ⊥
IsBound instances forest n Memory = Unit {0}

-- an element or attribute without elements in it may be set; where they are it is told
abbrev pub MayBeSet : {X : Type 0} → List Instance → Forest → ℕ → Result X WorkFault → Type 0
MayBeSet instances forest n (Ok x) = IsSettable n forest
MayBeSet instances forest n (Err (Refused refusal)) = (has_elements (visits forest.nodes) n ≡ true) × IsBound instances forest n (Refused refusal)
MayBeSet instances forest n (Err Memory) = Unit {0}

-- the limit that is passed is told
abbrev pub SaysLimit : WorkFault → Option TreeFault → Type 0
SaysLimit (Refused refusal) None = ⊥
SaysLimit (Refused refusal) (Some fault) = (word : LimitWord) × (refusal ≡ Limit word) × (words_of fault ≡ word ∷ [])
SaysLimit Memory given = Unit {0}

-- the text stands and so many nodes were made, or a limit is passed
abbrev pub IsSet : Result ℕ WorkFault → ℕ → List ℕ → Draft → Draft → Type 0
IsSet (Ok made) n text before after =
    (after ≡ changed before (with_text n text before.now)) × (made ≡ length (new_texts n text before.now)) × (passed_by_text limits (length text) (with_text n text before.now).nodes ≡ None)
IsSet (Err fault) n text before after = SaysLimit fault (passed_by_text limits (length text) (with_text n text before.now).nodes)
