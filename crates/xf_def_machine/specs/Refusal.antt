-- Why the machine refuses an event: the state is then as it was.
use Rattle.std.specs.Prelude.{ℕ, List, [], ◌∷◌, Bool, true, false, Option, Some, None, Result, Ok, Err}
use Rattle.xf_store.specs.declared.call.StoreCall.{StoreCall}
use Rattle.xf_def_forest.specs.declared.fault.TreeFault.{TreeFault}
use Rattle.xf_def_forest.specs.declared.fault.TreeFault.TheVariants as tree
use Rattle.xf_def_model.specs.Settled.{Passed}
use Rattle.xf_def_model.specs.Settled as settled
use Rattle.xf_def_ui.specs.Index.{Stop}
use Rattle.xf_def_ui.specs.Index as index
use Rattle.xf_def_machine.specs.declared.limit.LimitWord.{LimitWord}
use Rattle.xf_def_machine.specs.declared.limit.LimitWord.TheVariants.{Nodes, Text, All, Depth, Long, Passes}
use Rattle.xf_def_machine.specs.State.{State}

-- the reason
pub data Refusal : Type 0 where
  -- no element of that kind has the id, or the rows do not stand
  no_target : Refusal
  -- the control copy is not enabled
  disabled : Refusal
  -- its node is readonly
  readonly : Refusal
  -- its items do not allow the text
  not_an_item : Refusal
  -- the number is not one of the rows
  bad_index : Refusal
  -- binding exceptions (XForms 1.1, section 4.5.1), with the path of their node: a property is set on it that it has already, a calculate is
  -- set on it though it has element children, or its text is set though it has them
  twice : List ℕ → Refusal
  on_parent : List ℕ → Refusal
  binding : List ℕ → Refusal
  -- calculates in a cycle, with the paths of their nodes
  circular : List (List ℕ) → Refusal
  -- limits are passed: any one of these words may be told
  limit : List LimitWord → Refusal
  -- one turn more, a deeper dispatch, or one call of the store more is needed
  budget : Refusal
  depth : Refusal
  sends : Refusal

-- a refusal, with the calls of the store that were made before
pub record Refused : Type 0 where
  pub why : Refusal
  pub calls : List StoreCall

-- ---- the words of limits that the definitions below know under their own names

-- those of a tree that passes a limit
abbrev pub words_of : TreeFault → List LimitWord
words_of tree.Nodes = Nodes ∷ []
words_of tree.NodeText = Text ∷ []
words_of tree.AllText = All ∷ []
words_of tree.Depth = Depth ∷ []
words_of fault = []

-- that of settled data that pass one
abbrev pub word_of : Passed → LimitWord
word_of (settled.long n) = Long
word_of settled.text = Text
word_of settled.nodes = Nodes
word_of settled.all_texts = All

-- that of indexes that come to no end
abbrev pub word_of_stop : Stop → LimitWord
word_of_stop index.long = Long
word_of_stop index.passes = Passes

-- ---- what is refused

-- in a state, of which the calls of the store stay known
abbrev pub refused : {X : Type 0} → Refusal → State → Result X Refused
refused why s = Err (record { why = why; calls = s.calls })

-- a string that is too long
abbrev pub or_long : {X : Type 0} → State → Option X → Result X Refused
or_long s None = refused (limit (Long ∷ [])) s
or_long s (Some x) = Ok x

-- unless one of these is passed
abbrev pub unless_passed : {X : Type 0} → State → List LimitWord → X → Result X Refused
unless_passed s [] x = Ok x
unless_passed s (word ∷ words) x = refused (limit (word ∷ words)) s

-- the word, where its limit is passed
abbrev pub if_over : Bool → LimitWord → List LimitWord
if_over true word = word ∷ []
if_over false word = []
