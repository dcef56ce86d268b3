-- What is told of a form at work beside its replies: what an event comes to without a store, and a text of its data.
use Rattle.std.specs.Prelude.{ℕ, ◌≡◌, List, [], ◌∷◌, Option, Some, None, option_and_then, Result, Ok, Err}
use Rattle.xf_def_forest.specs.StringValue.{string_value}
use Rattle.xf_def_forest.specs.Visit.{children_of}
use Rattle.xf_def_machine.specs.declared.refusal.Refusal.{Refusal}
use Rattle.xf_def_machine.specs.State.{State}
use Rattle.xf_def_machine.specs.Step.{Posted, Outcome, accepted, refused}
use Rattle.xf_def_machine.specs.Surround.{all_in, document_at}
use Rattle.xf_def_machine.specs.Told.{Tells}
use Rattle.xf_actions.specs.declared.fault.EventFault.{EventFault}
use Rattle.xf_actions.specs.declared.fault.EventFault.TheVariants.{Refused, Memory}

-- it is refused for this reason
abbrev pub IsRefusedFor : Refusal → Outcome → Type 0
IsRefusedFor refusal (accepted after posted) = ⊥
IsRefusedFor refusal (refused why calls) = Tells refusal why

-- an event: so many evaluations count; after a refusal the state is as it was. Only want of memory is free
abbrev pub PostsAlone : State → Result ℕ EventFault → State → Outcome → Type 0
PostsAlone before (Ok count) after given = (posted : Posted) × (given ≡ accepted after posted) × (posted.evaluated ≡ count)
PostsAlone before (Err (Refused refusal)) after given = IsRefusedFor refusal given × (after ≡ before)
PostsAlone before (Err Memory) after given = after ≡ before

-- ---- a text of the data

abbrev pub last_in : List ℕ → Option ℕ
last_in [] = None
last_in (n ∷ []) = Some n
last_in (n ∷ m ∷ ns) = last_in (m ∷ ns)

-- the last child of the document element of the first instance
abbrev pub last_node : State → Option ℕ
last_node s = option_and_then (λ n. last_in (children_of n (all_in s))) (document_at s 0)

abbrev pub text_at : State → Option ℕ → List ℕ
text_at s None = []
text_at s (Some n) = string_value n (all_in s)

-- its string value, and the empty text where there is none
abbrev pub last_text : State → List ℕ
last_text s = text_at s (last_node s)
