-- What is written of a form that construction or its start refuses, and of the notes of a start.
use Rattle.std.specs.Prelude.{ℕ, List, [], ◌∷◌, ◌++◌, map, codes, Result, Ok, Err}
use Rattle.std.specs.List.{flat_map}
use Rattle.xf_def_machine.specs.State.{State}
use Rattle.xf_def_machine.specs.Refusal.{Refusal, Refused}
use Rattle.xf_def_machine.specs.Refusal as refusal
use Rattle.xf_def_machine.specs.Step.{Outcome, accepted, refused}
use Rattle.xf_def_machine.specs.StateText.{spaced, line_of}
use Rattle.xf_def_machine.specs.Replies.{limit_text, note_lines}

-- construction is refused by binds, by a cycle, or by a limit: each line that may be written for it
abbrev pub form_texts : Refusal → List (List ℕ)
form_texts (refusal.twice path) = (codes "form F14 PropertyTwice" ++ spaced path) ∷ []
form_texts (refusal.circular paths) = (codes "form F15 Circular" ++ flat_map spaced paths) ∷ []
form_texts (refusal.on_parent path) = (codes "form F16 CalculateOnParent" ++ spaced path) ∷ []
form_texts (refusal.limit words) = map (λ w. codes "form F17 Limit " ++ limit_text w) words
form_texts why = []

-- the start is refused as an event is: the number and the name alone
abbrev pub event_refusal : Refusal → List ℕ
event_refusal refusal.no_target = codes "E4 NoSuchTarget"
event_refusal refusal.disabled = codes "E5 Disabled"
event_refusal refusal.readonly = codes "E6 ReadOnly"
event_refusal refusal.not_an_item = codes "E7 NotAnItem"
event_refusal refusal.bad_index = codes "E8 BadIndex"
event_refusal (refusal.twice path) = codes "E9 Binding"
event_refusal (refusal.on_parent path) = codes "E9 Binding"
event_refusal (refusal.binding path) = codes "E9 Binding"
event_refusal (refusal.circular paths) = codes "E10 Circular"
event_refusal (refusal.limit words) = codes "E11 Limit"
event_refusal refusal.budget = codes "E12 Budget"
event_refusal refusal.depth = codes "E13 Depth"
event_refusal refusal.sends = codes "E14 Sends"

-- what is told of a start that is refused
abbrev pub ready_text : Refusal → List ℕ
ready_text why = codes "form F18 Ready " ++ event_refusal why

-- of a construction: none where it is accepted
abbrev pub construct_texts : Result State Refused → List (List ℕ)
construct_texts (Ok s) = []
construct_texts (Err r) = map line_of (form_texts r.why)

-- of a start whose construction is accepted: the notes, or the refusal
abbrev pub start_text : Outcome → List ℕ
start_text (accepted s posted) = note_lines posted.notes
start_text (refused why calls) = line_of (ready_text why)
