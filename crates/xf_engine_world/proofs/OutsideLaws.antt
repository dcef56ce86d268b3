-- How an event begins and ends, the notes and the calls of the store being beside the state of what the engine works on.
use Rattle.std.proofs.Common.{suc, ◌≡◌, ◌+◌, List, [], ap, ◌∙◌, arith}
use Rattle.xf_store.specs.declared.call.StoreCall.{StoreCall}
use Rattle.xf_def_machine.specs.declared.note.Note.{Note}
use Rattle.xf_def_machine.specs.State.{State}
use Rattle.xf_def_machine.specs.Step.{at_end, fresh, one_more}
use Rattle.xf_def_form.specs.Formed.{profile}
use Rattle.xf_engine_state.specs.Standing.{Standing}
use Rattle.xf_engine_state.specs.Standing as work

-- with these notes, and these calls of the store
abbrev pub noting : List Note → List StoreCall → State → State
noting notes calls s = record s { notes = notes; calls = calls }

-- none of either is left
cleared : (notes : List Note) (calls : List StoreCall) (s : State) → notes ≡ [] → calls ≡ [] → noting notes calls s ≡ noting [] [] s
cleared notes calls s c d = ap (λ ns. noting ns calls s) c ∙ ap (λ cs. noting [] cs s) d

pub begins : (old new : Standing) (before after : List Note) (calls left : List StoreCall) → after ≡ [] → left ≡ [] → work.state_of new ≡ fresh profile (work.state_of old)
    → noting after left (work.state_of new) ≡ fresh profile (noting before calls (work.state_of old))
begins old new before after calls left c d h = cleared after left (work.state_of new) c d ∙ ap (noting [] []) h

pub ends : (old new : Standing) (before after : List Note) (calls left : List StoreCall) → after ≡ [] → left ≡ [] → work.state_of new ≡ at_end profile (work.state_of old)
    → noting after left (work.state_of new) ≡ at_end profile (noting before calls (work.state_of old))
ends old new before after calls left c d h = cleared after left (work.state_of new) c d ∙ ap (noting [] []) h

pub counts : (old new : Standing) (notes : List Note) (calls : List StoreCall) → new ≡ record old { accepted = old.accepted + 1 }
    → noting notes calls (work.state_of new) ≡ one_more (noting notes calls (work.state_of old))
counts old new notes calls h =
    let more : old.accepted + 1 ≡ suc old.accepted = omega arith in
    ap (λ (s : Standing). noting notes calls (work.state_of s)) h ∙ ap (λ n. noting notes calls (work.state_of (record old { accepted = n }))) more

pub plain : (s : Standing) (after : List Note) (left : List StoreCall) → after ≡ [] → left ≡ [] → noting after left (work.state_of s) ≡ work.state_of s
plain s after left c d = cleared after left (work.state_of s) c d

pub again : (s t : Standing) (after : List Note) (left : List StoreCall) → after ≡ [] → left ≡ [] → s ≡ t → noting after left (work.state_of s) ≡ work.state_of t
again s t after left c d h = plain s after left c d ∙ ap work.state_of h
