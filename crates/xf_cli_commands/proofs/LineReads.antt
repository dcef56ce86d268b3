-- What a line asks for, and the reply to it, by its length, whether it is blank, and what is read of it.
use Rattle.std.proofs.Common.{ℕ, ◌≡◌, ◌≤◌, ◌<◌, ◌⊎◌, ◌∙◌, Bool, true, false, List, [], ◌∷◌, ◌++◌, length, nat_lt, codes, Option, Some, None, Result, Ok, Err, refl, ap, sym, subst, inl, inr, arith, if◌then◌else◌}
use Rattle.std.specs.Prelude.{String, string_bytes}
use Rattle.std.specs.declared.alloc.Global.{Global}
use Rattle.std.specs.List.{list_all}
use Rattle.std.proofs.lemmas.Bool.{le-ltb}
use Rattle.xf_base.specs.Limits.{line_limit}
use Rattle.xf_line.specs.declared.event.Asked.{Asked}
use Rattle.xf_line.specs.declared.event.Asked.TheVariants as asked
use Rattle.xf_line.specs.declared.event.Event.{Event}
use Rattle.xf_line.specs.declared.fault.LineFault.{LineFault}
use Rattle.xf_line.specs.declared.fault.LineFault.TheVariants as line_fault
use Rattle.xf_line.specs.Line.{asked_by}
use Rattle.xf_store.specs.declared.answers.Answer.{Answer}
use Rattle.xf_def_machine.specs.State.{State}
use Rattle.xf_def_machine.specs.Replies.{Reply, without_event, reply, reply_read, reply_outcome, is_blank}
use Rattle.xf_def_machine.specs.Step.{step}
use Rattle.xf_def_form.specs.Formed.{profile}
use Rattle.xf_cli_commands.specs.declared.line.Wants.{Wants}
use Rattle.xf_cli_commands.specs.declared.line.Wants.TheVariants as wants
use Rattle.xf_cli_commands.specs.Course.{event_asked, event_in}
use Rattle.xf_cli_commands.specs.Finish.{GivesLine, IsSaid, IsText}

abbrev by_tests : State → Bool → Bool → Reply → Reply
by_tests s long blank r = if long then without_event s (codes "no E1 LineTooLong\n" ∷ []) else if blank then without_event s ([] ∷ []) else r

abbrev event_by : Bool → Bool → Option Event → Option Event
event_by long blank event = if long then None else if blank then None else event

-- one that is short and not blank
pub reply_to : (s : State) (answers : List Answer) (line : List ℕ) (given : Result Asked LineFault) → length line ≤ line_limit → list_all is_blank line ≡ false → asked_by line ≡ given
    → reply profile true s answers line ≡ reply_read profile true s answers given
reply_to s answers line given h b e =
    ap (λ l. by_tests s l (list_all is_blank line) (reply_read profile true s answers (asked_by line))) (le-ltb line_limit (length line) h)
    ∙ ap (λ c. by_tests s false c (reply_read profile true s answers (asked_by line))) b ∙ ap (λ g. reply_read profile true s answers g) e

pub event_of : (line : List ℕ) (given : Result Asked LineFault) → length line ≤ line_limit → list_all is_blank line ≡ false → asked_by line ≡ given → event_in line ≡ event_asked given
event_of line given h b e =
    ap (λ l. event_by l (list_all is_blank line) (event_asked (asked_by line))) (le-ltb line_limit (length line) h)
    ∙ ap (λ c. event_by false c (event_asked (asked_by line))) b ∙ ap event_asked e

said_long : (line : List ℕ) → nat_lt line_limit (length line) ≡ true → IsSaid line (codes "no E1 LineTooLong\n")
said_long line h = record {
  reply_is = λ s answers. ap (λ l. by_tests s l (list_all is_blank line) (reply_read profile true s answers (asked_by line))) h;
  no_event = ap (λ l. event_by l (list_all is_blank line) (event_asked (asked_by line))) h;
}

said_blank : (line : List ℕ) → length line ≤ line_limit → list_all is_blank line ≡ true → IsSaid line []
said_blank line h b = record {
  reply_is = λ s answers.
      ap (λ l. by_tests s l (list_all is_blank line) (reply_read profile true s answers (asked_by line))) (le-ltb line_limit (length line) h)
      ∙ ap (λ c. by_tests s false c (reply_read profile true s answers (asked_by line))) b;
  no_event = ap (λ l. event_by l (list_all is_blank line) (event_asked (asked_by line))) (le-ltb line_limit (length line) h)
      ∙ ap (λ c. event_by false c (event_asked (asked_by line))) b;
}

said_fault : (line text : List ℕ) (fault : LineFault) → length line ≤ line_limit → list_all is_blank line ≡ false → asked_by line ≡ Err fault
    → ((s : State) (answers : List Answer) → reply_read profile true s answers (Err fault) ≡ without_event s (text ∷ [])) → IsSaid line text
said_fault line text fault h b e reads = record {
  reply_is = λ s answers. reply_to s answers line (Err fault) h b e ∙ reads s answers;
  no_event = event_of line (Err fault) h b e;
}

-- ---- what comes of reading it

pub gives : (line text : List ℕ) (w : Wants) → IsText text w → IsSaid line text → GivesLine line w
gives line text (wants.Asked a) h k = absurd h
gives line text (wants.Said t) h k = subst (λ x. IsSaid line x) (sym h) k
gives line text wants.NoRoom h k = tt

pub gives_long : (line : List ℕ) (w : Wants) → nat_lt line_limit (length line) ≡ true → IsText (codes "no E1 LineTooLong\n") w → GivesLine line w
gives_long line w h k = gives line (codes "no E1 LineTooLong\n") w k (said_long line h)

pub gives_blank : (line : List ℕ) (w : Wants) → length line ≤ line_limit → list_all is_blank line ≡ true → IsText [] w → GivesLine line w
gives_blank line w h b k = gives line [] w k (said_blank line h b)

-- why it cannot be read, which is no want of memory
known_fault : (e fault : LineFault) (given : Result Asked LineFault) → e ≡ fault → (line_fault.Memory ≡ fault → ⊥) → (e ≡ line_fault.Memory) ⊎ (given ≡ Err e) → given ≡ Err fault
known_fault e fault given is other (inl m) = absurd (other (sym m ∙ is))
known_fault e fault given is other (inr h) = h ∙ ap Err is

pub gives_not_json : (line : List ℕ) (w : Wants) (e : LineFault) → length line ≤ line_limit → list_all is_blank line ≡ false → e ≡ line_fault.NotJson
    → (e ≡ line_fault.Memory) ⊎ (asked_by line ≡ Err e) → IsText (codes "no E2 NotJson\n") w → GivesLine line w
gives_not_json line w e h b is given k =
    gives line (codes "no E2 NotJson\n") w k
    (said_fault line (codes "no E2 NotJson\n") line_fault.NotJson h b (known_fault e line_fault.NotJson (asked_by line) is (λ x. cc) given) (λ s answers. refl))

pub gives_not_event : (line : List ℕ) (w : Wants) (e : LineFault) → length line ≤ line_limit → list_all is_blank line ≡ false → e ≡ line_fault.NotEvent
    → (e ≡ line_fault.Memory) ⊎ (asked_by line ≡ Err e) → IsText (codes "no E3 NotEvent\n") w → GivesLine line w
gives_not_event line w e h b is given k =
    gives line (codes "no E3 NotEvent\n") w k
    (said_fault line (codes "no E3 NotEvent\n") line_fault.NotEvent h b (known_fault e line_fault.NotEvent (asked_by line) is (λ x. cc) given) (λ s answers. refl))
