-- The steps of a submission in a state of the machine (XForms 1.1, section 11.2), by what the calls of this crate answer.
use Rattle.std.specs.Prelude.{ℕ, ◌≡◌, List, [], ◌∷◌, map, length, nat_le, Some, None, option_map, Result, Ok}
use Rattle.xf_base.specs.Limits.{string_limit}
use Rattle.xf_def_syntax.specs.declared.form.Submission.{Submission}
use Rattle.xf_eval_context.specs.declared.over.Over.{Over}
use Rattle.xf_eval_context.specs.Over.{around_over}
use Rattle.xf_funcs.specs.Called.{called}
use Rattle.xf_def_model.specs.Rules.{rule_of}
use Rattle.xf_def_model.specs.Submitted.{submitted}
use Rattle.xf_store.specs.declared.answers.Answer.{Answer}
use Rattle.xf_store.specs.declared.answers.Answer.TheVariants.{Failed}
use Rattle.xf_store.specs.declared.call.Asked.{Asked}
use Rattle.xf_store.specs.declared.call.StoreCall.{StoreCall}
use Rattle.xf_store.specs.Replay.{answer_at, fits}
use Rattle.xf_def_machine.specs.declared.note.Note.TheVariants as note
use Rattle.xf_def_machine.specs.Exchange.{unless_many, with_call}
use Rattle.xf_def_machine.specs.Flow.{◌>>=◌}
use Rattle.xf_def_machine.specs.Primitives.{add_note}
use Rattle.xf_def_machine.specs.Profile.{Profile}
use Rattle.xf_def_machine.specs.Properties.{relevant_in, valid_in}
use Rattle.xf_def_machine.specs.Refusal.{Refused, or_long}
use Rattle.xf_def_machine.specs.State.{State}
use Rattle.xf_def_machine.specs.Submit.{takes_text, takes_tree, target_by}
use Rattle.xf_def_machine.specs.Surround.{given, scope}
use Rattle.xf_actions.specs.Sent as sent
use Rattle.xf_actions.specs.Sent.{Sends}
use Rattle.xf_actions.specs.Told.{untold}
use Rattle.xf_submit.specs.Requesting.{Requested, asks, request_of}
use Rattle.xf_submit.specs.Requesting as requesting
use Rattle.xf_submit.specs.Responding.{Responded, ends, notes, text, tree}
use Rattle.xf_submit.specs.Responding as responding

-- a state over which the calls are made: its form, its data and what surrounds its submissions
pub record Shows (p : Profile) (o : Over) (s : State) : Type 0 where
  pub functions : p.functions ≡ called
  pub long : p.bounds.string ≡ string_limit
  pub given : given s None ≡ (around_over o).given
  pub rules : s.form.rules ≡ map rule_of o.form.now.tables.binds
  pub bindings : s.form.bindings ≡ o.prefixes.now
  pub forest : s.forest ≡ o.forest.now.forest

-- ---- up to the call (steps 2 to 4)

-- what is asked for
abbrev pub request_in : Profile → Submission → State → Result Requested Refused
request_in p sub s =
    or_long s (option_map (request_of s.form.bindings s.forest.nodes sub) (submitted (Some p.bounds.string) (scope p s sub.model) (relevant_in s) (valid_in s) s.forest.nodes sub))

-- it is asked of the store
abbrev pub requested : Profile → List Answer → Submission → Requested → Sends
requested p answers sub (requesting.fails error) s = sent.fails error s
requested p answers sub (asks n asked) s = sent.exchanged p answers sub n asked s

-- ---- the call (step 5)

-- the store is called, unless all calls of the event are made
abbrev pub called_in : Profile → List Answer → Submission → Asked → State → Result State Refused
called_in p answers sub asked s =
    unless_many (nat_le p.sends (length s.calls)) s >>= λ t. Ok (with_call sub.resource asked (answer_at (fits asked) answers (length t.calls)) t)

-- the answer to the last of some calls
abbrev pub last_answer : List StoreCall → Answer
last_answer [] = Failed
last_answer (call ∷ []) = call.answer
last_answer (call ∷ next ∷ calls) = last_answer (next ∷ calls)

-- ---- the response, in the state behind the call (steps 6 to 8)

-- what comes of it is put in its place
abbrev pub responded : Profile → Submission → ℕ → Responded → Sends
responded p sub n (responding.fails error) s = sent.fails error s
responded p sub n ends s = sent.is_done s
responded p sub n (notes size) s = sent.then_done (untold (add_note p (note.All sub.resource size) s))
responded p sub n (tree lit) s = target_by p sub n s sub.target sub.instance >>= λ target. sent.on_target takes_tree (sent.put_tree p lit) target s
responded p sub n (text bytes) s = target_by p sub n s sub.target sub.instance >>= λ target. sent.on_target takes_text (sent.put_text p bytes) target s
