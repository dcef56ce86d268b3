-- Submission (XForms 1.1, section 11.2), in steps of which the first that fails ends it: from the answer of the store on.
use Rattle.std.specs.Prelude.{ℕ, Bool, not, ◌&&◌, List, [], ◌∷◌, length, codes, Option, Some, None, is_none, option_and_then, Result, Ok, Err, ◌==◌, if◌then◌else◌}
use Rattle.std.specs.List.{list_any}
use Rattle.std.specs.Str.{is_utf8}
use Rattle.xf_name.specs.declared.lit.Lit.{Lit}
use Rattle.xf_json.specs.declared.fault.JsonFault.{JsonFault}
use Rattle.xf_json.specs.Element.{lit_in}
use Rattle.xf_store.specs.declared.answers.Answer.{Answer}
use Rattle.xf_store.specs.declared.answers.Answer.TheVariants.{PutDone, Found}
use Rattle.xf_def_syntax.specs.declared.expr.Expr.{Expr}
use Rattle.xf_def_syntax.specs.declared.form.Replace.{Replace}
use Rattle.xf_def_syntax.specs.declared.form.Replace.TheVariants as instead
use Rattle.xf_def_syntax.specs.declared.form.Submission.{Submission}
use Rattle.xf_def_forest.specs.Forest.{is_element}
use Rattle.xf_def_forest.specs.Plant.{contents_of}
use Rattle.xf_def_forest.specs.Planted.{lit_fault}
use Rattle.xf_def_forest.specs.Shape.{has_elements}
use Rattle.xf_def_xpath.specs.Reads.{trace}
use Rattle.xf_def_model.specs.Submitted.{by_expression}
use Rattle.xf_def_machine.specs.declared.note.Note.TheVariants as note
use Rattle.xf_def_machine.specs.Profile.{Profile}
use Rattle.xf_def_machine.specs.State.{State}
use Rattle.xf_def_machine.specs.Refusal.{Refused, or_long}
use Rattle.xf_def_machine.specs.Flow.{Run, ◌>>=◌, where_some}
use Rattle.xf_def_machine.specs.Surround.{scope, all_in, document_at, instance_holding, model_holding}
use Rattle.xf_def_machine.specs.Primitives.{set_text, add_note}
use Rattle.xf_def_machine.specs.Properties.{readonly_in}
use Rattle.xf_def_machine.specs.Behave.{rebuild, recalculate, revalidate}
use Rattle.xf_def_machine.specs.Update.{refresh, refresh_cleared, reindex}
use Rattle.xf_def_machine.specs.Events.{Tell}
use Rattle.xf_def_machine.specs.Construct.{replace}

-- ---- how a submission ends

-- the event that is to be told
pub data Ended : Type 0 where
  done : State → Ended
  -- with the type of the error
  failed : List ℕ → State → Ended

-- up to the event that tells it
abbrev pub Sending : Type 0
Sending = Result Ended Refused

-- it went well, where nothing is refused
abbrev pub then_done : Result State Refused → Sending
then_done (Err refusal) = Err refusal
then_done (Ok s) = Ok (done s)

-- ---- the target (step 7)

-- the node that `targetref` selects, else the document element of the instance that is named, else that of the instance of the selection
abbrev pub target_by : Profile → Submission → ℕ → State → Option Expr → Option ℕ → Result (Option ℕ) Refused
target_by p sub n s (Some expr) instance = or_long s (by_expression (Some p.bounds.string) (scope p s sub.model) (all_in s) (trace expr))
target_by p sub n s None (Some place) = Ok (document_at s place)
target_by p sub n s None None = Ok (option_and_then (document_at s) (instance_holding s n))

-- the node is an element
abbrev pub is_element_in : State → ℕ → Bool
is_element_in s n = list_any (λ x. (x.number == n) && is_element x.content) (all_in s)

-- an element for a tree; no element children for a text; and not readonly
abbrev pub takes_tree : State → ℕ → Bool
takes_tree s n = is_element_in s n && not (readonly_in s n)

-- a text may come in its place
abbrev pub takes_text : State → ℕ → Bool
takes_text s n = not (has_elements (all_in s) n) && not (readonly_in s n)

-- ---- what is replaced (step 8)

-- the four behaviours, flagged or not
abbrev pub behave_all : Profile → Tell → ℕ → Run
behave_all p tell model s =
    rebuild p model s >>= recalculate p model >>= λ t. refresh p (refresh_cleared model) tell (revalidate p model t)

-- the response as a tree in place of the target
abbrev pub put_tree : Profile → Tell → Lit → ℕ → Run
put_tree p tell lit n s =
    replace p n (contents_of s.form.bindings lit 0 0) s >>= reindex p [] >>= where_some (model_holding s n) (behave_all p tell)

-- the response as the target's text
abbrev pub put_text : Profile → Tell → List ℕ → ℕ → Run
put_text p tell text n s = set_text p n text s >>= where_some (model_holding s n) (behave_all p tell)

-- put in the target, where there is one that takes it
abbrev pub on_target : (State → ℕ → Bool) → (ℕ → Run) → Option ℕ → State → Sending
on_target takes put None s = Ok (failed (codes "target-error") s)
on_target takes put (Some n) s = if takes s n then then_done (put n s) else Ok (failed (codes "target-error") s)

-- ---- the response (step 6)

-- the names of the response are not the form's
abbrev pub has_fault : State → Lit → Bool
has_fault s lit = not (is_none (lit_fault s.form.bindings lit))

-- a response that is to be an element
abbrev pub with_tree : Profile → Tell → Submission → ℕ → State → Result Lit JsonFault → Sending
with_tree p tell sub n s (Err fault) = Ok (failed (codes "parse-error") s)
with_tree p tell sub n s (Ok lit) =
    if has_fault s lit then Ok (failed (codes "parse-error") s)
    else (target_by p sub n s sub.target sub.instance >>= λ target. on_target takes_tree (put_tree p tell lit) target s)

-- a response that is to be a text
abbrev pub with_text : Profile → Tell → Submission → ℕ → State → List ℕ → Sending
with_text p tell sub n s bytes =
    if is_utf8 bytes then (target_by p sub n s sub.target sub.instance >>= λ target. on_target takes_text (put_text p tell bytes) target s)
    else Ok (failed (codes "parse-error") s)

-- an empty response replaces nothing
abbrev pub respond : Profile → Tell → Submission → ℕ → State → List ℕ → Replace → Sending
respond p tell sub n s bytes instead.All = then_done (add_note p (note.All sub.resource (length bytes)) s)
respond p tell sub n s bytes instead.Nothing = Ok (done s)
respond p tell sub n s [] how = Ok (done s)
respond p tell sub n s (b ∷ bs) instead.Instance = with_tree p tell sub n s (lit_in (b ∷ bs))
respond p tell sub n s (b ∷ bs) instead.Text = with_text p tell sub n s (b ∷ bs)

-- by what the store answered
abbrev pub answered : Profile → Tell → Submission → ℕ → State → Answer → Sending
answered p tell sub n s PutDone = respond p tell sub n s [] sub.replace
answered p tell sub n s (Found bytes) = respond p tell sub n s bytes sub.replace
answered p tell sub n s answer = Ok (failed (codes "resource-error") s)
