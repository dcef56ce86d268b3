-- What is replaced by the response of a submission, step by step, and how it ended.
use Rattle.std.proofs.Common.{◌≡◌, ℕ, Bool, true, false, cond, List, [], map, Option, Some, None, option_map, Result, Ok, Err, sym, ap, ◌∙◌}
use Rattle.std.specs.Prelude.{codes}
use Rattle.xf_name.specs.declared.lit.Lit.{Lit}
use Rattle.xf_def_forest.specs.Plant.{contents_of}
use Rattle.xf_store.specs.declared.call.StoreCall.{StoreCall}
use Rattle.xf_def_machine.specs.Behave.{rebuild, recalculate, revalidate}
use Rattle.xf_def_machine.specs.Construct.{replace}
use Rattle.xf_def_machine.specs.Events.{Fired}
use Rattle.xf_def_machine.specs.Flow.{◌>>=◌}
use Rattle.xf_def_machine.specs.Primitives.{set_text}
use Rattle.xf_def_machine.specs.Refusal.{Refusal, Refused}
use Rattle.xf_def_machine.specs.State.{State}
use Rattle.xf_def_machine.specs.Surround.{model_holding}
use Rattle.xf_def_machine.specs.Update.{refresh_cleared, reindex}
use Rattle.xf_actions.specs.Performs.{Refuses}
use Rattle.xf_actions.specs.Seen.{end_of, fired_of}
use Rattle.xf_actions.specs.Sent as sent
use Rattle.xf_actions.specs.Told.{refreshed, where_told}
use Rattle.xf_actions.proofs.Flow.{fine, refuses-then, same-refuses}
use Rattle.xf_def_form.specs.Formed.{profile}
use Rattle.xf_submit.specs.declared.error.ErrorType.{ErrorType}
use Rattle.xf_submit.specs.Errors.{type_text}
use Rattle.xf_engine_world.specs.declared.submitting.Sent.{Sent}
use Rattle.xf_engine_world.specs.Submitting.{sent_of}

-- ---- the behaviours

module _ (model : ℕ) (s : State) where
  abbrev from_values : State → Result (List Fired × State) Refused
  from_values t = refreshed profile (refresh_cleared model) (revalidate profile model t)

  behaved-rebuilt : (t : State) → rebuild profile model s ≡ Ok t → sent.behaved profile model s ≡ (recalculate profile model t >>= from_values)
  behaved-rebuilt t e = ap (λ r. r >>= recalculate profile model >>= from_values) e

  behaved-recalculated : (t u : State) → rebuild profile model s ≡ Ok t → recalculate profile model t ≡ Ok u → sent.behaved profile model s ≡ from_values u
  behaved-recalculated t u e f = behaved-rebuilt t e ∙ ap (λ r. r >>= from_values) f

  pub behaved-last : (t u v : State) → rebuild profile model s ≡ Ok t → recalculate profile model t ≡ Ok u → fine (revalidate profile model u) ≡ Ok v
      → sent.behaved profile model s ≡ refreshed profile (refresh_cleared model) v
  behaved-last t u v e f g = behaved-recalculated t u e f ∙ ap (λ r. r >>= refreshed profile (refresh_cleared model)) g

-- ---- what is replaced

module _ (lit : Lit) (n : ℕ) (s : State) where
  abbrev replaced : Result State Refused
  replaced = replace profile n (contents_of s.form.bindings lit 0 0) s

  abbrev behaved_there : State → Result (List Fired × State) Refused
  behaved_there t = where_told (model_holding s n) (sent.behaved profile) t

  tree-replaced : (t : State) → replaced ≡ Ok t → sent.put_tree profile lit n s ≡ (reindex profile [] t >>= behaved_there)
  tree-replaced t e = ap (λ r. r >>= reindex profile [] >>= behaved_there) e

  -- where the indexes do not come to rest
  pub tree-unindexed : (t : State) (why : Option Refusal) (calls : List StoreCall) → replaced ≡ Ok t → Refuses why calls (reindex profile [] t) → Refuses why calls (sent.put_tree profile lit n s)
  tree-unindexed t why calls e r = same-refuses why calls _ _ (tree-replaced t e) (refuses-then why calls (reindex profile [] t) behaved_there r)

  pub tree-behaved : (t u : State) (model : Option ℕ) → replaced ≡ Ok t → reindex profile [] t ≡ Ok u → model ≡ model_holding s n
      → sent.put_tree profile lit n s ≡ where_told model (sent.behaved profile) u
  tree-behaved t u model e f m = tree-replaced t e ∙ ap (λ r. r >>= behaved_there) f ∙ ap (λ o. where_told o (sent.behaved profile) u) (sym m)

module _ (text : List ℕ) (n : ℕ) (s : State) where
  pub text-behaved : (t : State) (model : Option ℕ) → set_text profile n text s ≡ Ok t → model ≡ model_holding s n
      → sent.put_text profile text n s ≡ where_told model (sent.behaved profile) t
  text-behaved t model e m = ap (λ r. r >>= where_told (model_holding s n) (sent.behaved profile)) e ∙ ap (λ o. where_told o (sent.behaved profile) t) (sym m)

-- ---- how it ended

abbrev sent_with : List Fired → sent.End → State → Result sent.Sent Refused
sent_with events end s = Ok (record { events = events; end = end; state = s })

-- it fails with this type of error
pub failed-is : (s : State) (w : Sent) (error : ErrorType) → w.events ≡ [] → w.failure ≡ Some error → sent.fails (type_text error) s ≡ Ok (sent_of s w)
failed-is s w error e f =
    ap (λ es. sent_with (map fired_of es) (sent.failed (type_text error)) s) (sym e)
    ∙ ap (λ o. sent_with (map fired_of w.events) (end_of (option_map type_text o)) s) (sym f)

refuses-then_done : (why : Option Refusal) (calls : List StoreCall) (given : Result (List Fired × State) Refused) → Refuses why calls given → Refuses why calls (sent.then_done given)
unfolding Refuses
refuses-then_done None calls given r = tt
refuses-then_done (Some told) calls (Err refusal) r = r
refuses-then_done (Some told) calls (Ok x) r = absurd r

-- ---- the target

taken : (takes : State → ℕ → Bool) (put : ℕ → State → Result (List Fired × State) Refused) (n : ℕ) (s : State) → takes s n ≡ true
    → sent.on_target takes put (Some n) s ≡ sent.then_done (put n s)
taken takes put n s t = ap (λ b. cond b (sent.then_done (put n s)) (sent.fails (codes "target-error") s)) t

-- what refuses to put it refuses all
pub taken-refused : (takes : State → ℕ → Bool) (put : ℕ → State → Result (List Fired × State) Refused) (n : ℕ) (s : State) (why : Option Refusal) (calls : List StoreCall)
    → takes s n ≡ true → Refuses why calls (put n s) → Refuses why calls (sent.on_target takes put (Some n) s)
taken-refused takes put n s why calls h r = same-refuses why calls _ _ (taken takes put n s h) (refuses-then_done why calls (put n s) r)
