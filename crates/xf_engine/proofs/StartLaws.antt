-- The events with which a form starts, one after the other.
use Rattle.std.proofs.Common.{codes, ◌≡◌, List, Option, Result, Ok, ap, sym, ◌∙◌}
use Rattle.xf_store.specs.declared.answers.Answer.{Answer}
use Rattle.xf_store.specs.declared.call.StoreCall.{StoreCall}
use Rattle.xf_def_machine.specs.Flow.{◌>>=◌}
use Rattle.xf_def_machine.specs.Refusal.{Refusal, Refused}
use Rattle.xf_def_machine.specs.Start.{readied, tell_models}
use Rattle.xf_def_machine.specs.State.{State}
use Rattle.xf_def_machine.specs.Step.{fresh}
use Rattle.xf_actions.specs.Performs.{Refuses}
use Rattle.xf_actions.proofs.Flow.{refuses-then, same-refuses}
use Rattle.xf_def_form.specs.Formed.{profile}

module _ (answers : List Answer) where
  abbrev constructing : State → Result State Refused
  constructing s = tell_models profile answers (codes "xforms-model-construct") s

  abbrev constructed : State → Result State Refused
  constructed s = tell_models profile answers (codes "xforms-model-construct-done") s

  abbrev ready : State → Result State Refused
  ready s = tell_models profile answers (codes "xforms-ready") s

  readied-from : (s f : State) → f ≡ fresh profile s → readied profile answers s ≡ constructing f >>= constructed >>= ready
  readied-from s f h = ap (λ t. constructing t >>= constructed >>= ready) (sym h)

  pub ready-first : (s f : State) (why : Option Refusal) (calls : List StoreCall) → f ≡ fresh profile s
      → Refuses why calls (tell_models profile answers (codes "xforms-model-construct") f) → Refuses why calls (readied profile answers s)
  ready-first s f why calls h r =
      same-refuses why calls _ _ (readied-from s f h) (refuses-then why calls (constructing f >>= constructed) ready (refuses-then why calls (constructing f) constructed r))

  pub ready-second : (s f t : State) (why : Option Refusal) (calls : List StoreCall) → f ≡ fresh profile s
      → tell_models profile answers (codes "xforms-model-construct") f ≡ Ok t → Refuses why calls (tell_models profile answers (codes "xforms-model-construct-done") t)
      → Refuses why calls (readied profile answers s)
  ready-second s f t why calls h e r =
      same-refuses why calls _ _ (readied-from s f h ∙ ap (λ g. g >>= constructed >>= ready) e) (refuses-then why calls (constructed t) ready r)

  readied-third : (s f t u : State) → f ≡ fresh profile s → constructing f ≡ Ok t → constructed t ≡ Ok u → readied profile answers s ≡ ready u
  readied-third s f t u h e k = readied-from s f h ∙ ap (λ g. g >>= constructed >>= ready) e ∙ ap (λ g. g >>= ready) k

  pub ready-third : (s f t u : State) (why : Option Refusal) (calls : List StoreCall) → f ≡ fresh profile s
      → tell_models profile answers (codes "xforms-model-construct") f ≡ Ok t → tell_models profile answers (codes "xforms-model-construct-done") t ≡ Ok u
      → Refuses why calls (tell_models profile answers (codes "xforms-ready") u) → Refuses why calls (readied profile answers s)
  ready-third s f t u why calls h e k r = same-refuses why calls _ _ (readied-third s f t u h e k) r

  pub ready-all : (s f t u v : State) → f ≡ fresh profile s
      → tell_models profile answers (codes "xforms-model-construct") f ≡ Ok t → tell_models profile answers (codes "xforms-model-construct-done") t ≡ Ok u
      → tell_models profile answers (codes "xforms-ready") u ≡ Ok v → readied profile answers s ≡ Ok v
  ready-all s f t u v h e k q = readied-third s f t u h e k ∙ q
