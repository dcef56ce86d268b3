-- A tree in place of a node: a tree is planted, the node is cut off, and the tree comes where it stood.
use Rattle.std.proofs.Common.{◌≡◌, ℕ, List, None, Some, Result, Ok, Err, sym, ap, ◌∙◌, subst}
use Rattle.xf_def_forest.specs.declared.content.Content.{Content}
use Rattle.xf_def_forest.specs.Changes.{standing}
use Rattle.xf_def_machine.specs.Construct.{replace, replace_at}
use Rattle.xf_def_machine.specs.Flow.{◌>>=◌, where_some}
use Rattle.xf_def_machine.specs.Primitives.{attach, detach, plant}
use Rattle.xf_def_machine.specs.Refusal.{Refused}
use Rattle.xf_def_machine.specs.State.{State}
use Rattle.xf_def_machine.specs.declared.refusal.Refusal.{Refusal}
use Rattle.xf_def_form.specs.Formed.{profile}
use Rattle.xf_engine_state.specs.declared.fault.WorkFault.{WorkFault}
use Rattle.xf_engine_state.specs.declared.fault.WorkFault.TheVariants as fault
use Rattle.xf_engine_state.specs.Does.{Does, IsRefused, Makes}
use Rattle.xf_engine_state.specs.Standing.{Standing}

refused-then : {A B : Type 0} (why : Refusal) (r : Result A Refused) (next : A → Result B Refused) → IsRefused why r → IsRefused why (r >>= next)
refused-then {A} {B} why (Ok x) next h = absurd h
refused-then {A} {B} why (Err e) next h = h

-- one step after the other
module _ (n : ℕ) (contents : List (ℕ × Content)) (s : State) where
  -- it has no parent
  pub nothing-replaced : standing n s.forest.nodes ≡ None → replace profile n contents s ≡ Ok s
  nothing-replaced none = ap (λ o. where_some o (replace_at profile n contents) s) none

  module _ (parent place : ℕ) (stands : standing n s.forest.nodes ≡ Some (parent, place)) where
    replace-is : replace profile n contents s ≡ (plant profile contents s >>= λ made. attach profile made.0 parent place (detach n made.1))
    replace-is = ap (λ o. where_some o (replace_at profile n contents) s) stands

    pub replace-stopped : {X : Type 0} (Y : Type 0) (view : X → ℕ) (told : WorkFault) (end : Standing) → Makes view (Err told) end (plant profile contents s) → Does {X = Y} (Err told) end (replace profile n contents s)
    replace-stopped {X} Y view (fault.Refused why) end h =
        subst (IsRefused why) (sym replace-is) (refused-then why (plant profile contents s) (λ made. attach profile made.0 parent place (detach n made.1)) h)
    replace-stopped {X} Y view fault.Memory end h = tt

    pub replaced-by : (top : ℕ) (t u : State) → plant profile contents s ≡ Ok (top, t) → ◌≡◌ {A = Result State Refused} (Ok (detach n t)) (Ok u) → replace profile n contents s ≡ attach profile top parent place u
    replaced-by top t u come cut =
        let left : detach n t ≡ u = cc cut in
        replace-is ∙ ap (λ (g : Result (ℕ × State) Refused). g >>= λ made. attach profile made.0 parent place (detach n made.1)) come ∙ ap (λ (v : State). attach profile top parent place v) left
