-- The data of an instance that are put back: they come in place of the document element.
use Rattle.std.proofs.Common.{◌≡◌, ℕ, List, Option, Some, None, Result, Ok, Err, refl, sym, ap, ◌∙◌, subst}
use Rattle.xf_def_forest.specs.declared.content.Content.{Content}
use Rattle.xf_def_forest.specs.Changes.{root_of, standing}
use Rattle.xf_def_forest.specs.Visit.{children_of, first_of, visits}
use Rattle.xf_def_forest.specs.WellFormed.{HasTrees}
use Rattle.xf_def_machine.specs.Construct.{first_contents, put_back, replace}
use Rattle.xf_def_machine.specs.Flow.{where_some}
use Rattle.xf_def_machine.specs.Primitives.{attach, detach, plant}
use Rattle.xf_def_machine.specs.Refusal.{Refused}
use Rattle.xf_def_machine.specs.State.{State}
use Rattle.xf_def_machine.specs.Surround.{document_at, document_under}
use Rattle.xf_def_form.specs.Formed.{profile}
use Rattle.xf_engine_state.specs.declared.fault.WorkFault.{WorkFault}
use Rattle.xf_engine_state.specs.Around.{document_below}
use Rattle.xf_engine_state.specs.Does.{Does, Makes}
use Rattle.xf_engine_state.specs.Standing.{Standing}
use Rattle.xf_engine_state.proofs.PutLaws.{first-stands}
use Rattle.xf_engine_state.proofs.ReplaceLaws.{replace-stopped, replaced-by}

under-root : (s : State) (o : Option ℕ) (r n : ℕ) → o ≡ Some r → document_under s o ≡ Some n → first_of (children_of r (visits s.forest.nodes)) ≡ Some n
under-root s o r n is e = sym (ap (document_under s) is) ∙ e

below-under : (s : State) (o : Option ℕ) → document_below s.forest.nodes o ≡ document_under s o
below-under s None = refl
below-under s (Some r) = refl

-- what is put back of an instance
module _ (first : Result State Refused) (place : ℕ) (s : State) where
  abbrev own : List (ℕ × Content)
  own = first_contents first place

  -- there is no document element
  pub nothing-put : (document : Option ℕ) → document ≡ document_below s.forest.nodes (root_of place s.forest.nodes) → document ≡ None → put_back profile first place s ≡ Ok s
  nothing-put document is none =
      ap (λ o. where_some o (λ n. replace profile n own) s) (sym (below-under s (root_of place s.forest.nodes)) ∙ sym is ∙ none)

  -- there is no root
  pub none-rooted : root_of place s.forest.nodes ≡ None → put_back profile first place s ≡ Ok s
  none-rooted none = ap (λ o. where_some (document_under s o) (λ n. replace profile n own) s) none

  module _ (n r : ℕ) (trees : HasTrees s.forest) (document : Some n ≡ document_below s.forest.nodes (root_of place s.forest.nodes)) (root : Some r ≡ root_of place s.forest.nodes) where
    document-is : document_at s place ≡ Some n
    document-is = sym (document ∙ below-under s (root_of place s.forest.nodes))

    put-back-is : put_back profile first place s ≡ replace profile n own s
    put-back-is = ap (λ o. where_some o (λ m. replace profile m own) s) document-is

    stands : standing n s.forest.nodes ≡ Some (r, 0)
    stands = first-stands s.forest r n trees (under-root s (root_of place s.forest.nodes) r n (sym root) document-is)

    pub put-stopped : {X : Type 0} (Y : Type 0) (view : X → ℕ) (told : WorkFault) (end : Standing) → Makes view (Err told) end (plant profile own s) → Does {X = Y} (Err told) end (put_back profile first place s)
    put-stopped {X} Y view told end h = subst (Does {X = Y} (Err told) end) (sym put-back-is) (replace-stopped n own s r 0 stands Y view told end h)

    pub put-is : (top : ℕ) (t u : State) → plant profile own s ≡ Ok (top, t) → ◌≡◌ {A = Result State Refused} (Ok (detach n t)) (Ok u) → put_back profile first place s ≡ attach profile top r 0 u
    put-is top t u come cut = put-back-is ∙ replaced-by n own s r 0 stands top t u come cut
