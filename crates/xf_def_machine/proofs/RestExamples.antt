-- What an accepted event leaves.
use Rattle.std.proofs.Common.{◌≡◌, ◌∙◌, sym, ap, ℕ, zero, suc, true, false, [], ◌∷◌, ◌++◌, length, Some, None, refl, codes}
use Rattle.std.specs.List.{list_any, list_all}
use Rattle.xf_num.specs.Number.{scale}
use Rattle.xf_name.specs.Bindings.{no_bindings}
use Rattle.xf_def_forest.specs.declared.bare.Bare.{Bare}
use Rattle.xf_def_forest.specs.declared.bare.Bare.TheVariants as bare
use Rattle.xf_def_forest.specs.declared.bare.Bare.TheOpen.{Bare-F, BareElement-F}
use Rattle.xf_def_forest.specs.declared.bare.Bare.TheFolds.{fold-roll-Bare, fold-roll-BareElement}
use Rattle.xf_def_forest.specs.declared.bare.Bare.TheViews.{roll-BareElement}
use Rattle.xf_def_forest.specs.declared.bare.BareElement.{BareElement}
use Rattle.xf_def_forest.specs.declared.content.Content.TheVariants.{Root, Element}
use Rattle.xf_def_forest.specs.Examples.{qname, plain}
use Rattle.xf_def_forest.specs.Changes.{in_instances}
use Rattle.xf_def_forest.specs.Plant.{Contents}
use Rattle.xf_def_forest.specs.Planted.{contents_of_bare, bare_contents, bare_element_contents}
use Rattle.xf_line.specs.declared.event.Event.TheVariants.{Activate}
use Rattle.xf_def_ui.specs.Interface as sort
use Rattle.xf_def_machine.specs.AtRest.{IsAtRest, HasDocuments, is_empty_text, is_well_named, are_placed}
use Rattle.xf_def_machine.specs.Program.{Program}
use Rattle.xf_def_machine.specs.Program as role
use Rattle.xf_def_machine.specs.State.{State}
use Rattle.xf_def_machine.specs.Construct.{unbuilt}
use Rattle.xf_def_machine.specs.Step.{Outcome, accepted, refused}
use Rattle.xf_def_machine.specs.Start.{start}
use Rattle.xf_def_machine.specs.Update.{is_due}
use Rattle.xf_def_machine.specs.Examples.{profile, form, element, model, instance, element_at}
use Rattle.xf_def_machine.specs.ExampleOutcomes.{seen, then}
use Rattle.xf_def_machine.specs.ExampleRows.{rows}

-- a row was deleted
abbrev later : Outcome
later = then (start profile rows []) (Activate (codes "del") [])

nothing_due : seen is_due later ≡ Some false
unfolding scale
nothing_due = refl

all_placed : seen (are_placed profile) later ≡ Some true
unfolding scale
all_placed = refl

-- the repeat and the two triggers
the_controls : seen (λ s. length s.controls) later ≡ Some 3
unfolding scale
the_controls = refl

-- ---- a form that says nothing, of ["d"]

abbrev silent : Program
silent = form (element None (1 ∷ []) sort.host role.other ∷ model (2 ∷ []) ∷ instance ∷ []) [] [] [] (element_at 0 (codes "d") ∷ [])

-- the state before it where the start is refused
abbrev state_of : Outcome → State
state_of (accepted s posted) = s
state_of (refused why calls) = unbuilt profile silent

abbrev begun : State
begun = state_of (start profile silent [])

-- its document
abbrev inside : BareElement-F Bare BareElement
inside = record { name = qname 0 0 (codes "d"); attributes = []; children = [] }

abbrev document : BareElement
document = roll-BareElement inside

the_contents : contents_of_bare no_bindings (bare.Element document) ≡ (λ space depth. (depth, Element (plain (codes "d"))) ∷ [])
the_contents =
    ap (contents_of_bare no_bindings) (sym (bare.rolls-Element document))
    ∙ fold-roll-Bare Contents Contents bare_contents (bare_element_contents no_bindings) (Bare-F.Element document)
    ∙ fold-roll-BareElement Contents Contents bare_contents (bare_element_contents no_bindings) inside

-- where `d` is a name
its_documents : is_well_named no_bindings document ≡ true → HasDocuments begun
its_documents named = (
  document ∷ [],
  refl,
  ap (λ holds. list_all (λ e. holds) (document ∷ [])) named,
  ap (λ made. (0, Root) ∷ made 0 1 ++ []) (sym the_contents),
)

-- ---- what is no state at rest: one in which a model is missing

no_models : IsAtRest profile (record begun { models = [] }) → zero ≡ suc zero
no_models rests = rests.model_count

-- ---- the start of a form with rows, an insert and a delete leave nothing due, and every index at the place of its row

abbrev begun_with_rows : Outcome
begun_with_rows = start profile rows []

after_the_start : seen is_due begun_with_rows ≡ Some false
after_the_start = refl

placed_by_the_start : seen (are_placed profile) begun_with_rows ≡ Some true
placed_by_the_start = refl

after_an_insert : seen is_due (then begun_with_rows (Activate (codes "add") [])) ≡ Some false
after_an_insert = refl

placed_by_an_insert : seen (are_placed profile) (then begun_with_rows (Activate (codes "add") [])) ≡ Some true
placed_by_an_insert = refl

-- what an event has used up is given back
a_whole_budget : seen {X = ℕ × ℕ × ℕ × ℕ} (λ s. (s.turns, s.made, length s.notes, length s.calls)) (then begun_with_rows (Activate (codes "add") [])) ≡ Some (profile.turns, 0, 0, 0)
a_whole_budget = refl

-- no text is empty, and no tree is detached
none_is_empty : seen (λ s. list_any is_empty_text s.forest.nodes) later ≡ Some false
unfolding scale
none_is_empty = refl

none_is_detached : seen (λ s. length (in_instances s.forest.nodes)) later ≡ Some 3
unfolding scale
none_is_detached = refl

the_controls_of_now : seen (λ s. length s.controls) begun_with_rows ≡ Some 3
the_controls_of_now = refl
