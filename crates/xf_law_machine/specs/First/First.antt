-- The data as construction left them (XForms 1.1, sections 4.2.1 and 4.3.7), of a form whose instances begin with elements: where they have the shape
-- that was planted, the bare tree of a document element gives its contents.
use Rattle.std.specs.Prelude.{ℕ, ◌≡◌, List, [], ◌∷◌, Some, Ok}
use Rattle.xf_name.specs.Bindings.{Bindings}
use Rattle.xf_name.specs.declared.lit.Lit.TheVariants as lit
use Rattle.xf_name.specs.declared.lit.LitElement.{LitElement}
use Rattle.xf_def_forest.specs.declared.bare.Bare.{Bare}
use Rattle.xf_def_forest.specs.declared.content.Content.{Content}
use Rattle.xf_def_forest.specs.Literal.{bare_of}
use Rattle.xf_def_forest.specs.Plant.{contents_of}
use Rattle.xf_def_forest.specs.Planted.{contents_of_bare}
use Rattle.xf_def_forest.specs.Shape.{shape_of}
use Rattle.xf_def_forest.specs.WellFormed.{HasTrees}
use Rattle.xf_def_machine.specs.Construct.{construct, first_contents, plant_document, unbuilt}
use Rattle.xf_def_machine.specs.Flow.{in_turn}
use Rattle.xf_def_machine.specs.Profile.{Profile}
use Rattle.xf_def_machine.specs.Program.{Program}
use Rattle.xf_def_machine.specs.State.{State}
use Rattle.xf_def_machine.specs.Surround.{document_at}

-- each is the tree of an element of a form
abbrev pub AreElements : Bindings → List (List (ℕ × Content)) → Type 0
AreElements b [] = Unit {0}
AreElements b (d ∷ ds) = ((e : LitElement) × (space : ℕ) × (d ≡ contents_of b (lit.Element e) space 0)) × AreElements b ds

abbrev pub FirstGives : Type 0
FirstGives = (p : Profile) (form : Program) (b : Bindings) (planted first : State) → AreElements b form.documents → in_turn (plant_document p) form.documents (unbuilt p form) ≡ Ok planted →
    construct p form ≡ Ok first → HasTrees first.forest → shape_of first.forest.nodes ≡ shape_of planted.forest.nodes → (place n : ℕ) (t : Bare) → document_at first place ≡ Some n →
    bare_of n first.forest.nodes ≡ Some t → contents_of_bare b t 0 0 ≡ first_contents (construct p form) place
