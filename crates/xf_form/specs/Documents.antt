-- The document elements of a form's instances stand at their places in the tree that the form was read from.
use Rattle.std.specs.Prelude.{◌≡◌, ℕ, List, [], ◌∷◌, Some, Ok}
use Rattle.xf_def_syntax.specs.declared.form.Instance.{Instance}
use Rattle.xf_name.specs.declared.lit.Lit.{Lit}
use Rattle.xf_name.specs.declared.lit.Lit.TheVariants.{Element}
use Rattle.xf_name.specs.declared.lit.LitElement.{LitElement}
use Rattle.xf_form.specs.declared.loaded.Loaded.{Loaded}
use Rattle.xf_form.specs.Data.{lit_at}
use Rattle.xf_form.specs.Loading.{loaded_in}

-- an element stands at the place of the instance
abbrev pub HasDocument : Lit → Instance → Type 0
HasDocument form instance = (e : LitElement) × (lit_at instance.place form ≡ Some (Element e))

abbrev pub HaveDocuments : Lit → List Instance → Type 0
HaveDocuments form [] = Unit {0}
HaveDocuments form (instance ∷ instances) = HasDocument form instance × HaveDocuments form instances

abbrev pub LoadedDocuments : Type 0
LoadedDocuments = (bytes : List ℕ) (loaded : Loaded) → loaded_in bytes ≡ Ok loaded → HaveDocuments loaded.lit loaded.form.tables.instances
