-- A form that is loaded as the machine sees it, with the data of its instances, and what the machine is given beside it.
use Rattle.std.specs.Prelude.{ℕ, ◌≡◌, List, [], map, Option, Some, None, Result, Ok}
use Rattle.xf_schema.specs.Facets.{is_of_type}
use Rattle.xf_name.specs.Bindings.{Bindings}
use Rattle.xf_name.specs.declared.lit.Lit.{Lit}
use Rattle.xf_def_syntax.specs.declared.form.Instance.{Instance}
use Rattle.xf_def_forest.specs.declared.content.Content.{Content}
use Rattle.xf_def_forest.specs.Plant.{contents_of}
use Rattle.xf_funcs.specs.Called.{called}
use Rattle.xf_form.specs.Data.{lit_at}
use Rattle.xf_form.specs.Loading.{loaded_in}
use Rattle.xf_form.specs.declared.loaded.Loaded.{Loaded}
use Rattle.xf_def_machine.specs.Profile.{Profile, usual}
use Rattle.xf_def_machine.specs.Program.{Program}
use Rattle.xf_def_machine.specs.Tables.{program_of}

-- what the machine is given beside a form
abbrev pub profile : Profile
profile = usual called is_of_type

-- ---- the form

abbrev pub contents_in : Bindings → ℕ → Option Lit → List (ℕ × Content)
contents_in b space None = []
contents_in b space (Some lit) = contents_of b lit space 0

-- the data with which an instance begins, as they stand in the form (XForms 1.1, section 3.3.2)
abbrev pub document_of : Bindings → Lit → Instance → List (ℕ × Content)
document_of b form i = contents_in b i.space (lit_at i.place form)

abbrev pub documents_in : Loaded → List (List (ℕ × Content))
documents_in l = map (document_of l.prefixes l.lit) l.form.tables.instances

-- a form that is loaded, as the machine sees it
abbrev pub program_in : Loaded → Program
program_in l = program_of l.form l.prefixes (documents_in l)

-- it was read from some bytes
abbrev pub IsFromBytes : Loaded → Type 0
IsFromBytes l = (bytes : List ℕ) × (loaded_in bytes ≡ Ok l)
