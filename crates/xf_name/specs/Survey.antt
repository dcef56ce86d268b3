-- What a form declares, with the first fault of its names.
use Rattle.std.specs.Prelude.{ℕ, ◌+◌, List, [], ◌∷◌, Option, Some, None, Result, Ok, Err, if◌then◌else◌}
use Rattle.xf_name.specs.Bindings.{Bindings}
use Rattle.xf_name.specs.Written.{Written, elements_of}
use Rattle.xf_name.specs.Declarations.{bindings_of, are_too_many}
use Rattle.xf_name.specs.Faults.{name_fault}
use Rattle.xf_name.specs.declared.lit.Lit.{Lit}
use Rattle.xf_name.specs.declared.fault.NameFault.{NameFault}
use Rattle.xf_name.specs.declared.fault.NameFault.TheVariants.{TooMany}
use Rattle.xf_name.specs.declared.fault.SurveyFault.{SurveyFault}
use Rattle.xf_name.specs.declared.fault.SurveyFault.TheVariants as survey
use Rattle.xf_name.specs.declared.form_names.Surveyed.{Surveyed}
use Rattle.xf_name.specs.declared.form_names.FirstFault.{FirstFault}

abbrev pub fault_or : ℕ → Option NameFault → Option FirstFault → Option FirstFault
fault_or n None later = later
fault_or n (Some fault) later = Some (record { element = n; fault = fault })

-- the first fault, where the first of the elements has the number n
abbrev pub first_fault : Bindings → ℕ → List Written → Option FirstFault
first_fault b n [] = None
first_fault b n (e ∷ es) = fault_or n (name_fault b e.name e.attributes) (first_fault b (n + 1) es)

abbrev pub survey_by : Bindings → Option FirstFault → Result Surveyed SurveyFault
survey_by b fault = if are_too_many b then Err survey.TooMany else Ok (record { prefixes = b; fault = fault })

-- what a form declares, with its first fault
abbrev pub surveyed : Lit → Result Surveyed SurveyFault
surveyed form = survey_by (bindings_of form) (first_fault (bindings_of form) 0 (elements_of form))

abbrev pub unless_fault : Bindings → Option FirstFault → Result Bindings NameFault
unless_fault b None = Ok b
unless_fault b (Some first) = Err first.fault

-- what a form declares, or why it has no prefixes
abbrev pub collected : Lit → Result Bindings NameFault
collected form =
    if are_too_many (bindings_of form) then Err TooMany
    else unless_fault (bindings_of form) (first_fault (bindings_of form) 0 (elements_of form))
