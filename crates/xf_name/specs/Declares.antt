-- How a step of a survey stands to what a form declares.
use Rattle.std.specs.Prelude.{◌≡◌, true, false, Result, Ok, Err}
use Rattle.xf_name.specs.Bindings.{Bindings}
use Rattle.xf_name.specs.Declarations.{are_too_many}
use Rattle.xf_name.specs.declared.fault.SurveyFault.{SurveyFault}
use Rattle.xf_name.specs.declared.fault.SurveyFault.TheVariants.{TooMany, Memory}

-- the tables have come to what is declared, or that is too much for a form
abbrev pub Declares : Result (Unit {0}) SurveyFault → Bindings → Bindings → Type 0
Declares (Ok done) tables declared = tables ≡ declared
Declares (Err TooMany) tables declared = are_too_many declared ≡ true
Declares (Err Memory) tables declared = Unit {0}

-- the tables of a whole form, which are within its limits
abbrev pub GivesTables : Result Bindings SurveyFault → Bindings → Type 0
GivesTables (Ok tables) declared = (tables ≡ declared) × (are_too_many declared ≡ false)
GivesTables (Err TooMany) declared = are_too_many declared ≡ true
GivesTables (Err Memory) declared = Unit {0}
