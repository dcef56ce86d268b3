-- The types of the errors of submissions (XForms 1.1, section 11.5).
use Rattle.std.specs.Prelude.{ℕ, List, codes}
use Rattle.xf_submit.specs.declared.error.ErrorType.{ErrorType}
use Rattle.xf_submit.specs.declared.error.ErrorType.TheVariants as error

abbrev pub type_text : ErrorType → List ℕ
type_text error.NoData = codes "no-data"
type_text error.Validation = codes "validation-error"
type_text error.Resource = codes "resource-error"
type_text error.Parse = codes "parse-error"
type_text error.Target = codes "target-error"
