-- What surrounds the expressions of a form in this processor: its functions of plain values, its limit on strings, the data and the binds
-- (XForms 1.1, section 7).
use Rattle.std.specs.Prelude.{ℕ, ◌≡◌, List, [], ◌∷◌, Option, Some, None, option_map}
use Rattle.xf_base.specs.Limits.{string_limit}
use Rattle.xf_def_syntax.specs.declared.form.Tables.{Tables}
use Rattle.xf_def_forest.specs.declared.content.Node.{Node}
use Rattle.xf_def_forest.specs.Visit.{visits, first_of}
use Rattle.xf_def_forest.specs.StringValue.{string_value}
use Rattle.xf_funcs.specs.Called.{called}
use Rattle.xf_def_xpath.specs.Given.{Given}
use Rattle.xf_def_xpath.specs.Setting.{Meaning, capped, setting_over}
use Rattle.xf_def_xpath.specs.Meaning.{text_worth}
use Rattle.xf_def_xpath.specs.Conversions.{nodes_of}
use Rattle.xf_def_model.specs.Rules.{scope_of}
use Rattle.xf_def_model.specs.Nested.{nested}
use Rattle.xf_eval_context.specs.Nested.StandIns.{stand_ins_of}
use Rattle.xf_def_ui.specs.Around.{Around, alone}

abbrev pub around_in : Given → Tables → List Node → Around
around_in given tables nodes = record {
  functions = called;
  most = Some string_limit;
  given = given;
  all = visits nodes;
  bound = λ k. nested (Some string_limit) (scope_of called given tables 0) (visits nodes) k;
}

-- outside an event, and without indexes of repeats
pub record IsQuiet (given : Given) : Type 0 where
  pub indexes : given.indexes ≡ []
  pub event : given.event ≡ None

-- ---- the first node that an expression selects from a node, and then what stands for it

abbrev pub first_stand : List Node → List ℕ → Option ℕ
first_stand nodes [] = None
first_stand nodes (n ∷ ns) = first_of (stand_ins_of (visits nodes) n)

abbrev pub first_from : Given → List Node → ℕ → Meaning → ℕ → Option (Option ℕ)
first_from given nodes model m n =
    option_map (λ v. first_stand nodes (nodes_of v)) (m (setting_over called (Some string_limit) given (visits nodes) model n) (alone n))

-- ---- texts

abbrev pub string_in : List Node → ℕ → Option (List ℕ)
string_in nodes n = capped (Some string_limit) (string_value n (visits nodes))

abbrev pub printed_from : Given → List Node → ℕ → Option Meaning → Option ℕ → Option (Option (List ℕ))
printed_from given nodes model None focus = Some None
printed_from given nodes model (Some m) None = Some None
printed_from given nodes model (Some m) (Some n) =
    option_map Some (text_worth m (setting_over called (Some string_limit) given (visits nodes) model n) (alone n))
