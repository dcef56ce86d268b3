-- What is told of the refusal of a form.
use Rattle.std.specs.Prelude.{ℕ, ◌≡◌, ◌≤◌, ◌==◌, ◌++◌, Bool, true, false, if◌then◌else◌, nat_le, List, length, take, codes, Option, Some, None, Result, Ok, Err}
use Rattle.xf_base.specs.Limits.{told_limit}
use Rattle.xf_json.specs.Element.{lit_in}
use Rattle.xf_json.specs.declared.fault.JsonFault.{JsonFault}
use Rattle.xf_form.specs.declared.fault.FormFault.{FormFault}
use Rattle.xf_form.specs.declared.fault.FormFault.TheVariants as fault
use Rattle.xf_form.specs.declared.loaded.Loaded.{Loaded}
use Rattle.xf_name.specs.Bindings.{Bindings}
use Rattle.xf_name.specs.Survey.{surveyed}
use Rattle.xf_name.specs.declared.fault.SurveyFault.{SurveyFault}
use Rattle.xf_name.specs.declared.form_names.Surveyed.{Surveyed}
use Rattle.xf_name.specs.declared.lit.Lit.{Lit}
use Rattle.xf_form_refusals.specs.Decimals.{decimals_of}
use Rattle.xf_form_refusals.specs.Refusals.{first_model}
use Rattle.xf_form_refusals.specs.Rows.{Seen}
use Rattle.xf_form_refusals.specs.Walk.{rows_of}
use Rattle.xf_form_explain.specs.declared.detail.Detail.{Detail}
use Rattle.xf_form_explain.specs.declared.detail.Detail.TheVariants.{Nothing, TooLarge, NotElement, BadSchema, Passed}
use Rattle.xf_form_explain.specs.Details.{detail_from}
use Rattle.xf_form_explain.specs.Texts.{told_text}
use Rattle.xf_form_explain.specs.Unread.{IsUnreadIn}

-- ---- what is known

abbrev pub or_nothing : Option Detail → Detail
or_nothing None = Nothing
or_nothing (Some detail) = detail

abbrev pub by_rows : ℕ → Bindings → List Seen → Detail
by_rows n b all = or_nothing (detail_from n (decimals_of b all) b all (first_model all) 0 all)

abbrev pub by_lit : ℕ → Bindings → Lit → Detail
by_lit n b lit = by_rows n b (rows_of b lit)

abbrev pub by_names : ℕ → Lit → Result Surveyed SurveyFault → Detail
by_names n lit (Ok found) = by_lit n found.prefixes lit
by_names n lit (Err fault) = Nothing

abbrev pub by_tree : ℕ → Result Lit JsonFault → Detail
by_tree n (Ok lit) = by_names n lit (surveyed lit)
by_tree n (Err fault) = Nothing

-- by the elements that bytes spell
abbrev pub by_bytes : ℕ → List ℕ → Detail
by_bytes n bytes = by_tree n (lit_in bytes)

abbrev pub by_number : ℕ → List ℕ → List ℕ → Detail
by_number n bytes place =
    if n == 2 then TooLarge else (if n == 3 then NotElement else (if n == 20 then BadSchema else (if n == 17 then Passed place else by_bytes n bytes)))

abbrev pub IsDetailWhere : Bool → List ℕ → ℕ → List ℕ → Detail → Type 0
IsDetailWhere true bytes n place detail = IsUnreadIn bytes detail
IsDetailWhere false bytes n place detail = detail ≡ by_number n bytes place

-- of a refusal by its number and its place, which is a path, or the word of a limit
abbrev pub IsDetail : List ℕ → ℕ → List ℕ → Detail → Type 0
IsDetail bytes n place detail = IsDetailWhere (n == 1) bytes n place detail

-- ---- what is told

-- a front of a text, and a mark that more would follow
pub record IsFront (text shown : List ℕ) : Type 0 where
  pub count : ℕ
  pub within : count ≤ told_limit
  pub front : shown ≡ take count text ++ codes " ..\n"

abbrev pub IsShownWhere : Bool → List ℕ → List ℕ → Type 0
IsShownWhere true text shown = shown ≡ text
IsShownWhere false text shown = IsFront text shown

-- a text as it is, or of a long one its front
abbrev pub IsShown : List ℕ → List ℕ → Type 0
IsShown text shown = IsShownWhere (nat_le (length text) told_limit) text shown

pub record IsTold (bytes : List ℕ) (n : ℕ) (place text : List ℕ) : Type 0 where
  pub detail : Detail
  pub of : IsDetail bytes n place detail
  pub told : IsShown (told_text n place detail) text

-- of a form that loads nothing, and of each refusal its number, its place and what is known of it
abbrev pub Explains : Result Loaded FormFault → List ℕ → Option (List ℕ) → Type 0
Explains (Ok loaded) bytes None = Unit {0}
Explains (Ok loaded) bytes (Some text) = ⊥
Explains (Err (fault.Refused n place)) bytes None = ⊥
Explains (Err (fault.Refused n place)) bytes (Some text) = IsTold bytes n place text
Explains (Err fault.Memory) bytes told = ⊥
