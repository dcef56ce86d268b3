-- What the tables of a form are made from stands for its elements.
use Rattle.std.specs.Prelude.{◌≡◌, ℕ, Bool, true, false, ◌||◌, is_some, List, map, Option, Some, None}
use Rattle.std.specs.HashMap.{get_by, get, HashMap}
use Rattle.std.specs.Prelude.{nat_eq}
use Rattle.std.specs.Str.{bytes_eq}
use denote.Ref.{Bor}
use Rattle.xf_def_syntax.specs.declared.form.Submission.{Submission}
use Rattle.xf_form_vocabulary.specs.Rules.{wanted_of}
use Rattle.xf_form_vocabulary.specs.declared.attribute.TheConstants as at
use Rattle.xf_form_vocabulary.specs.declared.tag.Tag.{Tag}
use Rattle.xf_form_refusals.specs.Rows.{Seen, shown}
use Rattle.xf_form_refusals.specs.Schemas.{names_of}
use Rattle.xf_form.specs.declared.plan.Plan.{Plan}
use Rattle.xf_form.specs.Counts.{AreNumbers}
use Rattle.xf_form.specs.Numbers.{place_called}
use Rattle.xf_form.specs.Scopes.{models_of}
use Rattle.xf_form.specs.Submissions.{first_from}

-- ---- ids

abbrev pub found : {S : Type 0} → HashMap (Bor (List ℕ)) ℕ S → List ℕ → Option ℕ
found targets id = get_by (λ key. bytes_eq id key.now) targets

-- what was found, else the place where it holds
abbrev pub first_or : Option ℕ → Bool → ℕ → Option ℕ
first_or (Some old) holds place = Some old
first_or None true place = Some place
first_or None false place = None

-- the place goes under the id, where none has it
abbrev pub AddsId : {S : Type 0} → HashMap (Bor (List ℕ)) ℕ S → HashMap (Bor (List ℕ)) ℕ S → List ℕ → ℕ → Type 0
AddsId old new name place = (id : List ℕ) → found new id ≡ first_or (found old id) (bytes_eq id name) place

-- the place of the first element with each id
abbrev pub AreTargets : {S : Type 0} → HashMap (Bor (List ℕ)) ℕ S → List Seen → Type 0
AreTargets targets all = (id : List ℕ) → found targets id ≡ place_called all id

-- ---- submissions

-- the first submission of each model
abbrev pub AreFirsts : {S : Type 0} → HashMap ℕ ℕ S → List Submission → Type 0
AreFirsts firsts submissions = (model : ℕ) → get nat_eq firsts model ≡ first_from 0 submissions model

-- ---- models in scope

-- an element of this kind may name a bind or a model
abbrev pub may_name : Tag → Bool
may_name t = is_some (wanted_of t false at.BIND) || is_some (wanted_of t false at.MODEL)

-- ---- all together

pub record IsPlan (plan : Plan) : Type 0 where
  pub numbers : AreNumbers plan.numbers.now (map shown plan.rows.now)
  pub targets : AreTargets plan.targets.now (map shown plan.rows.now)
  pub models : plan.models.now ≡ models_of (map shown plan.rows.now)
  pub names : plan.names.now ≡ names_of (map shown plan.rows.now)
