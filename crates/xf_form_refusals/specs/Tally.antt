-- What a tally of ids has counted.
use Rattle.std.specs.Prelude.{◌≡◌, ℕ, ◌+◌, Bool, List, unwrap_or, if◌then◌else◌}
use Rattle.std.specs.HashMap.{get_by, HashMap}
use Rattle.std.specs.Str.{bytes_eq}
use denote.Ref.{Bor}
use Rattle.xf_form_refusals.specs.Classes.{count_called}
use Rattle.xf_form_refusals.specs.Rows.{Seen}
use Rattle.xf_form_refusals.specs.declared.classes.Class.{Class}
use Rattle.xf_form_refusals.specs.declared.classes.Class.TheVariants as class
use Rattle.xf_form_refusals.specs.declared.ids.Ids.{Ids}

abbrev pub counted : {S : Type 0} → HashMap (Bor (List ℕ)) ℕ S → List ℕ → ℕ
counted tally id = unwrap_or (get_by (λ key. bytes_eq id key.now) tally) 0

abbrev pub one_where : Bool → ℕ
one_where b = if b then 1 else 0

abbrev pub CountsOneId : {S : Type 0} → HashMap (Bor (List ℕ)) ℕ S → HashMap (Bor (List ℕ)) ℕ S → List ℕ → Type 0
CountsOneId old new name = (id : List ℕ) → counted new id ≡ counted old id + one_where (bytes_eq id name)

abbrev pub Counts : {S : Type 0} → HashMap (Bor (List ℕ)) ℕ S → Class → List Seen → Type 0
Counts tally c all = (id : List ℕ) → counted tally id ≡ count_called c all id

-- of each kind
pub record HasCounts (ids : Ids) (all : List Seen) : Type 0 where
  pub all_of : Counts ids.all class.Outside all
  pub numbered : Counts ids.numbered class.Numbered all
  pub models : Counts ids.models class.Model all
  pub instances : Counts ids.instances class.Instance all
  pub binds : Counts ids.binds class.Bind all
  pub submissions : Counts ids.submissions class.Submission all
  pub repeats : Counts ids.repeats class.Repeat all
  pub switches : Counts ids.switches class.Switch all
  pub cases : Counts ids.cases class.Case all
  pub controls : Counts ids.controls class.Control all
