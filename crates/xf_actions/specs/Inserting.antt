-- What an insert asks for, and where its copies go (XForms 1.1, section 10.3).
use Rattle.std.specs.Prelude.{ℕ, Bool, List, Result, Ok}
use Rattle.xf_def_xpath.specs.Setting.{Focus}
use Rattle.xf_def_model.specs.Places.{Place, planned_insert}
use Rattle.xf_def_machine.specs.Program.{InsertBy}
use Rattle.xf_def_machine.specs.Profile.{Profile}
use Rattle.xf_def_machine.specs.State.{State}
use Rattle.xf_def_machine.specs.Refusal.{Refused}
use Rattle.xf_def_machine.specs.Flow.{◌>>=◌}
use Rattle.xf_def_machine.specs.Acting.{Acting}
use Rattle.xf_def_machine.specs.Insert.{set_asked, origin_asked, place_asked, asked_with, location_of}

-- an insert whose expressions are evaluated
pub record Inserting : Type 0 where
  pub is_before : Bool
  -- what is told as its place
  pub location : List ℕ
  pub places : List Place

-- once its expressions are evaluated
abbrev pub planned : Profile → Acting → InsertBy → Focus → State → Result Inserting Refused
planned p x w c s =
    set_asked p x c s >>= λ set. origin_asked p x c w.origin set s >>= λ origin. place_asked p x w.at origin set s >>= λ at.
    Ok (record {
      is_before = w.is_before;
      location = location_of at c set;
      places = planned_insert s.forest.nodes (asked_with w s c set origin at);
    })
