-- What a setindex asks for, and what is then done (XForms 1.1, section 10.6).
use Rattle.std.specs.Prelude.{ℕ, Option, Some, None, option_map, get_or, Result, Ok}
use Rattle.xf_def_xpath.specs.Setting.{Meaning}
use Rattle.xf_def_machine.specs.Profile.{Profile}
use Rattle.xf_def_machine.specs.State.{State}
use Rattle.xf_def_machine.specs.Refusal.{Refused}
use Rattle.xf_def_machine.specs.Flow.{Run, ◌>>=◌, where_some}
use Rattle.xf_def_machine.specs.Surround.{interface}
use Rattle.xf_def_machine.specs.Acting.{Acting, whole_for}
use Rattle.xf_def_machine.specs.Choose.{named_copy, not_below_zero, set_index}

-- none for NaN
abbrev pub index_asked : Profile → Acting → Option Meaning → State → Result (Option ℕ) Refused
index_asked p x None s = Ok None
index_asked p x (Some m) s = whole_for p x s x.focus m >>= λ number. Ok (option_map not_below_zero number)

-- the index of the repeat is set, where it has a copy
abbrev pub index_chosen : Profile → Acting → ℕ → Option Meaning → Run
index_chosen p x k m s =
    let r = get_or (interface s).repeats k 0 in
    where_some (named_copy s r) (λ rows t. index_asked p x m t >>= λ index. where_some index (set_index p x.model r) t) s
