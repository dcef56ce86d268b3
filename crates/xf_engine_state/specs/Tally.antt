-- What is counted of all events, and of one.
use Rattle.std.specs.Prelude.{ℕ, zero, suc, Option, Some, None}
use Rattle.xf_base.specs.Limits.{turn_limit}
use Rattle.xf_engine_state.specs.declared.tally.Tally.{Tally}

abbrev pub begun : Tally → Tally
begun t = record { accepted = t.accepted; turns = turn_limit; made = 0; evaluated = 0 }

abbrev pub spent_from : ℕ → Tally → Option Tally
spent_from zero t = None
spent_from (suc left) t = Some (record t { turns = left })

-- one turn is spent, unless none is left
abbrev pub spent : Tally → Option Tally
spent t = spent_from t.turns t
