-- What is counted of one event besides: nodes that were made, and evaluations.
use Rattle.std.specs.Prelude.{ℕ, ◌≡◌, ◌+◌, true, false, nat_lt, Result, Ok, Err}
use Rattle.xf_base.specs.Limits.{made_limit}
use Rattle.xf_def_machine.specs.declared.limit.LimitWord.TheVariants.{Made}
use Rattle.xf_def_machine.specs.declared.refusal.Refusal.TheVariants.{Limit}
use Rattle.xf_engine_state.specs.declared.fault.WorkFault.{WorkFault}
use Rattle.xf_engine_state.specs.declared.fault.WorkFault.TheVariants.{Refused, Memory}
use Rattle.xf_engine_state.specs.declared.tally.Tally.{Tally}

abbrev pub with_more : ℕ → ℕ → Tally → Tally
with_more made count t = record t { made = t.made + made; evaluated = t.evaluated + count }

-- they are counted, unless one event makes too many nodes
abbrev pub IsGrown : Tally → ℕ → ℕ → Result Tally WorkFault → Type 0
IsGrown t made count (Ok u) = (u ≡ with_more made count t) × (nat_lt made_limit (t.made + made) ≡ false)
IsGrown t made count (Err (Refused refusal)) = (refusal ≡ Limit Made) × (nat_lt made_limit (t.made + made) ≡ true)
IsGrown t made count (Err Memory) = Unit {0}
