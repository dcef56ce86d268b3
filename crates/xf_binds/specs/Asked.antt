-- How much the entries of models read and look at (XForms 1.1, appendix C).
use Rattle.std.specs.Prelude.{ℕ, ◌≡◌, ◌+◌, ◌-◌, ◌^◌, List, length, min, sum_by}
use Rattle.xf_binds.specs.declared.web.Asks.{Asks}
use Rattle.xf_binds.specs.Kept.{Kept}
use Rattle.xf_binds.specs.Table.{kept_at, with_kept}

abbrev pub asked_in : Asks → ℕ
asked_in asks = length asks.reads + length asks.looks

abbrev pub asked_of : List Asks → ℕ
asked_of web = sum_by asked_in web

-- by the entries of all models, each model's as its last rebuild gave them
abbrev pub asked_by_all : List Kept → ℕ
asked_by_all table = sum_by (λ k. asked_of k.asks) table

-- the entries of one model ask this
abbrev pub asking : List Kept → ℕ → List Asks → List Kept
asking table model web = with_kept table model (record (kept_at table model) { asks = web })

-- as far as 64 bits count
abbrev pub IsCounted : List Asks → ℕ → Type 0
IsCounted web asked = asked ≡ min (asked_of web) (2 ^ 64 - 1)
