-- Chains of rows, as they are put behind others.
use Rattle.std.specs.Prelude.{ℕ, Bool, true, false, List, ◌++◌, Option, Some, None, option_map}

-- the chain, where there is one
abbrev pub chain_where : Bool → List ℕ → Option (List ℕ)
chain_where true chain = Some chain
chain_where false chain = None

-- these behind others
abbrev pub behind : List ℕ → Option (List ℕ) → Option (List ℕ)
behind before more = option_map (λ ns. before ++ ns) more
