-- Which calls of an object in memory fail, by their numbers. The first call has the number 0.
use Rattle.std.specs.Prelude.{ℕ, ◌+◌, ◌-◌, ◌^◌, min, List, Bool, ◌==◌}
use Rattle.std.specs.List.{list_any}

-- the numbers of the calls that are to fail, and how many calls were made
pub record Failing : Type 0 where
  pub fails : List ℕ
  pub made : ℕ

-- the next call is listed
abbrev pub fails_next : Failing → Bool
fails_next calls = list_any (λ number. number == calls.made) calls.fails

-- one more, up to the last value of a u64
abbrev pub one_more : ℕ → ℕ
one_more count = min (count + 1) (2 ^ 64 - 1)

-- one call was made
abbrev pub after_call : Failing → Failing
after_call calls = record calls { made = one_more calls.made }
