-- Texts that are lent.
use Rattle.std.specs.Prelude.{ℕ, List, map}
use denote.Ref.{Bor}

abbrev pub texts : List (Bor (List ℕ)) → List (List ℕ)
texts names = map (λ n. n.now) names
