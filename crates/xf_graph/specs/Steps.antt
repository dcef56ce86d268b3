-- The steps of a walk that are still to be taken, the next first.
use Rattle.std.specs.Prelude.{ℕ, true, false, List, [], ◌∷◌}
use Rattle.xf_graph.specs.declared.walk.Step.{Step}

abbrev pub entry : ℕ → Step
entry vertex = record { vertex = vertex; leaves = false }

abbrev pub exit : ℕ → Step
exit vertex = record { vertex = vertex; leaves = true }

-- an entry of each vertex before the steps, the last vertex first
abbrev pub entries_before : List ℕ → List Step → List Step
entries_before [] steps = steps
entries_before (first ∷ rest) steps = entries_before rest (entry first ∷ steps)
