-- What stands where some contents of nodes were written (XForms 1.1, section 4.3.2): each has a number by its place, whether it was written
-- or not, so that only which of them were written counts.
use Rattle.std.specs.Prelude.{ℕ, suc, ◌≡◌, ◌≤◌, Bool, true, not, ◌&&◌, ◌||◌, List, [], ◌∷◌, map, ◌==◌, if◌then◌else◌}
use Rattle.xf_def_forest.specs.declared.content.Node.{Node}
use Rattle.xf_def_forest.specs.Forest.{Forest}
use Rattle.xf_def_forest.specs.Visit.{has}
use Rattle.xf_def_forest.specs.Needs.{IsSettable}
use Rattle.xf_def_forest.specs.Settle.{with_settled_text}
use Rattle.xf_def_forest.specs.WellFormed.{HasTrees}

-- nodes with their contents
abbrev pub Contents : Type 0
Contents = List (ℕ × List ℕ)

-- the nodes where those of these contents were written whose nodes are done; the first content has this number
abbrev pub written : (ℕ → Bool) → ℕ → Contents → List Node → List Node
written done number [] nodes = nodes
written done number ((n, text) ∷ contents) nodes = written done (suc number) contents (if done n then with_settled_text number n text nodes else nodes)

-- one node more is done
abbrev pub and_one : ℕ → (ℕ → Bool) → ℕ → Bool
and_one n done m = (m == n) || done m

abbrev pub nodes_of : Contents → List ℕ
nodes_of contents = map (λ p. p.0) contents

abbrev pub are_different : List ℕ → Bool
are_different [] = true
are_different (n ∷ ns) = not (has n ns) && are_different ns

abbrev pub AreSettable : Contents → Forest → Type 0
AreSettable [] forest = Unit {0}
AreSettable (p ∷ ps) forest = IsSettable p.0 forest × AreSettable ps forest

-- different nodes of a forest whose texts can be set, and numbers past all that it has
pub record MayWrite (number : ℕ) (contents : Contents) (forest : Forest) : Type 0 where
  pub trees : HasTrees forest
  pub settable : AreSettable contents forest
  pub different : are_different (nodes_of contents) ≡ true
  pub later : forest.next ≤ number
