-- Where a node of the data stands: the model whose instance holds it (XForms 1.1, section 3.3.2).
use Rattle.std.specs.Prelude.{ℕ, ◌≡◌, Bool, true, false, Option, Some, None, option_and_then, option_map, slice_get, List, ◌==◌}
use Rattle.xf_def_syntax.specs.declared.form.Instance.{Instance}
use Rattle.xf_def_forest.specs.declared.content.Node.{Node}
use Rattle.xf_def_forest.specs.Forest.{Forest, has_number}
use Rattle.xf_def_forest.specs.Order.{instance_of}
use Rattle.xf_def_forest.specs.Visit.{visits, top_of}
use Rattle.xf_def_forest.specs.WellFormed.{HasTrees}
use Rattle.xf_law_recalculation.specs.Elsewhere.Parts.{IsPart}

-- the model whose instance holds it: none where it stands in a detached tree
abbrev pub holder : List Instance → ℕ → List Node → Option ℕ
holder instances n nodes = option_and_then (λ place. option_map (λ i. i.model) (slice_get instances place)) (instance_of (top_of n (visits nodes)) nodes)

abbrev pub is_held : ℕ → Option ℕ → Bool
is_held model None = false
is_held model (Some other) = model == other

-- a node is in the part exactly where an instance of the model holds it
abbrev pub HeldInPart : Type 0
HeldInPart = (instances : List Instance) (model n : ℕ) (part whole : Forest) → IsPart instances model part whole → HasTrees whole → has_number n part.nodes ≡ is_held model (holder instances n whole.nodes)

-- no node is in the parts of two models
abbrev pub PartsApart : Type 0
PartsApart = (instances : List Instance) (model other n : ℕ) (part another whole : Forest) → IsPart instances model part whole → IsPart instances other another whole → HasTrees whole → (model == other) ≡ false →
    has_number n another.nodes ≡ true → has_number n part.nodes ≡ false
