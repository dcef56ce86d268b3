-- Nodes of the forest, as the calls go through them: which have a list of attributes and children, and by which each is read (XPath 1.0,
-- section 5).
use Rattle.std.specs.Prelude.{ℕ, Bool, List, unwrap_or, if◌then◌else◌}
use Rattle.xf_def_forest.specs.declared.content.Node.{Node}
use Rattle.xf_def_forest.specs.Forest.{content_at}
use Rattle.xf_def_forest.specs.Visit.{parent_of, visits}
use Rattle.xf_eval_shape.specs.Spots.{is_text_in}
use Rattle.xf_eval_shape.specs.Steps.{has_list_in}

abbrev pub has_list_of : List Node → ℕ → Bool
has_list_of nodes n = has_list_in (content_at n nodes)

-- a text is read with its parent
abbrev pub reader_at : List Node → ℕ → ℕ
reader_at nodes n = if is_text_in (content_at n nodes) then unwrap_or (parent_of n (visits nodes)) n else n
