-- What writing the text of an element means, whatever number the text has.
use Rattle.std.specs.Prelude.{ℕ, ◌≡◌, ◌+◌, ◌≤◌, List, ◌++◌}
use Rattle.xf_def_forest.specs.Texts.{Keeping, Before, before_of, taken_from}
use Rattle.xf_def_forest.specs.Settle.{with_numbered_text}
use Rattle.xf_tree_contents.specs.Keys.{kept_times}
use Rattle.xf_tree_walks.specs.Nodes.{times}
use Rattle.xf_tree_changes.specs.Texts.{text_count}

-- what the node had, and the forest with the text, which has this number; another number is next then
abbrev pub text_written : ℕ → ℕ → ℕ → List ℕ → Keeping → Before × Keeping
text_written number next n text k = (
  before_of n k.forest.nodes,
  record {
    forest = record { nodes = with_numbered_text number n text k.forest.nodes; next = next };
    kept = k.kept ++ taken_from n k.forest.nodes;
  },
)

-- no node and no kept text has the number, and the next one then is behind it
pub record IsSpare (number next : ℕ) (text : List ℕ) (k : Keeping) : Type 0 where
  pub free : times number k.forest.nodes + kept_times number k.kept ≡ 0
  pub later : k.forest.next ≤ next
  pub below : number + text_count text ≤ next
