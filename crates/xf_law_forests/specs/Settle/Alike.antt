-- What was written, as the data that hold it: visits that are the same but for the numbers of texts.
use Rattle.std.specs.Prelude.{ℕ, ◌≡◌, ◌<◌, Bool, false, ◌&&◌, List, filter, find, map, Option, option_map, ◌==◌}
use Rattle.std.specs.List.{list_any}
use Rattle.xf_def_forest.specs.declared.content.Node.{Node}
use Rattle.xf_def_forest.specs.Forest.{is_text}
use Rattle.xf_def_forest.specs.Visit.{Visit}
use Rattle.xf_def_forest.specs.Same.{IsRenumbering, renumbered_visit}
use Rattle.xf_law_forests.specs.Settle.Written.{Contents}

-- the content that a node is given
abbrev pub content_of : Contents → ℕ → Option (List ℕ)
content_of contents n = option_map (λ p. p.1) (find (λ p. p.0 == n) contents)

-- those of the contents whose nodes are done
abbrev pub done_of : (ℕ → Bool) → Contents → Contents
done_of done contents = filter (λ p. done p.0) contents

-- one renumbering makes the first visits the second ones; it keeps each number below this one that is of no text among these nodes
pub record AreAlike (number : ℕ) (nodes : List Node) (first second : List Visit) : Type 0 where
  pub by : ℕ → ℕ
  pub renumbers : IsRenumbering by
  pub stays : (n : ℕ) → n < number → list_any (λ x. (x.number == n) && is_text x.content) nodes ≡ false → by n ≡ n
  pub visits : map (renumbered_visit by) first ≡ second
