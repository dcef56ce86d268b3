-- What a key of the slab stands for: a node, or a kept text.
use Rattle.std.specs.Prelude.{ℕ}
use Rattle.xf_def_forest.specs.declared.content.Content.{Content}

pub record Slot : Type 0 where
  pub number : ℕ
  -- of a kept text, the number of the element that it was taken from
  pub owner : ℕ
  pub content : Content
