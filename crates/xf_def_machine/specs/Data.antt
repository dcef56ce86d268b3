-- The data of a state, by which a session is kept: without the numbers of nodes, and without what can be made of them again.
use Rattle.std.specs.Prelude.{ℕ, List, map, length}
use Rattle.xf_def_forest.specs.declared.content.Content.{Content}
use Rattle.xf_def_machine.specs.State.{State}
use Rattle.xf_def_machine.specs.Surround.{instances_in, document_at}
use Rattle.xf_def_machine.specs.Cycles.{counted_from}
use Rattle.xf_def_machine.specs.Construct.{contents_under}

-- what of a state is kept
pub record Data : Type 0 where
  -- how many events were accepted
  pub accepted : ℕ
  -- of each instance the document element's tree, each node with its depth
  pub documents : List (List (ℕ × Content))
  -- of each repeat, and of each switch its selected case, from 0
  pub indexes : List ℕ
  pub cases : List ℕ

-- that of a state
abbrev pub data_of : State → Data
data_of s = record {
  accepted = s.accepted;
  documents = map (λ place. contents_under s (document_at s place)) (counted_from 0 (length (instances_in s)));
  indexes = map (λ i. i.index) s.indexes;
  cases = s.cases;
}
