use Rattle.std.proofs.Common.{◌≡◌}
use Rattle.xf_def_forest.specs.Shape.{as_texts}
use Rattle.xf_def_forest.specs.Settle.{are_texts}
use Rattle.xf_tree_walks.specs.Reads.{texts_left}
use Rattle.xf_tree_walks.proofs.StandLemmas.{texts_from}
use Rattle.xf_tree_walks.proofs.pieces.are_texts.Given as goal

-- what is left of the rows decides
abbrev pub invariant-loop-at : goal.invariant-loop-at
invariant-loop-at l = are_texts (texts_left l.found l.text) (texts_from l.slots l.at l.rows) ≡ are_texts (as_texts l.text) (texts_from l.slots 0 l.rows)
