use Rattle.std.proofs.Common.{◌≡◌, ◌+◌, ◌++◌, length, take}
use Rattle.std.specs.Prelude.{string_bytes}
use Rattle.xf_tree_walks.specs.Nodes.{texts_in}
use Rattle.xf_tree_walks.proofs.text.push_texts.Given as goal

abbrev pub invariant-loop-at : goal.invariant-loop-at
invariant-loop-at l =
    (l.left + length (texts_in l.slots (take l.at l.rows)) ≡ l.most) × (string_bytes l.text ≡ string_bytes l.fn.text ++ texts_in l.slots (take l.at l.rows))
