use Rattle.std.proofs.Common.{◌≡◌, ◌++◌, true, take, length}
use Rattle.std.specs.List.{flat_map, list_all}
use Rattle.xf_snap.specs.Numbers.{two}
use Rattle.xf_snap.specs.Spelling.{tree_bytes}
use Rattle.xf_snap.specs.Within.{is_typed}
use Rattle.xf_snap.proofs.writing.put_documents.Given as goal

abbrev pub invariant-loop-tree : goal.invariant-loop-tree
invariant-loop-tree l = record {
  put : l.bytes.items ≡ l.fn.bytes.items ++ (two (length l.documents) ++ flat_map tree_bytes (take l.tree-index l.documents));
  typed : list_all is_typed (take l.tree-index l.documents) ≡ true;
}
