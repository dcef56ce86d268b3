use Rattle.std.proofs.Common.{◌≡◌, ◌+◌, ◌*◌, ◌++◌, true, take, length}
use Rattle.std.specs.List.{flat_map, list_all}
use Rattle.xf_snap.specs.Numbers.{two, four}
use Rattle.xf_snap.specs.Spelling.{name_bytes, attribute_bytes, tree_bytes}
use Rattle.xf_snap.specs.Within.{is_typed}
use Rattle.xf_snap.proofs.writing.+put.Given as goal

abbrev pub invariant-put_element-loop-child : goal.invariant-put_element-loop-child
invariant-put_element-loop-child l = record {
  put : l.bytes.items
      ≡ l.fn.bytes.items ++ (name_bytes l.element.name ++ (two (length l.element.attributes) ++ (flat_map attribute_bytes l.element.attributes ++ (four (length l.element.children) ++ flat_map tree_bytes (take l.child-index l.element.children)))));
  typed : list_all is_typed (take l.child-index l.element.children) ≡ true;
}

abbrev pub decreases-put_element : goal.decreases-put_element
decreases-put_element l = 2 * l.depth

abbrev pub decreases-put_tree : goal.decreases-put_tree
decreases-put_tree l = 2 * l.depth + 1
