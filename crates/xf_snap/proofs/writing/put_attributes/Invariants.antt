use Rattle.std.proofs.Common.{◌≡◌, ◌++◌, true, take, length}
use Rattle.std.specs.List.{flat_map, list_all}
use Rattle.xf_snap.specs.Numbers.{two}
use Rattle.xf_snap.specs.Spelling.{attribute_bytes}
use Rattle.xf_snap.specs.Within.{is_typed_attribute}
use Rattle.xf_snap.proofs.writing.put_attributes.Given as goal

abbrev pub invariant-loop-attribute : goal.invariant-loop-attribute
invariant-loop-attribute l = record {
  put : l.bytes.items ≡ l.fn.bytes.items ++ (two (length l.attributes) ++ flat_map attribute_bytes (take l.attribute-index l.attributes));
  typed : list_all is_typed_attribute (take l.attribute-index l.attributes) ≡ true;
}
