use Rattle.std.proofs.Common.{◌≡◌, ◌++◌, ◌^◌, true, take, length}
use Rattle.std.specs.Prelude.{nat_lt}
use Rattle.std.specs.List.{flat_map, list_all}
use Rattle.xf_snap.specs.Numbers.{two, four}
use Rattle.xf_snap.proofs.writing.put_indexes.Given as goal

abbrev pub invariant-loop-index : goal.invariant-loop-index
invariant-loop-index l = record {
  put : l.bytes.items ≡ l.fn.bytes.items ++ (two (length l.indexes) ++ flat_map four (take l.index-index l.indexes));
  typed : list_all (λ index. nat_lt index (2 ^ 32)) (take l.index-index l.indexes) ≡ true;
}
