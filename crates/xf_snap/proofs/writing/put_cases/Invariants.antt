use Rattle.std.proofs.Common.{◌≡◌, ◌++◌, take, length}
use Rattle.std.specs.List.{flat_map}
use Rattle.xf_snap.specs.Numbers.{two}
use Rattle.xf_snap.proofs.writing.put_cases.Given as goal

abbrev pub invariant-loop-place : goal.invariant-loop-place
invariant-loop-place l = l.bytes.items ≡ l.fn.bytes.items ++ (two (length l.cases) ++ flat_map two (take l.place-index l.cases))
