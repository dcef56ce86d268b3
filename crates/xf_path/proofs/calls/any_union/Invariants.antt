use Rattle.std.proofs.Common.{◌≡◌, map, drop}
use Rattle.xf_path.specs.Calls.{any_union, is_union_link}
use Rattle.xf_path.proofs.calls.any_union.Given as goal

abbrev pub invariant-loop-link : goal.invariant-loop-link
invariant-loop-link l = any_union (map is_union_link (drop l.link-index l.links)) ≡ any_union (map is_union_link l.links)
