use Rattle.std.proofs.Common.{◌≡◌, map, drop}
use Rattle.xf_path.specs.Static.{any_union, static_of_link}
use Rattle.xf_path.proofs.statics.any_union.Given as goal

abbrev pub invariant-loop-link : goal.invariant-loop-link
invariant-loop-link l = any_union (map static_of_link (drop l.link-index l.links)) ≡ any_union (map static_of_link l.links)
