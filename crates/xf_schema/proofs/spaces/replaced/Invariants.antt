use Rattle.std.proofs.Common.{◌≡◌, ◌++◌, length, map, string_bytes}
use denote.Text.{Utf8}
use denote.Shadow.{shadow}
use Rattle.std.specs.Prelude.{chars, encode_utf8_all}
use Rattle.xf_schema.specs.Spaces.{as_space}
use Rattle.xf_schema.proofs.spaces.replaced.Given as goal

abbrev pub invariant-loop-c : goal.invariant-loop-c
invariant-loop-c l =
    (string_bytes l.made ++ encode_utf8_all (map as_space (chars l.left)) ≡ encode_utf8_all (map as_space (chars l.text)))
    × shadow (Utf8 l.left)

abbrev pub decreases-loop-c : goal.decreases-loop-c
decreases-loop-c l = length l.left
