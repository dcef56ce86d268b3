use Rattle.std.proofs.Common.{◌≡◌, ◌≤◌, ◌++◌, length, string_bytes, filter_map}
use denote.Text.{Utf8}
use denote.Shadow.{shadow}
use Rattle.std.specs.Prelude.{chars, encode_utf8_all}
use Rattle.xf_base.specs.Limits.{string_limit}
use Rattle.xf_funcs.specs.Translate.{image, translated}
use Rattle.xf_funcs.proofs.translate.translated.Given as goal

abbrev pub invariant-loop-c : goal.invariant-loop-c
invariant-loop-c l =
    (string_bytes l.made ++ encode_utf8_all (filter_map (image (chars l.from) (chars l.to)) (chars l.left)) ≡ translated l.text l.from l.to)
    × (length (string_bytes l.made) ≤ string_limit) × shadow (Utf8 l.left)

abbrev pub decreases-loop-c : goal.decreases-loop-c
decreases-loop-c l = length l.left
