use Rattle.std.proofs.Common.{◌≡◌, false, not, ◌++◌, length, string_bytes}
use denote.Text.{Utf8}
use denote.Shadow.{shadow}
use Rattle.std.specs.Prelude.{chars, encode_utf8_all}
use Rattle.xf_num.specs.Written.{is_empty}
use Rattle.xf_types.proofs.SpaceLemmas.{onward}
use Rattle.xf_types.proofs.spaces.normalized.Given as goal

abbrev pub invariant-loop-c : goal.invariant-loop-c
invariant-loop-c l =
    (string_bytes l.made ++ encode_utf8_all (onward (not (is_empty (string_bytes l.made))) l.space_due (chars l.left)) ≡ encode_utf8_all (onward false false (chars l.text)))
    × shadow (Utf8 l.left)

abbrev pub decreases-loop-c : goal.decreases-loop-c
decreases-loop-c l = length l.left
