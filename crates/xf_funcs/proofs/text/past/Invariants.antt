use Rattle.std.proofs.Common.{◌≡◌, drop}
use denote.Shadow.{shadow}
use denote.Text.{Utf8}
use Rattle.std.specs.Prelude.{chars, encode_utf8_all}
use Rattle.xf_funcs.proofs.text.past.Given as goal

abbrev pub invariant-loop-left : goal.invariant-loop-left
invariant-loop-left l =
    (drop l.left (chars l.rest) ≡ drop l.count (chars l.text)) × (encode_utf8_all (chars l.rest) ≡ l.rest) × shadow (Utf8 l.rest)

abbrev pub decreases-loop-left : goal.decreases-loop-left
decreases-loop-left l = l.left
