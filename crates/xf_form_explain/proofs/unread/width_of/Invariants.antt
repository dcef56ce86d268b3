use Rattle.std.proofs.Common.{◌≡◌, ◌≤◌, ◌+◌, drop}
use Rattle.xf_form_explain.specs.Unread.{width_in}
use Rattle.xf_form_explain.proofs.unread.width_of.Given as goal

abbrev pub invariant-loop-byte : goal.invariant-loop-byte
invariant-loop-byte l = record {
  same : width_in 1 0 l.line l.bytes ≡ width_in l.at l.width l.line (drop l.byte-index l.bytes);
  few : l.at ≤ l.byte-index + 1;
  short : l.width ≤ l.byte-index;
}
