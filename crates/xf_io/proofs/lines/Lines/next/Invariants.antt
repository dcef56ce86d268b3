use Rattle.std.proofs.Common.{◌≡◌, ◌≤◌, ◌-◌, ◌+◌, List, ℕ, length, true, []}
use Rattle.std.specs.Io.KnownBytes.{Consumes, IsAtEnd, prepend_known}
use Rattle.xf_base.specs.Limits.{stream_limit}
use Rattle.xf_io.specs.Part.{IsPart}
use Rattle.xf_io.proofs.lines.Lines.next.Given as goal

abbrev pub invariant-loop-part : goal.invariant-loop-part
invariant-loop-part g l =
    let left = g.S.Source.left in
    (bytes : List ℕ) × record {
      is_part : IsPart bytes l.part;
      taken : Consumes (prepend_known l.fn.self.bytes (left l.fn.source)) (prepend_known l.self.bytes (left l.source)) bytes;
      counted : l.self.given ≡ l.fn.self.given + length bytes;
      within : l.self.given ≤ stream_limit;
      done : l.fn.self.ended ≡ true → (l.self.ended ≡ true) × (bytes ≡ []);
      one_source : l.self.ended ≡ true → IsAtEnd (left l.source);
      later : g.S.Source.faults l.fn.source ≤ g.S.Source.faults l.source;
    }

abbrev pub decreases-loop-part : goal.decreases-loop-part
decreases-loop-part g l = stream_limit - l.self.given
