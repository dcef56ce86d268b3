use Rattle.std.proofs.Common.{◌≡◌, ◌∙◌, ◌+◌, ◌-◌, length, rules, refl}
use Rattle.std.specs.Prelude.{IsTrue}
use Rattle.xf_journal.specs.Entry.{written_bytes}
use Rattle.xf_journal.proofs.AppendRun.{behind_run, gate_run, holds_more, in_hand_more}
use Rattle.xf_journal.proofs.journal.Journal.append.Goals as goal

pub returns-in_err-write_synced-clause-each_moment : goal.returns-in_err-write_synced-clause-each_moment
returns-in_err-write_synced-clause-each_moment g c = λ told log r.
    let d = g.D.Disk in
    let entry = c.args.entry.now in
    let is : c.bytes-written.result.now ≡ written_bytes entry.line entry.answers = c.bytes-written.ensures.bytes in
    behind_run d.seen d.may_leave d.moment d.left_since c.args.disk.now c.args.self.now log r entry.line entry.answers c.bytes-written.ensures.within c.bytes-written.result.now is c.write_synced.new.disk c.write_synced.ensures.each_moment

pub returns-in_err-write_synced-2-clause-each_moment : goal.returns-in_err-write_synced-2-clause-each_moment
returns-in_err-write_synced-2-clause-each_moment g c = λ told log r.
    let d = g.D.Disk in
    let entry = c.args.entry.now in
    let is : c.bytes-written.result.now ≡ written_bytes entry.line entry.answers = c.bytes-written.ensures.bytes in
    let first = c.in_ok-write_synced.ensures in
    let so_far = behind_run d.seen d.may_leave d.moment d.left_since c.args.disk.now c.args.self.now log r entry.line entry.answers c.bytes-written.ensures.within c.bytes-written.result.now is c.write_synced.new.disk c.write_synced.ensures.each_moment in
    let gate : c.saturating_sub-gate.result ≡ c.args.self.now.used - 1 = search rules in
    gate_run d.seen d.may_leave d.moment d.left_since c.args.disk.now c.args.self.now log r entry.line entry.answers c.bytes-written.ensures.within c.bytes-written.result.now is
    c.write_synced.new.disk (first.written told) (first.beside told) c.write_synced-2.new.disk c.saturating_sub-gate.result gate (first.settled told r.settled) so_far c.write_synced-2.ensures.each_moment

pub returns-clause-each_moment : goal.returns-clause-each_moment
returns-clause-each_moment g c = λ told log r.
    let d = g.D.Disk in
    let entry = c.args.entry.now in
    let is : c.bytes-written.result.now ≡ written_bytes entry.line entry.answers = c.bytes-written.ensures.bytes in
    let first = c.in_ok-write_synced.ensures in
    let so_far = behind_run d.seen d.may_leave d.moment d.left_since c.args.disk.now c.args.self.now log r entry.line entry.answers c.bytes-written.ensures.within c.bytes-written.result.now is c.write_synced.new.disk c.write_synced.ensures.each_moment in
    let gate : c.saturating_sub-gate.result ≡ c.args.self.now.used - 1 = search rules in
    gate_run d.seen d.may_leave d.moment d.left_since c.args.disk.now c.args.self.now log r entry.line entry.answers c.bytes-written.ensures.within c.bytes-written.result.now is
    c.write_synced.new.disk (first.written told) (first.beside told) c.write_synced-2.new.disk c.saturating_sub-gate.result gate (first.settled told r.settled) so_far c.write_synced-2.ensures.each_moment

pub returns-clause-done : goal.returns-clause-done
returns-clause-done g c = λ told log r.
    let d = g.D.Disk in
    let entry = c.args.entry.now in
    let is : c.bytes-written.result.now ≡ written_bytes entry.line entry.answers = c.bytes-written.ensures.bytes in
    let first = c.in_ok-write_synced.ensures in
    let second = c.in_ok-write_synced-2.ensures in
    let still : IsTrue (d.tells c.write_synced.new.disk) = first.tells ∙ told in
    let gate : c.saturating_sub-gate.result ≡ c.args.self.now.used - 1 = search rules in
    record {
      holds = holds_more d.seen d.may_leave d.moment d.left_since c.args.disk.now c.args.self.now log r entry.line entry.answers c.bytes-written.ensures.within c.bytes-written.result.now is
          c.write_synced.new.disk (first.written told) (first.beside told) c.write_synced-2.new.disk c.saturating_sub-gate.result gate (second.written still) (second.beside still);
      whole = refl;
      in_hand = in_hand_more d.seen d.may_leave d.moment d.left_since c.args.disk.now c.args.self.now log r entry.line entry.answers c.bytes-written.ensures.within c.bytes-written.result.now is
          c.write_synced.new.disk (first.written told) (first.beside told) c.saturating_add-self.result (c.args.self.now.used + length c.bytes-written.result.now) (search rules) refl (search rules);
      settled = second.settled still (first.settled told r.settled);
    }
