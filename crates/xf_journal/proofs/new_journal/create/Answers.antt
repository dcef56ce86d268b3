use Rattle.std.proofs.Common.{◌≡◌, ◌≤◌, ◌^◌, ◌∙◌, arith, refl, rules, length}
use Rattle.std.specs.Prelude.{IsTrue}
use Rattle.xf_disk.specs.Image.{in_slot}
use Rattle.xf_disk.specs.Marks.{spliced}
use Rattle.xf_journal.specs.Layout.{new_bytes}
use Rattle.xf_journal.proofs.CreateRun.{close_run, behind_run, open_run, new_holds}
use Rattle.xf_journal.proofs.new_journal.create.Goals as goal

pub returns-in_err-close_gate-clause-each_moment : goal.returns-in_err-close_gate-clause-each_moment
returns-in_err-close_gate-clause-each_moment g c = λ told r.
    let d = g.D.Disk in
    let image = c.args.image.now in
    let closed = close_run d.seen d.may_leave d.moment d.left_since c.args.slot c.args.epoch image c.args.disk.now r c.close_gate.new.disk (c.close_gate.ensures.each_moment told r.settled) in
    closed

pub returns-in_err-write_behind-clause-each_moment : goal.returns-in_err-write_behind-clause-each_moment
returns-in_err-write_behind-clause-each_moment g c = λ told r.
    let d = g.D.Disk in
    let image = c.args.image.now in
    let closed = close_run d.seen d.may_leave d.moment d.left_since c.args.slot c.args.epoch image c.args.disk.now r c.close_gate.new.disk (c.close_gate.ensures.each_moment told r.settled) in
    let shut = c.in_ok-close_gate.ensures in
    let still : IsTrue (d.tells c.close_gate.new.disk) = shut.tells ∙ told in
    let written = behind_run d.seen d.may_leave d.moment d.left_since c.args.slot c.args.epoch image c.args.disk.now r c.close_gate.new.disk (shut.shut told) (shut.beside told) c.write_behind.new.disk (shut.settled told r.settled) closed c.write_behind.ensures.each_moment in
    written

pub returns-in_err-write_synced-clause-each_moment : goal.returns-in_err-write_synced-clause-each_moment
returns-in_err-write_synced-clause-each_moment g c = λ told r.
    let d = g.D.Disk in
    let image = c.args.image.now in
    let closed = close_run d.seen d.may_leave d.moment d.left_since c.args.slot c.args.epoch image c.args.disk.now r c.close_gate.new.disk (c.close_gate.ensures.each_moment told r.settled) in
    let shut = c.in_ok-close_gate.ensures in
    let still : IsTrue (d.tells c.close_gate.new.disk) = shut.tells ∙ told in
    let written = behind_run d.seen d.may_leave d.moment d.left_since c.args.slot c.args.epoch image c.args.disk.now r c.close_gate.new.disk (shut.shut told) (shut.beside told) c.write_behind.new.disk (shut.settled told r.settled) closed c.write_behind.ensures.each_moment in
    let mid = c.in_ok-write_behind.ensures in
    let fits : length image.base ≤ 2 ^ 26 = omega (arith, c.requires.room) in
    let behind : in_slot c.args.slot (d.seen c.write_behind.new.disk) ≡ spliced 1 (new_bytes c.args.epoch image) (in_slot c.args.slot (d.seen c.close_gate.new.disk)) = mid.written still in
    open_run d.seen d.may_leave d.moment d.left_since c.args.slot c.args.epoch image c.args.disk.now r c.close_gate.new.disk (shut.shut told) (shut.beside told) c.write_behind.new.disk behind (mid.beside still)
    c.requires.epoch c.requires.form fits c.write_synced.new.disk (mid.settled still (shut.settled told r.settled)) written c.write_synced.ensures.each_moment

pub returns-clause-each_moment : goal.returns-clause-each_moment
returns-clause-each_moment g c = λ told r.
    let d = g.D.Disk in
    let image = c.args.image.now in
    let closed = close_run d.seen d.may_leave d.moment d.left_since c.args.slot c.args.epoch image c.args.disk.now r c.close_gate.new.disk (c.close_gate.ensures.each_moment told r.settled) in
    let shut = c.in_ok-close_gate.ensures in
    let still : IsTrue (d.tells c.close_gate.new.disk) = shut.tells ∙ told in
    let written = behind_run d.seen d.may_leave d.moment d.left_since c.args.slot c.args.epoch image c.args.disk.now r c.close_gate.new.disk (shut.shut told) (shut.beside told) c.write_behind.new.disk (shut.settled told r.settled) closed c.write_behind.ensures.each_moment in
    let mid = c.in_ok-write_behind.ensures in
    let fits : length image.base ≤ 2 ^ 26 = omega (arith, c.requires.room) in
    let behind : in_slot c.args.slot (d.seen c.write_behind.new.disk) ≡ spliced 1 (new_bytes c.args.epoch image) (in_slot c.args.slot (d.seen c.close_gate.new.disk)) = mid.written still in
    open_run d.seen d.may_leave d.moment d.left_since c.args.slot c.args.epoch image c.args.disk.now r c.close_gate.new.disk (shut.shut told) (shut.beside told) c.write_behind.new.disk behind (mid.beside still)
    c.requires.epoch c.requires.form fits c.write_synced.new.disk (mid.settled still (shut.settled told r.settled)) written c.write_synced.ensures.each_moment

pub returns-clause-done : goal.returns-clause-done
returns-clause-done g c = λ told r.
    let d = g.D.Disk in
    let image = c.args.image.now in
    let shut = c.in_ok-close_gate.ensures in
    let still : IsTrue (d.tells c.close_gate.new.disk) = shut.tells ∙ told in
    let mid = c.in_ok-write_behind.ensures in
    let fits : length image.base ≤ 2 ^ 26 = omega (arith, c.requires.room) in
    let behind : in_slot c.args.slot (d.seen c.write_behind.new.disk) ≡ spliced 1 (new_bytes c.args.epoch image) (in_slot c.args.slot (d.seen c.close_gate.new.disk)) = mid.written still in
    let end = c.in_ok-write_synced.ensures in
    let still_mid : IsTrue (d.tells c.write_behind.new.disk) = mid.tells ∙ still in
    record {
      holds = new_holds d.seen d.may_leave d.moment d.left_since c.args.slot c.args.epoch image c.args.disk.now r c.close_gate.new.disk (shut.shut told) (shut.beside told) c.write_behind.new.disk behind (mid.beside still)
          c.requires.epoch c.requires.form fits c.write_synced.new.disk (end.written still_mid) (end.beside still_mid);
      whole = refl;
      in_hand = search rules;
      settled = end.settled still_mid (mid.settled still (shut.settled told r.settled));
    }
