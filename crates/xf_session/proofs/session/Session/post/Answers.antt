use Rattle.xf_session.specs.Keeping.{used_in}
use Rattle.xf_session.specs.Posting.{IsTried}
use Rattle.xf_session.proofs.PostLaws.{err-is, full-is, room-is, broken, full, not-taken-as, kept, taken-back, rest-kept, rest-of}
use Rattle.xf_session.proofs.session.Session.post.Goals as goal

pub returns-then-self-clause-done : goal.returns-then-self-clause-done
returns-then-self-clause-done g c =
    let p = g.P.Processor in
    let d = g.D.Disk in
    broken p.state p.kept p.calls d.tells d.seen d.may_leave d.moment d.left_since g.met.D.Disk.only_now c.args.self.now c.args.line.now c.args.event.now _ _ _ c.args.disk.now c.if-self.true

pub returns-then-is_full-clause-done : goal.returns-then-is_full-clause-done
returns-then-is_full-clause-done g c =
    let p = g.P.Processor in
    let d = g.D.Disk in
    full p.state p.kept p.calls d.tells d.seen d.may_leave d.moment d.left_since g.met.D.Disk.only_now c.args.self.now c.args.line.now c.args.event.now _ _ _ c.args.disk.now c.if-self.false
    (full-is (used_in c.args.self.now.journal) c.is_full.result c.is_full.ensures c.if-is_full.true)

pub returns-in_err-post-clause-done : goal.returns-in_err-post-clause-done
returns-in_err-post-clause-done g c =
    let p = g.P.Processor in
    let d = g.D.Disk in
    let tried : IsTried c.args.self.now = record { whole = c.if-self.false; room = room-is (used_in c.args.self.now.journal) c.is_full.result c.is_full.ensures c.if-is_full.false } in
    not-taken-as p.state p.kept p.calls d.tells d.seen d.may_leave d.moment d.left_since g.met.D.Disk.only_now c.from_residual.result _ c.args.self.now c.post.new.self c.args.line.now c.args.event.now _ _ _ _ _ c.args.disk.now tried
    (err-is c.from_residual.result _ c.from_residual.ensures.0 c.from_residual.ensures.1) c.in_err-post.ensures.done

pub returns-in-Ok-clause-done : goal.returns-in-Ok-clause-done
returns-in-Ok-clause-done g c =
    let p = g.P.Processor in
    let d = g.D.Disk in
    let tried : IsTried c.args.self.now = record { whole = c.if-self.false; room = room-is (used_in c.args.self.now.journal) c.is_full.result c.is_full.ensures c.if-is_full.false } in
    let keep = c.in-Ok.ensures in
    kept p.state p.kept p.calls d.tells d.seen d.may_leave d.moment d.left_since g.met.D.Disk.only_now c.args.self.now c.keep.new.self c.post.new.self c.commit.new.self c.args.line.now c.args.event.now _ _ _ _ c.args.disk.now c.keep.new.disk tried
    c.in_ok-post.ensures.done (λ told. keep.each_moment told) (λ told. keep.done told) keep.kept keep.keeps c.commit.ensures.same c.requires.rest

pub returns-in-Err-clause-done : goal.returns-in-Err-clause-done
returns-in-Err-clause-done g c =
    let p = g.P.Processor in
    let d = g.D.Disk in
    let tried : IsTried c.args.self.now = record { whole = c.if-self.false; room = room-is (used_in c.args.self.now.journal) c.is_full.result c.is_full.ensures c.if-is_full.false } in
    let keep = c.in-Err.ensures in
    taken-back p.state p.kept p.calls d.tells d.seen d.may_leave d.moment d.left_since g.met.D.Disk.only_now c.in-Err.fault c.args.self.now c.keep.new.self c.post.new.self c.roll_back.new.self c.args.line.now c.args.event.now _ _ _ _ c.args.disk.now c.keep.new.disk tried
    c.in_ok-post.ensures.done c.in_ok-post.ensures.kept (λ told. keep.each_moment told) keep.kept keep.keeps c.roll_back.ensures.state

pub returns-in-Ok-clause-rest : goal.returns-in-Ok-clause-rest
returns-in-Ok-clause-rest g c = λ told.
    let p = g.P.Processor in
    let d = g.D.Disk in
    let tried : IsTried c.args.self.now = record { whole = c.if-self.false; room = room-is (used_in c.args.self.now.journal) c.is_full.result c.is_full.ensures c.if-is_full.false } in
    let keep = c.in-Ok.ensures in
    rest-kept p.state p.kept p.calls d.tells d.seen d.may_leave d.moment d.left_since g.met.D.Disk.only_now c.args.self.now c.keep.new.self c.commit.new.self c.args.line.now _ c.args.disk.now c.keep.new.disk tried
    (c.requires.rest told) (keep.done told) keep.keeps

pub returns-in-Err-clause-rest : goal.returns-in-Err-clause-rest
returns-in-Err-clause-rest g c = λ told.
    let p = g.P.Processor in
    let d = g.D.Disk in
    rest-of p.state p.kept p.calls d.tells d.seen d.may_leave d.moment d.left_since g.met.D.Disk.only_now c.in-Err.fault c.args.self.now c.keep.new.self c.post.new.self c.roll_back.new.self c.args.disk.now c.keep.new.disk
    c.in-Err.ensures.kept (c.requires.rest told)
