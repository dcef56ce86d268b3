use Rattle.std.proofs.Common.{◌≡◌, None}
use Rattle.xf_store.specs.Held.{place_from}
use Rattle.xf_store.proofs.HeldLemmas.{put_in_place, put_last}
use Rattle.xf_store.proofs.memory.put_named.Goals as goal

pub returns-in-Some-clause-ok : goal.returns-in-Some-clause-ok
returns-in-Some-clause-ok c = put_in_place c.args.name.now c.args.bytes.now c.in_ok-copied.field-0 c.in_ok-copied-2.field-0 c.args.held.now c.as_slice.result.now c.set.new.self c.in-Some.at c.in-Some.ensures.place c.as_slice.ensures c.set.ensures c.in_ok-copied.ensures c.in_ok-copied-2.ensures

pub returns-clause-ok : goal.returns-clause-ok
returns-clause-ok c =
    let none : place_from 0 c.args.name.now c.args.held.now ≡ None = cc (c.in_default.is, c.place_of.ensures.place, c.as_slice.ensures) in
    let last = put_last c.args.name.now c.args.bytes.now c.in_ok-copied.field-0 c.in_ok-copied-2.field-0 c.args.held.now none c.in_ok-copied.ensures c.in_ok-copied-2.ensures in
    rw last c.push.ensures.ok
