use Rattle.std.proofs.Common.{◌≤◌, length, sym, ◌∙◌, arith}
use Rattle.xf_controls.proofs.ShownLaws.{value-past, put-one}
use Rattle.xf_controls.proofs.shown.put_back.Goals as goal

pub loop-change-preserved-then-change-len : goal.loop-change-preserved-then-change-len
loop-change-preserved-then-change-len c =
    put-one c.loop-change.list c.swap_value.new.self c.pop.new.self.items c.loop-change.former.items c.in-Some.change c.in-Some.ensures.items c.swap_value.ensures.new ∙ c.loop-change.invariant

pub loop-change-preserved : goal.loop-change-preserved
loop-change-preserved c =
    let list = c.loop-change.list in
    let past : length list ≤ c.in-Some.change.place = omega (arith, c.if-change-len.false, c.len.ensures) in
    put-one list list c.pop.new.self.items c.loop-change.former.items c.in-Some.change c.in-Some.ensures.items (sym (value-past list c.in-Some.change.place c.in-Some.change.value past)) ∙ c.loop-change.invariant

pub loop-change-preserved-then-change-len-2 : goal.loop-change-preserved-then-change-len-2
loop-change-preserved-then-change-len-2 c =
    put-one c.loop-change.list c.swap_value.new.self c.pop.new.self.items c.loop-change.former.items c.in-Some.change c.in-Some.ensures.items c.swap_value.ensures.new ∙ c.loop-change.invariant

pub loop-change-preserved-else-change-len : goal.loop-change-preserved-else-change-len
loop-change-preserved-else-change-len c =
    let list = c.loop-change.list in
    let past : length list ≤ c.in-Some.change.place = omega (arith, c.if-change-len.false, c.len.ensures) in
    put-one list list c.pop.new.self.items c.loop-change.former.items c.in-Some.change c.in-Some.ensures.items (sym (value-past list c.in-Some.change.place c.in-Some.change.value past)) ∙ c.loop-change.invariant
