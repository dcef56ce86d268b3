use Rattle.std.proofs.Common.{◌≡◌, ◌+◌, ◌-◌, ◌≤◌, length, arith}
use Rattle.xf_tree_rows.proofs.RootedLemmas.{rooted-steps}
use Rattle.xf_tree_rows.proofs.moves.lift_root.Goals as goal

pub returns-clause-answer : goal.returns-clause-answer
returns-clause-answer c =
    let old = c.args.rows.now.items in
    let last = c.len-last.result - 1 in
    let within = c.requires.within in
    let h : c.args.from ≤ last = omega (arith, c.len-last.ensures) in
    let len : length old ≡ last + 1 = omega (arith, c.len-last.ensures) in
    rooted-steps c.args.place c.args.from last old c.deepen.new.self.items c.rotate.new.self.items c.rotate-2.new.self.items c.requires.order h len c.deepen.ensures.items c.rotate.ensures.items c.rotate-2.ensures.items
