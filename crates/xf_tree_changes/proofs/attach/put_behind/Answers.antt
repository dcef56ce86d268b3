use Rattle.std.proofs.Common.{◌+◌, ◌-◌, ◌≤◌, length, drop, inl, inr, arith}
use Rattle.xf_tree_rows.specs.Rows.{tree_of}
use Rattle.xf_tree_changes.proofs.BehindLemmas.{last-sized, last-behind}
use Rattle.xf_tree_changes.proofs.attach.put_behind.Goals.{After-move_last-from}
use Rattle.xf_tree_changes.proofs.attach.put_behind.Goals as goal

beyond : (c : After-move_last-from) → c.args.at + length (tree_of (drop c.args.at c.args.rows.now.items)) ≤ c.args.above
beyond c = elim c.requires.outside [ inl l ↦ absurd (let no = c.if-above-at.false in omega arith) | inr l ↦ l ]

pub returns-clause-sized : goal.returns-clause-sized
returns-clause-sized c =
    last-sized c.args.at c.args.above c.move_last-from.result c.args.rows.now.items c.move_last-from.new.rows.items c.requires.within c.requires.parent (beyond c) c.move_last-from.ensures.moved c.move_last-from.ensures.from
    c.requires.top c.requires.sized

pub returns-clause-behind : goal.returns-clause-behind
returns-clause-behind c =
    last-behind c.args.at c.args.above c.move_last-from.result c.args.rows.now.items c.move_last-from.new.rows.items c.requires.within c.requires.parent (beyond c) c.move_last-from.ensures.moved c.move_last-from.ensures.from
    (c.args.above - (c.end_of-end.result - c.args.at)) (omega (arith, c.end_of-end.ensures.answer))
