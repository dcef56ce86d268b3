use Rattle.std.proofs.Common.{◌≡◌, ◌+◌, ◌-◌, ◌<◌, ◌≤◌, ◌^◌, length, take, drop, sym, ap, ◌∙◌, arith, subst}
use Rattle.std.specs.List.{All}
use Rattle.xf_tree_rows.specs.declared.rows.Row.{Row}
use Rattle.xf_tree_rows.specs.Rows.{tree_of, deepened_part, rotated}
use Rattle.xf_tree_rows.proofs.PasteLemmas.{paste-steps, paste-keeps, room-for, fits-part, after-grown}
use Rattle.xf_tree_rows.proofs.moves.paste.Goals as goal

pub grow-requires-clause-room : goal.grow-requires-clause-room
grow-requires-clause-room c =
    let xs = c.args.rows.now.items in
    let le : c.end_of-end.result - c.args.from ≤ length xs = omega (arith, c.end_of-end.ensures.within) in
    room-for c.args.to (c.end_of-end.result - c.args.from) xs c.requires.sized c.requires.few le

pub deepen-requires-clause-fits : goal.deepen-requires-clause-fits
deepen-requires-clause-fits c =
    let from = c.args.from in
    let to = c.args.to in
    let xs = c.args.rows.now.items in
    let n = c.end_of-end.result - from in
    let in_xs : to ≤ length xs = omega (arith, c.requires.order, c.requires.within) in
    let from_in : from ≤ length xs = omega (arith, c.requires.within) in
    let same = ap (drop from) c.grow.ensures.items ∙ after-grown from to n c.args.depth xs c.requires.order in_xs in
    subst (λ l. All (λ (r : Row). r.depth + c.args.depth < 2 ^ 32) (take n l)) (sym same) (fits-part from n c.args.depth xs from_in c.requires.fits)

pub returns-clause-answer : goal.returns-clause-answer
returns-clause-answer c =
    let from = c.args.from in
    let to = c.args.to in
    let xs = c.args.rows.now.items in
    let n = c.end_of-end.result - from in
    let e : n ≡ length (tree_of (drop from xs)) = omega (arith, c.end_of-end.ensures.answer) in
    let end : c.end_of-end.result ≡ from + n = omega (arith, c.end_of-end.ensures.answer) in
    paste-steps from to n c.args.depth xs c.grow.new.rows.items c.deepen.new.self.items c.rotate.new.self.items c.requires.order c.requires.within e
    c.grow.ensures.items
    (c.deepen.ensures.items ∙ ap (λ x. deepened_part from x c.args.depth c.grow.new.rows.items) end)
    (c.rotate.ensures.items ∙ ap (λ x. rotated to from x c.deepen.new.self.items) end)

pub returns-clause-sized : goal.returns-clause-sized
returns-clause-sized c =
    paste-keeps c.args.from c.args.to c.args.depth c.args.rows.now.items c.rotate.new.self.items c.requires.order c.requires.within c.requires.sized c.requires.alone c.requires.place (returns-clause-answer c)
