use Rattle.std.proofs.Common.{◌≡◌, ◌+◌, ◌-◌, ◌<◌, length, drop, sym, ap, ◌∙◌, arith, subst, length-drop}
use Rattle.xf_tree_rows.specs.declared.rows.Row.{Row}
use Rattle.xf_tree_rows.specs.Rows.{Sized, tree_of, top_depth, raised_part, rotated}
use Rattle.xf_tree_rows.proofs.CutLemmas.{cut-steps, cut-sized, sized-take, sized-drop, depth-at, no_row}
use Rattle.xf_tree_rows.proofs.moves.cut.Goals as goal

pub returns-clause-answer : goal.returns-clause-answer
returns-clause-answer c =
    let rows = c.args.rows.now.items in
    let n = c.end_of-end.result - c.args.at in
    let e : n ≡ length (tree_of (drop c.args.at rows)) = omega (arith, c.end_of-end.ensures.answer) in
    let end : c.end_of-end.result ≡ c.args.at + n = omega (arith, c.end_of-end.ensures.answer) in
    let deep : c.at-depth.result.depth ≡ top_depth (drop c.args.at rows) = ap (λ (r : Row). r.depth) c.at-depth.ensures ∙ depth-at c.args.at rows no_row c.requires.within in
    cut-steps c.args.at n c.at-depth.result.depth rows c.shrink.new.rows.items c.raise.new.self.items c.rotate.new.self.items c.requires.within e deep
    c.shrink.ensures.items
    (c.raise.ensures.items ∙ ap (λ x. raised_part c.args.at x c.at-depth.result.depth c.shrink.new.rows.items) end)
    (c.rotate.ensures.items ∙ ap (λ x. rotated c.args.at x c.len-all.result c.raise.new.self.items) end ∙ ap (λ x. rotated c.args.at (c.args.at + n) x c.raise.new.self.items) c.len-all.ensures)

pub returns-clause-sized : goal.returns-clause-sized
returns-clause-sized c =
    let rows = c.args.rows.now.items in
    let h : 0 < length (drop c.args.at rows) = omega (arith, length-drop c.args.at rows) in
    subst Sized (sym (returns-clause-answer c)) (cut-sized _ (drop c.args.at rows) h (sized-take c.args.at rows c.requires.sized) (sized-drop c.args.at rows c.requires.sized))
