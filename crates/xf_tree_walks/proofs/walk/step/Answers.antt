use Rattle.std.proofs.Common.{◌<◌, length, map, take, drop, reverse, ap, ◌∙◌, subst, arith}
use Rattle.xf_def_forest.specs.Visit.{numbers}
use Rattle.xf_tree_rows.specs.Rows.{top_depth}
use Rattle.xf_tree_walks.specs.Nodes.{node_of}
use Rattle.xf_tree_walks.specs.Walks.{left_of, IsReady}
use Rattle.xf_tree_walks.proofs.WalkLemmas.{climbed-first, climbed-none}
use Rattle.xf_tree_walks.proofs.walk.step.Goals as goal

pub returns-in-Some : goal.returns-in-Some
returns-in-Some c =
    let s = c.args.slots.now in
    let rows = c.args.rows.now.items in
    let at = c.in-Up.at in
    let in_rows : at < length rows = subst (IsReady rows) c.in-Up.is c.requires.ready in
    record {
      within = omega (arith, c.in-Some.ensures.within, in_rows);
      ready = omega (arith, c.in-Some.ensures.within, in_rows);
      rest = ap (left_of s rows) c.in-Up.is ∙ ap (λ l. numbers (map (node_of s) l)) (climbed-first (top_depth (drop at rows)) c.in-Some.above at rows c.in-Some.ensures.answer);
    }

pub returns-in-None : goal.returns-in-None
returns-in-None c =
    let s = c.args.slots.now in
    let rows = c.args.rows.now.items in
    let at = c.in-Up.at in
    ap (left_of s rows) c.in-Up.is ∙ ap (λ l. numbers (map (node_of s) l)) (climbed-none (top_depth (drop at rows)) (reverse (take at rows)) c.in-None.ensures.answer)
