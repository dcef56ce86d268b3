use Rattle.std.proofs.Common.{get_or, sym, ◌∙◌, arith}
use Rattle.xf_tree_rows.specs.Rows.{no_row}
use Rattle.xf_tree_walks.proofs.TopLemmas.{last-up, last-none}
use Rattle.xf_tree_walks.proofs.lookup.top_row.Goals as goal

pub loop-above-preserved : goal.loop-above-preserved
loop-above-preserved c =
    let rows = c.args.rows.now.items in
    record {
      within = omega (arith, c.loop-above.invariant.within, c.in-Some.ensures.within);
      same = sym (last-up rows c.loop-above.top c.in-Some.above (get_or rows c.loop-above.top no_row) c.in-Some.ensures.answer) ∙ c.loop-above.invariant.same;
    }

pub returns-clause-answer : goal.returns-clause-answer
returns-clause-answer c =
    let rows = c.args.rows.now.items in
    last-none rows c.loop-above.top (get_or rows c.loop-above.top no_row) c.in_default.ensures.answer ∙ c.loop-above.invariant.same
