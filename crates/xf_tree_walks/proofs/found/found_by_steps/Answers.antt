use Rattle.std.proofs.Common.{sym, ◌∙◌}
use Rattle.xf_tree_walks.proofs.SoughtLemmas.{step-found, step-passed}
use Rattle.xf_tree_walks.proofs.found.found_by_steps.Goals as goal

pub returns-then-is_sought : goal.returns-then-is_sought
returns-then-is_sought c =
    let f = step-found c.args.slots.now c.args.rows.now.items c.args.sought c.requires.nodes c.loop-at.rest c.in-Some.behind c.in-Some.at c.in-Some.ensures (rw c.at.ensures at (sym c.is_sought.ensures ∙ c.if-is_sought.true)) in
    record {
      within = f.within;
      ready = f.ready;
      rest = sym c.loop-at.invariant.same ∙ f.rest;
    }

pub loop-at-preserved : goal.loop-at-preserved
loop-at-preserved c =
    let i = c.in-Some.ensures in
    record {
      ready = i.ready;
      same = step-passed c.args.slots.now c.args.rows.now.items c.args.sought c.requires.nodes c.loop-at.rest c.in-Some.behind c.in-Some.at i (rw c.at.ensures at (sym c.is_sought.ensures ∙ c.if-is_sought.false)) ∙ c.loop-at.invariant.same;
    }
