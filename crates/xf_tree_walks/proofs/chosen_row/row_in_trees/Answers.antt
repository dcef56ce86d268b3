use Rattle.std.proofs.Common.{ℕ, ◌+◌, ◌<◌, ◌∷◌, false, length, drop, slice_get, sym, ap, ◌∙◌, arith}
use Rattle.xf_tree_rows.specs.Rows.{tree_of}
use Rattle.xf_tree_contents.specs.Keys.{same_kind}
use Rattle.xf_tree_walks.specs.Found.{sought_within}
use Rattle.xf_tree_walks.specs.Nodes.{is_kin}
use Rattle.xf_tree_walks.specs.Walks.{number_of_row}
use Rattle.xf_tree_walks.proofs.WalkLemmas.{behind}
use Rattle.xf_tree_walks.proofs.SoughtLemmas.{trees-next, within-none, get-behind}
use Rattle.xf_tree_walks.proofs.chosen_row.row_in_trees.Goals as goal

pub returns-then-here-end-clause-answer : goal.returns-then-here-end-clause-answer
returns-then-here-end-clause-answer c =
    let s = c.args.slots.now in
    let rows = c.args.rows.now.items in
    let none = within-none s rows c.args.sought c.requires.nodes (is_kin c.args.depth false) c.found_in_trees-here.result c.args.end (omega (arith, c.if-here-end.true)) in
    sym (ap (λ l. slice_get l c.loop-next.ahead) (sym c.found_in_trees-here.ensures.same ∙ none)) ∙ c.loop-next.invariant.same

pub returns-then-ahead-eq0-clause-answer : goal.returns-then-ahead-eq0-clause-answer
returns-then-ahead-eq0-clause-answer c =
    let s = c.args.slots.now in
    let rows = c.args.rows.now.items in
    let given = c.found_in_trees-here.ensures in
    let next = trees-next s rows c.args.sought c.requires.nodes c.args.depth c.loop-next.next c.found_in_trees-here.result c.args.end c.if-here-end.false c.requires.within given.deep given.same (given.found c.if-here-end.false) in
    let here = c.found_in_trees-here.result in
    let left = number_of_row s rows here ∷ sought_within s rows c.args.sought (is_kin c.args.depth false) (here + length (tree_of (drop here rows))) c.args.end in
    sym (ap (λ l. slice_get l c.loop-next.ahead) next ∙ ap (slice_get left) c.if-ahead-eq0.true) ∙ c.loop-next.invariant.same

pub loop-next-preserved : goal.loop-next-preserved
loop-next-preserved c =
    let s = c.args.slots.now in
    let rows = c.args.rows.now.items in
    let sought = c.args.sought in
    let here = c.found_in_trees-here.result in
    let given = c.found_in_trees-here.ensures in
    let stop = c.end_of-next.result in
    let next = trees-next s rows sought c.requires.nodes c.args.depth c.loop-next.next here c.args.end c.if-here-end.false c.requires.within given.deep given.same (given.found c.if-here-end.false) in
    let left = λ (from : ℕ). sought_within s rows sought (is_kin c.args.depth false) from c.args.end in
    record {
      same = sym (ap (λ l. slice_get l c.loop-next.ahead) (next ∙ ap (λ from. number_of_row s rows here ∷ left from) (sym c.end_of-next.ensures.answer)) ∙ get-behind (number_of_row s rows here) c.loop-next.ahead (left stop) c.if-ahead-eq0.false)
          ∙ c.loop-next.invariant.same;
      deep = (behind s c.args.depth (same_kind false) rows here c.args.end stop c.if-here-end.false c.requires.within given.deep c.end_of-next.ensures.answer).deep;
    }

pub loop-next-smaller : goal.loop-next-smaller
loop-next-smaller c =
    let s = c.args.slots.now in
    let rows = c.args.rows.now.items in
    let sought = c.args.sought in
    let here = c.found_in_trees-here.result in
    let given = c.found_in_trees-here.ensures in
    let next = trees-next s rows sought c.requires.nodes c.args.depth c.loop-next.next here c.args.end c.if-here-end.false c.requires.within given.deep given.same (given.found c.if-here-end.false) in
    let left = λ (from : ℕ). sought_within s rows sought (is_kin c.args.depth false) from c.args.end in
    let more = ap length (next ∙ ap (λ from. number_of_row s rows here ∷ left from) (sym c.end_of-next.ensures.answer)) in
    let less : length (left c.end_of-next.result) < length (left c.loop-next.next) = omega (arith, more) in
    less
