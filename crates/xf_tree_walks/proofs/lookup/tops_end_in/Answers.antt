use Rattle.std.proofs.Common.{◌≡◌, ◌+◌, ◌<◌, false, length, drop, sym, ap, ◌∙◌, subst, arith}
use Rattle.xf_def_forest.specs.Changes.{is_detached_top}
use Rattle.xf_tree_rows.specs.declared.rows.Row.{Row}
use Rattle.xf_tree_rows.specs.Rows.{tree_of, no_row}
use Rattle.xf_tree_rows.proofs.CutLemmas.{size-at, tree-within}
use Rattle.xf_tree_walks.specs.Nodes.{node_of}
use Rattle.xf_tree_walks.proofs.PlaceLemmas.{tree-size}
use Rattle.xf_tree_walks.proofs.RootLemmas.{instances-more}
use Rattle.xf_tree_walks.proofs.lookup.tops_end_in.Goals.{After-at-row}
use Rattle.xf_tree_walks.proofs.lookup.tops_end_in.Goals as goal

within : (c : After-at-row) → c.loop-at.at < length c.args.rows.now
within c = omega (arith, c.loop-at-test.true, c.len.ensures)

-- the size of the row is that of its tree
size-is : (c : After-at-row) → c.at-row.result.size ≡ length (tree_of (drop c.loop-at.at c.args.rows.now))
size-is c = ap (λ (r : Row). r.size) c.at-row.ensures ∙ size-at c.loop-at.at c.args.rows.now no_row (within c) c.requires.sized

pub overflow_add-at : goal.overflow_add-at
overflow_add-at c =
    let k = (goal.at.overflow_add-at c).After-at-row in
    omega (arith, size-is k, tree-within c.loop-at.at c.args.rows.now (within k), c.len.ensures, c.len.type_inv)

pub loop-at-smaller : goal.loop-at-smaller
loop-at-smaller c =
    let k = (goal.at.loop-at-smaller c).After-at-row in
    omega (arith, size-is k, tree-size c.loop-at.at c.args.rows.now (within k), within k)

pub loop-at-preserved : goal.loop-at-preserved
loop-at-preserved c =
    let k = (goal.at.loop-at-preserved c).After-at-row in
    let rows = c.args.rows.now in
    let s = c.args.slots.now in
    let end : c.loop-at.at + c.at-row.result.size ≡ c.loop-at.at + length (tree_of (drop c.loop-at.at rows)) = ap (λ n. c.loop-at.at + n) (size-is k) in
    record {
      within = omega (arith, size-is k, tree-within c.loop-at.at rows (within k));
      so_far =
          instances-more s c.loop-at.at (c.loop-at.at + c.at-row.result.size) rows (within k) end
          (subst (λ (r : Row). is_detached_top (node_of s r) ≡ false) c.at-row.ensures (sym c.is_detached.ensures ∙ c.if-is_detached.false))
          ∙ c.loop-at.invariant.so_far;
    }
