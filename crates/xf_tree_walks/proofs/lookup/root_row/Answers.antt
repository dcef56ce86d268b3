use Rattle.std.proofs.Common.{◌<◌, length, map, drop, sym, ap, ◌∙◌, arith}
use Rattle.xf_def_forest.specs.Changes.{root_of}
use Rattle.xf_tree_walks.specs.Nodes.{node_of}
use Rattle.xf_tree_walks.proofs.RootLemmas.{root-other, root-more}
use Rattle.xf_tree_walks.proofs.lookup.root_row.Goals.{then-is_root_at+else-left-eq0, else-is_root_at}
use Rattle.xf_tree_walks.proofs.lookup.root_row.Goals as goal

pub loop-at-preserved : goal.loop-at-preserved
loop-at-preserved c =
    let s = c.args.slots.now in
    let rows = c.args.rows.now.items in
    let at = c.loop-at.at in
    let end = c.end_of-at.result in
    let test : at < length rows = omega arith in
    record {
      within = c.end_of-at.ensures.within;
      so_far = elim c.if-is_root_at.branch [
        | then-is_root_at+else-left-eq0 w ↦
            ap (λ k. root_of k (map (node_of s) (drop end rows))) w.left-is
            ∙ root-more s c.loop-at.left at end rows test c.end_of-at.ensures.answer c.requires.tops (rw c.at.ensures at (sym c.is_root_at.ensures ∙ w.if-is_root_at.true)) (omega arith)
            ∙ c.loop-at.invariant.so_far
        | else-is_root_at w ↦
            ap (λ k. root_of k (map (node_of s) (drop end rows))) w.left-is
            ∙ root-other s c.loop-at.left at end rows test c.end_of-at.ensures.answer c.requires.tops (rw c.at.ensures at (sym c.is_root_at.ensures ∙ w.if-is_root_at.false))
            ∙ c.loop-at.invariant.so_far
      ];
    }
