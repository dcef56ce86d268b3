use Rattle.std.proofs.Common.{◌<◌, ◌≤◌, ◌++◌, map, ap, ◌∙◌, arith}
use Rattle.xf_def_forest.specs.Limits.{limits, node_count, all_size, passed_by_all}
use Rattle.xf_def_forest.specs.Plant.{numbered_from}
use Rattle.xf_def_forest.specs.Texts.{Keeping}
use Rattle.xf_tree_walks.specs.Nodes.{node_of}
use Rattle.xf_tree.proofs.AddLemmas.{count-with, size-with, passed-nodes, passed-bytes, passed-none}
use Rattle.xf_tree.proofs.forest.Forest.passed_by_all.Goals as goal

pub returns-then-self-tree-gt-NODE_LIMIT : goal.returns-then-self-tree-gt-NODE_LIMIT
returns-then-self-tree-gt-NODE_LIMIT c =
    let s = c.self.inside.slots in
    let cs = c.args.tree.now in
    let nodes = map (node_of s) c.self.inside.rows.items ++ numbered_from c.self.inside.next cs in
    let n = count-with s c.self.inside.rows.items c.self.inside.kept.items c.self.inside.next c.self.inside.count c.self.inside.bytes _ cs c.self.invariant c.requires.plain in
    let over : 65536 < node_count nodes = omega (arith, n, c.if-self-tree-gt-NODE_LIMIT.true) in
    passed-nodes limits nodes over ∙ ap (λ (k : Keeping). passed_by_all limits (k.forest.nodes ++ numbered_from k.forest.next cs)) c.self.view_is

pub returns-then-saturating_add-gt-ALL_LIMIT : goal.returns-then-saturating_add-gt-ALL_LIMIT
returns-then-saturating_add-gt-ALL_LIMIT c =
    let s = c.self.inside.slots in
    let cs = c.args.tree.now in
    let nodes = map (node_of s) c.self.inside.rows.items ++ numbered_from c.self.inside.next cs in
    let n = count-with s c.self.inside.rows.items c.self.inside.kept.items c.self.inside.next c.self.inside.count c.self.inside.bytes _ cs c.self.invariant c.requires.plain in
    let z = size-with s c.self.inside.rows.items c.self.inside.kept.items c.self.inside.next c.self.inside.count c.self.inside.bytes _ cs c.self.invariant in
    let few : node_count nodes ≤ 65536 = omega (arith, n, c.if-self-tree-gt-NODE_LIMIT.false) in
    let over : 4194304 < all_size nodes = omega (arith, z, c.size_of_tree.ensures.answer, c.saturating_add.ensures, c.if-saturating_add-gt-ALL_LIMIT.true) in
    passed-bytes limits nodes few over ∙ ap (λ (k : Keeping). passed_by_all limits (k.forest.nodes ++ numbered_from k.forest.next cs)) c.self.view_is

pub returns : goal.returns
returns c =
    let s = c.self.inside.slots in
    let cs = c.args.tree.now in
    let nodes = map (node_of s) c.self.inside.rows.items ++ numbered_from c.self.inside.next cs in
    let n = count-with s c.self.inside.rows.items c.self.inside.kept.items c.self.inside.next c.self.inside.count c.self.inside.bytes _ cs c.self.invariant c.requires.plain in
    let z = size-with s c.self.inside.rows.items c.self.inside.kept.items c.self.inside.next c.self.inside.count c.self.inside.bytes _ cs c.self.invariant in
    let few : node_count nodes ≤ 65536 = omega (arith, n, c.if-self-tree-gt-NODE_LIMIT.false) in
    let under : all_size nodes ≤ 4194304 = omega (arith, z, c.size_of_tree.ensures.answer, c.saturating_add.ensures, c.if-saturating_add-gt-ALL_LIMIT.false) in
    passed-none limits nodes few under ∙ ap (λ (k : Keeping). passed_by_all limits (k.forest.nodes ++ numbered_from k.forest.next cs)) c.self.view_is
