use Rattle.std.proofs.Common.{◌<◌, ◌≤◌, ◌++◌, map, sym, ap, ◌∙◌, arith}
use Rattle.xf_def_forest.specs.Limits.{limits, node_count, all_size, passed_by_tree}
use Rattle.xf_def_forest.specs.Plant.{numbered_from}
use Rattle.xf_def_forest.specs.Texts.{Keeping}
use Rattle.xf_tree_walks.specs.Nodes.{node_of}
use Rattle.xf_tree_literals.proofs.FaultLemmas.{long-numbered, deep-numbered, tree-nodes, tree-long, tree-bytes, tree-deep, tree-none}
use Rattle.xf_tree.proofs.AddLemmas.{count-with, size-with}
use Rattle.xf_tree.proofs.forest.Forest.passed_by_tree.Goals as goal

pub returns-then-self-tree-gt-NODE_LIMIT : goal.returns-then-self-tree-gt-NODE_LIMIT
returns-then-self-tree-gt-NODE_LIMIT c =
    let s = c.self.inside.slots in
    let cs = c.args.tree.now in
    let tree = numbered_from c.self.inside.next cs in
    let nodes = map (node_of s) c.self.inside.rows.items ++ tree in
    let n = count-with s c.self.inside.rows.items c.self.inside.kept.items c.self.inside.next c.self.inside.count c.self.inside.bytes _ cs c.self.invariant c.requires.plain in
    let over : 65536 < node_count nodes = omega (arith, n, c.if-self-tree-gt-NODE_LIMIT.true) in
    tree-nodes limits tree nodes over ∙ ap (λ (k : Keeping). passed_by_tree limits (numbered_from k.forest.next cs) (k.forest.nodes ++ numbered_from k.forest.next cs)) c.self.view_is

pub returns-then-has_long : goal.returns-then-has_long
returns-then-has_long c =
    let s = c.self.inside.slots in
    let cs = c.args.tree.now in
    let tree = numbered_from c.self.inside.next cs in
    let nodes = map (node_of s) c.self.inside.rows.items ++ tree in
    let n = count-with s c.self.inside.rows.items c.self.inside.kept.items c.self.inside.next c.self.inside.count c.self.inside.bytes _ cs c.self.invariant c.requires.plain in
    let few : node_count nodes ≤ 65536 = omega (arith, n, c.if-self-tree-gt-NODE_LIMIT.false) in
    let long = long-numbered limits c.self.inside.next cs ∙ sym c.has_long.ensures ∙ c.if-has_long.true in
    tree-long limits tree nodes few long ∙ ap (λ (k : Keeping). passed_by_tree limits (numbered_from k.forest.next cs) (k.forest.nodes ++ numbered_from k.forest.next cs)) c.self.view_is

pub returns-then-saturating_add-gt-ALL_LIMIT : goal.returns-then-saturating_add-gt-ALL_LIMIT
returns-then-saturating_add-gt-ALL_LIMIT c =
    let s = c.self.inside.slots in
    let cs = c.args.tree.now in
    let tree = numbered_from c.self.inside.next cs in
    let nodes = map (node_of s) c.self.inside.rows.items ++ tree in
    let n = count-with s c.self.inside.rows.items c.self.inside.kept.items c.self.inside.next c.self.inside.count c.self.inside.bytes _ cs c.self.invariant c.requires.plain in
    let z = size-with s c.self.inside.rows.items c.self.inside.kept.items c.self.inside.next c.self.inside.count c.self.inside.bytes _ cs c.self.invariant in
    let few : node_count nodes ≤ 65536 = omega (arith, n, c.if-self-tree-gt-NODE_LIMIT.false) in
    let long = long-numbered limits c.self.inside.next cs ∙ sym c.has_long.ensures ∙ c.if-has_long.false in
    let over : 4194304 < all_size nodes = omega (arith, z, c.size_of_tree.ensures.answer, c.saturating_add.ensures, c.if-saturating_add-gt-ALL_LIMIT.true) in
    tree-bytes limits tree nodes few long over ∙ ap (λ (k : Keeping). passed_by_tree limits (numbered_from k.forest.next cs) (k.forest.nodes ++ numbered_from k.forest.next cs)) c.self.view_is

pub returns-then-has_deep : goal.returns-then-has_deep
returns-then-has_deep c =
    let s = c.self.inside.slots in
    let cs = c.args.tree.now in
    let tree = numbered_from c.self.inside.next cs in
    let nodes = map (node_of s) c.self.inside.rows.items ++ tree in
    let n = count-with s c.self.inside.rows.items c.self.inside.kept.items c.self.inside.next c.self.inside.count c.self.inside.bytes _ cs c.self.invariant c.requires.plain in
    let z = size-with s c.self.inside.rows.items c.self.inside.kept.items c.self.inside.next c.self.inside.count c.self.inside.bytes _ cs c.self.invariant in
    let few : node_count nodes ≤ 65536 = omega (arith, n, c.if-self-tree-gt-NODE_LIMIT.false) in
    let long = long-numbered limits c.self.inside.next cs ∙ sym c.has_long.ensures ∙ c.if-has_long.false in
    let under : all_size nodes ≤ 4194304 = omega (arith, z, c.size_of_tree.ensures.answer, c.saturating_add.ensures, c.if-saturating_add-gt-ALL_LIMIT.false) in
    let deep = deep-numbered limits c.self.inside.next cs ∙ sym c.has_deep.ensures ∙ c.if-has_deep.true in
    tree-deep limits tree nodes few long under deep ∙ ap (λ (k : Keeping). passed_by_tree limits (numbered_from k.forest.next cs) (k.forest.nodes ++ numbered_from k.forest.next cs)) c.self.view_is

pub returns : goal.returns
returns c =
    let s = c.self.inside.slots in
    let cs = c.args.tree.now in
    let tree = numbered_from c.self.inside.next cs in
    let nodes = map (node_of s) c.self.inside.rows.items ++ tree in
    let n = count-with s c.self.inside.rows.items c.self.inside.kept.items c.self.inside.next c.self.inside.count c.self.inside.bytes _ cs c.self.invariant c.requires.plain in
    let z = size-with s c.self.inside.rows.items c.self.inside.kept.items c.self.inside.next c.self.inside.count c.self.inside.bytes _ cs c.self.invariant in
    let few : node_count nodes ≤ 65536 = omega (arith, n, c.if-self-tree-gt-NODE_LIMIT.false) in
    let long = long-numbered limits c.self.inside.next cs ∙ sym c.has_long.ensures ∙ c.if-has_long.false in
    let under : all_size nodes ≤ 4194304 = omega (arith, z, c.size_of_tree.ensures.answer, c.saturating_add.ensures, c.if-saturating_add-gt-ALL_LIMIT.false) in
    let deep = deep-numbered limits c.self.inside.next cs ∙ sym c.has_deep.ensures ∙ c.if-has_deep.false in
    tree-none limits tree nodes few long under deep ∙ ap (λ (k : Keeping). passed_by_tree limits (numbered_from k.forest.next cs) (k.forest.nodes ++ numbered_from k.forest.next cs)) c.self.view_is
