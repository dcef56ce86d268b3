use Rattle.std.proofs.Common.{◌<◌, length, ap, sym, arith}
use Rattle.xf_def_forest.specs.Forest.{content_at, is_element}
use Rattle.xf_tree_paths.specs.Family.{meets}
use Rattle.xf_tree_paths.proofs.FamilyLemmas.{any-at, any-more}
use Rattle.xf_tree_paths.proofs.family.has_element.Goals as goal

pub returns-in-Element : goal.returns-in-Element
returns-in-Element c =
    sym (any-at (λ n. meets is_element (content_at n c.args.forest.now.forest.nodes)) c.args.nodes.now c.loop-at.at c.at.result.number c.at.ensures (ap (meets is_element) c.in-Element.ensures))

pub loop-at-preserved-in-Text : goal.loop-at-preserved-in-Text
loop-at-preserved-in-Text c =
    let h : c.loop-at.at < length c.args.nodes.now = omega arith in
    any-more (λ n. meets is_element (content_at n c.args.forest.now.forest.nodes)) c.args.nodes.now c.loop-at.at c.at.result.number h c.at.ensures c.loop-at.invariant (ap (meets is_element) c.in-Text.ensures)

pub loop-at-preserved : goal.loop-at-preserved
loop-at-preserved c =
    let h : c.loop-at.at < length c.args.nodes.now = omega arith in
    any-more (λ n. meets is_element (content_at n c.args.forest.now.forest.nodes)) c.args.nodes.now c.loop-at.at c.at.result.number h c.at.ensures c.loop-at.invariant c.in-Other.ensures.0
