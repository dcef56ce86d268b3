use Rattle.std.proofs.Common.{◌<◌, length, ap, sym, ◌∙◌, arith}
use Rattle.xf_def_forest.specs.Forest.{content_at, is_element}
use Rattle.xf_tree_paths.specs.Family.{is_named, meets}
use Rattle.xf_tree_paths.proofs.FamilyLemmas.{count-more, count-same, named-not}
use Rattle.xf_tree_paths.proofs.family.totals_of.Goals as goal

pub loop-at-preserved-in-Text : goal.loop-at-preserved-in-Text
loop-at-preserved-in-Text c = λ w.
    let nodes = c.args.forest.now.forest.nodes in
    let h : c.loop-at.at < length c.args.nodes.now = omega arith in
    c.loop-at.invariant w
    ∙ sym (count-same (is_named w) nodes c.args.nodes.now c.loop-at.at c.at.result.number h c.at.ensures (named-not w (content_at c.at.result.number nodes) (ap (meets is_element) c.in-Text.ensures)))

pub loop-at-preserved-in-Other : goal.loop-at-preserved-in-Other
loop-at-preserved-in-Other c = λ w.
    let nodes = c.args.forest.now.forest.nodes in
    let h : c.loop-at.at < length c.args.nodes.now = omega arith in
    c.loop-at.invariant w
    ∙ sym (count-same (is_named w) nodes c.args.nodes.now c.loop-at.at c.at.result.number h c.at.ensures (named-not w (content_at c.at.result.number nodes) c.in-Other.ensures.0))

pub loop-at-preserved : goal.loop-at-preserved
loop-at-preserved c = λ w.
    let h : c.loop-at.at < length c.args.nodes.now = omega arith in
    let more = count-more (is_named w) c.args.forest.now.forest.nodes c.args.nodes.now c.loop-at.at c.at.result.number _ h c.at.ensures c.in-Element.ensures in
    let added = c.in_ok-add_name-in-Element.ensures w in
    omega (arith, more, added, c.loop-at.invariant w)
