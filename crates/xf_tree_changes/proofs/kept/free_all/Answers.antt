use Rattle.std.proofs.Common.{◌≡◌, ◌<◌, ◌+◌, length, map, get_or, sym, subst, arith}
use Rattle.std.proofs.lemmas.List.{take-map, length-map, get_or-map}
use Rattle.xf_def_forest.specs.declared.node.NodeId.{NodeId}
use Rattle.xf_tree_contents.specs.Keys.{kept_of, KeepsButKept}
use Rattle.xf_tree_contents.proofs.FreeLemmas.{free-kept_more, less-more}
use Rattle.xf_tree_changes.specs.Texts.{places_of, no_text}
use Rattle.xf_tree_changes.proofs.kept.free_all.Goals as goal

pub loop-text-preserved : goal.loop-text-preserved
loop-text-preserved c =
    let s = c.args.slots.now in
    let texts = c.args.texts.now in
    let keys = places_of texts in
    let i = c.loop-text.text-index in
    let x = get_or texts i no_text in
    let s1 = c.loop-text.slots in
    let s2 = c.free_node.new.slots in
    let inside : i < length keys = omega (arith, length-map texts (λ n. n.place), c.loop-text-test.true) in
    let is : get_or keys i 0 ≡ x.place = get_or-map (λ (n : NodeId). n.place) texts i no_text 0 c.loop-text-test.true in
    let before = subst (λ l. KeepsButKept s s1 (map (kept_of s) l)) (sym (take-map (λ n. n.place) i texts)) c.loop-text.invariant.rest in
    record {
      rest = subst (λ l. KeepsButKept s s2 (map (kept_of s) l)) (take-map (λ n. n.place) (i + 1) texts) (free-kept_more s keys i x.place inside is s1 s2 before c.free_node.ensures.gone);
      less = less-more s s1 s2 x.place c.loop-text.invariant.less c.free_node.ensures.gone;
    }
