use Rattle.std.proofs.Common.{◌≡◌, ◌<◌, length, ap, sym, ◌∙◌, arith}
use Rattle.std.proofs.lemmas.List.Elements.{All-push, All-same}
use Rattle.xf_def_forest.specs.Forest.{content_at, is_element, is_text, written}
use Rattle.xf_def_forest.specs.declared.content.Content.TheVariants.{Element}
use Rattle.xf_def_forest.specs.Visit.{visits}
use Rattle.xf_tree_paths.specs.Family.{IsKid, index_of, index_text, is_named, meets, tallied}
use Rattle.xf_tree_paths.proofs.FamilyLemmas.{bytes-same, count-less, count-more, count-same, named-not, kid-element, kid-text, kid-other, kid-parent}
use Rattle.xf_tree_paths.proofs.family.kids_of.Goals as goal
use Rattle.xf_tree_paths.proofs.family.kids_of.Goals.{in-Element+in_ok-index-in-Element, in-Text, in-Other}

pub loop-at-preserved : goal.loop-at-preserved
loop-at-preserved c =
    let forest = c.args.forest.now.forest in
    let nodes = forest.nodes in
    let all = visits nodes in
    let cs = c.args.children.now in
    let p = c.args.node.number in
    let at = c.loop-at.at in
    let n = c.at-child.result.number in
    let old = c.loop-at.invariant in
    let h : at < length cs = omega arith in
    let here : index_text c.match-sort.index ≡ index_of all n = elim c.match-sort.branch [
      | in-Element+in_ok-index-in-Element w ↦
          ap index_text w.index-is
          ∙ kid-element forest c.args.node.number n at _ cs (tallied c.in_ok-totals.totals) (tallied c.loop-at.seen) _ c.requires.trees c.requires.children c.at-child.ensures w.in-Element.ensures c.in_ok-totals.ensures old.seen w.in_ok-index-in-Element.ensures.place
      | in-Text w ↦ ap index_text w.index-is ∙ kid-text forest c.args.node.number n at _ cs c.loop-at.texts c.requires.trees c.requires.children c.at-child.ensures w.in-Text.ensures old.texts
      | in-Other w ↦ ap index_text w.index-is ∙ kid-other n nodes w.in-Other.ensures.0 w.in-Other.ensures.1
    ] in
    record {
      seen = λ q. elim c.match-sort.branch [
        | in-Element+in_ok-index-in-Element w ↦
            let same = ap (λ m. tallied m q) w.seen-is in
            let more = count-more (is_named q) nodes cs at n _ h c.at-child.ensures w.in-Element.ensures in
            omega (arith, same, w.in_ok-index-in-Element.ensures.seen q, more, old.seen q)
        | in-Text w ↦
            ap (λ m. tallied m q) w.seen-is ∙ old.seen q
            ∙ sym (count-same (is_named q) nodes cs at n h c.at-child.ensures (named-not q (content_at n nodes) (ap (meets is_element) w.in-Text.ensures)))
        | in-Other w ↦
            ap (λ m. tallied m q) w.seen-is ∙ old.seen q
            ∙ sym (count-same (is_named q) nodes cs at n h c.at-child.ensures (named-not q (content_at n nodes) w.in-Other.ensures.0))
      ];
      texts = elim c.match-sort.branch [
        | in-Element+in_ok-index-in-Element w ↦ w.texts-is ∙ old.texts ∙ sym (count-same is_text nodes cs at n h c.at-child.ensures (ap (meets is_text) w.in-Element.ensures))
        | in-Text w ↦
            let more = count-more is_text nodes cs at n _ h c.at-child.ensures w.in-Text.ensures in
            omega (arith, w.texts-is, more, old.texts)
        | in-Other w ↦ w.texts-is ∙ old.texts ∙ sym (count-same is_text nodes cs at n h c.at-child.ensures w.in-Other.ensures.1)
      ];
      kids = All-same (IsKid nodes p) c.push.new.self.items _ c.in_ok-push.ensures.items (All-push (IsKid nodes p) c.loop-at.kids.items (record { number = n; sort = c.sort_of-sort.result; index = c.match-sort.index }) old.kids (record { sort = c.sort_of-sort.ensures; index = here; below = kid-parent forest p n at cs c.requires.trees c.requires.children c.at-child.ensures }));
    }

pub next_place-requires-clause-within : goal.next_place-requires-clause-within
next_place-requires-clause-within c =
    let name = c.in-Element.name.now in
    let h : c.loop-at.at < length c.args.children.now = omega arith in
    let less = count-less (is_named (written name)) c.args.forest.now.forest.nodes c.args.children.now c.loop-at.at c.at-child.result.number (Element name) h c.at-child.ensures c.in-Element.ensures (bytes-same (written name)) in
    omega (arith, less, c.loop-at.invariant.seen (written name), c.in_ok-totals.ensures (written name))
