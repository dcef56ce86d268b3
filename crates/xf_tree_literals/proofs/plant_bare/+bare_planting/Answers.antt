use Rattle.std.proofs.Common.{◌≡◌, ◌+◌, ◌++◌, ◌∷◌, ℕ, map, drop, sym, ap, ◌∙◌, subst, append_assoc, add-one}
use Rattle.std.proofs.lemmas.List.{drop_all}
use Rattle.std.proofs.lemmas.Result.{on_ok_weaker}
use Rattle.std.proofs.Math.Seq.{drop-cons}
use Rattle.xf_def_forest.specs.declared.content.Content.{Content}
use Rattle.xf_def_forest.specs.declared.content.Content.TheVariants.{Element}
use Rattle.xf_def_forest.specs.Plant.{at_depth, in_order, name_for}
use Rattle.xf_def_forest.specs.Planted.{contents_of_bare, bare_attribute}
use Rattle.xf_tree_literals.specs.Contents.{bare_all_at, IsPart}
use Rattle.xf_tree_literals.proofs.BareContents.{bare-text, bare-element, bare-added, bare-part, trees-plain}
use Rattle.xf_tree_literals.proofs.ContentsLemmas.{part-none, part-append}
use Rattle.xf_tree_literals.proofs.plant_bare.+bare_planting.Goals.{push_element-After-push_all}
use Rattle.xf_tree_literals.proofs.plant_bare.+bare_planting.Goals as goal

pub push_all-loop-tree-preserved : goal.push_all-loop-tree-preserved
push_all-loop-tree-preserved t c =
    let b = c.args.prefixes.now in
    let i = c.loop-tree.tree-index in
    let trees = c.args.trees.now in
    let tree = c.tree-item.result in
    let here = contents_of_bare b tree 0 c.args.depth in
    let rest = bare_all_at b (drop (i + 1) trees) c.args.depth in
    let split : drop i trees ≡ tree ∷ drop (i + 1) trees = rw add-one (drop-cons trees i tree c.loop-tree-test.true) ∙ ap (λ x. x ∷ drop (i + 1) trees) (sym c.tree-item.is) in
    let whole : bare_all_at b (drop i trees) c.args.depth ≡ here ++ rest = ap (λ l. bare_all_at b l c.args.depth) split in
    record {
      so_far = ap (λ l. l ++ rest) c.in_ok-push_bare.ensures.added ∙ append_assoc c.loop-tree.contents.items here rest ∙ ap (λ l. c.loop-tree.contents.items ++ l) (sym whole) ∙ c.loop-tree.invariant.so_far;
      part = λ p. c.loop-tree.invariant.part (subst (IsPart c.args.depth) (sym whole) (part-append c.args.depth here rest c.in_ok-push_bare.ensures.part p (trees-plain b (drop (i + 1) trees) c.args.depth)));
    }

-- ---- an element

content-is : (t : ℕ) (c : push_element-After-push_all t) → ◌≡◌ {A = Content} (Element c.in_ok-name.name) (Element (name_for c.args.prefixes.now c.args.element.now.name))
content-is t c = ap Element c.in_ok-name.ensures

pub push_element-returns-clause-added : goal.push_element-returns-clause-added
push_element-returns-clause-added t c =
    let k = (goal.at.push_element-returns-clause-added t c).After-push_all in
    let b = c.args.prefixes.now in
    let e = c.args.element.now in
    let below = c.in_ok-below.below in
    let two = c.in_ok-push_attributes.ensures.added ∙ ap (λ l. c.push_named.new.tree.items ++ at_depth below (in_order (map (bare_attribute b) l))) c.as_slice.ensures in
    on_ok_weaker c.push_all.result
    (λ h. bare-added b e c.args.depth below (Element c.in_ok-name.name) c.args.contents.now.items c.push_named.new.tree.items c.push_attributes.new.contents.items c.push_all.new.contents.items
    c.in_ok-below.ensures.below (content-is t k) c.in_ok-below.ensures.added two
    (h ∙ ap (λ l. c.push_attributes.new.contents.items ++ bare_all_at b l below) c.as_slice-2.ensures))
    c.push_all.ensures.added

pub push_element-returns-clause-part : goal.push_element-returns-clause-part
push_element-returns-clause-part t c =
    let k = (goal.at.push_element-returns-clause-part t c).After-push_all in
    let b = c.args.prefixes.now in
    let e = c.args.element.now in
    let below = c.in_ok-below.below in
    let attributes = subst (λ l. IsPart below (at_depth below (in_order (map (bare_attribute b) l)))) c.as_slice.ensures c.in_ok-push_attributes.ensures.part in
    on_ok_weaker c.push_all.result
    (λ h. bare-part b e c.args.depth below (Element c.in_ok-name.name) c.in_ok-below.ensures.below (content-is t k) c.in_ok-below.ensures.small attributes (subst (λ l. IsPart below (bare_all_at b l below)) c.as_slice-2.ensures h))
    c.push_all.ensures.part

-- ---- a tree, and the end of trees

pub push_bare-returns-in-Text-clause-added : goal.push_bare-returns-in-Text-clause-added
push_bare-returns-in-Text-clause-added t c =
    on_ok_weaker c.push_text.result (λ h. h ∙ ap (λ l. c.args.contents.now.items ++ l) (bare-text c.args.prefixes.now c.args.tree.now c.in-Text.text c.as_str.result.now c.args.depth c.in-Text.is c.as_str.ensures)) c.push_text.ensures.added

pub push_bare-returns-in-Text-clause-part : goal.push_bare-returns-in-Text-clause-part
push_bare-returns-in-Text-clause-part t c =
    on_ok_weaker c.push_text.result (subst (IsPart c.args.depth) (bare-text c.args.prefixes.now c.args.tree.now c.in-Text.text c.as_str.result.now c.args.depth c.in-Text.is c.as_str.ensures)) c.push_text.ensures.part

pub push_bare-returns-in-Element-clause-added : goal.push_bare-returns-in-Element-clause-added
push_bare-returns-in-Element-clause-added t c =
    on_ok_weaker c.push_element.result (λ h. h ∙ ap (λ l. c.args.contents.now.items ++ l) (bare-element c.args.prefixes.now c.args.tree.now c.in-Element.element c.args.depth c.in-Element.is)) c.push_element.ensures.added

pub push_bare-returns-in-Element-clause-part : goal.push_bare-returns-in-Element-clause-part
push_bare-returns-in-Element-clause-part t c =
    on_ok_weaker c.push_element.result (subst (IsPart c.args.depth) (bare-element c.args.prefixes.now c.args.tree.now c.in-Element.element c.args.depth c.in-Element.is)) c.push_element.ensures.part

pub push_all-returns-clause-part : goal.push_all-returns-clause-part
push_all-returns-clause-part t c =
    let past = drop_all c.loop-tree.tree-index c.args.trees.now c.loop-tree-test.false in
    c.loop-tree.invariant.part (subst (λ l. IsPart c.args.depth (bare_all_at c.args.prefixes.now l c.args.depth)) (sym past) (part-none c.args.depth))
