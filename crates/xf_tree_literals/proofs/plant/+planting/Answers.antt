use Rattle.std.proofs.Common.{◌≡◌, ◌+◌, ◌++◌, ◌∷◌, ℕ, drop, sym, ap, ◌∙◌, subst, append_assoc, add-one}
use Rattle.std.proofs.lemmas.List.{drop_all}
use Rattle.std.proofs.lemmas.Result.{on_ok_weaker}
use Rattle.std.proofs.Math.Seq.{drop-cons}
use Rattle.std.specs.List.{filter_map}
use Rattle.xf_name.specs.Bindings.{resolved}
use Rattle.xf_def_forest.specs.declared.content.Content.{Content}
use Rattle.xf_def_forest.specs.declared.content.Content.TheVariants.{Element}
use Rattle.xf_def_forest.specs.Plant.{contents_of, default_below, element_name, at_depth, in_order, attribute_in}
use Rattle.xf_tree_literals.specs.Contents.{contents_of_all, IsPart}
use Rattle.xf_tree_literals.proofs.ContentsLemmas.{text-contents, element-contents, part-none, part-append, part-element, added-element, children-plain}
use Rattle.xf_tree_literals.proofs.plant.+planting.Goals.{push_element-After-push_all}
use Rattle.xf_tree_literals.proofs.plant.+planting.Goals as goal

pub push_all-loop-lit-preserved : goal.push_all-loop-lit-preserved
push_all-loop-lit-preserved t c =
    let b = c.args.prefixes.now in
    let i = c.loop-lit.lit-index in
    let lits = c.args.lits.now in
    let lit = c.lit-item.result in
    let here = contents_of b lit c.args.space c.args.depth in
    let rest = contents_of_all b (drop (i + 1) lits) c.args.space c.args.depth in
    let split : drop i lits ≡ lit ∷ drop (i + 1) lits = rw add-one (drop-cons lits i lit c.loop-lit-test.true) ∙ ap (λ x. x ∷ drop (i + 1) lits) (sym c.lit-item.is) in
    let whole : contents_of_all b (drop i lits) c.args.space c.args.depth ≡ here ++ rest = ap (λ l. contents_of_all b l c.args.space c.args.depth) split in
    record {
      so_far = ap (λ l. l ++ rest) c.in_ok-push_lit.ensures.added ∙ append_assoc c.loop-lit.tree.items here rest ∙ ap (λ l. c.loop-lit.tree.items ++ l) (sym whole) ∙ c.loop-lit.invariant.so_far;
      part = λ p. c.loop-lit.invariant.part (subst (IsPart c.args.depth) (sym whole) (part-append c.args.depth here rest c.in_ok-push_lit.ensures.part p (children-plain b (drop (i + 1) lits) c.args.space c.args.depth)));
    }

-- ---- an element

own-is : (t : ℕ) (c : push_element-After-push_all t) → c.default_in-own.result ≡ default_below c.args.prefixes.now c.args.space c.args.element.now.attributes
own-is t c = c.default_in-own.ensures ∙ ap (default_below c.args.prefixes.now c.args.space) c.as_slice-attributes.ensures

content-is : (t : ℕ) (c : push_element-After-push_all t) → ◌≡◌ {A = Content} (Element c.in_ok-name.name)
    (Element (element_name c.args.prefixes.now (resolved c.args.prefixes.now c.args.element.now.name (default_below c.args.prefixes.now c.args.space c.args.element.now.attributes))))
content-is t c =
    let b = c.args.prefixes.now in
    ap Element (c.in_ok-name.ensures ∙ ap (λ w. element_name b (resolved b w c.default_in-own.result)) c.as_str.ensures
    ∙ ap (λ o. element_name b (resolved b c.args.element.now.name o)) (own-is t c))

pub push_element-returns-clause-added : goal.push_element-returns-clause-added
push_element-returns-clause-added t c =
    let k = (goal.at.push_element-returns-clause-added t c).After-push_all in
    let b = c.args.prefixes.now in
    let e = c.args.element.now in
    let own = default_below b c.args.space e.attributes in
    let below = c.in_ok-below.below in
    let two = c.in_ok-push_attributes.ensures.added ∙ ap (λ ps. c.push_named.new.tree.items ++ at_depth below (in_order (filter_map (attribute_in b) ps))) c.as_slice-attributes.ensures in
    on_ok_weaker c.push_all.result
    (λ h. added-element b e c.args.space c.args.depth below (Element c.in_ok-name.name) c.args.tree.now.items c.push_named.new.tree.items c.push_attributes.new.tree.items c.push_all.new.tree.items
    c.in_ok-below.ensures.below (content-is t k) c.in_ok-below.ensures.added two
    (h ∙ ap (λ ls. c.push_attributes.new.tree.items ++ contents_of_all b ls c.default_in-own.result below) c.as_slice.ensures
    ∙ ap (λ o. c.push_attributes.new.tree.items ++ contents_of_all b e.children o below) (own-is t k)))
    c.push_all.ensures.added

pub push_element-returns-clause-part : goal.push_element-returns-clause-part
push_element-returns-clause-part t c =
    let k = (goal.at.push_element-returns-clause-part t c).After-push_all in
    let b = c.args.prefixes.now in
    let e = c.args.element.now in
    let below = c.in_ok-below.below in
    let attributes = subst (λ ps. IsPart below (at_depth below (in_order (filter_map (attribute_in b) ps)))) c.as_slice-attributes.ensures c.in_ok-push_attributes.ensures.part in
    on_ok_weaker c.push_all.result
    (λ h. part-element b e c.args.space c.args.depth below (Element c.in_ok-name.name) c.in_ok-below.ensures.below (content-is t k) c.in_ok-below.ensures.small attributes
    (subst (λ o. IsPart below (contents_of_all b e.children o below)) (own-is t k)
    (subst (λ ls. IsPart below (contents_of_all b ls c.default_in-own.result below)) c.as_slice.ensures h)))
    c.push_all.ensures.part

-- ---- a tree, and the end of trees

pub push_lit-returns-in-Text-clause-added : goal.push_lit-returns-in-Text-clause-added
push_lit-returns-in-Text-clause-added t c =
    on_ok_weaker c.push_text.result (λ h. h ∙ ap (λ l. c.args.tree.now.items ++ l) (text-contents c.args.prefixes.now c.args.lit.now c.in-Text.text c.as_str.result.now c.args.space c.args.depth c.in-Text.is c.as_str.ensures)) c.push_text.ensures.added

pub push_lit-returns-in-Text-clause-part : goal.push_lit-returns-in-Text-clause-part
push_lit-returns-in-Text-clause-part t c =
    on_ok_weaker c.push_text.result (subst (IsPart c.args.depth) (text-contents c.args.prefixes.now c.args.lit.now c.in-Text.text c.as_str.result.now c.args.space c.args.depth c.in-Text.is c.as_str.ensures)) c.push_text.ensures.part

pub push_lit-returns-in-Element-clause-added : goal.push_lit-returns-in-Element-clause-added
push_lit-returns-in-Element-clause-added t c =
    on_ok_weaker c.push_element.result (λ h. h ∙ ap (λ l. c.args.tree.now.items ++ l) (element-contents c.args.prefixes.now c.args.lit.now c.in-Element.element c.args.space c.args.depth c.in-Element.is)) c.push_element.ensures.added

pub push_lit-returns-in-Element-clause-part : goal.push_lit-returns-in-Element-clause-part
push_lit-returns-in-Element-clause-part t c =
    on_ok_weaker c.push_element.result (subst (IsPart c.args.depth) (element-contents c.args.prefixes.now c.args.lit.now c.in-Element.element c.args.space c.args.depth c.in-Element.is)) c.push_element.ensures.part

pub push_all-returns-clause-part : goal.push_all-returns-clause-part
push_all-returns-clause-part t c =
    let past = drop_all c.loop-lit.lit-index c.args.lits.now c.loop-lit-test.false in
    c.loop-lit.invariant.part (subst (λ l. IsPart c.args.depth (contents_of_all c.args.prefixes.now l c.args.space c.args.depth)) (sym past) (part-none c.args.depth))
