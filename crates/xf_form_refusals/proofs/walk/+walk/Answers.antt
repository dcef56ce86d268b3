use Rattle.std.proofs.Common.{◌≡◌, ◌∙◌, ap, map, length}
use Rattle.std.proofs.lemmas.List.{length-map}
use Rattle.xf_form_refusals.specs.Rows.{shown}
use Rattle.xf_form_refusals.specs.Standing.{space_below}
use Rattle.xf_form_refusals.proofs.RowLemmas.{map-push, put_is}
use Rattle.xf_form_refusals.proofs.WalkLemmas.{element_put, tag_is, inside_is, head_is}
use Rattle.xf_form_refusals.proofs.walk.+walk.Goals as goal

pub add_element-returns : goal.add_element-returns
add_element-returns t c =
    let b = c.args.prefixes.now in
    let e = c.args.element.now in
    let s = c.args.standing in
    let rows = c.args.rows.now.items in
    let n = length rows in
    let place_is : c.len-place.result ≡ n = c.len-place.ensures ∙ c.args.rows.now.ok.0 in
    let spaced : c.space_below-space.result ≡ space_below b s.space e.attributes = c.space_below-space.ensures ∙ ap (space_below b s.space) c.as_slice.ensures in
    let tagged = tag_is b e s c.in_ok-tag.tag c.as_str.result.now c.space_below-space.result c.in_ok-tag.ensures c.as_str.ensures spaced in
    element_put b e s c.args.at n (map shown rows) (map shown c.push.new.self.items) (map shown c.add_children.new.rows.items) (map shown c.put.new.rows.items) _ _ c.in_ok-parts.parts.items c.as_slice-2.result.now c.below-inside.result
    (length-map rows shown) (ap (map shown) c.in_ok-push.ensures.items ∙ map-push shown rows _) c.as_slice-2.ensures
    (inside_is b e s c.below-inside.result c.in_ok-tag.tag c.space_below-space.result c.in_ok-small.field-0 n c.below-inside.ensures tagged spaced (c.in_ok-small.ensures ∙ place_is)) c.in_ok-parts.ensures
    (head_is b e s c.args.at c.in_ok-parts.parts.items c.in_ok-tag.tag tagged)
    (put_is shown c.add_children.new.rows.items c.put.new.rows.items c.len-place.result n _ c.put.ensures place_is)
