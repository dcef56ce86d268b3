use Rattle.std.proofs.Common.{ℕ, ◌≡◌, ◌≤◌, ◌<◌, ◌-◌, get_or, ◌++◌, true, Fits-le, ap, arith, length, refl, subst, sym, take, ◌∙◌}
use Rattle.std.specs.Prelude.{◌&&◌, All}
use Rattle.std.specs.List.{flat_map, list_all}
use Rattle.std.proofs.lemmas.Bool.{and_from}
use Rattle.std.proofs.lemmas.List.{take_all}
use Rattle.std.proofs.lemmas.List.Elements.{All-get_or}
use Rattle.xf_def_forest.specs.declared.bare.Bare.{Bare}
use Rattle.xf_snap.specs.Numbers.{two, four}
use Rattle.xf_snap.specs.Spelling.{name_bytes, attribute_bytes, tree_bytes}
use Rattle.xf_snap.specs.Within.{is_fit, is_typed, is_typed_name, is_typed_attribute, tree_nodes}
use Rattle.xf_snap.proofs.PutLemmas.{parts_of, counts_of}
use Rattle.xf_snap.proofs.TreeLemmas.{bytes-out, typed-out}
use Rattle.xf_snap.proofs.writing.+put.Goals as goal

pub put_element-overflow_cast-len : goal.put_element-overflow_cast-len
put_element-overflow_cast-len n c =
    let few = (counts_of c.args.element.now c.requires.nodes).children in
    let len = c.len.ensures in
    omega (arith, few, len)

pub put_element-put_tree-requires : goal.put_element-put_tree-requires
put_element-put_tree-requires n c =
    let e = c.args.element.now in
    let t = c.child-item.result in
    let among = ap length c.as_slice-child-items.ensures in
    let child = sym (c.child-item.is ∙ ap (λ ts. get_or ts c.loop-child.child-index t) c.as_slice-child-items.ensures) in
    let inside : c.loop-child.child-index < length e.children = omega (arith, among, c.loop-child-test.true) in
    let fit = subst (λ x. is_fit x (c.args.depth - 1) ≡ true) child (All-get_or (λ x. is_fit x (c.args.depth - 1) ≡ true) e.children c.loop-child.child-index t inside (parts_of e c.args.depth c.requires.fit).children) in
    let few = subst (λ x. tree_nodes x ≤ 65536) child (All-get_or (λ x. tree_nodes x ≤ 65536) e.children c.loop-child.child-index t inside (counts_of e c.requires.nodes).each) in
    let some = (parts_of e c.args.depth c.requires.fit).some in
    (omega (arith, c.decreases, some), (fit, few))

pub put_element-returns-clause-put : goal.put_element-returns-clause-put
put_element-returns-clause-put n c =
    let e = c.args.element.now in
    let among = ap length c.as_slice-child-items.ensures in
    let all = take_all c.loop-child.child-index e.children (omega (arith, among, c.loop-child-test.false)) in
    c.loop-child.invariant.put
    ∙ ap (λ ts. c.args.bytes.now.items ++ (name_bytes e.name ++ (two (length e.attributes) ++ (flat_map attribute_bytes e.attributes ++ (four (length e.children) ++ flat_map tree_bytes ts))))) all
    ∙ ap (λ l. c.args.bytes.now.items ++ l) (sym (bytes-out e))

pub put_element-returns-clause-typed : goal.put_element-returns-clause-typed
put_element-returns-clause-typed n c =
    let e = c.args.element.now in
    let among = ap length c.as_slice-child-items.ensures in
    let all = take_all c.loop-child.child-index e.children (omega (arith, among, c.loop-child-test.false)) in
    let attributes = ap (list_all is_typed_attribute) (sym c.as_slice.ensures) ∙ c.in_ok-put_attributes.ensures.typed in
    let children = ap (list_all is_typed) (sym all) ∙ c.loop-child.invariant.typed in
    typed-out e
    ∙ and_from (is_typed_name e.name && list_all is_typed_attribute e.attributes) (list_all is_typed e.children)
    (and_from (is_typed_name e.name) (list_all is_typed_attribute e.attributes) c.in_ok-put_name.ensures.typed attributes) children
