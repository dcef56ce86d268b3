use Rattle.std.proofs.Common.{◌≡◌, Bool, true, false, not, ◌&&◌, refl, sym, ap, ◌∙◌}
use Rattle.xf_def_forest.specs.Forest.{has_number}
use Rattle.xf_def_forest.specs.Texts.{is_attribute_at}
use Rattle.xf_def_forest.specs.Visit.{visits, parent_of}
use Rattle.xf_undo.specs.Children.{is_number}
use Rattle.xf_undo.proofs.ChildLemmas.{child-test, child-none, not-live}
use Rattle.xf_undo.proofs.entry.is_child.Goals as goal

and-false : (b : Bool) → (b && false) ≡ false
and-false true = refl
and-false false = refl

and-true : (b : Bool) → (b && true) ≡ b
and-true true = refl
and-true false = refl

pub returns-then-is_attribute : goal.returns-then-is_attribute
returns-then-is_attribute c =
    let nodes = c.args.forest.now.forest.nodes in
    let m = c.args.child.number in
    let n = c.args.node.number in
    let is : is_attribute_at m nodes ≡ true = sym c.is_attribute.ensures ∙ c.if-is_attribute.true in
    sym (child-test m n nodes c.requires ∙ ap (λ b. is_number (parent_of m (visits nodes)) n && not b) is ∙ and-false (is_number (parent_of m (visits nodes)) n))

pub returns-then-not-is_live : goal.returns-then-not-is_live
returns-then-not-is_live c =
    let nodes = c.args.forest.now.forest.nodes in
    sym (child-none c.args.child.number c.args.node.number nodes (not-live (has_number c.args.child.number nodes) c.is_live.result c.is_live.ensures.1 c.if-not-is_live.true))

pub returns : goal.returns
returns c =
    let nodes = c.args.forest.now.forest.nodes in
    let m = c.args.child.number in
    let n = c.args.node.number in
    let other : is_attribute_at m nodes ≡ false = sym c.is_attribute.ensures ∙ c.if-is_attribute.false in
    c.is_below.ensures ∙ ap (λ o. is_number o n) c.parent.ensures
    ∙ sym (child-test m n nodes c.requires ∙ ap (λ b. is_number (parent_of m (visits nodes)) n && not b) other ∙ and-true (is_number (parent_of m (visits nodes)) n))
