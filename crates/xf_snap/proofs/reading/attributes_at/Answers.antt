use Rattle.std.proofs.Common.{◌≡◌, ◌∙◌, ◌-◌, ◌++◌, ◌∷◌, [], List, Some, None, sym, subst, arith, rules}
use Rattle.xf_def_forest.specs.declared.bare.BareAttribute.{BareAttribute}
use Rattle.xf_snap.specs.Reading.{attribute_at, several}
use Rattle.xf_snap.proofs.SeveralLemmas.{with_front, goes_on, ends, is_done}
use Rattle.xf_snap.proofs.reading.attributes_at.Goals as goal

pub returns-in_default : goal.returns-in_default
returns-in_default c =
    let is : attribute_at c.loop-left.rest.now ≡ None = search rules in
    sym (ends attribute_at c.loop-left.attributes.items c.loop-left.left c.loop-left.rest.now (several attribute_at c.args.count c.args.bytes.now) c.loop-left-test.true is c.loop-left.invariant)

pub loop-left-preserved : goal.loop-left-preserved
loop-left-preserved c =
    let total = several attribute_at c.args.count c.args.bytes.now in
    let is : attribute_at c.loop-left.rest.now ≡ Some (c.in-Some.attribute, c.in-Some.behind.now) = search rules in
    let pushed : c.push.new.self.items ≡ c.loop-left.attributes.items ++ c.in-Some.attribute ∷ [] = search rules in
    subst (λ (items : List BareAttribute). with_front items (several attribute_at (c.loop-left.left - 1) c.in-Some.behind.now) ≡ total) (sym pushed)
    (goes_on attribute_at c.loop-left.attributes.items c.loop-left.left c.loop-left.rest.now c.in-Some.attribute c.in-Some.behind.now total c.loop-left-test.true is c.loop-left.invariant)

pub returns : goal.returns
returns c =
    let none : c.loop-left.left ≡ 0 = omega (arith, c.loop-left-test.false) in
    (λ i. Some (c.from_vec.ensures i, c.loop-left.rest.now))
    ∙ sym (is_done attribute_at c.loop-left.attributes.items c.loop-left.left c.loop-left.rest.now (several attribute_at c.args.count c.args.bytes.now) none c.loop-left.invariant)
