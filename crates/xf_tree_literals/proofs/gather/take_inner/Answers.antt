use Rattle.std.proofs.Common.{◌≡◌, [], ◌∷◌, ◌++◌, true, false, sym, ap, ◌∙◌}
use Rattle.xf_tree_literals.specs.declared.gather.Below.TheVariants as below
use Rattle.xf_tree_literals.specs.Print.{stacked, begins_deeper}
use Rattle.xf_tree_literals.proofs.StackLemmas.{outer-taken, attribute-taken, tree-taken, trees-kept, attributes-kept, outer-all, attributes-left, trees-left}
use Rattle.xf_tree_literals.proofs.gather.take_inner.Goals as goal

pub loop-parts-preserved-in-Continue-1 : goal.loop-parts-preserved-in-Continue-1
loop-parts-preserved-in-Continue-1 g c =
    let w = c.in-Some-default-Attribute in
    let depth = c.args.depth in
    let xs = c.loop-parts.parts.items in
    let ys = c.pop.new.self.items in
    let deep : begins_deeper depth (stacked xs) ≡ true = sym (ap (λ l. begins_deeper depth (stacked l)) c.deref.ensures.value) ∙ sym c.begins_deeper.ensures ∙ c.loop-parts-test.true in
    let is : xs ≡ ys ++ ((w.field-0-0, below.Attribute w.attribute) ∷ []) = w.ensures.items ∙ ap (λ p. ys ++ ((w.field-0-0, p) ∷ [])) w.field-0-1-is in
    record {
      attributes = attribute-taken depth xs ys w.field-0-0 w.attribute c.loop-parts.attributes.items c.push.new.self.items is deep c.in_ok-push-in-Some-default-Attribute.ensures.items ∙ c.loop-parts.invariant.attributes;
      trees = sym (ap (λ l. c.loop-parts.trees.items ++ l) (trees-kept depth xs ys w.field-0-0 w.attribute is deep)) ∙ c.loop-parts.invariant.trees;
      left = sym (outer-taken depth xs ys (w.field-0-0, below.Attribute w.attribute) is deep) ∙ c.loop-parts.invariant.left;
    }

pub loop-parts-preserved : goal.loop-parts-preserved
loop-parts-preserved g c =
    let w = c.in-Some-default-Tree in
    let depth = c.args.depth in
    let xs = c.loop-parts.parts.items in
    let ys = c.pop.new.self.items in
    let deep : begins_deeper depth (stacked xs) ≡ true = sym (ap (λ l. begins_deeper depth (stacked l)) c.deref.ensures.value) ∙ sym c.begins_deeper.ensures ∙ c.loop-parts-test.true in
    let is : xs ≡ ys ++ ((w.field-0-0, below.Tree w.tree) ∷ []) = w.ensures.items ∙ ap (λ p. ys ++ ((w.field-0-0, p) ∷ [])) w.field-0-1-is in
    record {
      attributes = sym (ap (λ l. c.loop-parts.attributes.items ++ l) (attributes-kept depth xs ys w.field-0-0 w.tree is deep)) ∙ c.loop-parts.invariant.attributes;
      trees = tree-taken depth xs ys w.field-0-0 w.tree c.loop-parts.trees.items c.push-in-Some-default-Tree.new.self.items is deep c.in_ok-push-in-Some-default-Tree.ensures.items ∙ c.loop-parts.invariant.trees;
      left = sym (outer-taken depth xs ys (w.field-0-0, below.Tree w.tree) is deep) ∙ c.loop-parts.invariant.left;
    }

pub returns-clause-attributes : goal.returns-clause-attributes
returns-clause-attributes g c =
    let none : begins_deeper c.args.depth (stacked c.loop-parts.parts.items) ≡ false = sym (ap (λ l. begins_deeper c.args.depth (stacked l)) c.deref.ensures.value) ∙ sym c.begins_deeper.ensures ∙ c.loop-parts-test.false in
    attributes-left c.args.depth (stacked c.loop-parts.parts.items) c.loop-parts.attributes.items none ∙ c.loop-parts.invariant.attributes

pub returns-clause-trees : goal.returns-clause-trees
returns-clause-trees g c =
    let none : begins_deeper c.args.depth (stacked c.loop-parts.parts.items) ≡ false = sym (ap (λ l. begins_deeper c.args.depth (stacked l)) c.deref.ensures.value) ∙ sym c.begins_deeper.ensures ∙ c.loop-parts-test.false in
    trees-left c.args.depth (stacked c.loop-parts.parts.items) c.loop-parts.trees.items none ∙ c.loop-parts.invariant.trees

pub returns-clause-left : goal.returns-clause-left
returns-clause-left g c =
    let none : begins_deeper c.args.depth (stacked c.loop-parts.parts.items) ≡ false = sym (ap (λ l. begins_deeper c.args.depth (stacked l)) c.deref.ensures.value) ∙ sym c.begins_deeper.ensures ∙ c.loop-parts-test.false in
    sym (outer-all c.args.depth (stacked c.loop-parts.parts.items) none) ∙ c.loop-parts.invariant.left
