use Rattle.std.proofs.Common.{◌≡◌, ◌∙◌, ◌-◌, ◌++◌, ◌∷◌, [], List, Some, None, sym, subst, arith, rules}
use Rattle.xf_def_forest.specs.declared.bare.Bare.{Bare}
use Rattle.xf_snap.specs.Reading.{tree_at, several}
use Rattle.xf_snap.proofs.SeveralLemmas.{with_front, goes_on, ends, is_done}
use Rattle.xf_snap.proofs.reading.+trees.Goals as goal

pub trees_at-returns-in_default : goal.trees_at-returns-in_default
trees_at-returns-in_default t c =
    let is : tree_at c.args.depth c.loop-left.rest.now ≡ None = search rules in
    sym (ends (tree_at c.args.depth) c.loop-left.trees.items c.loop-left.left c.loop-left.rest.now (several (tree_at c.args.depth) c.args.count c.args.bytes.now) c.loop-left-test.true is c.loop-left.invariant)

pub trees_at-loop-left-preserved : goal.trees_at-loop-left-preserved
trees_at-loop-left-preserved t c =
    let total = several (tree_at c.args.depth) c.args.count c.args.bytes.now in
    let is : tree_at c.args.depth c.loop-left.rest.now ≡ Some (c.in-Some.tree, c.in-Some.behind.now) = search rules in
    let pushed : c.push.new.self.items ≡ c.loop-left.trees.items ++ c.in-Some.tree ∷ [] = search rules in
    subst (λ (items : List Bare). with_front items (several (tree_at c.args.depth) (c.loop-left.left - 1) c.in-Some.behind.now) ≡ total) (sym pushed)
    (goes_on (tree_at c.args.depth) c.loop-left.trees.items c.loop-left.left c.loop-left.rest.now c.in-Some.tree c.in-Some.behind.now total c.loop-left-test.true is c.loop-left.invariant)

pub trees_at-returns : goal.trees_at-returns
trees_at-returns t c =
    let none : c.loop-left.left ≡ 0 = omega (arith, c.loop-left-test.false) in
    (λ i. Some (c.from_vec.ensures i, c.loop-left.rest.now))
    ∙ sym (is_done (tree_at c.args.depth) c.loop-left.trees.items c.loop-left.left c.loop-left.rest.now (several (tree_at c.args.depth) c.args.count c.args.bytes.now) none c.loop-left.invariant)
