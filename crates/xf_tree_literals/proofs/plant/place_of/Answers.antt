use Rattle.std.proofs.Common.{sym, ap, ◌∙◌}
use Rattle.xf_def_forest.specs.Plant.{is_less, written_of}
use Rattle.xf_tree_contents.specs.Seen.{seen_content}
use Rattle.xf_tree_literals.proofs.WrittenLemmas.{ends-at}
use Rattle.xf_tree_literals.proofs.plant.place_of.Goals as goal

pub returns-then-not-written_less-clause-first : goal.returns-then-not-written_less-clause-first
returns-then-not-written_less-clause-first c =
    ends-at c.args.content.now c.index-sorted-at.result c.args.sorted.now c.loop-at.at c.loop-at-test.true c.loop-at.invariant.within c.index-sorted-at.is (
    ap (λ x. is_less (written_of x) (written_of c.args.content.now)) (sym c.lent.ensures)
    ∙ ap (λ y. is_less (written_of (seen_content c.lent.result)) (written_of y)) (sym c.lent-in-loop-at.ensures)
    ∙ sym c.written_less.ensures ∙ c.if-not-written_less.true)
