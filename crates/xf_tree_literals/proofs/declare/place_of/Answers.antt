use Rattle.std.proofs.Common.{sym, ap, ◌∙◌}
use Rattle.std.specs.Str.{bytes_eq}
use Rattle.xf_name.specs.declared.lit.Pair.{Pair}
use Rattle.xf_tree_literals.proofs.PairLemmas.{place-taken}
use Rattle.xf_tree_literals.proofs.declare.place_of.Goals as goal

pub returns-then-eq : goal.returns-then-eq
returns-then-eq c text =
    let same = ap (λ (q : Pair). bytes_eq c.args.name.now q.name) c.index-pairs-at.is ∙ ap (bytes_eq c.args.name.now) (sym c.as_str-other.ensures) ∙ sym c.eq.ensures ∙ c.if-eq.true in
    place-taken c.args.name.now text c.args.pairs.now c.loop-at.at c.index-pairs-at.result c.loop-at-test.true c.loop-at.invariant.within c.index-pairs-at.is same (c.loop-at.invariant.so_far text)
