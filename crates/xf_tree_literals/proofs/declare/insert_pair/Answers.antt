use Rattle.std.proofs.Common.{◌≡◌, reverse, sym, subst}
use Rattle.xf_def_forest.specs.Printed.{pair, with_pair}
use Rattle.xf_tree_literals.proofs.declare.insert_pair.Goals as goal

pub returns-in_default : goal.returns-in_default
returns-in_default c =
    let here = subst (λ n. with_pair (pair n c.args.pair.text) (reverse c.deref.result.now) ≡ reverse c.deref.result.now) c.as_str.ensures (c.in_default.ensures c.args.pair.text) in
    sym (subst (λ l. with_pair c.args.pair (reverse l) ≡ reverse l) c.deref.ensures.value here)
