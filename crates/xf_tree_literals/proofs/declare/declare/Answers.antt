use Rattle.std.proofs.Common.{◌≡◌, reverse, sym, ◌∙◌, subst}
use Rattle.std.proofs.lemmas.Result.{on_ok_weaker}
use Rattle.xf_def_forest.specs.Printed.{space_text, with_prefix}
use Rattle.xf_tree_literals.proofs.PairLemmas.{declared-stays, declared-more, not-false}
use Rattle.xf_tree_literals.proofs.declare.declare.Goals as goal

pub returns-then-not-branch-clause-pairs : goal.returns-then-not-branch-clause-pairs
returns-then-not-branch-clause-pairs c =
    let prefix = c.as_str-prefix.result.now in
    let pairs = reverse c.args.pairs.now.items in
    let known = c.requires prefix (not-false _ (sym c.in_ok-insert.ensures.added ∙ c.if-not-branch.true)) in
    let stays = declared-stays c.args.prefixes.now prefix c.args.name.now.meaning.space pairs (sym c.eq.ensures ∙ c.if-eq.false) known in
    sym (subst (λ p. with_prefix c.args.prefixes.now p c.args.name.now.meaning.space pairs ≡ pairs) c.as_str-prefix.ensures stays)

pub returns-clause-seen : goal.returns-clause-seen
returns-clause-seen c =
    let text = space_text c.args.prefixes.now c.args.name.now.meaning.space in
    on_ok_weaker c.insert_declaration.result
    (declared-more c.args.seen.now.keys c.insert.new.self.keys c.as_str-prefix.result text (reverse c.args.pairs.now.items) (reverse c.insert_declaration.new.pairs.items) c.in_ok-insert.ensures.keys c.requires)
    c.insert_declaration.ensures
