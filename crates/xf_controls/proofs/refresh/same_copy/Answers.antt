use Rattle.std.proofs.Common.{sym, ◌∙◌}
use Rattle.xf_controls.specs.Seen.{seen_copy}
use Rattle.xf_controls.proofs.ToldLaws.{given-at}
use Rattle.xf_controls.proofs.refresh.same_copy.Goals as goal

pub returns-then-is_same : goal.returns-then-is_same
returns-then-is_same c =
    given-at c.args.before.now.copies.now (seen_copy c.args.copy.now) c.args.at c.index-copies-at.result c.index-copies-at-then-is_same.result (sym c.requires.rising ∙ c.if-rising.true) c.if-at-copies.true
    c.index-copies-at.is c.index-copies-at-then-is_same.is (sym c.is_same.ensures ∙ c.if-is_same.true)
