use Rattle.std.proofs.Common.{not, sym, ap, ◌∙◌}
use Rattle.xf_def_forest.specs.Plant.{written_of}
use Rattle.xf_tree_contents.specs.Seen.{seen_content}
use Rattle.xf_tree_contents.proofs.AlikeLemmas.{same-written, other-written}
use Rattle.xf_tree_contents.proofs.written.same_written.Goals as goal

pub returns-then-not-written_less : goal.returns-then-not-written_less
returns-then-not-written_less c =
    ap not c.written_less-then-not-written_less.ensures ∙ same-written (written_of (seen_content c.args.first)) (written_of (seen_content c.args.second)) (sym c.written_less.ensures ∙ c.if-not-written_less.true)

pub returns-else-not-written_less : goal.returns-else-not-written_less
returns-else-not-written_less c =
    ap not c.if-not-written_less.false ∙ other-written (written_of (seen_content c.args.first)) (written_of (seen_content c.args.second)) (sym c.written_less.ensures ∙ c.if-not-written_less.false)
