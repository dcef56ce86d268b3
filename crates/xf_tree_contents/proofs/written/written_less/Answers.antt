use Rattle.std.proofs.Common.{◌∙◌, arith}
use Rattle.xf_def_forest.specs.Plant.{written_of}
use Rattle.xf_tree_contents.specs.Seen.{seen_content}
use Rattle.xf_tree_contents.proofs.WrittenLemmas.{less-end, less-start, less-here, less-more, less-stop}
use Rattle.xf_tree_contents.proofs.written.written_less.Goals as goal

pub returns-in_default : goal.returns-in_default
returns-in_default c = less-end c.loop-at.at (written_of (seen_content c.args.first)) (written_of (seen_content c.args.second)) c.in_default.ensures ∙ c.loop-at.invariant

pub returns-in_default-written_byte : goal.returns-in_default-written_byte
returns-in_default-written_byte c =
    less-start c.loop-at.at c.in-Some.other (written_of (seen_content c.args.first)) (written_of (seen_content c.args.second)) c.in_default-written_byte.ensures c.in-Some.ensures ∙ c.loop-at.invariant

pub returns-then-one-other : goal.returns-then-one-other
returns-then-one-other c =
    less-here c.loop-at.at c.in-Some-written_byte.one c.in-Some.other (written_of (seen_content c.args.first)) (written_of (seen_content c.args.second)) c.in-Some-written_byte.ensures c.in-Some.ensures c.if-one-other.true ∙ c.loop-at.invariant

pub loop-at-preserved : goal.loop-at-preserved
loop-at-preserved c =
    less-more c.loop-at.at c.in-Some-written_byte.one c.in-Some.other (written_of (seen_content c.args.first)) (written_of (seen_content c.args.second)) c.in-Some-written_byte.ensures c.in-Some.ensures c.if-one-other.false ∙ c.loop-at.invariant

pub returns : goal.returns
returns c = less-stop c.loop-at.at (written_of (seen_content c.args.first)) (written_of (seen_content c.args.second)) (omega (arith, c.written_len-at-end.ensures, c.loop-at-test.false)) ∙ c.loop-at.invariant
