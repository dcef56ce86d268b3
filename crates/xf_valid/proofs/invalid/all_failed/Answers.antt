use Rattle.std.proofs.Common.{◌≤◌, length, arith}
use Rattle.xf_def_model.specs.Rules.{scope_of}
use Rattle.xf_binds.specs.Table.{kept_at}
use Rattle.xf_valid.proofs.InvalidLemmas.{failed-more, failed-all}
use Rattle.xf_valid.proofs.invalid.all_failed.Goals as goal

pub loop-at-preserved : goal.loop-at-preserved
loop-at-preserved c = λ functions given.
    let k = kept_at c.args.table.now c.args.model in
    failed-more c.args.tables.now.types (scope_of functions given c.args.tables.now c.args.model) c.args.forest.now.forest.nodes c.args.roots.now k k.entries c.loop-at.at c.loop-at.found c.push_failed.new.found
    (c.loop-at.invariant functions given) (c.in_ok-push_failed.ensures functions given)

pub returns : goal.returns
returns c = λ functions given.
    let k = kept_at c.args.table.now c.args.model in
    let past : length k.entries ≤ c.loop-at.at = omega (arith, c.len-count.ensures, c.loop-at-test.false) in
    failed-all c.args.tables.now.types (scope_of functions given c.args.tables.now c.args.model) c.args.forest.now.forest.nodes c.args.roots.now k k.entries c.loop-at.at c.loop-at.found (c.loop-at.invariant functions given) past
