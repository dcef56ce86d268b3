use Rattle.std.proofs.Common.{◌≡◌, [], ◌++◌, map, drop}
use Rattle.xf_form_refusals.specs.Rows.{shown}
use Rattle.xf_form.specs.Counts.{counted, counts_from, counts_after}
use Rattle.xf_form.proofs.counts.numbers_of.Given as goal

abbrev pub invariant-loop-row : goal.invariant-loop-row
invariant-loop-row l =
    let left = map shown (drop l.row-index l.rows) in
    record {
      before_each : l.before.items ++ counts_from l.whole left ≡ counts_from (counted []) (map shown l.rows);
      whole : counts_after l.whole left ≡ counts_after (counted []) (map shown l.rows);
    }
