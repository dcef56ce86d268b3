use Rattle.std.proofs.Common.{◌≡◌, suc, drop, map}
use Rattle.xf_def_ui.specs.Index.{last_from, later_or}
use Rattle.xf_repeat.proofs.rule.last_added.Given as goal

abbrev pub invariant-loop-row : goal.invariant-loop-row
invariant-loop-row l = record {
  counted : l.index ≡ l.row-index;
  found : later_or (last_from (suc l.row-index) l.added (map (λ n. n.number) (drop l.row-index l.row-items))) l.found ≡ last_from 1 l.added (map (λ n. n.number) l.row-items);
}
