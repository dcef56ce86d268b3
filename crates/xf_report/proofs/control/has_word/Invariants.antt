use Rattle.std.proofs.Common.{◌≡◌, ◌≤◌, [], drop}
use Rattle.std.specs.List.{list_any}
use Rattle.xf_report.specs.Controls.{is_word, parts_after}
use Rattle.xf_report.proofs.WordLemmas.{part_to}
use Rattle.xf_report.proofs.control.has_word.Given as goal

abbrev pub invariant-loop-at : goal.invariant-loop-at
invariant-loop-at l = record {
  order : l.start ≤ l.at;
  rest : list_any (is_word l.word) (parts_after (part_to l.value l.start l.at) (drop l.at l.value)) ≡ list_any (is_word l.word) (parts_after [] l.value);
}
