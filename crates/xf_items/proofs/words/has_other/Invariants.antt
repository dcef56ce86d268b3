use Rattle.std.proofs.Common.{◌≡◌, ◌≤◌, [], drop}
use Rattle.std.specs.List.{list_any}
use Rattle.xf_items.specs.Words.{is_other, is_word, parts_after}
use Rattle.xf_items.proofs.WordLaws.{part_to}
use Rattle.xf_items.proofs.words.has_other.Given as goal

abbrev pub invariant-loop-at : goal.invariant-loop-at
invariant-loop-at l = record {
  order : l.start ≤ l.at;
  rest : list_any (is_word (is_other l.items)) (parts_after (part_to l.text l.start l.at) (drop l.at l.text)) ≡ list_any (is_word (is_other l.items)) (parts_after [] l.text);
}
