use Rattle.std.proofs.Common.{◌≡◌, ◌+◌, ◌≤◌, ◌++◌, drop}
use Rattle.std.specs.Prelude.{vec_len}
use Rattle.xf_report.specs.Named.{numbers_from}
use Rattle.xf_report.proofs.names.numbers_of.Given as goal

abbrev pub invariant-loop-element : goal.invariant-loop-element
invariant-loop-element l = record {
  so_far : l.numbers.items ++ numbers_from l.number (drop l.element-index l.form.elements) ≡ numbers_from 1 l.form.elements;
  few : l.number ≤ l.element-index + 1;
  as_many : vec_len l.numbers ≡ l.element-index;
}
