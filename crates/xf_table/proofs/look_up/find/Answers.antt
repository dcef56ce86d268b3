use Rattle.std.proofs.Common.{◌<◌, ◌+◌, ◌-◌, ◌/◌, length, Some, sym, ◌∙◌, ap, arith}
use Rattle.xf_table.specs.Rows.{entries_of}
use Rattle.xf_table.proofs.RowLemmas.{length-entries_of, below_with, above_with, below_same, found_at, found_between, code_at-counts_from}
use Rattle.xf_table.proofs.look_up.find.Goals as goal

pub loop-low-preserved-in-Less : goal.loop-low-preserved-in-Less
loop-low-preserved-in-Less c =
    let rows = c.args.rows.now in
    let same = length-entries_of rows in
    let middle = c.loop-low.low + (c.loop-low.high - c.loop-low.low) / 2 in
    let inside : middle < length rows = omega arith in
    record {
      ordered = omega arith;
      within = c.loop-low.invariant.within;
      below = below_with (entries_of rows) c.args.name.now middle c.requires (omega arith) (sym c.in-Less.ensures);
      above = c.loop-low.invariant.above;
    }

pub loop-low-preserved : goal.loop-low-preserved
loop-low-preserved c =
    let rows = c.args.rows.now in
    let same = length-entries_of rows in
    let middle = c.loop-low.low + (c.loop-low.high - c.loop-low.low) / 2 in
    record {
      ordered = omega arith;
      within = omega arith;
      below = c.loop-low.invariant.below;
      above = λ k m l. above_with (entries_of rows) c.args.name.now middle c.requires (sym c.in-Greater.ensures) k m (omega arith);
    }

pub returns-in-Equal-clause-answer : goal.returns-in-Equal-clause-answer
returns-in-Equal-clause-answer c =
    let rows = c.args.rows.now in
    let same = length-entries_of rows in
    let middle = c.loop-low.low + (c.loop-low.high - c.loop-low.low) / 2 in
    let inside : middle < length (entries_of rows) = omega arith in
    sym (found_at (entries_of rows) c.args.name.now middle inside
    (below_same (entries_of rows) c.args.name.now middle c.requires inside (sym c.in-Equal.ensures)) (sym c.in-Equal.ensures)
    ∙ ap (λ n. Some n) (sym c.code_at.ensures))

pub returns-in-Equal-clause-within : goal.returns-in-Equal-clause-within
returns-in-Equal-clause-within c = λ counts.
    let rows = c.args.rows.now in
    let same = length-entries_of rows in
    let middle = c.loop-low.low + (c.loop-low.high - c.loop-low.low) / 2 in
    let inside : middle < length (entries_of rows) = omega arith in
    omega (arith, c.code_at.ensures, code_at-counts_from (entries_of rows) 0 middle counts inside)

pub returns-clause-answer : goal.returns-clause-answer
returns-clause-answer c =
    let rows = c.args.rows.now in
    let same = length-entries_of rows in
    sym (found_between (entries_of rows) c.args.name.now c.loop-low.low c.loop-low.high c.loop-low-test.false
    c.loop-low.invariant.below (λ k m l. c.loop-low.invariant.above k m (omega arith)))
