use Rattle.std.proofs.Common.{◌≡◌, ◌+◌, length, take, sym, ap, ◌∙◌, arith}
use Rattle.std.specs.Prelude.{slice_get}
use Rattle.xf_def_model.specs.Settled.{calculates}
use Rattle.xf_binds.specs.Table.{kept_at}
use Rattle.xf_binds.specs.Placed.{is_calculate_at}
use Rattle.xf_binds.proofs.Placings.{counted, one_if, plus-none}
use Rattle.xf_recalc.proofs.recalculation.calculate_count.Goals as goal
use Rattle.xf_recalc.proofs.recalculation.calculate_count.Goals.{then-is_calculate, else-is_calculate}

pub loop-at-preserved : goal.loop-at-preserved
loop-at-preserved c =
    let entries = (kept_at c.args.table.now c.args.model).entries in
    let old = c.loop-at.invariant in
    let here : c.is_calculate.result ≡ is_calculate_at (slice_get entries c.loop-at.at) = c.is_calculate.ensures ∙ ap is_calculate_at c.entry.ensures in
    elim c.if-is_calculate.branch [
      | then-is_calculate w ↦
          let more = counted entries c.loop-at.at ∙ ap (λ b. length (calculates (take c.loop-at.at entries)) + one_if b) (sym here ∙ w.if-is_calculate.true) in
          record { so_far = w.count-is ∙ ap (λ n. n + 1) old.so_far ∙ sym more; few = let f = old.few in let i = w.count-is in omega (arith, f, i) }
      | else-is_calculate w ↦
          let more = counted entries c.loop-at.at ∙ ap (λ b. length (calculates (take c.loop-at.at entries)) + one_if b) (sym here ∙ w.if-is_calculate.false) in
          record { so_far = w.count-is ∙ old.so_far ∙ sym (more ∙ plus-none (length (calculates (take c.loop-at.at entries)))); few = let f = old.few in let i = w.count-is in omega (arith, f, i) }
    ]
